-- What every public contract determines, of the functions that take and give plain values or are shown what they read: the result.
-- Each is cited with what its callers learn from its contract (`Learnt`). Those that change what they are lent stand in Lent.
-- Assumes nothing.
use Prim.Native.Nat.{ℕ}
use native.Mathlib.Omega.{arith}
use mathlib.Core.Path.{◌≡◌, ◌∙◌, refl, sym, ap}
use mathlib.Core.Bool.{true, true≢false}
use Rattle.std.proofs.Common.{Result, Ok, Err}
use Rattle.lists.specs.Compare.{outside}
use Rattle.reader.specs.declared.Fault.{Fault}
use Rattle.reader.specs.declared.Kind.{Kind}
use Rattle.reader.specs.declared.Kind.TheVariants.{Sample, Frame, Reading}
use Rattle.reader.specs.Kinds.{code_of, Decodes}
use Rattle.determined.proofs.Lent.{agree}
use Rattle.refusal.proofs.U8FromRefusal.from.Reads as refusal-number
use Rattle.settings.proofs.Settings.ov_level.Reads as settings-ov-level
use Rattle.settings.proofs.Settings.ov_hysteresis.Reads as settings-ov-hysteresis
use Rattle.settings.proofs.Settings.ov_release.Reads as settings-ov-release
use Rattle.settings.proofs.Settings.ov_delay.Reads as settings-ov-delay
use Rattle.settings.proofs.Settings.uv_level.Reads as settings-uv-level
use Rattle.settings.proofs.Settings.uv_hysteresis.Reads as settings-uv-hysteresis
use Rattle.settings.proofs.Settings.uv_release.Reads as settings-uv-release
use Rattle.settings.proofs.Settings.ocd_delay.Reads as settings-ocd-delay
use Rattle.settings.proofs.Settings.ocd_level.Reads as settings-ocd-level
use Rattle.settings.proofs.Settings.uv_delay.Reads as settings-uv-delay
use Rattle.settings.proofs.Settings.scd_level.Reads as settings-scd-level
use Rattle.settings.proofs.Settings.crossed.Reads as settings-crossed
use Rattle.settings.proofs.Settings.scd_delay.Reads as settings-scd-delay
use Rattle.settings.proofs.Settings.byte.Reads as settings-byte
use Rattle.settings.proofs.Settings.with_byte.Reads as settings-with-byte
use Rattle.settings.proofs.Settings.same.Reads as settings-same
use Rattle.settings.proofs.Settings.allows.Reads as settings-allows
use Rattle.lists.proofs.mark_at.Reads as lists-mark-at
use Rattle.runs.proofs.advance.Reads as runs-advance
use Rattle.runs.proofs.has_stood.Reads as runs-has-stood
use Rattle.cells.proofs.sweep.Reads as cells-sweep
use Rattle.cells.proofs.span_of.Reads as cells-span-of
use Rattle.cells.proofs.calm.Reads as cells-calm
use Rattle.cells.proofs.fresh_cells.Reads as cells-fresh-cells
use Rattle.cells.proofs.lower_to.Reads as cells-lower-to
use Rattle.cells.proofs.lowest_of.Reads as cells-lowest-of
use Rattle.cells.proofs.cell_count.Reads as cells-cell-count
use Rattle.garden.proofs.grow.Reads as garden-grow
use Rattle.journal.proofs.blank.Reads as journal-blank
use Rattle.journal.proofs.Journal.listed.Reads as journal-listed
use Rattle.board.proofs.PlanFromU32.from.Reads as board-plan
use Rattle.latches.proofs.latches_of.Reads as latches-latches-of
use Rattle.latches.proofs.any_latch.Reads as latches-any-latch
use Rattle.latches.proofs.any_up.Reads as latches-any-up
use Rattle.latches.proofs.chg_on.Reads as latches-chg-on
use Rattle.latches.proofs.dsg_on.Reads as latches-dsg-on
use Rattle.latches.proofs.byte_of.Reads as latches-byte-of
use Rattle.latches.proofs.status_of.Reads as latches-status-of
use Rattle.latches.proofs.latch_next.Reads as latches-latch-next
use Rattle.latches.proofs.risen.Reads as latches-risen
use Rattle.latches.proofs.control_next.Reads as latches-control-next
use Rattle.latches.proofs.tallies_next.Reads as latches-tallies-next
use Rattle.board.proofs.fresh_board.Reads as board-fresh-board
use Rattle.frame.proofs.check_all.Reads as frame-check-all
use Rattle.frame.proofs.check_byte.Reads as frame-check-byte
use Rattle.frame.proofs.take_apart.Reads as frame-take-apart
use Rattle.held.proofs.Stack.open.Reads as held-open
use Rattle.board.proofs.bad_board.Reads as board-bad-board
use Rattle.board.proofs.bad_plan.Reads as board-bad-plan
use Rattle.board.proofs.stand_alone.Reads as board-stand-alone
use Rattle.board.proofs.host.Reads as board-host
use Rattle.board.proofs.garden_plan.Reads as board-garden-plan
use Rattle.board.proofs.is_host.Reads as board-is-host
use Rattle.board.proofs.is_garden.Reads as board-is-garden
use Rattle.board.proofs.Board.may_dsg.Reads as board-may-dsg
use Rattle.board.proofs.Board.may_chg.Reads as board-may-chg
use Rattle.board.proofs.Board.status.Reads as board-status
use Rattle.board.proofs.cleared.Reads as board-cleared
use Rattle.stack.proofs.bad_plans.Reads as stack-bad-plans
use Rattle.reader.proofs.Told.{step-once, read-once}
use Rattle.reader.proofs.U8FromFault.from.Reads as reader-fault
use Rattle.reader.proofs.KindTryFromU8.try_from.Reads as reader-kind
use Rattle.reader.proofs.byte_at.Reads as reader-byte-at
use Rattle.reader.proofs.two_at.Reads as reader-two-at
use Rattle.reader.proofs.four_at.Reads as reader-four-at
use Rattle.reader.proofs.act_step.Reads as reader-act-step
use Rattle.reader.proofs.read_back.Reads as reader-read-back
use Rattle.recorder.proofs.note_other.Reads as recorder-note-other
use Rattle.adomvik.proofs.ReadingFromWhole.from.Reads as adomvik-reading
use Rattle.adomvik.proofs.UpFromLine.from.Reads as adomvik-up
use Rattle.adomvik.proofs.adomvik_note_other.Reads as adomvik-note-other
use Rattle.held.proofs.Stack.row_count.Reads as held-row-count
use Rattle.held.proofs.Stack.read.Reads as held-read
use Rattle.held.proofs.Stack.none.Reads as held-none
use Rattle.session.proofs.Session.new.Reads as session-new
use Rattle.lines.proofs.line_at.Reads as lines-line-at
use Rattle.lines.proofs.KindFromU8.from.Reads as lines-kind
use Rattle.lines.proofs.Cutter.new.Reads as lines-new
use Rattle.lines.proofs.Cutter.kept_len.Reads as lines-kept-len
use Rattle.lines.proofs.line_end.Reads as lines-line-end

-- ---- refusal
pub refusal-number-one : (κs : _) (a : _) (r t : _) (s u : _) → refusal-number.Learnt κs a r s → refusal-number.Learnt κs a t u → r ≡ t
refusal-number-one κs a r t s u = agree

-- ---- settings
pub settings-ov-level-one : (κs : _) (a : _) (r t : _) (s u : _) → settings-ov-level.Learnt κs a r s → settings-ov-level.Learnt κs a t u → r ≡ t
settings-ov-level-one κs a r t s u = agree

pub settings-ov-hysteresis-one : (κs : _) (a : _) (r t : _) (s u : _) → settings-ov-hysteresis.Learnt κs a r s → settings-ov-hysteresis.Learnt κs a t u → r ≡ t
settings-ov-hysteresis-one κs a r t s u = agree

pub settings-ov-release-one : (κs : _) (a : _) (r t : _) (s u : _) → settings-ov-release.Learnt κs a r s → settings-ov-release.Learnt κs a t u → r ≡ t
settings-ov-release-one κs a r t s u = agree

pub settings-ov-delay-one : (κs : _) (a : _) (r t : _) (s u : _) → settings-ov-delay.Learnt κs a r s → settings-ov-delay.Learnt κs a t u → r ≡ t
settings-ov-delay-one κs a r t s u = agree

pub settings-uv-level-one : (κs : _) (a : _) (r t : _) (s u : _) → settings-uv-level.Learnt κs a r s → settings-uv-level.Learnt κs a t u → r ≡ t
settings-uv-level-one κs a r t s u = agree

pub settings-uv-hysteresis-one : (κs : _) (a : _) (r t : _) (s u : _) → settings-uv-hysteresis.Learnt κs a r s → settings-uv-hysteresis.Learnt κs a t u → r ≡ t
settings-uv-hysteresis-one κs a r t s u = agree

pub settings-uv-release-one : (κs : _) (a : _) (r t : _) (s u : _) → settings-uv-release.Learnt κs a r s → settings-uv-release.Learnt κs a t u → r ≡ t
settings-uv-release-one κs a r t s u = agree

pub settings-ocd-delay-one : (κs : _) (a : _) (r t : _) (s u : _) → settings-ocd-delay.Learnt κs a r s → settings-ocd-delay.Learnt κs a t u → r ≡ t
settings-ocd-delay-one κs a r t s u = agree

pub settings-ocd-level-one : (κs : _) (a : _) (r t : _) (s u : _) → settings-ocd-level.Learnt κs a r s → settings-ocd-level.Learnt κs a t u → r ≡ t
settings-ocd-level-one κs a r t s u = agree

pub settings-uv-delay-one : (κs : _) (a : _) (r t : _) (s u : _) → settings-uv-delay.Learnt κs a r s → settings-uv-delay.Learnt κs a t u → r ≡ t
settings-uv-delay-one κs a r t s u = agree

pub settings-scd-level-one : (κs : _) (a : _) (r t : _) (s u : _) → settings-scd-level.Learnt κs a r s → settings-scd-level.Learnt κs a t u → r ≡ t
settings-scd-level-one κs a r t s u = agree

pub settings-crossed-one : (κs : _) (a : _) (r t : _) (s u : _) → settings-crossed.Learnt κs a r s → settings-crossed.Learnt κs a t u → r ≡ t
settings-crossed-one κs a r t s u = agree

pub settings-scd-delay-one : (κs : _) (a : _) (r t : _) (s u : _) → settings-scd-delay.Learnt κs a r s → settings-scd-delay.Learnt κs a t u → r ≡ t
settings-scd-delay-one κs a r t s u = agree

pub settings-byte-one : (κs : _) (a : _) (r t : _) (s u : _) → settings-byte.Learnt κs a r s → settings-byte.Learnt κs a t u → r ≡ t
settings-byte-one κs a r t s u = agree

pub settings-with-byte-one : (κs : _) (a : _) (r t : _) (s u : _) → settings-with-byte.Learnt κs a r s → settings-with-byte.Learnt κs a t u → r ≡ t
settings-with-byte-one κs a r t s u = agree

pub settings-same-one : (κs : _) (a : _) (r t : _) (s u : _) → settings-same.Learnt κs a r s → settings-same.Learnt κs a t u → r ≡ t
settings-same-one κs a r t s u = agree

pub settings-allows-one : (κs : _) (a : _) (r t : _) (s u : _) → settings-allows.Learnt κs a r s → settings-allows.Learnt κs a t u → r ≡ t
settings-allows-one κs a r t s u = agree

-- ---- lists
pub lists-mark-at-one : (κs : _) (a : _) (r t : _) (s u : _) → lists-mark-at.Learnt κs a r s → lists-mark-at.Learnt κs a t u → r ≡ t
lists-mark-at-one κs a r t s u = agree

-- ---- runs
pub runs-advance-one : (κs : _) (a : _) (r t : _) (s u : _) → runs-advance.Learnt κs a r s → runs-advance.Learnt κs a t u → r ≡ t
runs-advance-one κs a r t s u = agree

pub runs-has-stood-one : (κs : _) (a : _) (r t : _) (s u : _) → runs-has-stood.Learnt κs a r s → runs-has-stood.Learnt κs a t u → r ≡ t
runs-has-stood-one κs a r t s u = agree

-- ---- cells
pub cells-sweep-one : (κs : _) (a : _) (r t : _) (s u : _) → cells-sweep.Learnt κs a r s → cells-sweep.Learnt κs a t u → r ≡ t
cells-sweep-one κs a r t s u = agree

pub cells-span-of-one : (κs : _) (a : _) (r t : _) (s u : _) → cells-span-of.Learnt κs a r s → cells-span-of.Learnt κs a t u → r ≡ t
cells-span-of-one κs a r t s u = agree

pub cells-calm-one : (κs : _) (a : _) (r t : _) (s u : _) → cells-calm.Learnt κs a r s → cells-calm.Learnt κs a t u → r ≡ t
cells-calm-one κs a r t s u = agree

pub cells-lower-to-one : (κs : _) (a : _) (r t : _) (s u : _) → cells-lower-to.Learnt κs a r s → cells-lower-to.Learnt κs a t u → r ≡ t
cells-lower-to-one κs a r t s u = agree

pub cells-lowest-of-one : (κs : _) (a : _) (r t : _) (s u : _) → cells-lowest-of.Learnt κs a r s → cells-lowest-of.Learnt κs a t u → r ≡ t
cells-lowest-of-one κs a r t s u = agree

pub cells-fresh-cells-one : (κs : _) (a : _) (r t : _) (s u : _) → cells-fresh-cells.Learnt κs a r s → cells-fresh-cells.Learnt κs a t u → r ≡ t
cells-fresh-cells-one κs a r t s u = agree

pub cells-cell-count-one : (κs : _) (a : _) (r t : _) (s u : _) → cells-cell-count.Learnt κs a r s → cells-cell-count.Learnt κs a t u → r ≡ t
cells-cell-count-one κs a r t s u = agree

pub garden-grow-one : (κs : _) (a : _) (r t : _) (s u : _) → garden-grow.Learnt κs a r s → garden-grow.Learnt κs a t u → r ≡ t
garden-grow-one κs a r t s u = agree

pub journal-blank-one : (κs : _) (a : _) (r t : _) (s u : _) → journal-blank.Learnt κs a r s → journal-blank.Learnt κs a t u → r ≡ t
journal-blank-one κs a r t s u = agree

pub journal-listed-one : (κs : _) (a : _) (r t : _) (s u : _) → journal-listed.Learnt κs a r s → journal-listed.Learnt κs a t u → r ≡ t
journal-listed-one κs a r t s u = agree

-- ---- latches
pub latches-latches-of-one : (κs : _) (a : _) (r t : _) (s u : _) → latches-latches-of.Learnt κs a r s → latches-latches-of.Learnt κs a t u → r ≡ t
latches-latches-of-one κs a r t s u = agree

pub latches-any-latch-one : (κs : _) (a : _) (r t : _) (s u : _) → latches-any-latch.Learnt κs a r s → latches-any-latch.Learnt κs a t u → r ≡ t
latches-any-latch-one κs a r t s u = agree

pub latches-any-up-one : (κs : _) (a : _) (r t : _) (s u : _) → latches-any-up.Learnt κs a r s → latches-any-up.Learnt κs a t u → r ≡ t
latches-any-up-one κs a r t s u = agree

pub latches-chg-on-one : (κs : _) (a : _) (r t : _) (s u : _) → latches-chg-on.Learnt κs a r s → latches-chg-on.Learnt κs a t u → r ≡ t
latches-chg-on-one κs a r t s u = agree

pub latches-dsg-on-one : (κs : _) (a : _) (r t : _) (s u : _) → latches-dsg-on.Learnt κs a r s → latches-dsg-on.Learnt κs a t u → r ≡ t
latches-dsg-on-one κs a r t s u = agree

pub latches-byte-of-one : (κs : _) (a : _) (r t : _) (s u : _) → latches-byte-of.Learnt κs a r s → latches-byte-of.Learnt κs a t u → r ≡ t
latches-byte-of-one κs a r t s u = agree

pub latches-status-of-one : (κs : _) (a : _) (r t : _) (s u : _) → latches-status-of.Learnt κs a r s → latches-status-of.Learnt κs a t u → r ≡ t
latches-status-of-one κs a r t s u = agree

pub latches-latch-next-one : (κs : _) (a : _) (r t : _) (s u : _) → latches-latch-next.Learnt κs a r s → latches-latch-next.Learnt κs a t u → r ≡ t
latches-latch-next-one κs a r t s u = agree

pub latches-risen-one : (κs : _) (a : _) (r t : _) (s u : _) → latches-risen.Learnt κs a r s → latches-risen.Learnt κs a t u → r ≡ t
latches-risen-one κs a r t s u = agree

pub latches-control-next-one : (κs : _) (a : _) (r t : _) (s u : _) → latches-control-next.Learnt κs a r s → latches-control-next.Learnt κs a t u → r ≡ t
latches-control-next-one κs a r t s u = agree

pub latches-tallies-next-one : (κs : _) (a : _) (r t : _) (s u : _) → latches-tallies-next.Learnt κs a r s → latches-tallies-next.Learnt κs a t u → r ≡ t
latches-tallies-next-one κs a r t s u = agree

-- ---- board
pub board-bad-board-one : (κs : _) (a : _) (r t : _) (s u : _) → board-bad-board.Learnt κs a r s → board-bad-board.Learnt κs a t u → r ≡ t
board-bad-board-one κs a r t s u = agree

pub board-bad-plan-one : (κs : _) (a : _) (r t : _) (s u : _) → board-bad-plan.Learnt κs a r s → board-bad-plan.Learnt κs a t u → r ≡ t
board-bad-plan-one κs a r t s u = agree

pub board-plan-one : (κs : _) (a : _) (r t : _) (s u : _) → board-plan.Learnt κs a r s → board-plan.Learnt κs a t u → r ≡ t
board-plan-one κs a r t s u = agree

pub board-stand-alone-one : (κs : _) (a : _) (r t : _) (s u : _) → board-stand-alone.Learnt κs a r s → board-stand-alone.Learnt κs a t u → r ≡ t
board-stand-alone-one κs a r t s u = agree

pub board-host-one : (κs : _) (a : _) (r t : _) (s u : _) → board-host.Learnt κs a r s → board-host.Learnt κs a t u → r ≡ t
board-host-one κs a r t s u = agree

pub board-garden-plan-one : (κs : _) (a : _) (r t : _) (s u : _) → board-garden-plan.Learnt κs a r s → board-garden-plan.Learnt κs a t u → r ≡ t
board-garden-plan-one κs a r t s u = agree

pub board-is-host-one : (κs : _) (a : _) (r t : _) (s u : _) → board-is-host.Learnt κs a r s → board-is-host.Learnt κs a t u → r ≡ t
board-is-host-one κs a r t s u = agree

pub board-is-garden-one : (κs : _) (a : _) (r t : _) (s u : _) → board-is-garden.Learnt κs a r s → board-is-garden.Learnt κs a t u → r ≡ t
board-is-garden-one κs a r t s u = agree

pub board-may-dsg-one : (κs : _) (a : _) (r t : _) (s u : _) → board-may-dsg.Learnt κs a r s → board-may-dsg.Learnt κs a t u → r ≡ t
board-may-dsg-one κs a r t s u = agree

pub board-may-chg-one : (κs : _) (a : _) (r t : _) (s u : _) → board-may-chg.Learnt κs a r s → board-may-chg.Learnt κs a t u → r ≡ t
board-may-chg-one κs a r t s u = agree

pub board-status-one : (κs : _) (a : _) (r t : _) (s u : _) → board-status.Learnt κs a r s → board-status.Learnt κs a t u → r ≡ t
board-status-one κs a r t s u = agree

pub board-cleared-one : (κs : _) (a : _) (r t : _) (s u : _) → board-cleared.Learnt κs a r s → board-cleared.Learnt κs a t u → r ≡ t
board-cleared-one κs a r t s u = agree

pub board-fresh-board-one : (κs : _) (a : _) (r t : _) (s u : _) → board-fresh-board.Learnt κs a r s → board-fresh-board.Learnt κs a t u → r ≡ t
board-fresh-board-one κs a r t s u = agree

-- ---- frame
pub frame-check-all-one : (κs : _) (a : _) (r t : _) (s u : _) → frame-check-all.Learnt κs a r s → frame-check-all.Learnt κs a t u → r ≡ t
frame-check-all-one κs a r t s u = agree

pub frame-check-byte-one : (κs : _) (a : _) (r t : _) (s u : _) → frame-check-byte.Learnt κs a r s → frame-check-byte.Learnt κs a t u → r ≡ t
frame-check-byte-one κs a r t s u = agree

pub frame-take-apart-one : (κs : _) (a : _) (r t : _) (s u : _) → frame-take-apart.Learnt κs a r s → frame-take-apart.Learnt κs a t u → r ≡ t
frame-take-apart-one κs a r t s u = agree

-- ---- stack, recorder and adomvik
pub stack-bad-plans-one : (κs : _) (a : _) (r t : _) (s u : _) → stack-bad-plans.Learnt κs a r s → stack-bad-plans.Learnt κs a t u → r ≡ t
stack-bad-plans-one κs a r t s u = agree

pub recorder-note-other-one : (κs : _) (a : _) (r t : _) (s u : _) → recorder-note-other.Learnt κs a r s → recorder-note-other.Learnt κs a t u → r ≡ t
recorder-note-other-one κs a r t s u = agree

pub adomvik-reading-one : (κs : _) (a : _) (r t : _) (s u : _) → adomvik-reading.Learnt κs a r s → adomvik-reading.Learnt κs a t u → r ≡ t
adomvik-reading-one κs a r t s u = agree

pub adomvik-up-one : (κs : _) (a : _) (r t : _) (s u : _) → adomvik-up.Learnt κs a r s → adomvik-up.Learnt κs a t u → r ≡ t
adomvik-up-one κs a r t s u = agree

pub adomvik-note-other-one : (κs : _) (a : _) (r t : _) (s u : _) → adomvik-note-other.Learnt κs a r s → adomvik-note-other.Learnt κs a t u → r ≡ t
adomvik-note-other-one κs a r t s u = agree

-- ---- reader
pub reader-fault-one : (κs : _) (a : _) (r t : _) (s u : _) → reader-fault.Learnt κs a r s → reader-fault.Learnt κs a t u → r ≡ t
reader-fault-one κs a r t s u = agree

-- no two kinds have one byte, and no kind has one that is not from 1 to 3
kind-once : (k l : Kind) → code_of k ≡ code_of l → k ≡ l
kind-once Sample Sample e = refl
kind-once Frame Frame e = refl
kind-once Reading Reading e = refl
kind-once Sample Frame e = absurd (omega (arith, e))
kind-once Sample Reading e = absurd (omega (arith, e))
kind-once Frame Sample e = absurd (omega (arith, e))
kind-once Frame Reading e = absurd (omega (arith, e))
kind-once Reading Sample e = absurd (omega (arith, e))
kind-once Reading Frame e = absurd (omega (arith, e))

kind-inside : (k : Kind) (code : ℕ) → code_of k ≡ code → outside 1 3 code ≡ true → {A : Type 0} → A
kind-inside Sample code e f = absurd (true≢false (sym (rw (← e) at f)))
kind-inside Frame code e f = absurd (true≢false (sym (rw (← e) at f)))
kind-inside Reading code e f = absurd (true≢false (sym (rw (← e) at f)))

kind-decoded : (code : ℕ) (r t : Result Kind Fault) → Decodes code r → Decodes code t → r ≡ t
kind-decoded code (Ok k) (Ok l) p q = ap Ok (kind-once k l (p ∙ sym q))
kind-decoded code (Ok k) (Err f) p q = kind-inside k code p q.1
kind-decoded code (Err e) (Ok l) p q = kind-inside l code q p.1
kind-decoded code (Err e) (Err f) p q = ap Err (p.0 ∙ sym q.0)

pub reader-kind-one : (κs : _) (a : _) (r t : _) (s u : _) → reader-kind.Learnt κs a r s → reader-kind.Learnt κs a t u → r ≡ t
reader-kind-one κs a r t s u p q = kind-decoded _ r t p q

pub reader-byte-at-one : (κs : _) (a : _) (r t : _) (s u : _) → reader-byte-at.Learnt κs a r s → reader-byte-at.Learnt κs a t u → r ≡ t
reader-byte-at-one κs a r t s u = agree

pub reader-two-at-one : (κs : _) (a : _) (r t : _) (s u : _) → reader-two-at.Learnt κs a r s → reader-two-at.Learnt κs a t u → r ≡ t
reader-two-at-one κs a r t s u = agree

pub reader-four-at-one : (κs : _) (a : _) (r t : _) (s u : _) → reader-four-at.Learnt κs a r s → reader-four-at.Learnt κs a t u → r ≡ t
reader-four-at-one κs a r t s u = agree

pub reader-act-step-one : (κs : _) (a : _) (r t : _) (s u : _) → reader-act-step.Learnt κs a r s → reader-act-step.Learnt κs a t u → r ≡ t
reader-act-step-one κs a r t s u p q = step-once r t (agree p q)

pub reader-read-back-one : (κs : _) (a : _) (r t : _) (s u : _) → reader-read-back.Learnt κs a r s → reader-read-back.Learnt κs a t u → r ≡ t
reader-read-back-one κs a r t s u p q = read-once _ r t (agree p q)

-- ---- held
pub held-open-held-one : (κs : _) (a : _) (r t : _) (s u : _) → held-open.Learnt κs a r s → held-open.Learnt κs a t u → r ≡ t
held-open-held-one κs a r t s u = agree

pub held-row-count-one : (κs : _) (a : _) (r t : _) (s u : _) → held-row-count.Learnt κs a r s → held-row-count.Learnt κs a t u → r ≡ t
held-row-count-one κs a r t s u p q = agree p.0 q.0

pub held-none-one : (κs : _) (a : _) (r t : _) (s u : _) → held-none.Learnt κs a r s → held-none.Learnt κs a t u → r ≡ t
held-none-one κs a r t s u = agree

pub held-read-held-one : (κs : _) (a : _) (r t : _) (s u : _) → held-read.Learnt κs a r s → held-read.Learnt κs a t u → r ≡ t
held-read-held-one κs a r t s u = agree

-- ---- lines
pub lines-kind-one : (κs : _) (a : _) (r t : _) (s u : _) → lines-kind.Learnt κs a r s → lines-kind.Learnt κs a t u → r ≡ t
lines-kind-one κs a r t s u = agree

pub lines-line-at-one : (κs : _) (a : _) (r t : _) (s u : _) → lines-line-at.Learnt κs a r s → lines-line-at.Learnt κs a t u → r ≡ t
lines-line-at-one κs a r t s u = agree

-- ---- lines out of blocks
pub lines-new-cutter-one : (κs : _) (a : _) (r t : _) (s u : _) → lines-new.Learnt κs a r s → lines-new.Learnt κs a t u → r ≡ t
lines-new-cutter-one κs a r t s u = agree

pub lines-kept-len-one : (κs : _) (a : _) (r t : _) (s u : _) → lines-kept-len.Learnt κs a r s → lines-kept-len.Learnt κs a t u → r ≡ t
lines-kept-len-one κs a r t s u = agree

pub lines-line-end-one : (κs : _) (a : _) (r t : _) (s u : _) → lines-line-end.Learnt κs a r s → lines-line-end.Learnt κs a t u → r ≡ t
lines-line-end-one κs a r t s u = agree

-- ---- sessions
pub session-new-one : (κs : _) (a : _) (r t : _) (s u : _) → session-new.Learnt κs a r s → session-new.Learnt κs a t u → r ≡ t
session-new-one κs a r t s u = agree
