-- Two acts that are not tied commute: each keeps its outcome, and the logs after both are the same.
-- Assumes nothing.
use Prim.Native.Nat.{ℕ, ◌/◌}
use mathlib.Core.Path.{◌≡◌, refl, sym, ap, ◌∙◌}
use mathlib.Core.Bool.{Bool, true, false, true≢false, cond, not}
use mathlib.Core.List.{List, [], ◌∷◌, ◌++◌}
use lib.Dec.{ltb, eqb}
use lib.ListN.{length, set, drop, length-map}
use lib.Seq.{get_or-set_other, set_comm, set-get_or}
use borrow.Author.Tests.{eqb-true, eqb-false, eq-eqb, ne_eqb}
use Rattle.lists.proofs.Split.{split, both, not_yes}
use Rattle.refusal.specs.Said.{Said, Bar, bar, accepts, refuses, first, judged, unless_refused}
use Rattle.journal.specs.Ring as journal
use Rattle.board.specs.declared.Board.{Board}
use Rattle.board.specs.declared.Plan.{Plan}
use Rattle.board.specs.declared.Readings.{Readings}
use Rattle.board.specs.Sample.{reading_bars}
use Rattle.frame.specs.Frame.{byte, writes}
use Rattle.registers.specs.Registers.{access_bars}
use Rattle.stack.specs.Row.{good_row, place_of, board_at}
use Rattle.stack.specs.Frame.{frame_place}
use Rattle.demands.specs.Paper.{Entry, sampled, framed}
use Rattle.demands.specs.Acts.{Act, sample, frame, listing, reading, up, Outcome, bars}
use Rattle.demands.specs.Table.{lent}
use Rattle.demands.specs.Tied.{Who, board, whole, nobody, early, who, ties, tied}
use Rattle.demands.specs.Demands.{Log, no_log, log_at, joined, board_given, row_given, frame_entry, joins, taken, sample_says, frame_says, listing_says, told}
use Rattle.demands.specs.Refused.{plans_of}
use Rattle.demands.proofs.Clear.{clear, numbered}
use Rattle.demands.proofs.Tells.{board-at}
use Rattle.demands.proofs.Demanded.{same-plans, good_of, good-plans}

-- ---- an act, taken apart: its board's place, its entry, and its refusals once the board is known

abbrev place : Act → ℕ
place (sample n x mv) = place_of n
place (frame bytes buffer) = frame_place bytes
place (listing n buffer) = place_of n
place reading = 0
place up = 0

abbrev entry : Act → Entry
entry (sample n x mv) = sampled x mv
entry (frame bytes buffer) = frame_entry bytes
entry (listing n buffer) = framed 0 0 0
entry reading = framed 0 0 0
entry up = framed 0 0 0

abbrev late : Board → Act → List Bar
late b (sample n x mv) = reading_bars b x mv
late b (frame bytes buffer) = access_bars b (writes (byte bytes 0)) (byte bytes 1) (byte bytes 2)
late b (listing n buffer) = bar 14 (ltb (length buffer / 3) (length (journal.listing b.journal))) ∷ []
late b reading = []
late b up = []

-- it stands in its board's log, if it is not refused
abbrev enters : Act → Bool
enters (sample n x mv) = true
enters (frame bytes buffer) = true
enters (listing n buffer) = false
enters reading = false
enters up = false

-- what it makes of its board's log, and its outcome there; and its outcome where it is refused early
abbrev step_in : Log → Act → Log
step_in l a = cond (enters a) (unless_refused (late (board_given l) a) l (joined l (entry a))) l

abbrev answer_in : Log → Act → Outcome
answer_in l (sample n x mv) = record { said = judged (reading_bars (board_given l) x mv) (sample_says (joined l (sampled x mv))); buffer = [] }
answer_in l (frame bytes buffer) =
    let refusals = late (board_given l) (frame bytes buffer) in
    let reply = frame_says (joined l (frame_entry bytes)) bytes in
    record { said = judged refusals reply; buffer = unless_refused refusals buffer (reply ++ drop 4 buffer) }
answer_in l (listing n buffer) =
    let refusals = late (board_given l) (listing n buffer) in
    let entries = listing_says l in
    record { said = judged refusals (length entries ∷ []); buffer = unless_refused refusals buffer (journal.words_over entries buffer) }
answer_in l reading = record { said = accepts []; buffer = [] }
answer_in l up = record { said = accepts []; buffer = [] }

abbrev refused_early : ℕ → Act → Outcome
refused_early m a = record { said = refuses (first (early m a)); buffer = lent a }

-- ---- the same by whom the act concerns

abbrev next_for : Who → List Log → Act → List Log
next_for (board i) logs a = set logs i (step_in (log_at logs i) a)
next_for whole logs a = logs
next_for nobody logs a = logs

abbrev answer_for : ℕ → Who → List Log → Act → Outcome
answer_for m (board i) logs a = answer_in (log_at logs i) a
answer_for m whole logs a = told logs a
answer_for m nobody logs a = refused_early m a

flip : (v w : Who) → ties v w ≡ ties w v
flip (board i) (board j) =
    split (eqb i j)
    (λ e. e ∙ sym (eq-eqb j i (sym (eqb-true i j e))))
    (λ e. e ∙ sym (ne_eqb j i (λ h. eqb-false i j e (sym h))))
flip (board i) whole = refl
flip (board i) nobody = refl
flip whole (board j) = refl
flip whole whole = refl
flip whole nobody = refl
flip nobody (board j) = refl
flip nobody whole = refl
flip nobody nobody = refl

-- an act leaves the outcome of one that it is not tied to
undisturbed : (m : ℕ) (v w : Who) (logs : List Log) (a b : Act) → ties v w ≡ false → answer_for m w (next_for v logs a) b ≡ answer_for m w logs b
undisturbed m (board i) (board j) logs a b f =
    ap (λ (l : Log). answer_in l b) (get_or-set_other logs i j (step_in (log_at logs i) a) no_log (λ e. eqb-false i j f (sym e)))
undisturbed m (board i) whole logs a b f = absurd (true≢false f)
undisturbed m (board i) nobody logs a b f = refl
undisturbed m whole w logs a b f = refl
undisturbed m nobody w logs a b f = refl

-- and the two leave the same logs in either order
either_order : (v w : Who) (logs : List Log) (a b : Act) → ties v w ≡ false → next_for w (next_for v logs a) b ≡ next_for v (next_for w logs b) a
either_order (board i) (board j) logs a b f =
    let other = eqb-false i j f in
    let p = get_or-set_other logs i j (step_in (log_at logs i) a) no_log (λ e. other (sym e)) in
    let q = get_or-set_other logs j i (step_in (log_at logs j) b) no_log other in
    ap (λ (l : Log). set (set logs i (step_in (log_at logs i) a)) j (step_in l b)) p
    ∙ set_comm logs i j (step_in (log_at logs i) a) (step_in (log_at logs j) b) other
    ∙ ap (λ (l : Log). set (set logs j (step_in (log_at logs j) b)) i (step_in l a)) (sym q)
either_order (board i) whole logs a b f = refl
either_order (board i) nobody logs a b f = refl
either_order whole (board j) logs a b f = refl
either_order whole whole logs a b f = refl
either_order whole nobody logs a b f = refl
either_order nobody (board j) logs a b f = refl
either_order nobody whole logs a b f = refl
either_order nobody nobody logs a b f = refl

-- ---- refusals in two parts: early ones, and then those once the board is known

first-early : (es ls : List Bar) → eqb (first es) 0 ≡ false → first (es ++ ls) ≡ first es
first-early [] ls e = absurd (true≢false e)
first-early (b ∷ es) ls e = by b.when (first-early es ls) e
  where
    by : (t : Bool) → (eqb (first es) 0 ≡ false → first (es ++ ls) ≡ first es) → eqb (cond t b.number (first es)) 0 ≡ false
        → cond t b.number (first (es ++ ls)) ≡ cond t b.number (first es)
    by true rest e = refl
    by false rest e = rest e

first-late : (es ls : List Bar) → numbered es ≡ true → eqb (first es) 0 ≡ true → first (es ++ ls) ≡ first ls
first-late [] ls n e = refl
first-late (b ∷ es) ls n e =
    let m = both (not (eqb b.number 0)) (numbered es) n in
    let c = clear b es (not_yes (eqb b.number 0) m.0) e in
    ap (λ (t : Bool). cond t b.number (first (es ++ ls))) c.0 ∙ first-late es ls m.1 c.1

-- a verdict, by the number of the first refusal
abbrev verdict : ℕ → List ℕ → Said
verdict k vs = cond (eqb k 0) (accepts vs) (refuses k)

set-kept : (t : Bool) (logs : List Log) (at : ℕ) (l : Log) → cond t (set logs at l) logs ≡ set logs at (cond t l (log_at logs at))
set-kept true logs at l = refl
set-kept false logs at l = sym (set-get_or logs at no_log)

-- refusals `bs` that come to the early ones `es` and the late ones `ls`
module _ (bs es ls : List Bar) (parts : first bs ≡ first (es ++ ls)) (n : numbered es ≡ true) where
  kept-late : {A : Type 0} (old new : A) → eqb (first es) 0 ≡ true → unless_refused bs old new ≡ unless_refused ls old new
  kept-late {A} old new e = ap (λ (k : ℕ). cond {A = A} (eqb k 0) new old) (parts ∙ first-late es ls n e)

  kept-early : {A : Type 0} (old new : A) → eqb (first es) 0 ≡ false → unless_refused bs old new ≡ old
  kept-early {A} old new e = ap (λ (k : ℕ). cond {A = A} (eqb k 0) new old) (parts ∙ first-early es ls e) ∙ ap (λ (t : Bool). cond {A = A} t new old) e

  judged-late : (vs : List ℕ) → eqb (first es) 0 ≡ true → judged bs vs ≡ judged ls vs
  judged-late vs e = ap (λ (k : ℕ). verdict k vs) (parts ∙ first-late es ls n e)

  judged-early : (vs : List ℕ) → eqb (first es) 0 ≡ false → judged bs vs ≡ refuses (first es)
  judged-early vs e = ap (λ (k : ℕ). verdict k vs) (parts ∙ first-early es ls e) ∙ ap (λ (t : Bool). cond t (accepts vs) (refuses (first es))) e

-- ---- on logs of the plans of an opening, an act goes by whom it concerns

module _ (plans : List Plan) (good : good_of plans ≡ true) where
  abbrev pub Good : List Log → Type 0
  Good logs = plans_of logs ≡ plans

  pub keeps : (logs : List Log) (a : Act) → Good logs → Good (taken logs a)
  keeps logs a g = same-plans logs a ∙ g

  abbrev m : ℕ
  m = length plans

  module _ (logs : List Log) (g : Good logs) where
    row-good : good_row (row_given logs) ≡ true
    row-good = good-plans logs ∙ ap good_of g ∙ good

    row-long : length (row_given logs) ≡ m
    row-long = length-map logs board_given ∙ sym (length-map logs (λ (l : Log). l.plan)) ∙ ap length g

    -- refusal 1 is not given, and the rest falls into its two parts
    parts : (a : Act) → first (bar 1 (not (good_row (row_given logs))) ∷ (early (length (row_given logs)) a ++ late (board_at (row_given logs) (place a)) a))
        ≡ first (early m a ++ late (board_given (log_at logs (place a))) a)
    parts a =
        ap (λ (t : Bool). first (bar 1 (not t) ∷ (early (length (row_given logs)) a ++ late (board_at (row_given logs) (place a)) a))) row-good
        ∙ ap (λ (k : ℕ). first (early k a ++ late (board_at (row_given logs) (place a)) a)) row-long
        ∙ ap (λ (b : Board). first (early m a ++ late b a)) (board-at logs (place a))

    sample-agrees : (n : ℕ) (x : Readings) (mv : List ℕ) → let a = sample n x mv in
        (t : Bool) → eqb (first (early m a)) 0 ≡ t
        → (taken logs a ≡ next_for (cond t (board (place_of n)) nobody) logs a) × (told logs a ≡ answer_for m (cond t (board (place_of n)) nobody) logs a)
    sample-agrees n x mv true e =
        let a = sample n x mv in
        let l = log_at logs (place_of n) in
        let bs = bars (row_given logs) a in
        let ls = late (board_given l) a in
        let new = joined l (sampled x mv) in
        let said = judged-late bs (early m a) ls (parts a) refl (sample_says new) e in (
          kept-late bs (early m a) ls (parts a) refl logs (joins logs (place_of n) (sampled x mv)) e ∙ set-kept (eqb (first ls) 0) logs (place_of n) new,
          λ i. record { said = said i; buffer = [] },
        )
    sample-agrees n x mv false e =
        let a = sample n x mv in
        let l = log_at logs (place_of n) in
        let bs = bars (row_given logs) a in
        let ls = late (board_given l) a in
        let said = judged-early bs (early m a) ls (parts a) refl (sample_says (joined l (sampled x mv))) e in
        (kept-early bs (early m a) ls (parts a) refl logs (joins logs (place_of n) (sampled x mv)) e, λ i. record { said = said i; buffer = [] })

    frame-agrees : (bytes buffer : List ℕ) → let a = frame bytes buffer in
        (t : Bool) → eqb (first (early m a)) 0 ≡ t
        → (taken logs a ≡ next_for (cond t (board (frame_place bytes)) nobody) logs a) × (told logs a ≡ answer_for m (cond t (board (frame_place bytes)) nobody) logs a)
    frame-agrees bytes buffer true e =
        let a = frame bytes buffer in
        let at = frame_place bytes in
        let l = log_at logs at in
        let bs = bars (row_given logs) a in
        let ls = late (board_given l) a in
        let new = joined l (frame_entry bytes) in
        let reply = frame_says new bytes in
        let said = judged-late bs (early m a) ls (parts a) refl reply e in
        let left = kept-late bs (early m a) ls (parts a) refl buffer (reply ++ drop 4 buffer) e in (
          kept-late bs (early m a) ls (parts a) refl logs (joins logs at (frame_entry bytes)) e ∙ set-kept (eqb (first ls) 0) logs at new,
          λ i. record { said = said i; buffer = left i },
        )
    frame-agrees bytes buffer false e =
        let a = frame bytes buffer in
        let at = frame_place bytes in
        let l = log_at logs at in
        let bs = bars (row_given logs) a in
        let ls = late (board_given l) a in
        let reply = frame_says (joined l (frame_entry bytes)) bytes in
        let said = judged-early bs (early m a) ls (parts a) refl reply e in
        let left = kept-early bs (early m a) ls (parts a) refl buffer (reply ++ drop 4 buffer) e in
        (kept-early bs (early m a) ls (parts a) refl logs (joins logs at (frame_entry bytes)) e, λ i. record { said = said i; buffer = left i })

    list-agrees : (n : ℕ) (buffer : List ℕ) → let a = listing n buffer in
        (t : Bool) → eqb (first (early m a)) 0 ≡ t
        → (taken logs a ≡ next_for (cond t (board (place_of n)) nobody) logs a) × (told logs a ≡ answer_for m (cond t (board (place_of n)) nobody) logs a)
    list-agrees n buffer true e =
        let a = listing n buffer in
        let l = log_at logs (place_of n) in
        let bs = bars (row_given logs) a in
        let ls = late (board_given l) a in
        let said = judged-late bs (early m a) ls (parts a) refl (length (listing_says l) ∷ []) e in
        let left = kept-late bs (early m a) ls (parts a) refl buffer (journal.words_over (listing_says l) buffer) e in
        (sym (set-get_or logs (place_of n) no_log), λ i. record { said = said i; buffer = left i })
    list-agrees n buffer false e =
        let a = listing n buffer in
        let l = log_at logs (place_of n) in
        let bs = bars (row_given logs) a in
        let ls = late (board_given l) a in
        let said = judged-early bs (early m a) ls (parts a) refl (length (listing_says l) ∷ []) e in
        let left = kept-early bs (early m a) ls (parts a) refl buffer (journal.words_over (listing_says l) buffer) e in
        (refl, λ i. record { said = said i; buffer = left i })

    agrees : (a : Act) → (taken logs a ≡ next_for (who m a) logs a) × (told logs a ≡ answer_for m (who m a) logs a)
    agrees (sample n x mv) = sample-agrees n x mv (eqb (first (early m (sample n x mv))) 0) refl
    agrees (frame bytes buffer) = frame-agrees bytes buffer (eqb (first (early m (frame bytes buffer))) 0) refl
    agrees (listing n buffer) = list-agrees n buffer (eqb (first (early m (listing n buffer))) 0) refl
    agrees reading = (refl, refl)
    agrees up = (refl, refl)

  -- two acts that are not tied, the first before the second
  pub commute : (logs : List Log) (a b : Act) → Good logs → tied m a b ≡ false
      → (told (taken logs a) b ≡ told logs b) × (told (taken logs b) a ≡ told logs a) × (taken (taken logs a) b ≡ taken (taken logs b) a)
  commute logs a b g f =
      let v = who m a in
      let w = who m b in
      let p = agrees logs g a in
      let q = agrees logs g b in
      let p' = agrees (taken logs b) (keeps logs b g) a in
      let q' = agrees (taken logs a) (keeps logs a g) b in (
        q'.1 ∙ ap (λ (z : List Log). answer_for m w z b) p.0 ∙ undisturbed m v w logs a b f ∙ sym q.1,
        p'.1 ∙ ap (λ (z : List Log). answer_for m v z a) q.0 ∙ undisturbed m w v logs b a (flip w v ∙ f) ∙ sym p.1,
        q'.0 ∙ ap (λ (z : List Log). next_for w z b) p.0 ∙ either_order v w logs a b f ∙ ap (λ (z : List Log). next_for v z a) (sym q.0) ∙ sym p'.0,
      )
