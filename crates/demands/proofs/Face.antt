-- The demands of the library for C: each call is an act of the demands, so what is shown of the acts is shown of the calls.
-- Assumes nothing.
use Prim.Native.Nat.{ℕ, zero, suc, ◌+◌, ◌-◌, ◌<◌}
use native.Mathlib.Omega.{arith}
use mathlib.Core.Path.{◌≡◌, refl, sym, ap, ap₂, ◌∙◌, subst}
use mathlib.Core.Logic.{inl, inr}
use mathlib.Core.Bool.{Bool, true, false, true≢false, cond, not, ◌||◌}
use mathlib.Core.List.{List, [], ◌∷◌, map}
use lib.Dec.{eqb}
use lib.ListN.{length, get_or, set, replicate, length-replicate, length-map}
use lib.Seq.{set-get_or}
use borrow.Author.Tests.{eqb-true, eq-eqb, ne_eqb, le-ltb}
use Rattle.lists.specs.Every.{every}
use Rattle.lists.proofs.Every.{every-at}
use Rattle.lists.proofs.Split.{split, both, not_yes}
use Rattle.refusal.specs.Said.{Said, value, Bar, bar, first, judged, unless_refused}
use Rattle.refusal.proofs.Laws.{number-back, judged-number}
use Rattle.journal.specs.Ring as journal
use Rattle.journal.proofs.Laws.{listing-short}
use Rattle.board.specs.declared.Board.{Board}
use Rattle.board.specs.declared.Readings.{Readings}
use Rattle.std.specs.Prelude.{Result}
use Rattle.refusal.specs.declared.Refusal.{Refusal}
use Rattle.board.specs.declared.Sampled.{Sampled}
use Rattle.board.specs.declared.Plan.{Plan}
use Rattle.board.specs.Plan.{plan_of}
use Rattle.board.specs.Sample.{fresh, bad_board, reading_bars, sample_bars, sample_values, board_next, answer_said, answer_saying, sample_of}
use Rattle.reading.specs.Reading.{summary_of, read_of, whole_said}
use Rattle.reading.specs.Line.{line_of, line_said}
use Rattle.stack.specs.Row.{bad_count, good_row, no_board, place_of, board_at}
use Rattle.stack.specs.Open.{good_plans, open_bars, open_row}
use Rattle.stack.specs.Sample.{sample_answer, sample_row}
use Rattle.stack.specs.Frame.{frame_row, frame_buffer}
use Rattle.stack.specs.List.{entries_of, list_bars, listing_said, list_answer, list_buffer}
use Rattle.stack.proofs.Scanned.{up-said}
use Rattle.stack.proofs.Laws.{list-said}
use Rattle.stack.specs.Read.{view_said, read_bars, reading_of}
use Rattle.stack.specs.Up.{glance_said, up_of}
use Rattle.adomvik.specs.Placed.{placed, sampled_of, count_or_refusal}
use Rattle.adomvik.specs.Calls.{open_number, sample_number, sample_out, board_number, board_out, frame_number, list_number, read_number, read_out, up_number, up_out}
use Rattle.adomvik.proofs.Laws.{open-number, sample-number, frame-number}
use Rattle.demands.specs.Acts.{Act, reading, Outcome, outcome, next, opened_row, final, answers}
use Rattle.demands.specs.Shuffle.{picked}
use Rattle.demands.specs.Table.{numbers_of}
use Rattle.demands.specs.Demands.{Log, begun, board_given, row_given, taken, told, opens, nothing}
use Rattle.demands.specs.Refused.{plans_of}
use Rattle.demands.specs.Face.{Call, sample_call, record_call, frame_call, list_call, read_call, up_call, in_sample, in_reply, in_list, in_reading, in_up, lent, Returned, returned, returns, leaves, act_of, in_c, OfRow, AllOfRow, SameActs, bars_of, numbers, OneOf, NumberBy, FaceDemand1, taken_in, told_in, FaceDemand2, no_call, no_return, FaceDemand3}
use Rattle.demands.proofs.Clear.{clear, numbered}
use Rattle.demands.proofs.Table.{first-is, is-first, none_is, is_none, kept-old, reading-judged}
use Rattle.demands.proofs.Tells.{tells, gives}
use Rattle.demands.proofs.Demanded.{good_of, same-plans, good-plans, begun-plans, opens-fine, opened-given, demand2}
use Rattle.demands.proofs.Places.{picked-map}
use Rattle.demands.proofs.Order.{demand3}

-- ---- an opening

opened-so : (row : List Board) (plans : List ℕ) → open_number row plans ≡ 0 → (length row ≡ length plans) × (opens plans ≡ true)
opened-so row plans e =
    let same = eqb (length plans) (length row) in
    let none : eqb (first (open_bars (length row) plans)) 0 ≡ true = eq-eqb (first (open_bars (length row) plans)) 0 (sym (open-number row plans) ∙ e) in
    let fails = (clear (bar 1 (not same || bad_count (length plans) || not (good_plans plans))) [] refl none).0 in
    let long : length row ≡ length plans = sym (eqb-true (length plans) (length row) (matches same (bad_count (length plans)) (not (good_plans plans)) fails)) in
    (long, subst (λ (m : ℕ). eqb (first (open_bars m plans)) 0 ≡ true) long none)
  where
    matches : (a b c : Bool) → (not a || b || c) ≡ false → a ≡ true
    matches true b c e = refl
    matches false b c e = absurd (true≢false e)

opens-then : (row : List Board) (plans : List ℕ) → (length row ≡ length plans) × (opens plans ≡ true) → open_number row plans ≡ 0
opens-then row plans (long, e) =
    open-number row plans ∙ eqb-true (first (open_bars (length row) plans)) 0 (subst (λ (m : ℕ). eqb (first (open_bars m plans)) 0 ≡ true) (sym long) e)

opened-is : (row : List Board) (plans : List ℕ) → open_number row plans ≡ 0 → open_row row plans ≡ row_given (begun plans)
opened-is row plans e = let so = opened-so row plans e in opened-given row plans so.0 so.1

opened-row : (plans : List ℕ) → opens plans ≡ true → opened_row plans ≡ row_given (begun plans)
opened-row plans e = opened-given (replicate (length plans) (fresh 0)) plans (length-replicate (length plans) (fresh 0)) e

-- ---- a sample of the record at a place is that of its board: the row is good, so the record is, and there is such a board

placed_at : (at : ℕ) → place_of (suc at) ≡ at
placed_at at = rw (ne_eqb (suc at) 0 (λ z. omega arith)) (omega arith)

record-good : (row : List Board) → good_row row ≡ true → (at : ℕ) → at < length row → bad_board (board_at row at) ≡ false
unfolding good_row
record-good row good at p =
    not_yes (bad_board (board_at row at)) (every-at (λ b. not (bad_board b)) row at (fresh 0) (both (not (bad_count (length row))) (every (λ b. not (bad_board b)) row) good).1 p)

board-there : (row : List Board) (at : ℕ) → at < length row → no_board row (suc at) ≡ false
board-there row at p = rw (le-ltb (suc at) 1 (omega arith), le-ltb (length row) (suc at) p)

set-kept : (refusals : List Bar) (row : List Board) (at : ℕ) (new : Board) → set row at (unless_refused refusals (board_at row at) new) ≡ unless_refused refusals row (set row at new)
set-kept refusals row at new = split (eqb (first refusals) 0) (λ e. rw e) (λ e. rw e (set-get_or row at (fresh 0)))

record_is : (row : List Board) → good_row row ≡ true → (at : ℕ) → at < length row → (x : Readings) (mv : List ℕ)
    → ((sample_of (board_at row at) x mv).answer ≡ sample_answer row (suc at) x mv) × (set row at (sample_of (board_at row at) x mv).board ≡ sample_row row (suc at) x mv)
unfolding sample_of sample_answer sample_row
record_is row good at p x mv =
    let b = board_at row at in
    let fine = record-good row good at p in
    let there = board-there row at p in
    let here = placed_at at in (
      (λ i. answer_saying (judged (bar 1 (fine i) ∷ reading_bars b x mv) (sample_values b x mv)))
          ∙ sym (λ i. answer_saying (judged (bar 1 (not (good i)) ∷ bar 2 (there i) ∷ reading_bars (board_at row (here i)) x mv) (sample_values (board_at row (here i)) x mv))),
      (λ i. set row at (unless_refused (bar 1 (fine i) ∷ reading_bars b x mv) b (board_next b x mv)))
          ∙ set-kept (reading_bars b x mv) row at (board_next b x mv)
          ∙ sym (λ i. unless_refused (bar 1 (not (good i)) ∷ bar 2 (there i) ∷ reading_bars (board_at row (here i)) x mv) row (set row (here i) (board_next (board_at row (here i)) x mv))),
    )

-- what adomvik_list returns, taken apart: the refusal's number, and else the count, which is below 256
told-apart : (s : Said) → value 0 s < 256 → (count_or_refusal s - 256 ≡ s.number) × ((count : ℕ) → cond (eqb (count_or_refusal s - 256) 0) (count_or_refusal s) count ≡ placed s count (value 0 s))
told-apart s few =
    split (eqb s.number 0)
    (λ e.
    let none : value 0 s - 256 ≡ 0 = omega arith in
    (rw (e, none) (sym (eqb-true s.number 0 e)), λ count. rw (e, none)))
    (λ e.
    let some : 256 + s.number - 256 ≡ s.number = omega arith in
    (rw (e, some), λ count. rw (e, some, e)))

listing-small : (row : List Board) (n : ℕ) (words : List ℕ) → value 0 (listing_said (list_answer row n words)) < 256
listing-small row n words =
    let es = entries_of row n in
    let few = listing-short (board_at row (place_of n)).journal in
    let rows = list_bars row n words in
    subst (λ (s : Said). value 0 s < 256) (sym (list-said row n words)) (split (eqb (first rows) 0) (λ e. rw e (omega (arith, few))) (λ e. rw e (omega arith)))

call-is : (row : List Board) → good_row row ≡ true → (c : Call) → OfRow (length row) c → (returns row c ≡ in_c c (outcome row (act_of c))) × (leaves row c ≡ next row (act_of c))
unfolding sample_number sample_out board_number board_out frame_number list_number read_number read_out up_number up_out
call-is row good (sample_call n x mv out) so = (refl, refl)
call-is row good (record_call at x mv out) so =
    let is = record_is row good at so x mv in
    (ap (λ (a : Result Sampled Refusal). returned (answer_said a).number (in_sample (placed (answer_said a) out (sampled_of (answer_said a))))) is.0, is.1)
call-is row good (frame_call bytes buffer) so = (refl, refl)
call-is row good (list_call n words count) so =
    let said = listing_said (list_answer row n words) in
    ((λ i. returned ((told-apart said (listing-small row n words)).0 i) (in_list (list_buffer row n words) ((told-apart said (listing-small row n words)).1 count i))), refl)
call-is row good (read_call out) so = (refl, refl)
call-is row good (up_call out) so = (refl, refl)

pub same-acts : SameActs
same-acts =
    record {
      opening = λ row plans. (opened-so row plans, opens-then row plans);
      opened = λ row plans e. opened-is row plans e ∙ sym (opened-row plans (opened-so row plans e).1);
      from-counts = λ row counts. (refl, refl);
      record-sampled = record_is;
      call = call-is;
    }

-- ---- demand 1

board-said : (b : Board) (x : Readings) (mv : List ℕ) → answer_said (sample_of b x mv).answer ≡ judged (sample_bars b x mv) (sample_values b x mv)
unfolding sample_of
board-said b x mv =
    let rows = sample_bars b x mv in
    split (eqb (first rows) 0) (λ e. rw e) (λ e. rw (e, e, number-back rows tt e))

number-first : (row : List Board) (c : Call) → (returns row c).number ≡ first (bars_of row c)
unfolding board_number list_number read_number up_number
number-first row (sample_call n x mv out) = sample-number row n x mv
number-first row (record_call at x mv out) =
    let b = board_at row at in
    ap (λ (s : Said). s.number) (board-said b x mv) ∙ judged-number (sample_bars b x mv) (sample_values b x mv)
number-first row (frame_call bytes buffer) = frame-number row bytes buffer
number-first row (list_call n words count) =
    let rows = list_bars row n words in
    (told-apart (listing_said (list_answer row n words)) (listing-small row n words)).0 ∙ ap (λ (s : Said). s.number) (list-said row n words) ∙ judged-number rows (length (entries_of row n) ∷ [])
number-first row (read_call out) = ap (λ (s : Said). s.number) (reading-judged row) ∙ judged-number (read_bars row) (whole_said (read_of (map summary_of row)))
number-first row (up_call out) = ap (λ (s : Said). s.number) (up-said row) ∙ judged-number (read_bars row) (line_said (line_of (map summary_of row)))

by_first : (rows : List Bar) (number : ℕ) → numbered rows ≡ true → number ≡ first rows → NumberBy rows number
by_first rows number u is =
    record {
      refused = λ n p. (λ e. first-is rows n p (sym is ∙ e), λ f. is ∙ is-first rows n f);
      accepted = (λ e. none_is rows u (sym is ∙ e), λ h. is ∙ is_none rows h);
    }

all-numbered : (row : List Board) (c : Call) → numbered (bars_of row c) ≡ true
all-numbered row (sample_call n x mv out) = refl
all-numbered row (record_call at x mv out) = refl
all-numbered row (frame_call bytes buffer) = refl
all-numbered row (list_call n words count) = refl
all-numbered row (read_call out) = refl
all-numbered row (up_call out) = refl

-- the number of the first row that holds is 0 or one of theirs
first-among : (rows : List Bar) → OneOf (first rows) (0 ∷ numbers_of rows)
first-among [] = inl refl
first-among (b ∷ rows) = split b.when (λ h. inr (inl (rw h))) (λ h. subst (λ (n : ℕ). OneOf n (0 ∷ numbers_of (b ∷ rows))) (sym (falls h)) (wider (first-among rows)))
  where
    falls : b.when ≡ false → first (b ∷ rows) ≡ first rows
    falls h = rw h

    wider : OneOf (first rows) (0 ∷ numbers_of rows) → OneOf (first rows) (0 ∷ numbers_of (b ∷ rows))
    wider (inl e) = inl e
    wider (inr o) = inr (inr o)

numbers-are : (row : List Board) (c : Call) → numbers_of (bars_of row c) ≡ numbers c
numbers-are row (sample_call n x mv out) = refl
numbers-are row (record_call at x mv out) = refl
numbers-are row (frame_call bytes buffer) = refl
numbers-are row (list_call n words count) = refl
numbers-are row (read_call out) = refl
numbers-are row (up_call out) = refl

own : (row : List Board) (c : Call) → OneOf (returns row c).number (0 ∷ numbers c)
own row c =
    subst (λ (n : ℕ). OneOf n (0 ∷ numbers c)) (sym (number-first row c))
    (subst (λ (ns : List ℕ). OneOf (first (bars_of row c)) (0 ∷ ns)) (numbers-are row c) (first-among (bars_of row c)))

-- a refusal leaves the place
place-stays : {A : Type 0} (s : Said) (old new : A) → 0 < s.number → placed s old new ≡ old
place-stays s old new p = rw (ne_eqb s.number 0 (λ z. omega arith))

call_stays : (row : List Board) (c : Call) → 0 < (returns row c).number → first (bars_of row c) ≡ (returns row c).number → (leaves row c ≡ row) × ((returns row c).place ≡ lent c)
unfolding sample_row frame_row frame_buffer list_buffer sample_of sample_number sample_out board_number board_out read_number read_out up_number up_out
call_stays row (sample_call n x mv out) p e =
    (kept-old (bars_of row (sample_call n x mv out)) _ p e _ _, ap in_sample (place-stays (answer_said (sample_answer row n x mv)) out _ p))
call_stays row (record_call at x mv out) p e =
    let b = board_at row at in (
      ap (set row at) (kept-old (sample_bars b x mv) _ p e b (board_next b x mv)) ∙ set-get_or row at (fresh 0),
      ap in_sample (place-stays (answer_said (sample_of b x mv).answer) out _ p),
    )
call_stays row (frame_call bytes buffer) p e =
    let rows = bars_of row (frame_call bytes buffer) in
    (kept-old rows _ p e _ _, ap in_reply (kept-old rows _ p e _ _))
call_stays row (list_call n words count) p e =
    let number = list_number row n words - 256 in
    let left = kept-old (bars_of row (list_call n words count)) _ p e words (journal.words_over (entries_of row n) words) in
    let other : eqb number 0 ≡ false = ne_eqb number 0 (λ z. omega (arith, p, z)) in
    (refl, λ i. in_list (left i) (cond (other i) (list_number row n words) count))
call_stays row (read_call out) p e = (refl, ap in_reading (place-stays (view_said (reading_of row)) out _ p))
call_stays row (up_call out) p e = (refl, ap in_up (place-stays (glance_said (up_of row)) out _ p))

open_stays : (row : List Board) (plans : List ℕ) → 0 < open_number row plans → open_row row plans ≡ row
unfolding open_row
open_stays row plans p = kept-old (open_bars (length row) plans) (open_number row plans) p (sym (open-number row plans)) _ _

pub face-demand1 : (row : List Board) → FaceDemand1 row
face-demand1 row =
    record {
      by-table = λ c. by_first (bars_of row c) (returns row c).number (all-numbered row c) (number-first row c);
      own-numbers = own row;
      unchanged = λ c p. call_stays row c p (sym (number-first row c));
      opening-by-table = λ plans. by_first (open_bars (length row) plans) (open_number row plans) refl (open-number row plans);
      opening-own-numbers = λ plans. subst (λ (n : ℕ). OneOf n (0 ∷ 1 ∷ [])) (sym (open-number row plans)) (first-among (open_bars (length row) plans));
      opening-unchanged = open_stays row;
    }

-- ---- demand 2: from any logs of good plans

boards-of : (logs : List Log) → length (row_given logs) ≡ length (plans_of logs)
boards-of logs = length-map logs board_given ∙ sym (length-map logs (λ (l : Log). l.plan))

call-here : (logs : List Log) → good_of (plans_of logs) ≡ true → (c : Call) → OfRow (length (plans_of logs)) c
    → (returns (row_given logs) c ≡ told_in logs c) × (leaves (row_given logs) c ≡ row_given (taken_in logs c))
call-here logs good c so =
    let fine = good-plans logs ∙ good in
    let is = call-is (row_given logs) fine c (subst (λ (m : ℕ). OfRow m c) (sym (boards-of logs)) so) in
    (is.0 ∙ ap (in_c c) (tells logs fine (act_of c)), is.1 ∙ gives logs (act_of c))

calls-on : (logs : List Log) → good_of (plans_of logs) ≡ true → (calls : List Call) → AllOfRow (length (plans_of logs)) calls
    → (answers leaves returns (row_given logs) calls ≡ answers taken_in told_in logs calls) × (final leaves (row_given logs) calls ≡ row_given (final taken_in logs calls))
calls-on logs good [] so = (refl, refl)
calls-on logs good (c ∷ calls) so =
    let is = call-here logs good c so.0 in
    let plans-stay = same-plans logs (act_of c) in
    let later = calls-on (taken_in logs c) (ap good_of plans-stay ∙ good) calls (subst (λ (plans : List Plan). AllOfRow (length plans) calls) (sym plans-stay) so.1) in (
      ap₂ (λ (o : Returned) (l : List Returned). o ∷ l) is.0 (ap (λ (row : List Board). answers leaves returns row calls) is.1 ∙ later.0),
      ap (λ (row : List Board). final leaves row calls) is.1 ∙ later.1,
    )

pub face-demand2 : FaceDemand2
face-demand2 row plans e calls so =
    let start = opened-is row plans e in
    let begun-so = begun-plans plans in
    let on = calls-on (begun plans) (ap good_of begun-so ∙ opens-fine plans (opened-so row plans e).1) calls (subst (λ (m : ℕ). AllOfRow m calls) (sym (ap length begun-so ∙ length-map plans plan_of)) so) in (
      ap (λ (r : List Board). answers leaves returns r calls) start ∙ on.0,
      ap (λ (r : List Board). final leaves r calls) start ∙ on.1,
    )

-- ---- demand 3: what the calls return is what their acts get, one by one

abbrev in_cs : List Call → List Outcome → List Returned
in_cs [] os = []
in_cs (c ∷ calls) [] = []
in_cs (c ∷ calls) (o ∷ os) = in_c c o ∷ in_cs calls os

told_in_lem : (logs : List Log) (calls : List Call) → answers taken_in told_in logs calls ≡ in_cs calls (answers taken told logs (map act_of calls))
told_in_lem logs [] = refl
told_in_lem logs (c ∷ calls) = ap (λ (l : List Returned). told_in logs c ∷ l) (told_in_lem (taken_in logs c) calls)

final-in : (logs : List Log) (calls : List Call) → final taken_in logs calls ≡ final taken logs (map act_of calls)
final-in logs [] = refl
final-in logs (c ∷ calls) = final-in (taken_in logs c) calls

as_many : (logs : List Log) (calls : List Call) → length calls ≡ length (answers taken told logs (map act_of calls))
as_many logs [] = refl
as_many logs (c ∷ calls) = ap suc (as_many (taken_in logs c) calls)

in-at : (calls : List Call) (os : List Outcome) → length calls ≡ length os → (p : ℕ) → in_c (get_or calls p no_call) (get_or os p nothing) ≡ get_or (in_cs calls os) p no_return
in-at [] [] e p = refl
in-at [] (o ∷ os) e p = absurd (omega arith)
in-at (c ∷ calls) [] e p = absurd (omega arith)
in-at (c ∷ calls) (o ∷ os) e zero = refl
in-at (c ∷ calls) (o ∷ os) e (suc p) = in-at calls os (omega arith) p

in-picked : (calls : List Call) (os : List Outcome) → length calls ≡ length os → (order : List ℕ)
    → in_cs (picked no_call order calls) (picked nothing order os) ≡ picked no_return order (in_cs calls os)
in-picked calls os e [] = refl
in-picked calls os e (p ∷ order) = ap₂ (λ (o : Returned) (l : List Returned). o ∷ l) (in-at calls os e p) (in-picked calls os e order)

-- calls in another order lend records of the row too
of-row-at : (boards : ℕ) (calls : List Call) → AllOfRow boards calls → (p : ℕ) → OfRow boards (get_or calls p no_call)
of-row-at boards [] so p = tt
of-row-at boards (c ∷ calls) so zero = so.0
of-row-at boards (c ∷ calls) so (suc p) = of-row-at boards calls so.1 p

picked-of-row : (boards : ℕ) (calls : List Call) → AllOfRow boards calls → (order : List ℕ) → AllOfRow boards (picked no_call order calls)
picked-of-row boards calls so [] = tt
picked-of-row boards calls so (p ∷ order) = (of-row-at boards calls so p, picked-of-row boards calls so order)

pub face-demand3 : FaceDemand3
face-demand3 row plans e calls so order w =
    let opens-so = (opened-so row plans e).1 in
    let acts = map act_of calls in
    let other = picked no_call order calls in
    let other-acts : map act_of other ≡ picked reading order acts = picked-map act_of no_call order calls in
    let shuffled = demand3 plans opens-so acts order w in
    let by-paper = demand2 plans opens-so (picked reading order acts) in
    let here = face-demand2 row plans e calls so in
    let there = face-demand2 row plans e other (picked-of-row (length plans) calls so order) in
    let logs = begun plans in
    let gets : answers taken told logs (map act_of other) ≡ picked nothing order (answers taken told logs acts) =
    ap (answers taken told logs) other-acts ∙ sym by-paper.0 ∙ shuffled.0 in
    let ends : row_given (final taken logs (map act_of other)) ≡ row_given (final taken logs acts) =
    ap (λ (l : List Act). row_given (final taken logs l)) other-acts ∙ sym by-paper.1 ∙ shuffled.1 ∙ (demand2 plans opens-so acts).1 in (
      there.0 ∙ told_in_lem logs other ∙ ap (in_cs other) gets ∙ in-picked calls (answers taken told logs acts) (as_many logs calls) order ∙ ap (picked no_return order) (sym (told_in_lem logs calls)),
      there.1 ∙ ap row_given (final-in logs other) ∙ ends ∙ ap row_given (sym (final-in logs calls)) ∙ sym here.1,
    )
