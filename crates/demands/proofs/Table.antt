-- Demand 1: every act and every opening is refused by the table, in its order, exactly under its conditions, and changes nothing then.
-- Assumes nothing.
use Prim.Native.Nat.{ℕ, ◌<◌}
use native.Mathlib.Omega.{arith}
use mathlib.Core.Path.{◌≡◌, refl, sym, ap, ◌∙◌, subst}
use mathlib.Core.Logic.{inl, inr}
use mathlib.Core.Bool.{true, true≢false, not}
use mathlib.Core.List.{List, [], ◌∷◌, map}
use lib.Dec.{eqb}
use lib.ListN.{length}
use borrow.Author.Tests.{eqb-true, eq-eqb, ne_eqb}
use Rattle.lists.proofs.Split.{split, both, not_yes}
use Rattle.refusal.specs.Said.{Said, Bar, accepts, refuses, first, judged, unless_refused}
use Rattle.board.specs.declared.Board.{Board}
use Rattle.board.specs.Sample.{sample_values}
use Rattle.reading.specs.declared.Whole.{Whole}
use Rattle.reading.specs.Reading.{summary_of, read_of, whole_said}
use Rattle.reading.specs.Line.{line_of, line_said}
use Rattle.stack.specs.Row.{good_row, place_of, board_at}
use Rattle.stack.specs.Open.{open_bars, open_row}
use Rattle.stack.specs.Sample.{sample_row}
use Rattle.stack.specs.Frame.{frame_reply, frame_row, frame_buffer}
use Rattle.stack.specs.List.{entries_of, list_buffer}
use Rattle.stack.specs.Read.{view_said, read_bars, reading_of}
use Rattle.stack.proofs.Laws.{open_said, sample-said, frame-said, list-said}
use Rattle.stack.proofs.Scanned.{whole-said, up-said}
use Rattle.demands.specs.Acts.{Act, sample, frame, listing, reading, up, outcome, bars, next}
use Rattle.demands.specs.Table.{FirstIs, NoneHolds, ByTable, lent, InOrder, Demand1, Demand1Opening}
use Rattle.demands.proofs.Clear.{numbered}

-- ---- the first row that holds, by its number; no row has number 0

pub first-is : (rows : List Bar) (n : ℕ) → 0 < n → first rows ≡ n → FirstIs n rows
first-is [] n p e = absurd (omega arith)
first-is (b ∷ rows) n p e = split b.when (λ h. inl (h, rw h at e)) (λ h. inr (h, first-is rows n p (rw h at e)))

pub is-first : (rows : List Bar) (n : ℕ) → FirstIs n rows → first rows ≡ n
is-first [] n f = absurd f
is-first (b ∷ rows) n (inl (h, e)) = rw h e
is-first (b ∷ rows) n (inr (h, f)) = rw h (is-first rows n f)

pub none_is : (rows : List Bar) → numbered rows ≡ true → first rows ≡ 0 → NoneHolds rows
none_is [] u e = tt
none_is (b ∷ rows) u e =
    let m = both (not (eqb b.number 0)) (numbered rows) u in
    split b.when
    (λ h. let zero_is : b.number ≡ 0 = rw h at e in absurd (true≢false (sym (eq-eqb b.number 0 zero_is) ∙ not_yes (eqb b.number 0) m.0)))
    (λ h. (h, none_is rows m.1 (rw h at e)))

pub is_none : (rows : List Bar) → NoneHolds rows → first rows ≡ 0
is_none [] h = refl
is_none (b ∷ rows) h = rw h.0 (is_none rows h.1)

-- ---- what is judged goes by the table

pub judged-number : (rows : List Bar) (vs : List ℕ) → (judged rows vs).number ≡ first rows
judged-number rows vs = split (eqb (first rows) 0) (λ e. rw e (sym (eqb-true (first rows) 0 e))) (λ e. rw e)

judged-refuses : (rows : List Bar) (vs : List ℕ) (n : ℕ) → 0 < n → first rows ≡ n → judged rows vs ≡ refuses n
judged-refuses rows vs n p e = rw (e, ne_eqb n 0 (λ z. omega arith))

table : (rows : List Bar) (vs : List ℕ) → numbered rows ≡ true → ByTable rows (judged rows vs)
table rows vs u =
    record {
      refused = λ n p. (
        λ e. first-is rows n p (sym (judged-number rows vs) ∙ ap (λ (s : Said). s.number) e),
        λ f. judged-refuses rows vs n p (is-first rows n f),
      );
      accepted = (λ e. none_is rows u (sym (judged-number rows vs) ∙ e), λ h. judged-number rows vs ∙ is_none rows h);
    }

-- where it refuses, what is kept is the old
pub kept-old : {A : Type 0} (rows : List Bar) (n : ℕ) → 0 < n → first rows ≡ n → (old new : A) → unless_refused rows old new ≡ old
kept-old rows n p e old new = rw (e, ne_eqb n 0 (λ z. omega arith))

pub stays : {A : Type 0} (rows : List Bar) (vs : List ℕ) (n : ℕ) → 0 < n → judged rows vs ≡ refuses n → (old new : A) → unless_refused rows old new ≡ old
stays rows vs n p e = kept-old rows n p (sym (judged-number rows vs) ∙ ap (λ (s : Said). s.number) e)

-- ---- every act is judged by its rows

pub reading-judged : (row : List Board) → view_said (reading_of row) ≡ judged (read_bars row) (whole_said (read_of (map summary_of row)))
unfolding reading_of
reading-judged row = split (good_row row) (λ e. rw e (ap (λ (w : Whole). accepts (whole_said w)) (whole-said (read_of (map summary_of row))))) (λ e. rw e)

abbrev pub values : List Board → Act → List ℕ
values row (sample n x mv) = sample_values (board_at row (place_of n)) x mv
values row (frame bytes buffer) = frame_reply row bytes
values row (listing n buffer) = length (entries_of row n) ∷ []
values row reading = whole_said (read_of (map summary_of row))
values row up = line_said (line_of (map summary_of row))

pub act-judged : (row : List Board) (a : Act) → (outcome row a).said ≡ judged (bars row a) (values row a)
act-judged row (sample n x mv) = sample-said row n x mv
act-judged row (frame bytes buffer) = frame-said row bytes buffer
act-judged row (listing n buffer) = list-said row n buffer
act-judged row reading = reading-judged row
act-judged row up = up-said row

numbers : (row : List Board) (a : Act) → numbered (bars row a) ≡ true
numbers row (sample n x mv) = refl
numbers row (frame bytes buffer) = refl
numbers row (listing n buffer) = refl
numbers row reading = refl
numbers row up = refl

act-stays : (row : List Board) (a : Act) (n : ℕ) → 0 < n → judged (bars row a) (values row a) ≡ refuses n → (next row a ≡ row) × ((outcome row a).buffer ≡ lent a)
unfolding sample_row frame_row frame_buffer list_buffer
act-stays row (sample n x mv) k p e = (stays (bars row (sample n x mv)) (values row (sample n x mv)) k p e _ _, refl)
act-stays row (frame bytes buffer) k p e =
    let rows = bars row (frame bytes buffer) in
    let vs = values row (frame bytes buffer) in
    (stays rows vs k p e _ _, stays rows vs k p e _ _)
act-stays row (listing n buffer) k p e = (refl, stays (bars row (listing n buffer)) (values row (listing n buffer)) k p e _ _)
act-stays row reading k p e = (refl, refl)
act-stays row up k p e = (refl, refl)

in_order : (row : List Board) → InOrder row
in_order row = record { of-sample = λ n x mv. refl; of-frame = λ bytes buffer. refl; of-listing = λ n buffer. refl; of-reading = refl; of-up = refl }

pub demand1 : (row : List Board) → Demand1 row
demand1 row =
    record {
      order = in_order row;
      by-table = λ a. subst (ByTable (bars row a)) (sym (act-judged row a)) (table (bars row a) (values row a) (numbers row a));
      unchanged = λ a n p e. act-stays row a n p (sym (act-judged row a) ∙ e);
    }

-- ---- and every opening

open_stays : (row : List Board) (plans : List ℕ) (n : ℕ) → 0 < n → judged (open_bars (length row) plans) [] ≡ refuses n → open_row row plans ≡ row
unfolding open_row
open_stays row plans n p e = stays (open_bars (length row) plans) [] n p e _ _

pub demand1-opening : (row : List Board) (plans : List ℕ) → Demand1Opening row plans
demand1-opening row plans =
    let rows = open_bars (length row) plans in
    record {
      by-table = subst (ByTable rows) (sym (open_said row plans)) (table rows [] refl);
      unchanged = λ n p e. open_stays row plans n p (sym (open_said row plans) ∙ e);
    }
