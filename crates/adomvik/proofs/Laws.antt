-- What an act for C returns is the paper's table: the number of the first condition that holds, and 0 where none does.
-- Assumes nothing.
use Prim.Native.Nat.{ℕ}
use mathlib.Core.Path.{◌≡◌, refl, sym, ap, ◌∙◌}
use mathlib.Core.List.{List, [], ◌∷◌}
use lib.ListN.{length}
use Rattle.refusal.specs.Said.{Said, accepts, said_by, first, judged}
use Rattle.refusal.proofs.Laws.{judged-number, number-not-zero}
use Rattle.board.specs.declared.Board.{Board}
use Rattle.board.specs.declared.Readings.{Readings}
use Rattle.board.specs.Sample.{sample_values}
use Rattle.stack.specs.Row.{place_of, board_at}
use Rattle.stack.specs.Open.{open_bars}
use Rattle.stack.specs.Sample.{sample_row_bars}
use Rattle.stack.specs.Frame.{frame_row_bars, frame_reply}
use Rattle.stack.specs.List.{entries_of, list_bars}
use Rattle.stack.proofs.Laws.{open_said, sample-said, frame-said, list-said}
use Rattle.std.specs.Prelude.{Result, Ok, Err, MatchResult, IsOkAnd}
use Rattle.refusal.specs.declared.Refusal.{Refusal}
use Rattle.adomvik.specs.Placed.{placed, count_or_refusal, number_in, placed_in}
use Rattle.adomvik.specs.Calls.{open_number, sample_number, frame_number, list_number}

pub open-number : (row : List Board) (plans : List ℕ) → open_number row plans ≡ first (open_bars (length row) plans)
unfolding open_number
open-number row plans = ap (λ (s : Said). s.number) (open_said row plans) ∙ judged-number (open_bars (length row) plans) []

pub sample-number : (row : List Board) (n : ℕ) (x : Readings) (mv : List ℕ) → sample_number row n x mv ≡ first (sample_row_bars row n x mv)
unfolding sample_number
sample-number row n x mv = ap (λ (s : Said). s.number) (sample-said row n x mv) ∙ judged-number (sample_row_bars row n x mv) (sample_values (board_at row (place_of n)) x mv)

pub list-number : (row : List Board) (n : ℕ) (words : List ℕ) → list_number row n words ≡ count_or_refusal (judged (list_bars row n words) (length (entries_of row n) ∷ []))
unfolding list_number
list-number row n words = ap count_or_refusal (list-said row n words)

pub frame-number : (row : List Board) (bytes buffer : List ℕ) → frame_number row bytes buffer ≡ first (frame_row_bars row bytes buffer)
unfolding frame_number
frame-number row bytes buffer = ap (λ (s : Said). s.number) (frame-said row bytes buffer) ∙ judged-number (frame_row_bars row bytes buffer) (frame_reply row bytes)

-- ---- an answer's number and what it puts, by what it says
pub number-is : {A : Type 0} (put : A → List ℕ) (a : Result A Refusal) → number_in a ≡ (said_by put a).number
number-is put (Ok a) = refl
number-is put (Err why) = refl

-- a value put as it is, where its numbers stand for it
pub put-is : {A : Type 0} (put : A → List ℕ) (taken : Said → A) → ((a : A) → taken (accepts (put a)) ≡ a)
    → (out : A) (a : Result A Refusal) → placed_in out a ≡ placed (said_by put a) out (taken (said_by put a))
put-is put taken back out (Ok a) = sym (back a)
put-is put taken back out (Err why) = rw (number-not-zero why)

-- an answer whose value is made another
abbrev pub map_ok : {A P : Type 0} → (A → P) → Result A Refusal → Result P Refusal
map_ok make (Ok a) = Ok (make a)
map_ok make (Err why) = Err why

pub number_map : {A P : Type 0} (make : A → P) (a : Result A Refusal) → number_in (map_ok make a) ≡ number_in a
number_map make (Ok a) = refl
number_map make (Err why) = refl

pub mapped : {A P : Type 0} (make : A → P) (a : Result A Refusal) (r : Result P Refusal) → MatchResult a (λ x. IsOkAnd r (λ p. p ≡ make x)) (λ e. r ≡ Err e) → r ≡ map_ok make a
mapped make (Ok x) (Ok p) h = ap Ok h
mapped make (Ok x) (Err e) h = absurd h
mapped make (Err e) r h = h

-- a value put by its numbers, where these stand for what is made of it
pub placed-is : {A P : Type 0} (put : A → List ℕ) (make : A → P) (taken : Said → P) → ((a : A) → taken (accepts (put a)) ≡ make a)
    → (out : P) (a : Result A Refusal) (r : Result P Refusal) → r ≡ map_ok make a → placed_in out r ≡ placed (said_by put a) out (taken (said_by put a))
placed-is put make taken back out (Ok a) r e = ap (placed_in out) e ∙ sym (back a)
placed-is put make taken back out (Err why) r e = ap (placed_in out) e ∙ refused why
  where
    refused : (why : Refusal) → out ≡ placed (said_by put (Err why)) out (taken (said_by put (Err why)))
    refused why = rw (number-not-zero why)
