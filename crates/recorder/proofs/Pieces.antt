-- Pieces of a recording put one after the other; and what was sent with its answer behind it is the act.
-- Assumes nothing.
use Prim.Native.Nat.{ℕ, zero, suc, ◌+◌, ◌/◌, ◌%◌, ◌<◌, ◌≤◌}
use native.Mathlib.Omega.{arith}
use native.Mathlib.Numerals.{add-one}
use native.Mathlib.Nat.{add-zero}
use mathlib.Core.Path.{◌≡◌, refl, sym, ap, ◌∙◌}
use mathlib.Core.Bool.{cond}
use mathlib.Core.List.{List, [], ◌∷◌, ◌++◌, append_assoc, append-nil}
use lib.Dec.{eqb}
use lib.ListN.{length, get_or, take, replicate, length-append}
use lib.Seq.{take-suc, take_all}
use borrow.Author.Tests.{eqb-true, eq-eqb, ne_eqb}
use Rattle.lists.proofs.Split.{split}
use Rattle.puts.specs.Put.{Put}
use Rattle.puts.proofs.Puts.{put_then}
use Rattle.format.specs.Format.{little, all_bytes, board_bytes, Sent, noted, kind_of, body_of, widths, fields, answer_bytes, act_bytes}
use Rattle.format.proofs.Sizes.{all_append}
use Rattle.recorder.specs.Recorder.{listed_of, answer_of}
use Rattle.recorder.specs.Way.{sent_bytes, answered}

pub put-none : {at : ℕ} {old : List ℕ} → Put at [] old old at
put-none {at} = record { after = sym (add-zero at); whole = refl }

-- ---- a list of pieces, piece by piece
module _ (bytes : ℕ → List ℕ) where
  -- the pieces of the entries before i
  abbrev pub before : List ℕ → ℕ → List ℕ
  before xs i = all_bytes bytes (take i xs)

  pub piece-turn : {at m r : ℕ} {old mid new : List ℕ} (xs : List ℕ) (i : ℕ) → i < length xs → Put at (before xs i) old mid m → Put m (bytes (get_or xs i 0)) mid new r → Put at (before xs (i + 1)) old new r
  piece-turn {at} {m} {r} {old} {mid} {new} xs i h p q =
      let one : before xs (i + 1) ≡ before xs i ++ bytes (get_or xs i 0) =
      ap (before xs) (add-one i) ∙ ap (all_bytes bytes) (take-suc xs i 0 h) ∙ all_append bytes (take i xs) (get_or xs i 0 ∷ []) ∙ ap (λ (l : List ℕ). before xs i ++ l) (append-nil (bytes (get_or xs i 0))) in
      rw one (put_then p q)

  pub piece-all : {at r : ℕ} {old new : List ℕ} (xs : List ℕ) (i : ℕ) → length xs ≤ i → Put at (before xs i) old new r → Put at (all_bytes bytes xs) old new r
  piece-all xs i h p = rw (take_all i xs h) at p

-- the bytes of a board are its kind and its cells
pub board-piece : (plan : ℕ) → plan / 256 % 256 ∷ plan % 256 ∷ [] ≡ board_bytes (listed_of plan)
unfolding board_bytes little
board-piece plan =
    let kind : plan / 256 % 256 % 256 ≡ plan / 256 % 256 = omega arith in
    let cells : plan % 256 % 256 ≡ plan % 256 = omega arith in
    rw (kind, cells)

-- ---- an answer: its number alone where that is a refusal's, else the values behind it
pub put_refused : {at r : ℕ} {old new : List ℕ} (ws vs : List ℕ) (number : ℕ) → (number ≡ 0 → ⊥) → Put at (little 1 number) old new r → Put at (answered ws number vs) old new r
unfolding answered
put_refused ws vs number some p = rw (ne_eqb number 0 some, append-nil (little 1 number)) p

pub put-accepted : {at m r : ℕ} {old mid new : List ℕ} (ws vs : List ℕ) (number : ℕ) → number ≡ 0 → Put at (little 1 number) old mid m → Put m (fields ws vs) mid new r → Put at (answered ws number vs) old new r
unfolding answered
put-accepted ws vs number none p q = rw (eq-eqb number 0 none) (put_then p q)

-- the same of its number and, where that is 0, its values
pub put-answered : {at r : ℕ} {old new : List ℕ} (ws vs values : List ℕ) (number : ℕ) → number < 256 → values ≡ fields ws vs → Put at (number ∷ cond (eqb number 0) values []) old new r → Put at (answered ws number vs) old new r
unfolding answered little
put-answered ws vs values number h e p = let same : number % 256 ≡ number = omega arith in rw (same, ← e) p

-- values of a byte each
pub byte-fields : (n : ℕ) (vs : List ℕ) → length vs ≡ n → ((i : ℕ) → get_or vs i 0 < 256) → vs ≡ fields (replicate n 1) vs
unfolding fields little
byte-fields zero [] e h = refl
byte-fields (suc n) (v ∷ vs) e h =
    let same : v % 256 ≡ v = omega (arith, h 0) in
    let rest : length vs ≡ n = omega (arith, e) in
    rw (same, ← byte-fields n vs rest (λ i. h (suc i)))
byte-fields zero (v ∷ vs) e h = absurd (omega (arith, e))
byte-fields (suc n) [] e h = absurd (omega (arith, e))

-- the first values of a longer list are of a byte each too
pub first-bytes : (n : ℕ) (l : List ℕ) → ((i : ℕ) → get_or l i 0 < 256) → (i : ℕ) → get_or (take n l) i 0 < 256
first-bytes zero l h i = omega arith
first-bytes (suc n) [] h i = omega arith
first-bytes (suc n) (x ∷ l) h zero = h 0
first-bytes (suc n) (x ∷ l) h (suc i) = first-bytes n l (λ j. h (suc j)) i

-- ---- an act is what was sent and its answer
answer-is : (s : Sent) (number : ℕ) (vs : List ℕ) → answered (widths s) number vs ≡ answer_bytes s (answer_of number vs)
unfolding answered answer_bytes fields
answer-is s number vs = split (eqb number 0) (λ e. rw (e, eqb-true number 0 e)) (λ e. rw (e, e))

pub act-is : (s : Sent) (number : ℕ) (vs : List ℕ) → sent_bytes s ++ answered (widths s) number vs ≡ act_bytes (noted s (answer_of number vs))
unfolding sent_bytes act_bytes
act-is s number vs =
    let kind = little 1 (kind_of s) in
    let long = little 1 (length (body_of s)) in
    rw (answer-is s number vs, append_assoc kind (long ++ body_of s) (answer_bytes s (answer_of number vs)), append_assoc long (body_of s) (answer_bytes s (answer_of number vs)))

-- ---- how long it is
sent-length : (s : Sent) → length (sent_bytes s) ≡ 2 + length (body_of s)
unfolding sent_bytes little
sent-length s = omega arith

answered-length : (ws vs : List ℕ) (number k : ℕ) → length (fields ws vs) ≡ k → length (answered ws number vs) ≡ cond (eqb number 0) (1 + k) 1
unfolding answered little
answered-length ws vs number k e = split (eqb number 0) (λ t. rw t (omega (arith, e))) (λ t. rw t)

pub act-length : (s : Sent) (number : ℕ) (vs : List ℕ) (k : ℕ) → length (fields (widths s) vs) ≡ k → length (act_bytes (noted s (answer_of number vs))) ≡ 2 + length (body_of s) + cond (eqb number 0) (1 + k) 1
act-length s number vs k e =
    ap length (sym (act-is s number vs)) ∙ length-append (sent_bytes s) (answered (widths s) number vs) ∙ rw (sent-length s, answered-length (widths s) vs number k e)
