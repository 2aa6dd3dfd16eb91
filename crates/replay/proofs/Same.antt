-- An act as the code does it again says and does what the act as it was sent does, and what five places tell of an answer tells it.
-- Assumes nothing.
use Prim.Native.Nat.{ℕ, zero, suc, ◌-◌, ◌/◌, ◌≤◌, min}
use native.Mathlib.Nat.{not-suc-le-zero}
use native.Mathlib.Omega.{arith}
use mathlib.Core.Path.{◌≡◌, refl, sym, ap, ap₂, ◌∙◌}
use mathlib.Core.Bool.{Bool, true, false, true≢false, cond, not, ◌&&◌}
use mathlib.Core.List.{List, [], ◌∷◌, ◌++◌}
use lib.Dec.{eqb, leb}
use lib.ListN.{length, get_or, take, drop, replicate, length-take}
use lib.Seq.{take-append_seam, take_all}
use borrow.Author.Tests.{eqb-true, eq-eqb, leb-true, leb-false}
use Rattle.lists.proofs.Split.{split, both}
use Rattle.std.proofs.Common.{Result, Ok, Err}
use Rattle.std.proofs.lemmas.List.{nil_from_length}
use Rattle.std.specs.Result.{result_eq}
use lib.Pointwise.{pointwise, bytes_decides}
use Rattle.refusal.specs.declared.Refusal.{Refusal}
use Rattle.refusal.specs.Said.{Said, accepts, said_by}
use Rattle.format.specs.Read.{number_in, pairs_in, signed, kind_in, long_in, sent_in}
use Rattle.format.proofs.Fronts.{pairs-length}
use Rattle.board.specs.declared.Board.{Board}
use Rattle.board.specs.Sample.{sampled_values}
use Rattle.frame.specs.Reply.{bytes_of}
use Rattle.reading.specs.Reading.{whole_said}
use Rattle.stack.specs.Read.{reading_of}
use Rattle.stack.specs.Sample.{sample_answer}
use Rattle.stack.specs.Frame.{frame_answer}
use Rattle.acts.specs.declared.Told.{Told}
use Rattle.acts.specs.declared.Told.TheVariants as told
use Rattle.acts.specs.InPlace.{told_of, act_told, act_row}
use Rattle.acts.proofs.Enough.{cells-enough, bytes-enough}
use Rattle.replay.specs.Check.{readings_by, lent, said_on, row_on, same_list, same}
use Rattle.replay.specs.Way.{front, sample_in, frame_in, act_in, places, padded, told_values, told_said}

-- ---- the first sixteen of a list, with zeros behind, and of these as many as it has
few-enough : (n : ℕ) (xs : List ℕ) → length xs ≡ n → take (min n 16) xs ≡ take 16 xs
few-enough n xs e =
    split (leb n 16)
    (λ few. let m : min n 16 ≡ n = omega (arith, leb-true n 16 few) in rw m (take_all n xs (omega (arith, e)) ∙ sym (take_all 16 xs (omega (arith, e, leb-true n 16 few)))))
    (λ many. let m : min n 16 ≡ 16 = omega (arith, leb-false n 16 many) in rw m)

pub front-first : (n : ℕ) (xs : List ℕ) → length xs ≡ n → take (min n 16) (front n xs) ≡ take 16 xs
front-first n xs e =
    let m = min n 16 in
    let long : length (take m xs) ≡ m = length-take m xs ∙ omega (arith, e) in
    ap (λ (k : ℕ). take k (take m xs ++ replicate (16 - m) 0)) (sym long) ∙ take-append_seam (take m xs) (replicate (16 - m) 0) ∙ few-enough n xs e

pub front-shown : (n : ℕ) (xs : List ℕ) → length xs ≡ n → n ≤ 16 → take n (front n xs) ≡ xs
front-shown n xs e few =
    let m : min n 16 ≡ n = omega (arith, few) in
    ap (λ (k : ℕ). take k (front n xs)) (sym m) ∙ front-first n xs e ∙ take_all 16 xs (omega (arith, e, few))

-- ---- what is told of an act says the same as the answer itself
says : {A : Type 0} (tells : A → Told) (values : A → List ℕ) → ((a : A) → told_values (tells a) ≡ values a) → (r : Result A Refusal) → told_said (told_of tells r) ≡ said_by values r
says tells values same (Ok a) = ap accepts (same a)
says tells values same (Err why) = refl

-- ---- the act, where its body is whole
module _ (row : List Board) (rest : List ℕ) (body : long_in rest ≤ length (drop 2 rest)) where
  abbrev Alike : Type 0
  Alike = (told_said (act_told row (act_in rest)) ≡ said_on row (sent_in rest)) × (act_row row (act_in rest) ≡ row_on row (sent_in rest))

  of-sample : eqb (kind_in rest) 1 ≡ true → Alike
  unfolding act_told act_row act_in sent_in sample_in
  of-sample e =
      let b = drop 2 rest in
      let n = (long_in rest - 12) / 2 in
      let xs = pairs_in n (drop 12 b) in
      let x = readings_by (number_in 4 (drop 1 b)) (number_in 1 (drop 5 b)) (number_in 2 (drop 6 b)) (signed (number_in 4 (drop 8 b))) in
      let enough = cells-enough row (number_in 1 b) x xs in
      let cells = front-first n xs (pairs-length n (drop 12 b)) in
      (rw (e, cells, enough.0) (says told.Status sampled_values (λ s. refl) (sample_answer row (number_in 1 b) x xs)), rw (e, cells) enough.1)

  of-frame : eqb (kind_in rest) 1 ≡ false → eqb (kind_in rest) 2 ≡ true → Alike
  unfolding act_told act_row act_in sent_in frame_in
  of-frame e f =
      let n = long_in rest in
      let xs = take n (drop 2 rest) in
      let enough = bytes-enough row lent xs in
      let bytes = front-first n xs (length-take n (drop 2 rest) ∙ omega (arith, body)) in
      (rw (e, f, bytes, enough.0) (says told.Reply bytes_of (λ r. refl) (frame_answer row xs lent)), rw (e, f, bytes) enough.1)

  of-reading : eqb (kind_in rest) 1 ≡ false → eqb (kind_in rest) 2 ≡ false → Alike
  unfolding act_told act_row act_in sent_in
  of-reading e f = (rw (e, f) (says told.Reading whole_said (λ w. refl) (reading_of row)), rw (e, f))

  pub act-alike : Alike
  act-alike = split (eqb (kind_in rest) 1) of-sample (λ e. split (eqb (kind_in rest) 2) (of-frame e) (of-reading e))

-- ---- an accepted act says as many values as its kind has, and a refused one none
abbrev pub Shaped : ℕ → Said → Type 0
Shaped k s = length s.values ≡ cond (eqb s.number 0) k 0

-- five places tell so few values
places-once : (n : ℕ) (xs ys : List ℕ) → length xs ≡ length ys → length xs ≤ n → places n xs ≡ places n ys → xs ≡ ys
places-once n [] [] e l p = refl
places-once n [] (y ∷ ys) e l p = absurd (omega (arith, e))
places-once n (x ∷ xs) [] e l p = absurd (omega (arith, e))
places-once zero (x ∷ xs) (y ∷ ys) e l p = absurd (not-suc-le-zero l)
places-once (suc n) (x ∷ xs) (y ∷ ys) e l p =
    ap₂ (λ (z : ℕ) (zs : List ℕ). z ∷ zs) (ap (λ (vs : List ℕ). get_or vs 0 0) p) (places-once n xs ys (omega (arith, e)) (omega (arith, l)) (ap (drop 1) p))

abbrev of : ℕ → List ℕ → Said
of n vs = record { number = n; values = vs }

pub padded-once : (k : ℕ) (a b : Said) → k ≤ 5 → Shaped k a → Shaped k b → padded a ≡ padded b → a ≡ b
unfolding padded
padded-once k a b few sa sb e =
    split (eqb a.number 0)
    (λ za.
    split (eqb b.number 0)
    (λ zb.
    let same : Ok (places 5 a.values) ≡ Ok (places 5 b.values) = rw (za, zb) at e in
    let five : places 5 a.values ≡ places 5 b.values = cc in
    let la : length a.values ≡ k = rw za at sa in
    let lb : length b.values ≡ k = rw zb at sb in
    ap₂ of (eqb-true a.number 0 za ∙ sym (eqb-true b.number 0 zb)) (places-once 5 a.values b.values (la ∙ sym lb) (omega (arith, la, few)) five))
    (λ zb. let other : Ok (places 5 a.values) ≡ Err b.number = rw (za, zb) at e in absurd cc))
    (λ za.
    split (eqb b.number 0)
    (λ zb. let other : Err a.number ≡ Ok (places 5 b.values) = rw (za, zb) at e in absurd cc)
    (λ zb.
    let same : Err a.number ≡ Err b.number = rw (za, zb) at e in
    let number : a.number ≡ b.number = cc in
    let la : length a.values ≡ 0 = rw za at sa in
    let lb : length b.values ≡ 0 = rw zb at sb in
    ap₂ of number (nil_from_length a.values la ∙ sym (nil_from_length b.values lb))))

-- ---- two answers are the same where the code's test says so
abbrev alike : Result (List ℕ) ℕ → Result (List ℕ) ℕ → Bool
alike = result_eq (pointwise eqb) eqb

alike-is : (r s : Result (List ℕ) ℕ) → alike r s ≡ true → r ≡ s
alike-is (Ok xs) (Ok ys) e = ap (λ (vs : List ℕ). Ok vs) ((bytes_decides xs ys).0 e)
alike-is (Ok xs) (Err n) e = absurd (true≢false (sym e))
alike-is (Err m) (Ok ys) e = absurd (true≢false (sym e))
alike-is (Err m) (Err n) e = ap (λ (k : ℕ). Err k) (eqb-true m n e)

is_alike : (r : Result (List ℕ) ℕ) → alike r r ≡ true
is_alike (Ok xs) = (bytes_decides xs xs).1 refl
is_alike (Err n) = eq-eqb n n refl

module _ (r s : Result (List ℕ) ℕ) (ne : Bool) (en : ne ≡ not (alike r s)) where
  pub same-answer : ne ≡ false → r ≡ s
  same-answer e = alike-is r s (yes (alike r s) (sym en ∙ e))
    where
      yes : (b : Bool) → not b ≡ false → b ≡ true
      yes true f = refl
      yes false f = absurd (true≢false f)

  pub other-answer : ne ≡ true → r ≡ s → ⊥
  other-answer e is = true≢false (sym e ∙ en ∙ ap not (ap (alike r) (sym is) ∙ is_alike r))

-- ---- the same answer
same_lists : (xs ys : List ℕ) → same_list xs ys ≡ true → xs ≡ ys
same_lists [] [] e = refl
same_lists [] (y ∷ ys) e = absurd (true≢false (sym e))
same_lists (x ∷ xs) [] e = absurd (true≢false (sym e))
same_lists (x ∷ xs) (y ∷ ys) e = let h = both (eqb x y) (same_list xs ys) e in ap₂ (λ (z : ℕ) (zs : List ℕ). z ∷ zs) (eqb-true x y h.0) (same_lists xs ys h.1)

list_same : (xs : List ℕ) → same_list xs xs ≡ true
list_same [] = refl
list_same (x ∷ xs) = rw (eq-eqb x x refl, list_same xs)

pub same-is : (a b : Said) → same a b ≡ true → a ≡ b
same-is a b e = let h = both (eqb a.number b.number) (same_list a.values b.values) e in ap₂ of (eqb-true a.number b.number h.0) (same_lists a.values b.values h.1)

pub is_same : (a b : Said) → a ≡ b → same a b ≡ true
is_same a b e = rw e (ap₂ (λ (x y : Bool). x && y) (eq-eqb b.number b.number refl) (list_same b.values))
