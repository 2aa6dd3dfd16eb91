-- A local array whose first k elements are lent for one call, as a `&mut [T]` or as a `&[T]`, and taken back.
-- Assumes nothing.
--     MadeOf           that what is returned is made of the array and the answer
--     first-many, first-room     the first k of N are k, and have room
--     lends_first, first_home     [the array's cell] to [the new token; what the `&mut [T]` owns; what the lender keeps], and back with what the callee left
--     shows_first, shown-home     the same with a `&[T]`, and back as it was.        first-as, first-shown     the first of it as a `&mut [T]` and as a `&[T]`
--     parts, wholes    the array's cell is the first k elements and the others, and back at other elements
--     PlainMade, has-made     a declared struct of an array of records and an answer
--     array-into       the relation of an array of a declared type is that of the array as a field of a struct
use mathlib.Core.Path.{◌≡◌, refl, sym, ◌∙◌, ap, subst}
use Prim.Native.Nat.{ℕ, ◌≤◌}
use native.Mathlib.Nat.{mul-le-mul_right, lt_of_le_of_lt, min-eq_left}
use mathlib.Core.List.{List, [], ◌∷◌, ◌++◌, map}
use lib.Dec.{T as Holds}
use lib.ListN.{length, take, length-take, drop as drop_n, take-append-drop, length-map}
use seplogic.Ra.Ura.{Ura}
use base.Fraction.{full_share}
use mir.Syntax.{Ty, named}
use mir.Val.{Val, WT, has_ty, vstruct, vcons, vnil}
use base.Logic.{ent, sep, ex}
use base.Fml.{GName, Fml, fsep, fat, flft, flent}
use types.Logic.{Logic, sem}
use types.Kit.{Goal, Soaks, Item, Seq, ‵, ◌⊛◌, some, later, Step, step, ◌$◌, ◌∵◌, !, qed, move, drop, use1, use2, use3, split, pick, rewrite, fsplit, fjoin, feq_l, feq_i, await, done}
use types.SemTy.{cells, Arr}
use types.Share.{arr_parts}
use types.Tokens.{lft_new, lft_end, lent_back}
use denote.RattleType.{RattleType}
use denote.Shadow.{shadow}
use denote.Laws.{Is, shows}
use denote.Memory.{mem, part_at, shares}
use denote.Array.{Array, each}
use denote.ArrayMemory.{Single, Array-apart, Array-whole}
use denote.Ref.{MutBor, Bor}
use denote.Slice.{Room}
use denote.Lend.{Held, lends_slice, slice_back, lends_shr_slice}
use denote.Index.{row, whole_out, whole_in}
use denote.Steps.{only, owned, facts}
use denote.Struct.Declared as D
use borrow.Table.Elements.{at, cut_app, join_app, same_len}
use borrow.Table.OneValue.{part_in, part_out}
use Rattle.walks.proofs.Plain.{ty, PlainType, has-at, pair-ty, array-val, array}
use Rattle.walks.proofs.Form.{shared, mut_slice, slice-last}

-- what is returned is made of the array, with what was left of its first n, and of the answer
abbrev pub MadeOf : {Y O Q : Type 0} → (List Y → O → Q) → List Y → ℕ → (List Y → O) → (List Y → List Y) → Q → Type 0
MadeOf {Y} {O} made ys n F B all = (r : O) (zs : List Y) → r ≡ F (take n ys) → zs ≡ B (take n ys) → made (zs ++ drop_n n ys) r ≡ all

-- the first k of an array of N are k, and have room where N have
pub first-many : {X : Type 0} (l : List X) (k n : ℕ) → length l ≡ n → k ≤ n → k ≡ length (take k l)
first-many l k n e h = sym (length-take k l ∙ min-eq_left (subst (λ (j : ℕ). k ≤ j) (sym e) h))

pub first-room : (R : RattleType) (l : List R.Denot) (k n : ℕ) → Room R n → length l ≡ n → k ≤ n → Room R (length (take k l))
first-room R l k n (c, d) e h = subst (Room R) (first-many l k n e h) (lt_of_le_of_lt h c, lt_of_le_of_lt (mul-le-mul_right (mem R).size h) d)

-- the array at the block b, of which the first k are lent
module _ (R : RattleType) (N b : ℕ) where
  abbrev Whole : RattleType
  Whole = Array R N

  abbrev cell-of : Val → Fml
  cell-of w = fat full_share (ty Whole) b 0 w

  abbrev pub first-as : GName → List R.Denot → MutBor (List R.Denot)
  first-as γ l = record { ref_ptr = (b, 0); ghost_name = γ; now = l }

  abbrev pub first-shown : List R.Denot → Bor (List R.Denot)
  first-shown l = record { ref_ptr = (b, 0); now = l }

  module _ (xs : List R.Denot) (k : ℕ) where
    -- the elements past k, and with them the way back of the first k
    abbrev past : Fml
    past = cells (mem R) (drop_n k xs) b (at 0 (mem R).size (length (take k xs)))

    abbrev way : ℕ → GName → Fml
    way ν γ = flent (ν ∷ []) (Held R (length (take k xs)) b 0 γ)

    abbrev shared-way : ℕ → Fml
    shared-way ν = flent (ν ∷ []) ((arr_parts (shares R) (length (take k xs))).part full_share (take k xs) b 0)

    abbrev pub FirstKept : ℕ → GName → Fml
    FirstKept ν γ = fsep (way ν γ) past

    abbrev pub ShownKept : ℕ → Fml
    ShownKept ν = fsep (shared-way ν) past

    module _ {M : Type 1} {𝓤 : Ura M} (𝓛 : Logic 𝓤) where
      cuts : Single R.mir → (w : Val) → ent 𝓤 (sep 𝓤 (sem 𝓛 (cell-of w)) (sem 𝓛 (Whole.own_val xs (w ∷ [])))) (sep 𝓤 (sem 𝓛 (cells (mem R) (take k xs) b 0)) (sem 𝓛 past))
      cuts single w =
          qed 𝓛 (‵ (cell-of w) ∷ ‵ (Whole.own_val xs (w ∷ [])) ∷ []) ∵ use2 𝓛 (‵ (part_at Whole full_share xs b 0)) (part_in 𝓛 Whole refl full_share xs b 0 w) $
          use1 𝓛 (‵ ((arr_parts (shares R) N).part full_share xs b 0)) (Array-apart 𝓛 R full_share single N xs b 0) $ fsplit ! $ drop ! $ use1 𝓛 (‵ (cells (mem R) xs b 0)) (whole_in 𝓛 R xs b 0) $
          rewrite ! 0 (λ (l : List R.Denot). ‵ (cells (mem R) l b 0)) (sym (take-append-drop k xs)) refl $ use1 𝓛 (‵ (cells (mem R) (take k xs) b 0) ⊛ ‵ past) (cut_app 𝓛 (mem R) (take k xs) (drop_n k xs) b 0) $ done !

      joins : (zs : List R.Denot) → length zs ≡ length (take k xs) → length xs ≡ N → ent 𝓤 (sep 𝓤 (sem 𝓛 (cells (mem R) zs b 0)) (sem 𝓛 past)) (ex 𝓤 (λ (w : Val). sep 𝓤 (sem 𝓛 (cell-of w)) (sem 𝓛 (Whole.own_val (zs ++ drop_n k xs) (w ∷ [])))))
      joins zs e l =
          let all = zs ++ drop_n k xs in
          qed 𝓛 (‵ (cells (mem R) zs b 0) ∷ ‵ past ∷ []) ∵ rewrite ! 1 (λ (j : ℕ). ‵ (cells (mem R) (drop_n k xs) b (at 0 (mem R).size j))) (sym e) refl $ use2 𝓛 (‵ (cells (mem R) all b 0)) (join_app 𝓛 (mem R) zs (drop_n k xs) b 0) $
          use1 𝓛 (‵ (row R full_share all b 0)) (whole_out 𝓛 R all b 0) $ feq_i ! ℕ (length all) N (same_len k xs zs e ∙ l) $ fjoin ! $ use1 𝓛 (‵ (part_at Whole full_share all b 0)) (Array-whole 𝓛 R full_share N all b 0) $
          use1 𝓛 (some (λ (w : Val). ‵ (cell-of w) ⊛ ‵ (Whole.own_val all (w ∷ [])))) (part_out 𝓛 Whole refl full_share all b 0) $ done !

-- the array's cell with the list l in it, and that l is such an array
module _ {M : Type 1} {𝓤 : Ura M} {𝓛 : Logic 𝓤} (R : RattleType) (P : PlainType 𝓛 R) (N : ℕ) where
  abbrev holds : ℕ → List R.Denot → Item 𝓤
  holds b l = ‵ (cell-of R N b (array-val P.val l))

  abbrev Is-array : List R.Denot → Type 0
  Is-array l = Is (Array R N) l (array-val P.val l ∷ [])

-- ---- the steps, for an element of one MIR type
module _ {M : Type 1} {𝓤 : Ura M} {𝓛 : Logic 𝓤} {K : Type 0} {Γ : List (Item 𝓤)} {G : Goal 𝓤 𝓛.H} (R : RattleType) (P : PlainType 𝓛 R) (N b : ℕ) (xs : List R.Denot) (k : ℕ) where
  -- [the array's cell]  to  [the first k; the others]
  parts : K → Single R.mir → Is-array R P N xs → Step K 𝓛 (‵ (cells (mem R) (take k xs) b 0) ∷ ‵ (past R N b xs k) ∷ Γ) G (holds R P N b xs ∷ Γ) G
  parts t single is = step (λ s. owned t (Array R N) (Is (Array R N)) (array 𝓛 R P N).makes xs _ is $ move t (1 ∷ 0 ∷ []) $
      use2 𝓛 (‵ (cells (mem R) (take k xs) b 0) ⊛ ‵ (past R N b xs k)) (cuts R N b xs k 𝓛 single (array-val P.val xs)) $ split t $ s)

  -- and back at other elements
  wholes : K → (zs : List R.Denot) → length zs ≡ length (take k xs) → length xs ≡ N → (Is-array R P N (zs ++ drop_n k xs) → Seq K 𝓛 (holds R P N b (zs ++ drop_n k xs) ∷ Γ) G) → Seq K 𝓛 (‵ (cells (mem R) zs b 0) ∷ ‵ (past R N b xs k) ∷ Γ) G
  wholes t zs e l go =
      use2 𝓛 (some (λ (w : Val). ‵ (cell-of R N b w) ⊛ ‵ ((Array R N).own_val (zs ++ drop_n k xs) (w ∷ [])))) (joins R N b xs k 𝓛 zs e l) $ pick t (λ w. split t $ move t (1 ∷ []) $
      facts t (Array R N) (Is (Array R N)) (shows 𝓛 (Array R N)) (zs ++ drop_n k xs) (w ∷ []) (λ is.
      rewrite t 0 (λ (v : Val). ‵ (cell-of R N b v)) (ap only ((array 𝓛 R P N).tells (zs ++ drop_n k xs) (w ∷ []) is)) refl $ go (subst (Is (Array R N) (zs ++ drop_n k xs)) ((array 𝓛 R P N).tells (zs ++ drop_n k xs) (w ∷ []) is) is)))

module _ {M : Type 1} {𝓤 : Ura M} {𝓛 : Logic 𝓤} {K : Type 0} {Γ : List (Item 𝓤)} {G : Goal 𝓤 𝓛.H} (R : RattleType) (P : PlainType 𝓛 R) (N b : ℕ) (xs : List R.Denot) (k : ℕ) where
  pub lends_first : K → Soaks G → Single R.mir → Is-array R P N xs → Room R (length (take k xs))
      → ((ν : ℕ) (γ : GName) → Seq K 𝓛 (‵ (flft (ν ∷ []) full_share) ∷ ‵ (mut_slice R (ν ∷ []) (first-as R N b γ (take k xs))) ∷ ‵ (FirstKept R N b xs k ν γ) ∷ Γ) G) → Seq K 𝓛 (holds R P N b xs ∷ Γ) G
  lends_first t z single is room go =
      parts R P N b xs k t single is $ lft_new t z (λ ν. move t (1 ∷ []) $
      use1 𝓛 (later (some (λ (γ : GName). ‵ (mut_slice R (ν ∷ []) (first-as R N b γ (take k xs))) ⊛ ‵ (way R N b xs k ν γ)))) (lends_slice 𝓛 R (named 0) (ν ∷ []) (take k xs) b 0 room) $ await t z $ pick t (λ γ. split t $
      move t (1 ∷ 3 ∷ []) $ fjoin t $ move t (2 ∷ 1 ∷ 0 ∷ []) $ go ν γ))

  pub first_home : K → Soaks G → (ν : ℕ) (γ : GName) (zs : List R.Denot) → length xs ≡ N
      → (Is-array R P N (zs ++ drop_n k xs) → Seq K 𝓛 (holds R P N b (zs ++ drop_n k xs) ∷ Γ) G) → Seq K 𝓛 (‵ (flft (ν ∷ []) full_share) ∷ ‵ (slice-last R (ν ∷ []) (first-as R N b γ (take k xs)) zs) ∷ ‵ (FirstKept R N b xs k ν γ) ∷ Γ) G
  first_home t z ν γ zs l go =
      lft_end t z $ move t (1 ∷ []) $ fsplit t $ move t (1 ∷ []) $ drop t $ move t (1 ∷ 0 ∷ []) $ move t (2 ∷ []) $ fsplit t $ move t (2 ∷ 0 ∷ 3 ∷ []) $ use3 𝓛 (later (‵ ((Arr (mem R) (length (take k xs))).own_at zs b 0))) (slice_back 𝓛 R (ν ∷ []) γ zs (length (take k xs)) b 0) $ await t z $ fsplit t $ feq_l t (λ e. wholes R P N b xs k t zs e l go)

  pub shows_first : K → Soaks G → Single R.mir → Is-array R P N xs → Room R (length (take k xs))
      → ((ν : ℕ) → Seq K 𝓛 (‵ (flft (ν ∷ []) full_share) ∷ ‵ (shared R (ν ∷ []) (first-shown R N b (take k xs))) ∷ ‵ (ShownKept R N b xs k ν) ∷ Γ) G) → Seq K 𝓛 (holds R P N b xs ∷ Γ) G
  shows_first t z single is room go =
      parts R P N b xs k t single is $ use1 𝓛 (‵ (row R full_share (take k xs) b 0)) (whole_out 𝓛 R (take k xs) b 0) $ feq_i t ℕ (length (take k xs)) (length (take k xs)) refl $ fjoin t $ lft_new t z (λ ν. move t (1 ∷ 0 ∷ []) $
      use2 𝓛 (later ((‵ (shared R (ν ∷ []) (first-shown R N b (take k xs))) ⊛ ‵ (shared-way R N b xs k ν)) ⊛ ‵ (flft (ν ∷ []) full_share)))
      (lends_shr_slice 𝓛 R (named 0) (ν ∷ []) full_share (take k xs) b 0 room (ν ∷ []) (P.copied.shares full_share (ν ∷ [])) ((ν ∷ [], full_share) ∷ []) (λ x m. m) (λ x m. m)) $ await t z $ split t $ split t $
      move t (1 ∷ 3 ∷ []) $ fjoin t $ move t (2 ∷ 1 ∷ 0 ∷ []) $ go ν)

  -- what was shown need not come home: its token and what the lender keeps do
  pub shown-home : K → Soaks G → (ν : ℕ) → length xs ≡ N
      → (Is-array R P N (take k xs ++ drop_n k xs) → Seq K 𝓛 (holds R P N b (take k xs ++ drop_n k xs) ∷ Γ) G) → Seq K 𝓛 (‵ (flft (ν ∷ []) full_share) ∷ ‵ (ShownKept R N b xs k ν) ∷ Γ) G
  shown-home t z ν l go =
      lft_end t z $ move t (1 ∷ []) $ fsplit t $ move t (2 ∷ 0 ∷ []) $ lent_back t z $ fsplit t $ drop t $ use1 𝓛 (‵ (cells (mem R) (take k xs) b 0)) (whole_in 𝓛 R (take k xs) b 0) $ wholes R P N b xs k t (take k xs) refl l go

-- ---- a declared struct Q of an array of N records and an answer, as it is made of them
pub record PlainMade {M : Type 1} {𝓤 : Ura M} (𝓛 : Logic 𝓤) (T : D.Declared) (N : ℕ) (O : RattleType) (Q : D.Declared) (made : List T.D → O.Denot → Q.D) : Type 1 where
  pub record-type : PlainType 𝓛 (D.row T)
  pub answer-type : PlainType 𝓛 O
  pub both : PlainType 𝓛 (D.row Q)
  -- for the types of a crate the first is refl, and the second is `array-into` and the answer's own, beside refl; the third is two numerals compared
  pub laid_out : ty (D.row Q) ≡ pair-ty Q (Array (D.row T) N) O
  pub made-is : (l : List T.D) (r : O.Denot) → Is (Array (D.row T) N) l (array-val record-type.val l ∷ []) → Is O r (answer-type.val r ∷ []) → Is (D.row Q) (made l r) (vstruct (vcons (array-val record-type.val l) (vcons (answer-type.val r) vnil)) ∷ [])
  pub room : Room (D.row T) N

module _ {M : Type 1} {𝓤 : Ura M} {𝓛 : Logic 𝓤} {T : D.Declared} {N : ℕ} {O : RattleType} {Q : D.Declared} {made : List T.D → O.Denot → Q.D} (P : PlainMade 𝓛 T N O Q made) where
  pub has-made : (z : Q.D) (v : Val) → Is (D.row Q) z (v ∷ []) → Holds (has_ty (pair-ty Q (Array (D.row T) N) O) v) × WT v
  has-made z v is = subst (λ (τ : Ty). Holds (has_ty τ v) × WT v) P.laid_out (has-at P.both z v is)

-- ---- as a field of a struct, an array of the declared type T is one of the tuples of T's fields
module _ (T : D.Declared) where
  abbrev Tuple : RattleType
  Tuple = (D.field T).row

  tuples : (xs : List T.D) (us : List Val) → shadow (each T.D (D.row T).own_val xs us) → shadow (each Tuple.Denot Tuple.own_val (map T.to xs) us)
  tuples [] [] is = is
  tuples [] (u ∷ us) is = is
  tuples (x ∷ xs) [] is = is
  tuples (x ∷ xs) (u ∷ us) is = (is.0, tuples xs us is.1)

  pub array-into : (n : ℕ) (xs : List T.D) (vs : List Val) → Is (Array (D.row T) n) xs vs → Is (Array Tuple n) (map T.to xs) vs
  array-into n xs vs (us, ((spelled, long), is)) = (us, ((spelled, length-map xs T.to ∙ long), tuples xs us is))
