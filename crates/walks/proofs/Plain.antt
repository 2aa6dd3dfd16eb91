-- Plain types: what a walk uses of a type that owns only facts and has one machine value.
-- Assumes nothing.
--     ty R             the MIR type of a local of the type R
--     PlainType R      the machine value, that the relation tells it, that the relation makes what is owned, that the value has the type, that it is copied, that it leaves a function as it came, that it has one MIR type, and that a share of it is cut, lent and looked into
--     Shown-twice, shown-twice     that a `&[R]` can be handed on as a copy, as it can where R is plain
--     has-at, has, last, silent     the same as a store, the end of a walk and the law of a parameter ask for them
--     uint, sint, boolean, struct, enumeration, array     a number, unsigned or signed, a bool, a declared struct or enum of plain fields, an array of a plain type.        array-val     the machine value of an array
--     PlainPair, has-pair     a declared struct of exactly two plain fields, as a function by value returns the record and the answer
use mathlib.Core.Path.{◌≡◌, refl, sym, subst}
use Prim.Native.Nat.{ℕ}
use mathlib.Core.List.{List, [], ◌∷◌}
use lib.Dec.{T as Holds}
use seplogic.Ra.Ura.{Ura}
use mir.Syntax.{Ty, named, ty_struct, tcons, tnil, Width}
use mir.Val.{Val, WT, has_ty, of_z, vint, vbool, vstruct, vcons, vnil}
use base.Fml.{Lft, ftrue}
use types.Logic.{Logic}
use denote.RattleType.{RattleType}
use denote.ArrayMemory.{Single}
use denote.Copied.{Copied, uint_Copied, sint_Copied, bool_Copied, Array-Copied, each_Twice}
use denote.Slice.{ShrSlice, shr_slice_at, elements_shared}
use denote.Shadow.{pure_l, pure_i}
use denote.Opens.{twice_dup}
use types.Kit.{‵, ◌$◌, ◌∵◌, !, qed, fsplit, fjoin, frame, done}
use denote.Exit.{Exit, unchanged, each_of, yes, Last, left}
use denote.Laws.{Is, Typed, Tells, Makes, Lawful, Copy}
use denote.Plain.{UInt, Boolean, uint_Tells, uint_Makes, uint_Lawful, uint_copy, bool_Tells, bool_Makes, bool_Lawful, bool-copy}
use denote.Signed.{SInt, sint_Tells, sint_Makes, sint_Lawful, sint_copy}
use denote.Array.{Array, array_vals, Array-Tells, Array-Makes, Array-Lawful, array_copy}
use denote.Signature.{plain}
use denote.Steps.{only}
use denote.Memory.{lone}
use denote.Struct.Declared as D
use denote.Struct.Struct.{Plains}
use denote.Struct.Laws as LL
use denote.Enum.Declared as ED
use denote.Enum.Enum.{Plainss, Few}
use denote.Enum.Laws as EL
use denote.Triple.Walked.{Silent}

abbrev pub ty : RattleType → Ty
ty R = lone R.mir

-- a `&[R]` can be handed on as a copy
abbrev pub Shown-twice : {M : Type 1} {𝓤 : Ura M} → Logic 𝓤 → RattleType → Type 1
Shown-twice 𝓛 R = (κ : Lft) → Copy 𝓛 (ShrSlice (named 0) κ R)

pub shown-twice : {M : Type 1} {𝓤 : Ura M} (𝓛 : Logic 𝓤) (R : RattleType) → Copied 𝓛 R → Shown-twice 𝓛 R
shown-twice 𝓛 R c κ = record {
  twice = λ x vs. qed 𝓛 (‵ ((ShrSlice (named 0) κ R).own_val x vs) ∷ []) ∵ fsplit ! $ pure_l ! (shr_slice_at R x vs) (λ p.
      twice_dup ! (elements_shared R x.now x.ref_ptr.0 x.ref_ptr.1) (each_Twice 𝓛 R c x.now x.ref_ptr.0 x.ref_ptr.1) κ $
      pure_i ! (shr_slice_at R x vs) (tt, (tt, tt)) p $ fjoin ! $ frame ! $ pure_i ! (shr_slice_at R x vs) (tt, (tt, tt)) p $ done !);
}

module _ {M : Type 1} {𝓤 : Ura M} (𝓛 : Logic 𝓤) (R : RattleType) where
  pub record PlainType : Type 1 where
    pub val : R.Denot → Val
    pub tells : Tells R (Is R) (λ x. val x ∷ [])
    pub makes : Makes 𝓛 R (Is R)
    pub lawful : Lawful 𝓛 R
    pub copies : Copy 𝓛 R
    pub still : R.exit yes ≡ unchanged
    pub alone : Single R.mir
    pub copied : Copied 𝓛 R

one_typed : (τs : List Ty) (v : Val) → Typed τs (v ∷ []) → Holds (has_ty (lone τs) v) × WT v
one_typed [] v h = absurd h
one_typed (τ ∷ []) v h = h.0
one_typed (τ ∷ σ ∷ τs) v h = absurd h.1

module _ {M : Type 1} {𝓤 : Ura M} {𝓛 : Logic 𝓤} {R : RattleType} (P : PlainType 𝓛 R) where
  pub has-at : (x : R.Denot) (v : Val) → Is R x (v ∷ []) → Holds (has_ty (ty R) v) × WT v
  has-at x v is = one_typed R.mir v (P.lawful.typed x (v ∷ []) is)

  pub has : (x : R.Denot) → Is R x (P.val x ∷ []) → Holds (has_ty (ty R) (P.val x)) × WT (P.val x)
  has x is = has-at x (P.val x) is

  pub last : (x : R.Denot) → Last (R.exit yes) x
  last x = subst (λ (e : Exit R.Denot). Last e x) (sym P.still) tt

  pub silent : (n : ℕ) → Silent 𝓛 n (plain (λ _. R)) yes
  silent n κs x = subst (λ (e : Exit R.Denot). (f : Last e x) → left e x f ≡ ftrue) (sym P.still) (λ _. refl)

-- ---- a declared struct Q of exactly two plain fields, of the types R and O
abbrev pub pair-ty : D.Declared → RattleType → RattleType → Ty
pair-ty Q R O = ty_struct Q.name (tcons (ty R) (tcons (ty O) tnil))

pub record PlainPair {M : Type 1} {𝓤 : Ura M} (𝓛 : Logic 𝓤) (Q : D.Declared) (R O : RattleType) (one : Q.D → R.Denot) (two : Q.D → O.Denot) : Type 1 where
  pub both : PlainType 𝓛 (D.row Q)
  pub first : PlainType 𝓛 R
  pub second : PlainType 𝓛 O
  -- for the types of a crate these two are refl, and the third is of `LL.owed` the parts.0 and .1 .0
  pub laid_out : ty (D.row Q) ≡ pair-ty Q R O
  pub spelled : (z : Q.D) → both.val z ≡ vstruct (vcons (first.val (one z)) (vcons (second.val (two z)) vnil))
  pub owed : (z : Q.D) → Is (D.row Q) z (both.val z ∷ []) → Is R (one z) (first.val (one z) ∷ []) × Is O (two z) (second.val (two z) ∷ [])

module _ {M : Type 1} {𝓤 : Ura M} {𝓛 : Logic 𝓤} {Q : D.Declared} {R O : RattleType} {one : Q.D → R.Denot} {two : Q.D → O.Denot} (P : PlainPair 𝓛 Q R O one two) where
  pub has-pair : (z : Q.D) → Is (D.row Q) z (P.both.val z ∷ []) → Holds (has_ty (pair-ty Q R O) (P.both.val z)) × WT (P.both.val z)
  has-pair z is = subst (λ (τ : Ty). Holds (has_ty τ (P.both.val z)) × WT (P.both.val z)) P.laid_out (has P.both z is)

abbrev pub array-val : {X : Type 0} → (X → Val) → List X → Val
array-val val l = only (array_vals (λ x. val x ∷ []) l)

-- ---- the types. 𝓛 is what the laws of a type take for granted
module _ {M : Type 1} {𝓤 : Ura M} (𝓛 : Logic 𝓤) where
  module _ (w : Width) where
    abbrev pub uint : PlainType 𝓛 (UInt w)
    uint = record { val = vint w; tells = uint_Tells w; makes = uint_Makes 𝓛 w; lawful = uint_Lawful 𝓛 w; copies = uint_copy 𝓛 w; still = refl; alone = tt; copied = uint_Copied 𝓛 w }

    abbrev pub sint : PlainType 𝓛 (SInt w)
    sint = record { val = λ z. vint w (of_z w z); tells = sint_Tells w; makes = sint_Makes 𝓛 w; lawful = sint_Lawful 𝓛 w; copies = sint_copy 𝓛 w; still = refl; alone = tt; copied = sint_Copied 𝓛 w }

  abbrev pub boolean : PlainType 𝓛 Boolean
  boolean = record { val = vbool; tells = bool_Tells; makes = bool_Makes 𝓛; lawful = bool_Lawful 𝓛; copies = bool-copy 𝓛; still = refl; alone = tt; copied = bool_Copied 𝓛 }

  -- of T's module `Laws` it takes `the_laws`, `the_plain` and `the_copy`, here and for an enum
  abbrev pub struct : (T : D.Declared) → LL.Laws T → Plains (D.fields T) → LL.Copyables T.parts → PlainType 𝓛 (D.row T)
  struct T L pl cp = record {
    val = LL.val T L;
    tells = LL.tells T L;
    makes = LL.makes T pl 𝓛;
    lawful = LL.lawful T L 𝓛;
    copies = LL.copy T cp 𝓛;
    still = LL.still T cp yes;
    alone = tt;
    copied = LL.copied T cp 𝓛;
  }

  -- `Few` computes: it is `tt`
  abbrev pub enumeration : (T : ED.Declared) → EL.Laws T → Plainss (ED.variants T) → EL.Copyabless T.parts → Few (ED.shape T) → PlainType 𝓛 (ED.row T)
  enumeration T L pl cp few = record {
    val = EL.val T L;
    tells = EL.tells T L;
    makes = EL.makes T pl 𝓛;
    lawful = EL.lawful T L 𝓛 few;
    copies = EL.copy T cp 𝓛;
    still = EL.still T cp yes;
    alone = tt;
    copied = EL.copied T cp 𝓛;
  }

  module _ (R : RattleType) (P : PlainType 𝓛 R) (n : ℕ) where
    abbrev pub array : PlainType 𝓛 (Array R n)
    array = record {
      val = array-val P.val;
      tells = Array-Tells R (λ x. P.val x ∷ []) P.tells n;
      makes = Array-Makes 𝓛 R P.makes n;
      lawful = Array-Lawful 𝓛 R P.lawful n;
      copies = array_copy 𝓛 R P.copies n;
      still = λ i. each_of (P.still i);
      alone = tt;
      copied = Array-Copied 𝓛 R P.copied P.alone n;
    }
