-- What the walks of this crate share: the arithmetic of a row, the operand that is an element's size, and the freeing of the locals where a function returns.
-- Assumes nothing.
--     offset-fits, size_fits     the offset of an element of a row that has room, and the size of one, are numbers of 64 bits.        falls     what is left of a row falls
--     decide, below, is_true, is_false     a test's two outcomes
--     follows, follows-two     what is said of an answer and of one or two things lent, by way of what another says
--     size-op, size_lit     the size of an element as lowering writes it, `int` below 1024 and `int_big` from there on, and what it evaluates to
--     Spot, Spots      of a local: its cell or its room lies beside what says that it dies.        leaves     one step: all locals are freed
use mathlib.Core.Path.{◌≡◌, refl, sym, ◌∙◌, subst}
use mathlib.Core.Bool.{Bool, true, false, not}
use Prim.Native.Nat.{ℕ, zero, ◌<◌, ◌≤◌, ◌+◌, ◌-◌, ◌*◌, ◌^◌}
use native.Mathlib.Nat.{mul-le-mul_right, le_of_lt}
use native.Mathlib.Omega.{arith}
use mathlib.Core.List.{List, [], ◌∷◌}
use lib.Dec.{T, ltb, lt→ltb, ltb→lt, nltb→le}
use seplogic.Ra.Ura.{Ura}
use base.Fraction.{full_share}
use mir.Syntax.{Opd as Operand, Ty, int, int_big, w64}
use mir.Val.{Val, Fits, vint}
use base.Logic.{ent, sep, via, guard_i, id⊢, mono_l, mono_r, assoc'}
use base.Fml.{fat, froom, fdies}
use prog.Wp.{Env}
use types.Logic.{Logic}
use types.Kit.{Item, Goal, ‵, mean, ⋆, nth, del, pull, frees, aim, Step, step}
use types.Run.{Opd, lit}
use denote.RattleType.{RattleType}
use denote.Memory.{mem}
use denote.Slice.{Room}

-- ---- arithmetic
module _ (R : RattleType) {c x : ℕ} (space : Room R c) (l : x < c) where
  pub offset-fits : x * (mem R).size < 2 ^ 64
  offset-fits =
      let below_all : x * (mem R).size ≤ c * (mem R).size = mul-le-mul_right (mem R).size (le_of_lt l) in
      omega (arith, below_all, space.1)

  pub size_fits : (mem R).size < 2 ^ 64
  size_fits =
      let some : 1 ≤ c = omega (arith, l) in
      let one_of_all : 1 * (mem R).size ≤ c * (mem R).size = mul-le-mul_right (mem R).size some in
      omega (arith, one_of_all, space.1)

pub falls : (n i : ℕ) → i < n → n - (i + 1) < n - i
falls n i l = omega arith

-- ---- a test's two outcomes
pub decide {ℓ} : {P : Type ℓ} (t : Bool) → (t ≡ true → P) → (t ≡ false → P) → P
decide true f g = f refl
decide false f g = g refl

pub below {ℓ} : {P : Type ℓ} (x n : ℕ) → (x < n → P) → (n ≤ x → P) → P
below x n f g = decide (ltb x n) (λ e. f (ltb→lt x n (subst T (sym e) tt))) (λ e. g (nltb→le x n (subst (λ (t : Bool). T (not t)) (sym e) tt)))

pub is_true : (t : Bool) → T t → t ≡ true
is_true true h = refl
is_true false h = absurd h

pub is_false : (t : Bool) → T (not t) → t ≡ false
is_false true h = absurd h
is_false false h = refl

-- ---- what is said of an answer and of one or two things lent, by way of what another says
pub follows : {X Y : Type 0} {r p x : X} {s q y : Y} → (r ≡ p) × (s ≡ q) → (p ≡ x) × (q ≡ y) → (r ≡ x) × (s ≡ y)
follows e w = (e.0 ∙ w.0, e.1 ∙ w.1)

pub follows-two : {X Y Z : Type 0} {r p x : X} {s q y : Y} {t o z : Z} → (r ≡ p) × ((s ≡ q) × (t ≡ o)) → (p ≡ x) × ((q ≡ y) × (o ≡ z)) → (r ≡ x) × ((s ≡ y) × (t ≡ z))
follows-two e w = (e.0 ∙ w.0, follows e.1 w.1)

-- ---- the size of an element
abbrev sized : Bool → ℕ → Operand
sized true n = int w64 n
sized false n = int_big w64 n

abbrev pub size-op : ℕ → Operand
size-op n = sized (ltb n 1024) n

module _ {M : Type 1} {𝓤 : Ura M} {𝓛 : Logic 𝓤} {K : Type 0} {Γ : List (Item 𝓤)} {E : Env 𝓤 𝓛.H} where
  sized-lit : K → (t : Bool) {n : ℕ} → n < 2 ^ 64 → Opd K 𝓛 Γ E (sized t n) (vint w64 n)
  sized-lit t true {n} h = lit t (lt→ltb n (2 ^ 64) h)
  sized-lit t false {n} h = record { go = λ Kt p. via 𝓤 (Kt (vint w64 n)) p (guard_i 𝓤 (Fits w64 n) (Kt (vint w64 n)) (record { fits = h })) }

  pub size_lit : K → {n : ℕ} → n < 2 ^ 64 → Opd K 𝓛 Γ E (size-op n) (vint w64 n)
  size_lit t {n} h = sized-lit t (ltb n 1024) h

-- ---- the locals, where a function returns. `_0` stands at the place n with what says that it dies behind it, and each next local two places before the last
pub data Spot {M : Type 1} (𝓤 : Ura M) : Item 𝓤 → Item 𝓤 → Ty → ℕ → Type 2 where
  cell : {τ : Ty} {b : ℕ} {v : Val} → Spot 𝓤 (‵ (fat full_share τ b zero v)) (‵ (fdies τ b)) τ b
  room : {τ : Ty} {b : ℕ} → Spot 𝓤 (‵ (froom τ b zero)) (‵ (fdies τ b)) τ b

module _ {M : Type 1} {𝓤 : Ura M} (𝓛 : Logic 𝓤) where
  open 𝓛 use {H}

  abbrev pub Spots : ℕ → Env 𝓤 H → List (Item 𝓤) → Type 2
  Spots n [] Γ = Unit {2}
  Spots n (e ∷ E) Γ = Spot 𝓤 (nth 𝓛 n Γ) (nth 𝓛 n (del 𝓛 n Γ)) e.0 e.1 × Spots (n - 2) E (del 𝓛 n (del 𝓛 n Γ))

  abbrev pub left_over : ℕ → Env 𝓤 H → List (Item 𝓤) → List (Item 𝓤)
  left_over n [] Γ = Γ
  left_over n (e ∷ E) Γ = left_over (n - 2) E (del 𝓛 n (del 𝓛 n Γ))

  gone : {i j : Item 𝓤} {τ : Ty} {b : ℕ} → Spot 𝓤 i j τ b → ent 𝓤 (sep 𝓤 (mean 𝓛 i) (mean 𝓛 j)) (sep 𝓤 (H.room τ b zero) (H.dies τ b))
  gone (cell {τ = τ} {b = b} {v = v}) = mono_l 𝓤 (H.dies τ b) (𝓛.laws.at_room τ b zero v)
  gone (room {τ = τ} {b = b}) = id⊢ 𝓤 _

  all-gone : (g : Goal 𝓤 H) (n : ℕ) (E : Env 𝓤 H) (Γ : List (Item 𝓤)) → Spots n E Γ → ent 𝓤 (⋆ 𝓛 (left_over n E Γ)) (aim 𝓤 H g) → ent 𝓤 (⋆ 𝓛 Γ) (aim 𝓤 H (frees E g))
  all-gone g n [] Γ ss p = p
  all-gone g n (e ∷ E) Γ ss p =
      let i = nth 𝓛 n Γ in
      let Γ₁ = del 𝓛 n Γ in
      let j = nth 𝓛 n Γ₁ in
      let Γ₂ = del 𝓛 n Γ₁ in
      via 𝓤 (sep 𝓤 (mean 𝓛 i) (⋆ 𝓛 Γ₁)) (pull 𝓛 n Γ)
      (via 𝓤 (sep 𝓤 (mean 𝓛 i) (sep 𝓤 (mean 𝓛 j) (⋆ 𝓛 Γ₂))) (mono_r 𝓤 (mean 𝓛 i) (pull 𝓛 n Γ₁))
      (via 𝓤 (sep 𝓤 (sep 𝓤 (mean 𝓛 i) (mean 𝓛 j)) (⋆ 𝓛 Γ₂)) (assoc' 𝓤 (mean 𝓛 i) (mean 𝓛 j) (⋆ 𝓛 Γ₂))
      (via 𝓤 (sep 𝓤 (sep 𝓤 (H.room e.0 e.1 zero) (H.dies e.0 e.1)) (⋆ 𝓛 Γ₂)) (mono_l 𝓤 (⋆ 𝓛 Γ₂) (gone ss.0))
      (mono_r 𝓤 (sep 𝓤 (H.room e.0 e.1 zero) (H.dies e.0 e.1)) (all-gone g (n - 2) E Γ₂ ss.1 p)))))

module _ {M : Type 1} {𝓤 : Ura M} {𝓛 : Logic 𝓤} {K : Type 0} {Γ : List (Item 𝓤)} where
  open 𝓛 use {H}

  pub leaves : K → (n : ℕ) {E : Env 𝓤 H} {g : Goal 𝓤 H} → Spots 𝓛 n E Γ → Step K 𝓛 (left_over 𝓛 n E Γ) g Γ (frees E g)
  leaves t n {E} {g} ss = step (λ s. record { prf = all-gone 𝓛 g n E Γ ss s.prf })
