-- The form of a function over a lent place with one plain argument.
-- Assumes nothing.
--     on-place         fn h(out: &mut P, x: X) -> O        says (r ≡ F out x) × (out' ≡ B out x)
-- X and O are plain. The callers of it hand the place on for good, at its own lifetime and name.
--     relent           where the place behind the reference in a local lies, as a call is handed it
use mathlib.Core.Path.{◌≡◌}
use mathlib.Core.List.{[], ◌∷◌}
use Prim.Native.Nat.{ℕ}
use mir.Syntax.{Rv as RValue, place, deref, addr_of}
use denote.RattleType.{RattleType}
use Rattle.walks.proofs.Plain.{ty}
use Rattle.walks.proofs.Form.{Form, value, behind}

abbrev pub on-place : (P X O : RattleType) → (P.Denot → X.Denot → O.Denot) → (P.Denot → X.Denot → P.Denot) → Form
on-place P X O F B = record { lifetimes = 1; params = behind 0 tt P ∷ value X ∷ []; result = O; says_of = λ κs a r e. (r ≡ F a.0.now a.1.0) × (e.0.now ≡ B a.0.now a.1.0) }

abbrev pub relent : RattleType → ℕ → RValue
relent P i = addr_of (place i (deref (ty P) ∷ []))
