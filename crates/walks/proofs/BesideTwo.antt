-- The shape BesideTwo: as Beside, with two plain arguments.
-- Assumes nothing.
--     fn g(b: &mut T, x: X, z: Z, cells: &[E]) -> O { let s = f(*b, x, z, cells); *b = s.board; s.answer }
-- T is a declared struct of plain fields, X, Z and O are plain, E is what a slice can hold, and f takes the record by value and the slice as it is, returns a struct of a T and an O, and says `r ≡ F b x z (now cells.entry)`. g says the answer and the whole record at exit.
--     Shape, Knows     what g is made of; what is to be known of the types
--     function, form   g's MIR, and its form.        by_value     the form of f.        meets     g's MIR fulfils that form wherever its callees fulfil theirs
use mathlib.Core.Path.{◌≡◌, refl, ap}
use mathlib.Core.List.{[], ◌∷◌, List}
use seplogic.Ra.Ura.{Ura}
use base.Fraction.{full_share}
use mir.Syntax.{Callee, Fn, deref, field, place, copy, assign, call, return, rv_opd, Local, Body}
use mir.Val.{Val}
use base.Fml.{Lft, Share, fat}
use prog.Wp.{Tables}
use types.Logic.{Logic}
use types.Kit.{‵, ◌$◌, !, move, by, rewrite}
use types.Run.{look, look_raw, store_raw, stop, hop, from, load, of_opd, and_then, no_more, assigns}
use denote.RattleType.{RattleType}
use denote.Laws.{Is}
use denote.Ref.{Bor, MutBor}
use denote.Struct.Declared as D
use denote.Triple.Statement.{Triple}
use Rattle.walks.proofs.Plain.{ty, PlainType, pair-ty, PlainPair, has, has-pair}
use Rattle.walks.proofs.Walk.{cell}
use Rattle.walks.proofs.Steps.{it, sets, steps, by_values, var, part, fills, lands-in, ends-in}
use Rattle.walks.proofs.Form.{Form, code_of, value, shown, Fulfils, met, calls, exits, Walk, meets-form}
use Rattle.walks.proofs.Callee.{OfFound, on-found}
use Rattle.walks.proofs.Lent.{opens-ref, settles-ref}

pub record Shape : Type 2 where
  -- the record behind the reference, the other arguments, an element of the slice, what f returns and the answer
  pub T : D.Declared
  pub X : RattleType
  pub Z : RattleType
  pub E : RattleType
  pub Q : D.Declared
  pub O : RattleType
  pub f : Callee
  pub F : OfFound T.D X.Denot Z.Denot E.Denot Q.D
  pub record_of : Q.D → T.D
  pub answer-of : Q.D → O.Denot

module _ (s : Shape) where
  abbrev R : RattleType
  R = D.row s.T

  abbrev pub form : Form
  form = on-found s.O R s.X s.Z s.E (λ b x z cs. s.answer-of (s.F b x z cs)) (λ b x z cs. s.record_of (s.F b x z cs))

  abbrev pub by_value : Form
  by_value = record { lifetimes = 1; params = value R ∷ value s.X ∷ value s.Z ∷ shown 0 tt s.E ∷ []; result = D.row s.Q; says_of = λ κs a r e. r ≡ s.F a.0 a.1.0 a.1.1.0 a.1.1.1.0.now }

  -- the locals past the parameters
  abbrev others : List Local
  others = by_values (pair-ty s.Q R s.O ∷ ty R ∷ [])

  abbrev body : Body
  body = steps (sets 6 (rv_opd (copy (place 1 (deref (ty R) ∷ [])))) ∷ call s.f (it 6 ∷ it 2 ∷ it 3 ∷ it 4 ∷ []) (place 5 []) ∷ assign (place 1 (deref (ty R) ∷ [])) (rv_opd (copy (place 5 (field 0 ∷ [])))) ∷ sets 0 (rv_opd (copy (place 5 (field 1 ∷ [])))) ∷ []) return

  abbrev pub function : Fn
  function = code_of form (ty s.O) others body

pub record Knows {M : Type 1} {𝓤 : Ura M} (𝓛 : Logic 𝓤) (s : Shape) : Type 2 where
  pub plain-X : PlainType 𝓛 s.X
  pub plain-Z : PlainType 𝓛 s.Z
  pub pair-Q : PlainPair 𝓛 s.Q (D.row s.T) s.O s.record_of s.answer-of

module _ {M : Type 1} {𝓤 : Ura M} (𝓛 : Logic 𝓤) (s : Shape) (k : Knows 𝓛 s) (𝓣 : Tables 𝓤 𝓛.H) (known : Triple 𝓤 (𝓣.C s.f) (met (by_value s) 𝓤 𝓛)) where
  walk : (κ κ₁ : Lft) (q q₁ : Share) (y : MutBor s.T.D) (x : s.X.Denot) (z : s.Z.Denot) (cs : Bor (List s.E.Denot)) → Is s.X x (k.plain-X.val x ∷ []) → Is s.Z z (k.plain-Z.val z ∷ [])
      → Walk 𝓛 (form s) (k.plain-X, (k.plain-Z, tt)) 𝓣 (ty s.O) (others s) (body s) (κ, (κ₁, tt)) (q, (q₁, tt)) (y, (x, (z, (cs, tt))))
  walk κ κ₁ q q₁ y x z cs x-is z-is bs =
      move ! (14 ∷ 16 ∷ []) $ opens-ref (R s) k.pair-Q.first y ! tt (λ g.
      -- [the record's cell; the open borrow; _6: 2; _5: 4; _4: 6; _3: 8; _2: 10; _1: 12; _0: 14; the cells' token; the cells]
      fills ! (of_opd ! (load ! (from ! (hop ! (look ! 12 refl) (stop !))) (look_raw ! 0 refl))) 2 refl (has k.pair-Q.first y.now g) $ move ! (16 ∷ 17 ∷ []) $
      calls 𝓛 (by_value s) (k.pair-Q.first, (k.plain-X, (k.plain-Z, tt))) (κ₁, tt) (q₁, tt) (y.now, (x, (z, (cs, tt)))) k.pair-Q.both 𝓣 known (g, (x-is, (z-is, tt))) !
      (and_then ! (var ! 3 refl) (and_then ! (var ! 11 refl) (and_then ! (var ! 9 refl) (and_then ! (var ! 7 refl) (no_more !))))) (λ o _ e _ is. move ! (1 ∷ 2 ∷ []) $
      -- [the record's cell; the open borrow; the cells' token; _6: 3; _5: 5; _4: 7; _3: 9; _2: 11; _1: 13; _0: 15]
      lands-in ! 5 refl (has-pair k.pair-Q o is) $ rewrite ! 5 (λ (u : Val). ‵ (fat full_share (pair-ty s.Q (R s) s.O) bs.1.1.1.1.1.0 0 u)) (k.pair-Q.spelled o) refl $
      assigns ! (of_opd ! (part ! 5 0 refl refl refl)) (from ! (hop ! (look ! 13 refl) (stop !))) (store_raw ! 0 refl (has k.pair-Q.first (s.record_of o) (k.pair-Q.owed o is).0)) $
      fills ! (of_opd ! (part ! 5 1 refl refl refl)) 15 refl (has k.pair-Q.second (s.answer-of o) (k.pair-Q.owed o is).1) $ settles-ref (R s) k.pair-Q.first y ! tt (s.record_of o) (k.pair-Q.owed o is).0 $
      ends-in ! 15 refl (cell, (cell, (cell, (cell, (cell, (cell, (cell, tt))))))) $ move ! (0 ∷ 2 ∷ []) $
      by ! (exits 𝓛 (form s) (k.plain-X, (k.plain-Z, tt)) (κ, (κ₁, tt)) (q, (q₁, tt)) (y, (x, (z, (cs, tt)))) k.pair-Q.second (s.record_of o, tt) (s.answer-of o) _ (ap s.answer-of e, ap s.record_of e) tt (k.pair-Q.owed o is).1)))

  pub meets : Fulfils 𝓛 (form s) 𝓣 (function s)
  meets = meets-form 𝓛 (form s) (k.plain-X, (k.plain-Z, tt)) 𝓣 (ty s.O) (others s) (body s) (λ κs qs a so. walk κs.0 κs.1.0 qs.0 qs.1.0 a.0 a.1.0 a.1.1.0 a.1.1.1.0 so.0 so.1.0)
