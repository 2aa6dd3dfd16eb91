-- The shape Through: a record behind a reference goes through a function by value, and what that returns is stored back.
-- Assumes nothing.
--     fn g(b: &mut T, x: X) -> O { let s = f(*b, x); *b = s.board; s.answer }
-- T is a declared struct of plain fields, X and O are plain, and f is covered, returns a struct of a T and an O, and says `r ≡ F b x`. g says the answer and the whole record at exit.
--     Shape, Knows     what g is made of; what is to be known of the types
--     function, form   g's MIR, and its form.        by_value     the form of f.        meets     g's MIR fulfils that form wherever its callees fulfil theirs
use mathlib.Core.Path.{◌≡◌, refl, ap}
use mathlib.Core.List.{[], ◌∷◌, List}
use seplogic.Ra.Ura.{Ura}
use base.Fraction.{full_share}
use mir.Syntax.{Callee, Fn, deref, field, place, copy, assign, call, return, rv_opd, Local, Body}
use mir.Val.{Val}
use base.Fml.{Lft, Share, fat}
use prog.Wp.{Tables}
use types.Logic.{Logic}
use types.Kit.{‵, ◌$◌, !, move, by, rewrite}
use types.Run.{look, look_raw, store_raw, stop, hop, from, load, of_opd, and_then, no_more, assigns}
use denote.RattleType.{RattleType}
use denote.Laws.{Is}
use denote.Ref.{MutBor}
use denote.Struct.Declared as D
use denote.Triple.Statement.{Triple}
use Rattle.walks.proofs.Plain.{ty, PlainType, pair-ty, PlainPair, has, has-pair}
use Rattle.walks.proofs.Walk.{cell}
use Rattle.walks.proofs.Steps.{it, sets, steps, by_values, var, part, fills, lands-in, ends-in}
use Rattle.walks.proofs.Form.{Form, code_of, value, Fulfils, met, calls, exits, Walk, meets-form}
use Rattle.walks.proofs.Callee.{OfOne, on_one}
use Rattle.walks.proofs.Lent.{opens-ref, settles-ref}

pub record Shape : Type 2 where
  -- the record behind the reference, the other argument, what f returns and the answer
  pub T : D.Declared
  pub X : RattleType
  pub Q : D.Declared
  pub O : RattleType
  pub f : Callee
  pub F : OfOne T.D X.Denot Q.D
  pub record_of : Q.D → T.D
  pub answer-of : Q.D → O.Denot

module _ (s : Shape) where
  abbrev R : RattleType
  R = D.row s.T

  abbrev pub form : Form
  form = on_one s.O R s.X (λ b x. s.answer-of (s.F b x)) (λ b x. s.record_of (s.F b x))

  abbrev pub by_value : Form
  by_value = record { lifetimes = 0; params = value R ∷ value s.X ∷ []; result = D.row s.Q; says_of = λ κs a r e. r ≡ s.F a.0 a.1.0 }

  -- the locals past the parameters
  abbrev others : List Local
  others = by_values (pair-ty s.Q R s.O ∷ ty R ∷ [])

  abbrev body : Body
  body = steps (sets 4 (rv_opd (copy (place 1 (deref (ty R) ∷ [])))) ∷ call s.f (it 4 ∷ it 2 ∷ []) (place 3 []) ∷ assign (place 1 (deref (ty R) ∷ [])) (rv_opd (copy (place 3 (field 0 ∷ [])))) ∷ sets 0 (rv_opd (copy (place 3 (field 1 ∷ [])))) ∷ []) return

  abbrev pub function : Fn
  function = code_of form (ty s.O) others body

pub record Knows {M : Type 1} {𝓤 : Ura M} (𝓛 : Logic 𝓤) (s : Shape) : Type 2 where
  pub plain-X : PlainType 𝓛 s.X
  pub pair-Q : PlainPair 𝓛 s.Q (D.row s.T) s.O s.record_of s.answer-of

module _ {M : Type 1} {𝓤 : Ura M} (𝓛 : Logic 𝓤) (s : Shape) (k : Knows 𝓛 s) (𝓣 : Tables 𝓤 𝓛.H) (known : Triple 𝓤 (𝓣.C s.f) (met (by_value s) 𝓤 𝓛)) where
  walk : (κ : Lft) (q : Share) (y : MutBor s.T.D) (x : s.X.Denot) → Is s.X x (k.plain-X.val x ∷ []) → Walk 𝓛 (form s) (k.plain-X, tt) 𝓣 (ty s.O) (others s) (body s) (κ, tt) (q, tt) (y, (x, tt))
  walk κ q y x x-is bs =
      move ! (10 ∷ 11 ∷ []) $ opens-ref (R s) k.pair-Q.first y ! tt (λ g.
      -- [the record's cell; the open borrow; _4: 2; _3: 4; _2: 6; _1: 8; _0: 10]
      fills ! (of_opd ! (load ! (from ! (hop ! (look ! 8 refl) (stop !))) (look_raw ! 0 refl))) 2 refl (has k.pair-Q.first y.now g) $
      calls 𝓛 (by_value s) (k.pair-Q.first, (k.plain-X, tt)) tt tt (y.now, (x, tt)) k.pair-Q.both 𝓣 known (g, (x-is, tt)) ! (and_then ! (var ! 3 refl) (and_then ! (var ! 7 refl) (no_more !))) (λ z _ e _ is. lands-in ! 4 refl (has-pair k.pair-Q z is) $
      rewrite ! 4 (λ (u : Val). ‵ (fat full_share (pair-ty s.Q (R s) s.O) bs.1.1.1.0 0 u)) (k.pair-Q.spelled z) refl $
      assigns ! (of_opd ! (part ! 4 0 refl refl refl)) (from ! (hop ! (look ! 8 refl) (stop !))) (store_raw ! 0 refl (has k.pair-Q.first (s.record_of z) (k.pair-Q.owed z is).0)) $
      fills ! (of_opd ! (part ! 4 1 refl refl refl)) 10 refl (has k.pair-Q.second (s.answer-of z) (k.pair-Q.owed z is).1) $ settles-ref (R s) k.pair-Q.first y ! tt (s.record_of z) (k.pair-Q.owed z is).0 $
      ends-in ! 10 refl (cell, (cell, (cell, (cell, (cell, tt))))) $
      by ! (exits 𝓛 (form s) (k.plain-X, tt) (κ, tt) (q, tt) (y, (x, tt)) k.pair-Q.second (s.record_of z, tt) (s.answer-of z) _ (ap s.answer-of e, ap s.record_of e) tt (k.pair-Q.owed z is).1)))

  pub meets : Fulfils 𝓛 (form s) 𝓣 (function s)
  meets = meets-form 𝓛 (form s) (k.plain-X, tt) 𝓣 (ty s.O) (others s) (body s) (λ κs qs a so. walk κs.0 qs.0 a.0 a.1.0 so.0)
