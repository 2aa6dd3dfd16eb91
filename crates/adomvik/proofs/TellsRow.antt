-- The shape TellsRow: what a function makes of a shared row is told to a lent place.
-- Assumes nothing.
--     fn g(row: &[T], out: &mut P) -> U { let a = f(row); h(out, a) }
-- T is a declared struct, and X, the type of a, and U are plain. f says `r ≡ F (now row.entry)`, h its answer and the place at exit. g says the answer and the place.
--     Shape, Knows     what g is made of; what the contract says, and what is to be known of the types
--     function, form   g's MIR, and its form.        tells     the form of h.        meets     g's MIR fulfils that form wherever its callees fulfil theirs
use mathlib.Core.Path.{◌≡◌, refl, ◌∙◌, ap}
use mathlib.Core.List.{[], ◌∷◌, List}
use seplogic.Ra.Ura.{Ura}
use mir.Syntax.{Callee, Fn, erased, mut, place, call, return, Local, Body}
use base.Fml.{Lft, Share}
use prog.Wp.{Tables}
use types.Logic.{Logic}
use types.Kit.{◌$◌, !, move, keep, by}
use types.Run.{look, stop, hop, from, addr, and_then, no_more}
use denote.RattleType.{RattleType}
use denote.Ref.{Bor, MutBor}
use denote.Struct.Declared as D
use denote.Triple.Statement.{Triple}
use Rattle.walks.proofs.Plain.{ty, PlainType, has}
use Rattle.walks.proofs.Walk.{cell}
use Rattle.walks.proofs.Steps.{it, sets, steps, by_values, ref-to, var, fills, lands-in, ends-in}
use Rattle.walks.proofs.Form.{Form, code_of, shown, behind, Fulfils, met, calls, exits, Walk, meets-form}
use Rattle.walks.proofs.Callee.{of-slice}
use Rattle.adomvik.proofs.OnPlace.{on-place, relent}

pub record Shape : Type 2 where
  -- the record, what f makes of the row, the place and the answer
  pub T : D.Declared
  pub X : RattleType
  pub P : RattleType
  pub U : RattleType
  pub f : Callee
  pub h : Callee
  -- what the contracts of f and h say, and what g's says
  pub F : List T.D → X.Denot
  pub number : P.Denot → X.Denot → U.Denot
  pub put : P.Denot → X.Denot → P.Denot
  pub number_of : List T.D → P.Denot → U.Denot
  pub out_of : List T.D → P.Denot → P.Denot

module _ (s : Shape) where
  abbrev R : RattleType
  R = D.row s.T

  abbrev pub form : Form
  form = record { lifetimes = 2; params = shown 0 tt R ∷ behind 1 tt s.P ∷ []; result = s.U; says_of = λ κs a r e. (r ≡ s.number_of a.0.now a.1.0.now) × (e.1.0.now ≡ s.out_of a.0.now a.1.0.now) }

  abbrev pub tells : Form
  tells = on-place s.P s.X s.U s.number s.put

  -- the locals past the parameters
  abbrev others : List Local
  others = by_values (ty s.X ∷ ref-to erased mut s.P ∷ [])

  abbrev body : Body
  body = steps (call s.f (it 1 ∷ []) (place 3 []) ∷ sets 4 (relent s.P 2) ∷ call s.h (it 4 ∷ it 3 ∷ []) (place 0 []) ∷ []) return

  abbrev pub function : Fn
  function = code_of form (ty s.U) others body

pub record Knows {M : Type 1} {𝓤 : Ura M} (𝓛 : Logic 𝓤) (s : Shape) : Type 2 where
  pub says_all : (ys : List s.T.D) (p : s.P.Denot) → (s.number p (s.F ys) ≡ s.number_of ys p) × (s.put p (s.F ys) ≡ s.out_of ys p)
  pub plain-X : PlainType 𝓛 s.X
  pub plain-U : PlainType 𝓛 s.U

module _ {M : Type 1} {𝓤 : Ura M} (𝓛 : Logic 𝓤) (s : Shape) (k : Knows 𝓛 s) (𝓣 : Tables 𝓤 𝓛.H) (known-f : Triple 𝓤 (𝓣.C s.f) (met (of-slice s.X (R s) s.F) 𝓤 𝓛)) (known-h : Triple 𝓤 (𝓣.C s.h) (met (tells s) 𝓤 𝓛)) where
  walk : (κ κ₁ : Lft) (q q₁ : Share) (ys : Bor (List s.T.D)) (p : MutBor s.P.Denot) → Walk 𝓛 (form s) tt 𝓣 (ty s.U) (others s) (body s) (κ, (κ₁, tt)) (q, (q₁, tt)) (ys, (p, tt))
  walk κ κ₁ q q₁ ys p _ =
      move ! (10 ∷ 12 ∷ 11 ∷ 13 ∷ []) $
      -- [the row's token; the row; the place's token; the place; _4: 4; _3: 6; _2: 8; _1: 10; _0: 12]
      calls 𝓛 (of-slice s.X (R s) s.F) tt (κ, tt) (q, tt) (ys, tt) k.plain-X 𝓣 known-f tt ! (and_then ! (var ! 9 refl) (no_more !)) (λ m _ e _ m-is. lands-in ! 5 refl (has k.plain-X m m-is) $
      -- [the row's token; the place's token; the place; _4: 3; ..; _0: 11]
      fills ! (addr ! (from ! (hop ! (look ! 7 refl) (stop !)))) 3 refl (tt, tt) $ move ! (1 ∷ 2 ∷ []) $
      calls 𝓛 (tells s) (k.plain-X, tt) (κ₁, tt) (q₁, tt) (p, (m, tt)) k.plain-U 𝓣 known-h (m-is, tt) ! (and_then ! (var ! 2 refl) (and_then ! (var ! 4 refl) (no_more !))) (λ r ws e₂ _ is. lands-in ! 11 refl (has k.plain-U r is) $
      -- [the place's token; its last value; the row's token; _4: 3; ..; _0: 11]
      ends-in ! 11 refl (cell, (cell, (cell, (cell, (cell, tt))))) $ keep ! (2 ∷ 0 ∷ 1 ∷ []) $
      by ! (exits 𝓛 (form s) tt (κ, (κ₁, tt)) (q, (q₁, tt)) (ys, (p, tt)) k.plain-U (ws.0, tt) r _
      (e₂.0 ∙ ap (s.number p.now) e ∙ (k.says_all ys.now p.now).0, e₂.1 ∙ ap (s.put p.now) e ∙ (k.says_all ys.now p.now).1) tt is)))

  pub meets : Fulfils 𝓛 (form s) 𝓣 (function s)
  meets = meets-form 𝓛 (form s) tt 𝓣 (ty s.U) (others s) (body s) (λ κs qs a so. walk κs.0 κs.1.0 qs.0 qs.1.0 a.0 a.1.0)
