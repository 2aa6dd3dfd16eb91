-- The shape TellsBeside: a lent row is handed on with two arguments and a shared slice, and the answer is told to a lent place.
-- Assumes nothing.
--     fn g(row: &mut [T], n: N, x: X, cells: &[E], out: &mut P) -> U { let a = f(row, n, x, cells); h(out, a) }
-- T is a declared struct, N, X, Y, the type of a, and U are plain, E is what a slice can hold. f says its answer and the whole row at exit, h its answer and the place at exit. g says the answer, the row and the place.
--     Shape, Knows     what g is made of; what the contract says, and what is to be known of the types
--     function, form   g's MIR, and its form.        acts, tells     the forms of f and h.        meets     g's MIR fulfils that form wherever its callees fulfil theirs
-- Nothing is opened: the row and the place are handed on for good, each at its own lifetime and name.
use mathlib.Core.Path.{◌≡◌, refl, ◌∙◌, ap}
use mathlib.Core.List.{[], ◌∷◌, List}
use lib.ListN.{length}
use seplogic.Ra.Ura.{Ura}
use mir.Syntax.{Callee, Fn, erased, mut, place, call, return, Local, Body}
use base.Fml.{Lft, Share}
use prog.Wp.{Tables}
use types.Logic.{Logic}
use types.Kit.{◌$◌, !, move, by}
use types.Run.{look, stop, hop, from, addr, and_then, no_more}
use denote.RattleType.{RattleType}
use denote.Laws.{Is}
use denote.Ref.{Bor, MutBor}
use denote.Slice.{Room}
use denote.Struct.Declared as D
use denote.Triple.Statement.{Triple}
use Rattle.walks.proofs.Plain.{ty, PlainType, has}
use Rattle.walks.proofs.Walk.{cell}
use Rattle.walks.proofs.Steps.{it, sets, steps, by_values, ref-to, slice_of, hands_to, fits-slice, var, fills, lands-in, hands_on, ends-in}
use Rattle.walks.proofs.Form.{Form, code_of, value, shown, handed, behind, Fulfils, met, calls, exits, Walk, meets-form}
use Rattle.walks.proofs.Callee.{OfCells, on-cells}
use Rattle.adomvik.proofs.OnPlace.{on-place, relent}

pub record Shape : Type 2 where
  -- the record, the two arguments, an element of the slice, what f answers, the place and the answer
  pub T : D.Declared
  pub N : RattleType
  pub X : RattleType
  pub E : RattleType
  pub Y : RattleType
  pub P : RattleType
  pub U : RattleType
  pub f : Callee
  pub h : Callee
  -- what the contracts of f and h say, and what g's says
  pub answer-in : OfCells T.D N.Denot X.Denot E.Denot Y.Denot
  pub row_in : OfCells T.D N.Denot X.Denot E.Denot (List T.D)
  pub number : P.Denot → Y.Denot → U.Denot
  pub put : P.Denot → Y.Denot → P.Denot
  pub number_of : OfCells T.D N.Denot X.Denot E.Denot (P.Denot → U.Denot)
  pub out_of : OfCells T.D N.Denot X.Denot E.Denot (P.Denot → P.Denot)

module _ (s : Shape) where
  abbrev R : RattleType
  R = D.row s.T

  abbrev pub form : Form
  form = record {
    lifetimes = 3;
    params = handed 0 tt R ∷ value s.N ∷ value s.X ∷ shown 1 tt s.E ∷ behind 2 tt s.P ∷ [];
    result = s.U;
    says_of = λ κs a r e. (r ≡ s.number_of a.0.now a.1.0 a.1.1.0 a.1.1.1.0.now a.1.1.1.1.0.now)
        × ((e.0.now ≡ s.row_in a.0.now a.1.0 a.1.1.0 a.1.1.1.0.now) × (e.1.1.1.1.0.now ≡ s.out_of a.0.now a.1.0 a.1.1.0 a.1.1.1.0.now a.1.1.1.1.0.now));
  }

  abbrev pub acts : Form
  acts = on-cells s.Y R s.N s.X s.E s.answer-in s.row_in

  abbrev pub tells : Form
  tells = on-place s.P s.Y s.U s.number s.put

  -- the locals past the parameters
  abbrev others : List Local
  others = by_values (ty s.Y ∷ ref-to erased mut R ∷ slice_of erased mut R ∷ ref-to erased mut s.P ∷ [])

  abbrev body : Body
  body = steps (hands_to R 1 7 8) (steps (call s.f (it 8 ∷ it 2 ∷ it 3 ∷ it 4 ∷ []) (place 6 []) ∷ sets 9 (relent s.P 5) ∷ call s.h (it 9 ∷ it 6 ∷ []) (place 0 []) ∷ []) return)

  abbrev pub function : Fn
  function = code_of form (ty s.U) others body

pub record Knows {M : Type 1} {𝓤 : Ura M} (𝓛 : Logic 𝓤) (s : Shape) : Type 2 where
  pub says_all : (ys : List s.T.D) (n : s.N.Denot) (x : s.X.Denot) (cs : List s.E.Denot) (p : s.P.Denot) → (s.number p (s.answer-in ys n x cs) ≡ s.number_of ys n x cs p) × (s.put p (s.answer-in ys n x cs) ≡ s.out_of ys n x cs p)
  pub plain-N : PlainType 𝓛 s.N
  pub plain-X : PlainType 𝓛 s.X
  pub plain-Y : PlainType 𝓛 s.Y
  pub plain-U : PlainType 𝓛 s.U

module _ {M : Type 1} {𝓤 : Ura M} (𝓛 : Logic 𝓤) (s : Shape) (k : Knows 𝓛 s) (𝓣 : Tables 𝓤 𝓛.H) (known-f : Triple 𝓤 (𝓣.C s.f) (met (acts s) 𝓤 𝓛)) (known-h : Triple 𝓤 (𝓣.C s.h) (met (tells s) 𝓤 𝓛)) where
  walk : (κ κ₁ κ₂ : Lft) (q q₁ q₂ : Share) (ys : MutBor (List s.T.D)) (n : s.N.Denot) (x : s.X.Denot) (cs : Bor (List s.E.Denot)) (p : MutBor s.P.Denot) → Room (R s) (length ys.now) → Is s.N n (k.plain-N.val n ∷ []) → Is s.X x (k.plain-X.val x ∷ [])
      → Walk 𝓛 (form s) (k.plain-N, (k.plain-X, tt)) 𝓣 (ty s.U) (others s) (body s) (κ, (κ₁, (κ₂, tt))) (q, (q₁, (q₂, tt))) (ys, (n, (x, (cs, (p, tt)))))
  walk κ κ₁ κ₂ q q₁ q₂ ys n x cs p space n-is x-is _ =
      move ! (20 ∷ 21 ∷ 23 ∷ 24 ∷ 22 ∷ 25 ∷ []) $
      -- [the row's token; the cells'; the row; the cells; the place's token; the place; _9: 6; _8: 8; _7: 10; _6: 12; _5: 14; _4: 16; _3: 18; _2: 20; _1: 22; _0: 24]
      hands_on ! 22 10 8 refl refl refl refl refl refl (tt, tt) (fits-slice space.0) $
      calls 𝓛 (acts s) (k.plain-N, (k.plain-X, tt)) (κ, (κ₁, tt)) (q, (q₁, tt)) (ys, (n, (x, (cs, tt)))) k.plain-Y 𝓣 known-f (n-is, (x-is, tt)) !
      (and_then ! (var ! 5 refl) (and_then ! (var ! 17 refl) (and_then ! (var ! 15 refl) (and_then ! (var ! 13 refl) (no_more !))))) (λ m ws e l m-is. lands-in ! 11 refl (has k.plain-Y m m-is) $
      -- [the row's token; the cells'; the last row; the place's token; the place; _9: 5; _8: 7; _7: 9; _6: 11; _5: 13; ..; _0: 23]
      fills ! (addr ! (from ! (hop ! (look ! 13 refl) (stop !)))) 5 refl (tt, tt) $ move ! (3 ∷ 4 ∷ []) $
      calls 𝓛 (tells s) (k.plain-Y, tt) (κ₂, tt) (q₂, tt) (p, (m, tt)) k.plain-U 𝓣 known-h (m-is, tt) ! (and_then ! (var ! 4 refl) (and_then ! (var ! 10 refl) (no_more !))) (λ r us e₂ _ is. lands-in ! 23 refl (has k.plain-U r is) $
      -- [the place's token; its last value; the row's token; the cells'; the last row; _9: 5; ..; _0: 23]
      ends-in ! 23 refl (cell, (cell, (cell, (cell, (cell, (cell, (cell, (cell, (cell, (cell, tt)))))))))) $ move ! (2 ∷ 3 ∷ 0 ∷ 4 ∷ 1 ∷ []) $
      by ! (exits 𝓛 (form s) (k.plain-N, (k.plain-X, tt)) (κ, (κ₁, (κ₂, tt))) (q, (q₁, (q₂, tt))) (ys, (n, (x, (cs, (p, tt))))) k.plain-U (ws.0, (us.0, tt)) r _
      (e₂.0 ∙ ap (s.number p.now) e.0 ∙ (k.says_all ys.now n x cs.now p.now).0, (e.1, e₂.1 ∙ ap (s.put p.now) e.0 ∙ (k.says_all ys.now n x cs.now p.now).1)) l is)))

  pub meets : Fulfils 𝓛 (form s) 𝓣 (function s)
  meets =
      meets-form 𝓛 (form s) (k.plain-N, (k.plain-X, tt)) 𝓣 (ty s.U) (others s) (body s)
      (λ κs qs a so. walk κs.0 κs.1.0 κs.1.1.0 qs.0 qs.1.0 qs.1.1.0 a.0 a.1.0 a.1.1.0 a.1.1.1.0 a.1.1.1.1.0 so.0 so.1.0 so.1.1.0)
