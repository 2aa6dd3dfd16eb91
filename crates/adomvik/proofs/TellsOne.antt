-- The shape TellsOne: a lent record is handed on with an argument and a shared slice, and the answer is told to a lent place.
-- Assumes nothing.
--     fn g(b: &mut T, x: X, cells: &[E], out: &mut P) -> U { let a = f(b, x, cells); h(out, a) }
-- T is a declared struct, X, Y, the type of a, and U are plain, E is what a slice can hold. f says its answer and the record at exit, h its answer and the place at exit. g says the answer, the record and the place.
--     Shape, Knows     what g is made of; what the contract says, and what is to be known of the types
--     function, form   g's MIR, and its form.        acts, tells     the forms of f and h.        meets     g's MIR fulfils that form wherever its callees fulfil theirs
-- Nothing is opened: the record and the place are handed on for good, each at its own lifetime and name.
use mathlib.Core.Path.{◌≡◌, refl, ◌∙◌, ap}
use mathlib.Core.List.{[], ◌∷◌, List}
use seplogic.Ra.Ura.{Ura}
use mir.Syntax.{Callee, Fn, erased, mut, place, call, return, Local, Body}
use base.Fml.{Lft, Share}
use prog.Wp.{Tables}
use types.Logic.{Logic}
use types.Kit.{◌$◌, !, move, by}
use types.Run.{look, stop, hop, from, addr, and_then, no_more}
use denote.RattleType.{RattleType}
use denote.Laws.{Is}
use denote.Ref.{Bor, MutBor}
use denote.Struct.Declared as D
use denote.Triple.Statement.{Triple}
use Rattle.walks.proofs.Plain.{ty, PlainType, has}
use Rattle.walks.proofs.Walk.{cell}
use Rattle.walks.proofs.Steps.{it, sets, steps, by_values, ref-to, var, fills, lands-in, ends-in}
use Rattle.walks.proofs.Form.{Form, code_of, value, shown, behind, Fulfils, met, calls, exits, Walk, meets-form}
use Rattle.walks.proofs.Callee.{OfRecord}
use Rattle.adomvik.proofs.OnPlace.{on-place, relent}

pub record Shape : Type 2 where
  -- the record, the other argument, an element of the slice, what f answers, the place and the answer
  pub T : D.Declared
  pub X : RattleType
  pub E : RattleType
  pub Y : RattleType
  pub P : RattleType
  pub U : RattleType
  pub f : Callee
  pub h : Callee
  -- what the contracts of f and h say, and what g's says
  pub answer-one : OfRecord T.D X.Denot E.Denot Y.Denot
  pub record-one : OfRecord T.D X.Denot E.Denot T.D
  pub number : P.Denot → Y.Denot → U.Denot
  pub put : P.Denot → Y.Denot → P.Denot
  pub number_of : OfRecord T.D X.Denot E.Denot (P.Denot → U.Denot)
  pub out_of : OfRecord T.D X.Denot E.Denot (P.Denot → P.Denot)

module _ (s : Shape) where
  abbrev R : RattleType
  R = D.row s.T

  abbrev pub form : Form
  form = record {
    lifetimes = 3;
    params = behind 0 tt R ∷ value s.X ∷ shown 1 tt s.E ∷ behind 2 tt s.P ∷ [];
    result = s.U;
    says_of = λ κs a r e. (r ≡ s.number_of a.0.now a.1.0 a.1.1.0.now a.1.1.1.0.now)
        × ((e.0.now ≡ s.record-one a.0.now a.1.0 a.1.1.0.now) × (e.1.1.1.0.now ≡ s.out_of a.0.now a.1.0 a.1.1.0.now a.1.1.1.0.now));
  }

  abbrev pub acts : Form
  acts = record {
    lifetimes = 2;
    params = behind 0 tt R ∷ value s.X ∷ shown 1 tt s.E ∷ [];
    result = s.Y;
    says_of = λ κs a r e. (r ≡ s.answer-one a.0.now a.1.0 a.1.1.0.now) × (e.0.now ≡ s.record-one a.0.now a.1.0 a.1.1.0.now);
  }

  abbrev pub tells : Form
  tells = on-place s.P s.Y s.U s.number s.put

  -- the locals past the parameters
  abbrev others : List Local
  others = by_values (ty s.Y ∷ ref-to erased mut R ∷ ref-to erased mut s.P ∷ [])

  abbrev body : Body
  body = steps (sets 6 (relent R 1) ∷ call s.f (it 6 ∷ it 2 ∷ it 3 ∷ []) (place 5 []) ∷ sets 7 (relent s.P 4) ∷ call s.h (it 7 ∷ it 5 ∷ []) (place 0 []) ∷ []) return

  abbrev pub function : Fn
  function = code_of form (ty s.U) others body

pub record Knows {M : Type 1} {𝓤 : Ura M} (𝓛 : Logic 𝓤) (s : Shape) : Type 2 where
  pub says_all : (b : s.T.D) (x : s.X.Denot) (cs : List s.E.Denot) (p : s.P.Denot) → (s.number p (s.answer-one b x cs) ≡ s.number_of b x cs p) × (s.put p (s.answer-one b x cs) ≡ s.out_of b x cs p)
  pub plain-X : PlainType 𝓛 s.X
  pub plain-Y : PlainType 𝓛 s.Y
  pub plain-U : PlainType 𝓛 s.U

module _ {M : Type 1} {𝓤 : Ura M} (𝓛 : Logic 𝓤) (s : Shape) (k : Knows 𝓛 s) (𝓣 : Tables 𝓤 𝓛.H) (known-f : Triple 𝓤 (𝓣.C s.f) (met (acts s) 𝓤 𝓛)) (known-h : Triple 𝓤 (𝓣.C s.h) (met (tells s) 𝓤 𝓛)) where
  walk : (κ κ₁ κ₂ : Lft) (q q₁ q₂ : Share) (b : MutBor s.T.D) (x : s.X.Denot) (cs : Bor (List s.E.Denot)) (p : MutBor s.P.Denot) → Is s.X x (k.plain-X.val x ∷ [])
      → Walk 𝓛 (form s) (k.plain-X, tt) 𝓣 (ty s.U) (others s) (body s) (κ, (κ₁, (κ₂, tt))) (q, (q₁, (q₂, tt))) (b, (x, (cs, (p, tt))))
  walk κ κ₁ κ₂ q q₁ q₂ b x cs p x-is _ =
      move ! (16 ∷ 17 ∷ 19 ∷ 20 ∷ 18 ∷ 21 ∷ []) $
      -- [the record's token; the cells'; the record; the cells; the place's token; the place; _7: 6; _6: 8; _5: 10; _4: 12; _3: 14; _2: 16; _1: 18; _0: 20]
      fills ! (addr ! (from ! (hop ! (look ! 18 refl) (stop !)))) 8 refl (tt, tt) $
      calls 𝓛 (acts s) (k.plain-X, tt) (κ, (κ₁, tt)) (q, (q₁, tt)) (b, (x, (cs, tt))) k.plain-Y 𝓣 known-f (x-is, tt) !
      (and_then ! (var ! 5 refl) (and_then ! (var ! 13 refl) (and_then ! (var ! 11 refl) (no_more !)))) (λ m ws e _ m-is. lands-in ! 9 refl (has k.plain-Y m m-is) $
      -- [the record's token; the cells'; the last record; the place's token; the place; _7: 5; _6: 7; _5: 9; _4: 11; ..; _0: 19]
      fills ! (addr ! (from ! (hop ! (look ! 11 refl) (stop !)))) 5 refl (tt, tt) $ move ! (3 ∷ 4 ∷ []) $
      calls 𝓛 (tells s) (k.plain-Y, tt) (κ₂, tt) (q₂, tt) (p, (m, tt)) k.plain-U 𝓣 known-h (m-is, tt) ! (and_then ! (var ! 4 refl) (and_then ! (var ! 8 refl) (no_more !))) (λ r us e₂ _ is. lands-in ! 19 refl (has k.plain-U r is) $
      -- [the place's token; its last value; the record's token; the cells'; the last record; _7: 5; ..; _0: 19]
      ends-in ! 19 refl (cell, (cell, (cell, (cell, (cell, (cell, (cell, (cell, tt)))))))) $ move ! (2 ∷ 3 ∷ 0 ∷ 4 ∷ 1 ∷ []) $
      by ! (exits 𝓛 (form s) (k.plain-X, tt) (κ, (κ₁, (κ₂, tt))) (q, (q₁, (q₂, tt))) (b, (x, (cs, (p, tt)))) k.plain-U (ws.0, (us.0, tt)) r _
      (e₂.0 ∙ ap (s.number p.now) e.0 ∙ (k.says_all b.now x cs.now p.now).0, (e.1, e₂.1 ∙ ap (s.put p.now) e.0 ∙ (k.says_all b.now x cs.now p.now).1)) tt is)))

  pub meets : Fulfils 𝓛 (form s) 𝓣 (function s)
  meets =
      meets-form 𝓛 (form s) (k.plain-X, tt) 𝓣 (ty s.U) (others s) (body s)
      (λ κs qs a so. walk κs.0 κs.1.0 κs.1.1.0 qs.0 qs.1.0 qs.1.1.0 a.0 a.1.0 a.1.1.0 a.1.1.1.0 so.0)
