-- The shape LendsRun: as LendsFrame, with a plain state beside the block and the output.
-- Assumes nothing.
--     fn g(boards: [T; N], n: usize, s: S, block: &[E], out: &mut [G]) -> Q { let mut row = boards; let state = f(&mut row[..n], s, block, out); Q { boards: row, state: state } }        requires n ≤ N
-- T is a declared struct of plain fields, S and O, what f returns, are plain, E and G are what a slice can hold, and Q is a declared struct of the array and what f returns. f, as g of Lined and of Turning, says its result, the whole row and the whole output at exit. g says `r ≡ all boards n ..` and what is in the output at exit. g has no record behind a reference, so whoever calls it needs no walk.
--     Shape, Knows     what g is made of; what the contract says, and what is to be known of the types
--     function, form   g's MIR, and its form.        inner     the form of f.        meets     g's MIR fulfils that form wherever its callees fulfil theirs
use mathlib.Core.Path.{◌≡◌, refl, ◌∙◌}
use Prim.Native.Nat.{ℕ, ◌≤◌}
use mathlib.Core.List.{[], ◌∷◌, ◌++◌, List}
use lib.ListN.{length, take, drop as drop_n}
use seplogic.Ra.Ura.{Ura}
use base.Fraction.{full_share}
use mir.Syntax.{Callee, Fn, erased, mut, w64, place, local, memory_slot, call, return, rv_opd, aggregate, Local, Body}
use base.Fml.{Lft, Share}
use prog.Wp.{Tables}
use types.Logic.{Logic}
use types.Kit.{◌$◌, !, by, move}
use types.Run.{of_opd, and_then, no_more}
use types.Part.{agg}
use denote.RattleType.{RattleType}
use denote.Laws.{Is}
use denote.Array.{Array}
use denote.Builtin.{usize}
use denote.Ref.{Bor, MutBor}
use denote.Slice.{Room}
use denote.Struct.Declared as D
use denote.Triple.Statement.{Triple}
use Rattle.walks.proofs.Plain.{ty, PlainType, pair-ty, has, uint, array}
use Rattle.walks.proofs.Walk.{cell}
use Rattle.walks.proofs.Steps.{it, sets, steps, by_values, ref-to, slice_of, hands_to, firsts-of, fits-slice, var, fills, lands-in, hands_on, takes-firsts, ends-in}
use Rattle.walks.proofs.Form.{Form, code_of, value, shown, handed, Plains, FulfilsIf, met, calls, exits, Walk, meets-if}
use Rattle.walks.proofs.Callee.{OfLine, on_line}
use Rattle.walks.proofs.LendArray.{MadeOf, first-many, first-room, PlainMade, has-made, first-as, lends_first, first_home}

pub record Shape : Type 2 where
  -- the record, the state, an element of the block and of the output, what f returns, what is returned and the array's length
  pub T : D.Declared
  pub S : RattleType
  pub E : RattleType
  pub G : RattleType
  pub O : RattleType
  pub Q : D.Declared
  pub N : ℕ
  pub f : Callee
  -- what f's contract says, what is made of the array and f's result, and what g's contract says
  pub answer-of : OfLine T.D S.Denot E.Denot G.Denot O.Denot
  pub row_of : OfLine T.D S.Denot E.Denot G.Denot (List T.D)
  pub out_of : OfLine T.D S.Denot E.Denot G.Denot (List G.Denot)
  pub made : List T.D → O.Denot → Q.D
  pub all : List T.D → ℕ → S.Denot → List E.Denot → List G.Denot → Q.D
  pub out : List T.D → ℕ → S.Denot → List E.Denot → List G.Denot → List G.Denot

module _ (s : Shape) where
  abbrev R : RattleType
  R = D.row s.T

  abbrev Arr : RattleType
  Arr = Array R s.N

  abbrev pub form : Form
  form = record {
    lifetimes = 2;
    params = value Arr ∷ value usize ∷ value s.S ∷ shown 0 tt s.E ∷ handed 1 tt s.G ∷ [];
    result = D.row s.Q;
    says_of = λ κs a r e. (r ≡ s.all a.0 a.1.0 a.1.1.0 a.1.1.1.0.now a.1.1.1.1.0.now) × (e.1.1.1.1.0.now ≡ s.out a.0 a.1.0 a.1.1.0 a.1.1.1.0.now a.1.1.1.1.0.now);
  }

  abbrev pub inner : Form
  inner = on_line s.O R s.E s.G s.S s.answer-of s.row_of s.out_of

  -- the locals past the parameters
  abbrev others : List Local
  others = local (ty Arr) memory_slot ∷ by_values (ty s.O ∷ ref-to erased mut Arr ∷ slice_of erased mut R ∷ ref-to erased mut s.G ∷ slice_of erased mut s.G ∷ ty Arr ∷ [])

  abbrev body : Body
  body = steps (sets 6 (rv_opd (it 1)) ∷ []) (steps (firsts-of 6 8 9 (it 2)) (steps (hands_to s.G 5 10 11) (steps (call s.f (it 9 ∷ it 3 ∷ it 4 ∷ it 11 ∷ []) (place 7 []) ∷ sets 12 (rv_opd (it 6)) ∷ sets 0 (aggregate (it 12 ∷ it 7 ∷ [])) ∷ []) return)))

  abbrev pub function : Fn
  function = code_of form (pair-ty s.Q Arr s.O) others body

pub record Knows {M : Type 1} {𝓤 : Ura M} (𝓛 : Logic 𝓤) (s : Shape) : Type 2 where
  pub says_all : (ys : List s.T.D) (n : ℕ) (x : s.S.Denot) (bs : List s.E.Denot) (rs : List s.G.Denot) → MadeOf s.made ys n (λ l. s.answer-of l x bs rs) (λ l. s.row_of l x bs rs) (s.all ys n x bs rs)
  pub says-out : (ys : List s.T.D) (n : ℕ) (x : s.S.Denot) (bs : List s.E.Denot) (rs : List s.G.Denot) → s.out_of (take n ys) x bs rs ≡ s.out ys n x bs rs
  pub plain-S : PlainType 𝓛 s.S
  pub made-Q : PlainMade 𝓛 s.T s.N s.O s.Q s.made

module _ {M : Type 1} {𝓤 : Ura M} (𝓛 : Logic 𝓤) (s : Shape) (d : Knows 𝓛 s) (𝓣 : Tables 𝓤 𝓛.H) (known : Triple 𝓤 (𝓣.C s.f) (met (inner s) 𝓤 𝓛)) where
  abbrev Tt : PlainType 𝓛 (R s)
  Tt = d.made-Q.record-type

  abbrev Ot : PlainType 𝓛 s.O
  Ot = d.made-Q.answer-type

  abbrev At : PlainType 𝓛 (Arr s)
  At = array 𝓛 (R s) Tt s.N

  abbrev N : Plains 𝓛 (form s).params
  N = (At, (uint 𝓛 w64, (d.plain-S, tt)))

  walk : (κ κ₁ : Lft) (q q₁ : Share) (ys : List s.T.D) (n : ℕ) (x : s.S.Denot) (cs : Bor (List s.E.Denot)) (rs : MutBor (List s.G.Denot)) → Is (Arr s) ys (At.val ys ∷ []) → Is usize n ((uint 𝓛 w64).val n ∷ []) → Is s.S x (d.plain-S.val x ∷ [])
      → Room s.G (length rs.now) → n ≤ s.N → Walk 𝓛 (form s) N 𝓣 (pair-ty s.Q (Arr s) s.O) (others s) (body s) (κ, (κ₁, tt)) (q, (q₁, tt)) (ys, (n, (x, (cs, (rs, tt)))))
  walk κ κ₁ q q₁ ys n x cs rs is_a n-is x-is space₁ few bs =
      -- [_12: 0; _11: 2; _10: 4; _9: 6; _8: 8; _7: 10; _6: 12; _5: 14; _4: 16; _3: 18; _2: 20; _1: 22; _0: 24; the block's token; the output's; the block; the output]
      fills ! (of_opd ! (var ! 22 refl)) 12 refl (has At ys is_a) $ takes-firsts ! 8 6 refl (tt, tt) (first-many ys n s.N is_a.1.0.1 few) refl (var ! 20 refl) refl (fits-slice (first-room (R s) ys n s.N d.made-Q.room is_a.1.0.1 few).0) $
      hands_on ! 14 4 2 refl refl refl refl refl refl (tt, tt) (fits-slice space₁.0) $
      move ! (12 ∷ []) $ lends_first (R s) Tt s.N bs.1.1.1.1.1.1.0 ys n ! tt tt is_a (first-room (R s) ys n s.N d.made-Q.room is_a.1.0.1 few) (λ ν γ. move ! (0 ∷ 28 ∷ 29 ∷ 1 ∷ 30 ∷ 31 ∷ []) $
      -- [ν's token; the block's token; the output's; the row; the block; the output; what the lender keeps; _12: 7; ..]
      calls 𝓛 (inner s) (d.plain-S, tt) (ν ∷ [], (κ, (κ₁, tt))) (full_share, (q, (q₁, tt))) (first-as (R s) s.N bs.1.1.1.1.1.1.0 γ (take n ys), (x, (cs, (rs, tt)))) Ot 𝓣 known (x-is, tt) !
      (and_then ! (var ! 8 refl) (and_then ! (var ! 19 refl) (and_then ! (var ! 17 refl) (and_then ! (var ! 4 refl) (no_more !))))) (λ r ws e l is. lands-in ! 16 refl (has Ot r is) $
      move ! (0 ∷ 3 ∷ 5 ∷ []) $ first_home (R s) Tt s.N bs.1.1.1.1.1.1.0 ys n ! tt ν γ ws.0 is_a.1.0.1 (λ is_b.
      -- [_6; the block's token; the output's; the last output; _12: 4; _11: 6; _10: 8; _9: 10; _8: 12; _7: 14; ..; _5: 17; ..; _0: 27], and in their order again
      fills ! (of_opd ! (var ! 0 refl)) 4 refl (has At (ws.0 ++ drop_n n ys) is_b) $ fills ! (agg ! (and_then ! (var ! 4 refl) (and_then ! (var ! 14 refl) (no_more !)))) 27 refl (has-made d.made-Q (s.made (ws.0 ++ drop_n n ys) r) _ (d.made-Q.made-is (ws.0 ++ drop_n n ys) r is_b is)) $
      move ! (1 ∷ 2 ∷ 3 ∷ 4 ∷ 5 ∷ 6 ∷ 7 ∷ 8 ∷ 9 ∷ 10 ∷ 11 ∷ 12 ∷ 13 ∷ 14 ∷ 15 ∷ 0 ∷ []) $ ends-in ! 27 refl (cell, (cell, (cell, (cell, (cell, (cell, (cell, (cell, (cell, (cell, (cell, (cell, (cell, tt))))))))))))) $
      by ! (exits 𝓛 (form s) N (κ, (κ₁, tt)) (q, (q₁, tt)) (ys, (n, (x, (cs, (rs, tt))))) d.made-Q.both (ws.1.1.1.0, tt) (s.made (ws.0 ++ drop_n n ys) r) _ (d.says_all ys n x cs.now rs.now r ws.0 e.0 e.1.0, e.1.1 ∙ d.says-out ys n x cs.now rs.now) (l.1.0, tt) (d.made-Q.made-is (ws.0 ++ drop_n n ys) r is_b is)))))

  pub meets : FulfilsIf 𝓛 (form s) (λ κs a. a.1.0 ≤ s.N) 𝓣 (function s)
  meets = meets-if 𝓛 (form s) N 𝓣 (pair-ty s.Q (Arr s) s.O) (others s) (body s) (λ κs a. a.1.0 ≤ s.N) (λ κs qs a so few. walk κs.0 κs.1.0 qs.0 qs.1.0 a.0 a.1.0 a.1.1.0 a.1.1.1.0 a.1.1.1.1.0 so.0 so.1.0 so.1.1.0 so.1.1.1.1.0 few)
