-- The shape LendsBeside: a part of a local array is lent to a function over a row, with two arguments and a shared slice, and the array and the answer are returned.
-- Assumes nothing.
--     fn g(boards: [T; N], n: usize, k: K, x: X, cells: &[E]) -> Q { let mut row = boards; let answer = f(&mut row[..n], k, x, cells); Q { boards: row, answer: answer } }        requires n ≤ N
-- T is a declared struct of plain fields, K, X and O are plain, E is what a slice can hold, and Q is a declared struct of the array and the answer. f says the answer and the whole row at exit. g says `r ≡ all boards n k x (now cells.entry)`. g's parameters are plain but for the slice, so whoever calls it needs no walk.
--     Shape, Knows     what g is made of; what the contract says, and what is to be known of the types
--     function, form   g's MIR, and its form.        inner     the form of f.        meets     g's MIR fulfils that form wherever its callees fulfil theirs
use mathlib.Core.Path.{◌≡◌, refl}
use Prim.Native.Nat.{ℕ, ◌≤◌}
use mathlib.Core.List.{[], ◌∷◌, ◌++◌, List}
use lib.ListN.{take, drop as drop_n}
use seplogic.Ra.Ura.{Ura}
use base.Fraction.{full_share}
use mir.Syntax.{Callee, Fn, erased, mut, w64, place, local, memory_slot, call, return, rv_opd, aggregate, Local, Body}
use base.Fml.{Lft, Share}
use prog.Wp.{Tables}
use types.Logic.{Logic}
use types.Kit.{◌$◌, !, by, move}
use types.Run.{of_opd, and_then, no_more}
use types.Part.{agg}
use denote.RattleType.{RattleType}
use denote.Laws.{Is}
use denote.Array.{Array}
use denote.Builtin.{usize}
use denote.Ref.{Bor}
use denote.Struct.Declared as D
use denote.Triple.Statement.{Triple}
use Rattle.walks.proofs.Plain.{ty, PlainType, pair-ty, has, uint, array}
use Rattle.walks.proofs.Walk.{cell}
use Rattle.walks.proofs.Steps.{it, sets, steps, by_values, ref-to, slice_of, firsts-of, fits-slice, var, fills, lands-in, takes-firsts, ends-in}
use Rattle.walks.proofs.Form.{Form, code_of, value, shown, Plains, FulfilsIf, met, calls, exits, Walk, meets-if}
use Rattle.walks.proofs.Callee.{OfCells, on-cells}
use Rattle.walks.proofs.LendArray.{MadeOf, first-many, first-room, PlainMade, has-made, first-as, lends_first, first_home}

pub record Shape : Type 2 where
  -- the record, the two other arguments, an element of the slice, the answer, what is returned and the array's length
  pub T : D.Declared
  pub K : RattleType
  pub X : RattleType
  pub E : RattleType
  pub O : RattleType
  pub Q : D.Declared
  pub N : ℕ
  pub f : Callee
  -- what f says, what is made of the array and f's answer, and what g says of its result
  pub answer_at : OfCells T.D K.Denot X.Denot E.Denot O.Denot
  pub row-at : OfCells T.D K.Denot X.Denot E.Denot (List T.D)
  pub made : List T.D → O.Denot → Q.D
  pub all : List T.D → ℕ → K.Denot → X.Denot → List E.Denot → Q.D

module _ (s : Shape) where
  abbrev R : RattleType
  R = D.row s.T

  abbrev Arr : RattleType
  Arr = Array R s.N

  abbrev pub form : Form
  form = record { lifetimes = 1; params = value Arr ∷ value usize ∷ value s.K ∷ value s.X ∷ shown 0 tt s.E ∷ []; result = D.row s.Q; says_of = λ κs a r e. r ≡ s.all a.0 a.1.0 a.1.1.0 a.1.1.1.0 a.1.1.1.1.0.now }

  abbrev pub inner : Form
  inner = on-cells s.O R s.K s.X s.E s.answer_at s.row-at

  -- the locals past the parameters
  abbrev others : List Local
  others = local (ty Arr) memory_slot ∷ by_values (ty s.O ∷ ref-to erased mut Arr ∷ slice_of erased mut R ∷ ty Arr ∷ [])

  abbrev body : Body
  body = steps (sets 6 (rv_opd (it 1)) ∷ []) (steps (firsts-of 6 8 9 (it 2)) (steps (call s.f (it 9 ∷ it 3 ∷ it 4 ∷ it 5 ∷ []) (place 7 []) ∷ sets 10 (rv_opd (it 6)) ∷ sets 0 (aggregate (it 10 ∷ it 7 ∷ [])) ∷ []) return))

  abbrev pub function : Fn
  function = code_of form (pair-ty s.Q Arr s.O) others body

pub record Knows {M : Type 1} {𝓤 : Ura M} (𝓛 : Logic 𝓤) (s : Shape) : Type 2 where
  pub says_all : (ys : List s.T.D) (n : ℕ) (k : s.K.Denot) (x : s.X.Denot) (cs : List s.E.Denot) → MadeOf s.made ys n (λ l. s.answer_at l k x cs) (λ l. s.row-at l k x cs) (s.all ys n k x cs)
  pub plain-K : PlainType 𝓛 s.K
  pub plain-X : PlainType 𝓛 s.X
  pub made-Q : PlainMade 𝓛 s.T s.N s.O s.Q s.made

module _ {M : Type 1} {𝓤 : Ura M} (𝓛 : Logic 𝓤) (s : Shape) (d : Knows 𝓛 s) (𝓣 : Tables 𝓤 𝓛.H) (known : Triple 𝓤 (𝓣.C s.f) (met (inner s) 𝓤 𝓛)) where
  abbrev Tt : PlainType 𝓛 (R s)
  Tt = d.made-Q.record-type

  abbrev Ot : PlainType 𝓛 s.O
  Ot = d.made-Q.answer-type

  abbrev At : PlainType 𝓛 (Arr s)
  At = array 𝓛 (R s) Tt s.N

  abbrev N : Plains 𝓛 (form s).params
  N = (At, (uint 𝓛 w64, (d.plain-K, (d.plain-X, tt))))

  walk : (κ : Lft) (q : Share) (ys : List s.T.D) (n : ℕ) (k : s.K.Denot) (x : s.X.Denot) (cs : Bor (List s.E.Denot)) → Is (Arr s) ys (At.val ys ∷ []) → Is usize n ((uint 𝓛 w64).val n ∷ []) → Is s.K k (d.plain-K.val k ∷ []) → Is s.X x (d.plain-X.val x ∷ [])
      → n ≤ s.N → Walk 𝓛 (form s) N 𝓣 (pair-ty s.Q (Arr s) s.O) (others s) (body s) (κ, tt) (q, tt) (ys, (n, (k, (x, (cs, tt)))))
  walk κ q ys n k x cs is_a n-is k-is x-is few bs =
      -- [_10: 0; _9: 2; _8: 4; _7: 6; _6: 8; _5: 10; _4: 12; _3: 14; _2: 16; _1: 18; _0: 20; the cells' token; the cells]
      fills ! (of_opd ! (var ! 18 refl)) 8 refl (has At ys is_a) $ takes-firsts ! 4 2 refl (tt, tt) (first-many ys n s.N is_a.1.0.1 few) refl (var ! 16 refl) refl (fits-slice (first-room (R s) ys n s.N d.made-Q.room is_a.1.0.1 few).0) $
      move ! (8 ∷ []) $ lends_first (R s) Tt s.N bs.1.1.1.1.1.1.0 ys n ! tt tt is_a (first-room (R s) ys n s.N d.made-Q.room is_a.1.0.1 few) (λ ν γ. move ! (0 ∷ 24 ∷ 1 ∷ 25 ∷ []) $
      -- [ν's token; the cells' token; the row; the cells; what the lender keeps; _10: 5; ..]
      calls 𝓛 (inner s) (d.plain-K, (d.plain-X, tt)) (ν ∷ [], (κ, tt)) (full_share, (q, tt)) (first-as (R s) s.N bs.1.1.1.1.1.1.0 γ (take n ys), (k, (x, (cs, tt)))) Ot 𝓣 known (k-is, (x-is, tt)) !
      (and_then ! (var ! 4 refl) (and_then ! (var ! 15 refl) (and_then ! (var ! 13 refl) (and_then ! (var ! 11 refl) (no_more !))))) (λ r ws e _ is. lands-in ! 10 refl (has Ot r is) $
      move ! (0 ∷ 2 ∷ 3 ∷ []) $ first_home (R s) Tt s.N bs.1.1.1.1.1.1.0 ys n ! tt ν γ ws.0 is_a.1.0.1 (λ is_b.
      -- [_6; the cells' token; _10: 2; _9: 4; _8: 6; _7: 8; ..; _5: 11; ..; _0: 21], and in their order again
      fills ! (of_opd ! (var ! 0 refl)) 2 refl (has At (ws.0 ++ drop_n n ys) is_b) $ fills ! (agg ! (and_then ! (var ! 2 refl) (and_then ! (var ! 8 refl) (no_more !)))) 21 refl (has-made d.made-Q (s.made (ws.0 ++ drop_n n ys) r) _ (d.made-Q.made-is (ws.0 ++ drop_n n ys) r is_b is)) $
      move ! (1 ∷ 2 ∷ 3 ∷ 4 ∷ 5 ∷ 6 ∷ 7 ∷ 8 ∷ 9 ∷ 0 ∷ []) $ ends-in ! 21 refl (cell, (cell, (cell, (cell, (cell, (cell, (cell, (cell, (cell, (cell, (cell, tt))))))))))) $
      by ! (exits 𝓛 (form s) N (κ, tt) (q, tt) (ys, (n, (k, (x, (cs, tt))))) d.made-Q.both tt (s.made (ws.0 ++ drop_n n ys) r) _ (d.says_all ys n k x cs.now r ws.0 e.0 e.1) tt (d.made-Q.made-is (ws.0 ++ drop_n n ys) r is_b is)))))

  pub meets : FulfilsIf 𝓛 (form s) (λ κs a. a.1.0 ≤ s.N) 𝓣 (function s)
  meets = meets-if 𝓛 (form s) N 𝓣 (pair-ty s.Q (Arr s) s.O) (others s) (body s) (λ κs a. a.1.0 ≤ s.N) (λ κs qs a so few. walk κs.0 qs.0 a.0 a.1.0 a.1.1.0 a.1.1.1.0 a.1.1.1.1.0 so.0 so.1.0 so.1.1.0 so.1.1.1.0 few)
