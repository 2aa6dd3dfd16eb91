-- The shape LendsFrame: a part of a local array is lent to a function over a row with bytes and a lent reply, and the array and the answer are returned.
-- Assumes nothing.
--     fn g(boards: [T; N], n: usize, bytes: &[E], reply: &mut [G]) -> Q { let mut row = boards; let answer = f(&mut row[..n], bytes, reply); Q { boards: row, answer: answer } }        requires n ≤ N
-- T is a declared struct of plain fields, O is plain, E and G are what a slice can hold, and Q is a declared struct of the array and the answer. f says the answer, the whole row and the whole reply at exit. g says `r ≡ all boards n ..` and what is in the reply at exit. g has no record behind a reference, so whoever calls it needs no walk.
--     Shape, Knows     what g is made of; what the contract says, and what is to be known of the types
--     function, form   g's MIR, and its form.        inner     the form of f.        meets     g's MIR fulfils that form wherever its callees fulfil theirs
use mathlib.Core.Path.{◌≡◌, refl, ◌∙◌}
use Prim.Native.Nat.{ℕ, ◌≤◌}
use mathlib.Core.List.{[], ◌∷◌, ◌++◌, List}
use lib.ListN.{length, take, drop as drop_n}
use seplogic.Ra.Ura.{Ura}
use base.Fraction.{full_share}
use mir.Syntax.{Callee, Fn, erased, mut, w64, place, local, memory_slot, call, return, rv_opd, aggregate, Local, Body}
use base.Fml.{Lft, Share}
use prog.Wp.{Tables}
use types.Logic.{Logic}
use types.Kit.{◌$◌, !, by, move}
use types.Run.{of_opd, and_then, no_more}
use types.Part.{agg}
use denote.RattleType.{RattleType}
use denote.Laws.{Is}
use denote.Array.{Array}
use denote.Builtin.{usize}
use denote.Ref.{Bor, MutBor}
use denote.Slice.{Room}
use denote.Struct.Declared as D
use denote.Triple.Statement.{Triple}
use Rattle.walks.proofs.Plain.{ty, PlainType, pair-ty, has, uint, array}
use Rattle.walks.proofs.Walk.{cell}
use Rattle.walks.proofs.Steps.{it, sets, steps, by_values, ref-to, slice_of, hands_to, firsts-of, fits-slice, var, fills, lands-in, hands_on, takes-firsts, ends-in}
use Rattle.walks.proofs.Form.{Form, code_of, value, shown, handed, Plains, FulfilsIf, met, calls, exits, Walk, meets-if}
use Rattle.walks.proofs.Callee.{OfFrame, OfLine, on-frame}
use Rattle.walks.proofs.LendArray.{MadeOf, first-many, first-room, PlainMade, has-made, first-as, lends_first, first_home}

pub record Shape : Type 2 where
  -- the record, an element of the bytes and of the reply, the answer, what is returned and the array's length
  pub T : D.Declared
  pub E : RattleType
  pub G : RattleType
  pub O : RattleType
  pub Q : D.Declared
  pub N : ℕ
  pub f : Callee
  -- what f says, what is made of the array and f's answer, and what g says of its result and of the reply
  pub answer-of : OfFrame T.D E.Denot G.Denot O.Denot
  pub row_of : OfFrame T.D E.Denot G.Denot (List T.D)
  pub reply-of : OfFrame T.D E.Denot G.Denot (List G.Denot)
  pub made : List T.D → O.Denot → Q.D
  pub all : OfLine T.D ℕ E.Denot G.Denot Q.D
  pub out : OfLine T.D ℕ E.Denot G.Denot (List G.Denot)

module _ (s : Shape) where
  abbrev R : RattleType
  R = D.row s.T

  abbrev Arr : RattleType
  Arr = Array R s.N

  abbrev pub form : Form
  form = record {
    lifetimes = 2;
    params = value Arr ∷ value usize ∷ shown 0 tt s.E ∷ handed 1 tt s.G ∷ [];
    result = D.row s.Q;
    says_of = λ κs a r e. (r ≡ s.all a.0 a.1.0 a.1.1.0.now a.1.1.1.0.now) × (e.1.1.1.0.now ≡ s.out a.0 a.1.0 a.1.1.0.now a.1.1.1.0.now);
  }

  abbrev pub inner : Form
  inner = on-frame s.O R s.E s.G s.answer-of s.row_of s.reply-of

  -- the locals past the parameters
  abbrev others : List Local
  others = local (ty Arr) memory_slot ∷ by_values (ty s.O ∷ ref-to erased mut Arr ∷ slice_of erased mut R ∷ ref-to erased mut s.G ∷ slice_of erased mut s.G ∷ ty Arr ∷ [])

  abbrev body : Body
  body = steps (sets 5 (rv_opd (it 1)) ∷ []) (steps (firsts-of 5 7 8 (it 2)) (steps (hands_to s.G 4 9 10) (steps (call s.f (it 8 ∷ it 3 ∷ it 10 ∷ []) (place 6 []) ∷ sets 11 (rv_opd (it 5)) ∷ sets 0 (aggregate (it 11 ∷ it 6 ∷ [])) ∷ []) return)))

  abbrev pub function : Fn
  function = code_of form (pair-ty s.Q Arr s.O) others body

pub record Knows {M : Type 1} {𝓤 : Ura M} (𝓛 : Logic 𝓤) (s : Shape) : Type 2 where
  pub says_all : (ys : List s.T.D) (n : ℕ) (bs : List s.E.Denot) (rs : List s.G.Denot) → MadeOf s.made ys n (λ l. s.answer-of l bs rs) (λ l. s.row_of l bs rs) (s.all ys n bs rs)
  pub says-out : (ys : List s.T.D) (n : ℕ) (bs : List s.E.Denot) (rs : List s.G.Denot) → s.reply-of (take n ys) bs rs ≡ s.out ys n bs rs
  pub made-Q : PlainMade 𝓛 s.T s.N s.O s.Q s.made

module _ {M : Type 1} {𝓤 : Ura M} (𝓛 : Logic 𝓤) (s : Shape) (d : Knows 𝓛 s) (𝓣 : Tables 𝓤 𝓛.H) (known : Triple 𝓤 (𝓣.C s.f) (met (inner s) 𝓤 𝓛)) where
  abbrev Tt : PlainType 𝓛 (R s)
  Tt = d.made-Q.record-type

  abbrev Ot : PlainType 𝓛 s.O
  Ot = d.made-Q.answer-type

  abbrev At : PlainType 𝓛 (Arr s)
  At = array 𝓛 (R s) Tt s.N

  abbrev N : Plains 𝓛 (form s).params
  N = (At, (uint 𝓛 w64, tt))

  walk : (κ κ₁ : Lft) (q q₁ : Share) (ys : List s.T.D) (n : ℕ) (cs : Bor (List s.E.Denot)) (rs : MutBor (List s.G.Denot)) → Is (Arr s) ys (At.val ys ∷ []) → Is usize n ((uint 𝓛 w64).val n ∷ []) → Room s.G (length rs.now) → n ≤ s.N
      → Walk 𝓛 (form s) N 𝓣 (pair-ty s.Q (Arr s) s.O) (others s) (body s) (κ, (κ₁, tt)) (q, (q₁, tt)) (ys, (n, (cs, (rs, tt))))
  walk κ κ₁ q q₁ ys n cs rs is_a n-is space₁ few bs =
      -- [_11: 0; _10: 2; _9: 4; _8: 6; _7: 8; _6: 10; _5: 12; _4: 14; _3: 16; _2: 18; _1: 20; _0: 22; the bytes' token; the reply's; the bytes; the reply]
      fills ! (of_opd ! (var ! 20 refl)) 12 refl (has At ys is_a) $ takes-firsts ! 8 6 refl (tt, tt) (first-many ys n s.N is_a.1.0.1 few) refl (var ! 18 refl) refl (fits-slice (first-room (R s) ys n s.N d.made-Q.room is_a.1.0.1 few).0) $
      hands_on ! 14 4 2 refl refl refl refl refl refl (tt, tt) (fits-slice space₁.0) $
      move ! (12 ∷ []) $ lends_first (R s) Tt s.N bs.1.1.1.1.1.0 ys n ! tt tt is_a (first-room (R s) ys n s.N d.made-Q.room is_a.1.0.1 few) (λ ν γ. move ! (0 ∷ 26 ∷ 27 ∷ 1 ∷ 28 ∷ 29 ∷ []) $
      -- [ν's token; the bytes' token; the reply's; the row; the bytes; the reply; what the lender keeps; _11: 7; ..]
      calls 𝓛 (inner s) tt (ν ∷ [], (κ, (κ₁, tt))) (full_share, (q, (q₁, tt))) (first-as (R s) s.N bs.1.1.1.1.1.0 γ (take n ys), (cs, (rs, tt))) Ot 𝓣 known tt ! (and_then ! (var ! 8 refl) (and_then ! (var ! 17 refl) (and_then ! (var ! 4 refl) (no_more !)))) (λ r ws e l is.
      lands-in ! 16 refl (has Ot r is) $ move ! (0 ∷ 3 ∷ 5 ∷ []) $ first_home (R s) Tt s.N bs.1.1.1.1.1.0 ys n ! tt ν γ ws.0 is_a.1.0.1 (λ is_b.
      -- [_5; the bytes' token; the reply's; the last reply; _11: 4; _10: 6; _9: 8; _8: 10; _7: 12; _6: 14; ..; _4: 17; ..; _0: 25], and in their order again
      fills ! (of_opd ! (var ! 0 refl)) 4 refl (has At (ws.0 ++ drop_n n ys) is_b) $ fills ! (agg ! (and_then ! (var ! 4 refl) (and_then ! (var ! 14 refl) (no_more !)))) 25 refl (has-made d.made-Q (s.made (ws.0 ++ drop_n n ys) r) _ (d.made-Q.made-is (ws.0 ++ drop_n n ys) r is_b is)) $
      move ! (1 ∷ 2 ∷ 3 ∷ 4 ∷ 5 ∷ 6 ∷ 7 ∷ 8 ∷ 9 ∷ 10 ∷ 11 ∷ 12 ∷ 13 ∷ 14 ∷ 15 ∷ 0 ∷ []) $ ends-in ! 25 refl (cell, (cell, (cell, (cell, (cell, (cell, (cell, (cell, (cell, (cell, (cell, (cell, tt)))))))))))) $
      by ! (exits 𝓛 (form s) N (κ, (κ₁, tt)) (q, (q₁, tt)) (ys, (n, (cs, (rs, tt)))) d.made-Q.both (ws.1.1.0, tt) (s.made (ws.0 ++ drop_n n ys) r) _ (d.says_all ys n cs.now rs.now r ws.0 e.0 e.1.0, e.1.1 ∙ d.says-out ys n cs.now rs.now) (l.1.0, tt) (d.made-Q.made-is (ws.0 ++ drop_n n ys) r is_b is)))))

  pub meets : FulfilsIf 𝓛 (form s) (λ κs a. a.1.0 ≤ s.N) 𝓣 (function s)
  meets = meets-if 𝓛 (form s) N 𝓣 (pair-ty s.Q (Arr s) s.O) (others s) (body s) (λ κs a. a.1.0 ≤ s.N) (λ κs qs a so few. walk κs.0 κs.1.0 qs.0 qs.1.0 a.0 a.1.0 a.1.1.0 a.1.1.1.0 so.0 so.1.0 so.1.1.1.0 few)
