-- The shape Lined: what a state and a block ask is made into an act, that is done to a lent row, and the answer is put into a lent output.
-- Assumes nothing.
--     fn g(row: &mut [T], s: S, block: &[E], out: &mut [G]) -> O { let d = f1(s, block); let x = part(d); let y = f2(row, x); f3(out, d, y) }
-- T is a declared struct of plain fields, E and G are what a slice can hold, and S, X, Z and Y, the types of d, x and y, and O are plain. f1 says what it makes of the state and the block, part, which is covered, what it makes of that, f2 its answer and the whole row at exit, f3 its answer and the whole output at exit. g says the answer, the row and the output.
--     Shape, Knows     what g is made of; what the contract says, and what is to be known of the types
--     function, form   g's MIR, and its form.        takes-line, acts, puts     the forms of f1, f2 and f3.        meets     g's MIR fulfils that form wherever its callees fulfil theirs
-- Nothing is opened: the row and the output are handed on for good, each at its own lifetime and name.
use mathlib.Core.Path.{◌≡◌, refl, ◌∙◌}
use mathlib.Core.List.{[], ◌∷◌, List}
use lib.ListN.{length}
use seplogic.Ra.Ura.{Ura}
use mir.Syntax.{Callee, Fn, erased, mut, place, call, return, Local, Body}
use base.Fml.{Lft, Share}
use prog.Wp.{Tables}
use types.Logic.{Logic}
use types.Kit.{◌$◌, !, by, move}
use types.Run.{and_then, no_more}
use denote.RattleType.{RattleType}
use denote.Laws.{Is}
use denote.Ref.{Bor, MutBor}
use denote.Slice.{Room}
use denote.Struct.Declared as D
use denote.Triple.Statement.{Triple}
use Rattle.walks.proofs.Plain.{ty, PlainType, has}
use Rattle.walks.proofs.Walk.{cell}
use Rattle.walks.proofs.Steps.{it, steps, by_values, ref-to, slice_of, hands_to, fits-slice, var, lands-in, hands_on, ends-in}
use Rattle.walks.proofs.Form.{Form, code_of, value, shown, handed, Fulfils, met, calls, exits, Walk, meets-form}
use Rattle.walks.proofs.Callee.{Answers, Changes, OfLine, LineTold, of_one, on_row, on_line, calls-one}

pub record Shape : Type 2 where
  -- the record, the state, an element of the block and of the output, what f1 makes, what part makes of it, and what f2 and f3 return
  pub T : D.Declared
  pub S : RattleType
  pub E : RattleType
  pub G : RattleType
  pub X : RattleType
  pub Z : RattleType
  pub Y : RattleType
  pub O : RattleType
  pub f1 : Callee
  pub part : Callee
  pub f2 : Callee
  pub f3 : Callee
  -- of f1, part, f2 and f3, and of g: what is asked, its part, the answers, and what is left in the row and in the output
  pub asks : S.Denot → List E.Denot → X.Denot
  pub part_of : X.Denot → Z.Denot
  pub answer_at : Answers T.D Z.Denot Y.Denot
  pub row-at : Changes T.D Z.Denot
  pub put-answer : List G.Denot → X.Denot → Y.Denot → O.Denot
  pub put-out : List G.Denot → X.Denot → Y.Denot → List G.Denot
  pub answer-of : OfLine T.D S.Denot E.Denot G.Denot O.Denot
  pub row_of : OfLine T.D S.Denot E.Denot G.Denot (List T.D)
  pub out_of : OfLine T.D S.Denot E.Denot G.Denot (List G.Denot)

module _ (s : Shape) where
  abbrev R : RattleType
  R = D.row s.T

  abbrev pub form : Form
  form = on_line s.O R s.E s.G s.S s.answer-of s.row_of s.out_of

  abbrev pub takes-line : Form
  takes-line = record { lifetimes = 1; params = value s.S ∷ shown 0 tt s.E ∷ []; result = s.X; says_of = λ κs a r e. r ≡ s.asks a.0 a.1.0.now }

  abbrev pub acts : Form
  acts = on_row s.Y R s.Z s.answer_at s.row-at

  abbrev pub puts : Form
  puts = record {
    lifetimes = 1;
    params = handed 0 tt s.G ∷ value s.X ∷ value s.Y ∷ [];
    result = s.O;
    says_of = λ κs a r e. (r ≡ s.put-answer a.0.now a.1.0 a.1.1.0) × (e.0.now ≡ s.put-out a.0.now a.1.0 a.1.1.0);
  }

  -- the locals past the parameters
  abbrev others : List Local
  others = by_values (ty s.X ∷ ty s.Z ∷ ty s.Y ∷ ref-to erased mut R ∷ slice_of erased mut R ∷ ref-to erased mut s.G ∷ slice_of erased mut s.G ∷ [])

  abbrev body : Body
  body = steps (call s.f1 (it 2 ∷ it 3 ∷ []) (place 5 []) ∷ call s.part (it 5 ∷ []) (place 6 []) ∷ []) (steps (hands_to R 1 8 9) (steps (call s.f2 (it 9 ∷ it 6 ∷ []) (place 7 []) ∷ []) (steps (hands_to s.G 4 10 11) (steps (call s.f3 (it 11 ∷ it 5 ∷ it 7 ∷ []) (place 0 []) ∷ []) return))))

  abbrev pub function : Fn
  function = code_of form (ty s.O) others body

pub record Knows {M : Type 1} {𝓤 : Ura M} (𝓛 : Logic 𝓤) (s : Shape) : Type 2 where
  pub says_all : (ys : List s.T.D) (x : s.S.Denot) (bs : List s.E.Denot) (rs : List s.G.Denot) (d : s.X.Denot) (y : s.Y.Denot) → d ≡ s.asks x bs → y ≡ s.answer_at ys (s.part_of d)
      → LineTold s.answer-of s.row_of s.out_of ys x bs rs (s.put-answer rs d y) (s.row-at ys (s.part_of d)) (s.put-out rs d y)
  pub plain-S : PlainType 𝓛 s.S
  pub plain-X : PlainType 𝓛 s.X
  pub plain-Z : PlainType 𝓛 s.Z
  pub plain-Y : PlainType 𝓛 s.Y
  pub plain-O : PlainType 𝓛 s.O

module _ {M : Type 1} {𝓤 : Ura M} (𝓛 : Logic 𝓤) (s : Shape) (k : Knows 𝓛 s) (𝓣 : Tables 𝓤 𝓛.H)
    (known₁ : Triple 𝓤 (𝓣.C s.f1) (met (takes-line s) 𝓤 𝓛)) (known-part : Triple 𝓤 (𝓣.C s.part) (met (of_one s.Z s.X s.part_of) 𝓤 𝓛)) (known₂ : Triple 𝓤 (𝓣.C s.f2) (met (acts s) 𝓤 𝓛)) (known₃ : Triple 𝓤 (𝓣.C s.f3) (met (puts s) 𝓤 𝓛)) where
  walk : (κ κ₁ κ₂ : Lft) (q q₁ q₂ : Share) (ys : MutBor (List s.T.D)) (x : s.S.Denot) (bs : Bor (List s.E.Denot)) (rs : MutBor (List s.G.Denot)) → Room (R s) (length ys.now) → Is s.S x (k.plain-S.val x ∷ []) → Room s.G (length rs.now)
      → Walk 𝓛 (form s) (k.plain-S, tt) 𝓣 (ty s.O) (others s) (body s) (κ, (κ₁, (κ₂, tt))) (q, (q₁, (q₂, tt))) (ys, (x, (bs, (rs, tt))))
  walk κ κ₁ κ₂ q q₁ q₂ ys x bs rs space x-is space₂ _ =
      move ! (25 ∷ 28 ∷ 24 ∷ 27 ∷ 26 ∷ 29 ∷ []) $
      -- [the block's token; the block; the row's token; the row; the output's token; the output; _11: 6; _10: 8; _9: 10; _8: 12; _7: 14; _6: 16; _5: 18; _4: 20; _3: 22; _2: 24; _1: 26; _0: 28]
      calls 𝓛 (takes-line s) (k.plain-S, tt) (κ₁, tt) (q₁, tt) (x, (bs, tt)) k.plain-X 𝓣 known₁ (x-is, tt) ! (and_then ! (var ! 23 refl) (and_then ! (var ! 21 refl) (no_more !))) (λ d _ e₁ _ d-is. lands-in ! 17 refl (has k.plain-X d d-is) $
      -- [the block's token; the row's token; the row; the output's token; the output; _11: 5; ..]
      calls-one ! 𝓣 k.plain-X k.plain-Z s.part_of known-part d d-is (and_then ! (var ! 18 refl) (no_more !)) (λ z-is. lands-in ! 15 refl (has k.plain-Z (s.part_of d) z-is) $
      hands_on ! 25 11 9 refl refl refl refl refl refl (tt, tt) (fits-slice space.0) $ move ! (1 ∷ 2 ∷ []) $
      calls 𝓛 (acts s) (k.plain-Z, tt) (κ, tt) (q, tt) (ys, (s.part_of d, tt)) k.plain-Y 𝓣 known₂ (z-is, tt) ! (and_then ! (var ! 8 refl) (and_then ! (var ! 14 refl) (no_more !))) (λ y ws e₂ l y-is. lands-in ! 13 refl (has k.plain-Y y y-is) $
      -- [the row's token; the last row; the block's token; the output's token; the output; _11: 5; ..]
      hands_on ! 19 7 5 refl refl refl refl refl refl (tt, tt) (fits-slice space₂.0) $ move ! (3 ∷ 4 ∷ []) $
      calls 𝓛 (puts s) (k.plain-X, (k.plain-Y, tt)) (κ₂, tt) (q₂, tt) (rs, (d, (y, tt))) k.plain-O 𝓣 known₃ (d-is, (y-is, tt)) ! (and_then ! (var ! 4 refl) (and_then ! (var ! 16 refl) (and_then ! (var ! 12 refl) (no_more !)))) (λ r us e₃ l₃ is. lands-in ! 27 refl (has k.plain-O r is) $
      -- [the output's token; the last output; the row's token; the last row; the block's token; _11: 5; ..; _0: 27]
      ends-in ! 27 refl (cell, (cell, (cell, (cell, (cell, (cell, (cell, (cell, (cell, (cell, (cell, (cell, tt)))))))))))) $ move ! (2 ∷ 4 ∷ 0 ∷ 3 ∷ 1 ∷ []) $
      by ! (exits 𝓛 (form s) (k.plain-S, tt) (κ, (κ₁, (κ₂, tt))) (q, (q₁, (q₂, tt))) (ys, (x, (bs, (rs, tt)))) k.plain-O (ws.0, (us.0, tt)) r _
      (e₃.0 ∙ (k.says_all ys.now x bs.now rs.now d y e₁ e₂.0).0, (e₂.1 ∙ (k.says_all ys.now x bs.now rs.now d y e₁ e₂.0).1.0, e₃.1 ∙ (k.says_all ys.now x bs.now rs.now d y e₁ e₂.0).1.1)) (l.0, (l₃.0, tt)) is)))))

  pub meets : Fulfils 𝓛 (form s) 𝓣 (function s)
  meets = meets-form 𝓛 (form s) (k.plain-S, tt) 𝓣 (ty s.O) (others s) (body s) (λ κs qs a so. walk κs.0 κs.1.0 κs.1.1.0 qs.0 qs.1.0 qs.1.1.0 a.0 a.1.0 a.1.1.0 a.1.1.1.0 so.0 so.1.0 so.1.1.1.0)
