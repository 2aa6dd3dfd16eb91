-- The shape ListedOnly: what is asked is a list of numbers, of which a part is shown to a function over a lent row.
-- Assumes nothing.
--     fn g(row: &mut [T], x: X) -> O { let cells = f1(x); let m = f2(x); let a = f(row, &cells[..m]); h(a) }
-- T is a declared struct of plain fields, X, O and Y, the type of a, are plain, and f1 gives an array of K of the plain E. f1, f2 and h are covered, and f2 says a usize that is at most K. f says its answer and the whole row at exit, and so does g.
--     Shape, Knows     what g is made of; what the contract says, that f2 says no more than K, and what is to be known of the types
--     function, form   g's MIR, and its form.        inner     the form of f.        meets     g's MIR fulfils that form wherever its callees fulfil theirs
-- The part of the local array is shown for a lifetime of the call. The row is handed on for good.
use mathlib.Core.Path.{◌≡◌, refl, ◌∙◌, ap}
use Prim.Native.Nat.{ℕ, ◌≤◌}
use mathlib.Core.List.{[], ◌∷◌, List}
use lib.ListN.{length, take}
use seplogic.Ra.Ura.{Ura}
use base.Fraction.{full_share}
use mir.Syntax.{Callee, Fn, erased, mut, imm, w64, ty_int, place, local, memory_slot, call, return, rv_opd, Local, Body}
use base.Fml.{Lft, Share}
use prog.Wp.{Tables}
use types.Logic.{Logic}
use types.Kit.{◌$◌, !, by, move}
use types.Run.{of_opd, and_then, no_more}
use denote.RattleType.{RattleType}
use denote.Laws.{Is}
use denote.Array.{Array}
use denote.ArrayMemory.{Single}
use denote.Builtin.{usize}
use denote.Ref.{MutBor}
use denote.Slice.{Room}
use denote.Struct.Declared as D
use denote.Triple.Statement.{Triple}
use Rattle.walks.proofs.Plain.{ty, PlainType, has, uint, array}
use Rattle.walks.proofs.Walk.{cell}
use Rattle.walks.proofs.Steps.{it, sets, steps, by_values, ref-to, slice_of, hands_to, firsts-of, fits-slice, var, fills, lands-in, hands_on, takes-firsts, ends-in}
use Rattle.walks.proofs.Form.{Form, handed, shown, code_of, Fulfils, met, calls, exits, Walk, meets-form}
use Rattle.walks.proofs.Callee.{Answers, Changes, Told, of_one, on_row, calls-one}
use Rattle.walks.proofs.LendArray.{first-many, first-room, first-shown, shows_first, shown-home}

pub record Shape : Type 2 where
  -- the record, what is asked, an element of the array and its length, what f answers, and the answer
  pub T : D.Declared
  pub X : RattleType
  pub E : RattleType
  pub K : ℕ
  pub Y : RattleType
  pub O : RattleType
  pub f1 : Callee
  pub f2 : Callee
  pub f : Callee
  pub h : Callee
  -- what the contracts of f1, f2, f and h say, and what g's says
  pub cells : X.Denot → List E.Denot
  pub many : X.Denot → ℕ
  pub answer_at : List T.D → List E.Denot → Y.Denot
  pub row-at : List T.D → List E.Denot → List T.D
  pub told : Y.Denot → O.Denot
  pub answer-in : Answers T.D X.Denot O.Denot
  pub row_in : Changes T.D X.Denot

module _ (s : Shape) where
  abbrev R : RattleType
  R = D.row s.T

  abbrev Arr : RattleType
  Arr = Array s.E s.K

  abbrev pub form : Form
  form = on_row s.O R s.X s.answer-in s.row_in

  abbrev pub inner : Form
  inner = record { lifetimes = 2; params = handed 0 tt R ∷ shown 1 tt s.E ∷ []; result = s.Y; says_of = λ κs a r e. (r ≡ s.answer_at a.0.now a.1.0.now) × (e.0.now ≡ s.row-at a.0.now a.1.0.now) }

  -- the locals past the parameters
  abbrev others : List Local
  others = local (ty Arr) memory_slot ∷ by_values (ty_int w64 ∷ ty s.Y ∷ ty Arr ∷ ref-to erased mut R ∷ slice_of erased mut R ∷ ref-to erased imm Arr ∷ slice_of erased imm s.E ∷ [])

  abbrev body : Body
  body = steps (call s.f1 (it 2 ∷ []) (place 6 []) ∷ sets 3 (rv_opd (it 6)) ∷ call s.f2 (it 2 ∷ []) (place 4 []) ∷ [])
      (steps (hands_to R 1 7 8) (steps (firsts-of 3 9 10 (it 4)) (steps (call s.f (it 8 ∷ it 10 ∷ []) (place 5 []) ∷ call s.h (it 5 ∷ []) (place 0 []) ∷ []) return)))

  abbrev pub function : Fn
  function = code_of form (ty s.O) others body

pub record Knows {M : Type 1} {𝓤 : Ura M} (𝓛 : Logic 𝓤) (s : Shape) : Type 2 where
  pub says_all : (ys : List s.T.D) (x : s.X.Denot)
      → Told s.answer-in s.row_in ys x (s.told (s.answer_at ys (take (s.many x) (s.cells x)))) (s.row-at ys (take (s.many x) (s.cells x)))
  pub few : (x : s.X.Denot) → s.many x ≤ s.K
  pub plain-X : PlainType 𝓛 s.X
  pub plain-E : PlainType 𝓛 s.E
  pub plain-Y : PlainType 𝓛 s.Y
  pub plain-O : PlainType 𝓛 s.O
  -- for a number the first is tt; the second is two numerals compared
  pub single-E : Single s.E.mir
  pub room : Room s.E s.K

module _ {M : Type 1} {𝓤 : Ura M} (𝓛 : Logic 𝓤) (s : Shape) (k : Knows 𝓛 s) (𝓣 : Tables 𝓤 𝓛.H) (known₁ : Triple 𝓤 (𝓣.C s.f1) (met (of_one (Arr s) s.X s.cells) 𝓤 𝓛)) (known₂ : Triple 𝓤 (𝓣.C s.f2) (met (of_one usize s.X s.many) 𝓤 𝓛))
    (known : Triple 𝓤 (𝓣.C s.f) (met (inner s) 𝓤 𝓛)) (known-h : Triple 𝓤 (𝓣.C s.h) (met (of_one s.O s.Y s.told) 𝓤 𝓛)) where
  abbrev At : PlainType 𝓛 (Arr s)
  At = array 𝓛 s.E k.plain-E s.K

  module _ (κ : Lft) (q : Share) (ys : MutBor (List s.T.D)) (x : s.X.Denot) where
    -- the cells that are shown
    abbrev us : List s.E.Denot
    us = take (s.many x) (s.cells x)

    many : length (s.cells x) ≡ s.K → s.many x ≡ length us
    many long = first-many (s.cells x) (s.many x) s.K long (k.few x)

    room : length (s.cells x) ≡ s.K → Room s.E (length us)
    room long = first-room s.E (s.cells x) (s.many x) s.K k.room long (k.few x)

    walk : Room (R s) (length ys.now) → Is s.X x (k.plain-X.val x ∷ []) → Walk 𝓛 (form s) (k.plain-X, tt) 𝓣 (ty s.O) (others s) (body s) (κ, tt) (q, tt) (ys, (x, tt))
    walk space x-is bs =
        move ! (22 ∷ 23 ∷ []) $
        -- [the token; the row; _10: 2; _9: 4; _8: 6; _7: 8; _6: 10; _5: 12; _4: 14; _3: 16; _2: 18; _1: 20; _0: 22]
        calls-one ! 𝓣 k.plain-X At s.cells known₁ x x-is (and_then ! (var ! 19 refl) (no_more !)) (λ is_a. lands-in ! 10 refl (has At (s.cells x) is_a) $ fills ! (of_opd ! (var ! 10 refl)) 16 refl (has At (s.cells x) is_a) $
        calls-one ! 𝓣 k.plain-X (uint 𝓛 w64) s.many known₂ x x-is (and_then ! (var ! 19 refl) (no_more !)) (λ m-is. lands-in ! 14 refl (tt, record { fits = m-is.1 }) $
        hands_on ! 20 8 6 refl refl refl refl refl refl (tt, tt) (fits-slice space.0) $ takes-firsts ! 4 2 refl (tt, tt) (many is_a.1.0.1) refl (var ! 14 refl) refl (fits-slice (room is_a.1.0.1).0) $
        move ! (16 ∷ []) $ shows_first s.E k.plain-E s.K bs.1.1.1.0 (s.cells x) (s.many x) ! tt k.single-E is_a (room is_a.1.0.1) (λ ν. move ! (3 ∷ 0 ∷ 4 ∷ 1 ∷ []) $
        -- [the token; ν's token; the row; the cells; what the lender keeps; _10: 5; ..]
        calls 𝓛 (inner s) tt (κ, (ν ∷ [], tt)) (q, (full_share, tt)) (ys, (first-shown s.E s.K bs.1.1.1.0 us, tt)) k.plain-Y 𝓣 known tt !
        (and_then ! (var ! 6 refl) (and_then ! (var ! 2 refl) (no_more !))) (λ y ws e l y-is. lands-in ! 14 refl (has k.plain-Y y y-is) $
        move ! (1 ∷ 3 ∷ []) $ shown-home s.E k.plain-E s.K bs.1.1.1.0 (s.cells x) (s.many x) ! tt ν is_a.1.0.1 (λ _.
        -- [_3; the token; the last row; _10: 3; _9: 5; _8: 7; _7: 9; _6: 11; _5: 13; _4: 15; ..; _2: 18; ..; _0: 22], and in their order again
        calls-one ! 𝓣 k.plain-Y k.plain-O s.told known-h y y-is (and_then ! (var ! 14 refl) (no_more !)) (λ is. lands-in ! 22 refl (has k.plain-O (s.told y) is) $ move ! (1 ∷ 2 ∷ 3 ∷ 4 ∷ 5 ∷ 6 ∷ 7 ∷ 8 ∷ 9 ∷ 10 ∷ 11 ∷ 12 ∷ 13 ∷ 14 ∷ 15 ∷ 16 ∷ 0 ∷ []) $
        ends-in ! 22 refl (cell, (cell, (cell, (cell, (cell, (cell, (cell, (cell, (cell, (cell, (cell, tt))))))))))) $
        by ! (exits 𝓛 (form s) (k.plain-X, tt) (κ, tt) (q, tt) (ys, (x, tt)) k.plain-O (ws.0, tt) (s.told y) _ (ap s.told e.0 ∙ (k.says_all ys.now x).0, e.1 ∙ (k.says_all ys.now x).1) l is)))))))

  pub meets : Fulfils 𝓛 (form s) 𝓣 (function s)
  meets = meets-form 𝓛 (form s) (k.plain-X, tt) 𝓣 (ty s.O) (others s) (body s) (λ κs qs a so. walk κs.0 qs.0 a.0 a.1.0 so.0 so.1.0)
