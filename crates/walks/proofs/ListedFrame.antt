-- The shape ListedFrame: bytes are made of what is asked, a part of them is shown to a function over a lent row with a reply, and the reply is a part of a local array that is let go.
-- Assumes nothing.
--     fn g(row: &mut [T], x: X) -> O { let bytes = f1(x); let m = f2(x); let mut reply = f3(); let l = f4(x); let a = f(row, &bytes[..m], &mut reply[..l]); h(a) }
-- T is a declared struct of plain fields, X, O and Y, the type of a, are plain, f1 gives an array of K of the plain E, f3 an array of L of the plain G. f1 to f4 and h are covered, f2 says a usize that is at most K, and f4 one that is at most L. f, as g of Framed, says its answer, the whole row and the whole reply at exit. g says its answer and the whole row at exit.
--     Shape, Knows     what g is made of; what the contract says, that f2 and f4 say no more than K and L, and what is to be known of the types
--     function, form   g's MIR, and its form.        inner     the form of f.        meets     g's MIR fulfils that form wherever its callees fulfil theirs
-- The two parts are lent for two lifetimes of the call. The row is handed on for good.
use mathlib.Core.Path.{◌≡◌, refl, ◌∙◌, ap}
use Prim.Native.Nat.{ℕ, ◌≤◌}
use mathlib.Core.List.{[], ◌∷◌, List}
use lib.ListN.{length, take}
use seplogic.Ra.Ura.{Ura}
use base.Fraction.{full_share}
use mir.Syntax.{Callee, Fn, erased, mut, imm, w64, ty_int, place, Local, local, value_local, memory_slot, call, return, rv_opd, Body}
use base.Fml.{Lft, Share}
use prog.Wp.{Tables}
use types.Logic.{Logic}
use types.Kit.{◌$◌, !, by, move}
use types.Run.{of_opd, and_then, no_more}
use denote.RattleType.{RattleType}
use denote.Laws.{Is}
use denote.Array.{Array}
use denote.ArrayMemory.{Single}
use denote.Builtin.{usize}
use denote.Ref.{MutBor}
use denote.Slice.{Room}
use denote.Struct.Declared as D
use denote.Triple.Statement.{Triple}
use Rattle.walks.proofs.Plain.{ty, PlainType, has, uint, array}
use Rattle.walks.proofs.Walk.{cell}
use Rattle.walks.proofs.Steps.{it, sets, steps, by_values, ref-to, slice_of, hands_to, firsts-of, fits-slice, var, fills, lands-in, hands_on, takes-firsts, ends-in}
use Rattle.walks.proofs.Form.{Form, code_of, Fulfils, met, calls, exits, Walk, meets-form}
use Rattle.walks.proofs.Callee.{Answers, Changes, Told, OfFrame, a-value, of_one, on_row, on-frame, calls-nothing, calls-one}
use Rattle.walks.proofs.LendArray.{first-many, first-room, first-as, first-shown, lends_first, first_home, shows_first, shown-home}

pub record Shape : Type 2 where
  -- the record, what is asked, an element of the bytes and how many there are, an element of the reply and how many it has, what f answers, and the answer
  pub T : D.Declared
  pub X : RattleType
  pub E : RattleType
  pub K : ℕ
  pub G : RattleType
  pub L : ℕ
  pub Y : RattleType
  pub O : RattleType
  pub f1 : Callee
  pub f2 : Callee
  pub f3 : Callee
  pub f4 : Callee
  pub f : Callee
  pub h : Callee
  -- what the contracts of f1 to f4, f and h say, and what g's says
  pub bytes : X.Denot → List E.Denot
  pub many : X.Denot → ℕ
  pub blank : List G.Denot
  pub lent : X.Denot → ℕ
  pub answer-of : OfFrame T.D E.Denot G.Denot Y.Denot
  pub row_of : OfFrame T.D E.Denot G.Denot (List T.D)
  pub reply-of : OfFrame T.D E.Denot G.Denot (List G.Denot)
  pub told : Y.Denot → O.Denot
  pub answer-in : Answers T.D X.Denot O.Denot
  pub row_in : Changes T.D X.Denot

module _ (s : Shape) where
  abbrev R : RattleType
  R = D.row s.T

  abbrev Bytes : RattleType
  Bytes = Array s.E s.K

  abbrev Reply : RattleType
  Reply = Array s.G s.L

  abbrev pub form : Form
  form = on_row s.O R s.X s.answer-in s.row_in

  abbrev pub inner : Form
  inner = on-frame s.Y R s.E s.G s.answer-of s.row_of s.reply-of

  -- the locals past the parameters
  abbrev others : List Local
  others = local (ty Bytes) memory_slot ∷ local (ty_int w64) value_local ∷ local (ty Reply) memory_slot
      ∷ by_values (ty_int w64 ∷ ty s.Y ∷ ty Bytes ∷ ty Reply ∷ ref-to erased mut R ∷ slice_of erased mut R ∷ ref-to erased imm Bytes ∷ slice_of erased imm s.E ∷ ref-to erased mut Reply ∷ slice_of erased mut s.G ∷ [])

  abbrev body : Body
  body = steps (call s.f1 (it 2 ∷ []) (place 8 []) ∷ sets 3 (rv_opd (it 8)) ∷ call s.f2 (it 2 ∷ []) (place 4 []) ∷ call s.f3 [] (place 9 []) ∷ sets 5 (rv_opd (it 9)) ∷ call s.f4 (it 2 ∷ []) (place 6 []) ∷ [])
      (steps (hands_to R 1 10 11) (steps (firsts-of 3 12 13 (it 4)) (steps (firsts-of 5 14 15 (it 6)) (steps (call s.f (it 11 ∷ it 13 ∷ it 15 ∷ []) (place 7 []) ∷ call s.h (it 7 ∷ []) (place 0 []) ∷ []) return))))

  abbrev pub function : Fn
  function = code_of form (ty s.O) others body

pub record Knows {M : Type 1} {𝓤 : Ura M} (𝓛 : Logic 𝓤) (s : Shape) : Type 2 where
  pub says_all : (ys : List s.T.D) (x : s.X.Denot)
      → Told s.answer-in s.row_in ys x (s.told (s.answer-of ys (take (s.many x) (s.bytes x)) (take (s.lent x) s.blank))) (s.row_of ys (take (s.many x) (s.bytes x)) (take (s.lent x) s.blank))
  pub few : (x : s.X.Denot) → s.many x ≤ s.K
  pub few-lent : (x : s.X.Denot) → s.lent x ≤ s.L
  pub plain-X : PlainType 𝓛 s.X
  pub plain-E : PlainType 𝓛 s.E
  pub plain-G : PlainType 𝓛 s.G
  pub plain-Y : PlainType 𝓛 s.Y
  pub plain-O : PlainType 𝓛 s.O
  -- for numbers the first two are tt; the others are numerals compared
  pub single-E : Single s.E.mir
  pub single-G : Single s.G.mir
  pub bytes-room : Room s.E s.K
  pub reply-room : Room s.G s.L

module _ {M : Type 1} {𝓤 : Ura M} (𝓛 : Logic 𝓤) (s : Shape) (k : Knows 𝓛 s) (𝓣 : Tables 𝓤 𝓛.H) (known₁ : Triple 𝓤 (𝓣.C s.f1) (met (of_one (Bytes s) s.X s.bytes) 𝓤 𝓛)) (known₂ : Triple 𝓤 (𝓣.C s.f2) (met (of_one usize s.X s.many) 𝓤 𝓛))
    (known₃ : Triple 𝓤 (𝓣.C s.f3) (met (a-value (Reply s) s.blank) 𝓤 𝓛)) (known₄ : Triple 𝓤 (𝓣.C s.f4) (met (of_one usize s.X s.lent) 𝓤 𝓛)) (known : Triple 𝓤 (𝓣.C s.f) (met (inner s) 𝓤 𝓛)) (known-h : Triple 𝓤 (𝓣.C s.h) (met (of_one s.O s.Y s.told) 𝓤 𝓛)) where
  abbrev Bt : PlainType 𝓛 (Bytes s)
  Bt = array 𝓛 s.E k.plain-E s.K

  abbrev Gt : PlainType 𝓛 (Reply s)
  Gt = array 𝓛 s.G k.plain-G s.L

  module _ (κ : Lft) (q : Share) (ys : MutBor (List s.T.D)) (x : s.X.Denot) where
    -- the bytes that are shown, and the reply that is lent
    abbrev us : List s.E.Denot
    us = take (s.many x) (s.bytes x)

    abbrev vs : List s.G.Denot
    vs = take (s.lent x) s.blank

    module _ (long : length (s.bytes x) ≡ s.K) where
      many : s.many x ≡ length us
      many = first-many (s.bytes x) (s.many x) s.K long (k.few x)

      room : Room s.E (length us)
      room = first-room s.E (s.bytes x) (s.many x) s.K k.bytes-room long (k.few x)

    module _ (long : length s.blank ≡ s.L) where
      many₂ : s.lent x ≡ length vs
      many₂ = first-many s.blank (s.lent x) s.L long (k.few-lent x)

      room₂ : Room s.G (length vs)
      room₂ = first-room s.G s.blank (s.lent x) s.L k.reply-room long (k.few-lent x)

    walk : Room (R s) (length ys.now) → Is s.X x (k.plain-X.val x ∷ []) → Walk 𝓛 (form s) (k.plain-X, tt) 𝓣 (ty s.O) (others s) (body s) (κ, tt) (q, tt) (ys, (x, tt))
    walk space x-is bs =
        move ! (32 ∷ 33 ∷ []) $
        -- [the token; the row; _15: 2; _14: 4; _13: 6; _12: 8; _11: 10; _10: 12; _9: 14; _8: 16; _7: 18; _6: 20; _5: 22; _4: 24; _3: 26; _2: 28; _1: 30; _0: 32]
        calls-one ! 𝓣 k.plain-X Bt s.bytes known₁ x x-is (and_then ! (var ! 29 refl) (no_more !)) (λ is_b. lands-in ! 16 refl (has Bt (s.bytes x) is_b) $ fills ! (of_opd ! (var ! 16 refl)) 26 refl (has Bt (s.bytes x) is_b) $
        calls-one ! 𝓣 k.plain-X (uint 𝓛 w64) s.many known₂ x x-is (and_then ! (var ! 29 refl) (no_more !)) (λ m-is. lands-in ! 24 refl (tt, record { fits = m-is.1 }) $
        calls-nothing ! 𝓣 (Reply s) Gt s.blank known₃ (λ is_g. lands-in ! 14 refl (has Gt s.blank is_g) $ fills ! (of_opd ! (var ! 14 refl)) 22 refl (has Gt s.blank is_g) $
        calls-one ! 𝓣 k.plain-X (uint 𝓛 w64) s.lent known₄ x x-is (and_then ! (var ! 29 refl) (no_more !)) (λ l-is. lands-in ! 20 refl (tt, record { fits = l-is.1 }) $
        hands_on ! 30 12 10 refl refl refl refl refl refl (tt, tt) (fits-slice space.0) $ takes-firsts ! 8 6 refl (tt, tt) (many is_b.1.0.1) refl (var ! 24 refl) refl (fits-slice (room is_b.1.0.1).0) $
        takes-firsts ! 4 2 refl (tt, tt) (many₂ is_g.1.0.1) refl (var ! 20 refl) refl (fits-slice (room₂ is_g.1.0.1).0) $
        move ! (26 ∷ []) $ shows_first s.E k.plain-E s.K bs.1.1.1.0 (s.bytes x) (s.many x) ! tt k.single-E is_b (room is_b.1.0.1) (λ ν.
        -- [ν's token; the bytes; what their lender keeps; the token; the row; _15: 5; ..; _5: 25; ..]
        move ! (25 ∷ []) $ lends_first s.G k.plain-G s.L bs.1.1.1.1.1.0 s.blank (s.lent x) ! tt k.single-G is_g (room₂ is_g.1.0.1) (λ ν₂ γ₂. move ! (6 ∷ 3 ∷ 0 ∷ 7 ∷ 4 ∷ 1 ∷ []) $
        -- [the token; ν's token; ν₂'s; the row; the bytes; the reply; what the reply's lender keeps; what the bytes' keeps; _15: 8; ..]
        calls 𝓛 (inner s) tt (κ, (ν ∷ [], (ν₂ ∷ [], tt))) (q, (full_share, (full_share, tt))) (ys, (first-shown s.E s.K bs.1.1.1.0 us, (first-as s.G s.L bs.1.1.1.1.1.0 γ₂ vs, tt))) k.plain-Y 𝓣 known tt !
        (and_then ! (var ! 11 refl) (and_then ! (var ! 7 refl) (and_then ! (var ! 3 refl) (no_more !)))) (λ y ws e l y-is. lands-in ! 23 refl (has k.plain-Y y y-is) $
        move ! (2 ∷ 4 ∷ 5 ∷ []) $ first_home s.G k.plain-G s.L bs.1.1.1.1.1.0 s.blank (s.lent x) ! tt ν₂ γ₂ ws.1.1.0 is_g.1.0.1 (λ _.
        move ! (2 ∷ 4 ∷ []) $ shown-home s.E k.plain-E s.K bs.1.1.1.0 (s.bytes x) (s.many x) ! tt ν is_b.1.0.1 (λ _.
        -- [_3; _5; the token; the last row; _15: 4; _14: 6; _13: 8; _12: 10; _11: 12; _10: 14; _9: 16; _8: 18; _7: 20; _6: 22; ..; _4: 25; ..; _2: 28; ..; _0: 32], and in their order again
        calls-one ! 𝓣 k.plain-Y k.plain-O s.told known-h y y-is (and_then ! (var ! 21 refl) (no_more !)) (λ is. lands-in ! 32 refl (has k.plain-O (s.told y) is) $
        move ! (2 ∷ 3 ∷ 4 ∷ 5 ∷ 6 ∷ 7 ∷ 8 ∷ 9 ∷ 10 ∷ 11 ∷ 12 ∷ 13 ∷ 14 ∷ 15 ∷ 16 ∷ 17 ∷ 18 ∷ 19 ∷ 20 ∷ 21 ∷ 22 ∷ 23 ∷ 1 ∷ 24 ∷ 25 ∷ 26 ∷ 0 ∷ []) $
        ends-in ! 32 refl (cell, (cell, (cell, (cell, (cell, (cell, (cell, (cell, (cell, (cell, (cell, (cell, (cell, (cell, (cell, (cell, tt)))))))))))))))) $
        by ! (exits 𝓛 (form s) (k.plain-X, tt) (κ, tt) (q, tt) (ys, (x, tt)) k.plain-O (ws.0, tt) (s.told y) _ (ap s.told e.0 ∙ (k.says_all ys.now x).0, e.1.0 ∙ (k.says_all ys.now x).1) (l.0, tt) is)))))))))))

  pub meets : Fulfils 𝓛 (form s) 𝓣 (function s)
  meets = meets-form 𝓛 (form s) (k.plain-X, tt) 𝓣 (ty s.O) (others s) (body s) (λ κs qs a so. walk κs.0 qs.0 a.0 a.1.0 so.0 so.1.0)
