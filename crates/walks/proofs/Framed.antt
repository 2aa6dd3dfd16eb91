-- The shape Framed: bytes are taken apart. Either that gives the answer, and a lent row and a lent reply stay, or what the bytes ask is done to the row, and the answer is put into the reply.
-- Assumes nothing.
--     fn g(row: &mut [T], bytes: &[E], reply: &mut [G]) -> O { let d = f1(bytes, reply.len()); if done(d) { return told(d); } let z = part(d); let y = f2(row, z); f3(reply, d, y) }
-- T is a declared struct of plain fields, E and G are what a slice can hold, and X, the type of d, Z, that of z, Y, that of y, and O are plain. f1 says what it makes of the bytes and the room, done, told and part are covered and say `r ≡ is-done d`, `r ≡ tells d` and `r ≡ part_of d`, f2 says its answer and the whole row at exit, f3 its answer and the whole reply at exit, and requires what it needs of the reply. g says the answer, the row and the reply.
--     Shape, Knows     what g is made of; what the contract says where the bytes are enough and where not, that the reply then is as f3 needs it, and what is to be known of the types
--     function, form   g's MIR, and its form.        takes-apart, acts, puts     the forms of f1, f2 and f3.        meets     g's MIR fulfils that form wherever its callees fulfil theirs
-- Nothing is opened: the row and the reply are handed on for good, each at its own lifetime and name. At the early return both are let go as they are.
use mathlib.Core.Path.{◌≡◌, refl, ◌∙◌}
use mathlib.Core.Bool.{Bool, not}
use Prim.Native.Nat.{ℕ}
use mathlib.Core.List.{[], ◌∷◌, List}
use lib.Dec.{T as Holds}
use lib.ListN.{length}
use seplogic.Ra.Ura.{Ura}
use mir.Syntax.{Callee, Fn, Body as Code, erased, mut, w64, ty_int, ty_bool, place, skip, cond, call, return, rv_opd, Local}
use mir.Val.{Val}
use base.Logic.{SProp, ent}
use base.Fml.{Lft, Share, flft}
use prog.Wp.{Tables}
use types.Logic.{Logic}
use contract.Lifetimes.{Lfts}
use types.Kit.{at_ret, ‵, ⋆, ◌$◌, !, by, move}
use types.Run.{of_opd, and_then, no_more, first, branches, skips, exec}
use denote.RattleType.{RattleType}
use denote.Laws.{Is}
use denote.Builtin.{usize, bool}
use denote.Ref.{Bor, MutBor}
use denote.Slice.{Room}
use denote.Struct.Declared as D
use denote.Triple.Statement.{Triple}
use Rattle.walks.proofs.Plain.{ty, PlainType, has, uint, boolean}
use Rattle.walks.proofs.Walk.{cell, room}
use Rattle.walks.proofs.Steps.{it, len_of, sets, steps, by_values, ref-to, slice_of, hands_to, fits-slice, var, len, fills, lands-in, hands_on, lie-at, ends-in, ends-within}
use Rattle.walks.proofs.Form.{Form, code_of, value, shown, handed, Passed, Fulfils, met, met-if, calls, calls-if, Post, exits, Walk, meets-form, slice-last}
use Rattle.walks.proofs.Callee.{Answers, Changes, OfFrame, FrameTold, of_one, on_row, on-frame, calls-one}
use Rattle.walks.proofs.Lent.{settles}

pub record Shape : Type 2 where
  -- the record, an element of the bytes and of the reply, what f1 makes, the part of it that f2 is asked, and what f2 and f3 return
  pub T : D.Declared
  pub E : RattleType
  pub G : RattleType
  pub X : RattleType
  pub Z : RattleType
  pub Y : RattleType
  pub O : RattleType
  pub f1 : Callee
  pub done-fn : Callee
  pub told-fn : Callee
  pub part : Callee
  pub f2 : Callee
  pub f3 : Callee
  -- of the callees and of g: what is asked, whether that is enough and what it tells, what f3 needs, the answers, and what is left in the row and in the reply
  pub apart : List E.Denot → ℕ → X.Denot
  pub is-done : X.Denot → Bool
  pub tells : X.Denot → O.Denot
  pub part_of : X.Denot → Z.Denot
  pub fit : List G.Denot → Type 0
  pub answer_at : Answers T.D Z.Denot Y.Denot
  pub row-at : Changes T.D Z.Denot
  pub put-answer : List G.Denot → X.Denot → Y.Denot → O.Denot
  pub put-out : List G.Denot → X.Denot → Y.Denot → List G.Denot
  pub answer-of : OfFrame T.D E.Denot G.Denot O.Denot
  pub row_of : OfFrame T.D E.Denot G.Denot (List T.D)
  pub reply-of : OfFrame T.D E.Denot G.Denot (List G.Denot)

module _ (s : Shape) where
  abbrev R : RattleType
  R = D.row s.T

  abbrev pub form : Form
  form = on-frame s.O R s.E s.G s.answer-of s.row_of s.reply-of

  abbrev pub takes-apart : Form
  takes-apart = record { lifetimes = 1; params = shown 0 tt s.E ∷ value usize ∷ []; result = s.X; says_of = λ κs a r e. r ≡ s.apart a.0.now a.1.0 }

  abbrev pub acts : Form
  acts = on_row s.Y R s.Z s.answer_at s.row-at

  abbrev pub puts : Form
  puts = record {
    lifetimes = 1;
    params = handed 0 tt s.G ∷ value s.X ∷ value s.Y ∷ [];
    result = s.O;
    says_of = λ κs a r e. (r ≡ s.put-answer a.0.now a.1.0 a.1.1.0) × (e.0.now ≡ s.put-out a.0.now a.1.0 a.1.1.0);
  }

  abbrev pub fits : (κs : Lfts 1) → Passed κs puts.params → Type 0
  fits κs a = s.fit a.0.now

  abbrev to_row : Code
  to_row = steps (call s.part (it 4 ∷ []) (place 5 []) ∷ []) (steps (hands_to R 1 9 10) (steps (call s.f2 (it 10 ∷ it 5 ∷ []) (place 6 []) ∷ []) (steps (hands_to s.G 3 11 12) (steps (call s.f3 (it 12 ∷ it 4 ∷ it 6 ∷ []) (place 0 []) ∷ []) return))))

  -- the locals past the parameters
  abbrev others : List Local
  others = by_values (ty s.X ∷ ty s.Z ∷ ty s.Y ∷ ty_int w64 ∷ ty_bool ∷ ref-to erased mut R ∷ slice_of erased mut R ∷ ref-to erased mut s.G ∷ slice_of erased mut s.G ∷ [])

  abbrev body : Code
  body = steps (sets 7 (rv_opd (len_of 3)) ∷ call s.f1 (it 2 ∷ it 7 ∷ []) (place 4 []) ∷ call s.done-fn (it 4 ∷ []) (place 8 []) ∷ cond (it 8) (steps (call s.told-fn (it 4 ∷ []) (place 0 []) ∷ []) return) skip ∷ []) to_row

  abbrev pub function : Fn
  function = code_of form (ty s.O) others body

pub record Knows {M : Type 1} {𝓤 : Ura M} (𝓛 : Logic 𝓤) (s : Shape) : Type 2 where
  pub enough : (ys : List s.T.D) (bs : List s.E.Denot) (rs : List s.G.Denot) (d : s.X.Denot) → d ≡ s.apart bs (length rs) → Holds (s.is-done d) → FrameTold s.answer-of s.row_of s.reply-of ys bs rs (s.tells d) ys rs
  pub goes_on : (ys : List s.T.D) (bs : List s.E.Denot) (rs : List s.G.Denot) (d : s.X.Denot) (y : s.Y.Denot) → d ≡ s.apart bs (length rs) → Holds (not (s.is-done d)) → y ≡ s.answer_at ys (s.part_of d)
      → FrameTold s.answer-of s.row_of s.reply-of ys bs rs (s.put-answer rs d y) (s.row-at ys (s.part_of d)) (s.put-out rs d y)
  pub suited : (bs : List s.E.Denot) (rs : List s.G.Denot) (d : s.X.Denot) → d ≡ s.apart bs (length rs) → Holds (not (s.is-done d)) → s.fit rs
  pub plain-X : PlainType 𝓛 s.X
  pub plain-Z : PlainType 𝓛 s.Z
  pub plain-Y : PlainType 𝓛 s.Y
  pub plain-O : PlainType 𝓛 s.O

module _ {M : Type 1} {𝓤 : Ura M} (𝓛 : Logic 𝓤) (s : Shape) (k : Knows 𝓛 s) (𝓣 : Tables 𝓤 𝓛.H) (known₁ : Triple 𝓤 (𝓣.C s.f1) (met (takes-apart s) 𝓤 𝓛))
    (known-done : Triple 𝓤 (𝓣.C s.done-fn) (met (of_one bool s.X s.is-done) 𝓤 𝓛)) (known-told : Triple 𝓤 (𝓣.C s.told-fn) (met (of_one s.O s.X s.tells) 𝓤 𝓛)) (known-part : Triple 𝓤 (𝓣.C s.part) (met (of_one s.Z s.X s.part_of) 𝓤 𝓛))
    (known₂ : Triple 𝓤 (𝓣.C s.f2) (met (acts s) 𝓤 𝓛)) (known₃ : Triple 𝓤 (𝓣.C s.f3) (met-if (puts s) 𝓤 (fits s) 𝓛)) where
  open 𝓛 use {H}

  module _ (κ κ₁ κ₂ : Lft) (q q₁ q₂ : Share) (ys : MutBor (List s.T.D)) (bs : Bor (List s.E.Denot)) (rs : MutBor (List s.G.Denot)) where
    abbrev Ends : Val → SProp 𝓤
    Ends = Post 𝓛 (form s) tt (κ, (κ₁, (κ₂, tt))) (q, (q₁, (q₂, tt))) (ys, (bs, (rs, tt)))

    done : (r : s.O.Denot) (zs : List s.T.D) (us : List s.G.Denot) → FrameTold s.answer-of s.row_of s.reply-of ys.now bs.now rs.now r zs us → length zs ≡ length ys.now → length us ≡ length rs.now → Is s.O r (k.plain-O.val r ∷ [])
        → ent 𝓤 (⋆ 𝓛 (‵ (flft κ q) ∷ ‵ (flft κ₁ q₁) ∷ ‵ (flft κ₂ q₂) ∷ ‵ (slice-last (R s) κ ys zs) ∷ ‵ (slice-last s.G κ₂ rs us) ∷ [])) (Ends (k.plain-O.val r))
    done r zs us e l l₂ is = exits 𝓛 (form s) tt (κ, (κ₁, (κ₂, tt))) (q, (q₁, (q₂, tt))) (ys, (bs, (rs, tt))) k.plain-O (zs, (us, tt)) r _ e (l, (l₂, tt)) is

    walk : Room (R s) (length ys.now) → Room s.G (length rs.now) → Walk 𝓛 (form s) tt 𝓣 (ty s.O) (others s) (body s) (κ, (κ₁, (κ₂, tt))) (q, (q₁, (q₂, tt))) (ys, (bs, (rs, tt)))
    walk space space₂ ls =
        move ! (27 ∷ 30 ∷ 26 ∷ 29 ∷ 28 ∷ 31 ∷ []) $
        -- [the bytes' token; the bytes; the row's token; the row; the reply's token; the reply; _12: 6; _11: 8; _10: 10; _9: 12; _8: 14; _7: 16; _6: 18; _5: 20; _4: 22; _3: 24; _2: 26; _1: 28; _0: 30]
        fills ! (of_opd ! (len ! 24 refl refl)) 16 refl (tt, record { fits = space₂.0 }) $
        calls 𝓛 (takes-apart s) (uint 𝓛 w64, tt) (κ₁, tt) (q₁, tt) (bs, (length rs.now, tt)) k.plain-X 𝓣 known₁ ((refl, space₂.0), tt) ! (and_then ! (var ! 25 refl) (and_then ! (var ! 15 refl) (no_more !))) (λ d _ e₁ _ d-is. lands-in ! 21 refl (has k.plain-X d d-is) $
        -- [the bytes' token; the row's token; the row; the reply's token; the reply; _12: 5; ..; _0: 29]
        calls-one ! 𝓣 k.plain-X (boolean 𝓛) s.is-done known-done d d-is (and_then ! (var ! 22 refl) (no_more !)) (λ _. lands-in ! 13 refl (tt, tt) $ first ! $ branches ! (var ! 13 refl)
        (λ so. calls-one ! 𝓣 k.plain-X k.plain-O s.tells known-told d d-is (and_then ! (var ! 22 refl) (no_more !)) (λ o_is. lands-in ! 29 refl (has k.plain-O (s.tells d) o_is) $
        move ! (2 ∷ []) $ settles (R s) ys ! κ $ move ! (4 ∷ []) $ settles s.G rs ! κ₂ $
        -- [the last reply; the last row; the bytes' token; the row's token; the reply's token; _12: 5; ..; _0: 29]
        ends-within ! 29 Ends refl refl (cell, (cell, (cell, (cell, (cell, (room, (room, (cell, (cell, (room, (room, (room, (room, tt))))))))))))) $ move ! (3 ∷ 2 ∷ 4 ∷ 1 ∷ 0 ∷ []) $
        by ! (done (s.tells d) ys.now rs.now (k.enough ys.now bs.now rs.now d e₁ so) refl refl o_is)))
        -- bytes that are not enough
        (λ so. skips ! $ exec ! 𝓣.C 𝓣.Λ (lie-at 𝓤 H (function s).locals ls) (to_row s) (at_ret _ Ends) $
        calls-one ! 𝓣 k.plain-X k.plain-Z s.part_of known-part d d-is (and_then ! (var ! 22 refl) (no_more !)) (λ z-is. lands-in ! 19 refl (has k.plain-Z (s.part_of d) z-is) $ hands_on ! 27 11 9 refl refl refl refl refl refl (tt, tt) (fits-slice space.0) $ move ! (1 ∷ 2 ∷ []) $
        calls 𝓛 (acts s) (k.plain-Z, tt) (κ, tt) (q, tt) (ys, (s.part_of d, tt)) k.plain-Y 𝓣 known₂ (z-is, tt) ! (and_then ! (var ! 8 refl) (and_then ! (var ! 18 refl) (no_more !))) (λ y ws e₂ l y-is. lands-in ! 17 refl (has k.plain-Y y y-is) $
        -- [the row's token; the last row; the bytes' token; the reply's token; the reply; _12: 5; ..]
        hands_on ! 23 7 5 refl refl refl refl refl refl (tt, tt) (fits-slice space₂.0) $ move ! (3 ∷ 4 ∷ []) $
        calls-if 𝓛 (puts s) (k.plain-X, (k.plain-Y, tt)) (κ₂, tt) (q₂, tt) (rs, (d, (y, tt))) k.plain-O 𝓣 (fits s) known₃ (k.suited bs.now rs.now d e₁ so) (d-is, (y-is, tt)) ! (and_then ! (var ! 4 refl) (and_then ! (var ! 20 refl) (and_then ! (var ! 16 refl) (no_more !)))) (λ r us e₃ l₃ is. lands-in ! 29 refl (has k.plain-O r is) $
        -- [the reply's token; the last reply; the row's token; the last row; the bytes' token; _12: 5; ..; _0: 29]
        ends-in ! 29 refl (cell, (cell, (cell, (cell, (cell, (cell, (cell, (cell, (cell, (cell, (cell, (cell, (cell, tt))))))))))))) $ move ! (2 ∷ 4 ∷ 0 ∷ 3 ∷ 1 ∷ []) $
        by ! (let way = k.goes_on ys.now bs.now rs.now d y e₁ so e₂.0 in done r ws.0 us.0 (e₃.0 ∙ way.0, (e₂.1 ∙ way.1.0, e₃.1 ∙ way.1.1)) l.0 l₃.0 is)))))))

  pub meets : Fulfils 𝓛 (form s) 𝓣 (function s)
  meets = meets-form 𝓛 (form s) tt 𝓣 (ty s.O) (others s) (body s) (λ κs qs a so. walk κs.0 κs.1.0 κs.1.1.0 qs.0 qs.1.0 qs.1.1.0 a.0 a.1.0 a.1.1.0 so.0 so.1.1.0)
