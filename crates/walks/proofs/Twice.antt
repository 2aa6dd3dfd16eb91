-- The shape Twice: a record behind a reference goes through a function by value, and unless that was all, it is lent on to another.
-- Assumes nothing.
--     fn g(b: &mut T, x: X, z: Z, cells: &[E]) -> O {
--         let s = f(*b, x, z, cells);
--         *b = s.board;
--         let n = s.note;
--         if done(n) { return told(n); }
--         h(b, n)
--     }
-- T is a declared struct of plain fields, X, Z, N, the type of n, and O are plain, E is what a slice can hold. f takes the record by value and the slice as it is, and says `r ≡ F b x z (now cells.entry)`, a struct of a T and an N.
-- done and told are covered and say `r ≡ is-done n` and `r ≡ tells n`; h says its answer and the whole record at exit, of the record that f left. g says the answer and the whole record at exit, by what comes in the end of what f returned.
--     Shape, Knows     what g is made of; what comes in the end where that was all and where it goes on, and what is to be known of the types
--     function, form   g's MIR, and its form.        by_value     the form of f.        meets     g's MIR fulfils that form wherever its callees fulfil theirs
use mathlib.Core.Path.{◌≡◌, refl, ap, ◌∙◌}
use mathlib.Core.Bool.{Bool, true, false}
use mathlib.Core.List.{[], ◌∷◌, List}
use seplogic.Ra.Ura.{Ura}
use base.Fraction.{full_share}
use mir.Syntax.{Callee, Fn, erased, mut, ty_bool, deref, field, place, copy, assign, addr_of, call, cond, skip, seq, return, rv_opd, Local, Body}
use mir.Val.{Val}
use base.Logic.{SProp}
use base.Fml.{Lft, Share, fat}
use prog.Wp.{Tables}
use types.Logic.{Logic}
use types.Kit.{at_ret, ‵, ◌$◌, !, move, by, rewrite}
use types.Run.{look, look_raw, store_raw, stop, hop, from, load, addr, of_opd, and_then, no_more, assigns, first, branches, skips, exec}
use denote.RattleType.{RattleType}
use denote.Laws.{Is}
use denote.Builtin.{bool}
use denote.Ref.{Bor, MutBor}
use denote.Struct.Declared as D
use denote.Triple.Statement.{Triple}
use Rattle.walks.proofs.Plain.{ty, PlainType, pair-ty, PlainPair, has, has-pair, boolean}
use Rattle.walks.proofs.Walk.{is_true, is_false, cell, room}
use Rattle.walks.proofs.Steps.{it, sets, steps, by_values, ref-to, var, part, fills, lands-in, lie-at, ends-in, ends-within}
use Rattle.walks.proofs.Form.{Form, code_of, value, shown, Fulfils, met, calls, Post, exits, Walk, meets-form}
use Rattle.walks.proofs.Callee.{OfFound, OfOne, on-found, on_one, of_one, calls-one}
use Rattle.walks.proofs.Lent.{ref-as, opens-ref, settles-ref, moves-ref}

pub record Shape : Type 2 where
  -- the record behind the reference, the other arguments, an element of the slice, what f returns, its note and the answer
  pub T : D.Declared
  pub X : RattleType
  pub Z : RattleType
  pub E : RattleType
  pub Q : D.Declared
  pub N : RattleType
  pub O : RattleType
  pub f : Callee
  pub done : Callee
  pub told : Callee
  pub h : Callee
  pub F : OfFound T.D X.Denot Z.Denot E.Denot Q.D
  pub record_of : Q.D → T.D
  pub note-of : Q.D → N.Denot
  pub is-done : N.Denot → Bool
  pub tells : N.Denot → O.Denot
  -- what h says of its answer and of the record
  pub answers : OfOne T.D N.Denot O.Denot
  pub leaves : OfOne T.D N.Denot T.D
  -- what comes in the end
  pub end-answer : Q.D → O.Denot
  pub end-record : Q.D → T.D

module _ (s : Shape) where
  abbrev R : RattleType
  R = D.row s.T

  abbrev pub form : Form
  form = on-found s.O R s.X s.Z s.E (λ b x z cs. s.end-answer (s.F b x z cs)) (λ b x z cs. s.end-record (s.F b x z cs))

  abbrev pub by_value : Form
  by_value = record { lifetimes = 1; params = value R ∷ value s.X ∷ value s.Z ∷ shown 0 tt s.E ∷ []; result = D.row s.Q; says_of = λ κs a r e. r ≡ s.F a.0 a.1.0 a.1.1.0 a.1.1.1.0.now }

  abbrev goes_on : Form
  goes_on = on_one s.O R s.N s.answers s.leaves

  -- the locals past the parameters
  abbrev others : List Local
  others = by_values (pair-ty s.Q R s.N ∷ ty s.N ∷ ty R ∷ ty_bool ∷ ref-to erased mut R ∷ [])

  -- where it goes on
  abbrev on : Body
  on = steps (sets 9 (addr_of (place 1 (deref (ty R) ∷ []))) ∷ call s.h (it 9 ∷ it 6 ∷ []) (place 0 []) ∷ []) return

  abbrev body : Body
  body = steps
      (sets 7 (rv_opd (copy (place 1 (deref (ty R) ∷ [])))) ∷ call s.f (it 7 ∷ it 2 ∷ it 3 ∷ it 4 ∷ []) (place 5 []) ∷ assign (place 1 (deref (ty R) ∷ [])) (rv_opd (copy (place 5 (field 0 ∷ [])))) ∷ sets 6 (rv_opd (copy (place 5 (field 1 ∷ []))))
      ∷ call s.done (it 6 ∷ []) (place 8 []) ∷ cond (it 8) (seq (call s.told (it 6 ∷ []) (place 0 [])) return) skip ∷ [])
      on

  abbrev pub function : Fn
  function = code_of form (ty s.O) others body

pub record Knows {M : Type 1} {𝓤 : Ura M} (𝓛 : Logic 𝓤) (s : Shape) : Type 2 where
  pub all_done : (o : s.Q.D) → s.is-done (s.note-of o) ≡ true → (s.tells (s.note-of o) ≡ s.end-answer o) × (s.record_of o ≡ s.end-record o)
  pub not_done : (o : s.Q.D) → s.is-done (s.note-of o) ≡ false → (s.answers (s.record_of o) (s.note-of o) ≡ s.end-answer o) × (s.leaves (s.record_of o) (s.note-of o) ≡ s.end-record o)
  pub plain-X : PlainType 𝓛 s.X
  pub plain-Z : PlainType 𝓛 s.Z
  pub plain-O : PlainType 𝓛 s.O
  pub pair-Q : PlainPair 𝓛 s.Q (D.row s.T) s.N s.record_of s.note-of

module _ {M : Type 1} {𝓤 : Ura M} (𝓛 : Logic 𝓤) (s : Shape) (k : Knows 𝓛 s) (𝓣 : Tables 𝓤 𝓛.H) (known : Triple 𝓤 (𝓣.C s.f) (met (by_value s) 𝓤 𝓛)) (known-done : Triple 𝓤 (𝓣.C s.done) (met (of_one bool s.N s.is-done) 𝓤 𝓛))
    (known-told : Triple 𝓤 (𝓣.C s.told) (met (of_one s.O s.N s.tells) 𝓤 𝓛)) (known_on : Triple 𝓤 (𝓣.C s.h) (met (goes_on s) 𝓤 𝓛)) where
  open 𝓛 use {H}

  module _ (κ κ₁ : Lft) (q q₁ : Share) (y : MutBor s.T.D) (x : s.X.Denot) (z : s.Z.Denot) (cs : Bor (List s.E.Denot)) where
    abbrev Ends : Val → SProp 𝓤
    Ends = Post 𝓛 (form s) (k.plain-X, (k.plain-Z, tt)) (κ, (κ₁, tt)) (q, (q₁, tt)) (y, (x, (z, (cs, tt))))

    walk : Is s.X x (k.plain-X.val x ∷ []) → Is s.Z z (k.plain-Z.val z ∷ []) → Walk 𝓛 (form s) (k.plain-X, (k.plain-Z, tt)) 𝓣 (ty s.O) (others s) (body s) (κ, (κ₁, tt)) (q, (q₁, tt)) (y, (x, (z, (cs, tt))))
    walk x-is z-is bs =
        move ! (20 ∷ 22 ∷ []) $ opens-ref (R s) k.pair-Q.first y ! tt (λ g.
        -- [the record's cell; the open borrow; _9: 2; _8: 4; _7: 6; _6: 8; _5: 10; _4: 12; _3: 14; _2: 16; _1: 18; _0: 20; the cells' token; the cells]
        fills ! (of_opd ! (load ! (from ! (hop ! (look ! 18 refl) (stop !))) (look_raw ! 0 refl))) 6 refl (has k.pair-Q.first y.now g) $ move ! (22 ∷ 23 ∷ []) $
        calls 𝓛 (by_value s) (k.pair-Q.first, (k.plain-X, (k.plain-Z, tt))) (κ₁, tt) (q₁, tt) (y.now, (x, (z, (cs, tt)))) k.pair-Q.both 𝓣 known (g, (x-is, (z-is, tt))) !
        (and_then ! (var ! 7 refl) (and_then ! (var ! 17 refl) (and_then ! (var ! 15 refl) (and_then ! (var ! 13 refl) (no_more !))))) (λ o _ e _ is. move ! (1 ∷ 2 ∷ []) $
        -- [the record's cell; the open borrow; the cells' token; _9: 3; _8: 5; _7: 7; _6: 9; _5: 11; _4: 13; _3: 15; _2: 17; _1: 19; _0: 21]
        lands-in ! 11 refl (has-pair k.pair-Q o is) $ rewrite ! 11 (λ (u : Val). ‵ (fat full_share (pair-ty s.Q (R s) s.N) bs.1.1.1.1.1.0 0 u)) (k.pair-Q.spelled o) refl $
        assigns ! (of_opd ! (part ! 11 0 refl refl refl)) (from ! (hop ! (look ! 19 refl) (stop !))) (store_raw ! 0 refl (has k.pair-Q.first (s.record_of o) (k.pair-Q.owed o is).0)) $
        fills ! (of_opd ! (part ! 11 1 refl refl refl)) 9 refl (has k.pair-Q.second (s.note-of o) (k.pair-Q.owed o is).1) $
        calls-one ! 𝓣 k.pair-Q.second (boolean 𝓛) s.is-done known-done (s.note-of o) (k.pair-Q.owed o is).1 (and_then ! (var ! 10 refl) (no_more !)) (λ _. lands-in ! 5 refl (tt, tt) $ first ! $ branches ! (var ! 5 refl)
        (λ so. calls-one ! 𝓣 k.pair-Q.second k.plain-O s.tells known-told (s.note-of o) (k.pair-Q.owed o is).1 (and_then ! (var ! 10 refl) (no_more !)) (λ o_is. lands-in ! 21 refl (has k.plain-O (s.tells (s.note-of o)) o_is) $
        settles-ref (R s) k.pair-Q.first y ! tt (s.record_of o) (k.pair-Q.owed o is).0 $
        ends-within ! 21 Ends refl refl (cell, (cell, (cell, (cell, (cell, (cell, (cell, (cell, (cell, (room, tt)))))))))) $ move ! (0 ∷ 2 ∷ []) $
        by ! (let all = k.all_done o (is_true (s.is-done (s.note-of o)) so) in exits 𝓛 (form s) (k.plain-X, (k.plain-Z, tt)) (κ, (κ₁, tt)) (q, (q₁, tt)) (y, (x, (z, (cs, tt)))) k.plain-O (s.record_of o, tt) (s.tells (s.note-of o)) _
        (all.0 ∙ ap s.end-answer e, all.1 ∙ ap s.end-record e) tt o_is)))
        (λ so. skips ! $ exec ! 𝓣.C 𝓣.Λ (lie-at 𝓤 H (function s).locals bs) (on s) (at_ret _ Ends) $ moves-ref (R s) k.pair-Q.first y ! tt (s.record_of o) (k.pair-Q.owed o is).0 $
        -- [the record's token; the record; the cells' token; _9: 3; ..]
        fills ! (addr ! (from ! (hop ! (look ! 19 refl) (stop !)))) 3 refl (tt, tt) $
        calls 𝓛 (goes_on s) (k.pair-Q.second, tt) (κ, tt) (q, tt) (ref-as (R s) y (s.record_of o), (s.note-of o, tt)) k.plain-O 𝓣 known_on ((k.pair-Q.owed o is).1, tt) ! (and_then ! (var ! 2 refl) (and_then ! (var ! 8 refl) (no_more !))) (λ r ws e₂ _ r-is.
        -- [the record's token; the last record; the cells' token; _9: 3; ..; _0: 21]
        lands-in ! 21 refl (has k.plain-O r r-is) $
        ends-in ! 21 refl (cell, (cell, (cell, (cell, (cell, (cell, (cell, (cell, (cell, (cell, tt)))))))))) $ move ! (0 ∷ 2 ∷ []) $
        by ! (let on = k.not_done o (is_false (s.is-done (s.note-of o)) so) in exits 𝓛 (form s) (k.plain-X, (k.plain-Z, tt)) (κ, (κ₁, tt)) (q, (q₁, tt)) (y, (x, (z, (cs, tt)))) k.plain-O (ws.0, tt) r _
        (e₂.0 ∙ on.0 ∙ ap s.end-answer e, e₂.1 ∙ on.1 ∙ ap s.end-record e) tt r-is))))))

  pub meets : Fulfils 𝓛 (form s) 𝓣 (function s)
  meets = meets-form 𝓛 (form s) (k.plain-X, (k.plain-Z, tt)) 𝓣 (ty s.O) (others s) (body s) (λ κs qs a so. walk κs.0 κs.1.0 qs.0 qs.1.0 a.0 a.1.0 a.1.1.0 a.1.1.1.0 so.0 so.1.0)
