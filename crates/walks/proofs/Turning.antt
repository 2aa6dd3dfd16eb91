-- The shape Turning: a loop that hands a state on from turn to turn, over a lent row, a shared block and a lent output.
-- Assumes nothing.
--     fn g(row: &mut [T], s: S, block: &[E], out: &mut [G]) -> S { let mut st = s; while more(st) { st = f(row, st, block, out); } st }
-- T is a declared struct of plain fields, E and G are what a slice can hold, and S is plain. more is covered and says `r ≡ goes_on st`. f, as g of Lined, says the next state, the row and the output at exit, and g says the last state, the row and the output.
--     Shape, Knows     what g is made of, with how many turns are left at a state, by the block's length; what the contract says where the loop stops and where it turns, that fewer turns are left after a turn, and what is to be known of the types
--     function, form   g's MIR, and its form.        one     the form of f.        meets     g's MIR fulfils that form wherever its callees fulfil theirs
--     State, Γ         what holds at the loop's test, and the whole context there.        goes-round, is-over     a turn, and the turn that leaves the loop
-- In each turn the row and the output are lent for two lifetimes of the call, and come home with what f left.
use mathlib.Core.Path.{◌≡◌, refl, sym, ◌∙◌, subst}
use mathlib.Core.Bool.{Bool, true, false}
use mathlib.Core.WellFounded.InvImage
use mathlib.Core.WellFounded.{WellFounded}
use Prim.Native.Nat.{ℕ, ◌<◌}
use mathlib.Core.List.{[], ◌∷◌, List}
use lib.ListN.{length}
use lib.WfN.{lt-wf_rel}
use seplogic.Ra.Ura.{Ura}
use base.Fraction.{full_share}
use mir.Syntax.{Callee, Fn, Body as Code, erased, mut, ty_bool, place, skip, seq, cond, call, block, loop, exit, return, rv_opd, Local}
use mir.Val.{Val, vbool}
use base.Logic.{SProp}
use base.Fml.{Lft, Share, flft}
use prog.Wp.{Env, Wp, Tables, after_seq, after_block, after_turn, at_return}
use types.Logic.{Logic}
use types.Kit.{Go, Seq, Item, Post as AtEnd, runs, any_q, at_ret, ‵, ◌$◌, !, by, move, keep, rewrite}
use types.Run.{Below, store, forget, stop, from, of_opd, and_then, no_more, land_last, first, blocks, loops, again, stays, leaves_loop, exec}
use denote.RattleType.{RattleType}
use denote.Laws.{Is}
use denote.Builtin.{bool}
use denote.Ref.{Bor, MutBor}
use denote.Slice.{slice_val, Room}
use denote.Struct.Declared as D
use denote.Triple.Statement.{Triple}
use Rattle.walks.proofs.Plain.{ty, PlainType, has, boolean, Shown-twice}
use Rattle.walks.proofs.Walk.{decide, cell, room}
use Rattle.walks.proofs.Steps.{it, sets, steps, by_values, ref-to, slice_of, hands_to, fits-slice, Has, Free, Dies, var, fills, lands-in, hands_on, Blocks, lie-at, ends-in}
use Rattle.walks.proofs.Form.{Form, code_of, Fulfils, met, slice-val, shared, mut_slice, calls_last, Post, exits, Walk, meets-form, mut-slice-val}
use Rattle.walks.proofs.Callee.{OfLine, LineTold, of_one, on_line, keeps-copy, calls-one}
use Rattle.walks.proofs.Lent.{lent-as, settles-as, lends_row, lent-home}

pub record Shape : Type 2 where
  -- the record, the state, an element of the block and of the output
  pub T : D.Declared
  pub S : RattleType
  pub E : RattleType
  pub G : RattleType
  pub more : Callee
  pub f : Callee
  -- what the contracts of more and f say, what g's says, and the turns that are left
  pub goes_on : S.Denot → Bool
  pub state-at : OfLine T.D S.Denot E.Denot G.Denot S.Denot
  pub row-at : OfLine T.D S.Denot E.Denot G.Denot (List T.D)
  pub out_at : OfLine T.D S.Denot E.Denot G.Denot (List G.Denot)
  pub state-of : OfLine T.D S.Denot E.Denot G.Denot S.Denot
  pub row_of : OfLine T.D S.Denot E.Denot G.Denot (List T.D)
  pub out_of : OfLine T.D S.Denot E.Denot G.Denot (List G.Denot)
  pub left : S.Denot → ℕ → ℕ

module _ (s : Shape) where
  abbrev R : RattleType
  R = D.row s.T

  abbrev pub form : Form
  form = on_line s.S R s.E s.G s.S s.state-of s.row_of s.out_of

  abbrev pub one : Form
  one = on_line s.S R s.E s.G s.S s.state-at s.row-at s.out_at

  abbrev turn-code : Code
  turn-code = steps (call s.more (it 5 ∷ []) (place 6 []) ∷ cond (it 6) skip (exit 1) ∷ []) (steps (hands_to R 1 7 8) (steps (hands_to s.G 4 9 10) (call s.f (it 8 ∷ it 5 ∷ it 3 ∷ it 10 ∷ []) (place 5 []))))

  abbrev returned : Code
  returned = steps (sets 0 (rv_opd (it 5)) ∷ []) return

  -- the locals past the parameters
  abbrev others : List Local
  others = by_values (ty s.S ∷ ty_bool ∷ ref-to erased mut R ∷ slice_of erased mut R ∷ ref-to erased mut s.G ∷ slice_of erased mut s.G ∷ [])

  abbrev body : Code
  body = steps (sets 5 (rv_opd (it 2)) ∷ block (loop turn-code) ∷ []) returned

  abbrev pub function : Fn
  function = code_of form (ty s.S) others body

  -- what g says from one state of things is what it says from another
  abbrev pub Same : List s.T.D → s.S.Denot → List s.E.Denot → List s.G.Denot → List s.T.D → s.S.Denot → List s.G.Denot → Type 0
  Same ys x bs rs zs z us = LineTold s.state-of s.row_of s.out_of ys x bs rs (s.state-of zs z bs us) (s.row_of zs z bs us) (s.out_of zs z bs us)

pub record Knows {M : Type 1} {𝓤 : Ura M} (𝓛 : Logic 𝓤) (s : Shape) : Type 2 where
  pub stops : (ys : List s.T.D) (x : s.S.Denot) (bs : List s.E.Denot) (rs : List s.G.Denot) → s.goes_on x ≡ false → LineTold s.state-of s.row_of s.out_of ys x bs rs x ys rs
  pub turns : (ys : List s.T.D) (x : s.S.Denot) (bs : List s.E.Denot) (rs : List s.G.Denot) → s.goes_on x ≡ true
      → Same s ys x bs rs (s.row-at ys x bs rs) (s.state-at ys x bs rs) (s.out_at ys x bs rs)
  pub falls : (ys : List s.T.D) (x : s.S.Denot) (bs : List s.E.Denot) (rs : List s.G.Denot) → s.goes_on x ≡ true → s.left (s.state-at ys x bs rs) (length bs) < s.left x (length bs)
  pub plain-S : PlainType 𝓛 s.S
  pub twice-E : Shown-twice 𝓛 s.E

module _ {M : Type 1} {𝓤 : Ura M} (𝓛 : Logic 𝓤) (s : Shape) (k : Knows 𝓛 s) (𝓣 : Tables 𝓤 𝓛.H) (known_more : Triple 𝓤 (𝓣.C s.more) (met (of_one bool s.S s.goes_on) 𝓤 𝓛)) (known : Triple 𝓤 (𝓣.C s.f) (met (one s) 𝓤 𝓛)) where
  open 𝓛 use {H}

  abbrev St : PlainType 𝓛 s.S
  St = k.plain-S

  module _ (κ κ₁ κ₂ : Lft) (q q₁ q₂ : Share) (ys : MutBor (List s.T.D)) (x : s.S.Denot) (bs : Bor (List s.E.Denot)) (rs : MutBor (List s.G.Denot)) (space : Room (D.row s.T) (length ys.now)) (space₂ : Room s.G (length rs.now)) where
    record State : Type 0 where
      row : List s.T.D
      st : s.S.Denot
      out : List s.G.Denot
      row-long : length row ≡ length ys.now
      out-long : length out ≡ length rs.now
      same : Same s ys.now x bs.now rs.now row st out
      is : Is s.S st (k.plain-S.val st ∷ [])

    abbrev fewer : State → State → Type 0
    fewer t u = s.left t.st (length bs.now) < s.left u.st (length bs.now)

    fewer-wf : WellFounded fewer
    fewer-wf = InvImage.wf (λ (t : State). s.left t.st (length bs.now)) lt-wf_rel.wf

    abbrev Ends : Val → SProp 𝓤
    Ends = Post 𝓛 (form s) (St, tt) (κ, (κ₁, (κ₂, tt))) (q, (q₁, (q₂, tt))) (ys, (x, (bs, (rs, tt))))

    module _ (t : State) where
      -- the row and the output as they are
      abbrev row_now : MutBor (List s.T.D)
      row_now = lent-as (R s) ys ys.ghost_name t.row

      abbrev out-now : MutBor (List s.G.Denot)
      out-now = lent-as s.G rs rs.ghost_name t.out

      row_room : Room (R s) (length t.row)
      row_room = subst (Room (R s)) (sym t.row-long) space

      out-room : Room s.G (length t.out)
      out-room = subst (Room s.G) (sym t.out-long) space₂

      -- one turn further
      module _ (so : s.goes_on t.st ≡ true) (z : s.S.Denot) (zs : List s.T.D) (us : List s.G.Denot)
          (e : LineTold s.state-at s.row-at s.out_at t.row t.st bs.now t.out z zs us) where
        still : Same s ys.now x bs.now rs.now zs z us
        still = (
          (λ i. s.state-of (e.1.0 i) (e.0 i) bs.now (e.1.1 i)) ∙ ((k.turns t.row t.st bs.now t.out so).0 ∙ t.same.0),
          ((λ i. s.row_of (e.1.0 i) (e.0 i) bs.now (e.1.1 i)) ∙ ((k.turns t.row t.st bs.now t.out so).1.0 ∙ t.same.1.0), (λ i. s.out_of (e.1.0 i) (e.0 i) bs.now (e.1.1 i)) ∙ ((k.turns t.row t.st bs.now t.out so).1.1 ∙ t.same.1.1)),
        )

        fell : s.left z (length bs.now) < s.left t.st (length bs.now)
        fell = subst (λ (y : s.S.Denot). s.left y (length bs.now) < s.left t.st (length bs.now)) (sym e.0) (k.falls t.row t.st bs.now t.out so)

        abbrev next : length zs ≡ length t.row → length us ≡ length t.out → Is s.S z (St.val z ∷ []) → State
        next l l₂ is = record { row = zs; st = z; out = us; row-long = l ∙ t.row-long; out-long = l₂ ∙ t.out-long; same = still; is = is }

      -- what g says where the loop stops
      told : s.goes_on t.st ≡ false → LineTold s.state-of s.row_of s.out_of ys.now x bs.now rs.now t.st t.row t.out
      told over =
          let stops = k.stops t.row t.st bs.now t.out over in
          (stops.0 ∙ t.same.0, (stops.1.0 ∙ t.same.1.0, stops.1.1 ∙ t.same.1.1))

    module _ (ls : Blocks (function s).locals) where
      abbrev En : Env 𝓤 H
      En = lie-at 𝓤 H (function s).locals ls

      -- [the row's token; the row; the output's token; the output; the block's token; the block; _10: 6; _9: 8; _8: 10; _7: 12; _6: 14; _5: 16; _4: 18; _3: 20; _2: 22; _1: 24; _0: 26]
      abbrev Γ : State → List (Item 𝓤)
      Γ t =
          ‵ (flft κ q) ∷ ‵ (mut_slice (R s) κ (row_now t)) ∷ ‵ (flft κ₂ q₂) ∷ ‵ (mut_slice s.G κ₂ (out-now t)) ∷ ‵ (flft κ₁ q₁) ∷ ‵ (shared s.E κ₁ bs) ∷ Free 𝓤 H En 10 ∷ Dies 𝓤 H En 10 ∷ Free 𝓤 H En 9 ∷ Dies 𝓤 H En 9 ∷ Free 𝓤 H En 8 ∷ Dies 𝓤 H En 8 ∷ Free 𝓤 H En 7 ∷ Dies 𝓤 H En 7
          ∷ Free 𝓤 H En 6 ∷ Dies 𝓤 H En 6 ∷ Has 𝓤 H En 5 full_share (St.val t.st) ∷ Dies 𝓤 H En 5 ∷ Has 𝓤 H En 4 full_share (mut-slice-val rs) ∷ Dies 𝓤 H En 4 ∷ Has 𝓤 H En 3 full_share (slice-val bs) ∷ Dies 𝓤 H En 3
          ∷ Has 𝓤 H En 2 full_share (St.val x) ∷ Dies 𝓤 H En 2 ∷ Has 𝓤 H En 1 full_share (mut-slice-val ys) ∷ Dies 𝓤 H En 1 ∷ Free 𝓤 H En 0 ∷ Dies 𝓤 H En 0 ∷ []

      abbrev After : State → AtEnd 𝓤 H
      After t = any_q (after_turn 𝓤 H (Below 𝓛 fewer Γ t) (after_block 𝓤 H (after_seq 𝓤 H (Wp 𝓤 H 𝓣.C 𝓣.Λ En (returned s) (at_return 𝓤 H En Ends)) (at_return 𝓤 H En Ends))))

      goes-round : (t : State) → s.goes_on t.st ≡ true → Seq (Go {0}) 𝓛 (Γ t) (runs 𝓣.C 𝓣.Λ En (turn-code s) (After t))
      unfolding after_turn
      goes-round t so =
          calls-one ! 𝓣 St (boolean 𝓛) s.goes_on known_more t.st t.is (and_then ! (var ! 17 refl) (no_more !)) (λ _. lands-in ! 14 refl (tt, tt) $ rewrite ! 14 (λ (y : Bool). Has 𝓤 H En 6 full_share (vbool y)) so refl $ stays ! (var ! 14 refl) $
          hands_on ! 24 12 10 refl refl refl refl refl refl (tt, tt) (fits-slice space.0) $ rewrite ! 10 (λ (m : ℕ). Has 𝓤 H En 8 full_share (slice_val ys.ref_ptr m)) (sym t.row-long) refl $
          hands_on ! 18 8 6 refl refl refl refl refl refl (tt, tt) (fits-slice space₂.0) $ rewrite ! 6 (λ (m : ℕ). Has 𝓤 H En 10 full_share (slice_val rs.ref_ptr m)) (sym t.out-long) refl $
          lends_row (R s) (row_now t) ! tt (row_room t) (λ ν δ. move ! (3 ∷ 4 ∷ []) $ lends_row s.G (out-now t) ! tt (out-room t) (λ ν₂ δ₂.
          -- [ν₂'s token; the output; what its lender keeps; ν's token; the row; what its lender keeps; the block's token; the block; _10: 8; ..]
          move ! (7 ∷ []) $ keeps-copy ! s.E k.twice-E κ₁ bs $ move ! (5 ∷ 8 ∷ 2 ∷ 6 ∷ 0 ∷ 3 ∷ []) $
          calls_last 𝓛 (one s) (St, tt) (ν ∷ [], (κ₁, (ν₂ ∷ [], tt))) (full_share, (q₁, (full_share, tt))) (lent-as (R s) ys δ t.row, (t.st, (bs, (lent-as s.G rs δ₂ t.out, tt)))) St 𝓣 known (t.is, tt) !
          (and_then ! (var ! 8 refl) (and_then ! (var ! 14 refl) (and_then ! (var ! 18 refl) (and_then ! (var ! 4 refl) (no_more !))))) (λ z ws e l is.
          -- [ν's token; the block's; ν₂'s; the last row; the last output; the block; what the output's lender keeps; what the row's keeps; _10: 8; ..]
          move ! (0 ∷ 3 ∷ 7 ∷ []) $ lent-home (R s) (row_now t) ! tt (row_room t) ν δ ws.0 l.0 $ move ! (3 ∷ 4 ∷ 6 ∷ []) $ lent-home s.G (out-now t) ! tt (out-room t) ν₂ δ₂ ws.1.1.1.0 l.1.0 $ move ! (2 ∷ 3 ∷ []) $
          land_last ! (from ! (stop !)) (store ! 16 refl (has St z is)) $ forget ! 6 refl $ forget ! 8 refl $ forget ! 10 refl $ forget ! 12 refl $ forget ! 14 refl $
          again ! fewer Γ t (next t so z ws.0 ws.1.1.1.0 e l.0 l.1.0 is) (fell t so z ws.0 ws.1.1.1.0 e)))))

      is-over : (t : State) → s.goes_on t.st ≡ false → Seq (Go {0}) 𝓛 (Γ t) (runs 𝓣.C 𝓣.Λ En (turn-code s) (After t))
      unfolding after_turn
      is-over t over =
          calls-one ! 𝓣 St (boolean 𝓛) s.goes_on known_more t.st t.is (and_then ! (var ! 17 refl) (no_more !)) (λ _. lands-in ! 14 refl (tt, tt) $ rewrite ! 14 (λ (y : Bool). Has 𝓤 H En 6 full_share (vbool y)) over refl $ leaves_loop ! (var ! 14 refl) $
          exec ! 𝓣.C 𝓣.Λ En (returned s) (at_ret En Ends) $ fills ! (of_opd ! (var ! 16 refl)) 26 refl (has St t.st t.is) $ move ! (1 ∷ []) $ settles-as (R s) ys ! κ t.row t.row-long $ move ! (3 ∷ []) $ settles-as s.G rs ! κ₂ t.out t.out-long $
          -- [the last output; the last row; the row's token; the output's; the block's; the block; ..]
          ends-in ! 26 refl (cell, (cell, (cell, (cell, (cell, (cell, (cell, (room, (room, (room, (room, tt))))))))))) $ keep ! (2 ∷ 4 ∷ 3 ∷ 1 ∷ 0 ∷ []) $
          by ! (exits 𝓛 (form s) (St, tt) (κ, (κ₁, (κ₂, tt))) (q, (q₁, (q₂, tt))) (ys, (x, (bs, (rs, tt)))) St (t.row, (t.out, tt)) t.st _ (told t over) (t.row-long, (t.out-long, tt)) t.is))

      looped : (t : State) → Seq (Go {0}) 𝓛 (Γ t) (runs 𝓣.C 𝓣.Λ En (seq (block (loop (turn-code s))) (returned s)) (at_ret En Ends))
      looped t = first ! $ blocks ! $ loops ! 𝓣 fewer fewer-wf Γ (λ u. decide (s.goes_on u.st) (goes-round u) (is-over u)) t

    walk : Is s.S x (k.plain-S.val x ∷ []) → Walk 𝓛 (form s) (St, tt) 𝓣 (ty s.S) (others s) (body s) (κ, (κ₁, (κ₂, tt))) (q, (q₁, (q₂, tt))) (ys, (x, (bs, (rs, tt))))
    walk x-is ls =
        fills ! (of_opd ! (var ! 16 refl)) 10 refl (has St x x-is) $ move ! (22 ∷ 25 ∷ 24 ∷ 27 ∷ 23 ∷ 26 ∷ []) $
        looped ls (record { row = ys.now; st = x; out = rs.now; row-long = refl; out-long = refl; same = (refl, (refl, refl)); is = x-is })

  pub meets : Fulfils 𝓛 (form s) 𝓣 (function s)
  meets = meets-form 𝓛 (form s) (k.plain-S, tt) 𝓣 (ty s.S) (others s) (body s) (λ κs qs a so. walk κs.0 κs.1.0 κs.1.1.0 qs.0 qs.1.0 qs.1.1.0 a.0 a.1.0 a.1.1.0 a.1.1.1.0 so.0 so.1.1.1.0 so.1.0)
