-- The shape Filling: a loop that hands a state on from turn to turn, over a lent row and a shared slice.
-- Assumes nothing.
--     fn g(row: &mut [T], x: S, cells: &[E]) -> S { let mut st = x; while more(st) { st = f(row, st, cells); } st }
-- T is a declared struct of plain fields, E is what a slice can hold, and S is plain. more is covered and says `r ≡ goes_on st`. f says the next state and the row at exit, and g says the last state and the row.
--     Shape, Knows     what g is made of, with how many turns are left at a state; what the contract says where the loop stops and where it turns, that fewer turns are left after a turn, and what is to be known of the types
--     function, form   g's MIR, and its form.        one     the form of f.        meets     g's MIR fulfils that form wherever its callees fulfil theirs
--     State, Γ         what holds at the loop's test, and the whole context there.        goes-round, is-over     a turn, and the turn that leaves the loop
-- In each turn the row is lent for a lifetime of the call, and comes home with what f left.
use mathlib.Core.Path.{◌≡◌, refl, sym, ◌∙◌, subst}
use mathlib.Core.Bool.{Bool, true, false}
use mathlib.Core.WellFounded.InvImage
use mathlib.Core.WellFounded.{WellFounded}
use Prim.Native.Nat.{ℕ, ◌<◌}
use mathlib.Core.List.{[], ◌∷◌, List}
use lib.ListN.{length}
use lib.WfN.{lt-wf_rel}
use seplogic.Ra.Ura.{Ura}
use base.Fraction.{full_share}
use mir.Syntax.{Callee, Fn, Body as Code, erased, mut, ty_bool, place, skip, seq, cond, call, block, loop, exit, return, rv_opd, Local}
use mir.Val.{Val, vbool}
use base.Logic.{SProp}
use base.Fml.{Lft, Share, flft}
use prog.Wp.{Env, Wp, Tables, after_seq, after_block, after_turn, at_return}
use types.Logic.{Logic}
use types.Kit.{Go, Seq, Item, Post as AtEnd, runs, any_q, at_ret, ‵, ◌$◌, !, by, move, keep, rewrite}
use types.Run.{Below, store, forget, stop, from, of_opd, and_then, no_more, land_last, first, blocks, loops, again, stays, leaves_loop, exec}
use denote.RattleType.{RattleType}
use denote.Laws.{Is}
use denote.Builtin.{bool}
use denote.Ref.{Bor, MutBor}
use denote.Slice.{slice_val, Room}
use denote.Struct.Declared as D
use denote.Triple.Statement.{Triple}
use Rattle.walks.proofs.Plain.{ty, PlainType, has, boolean, Shown-twice}
use Rattle.walks.proofs.Walk.{decide, cell, room}
use Rattle.walks.proofs.Steps.{it, sets, steps, by_values, ref-to, slice_of, hands_to, fits-slice, Has, Free, Dies, var, fills, lands-in, hands_on, Blocks, lie-at, ends-in}
use Rattle.walks.proofs.Form.{Form, code_of, value, shown, handed, Fulfils, met, slice-val, shared, mut_slice, calls_last, Post, exits, Walk, meets-form, mut-slice-val}
use Rattle.walks.proofs.Callee.{of_one, keeps-copy, calls-one}
use Rattle.walks.proofs.Lent.{lent-as, settles-as, lends_row, lent-home}

pub record Shape : Type 2 where
  -- the record, the state and an element of the slice
  pub T : D.Declared
  pub S : RattleType
  pub E : RattleType
  pub more : Callee
  pub f : Callee
  -- what the contracts of more and f say, what g's says, and the turns that are left
  pub goes_on : S.Denot → Bool
  pub state-at : List T.D → S.Denot → List E.Denot → S.Denot
  pub row-at : List T.D → S.Denot → List E.Denot → List T.D
  pub state-of : List T.D → S.Denot → List E.Denot → S.Denot
  pub row_of : List T.D → S.Denot → List E.Denot → List T.D
  pub left : S.Denot → ℕ

module _ (s : Shape) where
  abbrev R : RattleType
  R = D.row s.T

  -- what f says of the next state and the row, and g of the last ones
  abbrev pub Put : List s.T.D → s.S.Denot → List s.E.Denot → s.S.Denot → List s.T.D → Type 0
  Put ys x cs r zs = (r ≡ s.state-at ys x cs) × (zs ≡ s.row-at ys x cs)

  abbrev pub Filled : List s.T.D → s.S.Denot → List s.E.Denot → s.S.Denot → List s.T.D → Type 0
  Filled ys x cs r zs = (r ≡ s.state-of ys x cs) × (zs ≡ s.row_of ys x cs)

  abbrev says : (List s.T.D → s.S.Denot → List s.E.Denot → s.S.Denot → List s.T.D → Type 0) → Form
  says F = record { lifetimes = 2; params = handed 0 tt R ∷ value s.S ∷ shown 1 tt s.E ∷ []; result = s.S; says_of = λ κs a r e. F a.0.now a.1.0 a.1.1.0.now r e.0.now }

  abbrev pub form : Form
  form = says Filled

  abbrev pub one : Form
  one = says Put

  abbrev turn-code : Code
  turn-code = steps (call s.more (it 4 ∷ []) (place 5 []) ∷ cond (it 5) skip (exit 1) ∷ []) (steps (hands_to R 1 6 7) (call s.f (it 7 ∷ it 4 ∷ it 3 ∷ []) (place 4 [])))

  abbrev returned : Code
  returned = steps (sets 0 (rv_opd (it 4)) ∷ []) return

  -- the locals past the parameters
  abbrev others : List Local
  others = by_values (ty s.S ∷ ty_bool ∷ ref-to erased mut R ∷ slice_of erased mut R ∷ [])

  abbrev body : Code
  body = steps (sets 4 (rv_opd (it 2)) ∷ block (loop turn-code) ∷ []) returned

  abbrev pub function : Fn
  function = code_of form (ty s.S) others body

  -- what g says from one state of things is what it says from another
  abbrev pub Same : List s.T.D → s.S.Denot → List s.E.Denot → List s.T.D → s.S.Denot → Type 0
  Same ys x cs zs z = Filled ys x cs (s.state-of zs z cs) (s.row_of zs z cs)

pub record Knows {M : Type 1} {𝓤 : Ura M} (𝓛 : Logic 𝓤) (s : Shape) : Type 2 where
  pub stops : (ys : List s.T.D) (x : s.S.Denot) (cs : List s.E.Denot) → s.goes_on x ≡ false → Filled s ys x cs x ys
  pub turns : (ys : List s.T.D) (x : s.S.Denot) (cs : List s.E.Denot) → s.goes_on x ≡ true → Same s ys x cs (s.row-at ys x cs) (s.state-at ys x cs)
  pub falls : (ys : List s.T.D) (x : s.S.Denot) (cs : List s.E.Denot) → s.goes_on x ≡ true → s.left (s.state-at ys x cs) < s.left x
  pub plain-S : PlainType 𝓛 s.S
  pub twice-E : Shown-twice 𝓛 s.E

module _ {M : Type 1} {𝓤 : Ura M} (𝓛 : Logic 𝓤) (s : Shape) (k : Knows 𝓛 s) (𝓣 : Tables 𝓤 𝓛.H) (known_more : Triple 𝓤 (𝓣.C s.more) (met (of_one bool s.S s.goes_on) 𝓤 𝓛)) (known : Triple 𝓤 (𝓣.C s.f) (met (one s) 𝓤 𝓛)) where
  open 𝓛 use {H}

  abbrev St : PlainType 𝓛 s.S
  St = k.plain-S

  module _ (κ κ₁ : Lft) (q q₁ : Share) (ys : MutBor (List s.T.D)) (x : s.S.Denot) (cs : Bor (List s.E.Denot)) (space : Room (D.row s.T) (length ys.now)) where
    record State : Type 0 where
      row : List s.T.D
      st : s.S.Denot
      row-long : length row ≡ length ys.now
      same : Same s ys.now x cs.now row st
      is : Is s.S st (k.plain-S.val st ∷ [])

    abbrev fewer : State → State → Type 0
    fewer t u = s.left t.st < s.left u.st

    fewer-wf : WellFounded fewer
    fewer-wf = InvImage.wf (λ (t : State). s.left t.st) lt-wf_rel.wf

    abbrev Ends : Val → SProp 𝓤
    Ends = Post 𝓛 (form s) (St, tt) (κ, (κ₁, tt)) (q, (q₁, tt)) (ys, (x, (cs, tt)))

    module _ (t : State) where
      -- the row as it is
      abbrev row_now : MutBor (List s.T.D)
      row_now = lent-as (R s) ys ys.ghost_name t.row

      row_room : Room (R s) (length t.row)
      row_room = subst (Room (R s)) (sym t.row-long) space

      -- one turn further
      module _ (so : s.goes_on t.st ≡ true) (z : s.S.Denot) (zs : List s.T.D) (e : Put s t.row t.st cs.now z zs) where
        still : Same s ys.now x cs.now zs z
        still = ((λ i. s.state-of (e.1 i) (e.0 i) cs.now) ∙ ((k.turns t.row t.st cs.now so).0 ∙ t.same.0), (λ i. s.row_of (e.1 i) (e.0 i) cs.now) ∙ ((k.turns t.row t.st cs.now so).1 ∙ t.same.1))

        fell : s.left z < s.left t.st
        fell = subst (λ (y : s.S.Denot). s.left y < s.left t.st) (sym e.0) (k.falls t.row t.st cs.now so)

        abbrev next : length zs ≡ length t.row → Is s.S z (St.val z ∷ []) → State
        next l is = record { row = zs; st = z; row-long = l ∙ t.row-long; same = still; is = is }

      -- what g says where the loop stops
      told : s.goes_on t.st ≡ false → Filled s ys.now x cs.now t.st t.row
      told over =
          let stops = k.stops t.row t.st cs.now over in
          (stops.0 ∙ t.same.0, stops.1 ∙ t.same.1)

    module _ (ls : Blocks (function s).locals) where
      abbrev En : Env 𝓤 H
      En = lie-at 𝓤 H (function s).locals ls

      -- [the row's token; the row; the slice's token; the slice; _7: 4; _6: 6; _5: 8; _4: 10; _3: 12; _2: 14; _1: 16; _0: 18]
      abbrev Γ : State → List (Item 𝓤)
      Γ t =
          ‵ (flft κ q) ∷ ‵ (mut_slice (R s) κ (row_now t)) ∷ ‵ (flft κ₁ q₁) ∷ ‵ (shared s.E κ₁ cs) ∷ Free 𝓤 H En 7 ∷ Dies 𝓤 H En 7 ∷ Free 𝓤 H En 6 ∷ Dies 𝓤 H En 6 ∷ Free 𝓤 H En 5 ∷ Dies 𝓤 H En 5
          ∷ Has 𝓤 H En 4 full_share (St.val t.st) ∷ Dies 𝓤 H En 4 ∷ Has 𝓤 H En 3 full_share (slice-val cs) ∷ Dies 𝓤 H En 3 ∷ Has 𝓤 H En 2 full_share (St.val x) ∷ Dies 𝓤 H En 2 ∷ Has 𝓤 H En 1 full_share (mut-slice-val ys) ∷ Dies 𝓤 H En 1 ∷ Free 𝓤 H En 0 ∷ Dies 𝓤 H En 0 ∷ []

      abbrev After : State → AtEnd 𝓤 H
      After t = any_q (after_turn 𝓤 H (Below 𝓛 fewer Γ t) (after_block 𝓤 H (after_seq 𝓤 H (Wp 𝓤 H 𝓣.C 𝓣.Λ En (returned s) (at_return 𝓤 H En Ends)) (at_return 𝓤 H En Ends))))

      goes-round : (t : State) → s.goes_on t.st ≡ true → Seq (Go {0}) 𝓛 (Γ t) (runs 𝓣.C 𝓣.Λ En (turn-code s) (After t))
      unfolding after_turn
      goes-round t so =
          calls-one ! 𝓣 St (boolean 𝓛) s.goes_on known_more t.st t.is (and_then ! (var ! 11 refl) (no_more !)) (λ _. lands-in ! 8 refl (tt, tt) $ rewrite ! 8 (λ (y : Bool). Has 𝓤 H En 5 full_share (vbool y)) so refl $ stays ! (var ! 8 refl) $
          hands_on ! 16 6 4 refl refl refl refl refl refl (tt, tt) (fits-slice space.0) $ rewrite ! 4 (λ (m : ℕ). Has 𝓤 H En 7 full_share (slice_val ys.ref_ptr m)) (sym t.row-long) refl $
          lends_row (R s) (row_now t) ! tt (row_room t) (λ ν δ.
          -- [ν's token; the row; what its lender keeps; the slice's token; the slice; _7: 5; ..]
          move ! (4 ∷ []) $ keeps-copy ! s.E k.twice-E κ₁ cs $ move ! (2 ∷ 5 ∷ 3 ∷ 0 ∷ []) $
          calls_last 𝓛 (one s) (St, tt) (ν ∷ [], (κ₁, tt)) (full_share, (q₁, tt)) (lent-as (R s) ys δ t.row, (t.st, (cs, tt))) St 𝓣 known (t.is, tt) !
          (and_then ! (var ! 3 refl) (and_then ! (var ! 9 refl) (and_then ! (var ! 11 refl) (no_more !)))) (λ z ws e l is.
          -- [ν's token; the slice's; the last row; the slice; what the row's lender keeps; _7: 5; ..]
          move ! (0 ∷ 2 ∷ 4 ∷ []) $ lent-home (R s) (row_now t) ! tt (row_room t) ν δ ws.0 l.0 $
          land_last ! (from ! (stop !)) (store ! 10 refl (has St z is)) $ forget ! 4 refl $ forget ! 6 refl $ forget ! 8 refl $ again ! fewer Γ t (next t so z ws.0 e l.0 is) (fell t so z ws.0 e))))

      is-over : (t : State) → s.goes_on t.st ≡ false → Seq (Go {0}) 𝓛 (Γ t) (runs 𝓣.C 𝓣.Λ En (turn-code s) (After t))
      unfolding after_turn
      is-over t over =
          calls-one ! 𝓣 St (boolean 𝓛) s.goes_on known_more t.st t.is (and_then ! (var ! 11 refl) (no_more !)) (λ _. lands-in ! 8 refl (tt, tt) $ rewrite ! 8 (λ (y : Bool). Has 𝓤 H En 5 full_share (vbool y)) over refl $ leaves_loop ! (var ! 8 refl) $
          exec ! 𝓣.C 𝓣.Λ En (returned s) (at_ret En Ends) $ fills ! (of_opd ! (var ! 10 refl)) 18 refl (has St t.st t.is) $ move ! (1 ∷ []) $ settles-as (R s) ys ! κ t.row t.row-long $
          -- [the last row; the row's token; the slice's; the slice; ..]
          ends-in ! 18 refl (cell, (cell, (cell, (cell, (cell, (cell, (room, (room, tt)))))))) $ keep ! (1 ∷ 2 ∷ 0 ∷ []) $
          by ! (exits 𝓛 (form s) (St, tt) (κ, (κ₁, tt)) (q, (q₁, tt)) (ys, (x, (cs, tt))) St (t.row, tt) t.st _ (told t over) (t.row-long, tt) t.is))

      looped : (t : State) → Seq (Go {0}) 𝓛 (Γ t) (runs 𝓣.C 𝓣.Λ En (seq (block (loop (turn-code s))) (returned s)) (at_ret En Ends))
      looped t = first ! $ blocks ! $ loops ! 𝓣 fewer fewer-wf Γ (λ u. decide (s.goes_on u.st) (goes-round u) (is-over u)) t

    walk : Is s.S x (k.plain-S.val x ∷ []) → Walk 𝓛 (form s) (St, tt) 𝓣 (ty s.S) (others s) (body s) (κ, (κ₁, tt)) (q, (q₁, tt)) (ys, (x, (cs, tt)))
    walk x-is ls = fills ! (of_opd ! (var ! 10 refl)) 6 refl (has St x x-is) $ move ! (16 ∷ 18 ∷ 17 ∷ 19 ∷ []) $ looped ls (record { row = ys.now; st = x; row-long = refl; same = (refl, refl); is = x-is })

  pub meets : Fulfils 𝓛 (form s) 𝓣 (function s)
  meets = meets-form 𝓛 (form s) (k.plain-S, tt) 𝓣 (ty s.S) (others s) (body s) (λ κs qs a so. walk κs.0 κs.1.0 qs.0 qs.1.0 a.0 a.1.0 a.1.1.0 so.0 so.1.0)
