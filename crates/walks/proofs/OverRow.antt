-- A loop over a shared row, which a turn may leave: what First, Fold and Sought have in common.
-- Assumes nothing.
--     while i < row.len() { .. row[i] ..; i += 1; } rest
-- row is the local 1. A turn has the element by value in a local of its own, and the rest of the turn is free: it may return, break out of the loop, or go on to `i += 1` with another state.
--     Locals, Places   the locals of the loop, by number and by type: the index, the length and then the offset, the test, the pointer, the element
--     turn-code, count-on, loop-code     the loop's MIR, around the rest of a turn and before the rest of the body
--     Front, Filled, Over     the head of the context at the test, once the element is read, and where the loop is left
--     Turns, Stops     what the rest of a turn shows, and what the rest of the body
--     looks-into       a shared row is looked into, once for the loop; `shuts_slice` is the way back
--     loops-over       the loop: from what each turn shows of the state that is carried, and what the end shows, to what the body shows
use mathlib.Core.Path.{◌≡◌, refl, sym, subst}
use mathlib.Core.Bool.{Bool, true, false}
use mathlib.Core.WellFounded.InvImage
use mathlib.Core.WellFounded.{WellFounded}
use Prim.Native.Nat.{ℕ, ◌<◌, ◌≤◌, ◌+◌, ◌-◌, ◌*◌, ◌^◌}
use native.Mathlib.Omega.{arith}
use mathlib.Core.List.{[], ◌∷◌, List, ◌++◌}
use lib.Dec.{T as Holds}
use lib.ListN.{length, get_or}
use lib.WfN.{lt-wf_rel}
use borrow.Author.Tests.{lt-ltb, le-ltb}
use seplogic.Ra.Ura.{Ura}
use base.Fraction.{full_share}
use mir.Syntax.{Ty, Body as Code, w64, unsigned, lt, add, ty_int, ty_bool, ty_ptr, deref, place, copy, int, skip, seq, cond, block, loop, exit, rv_opd, op2}
use mir.Val.{Val, WT, has_ty, vint, vptr, vbool}
use base.Logic.{SProp}
use base.Fml.{Lft, Share, flft}
use prog.Wp.{Env, Wp, Tables, spot_of, after_seq, after_block, after_turn, at_return, returns as returned, next, exits}
use types.Logic.{Logic}
use types.Kit.{Go, Goal, Soaks, Item, ‵, prop, runs, any_q, at_ret, post, Post, Seq, Step, step, ◌$◌, !, move, drop, fsplit, rewrite}
use types.Run.{Below, look, look_raw, store, forget, stop, hop, from, load, lit, of_opd, bin, assigns_last, first, blocks, loops, again, stays, leaves_loop, exec}
use denote.RattleType.{RattleType}
use denote.Laws.{Is, shows}
use denote.Memory.{mem, cell_at, shares}
use denote.Steps.{owned}
use denote.Ref.{Bor}
use denote.Slice.{slice_ty, Room}
use denote.Opens.{Shut}
use denote.Index.{row, others, elem_out, elem_back, looks_slice}
use denote.Index as Index
use denote.Struct.Declared as D
use Rattle.walks.proofs.Plain.{ty, PlainType, has}
use Rattle.walks.proofs.Walk.{falls, below}
use Rattle.walks.proofs.Form.{shared}
use Rattle.walks.proofs.Steps.{it, len_of, sets, steps, finds-elem, fits-offset, Has, Free, Sliced, var, len, ptr, fills, reaches-elem}

-- the element at i of a row of plain records, at its machine value: [the row]  to  [the element's cell; the others], and back as it was
module _ {M : Type 1} {𝓤 : Ura M} {𝓛 : Logic 𝓤} {K : Type 0} {Γ : List (Item 𝓤)} {G : Goal 𝓤 𝓛.H} (R : RattleType) (P : PlainType 𝓛 R) (y : Bor (List R.Denot)) (q : Share) (i : ℕ) (none : R.Denot) (l : i < length y.now) where
  pub takes_out : K → (Is R (get_or y.now i none) (P.val (get_or y.now i none) ∷ []) → Seq K 𝓛 (‵ (cell_at q R.mir (P.val (get_or y.now i none) ∷ []) y.ref_ptr.0 (Index.place (mem R).size y.ref_ptr.1 i)) ∷ ‵ (others (shares R) q y.now i y.ref_ptr.0 y.ref_ptr.1) ∷ Γ) G)
      → Seq K 𝓛 (‵ (row R q y.now y.ref_ptr.0 y.ref_ptr.1) ∷ Γ) G
  takes_out t k = elem_out t R (Is R) (shows 𝓛 R) (λ x. P.val x ∷ []) P.tells q y.now i none y.ref_ptr.0 y.ref_ptr.1 l (λ g. move t (1 ∷ []) $ drop t $ k g)

  pub puts-in : K → Is R (get_or y.now i none) (P.val (get_or y.now i none) ∷ [])
      → Step K 𝓛 (‵ (row R q y.now y.ref_ptr.0 y.ref_ptr.1) ∷ Γ) G (‵ (cell_at q R.mir (P.val (get_or y.now i none) ∷ []) y.ref_ptr.0 (Index.place (mem R).size y.ref_ptr.1 i)) ∷ ‵ (others (shares R) q y.now i y.ref_ptr.0 y.ref_ptr.1) ∷ Γ) G
  puts-in t g = step (λ s. owned t R (Is R) P.makes (get_or y.now i none) _ g $ move t (1 ∷ 0 ∷ []) $ elem_back t R q y.now i none _ y.ref_ptr.0 y.ref_ptr.1 l $ s)

-- ---- the code
pub record Locals : Type 0 where
  pub i : ℕ
  pub n : ℕ
  pub c : ℕ
  pub p : ℕ
  pub r : ℕ

module _ (R : RattleType) (L : Locals) where
  abbrev pub count-on : Code
  count-on = sets L.i (op2 (add unsigned) (it L.i) (int w64 1))

  abbrev pub turn-code : Code → Code
  turn-code rest = steps (sets L.n (rv_opd (len_of 1)) ∷ sets L.c (op2 (lt unsigned) (it L.i) (it L.n)) ∷ cond (it L.c) skip (exit 1) ∷ []) (steps (finds-elem R 1 L.i L.n L.p) (steps (sets L.r (rv_opd (copy (place L.p (deref (ty R) ∷ [])))) ∷ []) rest))

  abbrev pub loop-code : Code → Code → Code
  loop-code turn after = seq (block (loop (turn-code turn))) after

-- a value has the type of a local that has this one
typed-as : {τ σ : Ty} (v : Val) → τ ≡ σ → Holds (has_ty σ v) × WT v → Holds (has_ty τ v) × WT v
typed-as v e h = subst (λ (ρ : Ty). Holds (has_ty ρ v) × WT v) (sym e) h

module _ {M : Type 1} {𝓤 : Ura M} (𝓛 : Logic 𝓤) (T : D.Declared) (P : PlainType 𝓛 (D.row T)) (L : Locals) (E : Env 𝓤 𝓛.H) where
  open 𝓛 use {H}

  abbrev R : RattleType
  R = D.row T

  pub record Places : Type 0 where
    pub ρ : Ty
    pub row_is : (spot_of 𝓤 H E 1).0 ≡ slice_ty ρ
    pub i-is : (spot_of 𝓤 H E L.i).0 ≡ ty_int w64
    pub n-is : (spot_of 𝓤 H E L.n).0 ≡ ty_int w64
    pub c-is : (spot_of 𝓤 H E L.c).0 ≡ ty_bool
    pub p-is : (spot_of 𝓤 H E L.p).0 ≡ ty_ptr
    pub r-is : (spot_of 𝓤 H E L.r).0 ≡ ty R

  module _ (at : Places) (κ : Lft) (q : Share) (y : Bor (List R.Denot)) (q' : Share) (space : Room R (length y.now)) (none : R.Denot) where
    abbrev h : ℕ → R.Denot
    h x = get_or y.now x none

    abbrev elems : Item 𝓤
    elems = ‵ (row R q' y.now y.ref_ptr.0 y.ref_ptr.1)

    abbrev slice : Item 𝓤
    slice = Sliced 𝓤 H E 1 at.ρ full_share y.ref_ptr (length y.now)

    abbrev index : ℕ → Item 𝓤
    index x = Has 𝓤 H E L.i full_share (vint w64 x)

    -- at the test; once the element is read; and where the loop is left
    abbrev pub Front : ℕ → List (Item 𝓤)
    Front x = elems ∷ slice ∷ index x ∷ Free 𝓤 H E L.n ∷ Free 𝓤 H E L.c ∷ Free 𝓤 H E L.p ∷ Free 𝓤 H E L.r ∷ []

    abbrev pub Filled : ℕ → List (Item 𝓤)
    Filled x = elems ∷ slice ∷ index x ∷ Has 𝓤 H E L.n full_share (vint w64 (x * (mem R).size)) ∷ Has 𝓤 H E L.c full_share (vbool true)
        ∷ Has 𝓤 H E L.p full_share (vptr y.ref_ptr.0 (Index.place (mem R).size y.ref_ptr.1 x)) ∷ Has 𝓤 H E L.r full_share (P.val (h x)) ∷ []

    abbrev pub Over : ℕ → List (Item 𝓤)
    Over x = elems ∷ slice ∷ index x ∷ Has 𝓤 H E L.n full_share (vint w64 (length y.now)) ∷ Has 𝓤 H E L.c full_share (vbool false) ∷ Free 𝓤 H E L.p ∷ Free 𝓤 H E L.r ∷ []

    -- the borrow of the row, open for the loop
    abbrev pub opened : Item 𝓤
    opened = Shut 𝓛 κ q (row R q' y.now y.ref_ptr.0 y.ref_ptr.1)

    word : (v : Val) → Holds (has_ty (ty_int w64) v) × WT v → Holds (has_ty (spot_of 𝓤 H E L.n).0 v) × WT v
    word v ok = typed-as v at.n-is ok

    next_fits : (x : ℕ) → x < length y.now → x + 1 < 2 ^ 64
    next_fits x l = omega (arith, l, space.0)

    module _ (𝓣 : Tables 𝓤 H) where
      -- the element is read
      reads : (x : ℕ) → x < length y.now → (Γ : List (Item 𝓤)) (turn : Code) (Q : Post 𝓤 H) → (Is R (h x) (P.val (h x) ∷ []) → Seq (Go {0}) 𝓛 (Filled x ++ Γ) (runs 𝓣.C 𝓣.Λ E turn Q)) → Seq (Go {0}) 𝓛 (Front x ++ Γ) (runs 𝓣.C 𝓣.Λ E (turn-code R L turn) Q)
      reads x l Γ turn Q k =
          fills ! (of_opd ! (len ! 1 refl at.row_is)) 3 refl (word _ (tt, record { fits = space.0 })) $ fills ! (bin ! (var ! 2 refl) (var ! 3 refl) tt) 4 refl (typed-as _ at.c-is (tt, tt)) $
          rewrite ! 4 (λ (t : Bool). Has 𝓤 H E L.c full_share (vbool t)) (lt-ltb x (length y.now) l) refl $ stays ! (var ! 4 refl) $
          reaches-elem ! R space l (var ! 2 refl) (store ! 3 refl (word _ (fits-offset R (length y.now) x space l))) (ptr ! 1 refl at.row_is) (var ! 3 refl) 5 refl (typed-as _ at.p-is (tt, tt)) $
          takes_out R P y q' x none l ! (λ g.
          -- [the element; the others; the slice; the index; the offset; the test; the pointer; room for the element]
          fills ! (of_opd ! (load ! (from ! (hop ! (look ! 6 refl) (stop !))) (look_raw ! 0 refl))) 7 refl (typed-as _ at.r-is (has P (h x) g)) $ puts-in R P y q' x none l ! g $ k g)

      -- there is none, and the loop is left
      stops : (x : ℕ) → length y.now ≤ x → (Γ : List (Item 𝓤)) (turn : Code) (Q : Post 𝓤 H) → Seq (Go {0}) 𝓛 (Over x ++ Γ) (prop (post 𝓤 H Q (exits 1))) → Seq (Go {0}) 𝓛 (Front x ++ Γ) (runs 𝓣.C 𝓣.Λ E (turn-code R L turn) Q)
      stops x past Γ turn Q k =
          fills ! (of_opd ! (len ! 1 refl at.row_is)) 3 refl (word _ (tt, record { fits = space.0 })) $ fills ! (bin ! (var ! 2 refl) (var ! 3 refl) tt) 4 refl (typed-as _ at.c-is (tt, tt)) $
          rewrite ! 4 (λ (t : Bool). Has 𝓤 H E L.c full_share (vbool t)) (le-ltb x (length y.now) past) refl $ leaves_loop ! (var ! 4 refl) $ k

      -- the index goes on, and the turn's own locals are room again
      counts : (x : ℕ) → x < length y.now → (Γ : List (Item 𝓤)) (Q : Post 𝓤 H) → Seq (Go {0}) 𝓛 (Front (x + 1) ++ Γ) (prop (post 𝓤 H Q next)) → Seq (Go {0}) 𝓛 (Filled x ++ Γ) (runs 𝓣.C 𝓣.Λ E (count-on R L) Q)
      counts x l Γ Q k =
          assigns_last ! (bin ! (var ! 2 refl) (lit ! tt) (record { fits = next_fits x l })) (from ! (stop !)) (store ! 2 refl (typed-as _ at.i-is (tt, record { fits = next_fits x l }))) $ forget ! 3 refl $ forget ! 4 refl $ forget ! 5 refl $ forget ! 6 refl $ k

      -- Inv is what holds of the index and the state at the test, and Γ the rest of the context there
      module _ {X : Type 0} (Inv : ℕ → X → Type 0) (Γ : X → List (Item 𝓤)) (Kf : Val → SProp 𝓤) where
        -- what the rest of a turn shows, and what the rest of the body
        abbrev pub Turns : Code → Code → Type 2
        Turns turn after = (x : ℕ) (a : X) → x < length y.now → Inv x a → Is R (h x) (P.val (h x) ∷ []) → (Q : Post 𝓤 H) → post 𝓤 H Q returned ≡ at_return 𝓤 H E Kf returned → post 𝓤 H Q (exits 1) ≡ Wp 𝓤 H 𝓣.C 𝓣.Λ E after (at_return 𝓤 H E Kf)
            → ((b : X) → Inv (x + 1) b → Seq (Go {0}) 𝓛 (Filled x ++ Γ b) (runs 𝓣.C 𝓣.Λ E (count-on R L) Q)) → Seq (Go {0}) 𝓛 (Filled x ++ Γ a) (runs 𝓣.C 𝓣.Λ E turn Q)

        abbrev pub Stops : Code → Type 1
        Stops after = (x : ℕ) (a : X) → length y.now ≤ x → Inv x a → Seq (Go {0}) 𝓛 (Over x ++ Γ a) (runs 𝓣.C 𝓣.Λ E after (at_ret E Kf))

      module _ {X : Type 0} (Inv : ℕ → X → Type 0) (Γ : X → List (Item 𝓤)) (Kf : Val → SProp 𝓤) (turn after : Code) (turns : Turns Inv Γ Kf turn after) (ends : Stops Inv Γ Kf after) where
        record At : Type 0 where
          x : ℕ
          a : X
          inv : Inv x a

        abbrev fewer : At → At → Type 0
        fewer t u = length y.now - t.x < length y.now - u.x

        fewer-wf : WellFounded fewer
        fewer-wf = InvImage.wf (λ (t : At). length y.now - t.x) lt-wf_rel.wf

        abbrev I : At → List (Item 𝓤)
        I t = Front t.x ++ Γ t.a

        abbrev After : At → Post 𝓤 H
        After t = any_q (after_turn 𝓤 H (Below 𝓛 fewer I t) (after_block 𝓤 H (after_seq 𝓤 H (Wp 𝓤 H 𝓣.C 𝓣.Λ E after (at_return 𝓤 H E Kf)) (at_return 𝓤 H E Kf))))

        goes_on : (t : At) → t.x < length y.now → Seq (Go {0}) 𝓛 (I t) (runs 𝓣.C 𝓣.Λ E (turn-code R L turn) (After t))
        unfolding after_turn
        goes_on t l = reads t.x l (Γ t.a) turn (After t) (λ g. turns t.x t.a l t.inv g (After t) refl refl (λ b inv. counts t.x l (Γ b) (After t) (again ! fewer I t (record { x = t.x + 1; a = b; inv = inv }) (falls (length y.now) t.x l))))

        is-left : (t : At) → length y.now ≤ t.x → Seq (Go {0}) 𝓛 (I t) (runs 𝓣.C 𝓣.Λ E (turn-code R L turn) (After t))
        unfolding after_turn
        is-left t past = stops t.x past (Γ t.a) turn (After t) (exec ! 𝓣.C 𝓣.Λ E after (at_ret E Kf) $ ends t.x t.a past t.inv)

        pub loops-over : (x : ℕ) (a : X) → Inv x a → Seq (Go {0}) 𝓛 (Front x ++ Γ a) (runs 𝓣.C 𝓣.Λ E (loop-code R L turn after) (at_ret E Kf))
        loops-over x a inv = first ! $ blocks ! $ loops ! 𝓣 fewer fewer-wf I (λ u. below u.x (length y.now) (goes_on u) (is-left u)) (record { x = x; a = a; inv = inv })

module _ {M : Type 1} {𝓤 : Ura M} {𝓛 : Logic 𝓤} {K : Type 0} {Γ : List (Item 𝓤)} {G : Goal 𝓤 𝓛.H} where
  -- a shared row is looked into: [the token; the row]  to  [its elements, at some share; the open borrow]
  pub looks-into : K → Soaks G → (R : RattleType) (P : PlainType 𝓛 R) (y : Bor (List R.Denot)) {κ : Lft} {q : Share}
      → ((s : Share) → Seq K 𝓛 (‵ (row R s y.now y.ref_ptr.0 y.ref_ptr.1) ∷ Shut 𝓛 κ q (row R s y.now y.ref_ptr.0 y.ref_ptr.1) ∷ Γ) G) → Seq K 𝓛 (‵ (flft κ q) ∷ ‵ (shared R κ y) ∷ Γ) G
  looks-into t z R P y k =
      move t (1 ∷ []) $ fsplit t $ drop t $ looks_slice t z R P.copied y.now y.ref_ptr.0 y.ref_ptr.1 (λ s. move t (2 ∷ []) $ drop t $ k s)
