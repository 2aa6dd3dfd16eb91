-- The shape Sought: nested loops over a shared row and the places of each record, left by a label at the first place that is hit.
-- Assumes nothing.
--     fn g(row: &[T]) -> O {
--         let mut found = no();
--         let mut i = 0;
--         'row: while i < row.len() {
--             let b = row[i];
--             let n = size(b);
--             let mut j = 0;
--             while j < n { if hit(b, j) { found = at(i, j); break 'row; } j += 1; }
--             i += 1;
--         }
--         found
--     }
-- T is a declared struct of plain fields and O is plain. The callees are covered and say `r ≡ none`, `r ≡ size_of b`, `r ≡ is-hit b j` and `r ≡ found i j`. g says `r ≡ all (now row.entry)`.
--     Shape, Knows     what g is made of; that the contract says the search, and what is to be known of the types
--     within, sought   the search of one record from the place j on, of which so many are left, and else what is found further on; the search of the row
--     function, form   g's MIR, and its form.        meets     g's MIR fulfils that form wherever its callees fulfil theirs
-- What holds at each loop's test is that the search from there on is the whole; so much is left of a record.
use mathlib.Core.Path.{◌≡◌, refl, sym, ◌∙◌, subst}
use mathlib.Core.Bool.{Bool, true, false, cond}
use mathlib.Core.WellFounded.InvImage
use mathlib.Core.WellFounded.{WellFounded}
use Prim.Native.Nat.{ℕ, zero, suc, ◌<◌, ◌≤◌, ◌+◌, ◌^◌}
use native.Mathlib.Numerals.{add-one}
use native.Mathlib.Omega.{arith}
use mathlib.Core.List.{[], ◌∷◌, List, ◌++◌}
use lib.Dec.{lit<}
use lib.ListN.{length, get_or, drop as drop_n, drop_of_length-le}
use lib.Seq.{drop-cons}
use lib.WfN.{lt-wf_rel}
use borrow.Author.Tests.{lt-ltb, le-ltb}
use seplogic.Ra.Ura.{Ura}
use base.Fraction.{full_share}
use mir.Syntax.{Callee, Fn, Body as Code, w64, unsigned, lt, add, ty_int, ty_bool, ty_ptr, place, int, skip, cond as condition, block, loop, exit, call, return, rv_opd, op2, Local}
use mir.Val.{Val, vint, vbool}
use base.Logic.{SProp}
use base.Fml.{Lft, Share}
use prog.Wp.{Env, Wp, Tables, after_seq, after_block, after_turn, at_return, exits as leaving}
use types.Logic.{Logic}
use types.Kit.{Go, Item, any_q, at_ret, post, runs, prop, Post as After, Seq, ◌$◌, !, by, move, rewrite}
use types.Run.{Below, store, forget, stop, from, lit, of_opd, bin, assigns_last, and_then, no_more, land, first, blocks, loops, again, stays, leaves_loop, branches, skips, jumps, exec}
use denote.RattleType.{RattleType}
use denote.Laws.{Is}
use denote.Builtin.{bool, usize}
use denote.Ref.{Bor}
use denote.Slice.{Room}
use denote.Index.{shuts_slice}
use denote.Struct.Declared as D
use denote.Triple.Statement.{Triple}
use Rattle.walks.proofs.Plain.{ty, PlainType, has, uint, boolean}
use Rattle.walks.proofs.Walk.{is_true, is_false, cell, room}
use Rattle.walks.proofs.Steps.{it, sets, steps, by_values, Has, Free, Dies, var, fills, lands-in, Blocks, lie-at, ends-in}
use Rattle.walks.proofs.Form.{Form, code_of, Fulfils, met, Post, exits, Walk, meets-form}
use Rattle.walks.proofs.Callee.{a-value, of_one, of_two, of-slice, calls-nothing, calls-one, calls-two}
use Rattle.walks.proofs.OverRow.{Locals, Places, count-on, loop-code, Filled, opened, Turns, Stops, looks-into, loops-over}

pub record Shape : Type 2 where
  -- the record and the answer
  pub T : D.Declared
  pub O : RattleType
  pub no : Callee
  pub size : Callee
  pub hit : Callee
  pub at : Callee
  pub none : O.Denot
  pub size_of : T.D → ℕ
  pub is-hit : T.D → ℕ → Bool
  pub found : ℕ → ℕ → O.Denot
  -- a record for where there is none, and what g says
  pub empty : T.D
  pub all : List T.D → O.Denot

module _ {X Y : Type 0} (is-hit : X → ℕ → Bool) (found : ℕ → ℕ → Y) where
  unfoldable pub within : X → ℕ → ℕ → ℕ → Y → Y
  within b i j zero further = further
  within b i j (suc left) further = cond (is-hit b j) (found i j) (within b i (j + 1) left further)

  unfoldable pub sought : (X → ℕ) → Y → ℕ → List X → Y
  sought size_of none i [] = none
  sought size_of none i (b ∷ bs) = within b i 0 (size_of b) (sought size_of none (i + 1) bs)

  -- at a place that is hit, and past one that is not
  hit-here : (b : X) (i j left : ℕ) (further : Y) → is-hit b j ≡ true → found i j ≡ within b i j (suc left) further
  unfolding within
  hit-here b i j left further e = rw e

  hit-on : (b : X) (i j left : ℕ) (further : Y) → is-hit b j ≡ false → within b i (j + 1) left further ≡ within b i j (suc left) further
  unfolding within
  hit-on b i j left further e = rw e

  none_left : (b : X) (i j : ℕ) (further : Y) → further ≡ within b i j zero further
  unfolding within
  none_left b i j further = refl

  -- with the record at the index, and where there is none
  module _ (size_of : X → ℕ) (none : Y) (no_record : X) (ys : List X) (i : ℕ) where
    sought-on : i < length ys → within (get_or ys i no_record) i 0 (size_of (get_or ys i no_record)) (sought size_of none (i + 1) (drop_n (i + 1) ys)) ≡ sought size_of none i (drop_n i ys)
    unfolding sought
    sought-on l = rw (drop-cons ys i no_record l, add-one)

    sought-ends : length ys ≤ i → none ≡ sought size_of none i (drop_n i ys)
    unfolding sought
    sought-ends l = rw (drop_of_length-le ys l)

module _ (s : Shape) where
  abbrev R : RattleType
  R = D.row s.T

  abbrev pub form : Form
  form = of-slice s.O R s.all

  abbrev locals : Locals
  locals = record { i = 3; n = 7; c = 8; p = 9; r = 10 }

  abbrev next_place : Code
  next_place = sets 6 (op2 (add unsigned) (it 6) (int w64 1))

  abbrev place-turn : Code
  place-turn =
      steps (sets 11 (op2 (lt unsigned) (it 6) (it 5)) ∷ condition (it 11) skip (exit 1) ∷ call s.hit (it 4 ∷ it 6 ∷ []) (place 12 []) ∷ condition (it 12) (steps (call s.at (it 3 ∷ it 6 ∷ []) (place 2 []) ∷ []) (exit 3)) skip ∷ []) next_place

  abbrev turn : Code
  turn = steps (sets 4 (rv_opd (it 10)) ∷ call s.size (it 4 ∷ []) (place 5 []) ∷ sets 6 (rv_opd (int w64 0)) ∷ block (loop place-turn) ∷ []) (count-on R locals)

  abbrev returned : Code
  returned = steps (sets 0 (rv_opd (it 2)) ∷ []) return

  -- the locals past the parameters
  abbrev others : List Local
  others = by_values (ty s.O ∷ ty_int w64 ∷ ty R ∷ ty_int w64 ∷ ty_int w64 ∷ ty_int w64 ∷ ty_bool ∷ ty_ptr ∷ ty R ∷ ty_bool ∷ ty_bool ∷ [])

  abbrev body : Code
  body = steps (call s.no [] (place 2 []) ∷ sets 3 (rv_opd (int w64 0)) ∷ []) (loop-code R locals turn returned)

  abbrev pub function : Fn
  function = code_of form (ty s.O) others body

pub record Knows {M : Type 1} {𝓤 : Ura M} (𝓛 : Logic 𝓤) (s : Shape) : Type 2 where
  pub is-search : (ys : List s.T.D) → sought s.is-hit s.found s.size_of s.none 0 ys ≡ s.all ys
  pub plain-T : PlainType 𝓛 (D.row s.T)
  pub plain-O : PlainType 𝓛 s.O

module _ {M : Type 1} {𝓤 : Ura M} (𝓛 : Logic 𝓤) (s : Shape) (k : Knows 𝓛 s) (𝓣 : Tables 𝓤 𝓛.H)
    (known-no : Triple 𝓤 (𝓣.C s.no) (met (a-value s.O s.none) 𝓤 𝓛)) (known-size : Triple 𝓤 (𝓣.C s.size) (met (of_one usize (R s) s.size_of) 𝓤 𝓛)) (known-hit : Triple 𝓤 (𝓣.C s.hit) (met (of_two bool (R s) usize s.is-hit) 𝓤 𝓛)) (known_at_lem : Triple 𝓤 (𝓣.C s.at) (met (of_two s.O usize usize s.found) 𝓤 𝓛)) where
  open 𝓛 use {H}

  abbrev number : PlainType 𝓛 usize
  number = uint 𝓛 w64

  module _ (κ : Lft) (q : Share) (ys : Bor (List s.T.D)) (space : Room (R s) (length ys.now)) where
    abbrev Ends : Val → SProp 𝓤
    Ends = Post 𝓛 (form s) tt (κ, tt) (q, tt) (ys, tt)

    abbrev h : ℕ → s.T.D
    h i = get_or ys.now i s.empty

    -- the search from the record i on
    abbrev from-record : ℕ → s.O.Denot
    from-record i = sought s.is-hit s.found s.size_of s.none i (drop_n i ys.now)

    abbrev Inv : ℕ → Unit {0} → Type 0
    Inv i _ = from-record i ≡ s.all ys.now

    i-fits : (i : ℕ) → i < length ys.now → i < 2 ^ 64
    i-fits i l = omega (arith, l, space.0)

    module _ (bs : Blocks (function s).locals) (q' : Share) where
      abbrev En : Env 𝓤 H
      En = lie-at 𝓤 H (function s).locals bs

      abbrev spots : Places 𝓛 s.T k.plain-T (locals s) En
      spots = record { ρ = _; row_is = refl; i-is = refl; n-is = refl; c-is = refl; p-is = refl; r-is = refl }

      abbrev has-number : ℕ → ℕ → Item 𝓤
      has-number l n = Has 𝓤 H En l full_share (vint w64 n)

      abbrev has-bool : ℕ → Bool → Item 𝓤
      has-bool l t = Has 𝓤 H En l full_share (vbool t)

      abbrev open_row : Item 𝓤
      open_row = opened 𝓛 s.T k.plain-T (locals s) En spots κ q ys q' space s.empty

      -- the context behind the row loop's own locals, by what stands in the locals of a turn, and the answer so far
      abbrev behind : Item 𝓤 → Item 𝓤 → Item 𝓤 → Item 𝓤 → Item 𝓤 → s.O.Denot → List (Item 𝓤)
      behind x12 x11 x6 x5 x4 v =
          open_row ∷ x12 ∷ Dies 𝓤 H En 12 ∷ x11 ∷ Dies 𝓤 H En 11 ∷ Dies 𝓤 H En 10 ∷ Dies 𝓤 H En 9 ∷ Dies 𝓤 H En 8 ∷ Dies 𝓤 H En 7 ∷ x6 ∷ Dies 𝓤 H En 6 ∷ x5 ∷ Dies 𝓤 H En 5 ∷ x4 ∷ Dies 𝓤 H En 4 ∷ Dies 𝓤 H En 3
          ∷ Has 𝓤 H En 2 full_share (k.plain-O.val v) ∷ Dies 𝓤 H En 2 ∷ Dies 𝓤 H En 1 ∷ Free 𝓤 H En 0 ∷ Dies 𝓤 H En 0 ∷ []

      abbrev Γ : Unit {0} → List (Item 𝓤)
      Γ _ = behind (Free 𝓤 H En 12) (Free 𝓤 H En 11) (Free 𝓤 H En 6) (Free 𝓤 H En 5) (Free 𝓤 H En 4) s.none

      abbrev read : ℕ → List (Item 𝓤)
      read i = Filled 𝓛 s.T k.plain-T (locals s) En spots κ q ys q' space s.empty i

      -- ---- the places of the record i, of which there are n
      module _ (i : ℕ) (l : i < length ys.now) (g : Is (R s) (h i) (k.plain-T.val (h i) ∷ [])) (n-fits : s.size_of (h i) < 2 ^ 64) (Q : After 𝓤 H)
          (out : post 𝓤 H Q (leaving 1) ≡ Wp 𝓤 H 𝓣.C 𝓣.Λ En (returned s) (at_return 𝓤 H En Ends))
          (on : (b : Unit {0}) → Inv (i + 1) b → Seq (Go {0}) 𝓛 (read i ++ Γ b) (runs 𝓣.C 𝓣.Λ En (count-on (R s) (locals s)) Q)) where
        abbrev n : ℕ
        n = s.size_of (h i)

        record At : Type 0 where
          j : ℕ
          left : ℕ
          all-places : j + left ≡ n
          inv : within s.is-hit s.found (h i) i j left (from-record (i + 1)) ≡ s.all ys.now

        abbrev fewer : At → At → Type 0
        fewer t u = t.left < u.left

        fewer-wf : WellFounded fewer
        fewer-wf = InvImage.wf (λ (t : At). t.left) lt-wf_rel.wf

        abbrev I : At → List (Item 𝓤)
        I t = read i ++ behind (Free 𝓤 H En 12) (Free 𝓤 H En 11) (has-number 6 t.j) (has-number 5 n) (Has 𝓤 H En 4 full_share (k.plain-T.val (h i))) s.none

        abbrev Then : At → After 𝓤 H
        Then t = any_q (after_turn 𝓤 H (Below 𝓛 fewer I t) (after_block 𝓤 H (after_seq 𝓤 H (Wp 𝓤 H 𝓣.C 𝓣.Λ En (count-on (R s) (locals s)) (post 𝓤 H Q)) (post 𝓤 H Q))))

        -- the place is hit: the answer is stored, and both loops are left
        -- [the elements; _1; _3; _7; _8; _9; _10; the open borrow: 7; _12: 8; _11: 10; _6: 16; _5: 18; _4: 20; _2: 23; _0: 26]
        abbrev Hit : ℕ → s.O.Denot → List (Item 𝓤)
        Hit j v = read i ++ behind (has-bool 12 (s.is-hit (h i) j)) (has-bool 11 true) (has-number 6 j) (has-number 5 n) (Has 𝓤 H En 4 full_share (k.plain-T.val (h i))) v

        ends_at : (j : ℕ) (v : s.O.Denot) → v ≡ s.all ys.now → Is s.O v (k.plain-O.val v ∷ []) → Seq (Go {0}) 𝓛 (Hit j v) (prop (post 𝓤 H Q (leaving 1)))
        ends_at j v e is =
            subst (λ (z : SProp 𝓤). Seq (Go {0}) 𝓛 (Hit j v) (prop z)) (sym out) (exec ! 𝓣.C 𝓣.Λ En (returned s) (at_ret En Ends) $
            fills ! (of_opd ! (var ! 23 refl)) 26 refl (has k.plain-O v is) $ move ! (0 ∷ 7 ∷ []) $ shuts_slice ! tt (R s) q' ys.now ys.ref_ptr.0 ys.ref_ptr.1 $
            move ! (0 ∷ 7 ∷ 8 ∷ 9 ∷ 10 ∷ 6 ∷ 11 ∷ 5 ∷ 12 ∷ 4 ∷ 13 ∷ 3 ∷ 14 ∷ 15 ∷ 16 ∷ 17 ∷ 18 ∷ 19 ∷ 20 ∷ 2 ∷ 21 ∷ 22 ∷ 23 ∷ 1 ∷ []) $
            ends-in ! 25 refl (cell, (cell, (cell, (cell, (cell, (cell, (cell, (cell, (cell, (cell, (cell, (cell, (cell, tt))))))))))))) $
            by ! (exits 𝓛 (form s) tt (κ, tt) (q, tt) (ys, tt) k.plain-O tt v _ e tt is))

        goes_on : (t : At) (left : ℕ) → t.left ≡ suc left → Seq (Go {0}) 𝓛 (I t) (runs 𝓣.C 𝓣.Λ En (place-turn s) (Then t))
        unfolding after_turn
        goes_on t left e =
            fills ! (bin ! (var ! 16 refl) (var ! 18 refl) tt) 10 refl (tt, tt) $ rewrite ! 10 (has-bool 11) (lt-ltb t.j n here) refl $ stays ! (var ! 10 refl) $
            calls-two ! 𝓣 k.plain-T number (boolean 𝓛) s.is-hit known-hit (h i) g t.j (refl, j-fits) (and_then ! (var ! 21 refl) (and_then ! (var ! 17 refl) (no_more !))) (λ _. lands-in ! 8 refl (tt, tt) $ first ! $ branches ! (var ! 8 refl)
            (λ so. calls-two ! 𝓣 number number k.plain-O s.found known_at_lem i (refl, i-fits i l) t.j (refl, j-fits) (and_then ! (var ! 3 refl) (and_then ! (var ! 17 refl) (no_more !))) (λ is.
            land ! (from ! (stop !)) (store ! 23 refl (has k.plain-O (s.found i t.j) is)) $ jumps ! $
            ends_at t.j (s.found i t.j) (hit-here s.is-hit s.found (h i) i t.j left (from-record (i + 1)) (is_true (s.is-hit (h i) t.j) so) ∙ so_far) is))
            (λ so. skips ! $ exec ! 𝓣.C 𝓣.Λ En (next_place s) (Then t) $
            assigns_last ! (bin ! (var ! 16 refl) (lit ! tt) (record { fits = next_fits })) (from ! (stop !)) (store ! 16 refl (tt, record { fits = next_fits })) $ forget ! 8 refl $ forget ! 10 refl $
            again ! fewer I t (record { j = t.j + 1; left = left; all-places = omega (arith, t.all-places, e); inv = hit-on s.is-hit s.found (h i) i t.j left (from-record (i + 1)) (is_false (s.is-hit (h i) t.j) so) ∙ so_far }) (omega (arith, e))))
          where
            here : t.j < n
            here = omega (arith, t.all-places, e)

            j-fits : t.j < 2 ^ 64
            j-fits = omega (arith, here, n-fits)

            next_fits : t.j + 1 < 2 ^ 64
            next_fits = omega (arith, here, n-fits)

            so_far : within s.is-hit s.found (h i) i t.j (suc left) (from-record (i + 1)) ≡ s.all ys.now
            so_far = subst (λ (x : ℕ). within s.is-hit s.found (h i) i t.j x (from-record (i + 1)) ≡ s.all ys.now) e t.inv

        is-left : (t : At) → t.left ≡ zero → Seq (Go {0}) 𝓛 (I t) (runs 𝓣.C 𝓣.Λ En (place-turn s) (Then t))
        unfolding after_turn
        is-left t e =
            fills ! (bin ! (var ! 16 refl) (var ! 18 refl) tt) 10 refl (tt, tt) $ rewrite ! 10 (has-bool 11) (le-ltb t.j n (omega (arith, t.all-places, e))) refl $ leaves_loop ! (var ! 10 refl) $
            exec ! 𝓣.C 𝓣.Λ En (count-on (R s) (locals s)) Q $ forget ! 10 refl $ forget ! 16 refl $ forget ! 18 refl $ forget ! 20 refl $
            on tt (none_left s.is-hit s.found (h i) i t.j (from-record (i + 1)) ∙ subst (λ (x : ℕ). within s.is-hit s.found (h i) i t.j x (from-record (i + 1)) ≡ s.all ys.now) e t.inv)

        place-by : (t : At) (left : ℕ) → t.left ≡ left → Seq (Go {0}) 𝓛 (I t) (runs 𝓣.C 𝓣.Λ En (place-turn s) (Then t))
        place-by t zero e = is-left t e
        place-by t (suc left) e = goes_on t left e

        searches : from-record i ≡ s.all ys.now → Seq (Go {0}) 𝓛 (read i ++ behind (Free 𝓤 H En 12) (Free 𝓤 H En 11) (has-number 6 0) (has-number 5 n) (Has 𝓤 H En 4 full_share (k.plain-T.val (h i))) s.none) (runs 𝓣.C 𝓣.Λ En (steps (block (loop (place-turn s)) ∷ []) (count-on (R s) (locals s))) Q)
        searches so_far =
            first ! $ blocks ! $
            loops ! 𝓣 fewer fewer-wf I (λ t. place-by t t.left refl) (record { j = 0; left = n; all-places = omega arith; inv = sought-on s.is-hit s.found s.size_of s.none s.empty ys.now i l ∙ so_far })

      -- ---- the records of the row
      turns : Turns 𝓛 s.T k.plain-T (locals s) En spots κ q ys q' space s.empty 𝓣 Inv Γ Ends (turn s) (returned s)
      turns i a l so_far g Q _ out on =
          fills ! (of_opd ! (var ! 6 refl)) 20 refl (has k.plain-T (h i) g) $
          calls-one ! 𝓣 k.plain-T number s.size_of known-size (h i) g (and_then ! (var ! 21 refl) (no_more !)) (λ n-is. lands-in ! 18 refl (has number (s.size_of (h i)) n-is) $
          fills ! (of_opd ! (lit ! tt)) 16 refl (tt, record { fits = lit< tt }) $ searches i l g n-is.1 Q out on so_far)

      ends : Is s.O s.none (k.plain-O.val s.none ∷ []) → Stops 𝓛 s.T k.plain-T (locals s) En spots κ q ys q' space s.empty 𝓣 Inv Γ Ends (returned s)
      ends none_is i a past so_far =
          fills ! (of_opd ! (var ! 23 refl)) 26 refl (has k.plain-O s.none none_is) $ move ! (0 ∷ 7 ∷ []) $ shuts_slice ! tt (R s) q' ys.now ys.ref_ptr.0 ys.ref_ptr.1 $
          move ! (0 ∷ 7 ∷ 8 ∷ 9 ∷ 10 ∷ 6 ∷ 11 ∷ 5 ∷ 12 ∷ 4 ∷ 13 ∷ 3 ∷ 14 ∷ 15 ∷ 16 ∷ 17 ∷ 18 ∷ 19 ∷ 20 ∷ 2 ∷ 21 ∷ 22 ∷ 23 ∷ 1 ∷ []) $
          ends-in ! 25 refl (cell, (cell, (cell, (cell, (room, (room, (room, (cell, (cell, (room, (room, (room, (room, tt))))))))))))) $
          by ! (exits 𝓛 (form s) tt (κ, tt) (q, tt) (ys, tt) k.plain-O tt s.none _ (sought-ends s.is-hit s.found s.size_of s.none s.empty ys.now i past ∙ so_far) tt none_is)

    walk : Walk 𝓛 (form s) tt 𝓣 (ty s.O) (others s) (body s) (κ, tt) (q, tt) (ys, tt)
    walk bs =
        -- [_12: 0; _11: 2; _10: 4; _9: 6; _8: 8; _7: 10; _6: 12; _5: 14; _4: 16; _3: 18; _2: 20; _1: 22; _0: 24; the token; the row]
        calls-nothing ! 𝓣 s.O k.plain-O s.none known-no (λ is. lands-in ! 20 refl (has k.plain-O s.none is) $ fills ! (of_opd ! (lit ! tt)) 18 refl (tt, record { fits = lit< tt }) $ move ! (26 ∷ 27 ∷ []) $ looks-into ! tt (R s) k.plain-T ys (λ q'.
        move ! (0 ∷ 24 ∷ 20 ∷ 12 ∷ 10 ∷ 8 ∷ 6 ∷ []) $ loops-over 𝓛 s.T k.plain-T (locals s) (lie-at 𝓤 H (function s).locals bs) (spots bs q') κ q ys q' space s.empty 𝓣 Inv (Γ bs q') Ends (turn s) (returned s) (turns bs q') (ends bs q' is)
        0 tt (k.is-search ys.now)))

  pub meets : Fulfils 𝓛 (form s) 𝓣 (function s)
  meets = meets-form 𝓛 (form s) tt 𝓣 (ty s.O) (others s) (body s) (λ κs qs a so. walk κs.0 qs.0 a.0 so.0)
