-- The shape First: a loop over a shared row that is left at the first record that is hit.
-- Assumes nothing.
--     fn g(row: &[T]) -> O { let mut i = 0; while i < row.len() { if f(row[i]) { return at(i); } i += 1; } none(i) }
-- T is a declared struct of plain fields, and O is plain. f, at and none are covered and say `r ≡ hit b`, `r ≡ tells i` and `r ≡ ends i`. g says `r ≡ all (now row.entry)`: what is told of the place of the first record that is hit, or of how many there are.
--     Shape, Knows     what g is made of; what the contract says, and what is to be known of the type
--     search           the same of the records from a place on
--     function, form   g's MIR, and its form.        meets     g's MIR fulfils that form wherever its callees fulfil theirs
-- What holds at the loop's test is that the records from the index on decide.
use mathlib.Core.Path.{◌≡◌, refl, ◌∙◌}
use mathlib.Core.Bool.{Bool, true, false, cond}
use Prim.Native.Nat.{ℕ, ◌<◌, ◌≤◌, ◌+◌, ◌^◌}
use native.Mathlib.Numerals.{add-one}
use native.Mathlib.Omega.{arith}
use mathlib.Core.List.{[], ◌∷◌, List}
use lib.Dec.{lit<}
use lib.ListN.{length, get_or, drop as drop_n, drop_of_length-le}
use lib.Seq.{drop-cons}
use seplogic.Ra.Ura.{Ura}
use mir.Syntax.{Callee, Fn, Body as Code, w64, ty_int, ty_bool, ty_ptr, place, int, skip, cond as condition, call, return, rv_opd, Local}
use mir.Val.{Val}
use base.Logic.{SProp, ent}
use base.Fml.{Lft, Share, flft}
use prog.Wp.{Env, Tables}
use types.Logic.{Logic}
use types.Kit.{Item, ‵, ⋆, ◌$◌, !, by, move}
use types.Run.{forget, lit, of_opd, and_then, no_more, first, branches, skips, exec}
use denote.RattleType.{RattleType}
use denote.Laws.{Is}
use denote.Builtin.{bool, usize}
use denote.Ref.{Bor}
use denote.Slice.{Room}
use denote.Index.{shuts_slice}
use denote.Struct.Declared as D
use denote.Triple.Statement.{Triple}
use Rattle.walks.proofs.Plain.{ty, PlainType, has, uint, boolean}
use Rattle.walks.proofs.Walk.{is_true, is_false, cell, room}
use Rattle.walks.proofs.Steps.{it, sets, steps, by_values, Free, Dies, var, fills, lands-in, Blocks, lie-at, ends-in, ends-within}
use Rattle.walks.proofs.Form.{Form, code_of, Fulfils, met, Post, exits, Walk, meets-form}
use Rattle.walks.proofs.Callee.{of_one, of-slice, calls-one}
use Rattle.walks.proofs.OverRow.{Locals, Places, count-on, loop-code, opened, Turns, Stops, looks-into, loops-over}

pub record Shape : Type 2 where
  pub T : D.Declared
  pub O : RattleType
  pub f : Callee
  pub at : Callee
  pub none : Callee
  pub hit : T.D → Bool
  pub tells : ℕ → O.Denot
  pub ends : ℕ → O.Denot
  -- a record for where there is none, and what g says
  pub empty : T.D
  pub all : List T.D → O.Denot

module _ {X Y : Type 0} (hit : X → Bool) (tells ends : ℕ → Y) where
  unfoldable pub search : ℕ → List X → Y
  search i [] = ends i
  search i (b ∷ bs) = cond (hit b) (tells i) (search (i + 1) bs)

  -- of the record at the index, and where there is none
  module _ (none : X) (ys : List X) (i : ℕ) where
    hit-on : i < length ys → hit (get_or ys i none) ≡ false → search (i + 1) (drop_n (i + 1) ys) ≡ search i (drop_n i ys)
    unfolding search
    hit-on l e = rw (drop-cons ys i none l, e, add-one)

    hit-stops : i < length ys → hit (get_or ys i none) ≡ true → tells i ≡ search i (drop_n i ys)
    unfolding search
    hit-stops l e = rw (drop-cons ys i none l, e)

    hit-ends : length ys ≤ i → ends i ≡ search i (drop_n i ys)
    unfolding search
    hit-ends l = rw (drop_of_length-le ys l)

module _ (s : Shape) where
  abbrev R : RattleType
  R = D.row s.T

  abbrev pub form : Form
  form = of-slice s.O R s.all

  abbrev locals : Locals
  locals = record { i = 2; n = 3; c = 4; p = 6; r = 7 }

  -- what a function of the index gives is the answer
  abbrev told-by : Callee → Code
  told-by h = steps (call h (it 2 ∷ []) (place 0 []) ∷ []) return

  abbrev turn : Code
  turn = steps (call s.f (it 7 ∷ []) (place 5 []) ∷ condition (it 5) (told-by s.at) skip ∷ []) (count-on R locals)

  -- the locals past the parameters
  abbrev others : List Local
  others = by_values (ty_int w64 ∷ ty_int w64 ∷ ty_bool ∷ ty_bool ∷ ty_ptr ∷ ty R ∷ [])

  abbrev body : Code
  body = steps (sets 2 (rv_opd (int w64 0)) ∷ []) (loop-code R locals turn (told-by s.none))

  abbrev pub function : Fn
  function = code_of form (ty s.O) others body

pub record Knows {M : Type 1} {𝓤 : Ura M} (𝓛 : Logic 𝓤) (s : Shape) : Type 2 where
  pub says_all : (ys : List s.T.D) → search s.hit s.tells s.ends 0 ys ≡ s.all ys
  pub plain-T : PlainType 𝓛 (D.row s.T)
  pub plain-O : PlainType 𝓛 s.O

module _ {M : Type 1} {𝓤 : Ura M} (𝓛 : Logic 𝓤) (s : Shape) (k : Knows 𝓛 s) (𝓣 : Tables 𝓤 𝓛.H)
    (known : Triple 𝓤 (𝓣.C s.f) (met (of_one bool (R s) s.hit) 𝓤 𝓛)) (known_at_lem : Triple 𝓤 (𝓣.C s.at) (met (of_one s.O usize s.tells) 𝓤 𝓛)) (known-none : Triple 𝓤 (𝓣.C s.none) (met (of_one s.O usize s.ends) 𝓤 𝓛)) where
  open 𝓛 use {H}

  module _ (κ : Lft) (q : Share) (ys : Bor (List s.T.D)) (space : Room (R s) (length ys.now)) where
    abbrev Ends : Val → SProp 𝓤
    Ends = Post 𝓛 (form s) tt (κ, tt) (q, tt) (ys, tt)

    small : (i : ℕ) → i ≤ length ys.now → i < 2 ^ 64
    small i l = omega (arith, l, space.0)

    done : (r : s.O.Denot) → r ≡ s.all ys.now → Is s.O r (k.plain-O.val r ∷ []) → ent 𝓤 (⋆ 𝓛 (‵ (flft κ q) ∷ [])) (Ends (k.plain-O.val r))
    done r e is = exits 𝓛 (form s) tt (κ, tt) (q, tt) (ys, tt) k.plain-O tt r _ e tt is

    abbrev found : ℕ → List s.T.D → s.O.Denot
    found = search s.hit s.tells s.ends

    abbrev Inv : ℕ → Unit {0} → Type 0
    Inv i _ = (i ≤ length ys.now) × (found i (drop_n i ys.now) ≡ s.all ys.now)

    module _ (bs : Blocks (function s).locals) (q' : Share) where
      abbrev En : Env 𝓤 H
      En = lie-at 𝓤 H (function s).locals bs

      abbrev at : Places 𝓛 s.T k.plain-T (locals s) En
      at = record { ρ = _; row_is = refl; i-is = refl; n-is = refl; c-is = refl; p-is = refl; r-is = refl }

      -- the context at the test, behind the loop's own locals
      abbrev Γ : Unit {0} → List (Item 𝓤)
      Γ _ =
          opened 𝓛 s.T k.plain-T (locals s) En at κ q ys q' space s.empty ∷ Dies 𝓤 H En 7 ∷ Dies 𝓤 H En 6 ∷ Free 𝓤 H En 5 ∷ Dies 𝓤 H En 5 ∷ Dies 𝓤 H En 4 ∷ Dies 𝓤 H En 3 ∷ Dies 𝓤 H En 2 ∷ Dies 𝓤 H En 1 ∷ Free 𝓤 H En 0 ∷ Dies 𝓤 H En 0 ∷ []

      -- [the elements; _1; _2; _3; _4; _6; _7; the open borrow: 7; _5: 10; _0: 16]. A hit: the row is shut, and the locals put into their order
      turns : Turns 𝓛 s.T k.plain-T (locals s) En at κ q ys q' space s.empty 𝓣 Inv Γ Ends (turn s) (told-by s s.none)
      turns i a l so_far g Q back _ on =
          calls-one ! 𝓣 k.plain-T (boolean 𝓛) s.hit known (get_or ys.now i s.empty) g (and_then ! (var ! 7 refl) (no_more !)) (λ _. lands-in ! 10 refl (tt, tt) $ first ! $ branches ! (var ! 10 refl)
          (λ yes. move ! (0 ∷ 7 ∷ []) $ shuts_slice ! tt (R s) q' ys.now ys.ref_ptr.0 ys.ref_ptr.1 $ calls-one ! 𝓣 (uint 𝓛 w64) k.plain-O s.tells known_at_lem i (refl, small i so_far.0) (and_then ! (var ! 3 refl) (no_more !)) (λ is. lands-in ! 15 refl (has k.plain-O (s.tells i) is) $ move ! (0 ∷ 6 ∷ 7 ∷ 5 ∷ 8 ∷ 9 ∷ 10 ∷ 4 ∷ 11 ∷ 3 ∷ 12 ∷ 2 ∷ 13 ∷ 1 ∷ []) $
          ends-within ! 15 Ends back refl (cell, (cell, (cell, (cell, (cell, (cell, (cell, (cell, tt)))))))) $ by ! (done (s.tells i) (hit-stops s.hit s.tells s.ends s.empty ys.now i l (is_true (s.hit (get_or ys.now i s.empty)) yes) ∙ so_far.1) is)))
          (λ no. skips ! $ exec ! 𝓣.C 𝓣.Λ En (count-on (R s) (locals s)) Q $ forget ! 10 refl $ on tt (omega (arith, l), hit-on s.hit s.tells s.ends s.empty ys.now i l (is_false (s.hit (get_or ys.now i s.empty)) no) ∙ so_far.1)))

      ends : Stops 𝓛 s.T k.plain-T (locals s) En at κ q ys q' space s.empty 𝓣 Inv Γ Ends (told-by s s.none)
      ends i a past so_far =
          move ! (0 ∷ 7 ∷ []) $ shuts_slice ! tt (R s) q' ys.now ys.ref_ptr.0 ys.ref_ptr.1 $ calls-one ! 𝓣 (uint 𝓛 w64) k.plain-O s.ends known-none i (refl, small i so_far.0) (and_then ! (var ! 3 refl) (no_more !)) (λ is. lands-in ! 15 refl (has k.plain-O (s.ends i) is) $ move ! (0 ∷ 6 ∷ 7 ∷ 5 ∷ 8 ∷ 9 ∷ 10 ∷ 4 ∷ 11 ∷ 3 ∷ 12 ∷ 2 ∷ 13 ∷ 1 ∷ []) $
          ends-in ! 15 refl (cell, (cell, (cell, (cell, (cell, (room, (room, (room, tt)))))))) $ by ! (done (s.ends i) (hit-ends s.hit s.tells s.ends s.empty ys.now i past ∙ so_far.1) is))

    walk : Walk 𝓛 (form s) tt 𝓣 (ty s.O) (others s) (body s) (κ, tt) (q, tt) (ys, tt)
    walk bs =
        -- [_7: 0; _6: 2; _5: 4; _4: 6; _3: 8; _2: 10; _1: 12; _0: 14; the token; the row]
        fills ! (of_opd ! (lit ! tt)) 10 refl (tt, record { fits = lit< tt }) $ move ! (16 ∷ 17 ∷ []) $ looks-into ! tt (R s) k.plain-T ys (λ q'.
        move ! (0 ∷ 14 ∷ 12 ∷ 10 ∷ 8 ∷ 4 ∷ 2 ∷ []) $ loops-over 𝓛 s.T k.plain-T (locals s) (lie-at 𝓤 H (function s).locals bs) (at bs q') κ q ys q' space s.empty 𝓣 Inv (Γ bs q') Ends (turn s) (told-by s s.none) (turns bs q') (ends bs q')
        0 tt (omega arith, k.says_all ys.now))

  pub meets : Fulfils 𝓛 (form s) 𝓣 (function s)
  meets = meets-form 𝓛 (form s) tt 𝓣 (ty s.O) (others s) (body s) (λ κs qs a so. walk κs.0 qs.0 a.0 so.0)
