-- The shape Fold: a loop over a shared row that carries an accumulator by value.
-- Assumes nothing.
--     fn g(row: &[T]) -> B { let mut acc = init(); let mut i = 0; while i < row.len() { acc = f(acc, i, row[i]); i += 1; } acc }
-- T is a declared struct of plain fields and B is plain. init and f are covered and say `r ≡ start` and `r ≡ F acc i b`. g says `r ≡ all (now row.entry)`, the fold of F over the row.
--     Shape, Knows     what g is made of; that the contract says the fold, and what is to be known of the types
--     folded           F at each place in turn, from the place i on
--     function, form   g's MIR, and its form.        adds     the form of f.        meets     g's MIR fulfils that form wherever its callees fulfil theirs
-- What holds at the loop's test is that the fold from the index on, of what is carried, is the whole.
use mathlib.Core.Path.{◌≡◌, refl, sym, ◌∙◌, subst}
use Prim.Native.Nat.{ℕ, suc, ◌<◌, ◌≤◌, ◌+◌, ◌^◌}
use native.Mathlib.Omega.{arith}
use native.Mathlib.Numerals.{add-one}
use mathlib.Core.List.{[], ◌∷◌, List}
use lib.Dec.{lit<}
use lib.ListN.{length, get_or, drop as drop_n, drop_of_length-le}
use lib.Seq.{drop-cons}
use seplogic.Ra.Ura.{Ura}
use base.Fraction.{full_share}
use mir.Syntax.{Callee, Fn, Body as Code, w64, ty_int, ty_bool, ty_ptr, place, int, call, return, rv_opd, Local}
use mir.Val.{Val}
use base.Logic.{SProp}
use base.Fml.{Lft, Share}
use prog.Wp.{Env, Tables}
use types.Logic.{Logic}
use types.Kit.{Item, ◌$◌, !, by, move}
use types.Run.{store, stop, from, lit, of_opd, and_then, no_more, land}
use denote.RattleType.{RattleType}
use denote.Laws.{Is}
use denote.Builtin.{usize}
use denote.Ref.{Bor}
use denote.Slice.{Room}
use denote.Index.{shuts_slice}
use denote.Struct.Declared as D
use denote.Triple.Statement.{Triple}
use Rattle.walks.proofs.Plain.{ty, PlainType, has, uint}
use Rattle.walks.proofs.Walk.{cell, room}
use Rattle.walks.proofs.Steps.{it, sets, steps, by_values, Has, Free, Dies, var, fills, lands-in, Blocks, lie-at, ends-in}
use Rattle.walks.proofs.Form.{Form, code_of, value, Fulfils, met, calls, Post, exits, Walk, meets-form}
use Rattle.walks.proofs.Callee.{a-value, of-slice, calls-nothing}
use Rattle.walks.proofs.OverRow.{Locals, Places, count-on, loop-code, opened, Turns, Stops, looks-into, loops-over}

pub record Shape : Type 2 where
  -- the record and the accumulator
  pub T : D.Declared
  pub B : RattleType
  pub init : Callee
  pub f : Callee
  pub start : B.Denot
  pub F : B.Denot → ℕ → T.D → B.Denot
  -- a record for where there is none, and what g says
  pub empty : T.D
  pub all : List T.D → B.Denot

unfoldable pub folded : {X Y : Type 0} → (Y → ℕ → X → Y) → Y → ℕ → List X → Y
folded F out i [] = out
folded F out i (b ∷ bs) = folded F (F out i b) (suc i) bs

-- with the record at the index, and where there is none
module _ {X Y : Type 0} (F : Y → ℕ → X → Y) (none : X) (ys : List X) (i : ℕ) (out : Y) where
  folded_on : i < length ys → folded F (F out i (get_or ys i none)) (i + 1) (drop_n (i + 1) ys) ≡ folded F out i (drop_n i ys)
  unfolding folded
  folded_on l = rw (drop-cons ys i none l, add-one)

  folded-ends : length ys ≤ i → out ≡ folded F out i (drop_n i ys)
  unfolding folded
  folded-ends l = rw (drop_of_length-le ys l)

module _ (s : Shape) where
  abbrev R : RattleType
  R = D.row s.T

  abbrev pub form : Form
  form = of-slice s.B R s.all

  abbrev pub adds : Form
  adds = record { lifetimes = 0; params = value s.B ∷ value usize ∷ value R ∷ []; result = s.B; says_of = λ κs a r e. r ≡ s.F a.0 a.1.0 a.1.1.0 }

  abbrev locals : Locals
  locals = record { i = 3; n = 4; c = 5; p = 6; r = 7 }

  abbrev turn : Code
  turn = steps (call s.f (it 2 ∷ it 3 ∷ it 7 ∷ []) (place 2 []) ∷ []) (count-on R locals)

  abbrev returned : Code
  returned = steps (sets 0 (rv_opd (it 2)) ∷ []) return

  -- the locals past the parameters
  abbrev others : List Local
  others = by_values (ty s.B ∷ ty_int w64 ∷ ty_int w64 ∷ ty_bool ∷ ty_ptr ∷ ty R ∷ [])

  abbrev body : Code
  body = steps (call s.init [] (place 2 []) ∷ sets 3 (rv_opd (int w64 0)) ∷ []) (loop-code R locals turn returned)

  abbrev pub function : Fn
  function = code_of form (ty s.B) others body

pub record Knows {M : Type 1} {𝓤 : Ura M} (𝓛 : Logic 𝓤) (s : Shape) : Type 2 where
  pub is-fold : (ys : List s.T.D) → folded s.F s.start 0 ys ≡ s.all ys
  pub plain-T : PlainType 𝓛 (D.row s.T)
  pub plain-B : PlainType 𝓛 s.B

module _ {M : Type 1} {𝓤 : Ura M} (𝓛 : Logic 𝓤) (s : Shape) (k : Knows 𝓛 s) (𝓣 : Tables 𝓤 𝓛.H) (known-init : Triple 𝓤 (𝓣.C s.init) (met (a-value s.B s.start) 𝓤 𝓛)) (known : Triple 𝓤 (𝓣.C s.f) (met (adds s) 𝓤 𝓛)) where
  -- what is carried
  open 𝓛 use {H}

  record Carried : Type 0 where
    out : s.B.Denot
    is : Is s.B out (k.plain-B.val out ∷ [])

  module _ (κ : Lft) (q : Share) (ys : Bor (List s.T.D)) (space : Room (R s) (length ys.now)) where
    abbrev Ends : Val → SProp 𝓤
    Ends = Post 𝓛 (form s) tt (κ, tt) (q, tt) (ys, tt)

    abbrev h : ℕ → s.T.D
    h i = get_or ys.now i s.empty

    abbrev Inv : ℕ → Carried → Type 0
    Inv i a = folded s.F a.out i (drop_n i ys.now) ≡ s.all ys.now

    i-fits : (i : ℕ) → i < length ys.now → i < 2 ^ 64
    i-fits i l = omega (arith, l, space.0)

    module _ (bs : Blocks (function s).locals) (q' : Share) where
      abbrev En : Env 𝓤 H
      En = lie-at 𝓤 H (function s).locals bs

      abbrev at : Places 𝓛 s.T k.plain-T (locals s) En
      at = record { ρ = _; row_is = refl; i-is = refl; n-is = refl; c-is = refl; p-is = refl; r-is = refl }

      -- the context at the test, behind the loop's own locals
      abbrev Γ : Carried → List (Item 𝓤)
      Γ a =
          opened 𝓛 s.T k.plain-T (locals s) En at κ q ys q' space s.empty ∷ Dies 𝓤 H En 7 ∷ Dies 𝓤 H En 6 ∷ Dies 𝓤 H En 5 ∷ Dies 𝓤 H En 4 ∷ Dies 𝓤 H En 3 ∷ Has 𝓤 H En 2 full_share (k.plain-B.val a.out) ∷ Dies 𝓤 H En 2 ∷ Dies 𝓤 H En 1 ∷ Free 𝓤 H En 0
          ∷ Dies 𝓤 H En 0 ∷ []

      -- [the elements; _1; _3; _4; _5; _6; _7; the open borrow: 7; _2: 13; _0: 16]
      turns : Turns 𝓛 s.T k.plain-T (locals s) En at κ q ys q' space s.empty 𝓣 Inv Γ Ends (turn s) (returned s)
      turns i a l so_far g Q _ _ on =
          calls 𝓛 (adds s) (k.plain-B, (uint 𝓛 w64, (k.plain-T, tt))) tt tt (a.out, (i, (h i, tt))) k.plain-B 𝓣 known (a.is, ((refl, i-fits i l), (g, tt))) !
          (and_then ! (var ! 14 refl) (and_then ! (var ! 3 refl) (and_then ! (var ! 7 refl) (no_more !)))) (λ r _ e _ is. land ! (from ! (stop !)) (store ! 13 refl (has k.plain-B r is)) $
          on (record { out = r; is = is }) (subst (λ (z : s.B.Denot). folded s.F z (i + 1) (drop_n (i + 1) ys.now) ≡ s.all ys.now) (sym e) (folded_on s.F s.empty ys.now i a.out l ∙ so_far)))

      ends : Stops 𝓛 s.T k.plain-T (locals s) En at κ q ys q' space s.empty 𝓣 Inv Γ Ends (returned s)
      ends i a past so_far =
          fills ! (of_opd ! (var ! 13 refl)) 16 refl (has k.plain-B a.out a.is) $ move ! (0 ∷ 7 ∷ []) $ shuts_slice ! tt (R s) q' ys.now ys.ref_ptr.0 ys.ref_ptr.1 $
          -- [the token; _1; _3; _4; _5; _6; _7; ..], and in their order again
          move ! (0 ∷ 6 ∷ 7 ∷ 5 ∷ 8 ∷ 4 ∷ 9 ∷ 3 ∷ 10 ∷ 2 ∷ 11 ∷ 12 ∷ 13 ∷ 1 ∷ []) $ ends-in ! 15 refl (cell, (cell, (cell, (cell, (cell, (cell, (room, (room, tt)))))))) $
          by ! (exits 𝓛 (form s) tt (κ, tt) (q, tt) (ys, tt) k.plain-B tt a.out _ (folded-ends s.F s.empty ys.now i a.out past ∙ so_far) tt a.is)

    walk : Walk 𝓛 (form s) tt 𝓣 (ty s.B) (others s) (body s) (κ, tt) (q, tt) (ys, tt)
    walk bs =
        -- [_7: 0; _6: 2; _5: 4; _4: 6; _3: 8; _2: 10; _1: 12; _0: 14; the token; the row]
        calls-nothing ! 𝓣 s.B k.plain-B s.start known-init (λ is. lands-in ! 10 refl (has k.plain-B s.start is) $ fills ! (of_opd ! (lit ! tt)) 8 refl (tt, record { fits = lit< tt }) $ move ! (16 ∷ 17 ∷ []) $ looks-into ! tt (R s) k.plain-T ys (λ q'.
        move ! (0 ∷ 14 ∷ 10 ∷ 8 ∷ 6 ∷ 4 ∷ 2 ∷ []) $ loops-over 𝓛 s.T k.plain-T (locals s) (lie-at 𝓤 H (function s).locals bs) (at bs q') κ q ys q' space s.empty 𝓣 Inv (Γ bs q') Ends (turn s) (returned s) (turns bs q') (ends bs q')
        0 (record { out = s.start; is = is }) (k.is-fold ys.now)))

  pub meets : Fulfils 𝓛 (form s) 𝓣 (function s)
  meets = meets-form 𝓛 (form s) tt 𝓣 (ty s.B) (others s) (body s) (λ κs qs a so. walk κs.0 qs.0 a.0 so.0)
