-- The shape LendsShared: a part of a local array is shown to a function over a shared row.
-- Assumes nothing.
--     fn g(boards: [T; N], n: usize) -> O { f(&boards[..n]) }        requires n ≤ N
-- T is a declared struct of plain fields and O is plain. f says `r ≡ F (now row.entry)`. g says `r ≡ all boards n`. g's parameters are plain, so whoever calls it needs no walk.
--     Shape, Knows     what g is made of; what the contract says, and what is to be known of the types
--     function, form   g's MIR, and its form.        meets     g's MIR fulfils that form wherever its callees fulfil theirs
use mathlib.Core.Path.{◌≡◌, refl, ◌∙◌}
use Prim.Native.Nat.{ℕ, ◌≤◌}
use mathlib.Core.List.{[], ◌∷◌, List}
use lib.ListN.{take}
use seplogic.Ra.Ura.{Ura}
use base.Fraction.{full_share}
use mir.Syntax.{Callee, Fn, erased, imm, w64, place, local, memory_slot, call, return, rv_opd, Local, Body}
use prog.Wp.{Tables}
use types.Logic.{Logic}
use types.Kit.{◌$◌, !, by, move}
use types.Run.{of_opd, and_then, no_more}
use denote.RattleType.{RattleType}
use denote.Laws.{Is}
use denote.Array.{Array}
use denote.Builtin.{usize}
use denote.Slice.{Room}
use denote.Struct.Declared as D
use denote.Triple.Statement.{Triple}
use Rattle.walks.proofs.Plain.{ty, PlainType, has, uint, array}
use Rattle.walks.proofs.Walk.{cell}
use Rattle.walks.proofs.Steps.{it, sets, steps, by_values, ref-to, slice_of, firsts-of, fits-slice, var, fills, lands-in, takes-firsts, ends-in}
use Rattle.walks.proofs.Form.{Form, code_of, value, Plains, FulfilsIf, met, calls, exits, Walk, meets-if}
use Rattle.walks.proofs.Callee.{of-slice}
use Rattle.walks.proofs.LendArray.{first-many, first-room, first-shown, shows_first, shown-home}

pub record Shape : Type 2 where
  -- the record, the answer and the array's length
  pub T : D.Declared
  pub O : RattleType
  pub N : ℕ
  pub f : Callee
  -- what f's contract says, and what g's says
  pub F : List T.D → O.Denot
  pub all : List T.D → ℕ → O.Denot

module _ (s : Shape) where
  abbrev R : RattleType
  R = D.row s.T

  abbrev Arr : RattleType
  Arr = Array R s.N

  abbrev pub form : Form
  form = record { lifetimes = 0; params = value Arr ∷ value usize ∷ []; result = s.O; says_of = λ κs a r e. r ≡ s.all a.0 a.1.0 }

  -- the locals past the parameters
  abbrev others : List Local
  others = local (ty Arr) memory_slot ∷ by_values (ref-to erased imm Arr ∷ slice_of erased imm R ∷ [])

  abbrev body : Body
  body = steps (sets 3 (rv_opd (it 1)) ∷ []) (steps (firsts-of 3 4 5 (it 2)) (steps (call s.f (it 5 ∷ []) (place 0 []) ∷ []) return))

  abbrev pub function : Fn
  function = code_of form (ty s.O) others body

pub record Knows {M : Type 1} {𝓤 : Ura M} (𝓛 : Logic 𝓤) (s : Shape) : Type 2 where
  pub says_all : (ys : List s.T.D) (n : ℕ) → s.F (take n ys) ≡ s.all ys n
  pub room : Room (D.row s.T) s.N
  pub plain-T : PlainType 𝓛 (D.row s.T)
  pub plain-O : PlainType 𝓛 s.O

module _ {M : Type 1} {𝓤 : Ura M} (𝓛 : Logic 𝓤) (s : Shape) (k : Knows 𝓛 s) (𝓣 : Tables 𝓤 𝓛.H) (known : Triple 𝓤 (𝓣.C s.f) (met (of-slice s.O (R s) s.F) 𝓤 𝓛)) where
  abbrev At : PlainType 𝓛 (Arr s)
  At = array 𝓛 (R s) k.plain-T s.N

  abbrev N : Plains 𝓛 (form s).params
  N = (At, (uint 𝓛 w64, tt))

  walk : (ys : List s.T.D) (n : ℕ) → Is (Arr s) ys (At.val ys ∷ []) → Is usize n ((uint 𝓛 w64).val n ∷ []) → n ≤ s.N → Walk 𝓛 (form s) N 𝓣 (ty s.O) (others s) (body s) tt tt (ys, (n, tt))
  walk ys n is_a n-is few bs =
      -- [_5: 0; _4: 2; _3: 4; _2: 6; _1: 8; _0: 10]
      fills ! (of_opd ! (var ! 8 refl)) 4 refl (has At ys is_a) $ takes-firsts ! 2 0 refl (tt, tt) (first-many ys n s.N is_a.1.0.1 few) refl (var ! 6 refl) refl (fits-slice (first-room (R s) ys n s.N k.room is_a.1.0.1 few).0) $
      move ! (4 ∷ []) $ shows_first (R s) k.plain-T s.N bs.1.1.1.0 ys n ! tt tt is_a (first-room (R s) ys n s.N k.room is_a.1.0.1 few) (λ ν.
      -- [ν's token; the slice; what the lender keeps; _5: 3; ..]
      calls 𝓛 (of-slice s.O (R s) s.F) tt (ν ∷ [], tt) (full_share, tt) (first-shown (R s) s.N bs.1.1.1.0 (take n ys), tt) k.plain-O 𝓣 known tt ! (and_then ! (var ! 2 refl) (no_more !)) (λ r _ e _ is. lands-in ! 11 refl (has k.plain-O r is) $
      shown-home (R s) k.plain-T s.N bs.1.1.1.0 ys n ! tt ν is_a.1.0.1 (λ _. move ! (1 ∷ 2 ∷ 3 ∷ 4 ∷ 0 ∷ []) $ ends-in ! 10 refl (cell, (cell, (cell, (cell, (cell, (cell, tt)))))) $
      by ! (exits 𝓛 (form s) N tt tt (ys, (n, tt)) k.plain-O tt r _ (e ∙ k.says_all ys n) tt is))))

  pub meets : FulfilsIf 𝓛 (form s) (λ κs a. a.1.0 ≤ s.N) 𝓣 (function s)
  meets = meets-if 𝓛 (form s) N 𝓣 (ty s.O) (others s) (body s) (λ κs a. a.1.0 ≤ s.N) (λ κs qs a so few. walk a.0 a.1.0 so.0 so.1.0 few)
