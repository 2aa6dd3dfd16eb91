-- A function by the kinds of its parameters. From the kinds alone come its signature, its contract, one step for a call of it, and what a walk of it begins and ends with.
-- Assumes nothing.
--     Kind             how a parameter comes: by value, as a `&[R]`, as a `&mut [R]` or as a `&mut R`
--     Form             the kinds, the type of the result, and what is said of the arguments, the result and the arguments at exit
--     slice-val, shared, mut_slice, mut-ref     the machine value of a lent slice, and what a `&[R]`, a `&mut [R]` and a `&mut R` own
--     ended_of, clauses-of, clauses-if, met, met-if     the signature with each parameter's `Kept`, the clauses and the contract, also with a `requires`
--     Plains           a `PlainType` for each parameter by value.        Sure, Facts     what is known of the arguments at a call, and at entry
--     tokens, gives, finals     what a caller hands over and gets back: a token for each lifetime, what each slice and reference owns, and its last value with its borrow (slice-last, ref-last)
--     calls, calls-if, calls_last     one step for a call, for one of a callee with a `requires`, and for one that is the last statement of its part
--     code_of          the code of such a function: its locals are the result's, the parameters' and others
--     Post, exits      what is to be shown where the function returns, and how.        Fulfils, meets-form, meets-if     a walk from the tokens and what is given shows that the function meets its contract
-- At exit nothing is had of what came by value or shared, and of a `&mut` what says its last value and its borrow, closed.
use mathlib.Core.Path.{◌≡◌, refl, sym, ap, subst}
use Prim.Native.Nat.{ℕ, zero, suc}
use mathlib.Core.List.{List, [], ◌∷◌, ◌++◌}
use lib.ListN.{length}
use seplogic.Ra.Ura.{Ura}
use mir.Syntax.{Callee, Ty, Fn, Local, local, value_local, Place, Opd as Operand, Body, named, imm, mut, seq, call}
use mir.Val.{Val}
use base.Logic.{SProp, ent, sep, emp, via, id⊢, emp∗, comm∗, mono∗, mono_l, mono_r, fst∗, snd∗, guard_i}
use base.Fml.{Fml, Lft, ftrue, fsep, flft, fres, fbor}
use prog.Wp.{Env, Loops, WpFn, Tables}
use types.Logic.{Logic, sem}
use sound.WpLaws.{fm_of, WpFn-mono}
use contract.Monad.{fact, fact_use, fact_i}
use contract.Lifetimes.{Lfts, Shares, Within, lft_at, toks}
use types.Kit.{Go, at_ret, Goal, Soaks, Item, ‵, raw, some, given, later, learn, ◌⊛◌, ⋆, push, pop, ++⊢, ⊢++, cut, runs, lands, settles, Post as After, Seq, ◌$◌, ◌∵◌, !, qed, move, drop, use1, split, pick, await, suffices, done}
use types.Run.{Opds}
use types.SemTy.{Arr, Body as Held}
use types.Hole.{Holey}
use denote.Memory.{mem}
use denote.RattleType.{RattleType, Denots, Valss, flat, owns}
use denote.Laws.{Is, Ises, Are, Spells, valss, Tellss, shows}
use denote.Ref.{Bor, MutBor, MutRef, mut_vals, mut_Tells}
use denote.Slice.{Room, slice_val, MutSlice, ShrSlice, finally, shr_slice_vals, mut_slice_vals, mut_slice_Tells, shr_slice_Tells}
use denote.Signature.{Slot, plain, mut_ref_to, mut_slice_of, shr_slice_of, types_at}
use denote.Steps.{only, peeks, heard}
use denote.Triple.End.{Fins, Outs, outs, lasts_of, all}
use denote.Triple.Clauses.{Clauses, Ended, closing}
use denote.Triple.Call.{calls_at, calls_at_last}
use denote.Triple.Statement.{Contract, Triple}
use denote.Triple.Spec.{Meets, triple_of}
use denote.Triple.Walked.{says, needs, Stays, stay_dropped, gave_ref, gave_slice, AllGo, Goes-dropped, Goes-gave_ref, Goes-gave_slice, has_of, fits_of, walk_of, ends_at, walked, walk_Meets}
use denote.Exit.{yes, left}
use Rattle.walks.proofs.Plain.{ty, PlainType, has, last, silent}
use Rattle.walks.proofs.Steps.{by_values, ref-to, slice_of, fits-slice, Blocks, lie-at, Fill, entered, enters}

-- ---- what is lent: the machine value of a slice, and what each kind of reference owns
abbrev pub slice-val : {X : Type 0} → Bor (List X) → Val
slice-val ys = slice_val ys.ref_ptr (length ys.now)

abbrev pub mut-slice-val : {X : Type 0} → MutBor (List X) → Val
mut-slice-val ys = slice_val ys.ref_ptr (length ys.now)

abbrev pub shared : (R : RattleType) → Lft → Bor (List R.Denot) → Fml
shared R κ ys = (ShrSlice (named 0) κ R).own_val ys (shr_slice_vals ys)

abbrev pub mut_slice : (R : RattleType) → Lft → MutBor (List R.Denot) → Fml
mut_slice R κ ys = (MutSlice (named 0) κ R).own_val ys (mut_slice_vals ys)

abbrev pub mut-ref : (R : RattleType) → Lft → MutBor R.Denot → Fml
mut-ref R κ y = (MutRef (named 0) κ R).own_val y (mut_vals y)

-- what is left at exit of a `&mut [R]` and of a `&mut R` that was passed: what says its last value, and its borrow, closed
abbrev pub slice-last : (R : RattleType) → Lft → MutBor (List R.Denot) → List R.Denot → Fml
slice-last R κ y ws = fsep (finally R y.ghost_name ws) (fbor κ (Held (Arr (Holey (mem R)) (length y.now)) y.ref_ptr.0 y.ref_ptr.1 y.ghost_name))

abbrev pub ref-last : (R : RattleType) → Lft → MutBor R.Denot → R.Denot → Fml
ref-last R κ y w = fsep (fres y.ghost_name (R.coded.code w)) (fbor κ (Held (mem R) y.ref_ptr.0 y.ref_ptr.1 y.ghost_name))

-- ---- the kinds, and what they make of a signature
pub data Kind (n : ℕ) : Type 2 where
  value : RattleType → Kind n
  shown : (j : ℕ) → Within n j → RattleType → Kind n
  handed : (j : ℕ) → Within n j → RattleType → Kind n
  behind : (j : ℕ) → Within n j → RattleType → Kind n

module _ {n : ℕ} where
  abbrev pub slots : List (Kind n) → List (Slot n)
  slots [] = []
  slots (value R ∷ ks) = plain (λ _. R) ∷ slots ks
  slots (shown j ok R ∷ ks) = shr_slice_of (j ∷ []) ok (plain (λ _. R)) ∷ slots ks
  slots (handed j ok R ∷ ks) = mut_slice_of (j ∷ []) ok (plain (λ _. R)) ∷ slots ks
  slots (behind j ok R ∷ ks) = mut_ref_to (j ∷ []) ok (plain (λ _. R)) ∷ slots ks

  abbrev pub param-types : List (Kind n) → List Ty
  param-types [] = []
  param-types (value R ∷ ks) = ty R ∷ param-types ks
  param-types (shown j ok R ∷ ks) = slice_of (named j) imm R ∷ param-types ks
  param-types (handed j ok R ∷ ks) = slice_of (named j) mut R ∷ param-types ks
  param-types (behind j ok R ∷ ks) = ref-to (named j) mut R ∷ param-types ks

  abbrev stays : (ks : List (Kind n)) → Stays (slots ks) (all yes (slots ks))
  stays [] = tt
  stays (value R ∷ ks) = (stay_dropped (plain (λ _. R)) yes, stays ks)
  stays (shown j ok R ∷ ks) = (stay_dropped (shr_slice_of (j ∷ []) ok (plain (λ _. R))) yes, stays ks)
  stays (handed j ok R ∷ ks) = (gave_slice (j ∷ []) ok (plain (λ _. R)), stays ks)
  stays (behind j ok R ∷ ks) = (gave_ref (j ∷ []) ok (plain (λ _. R)), stays ks)

  module _ (κs : Lfts n) where
    abbrev pub Passed : List (Kind n) → Type 0
    Passed ks = Denots (types_at (slots ks) κs)

    abbrev pub Lasting : (ks : List (Kind n)) → Passed ks → Type 0
    Lasting ks = Fins κs (slots ks) (all yes (slots ks))

    -- no slice changes its length
    abbrev pub Lens : (ks : List (Kind n)) (a : Passed ks) → Lasting ks a → Type 0
    Lens [] a ws = Unit {0}
    Lens (value R ∷ ks) a ws = Lens ks a.1 ws.1
    Lens (shown j ok R ∷ ks) a ws = Lens ks a.1 ws.1
    Lens (handed j ok R ∷ ks) a ws = (length ws.0 ≡ length a.0.now) × Lens ks a.1 ws.1
    Lens (behind j ok R ∷ ks) a ws = Lens ks a.1 ws.1

    fitting : (ks : List (Kind n)) (a : Passed ks) (ws : Lasting ks a) → Lens ks a ws → fits_of κs (slots ks) (all yes (slots ks)) (stays ks) a ws
    fitting [] a ws l = tt
    fitting (value R ∷ ks) a ws l = (tt, fitting ks a.1 ws.1 l)
    fitting (shown j ok R ∷ ks) a ws l = (tt, fitting ks a.1 ws.1 l)
    fitting (handed j ok R ∷ ks) a ws l = (l.0, fitting ks a.1 ws.1 l.1)
    fitting (behind j ok R ∷ ks) a ws l = (tt, fitting ks a.1 ws.1 l)

    -- the last values, of what is lent as `&mut` alone
    abbrev pub Ends : List (Kind n) → Type 0
    Ends [] = Unit {0}
    Ends (value R ∷ ks) = Ends ks
    Ends (shown j ok R ∷ ks) = Ends ks
    Ends (handed j ok R ∷ ks) = List R.Denot × Ends ks
    Ends (behind j ok R ∷ ks) = R.Denot × Ends ks

module _ {M : Type 1} {𝓤 : Ura M} (𝓛 : Logic 𝓤) {n : ℕ} where
  abbrev pub Plains : List (Kind n) → Type 1
  Plains [] = Unit {1}
  Plains (value R ∷ ks) = PlainType 𝓛 R × Plains ks
  Plains (shown j ok R ∷ ks) = Plains ks
  Plains (handed j ok R ∷ ks) = Plains ks
  Plains (behind j ok R ∷ ks) = Plains ks

  module _ (κs : Lfts n) where
    abbrev pub spells : (ks : List (Kind n)) → Plains ks → Spells (types_at (slots ks) κs)
    spells [] N = tt
    spells (value R ∷ ks) N = ((λ x. N.0.val x ∷ []), spells ks N.1)
    spells (shown j ok R ∷ ks) N = (shr_slice_vals, spells ks N)
    spells (handed j ok R ∷ ks) N = (mut_slice_vals, spells ks N)
    spells (behind j ok R ∷ ks) N = (mut_vals, spells ks N)

    tellings : (ks : List (Kind n)) (N : Plains ks) → Tellss (types_at (slots ks) κs) (Ises (types_at (slots ks) κs)) (spells ks N)
    tellings [] N = tt
    tellings (value R ∷ ks) N = (N.0.tells, tellings ks N.1)
    tellings (shown j ok R ∷ ks) N = (shr_slice_Tells (named j) (lft_at n j ok κs) R, tellings ks N)
    tellings (handed j ok R ∷ ks) N = (mut_slice_Tells (named j) (lft_at n j ok κs) R, tellings ks N)
    tellings (behind j ok R ∷ ks) N = (mut_Tells (named j) (lft_at n j ok κs) R, tellings ks N)

    abbrev pub machine : (ks : List (Kind n)) → Plains ks → Passed κs ks → Valss (types_at (slots ks) κs)
    machine ks N a = valss (types_at (slots ks) κs) (spells ks N) a

    -- what a caller knows of what it passes by value, and what a function knows of all that it is passed
    abbrev pub Sure : (ks : List (Kind n)) → Plains ks → Passed κs ks → Type 0
    Sure [] N a = Unit {0}
    Sure (value R ∷ ks) N a = Is R a.0 (N.0.val a.0 ∷ []) × Sure ks N.1 a.1
    Sure (shown j ok R ∷ ks) N a = Sure ks N a.1
    Sure (handed j ok R ∷ ks) N a = Sure ks N a.1
    Sure (behind j ok R ∷ ks) N a = Sure ks N a.1

    abbrev pub Facts : (ks : List (Kind n)) → Plains ks → Passed κs ks → Type 0
    Facts [] N a = Unit {0}
    Facts (value R ∷ ks) N a = Is R a.0 (N.0.val a.0 ∷ []) × Facts ks N.1 a.1
    Facts (shown j ok R ∷ ks) N a = Room R (length a.0.now) × Facts ks N a.1
    Facts (handed j ok R ∷ ks) N a = Room R (length a.0.now) × Facts ks N a.1
    Facts (behind j ok R ∷ ks) N a = Facts ks N a.1

    told : (ks : List (Kind n)) (N : Plains ks) (a : Passed κs ks) → Are (types_at (slots ks) κs) (Ises (types_at (slots ks) κs)) a (machine ks N a) → Facts ks N a
    told [] N a are = tt
    told (value R ∷ ks) N a are = (are.0, told ks N.1 a.1 are.1)
    told (shown j ok R ∷ ks) N a are = (are.0.0.1, told ks N a.1 are.1)
    told (handed j ok R ∷ ks) N a are = (are.0.0.1, told ks N a.1 are.1)
    told (behind j ok R ∷ ks) N a are = told ks N a.1 are.1

    -- each argument has the type of its local
    fitted : (ks : List (Kind n)) (N : Plains ks) (a : Passed κs ks) (rest : List Local) → Facts ks N a → Fill (by_values (param-types ks) ++ rest) (flat (types_at (slots ks) κs) (machine ks N a))
    fitted [] N a rest so = tt
    fitted (value R ∷ ks) N a rest so = (has N.0 a.0 so.0, fitted ks N.1 a.1 rest so.1)
    fitted (shown j ok R ∷ ks) N a rest so = (fits-slice so.0.0, fitted ks N a.1 rest so.1)
    fitted (handed j ok R ∷ ks) N a rest so = (fits-slice so.0.0, fitted ks N a.1 rest so.1)
    fitted (behind j ok R ∷ ks) N a rest so = ((tt, tt), fitted ks N a.1 rest so)

    abbrev pub ending : (ks : List (Kind n)) → Plains ks → (a : Passed κs ks) → Ends κs ks → Lasting κs ks a
    ending [] N a z = tt
    ending (value R ∷ ks) N a z = (last N.0 a.0, ending ks N.1 a.1 z)
    ending (shown j ok R ∷ ks) N a z = (tt, ending ks N a.1 z)
    ending (handed j ok R ∷ ks) N a z = (z.0, ending ks N a.1 z.1)
    ending (behind j ok R ∷ ks) N a z = (z.0, ending ks N a.1 z.1)

  going : (ks : List (Kind n)) → Plains ks → AllGo 𝓛 n (slots ks) (all yes (slots ks)) (stays ks)
  going [] N = tt
  going (value R ∷ ks) N = (Goes-dropped 𝓛 n (plain (λ _. R)) yes (silent {𝓛 = 𝓛} N.0 n), going ks N.1)
  going (shown j ok R ∷ ks) N = (Goes-dropped 𝓛 n (shr_slice_of (j ∷ []) ok (plain (λ _. R))) yes (λ κs x f. refl), going ks N)
  going (handed j ok R ∷ ks) N = (Goes-gave_slice 𝓛 n j ok (plain (λ _. R)), going ks N)
  going (behind j ok R ∷ ks) N = (Goes-gave_ref 𝓛 n j ok (plain (λ _. R)), going ks N)

-- ---- what a caller hands over, and what it gets back
module _ {M : Type 1} {𝓤 : Ura M} where
  abbrev pub tokens : (n : ℕ) → Lfts n → Shares n → List (Item 𝓤)
  tokens zero κs qs = []
  tokens (suc n) κs qs = ‵ (flft κs.0 qs.0) ∷ tokens n κs.1 qs.1

  module _ {n : ℕ} (κs : Lfts n) where
    abbrev pub gives : (ks : List (Kind n)) → Passed κs ks → List (Item 𝓤)
    gives [] a = []
    gives (value R ∷ ks) a = gives ks a.1
    gives (shown j ok R ∷ ks) a = ‵ (shared R (lft_at n j ok κs) a.0) ∷ gives ks a.1
    gives (handed j ok R ∷ ks) a = ‵ (mut_slice R (lft_at n j ok κs) a.0) ∷ gives ks a.1
    gives (behind j ok R ∷ ks) a = ‵ (mut-ref R (lft_at n j ok κs) a.0) ∷ gives ks a.1

    abbrev pub finals : (ks : List (Kind n)) (a : Passed κs ks) → Lasting κs ks a → List (Item 𝓤)
    finals [] a ws = []
    finals (value R ∷ ks) a ws = finals ks a.1 ws.1
    finals (shown j ok R ∷ ks) a ws = finals ks a.1 ws.1
    finals (handed j ok R ∷ ks) a ws = ‵ (slice-last R (lft_at n j ok κs) a.0 ws.0) ∷ finals ks a.1 ws.1
    finals (behind j ok R ∷ ks) a ws = ‵ (ref-last R (lft_at n j ok κs) a.0 ws.0) ∷ finals ks a.1 ws.1

module _ {M : Type 1} {𝓤 : Ura M} (𝓛 : Logic 𝓤) where
  -- a list of items behind a formula is a pair
  pub paired : (P : Fml) (Γ : List (Item 𝓤)) {Q : SProp 𝓤} → ent 𝓤 (⋆ 𝓛 Γ) Q → ent 𝓤 (⋆ 𝓛 (‵ P ∷ Γ)) (sep 𝓤 (sem 𝓛 P) Q)
  paired P Γ g = via 𝓤 (sep 𝓤 (sem 𝓛 P) (⋆ 𝓛 Γ)) (pop 𝓛 (‵ P) Γ) (mono_r 𝓤 (sem 𝓛 P) g)

  pub listed : (P : Fml) (Γ : List (Item 𝓤)) {Q R : SProp 𝓤} → ent 𝓤 R (sem 𝓛 P) → ent 𝓤 Q (⋆ 𝓛 Γ) → ent 𝓤 (sep 𝓤 R Q) (⋆ 𝓛 (‵ P ∷ Γ))
  listed P Γ h g = via 𝓤 (sep 𝓤 (sem 𝓛 P) (⋆ 𝓛 Γ)) (mono∗ 𝓤 h g) (push 𝓛 (‵ P) Γ)

  -- a part that is had for nothing, and one that is let go
  beside : {P Q R : SProp 𝓤} → ent 𝓤 (emp 𝓤) P → ent 𝓤 R Q → ent 𝓤 R (sep 𝓤 P Q)
  beside {P} {Q} {R} h g = via 𝓤 (sep 𝓤 (emp 𝓤) R) (emp∗ 𝓤 R) (mono∗ 𝓤 h g)

  without : (P : SProp 𝓤) {Q R : SProp 𝓤} → ent 𝓤 Q R → ent 𝓤 (sep 𝓤 P Q) R
  without P {Q} g = via 𝓤 Q (snd∗ 𝓤 P Q) g

  alive-of : (n : ℕ) (κs : Lfts n) (qs : Shares n) → ent 𝓤 (⋆ 𝓛 (tokens n κs qs)) (toks 𝓛 n κs qs)
  alive-of zero κs qs = id⊢ 𝓤 (emp 𝓤)
  alive-of (suc n) κs qs = paired (flft κs.0 qs.0) (tokens n κs.1 qs.1) (alive-of n κs.1 qs.1)

  tokens-of : (n : ℕ) (κs : Lfts n) (qs : Shares n) → ent 𝓤 (toks 𝓛 n κs qs) (⋆ 𝓛 (tokens n κs qs))
  tokens-of zero κs qs = id⊢ 𝓤 (emp 𝓤)
  tokens-of (suc n) κs qs = listed (flft κs.0 qs.0) (tokens n κs.1 qs.1) (id⊢ 𝓤 _) (tokens-of n κs.1 qs.1)

  module _ {n : ℕ} (κs : Lfts n) where
    owned-of : (ks : List (Kind n)) (N : Plains 𝓛 ks) (a : Passed κs ks) → Sure 𝓛 κs ks N a → ent 𝓤 (⋆ 𝓛 (gives κs ks a)) (sem 𝓛 (owns (types_at (slots ks) κs) a (machine 𝓛 κs ks N a)))
    owned-of [] N a so = id⊢ 𝓤 (emp 𝓤)
    owned-of (value R ∷ ks) N a so = beside (N.0.makes a.0 _ so.0) (owned-of ks N.1 a.1 so.1)
    owned-of (shown j ok R ∷ ks) N a so = paired (shared R (lft_at n j ok κs) a.0) (gives κs ks a.1) (owned-of ks N a.1 so)
    owned-of (handed j ok R ∷ ks) N a so = paired (mut_slice R (lft_at n j ok κs) a.0) (gives κs ks a.1) (owned-of ks N a.1 so)
    owned-of (behind j ok R ∷ ks) N a so = paired (mut-ref R (lft_at n j ok κs) a.0) (gives κs ks a.1) (owned-of ks N a.1 so)

    gives_of : (ks : List (Kind n)) (N : Plains 𝓛 ks) (a : Passed κs ks) → ent 𝓤 (sem 𝓛 (owns (types_at (slots ks) κs) a (machine 𝓛 κs ks N a))) (⋆ 𝓛 (gives κs ks a))
    gives_of [] N a = id⊢ 𝓤 (emp 𝓤)
    gives_of (value R ∷ ks) N a = without (sem 𝓛 (R.own_val a.0 (N.0.val a.0 ∷ []))) (gives_of ks N.1 a.1)
    gives_of (shown j ok R ∷ ks) N a = listed (shared R (lft_at n j ok κs) a.0) (gives κs ks a.1) (id⊢ 𝓤 _) (gives_of ks N a.1)
    gives_of (handed j ok R ∷ ks) N a = listed (mut_slice R (lft_at n j ok κs) a.0) (gives κs ks a.1) (id⊢ 𝓤 _) (gives_of ks N a.1)
    gives_of (behind j ok R ∷ ks) N a = listed (mut-ref R (lft_at n j ok κs) a.0) (gives κs ks a.1) (id⊢ 𝓤 _) (gives_of ks N a.1)

    finals-of : (ks : List (Kind n)) (a : Passed κs ks) (ws : Lasting κs ks a) → ent 𝓤 (sem 𝓛 (lasts_of κs (slots ks) (all yes (slots ks)) a ws)) (⋆ 𝓛 (finals κs ks a ws))
    finals-of [] a ws = id⊢ 𝓤 (emp 𝓤)
    finals-of (value R ∷ ks) a ws = without (sem 𝓛 (left (R.exit yes) a.0 ws.0)) (finals-of ks a.1 ws.1)
    finals-of (shown j ok R ∷ ks) a ws = without (sem 𝓛 (ftrue)) (finals-of ks a.1 ws.1)
    finals-of (handed j ok R ∷ ks) a ws =
        listed (slice-last R (lft_at n j ok κs) a.0 ws.0) (finals κs ks a.1 ws.1)
        (mono_l 𝓤 (sem 𝓛 (fbor (lft_at n j ok κs) (Held (Arr (Holey (mem R)) (length a.0.now)) a.0.ref_ptr.0 a.0.ref_ptr.1 a.0.ghost_name))) (fst∗ 𝓤 (sem 𝓛 (finally R a.0.ghost_name ws.0)) (fact 𝓤 (length ws.0 ≡ length a.0.now)))) (finals-of ks a.1 ws.1)
    finals-of (behind j ok R ∷ ks) a ws = listed (ref-last R (lft_at n j ok κs) a.0 ws.0) (finals κs ks a.1 ws.1) (id⊢ 𝓤 _) (finals-of ks a.1 ws.1)

    had-of : (ks : List (Kind n)) (vss : Valss (types_at (slots ks) κs)) (a : Passed κs ks) (ws : Lasting κs ks a) → ent 𝓤 (⋆ 𝓛 (finals κs ks a ws)) (sem 𝓛 (has_of κs (slots ks) (all yes (slots ks)) (stays ks) a ws vss))
    had-of [] vss a ws = id⊢ 𝓤 (emp 𝓤)
    had-of (value R ∷ ks) vss a ws = beside (id⊢ 𝓤 (emp 𝓤)) (had-of ks vss.1 a.1 ws.1)
    had-of (shown j ok R ∷ ks) vss a ws = beside (id⊢ 𝓤 (emp 𝓤)) (had-of ks vss.1 a.1 ws.1)
    had-of (handed j ok R ∷ ks) vss a ws = paired (slice-last R (lft_at n j ok κs) a.0 ws.0) (finals κs ks a.1 ws.1) (had-of ks vss.1 a.1 ws.1)
    had-of (behind j ok R ∷ ks) vss a ws = paired (ref-last R (lft_at n j ok κs) a.0 ws.0) (finals κs ks a.1 ws.1) (had-of ks vss.1 a.1 ws.1)

    lens-of : (ks : List (Kind n)) (a : Passed κs ks) (ws : Lasting κs ks a) → ent 𝓤 (sem 𝓛 (lasts_of κs (slots ks) (all yes (slots ks)) a ws)) (fact 𝓤 (Lens κs ks a ws))
    lens-of [] a ws = fact_i 𝓤 (Unit {0}) (emp 𝓤) tt
    lens-of (value R ∷ ks) a ws = without (sem 𝓛 (left (R.exit yes) a.0 ws.0)) (lens-of ks a.1 ws.1)
    lens-of (shown j ok R ∷ ks) a ws = without (sem 𝓛 (ftrue)) (lens-of ks a.1 ws.1)
    lens-of (handed j ok R ∷ ks) a ws =
        let P : SProp 𝓤 = sem 𝓛 (finally R a.0.ghost_name ws.0) in
        let L : SProp 𝓤 = fact 𝓤 (length ws.0 ≡ length a.0.now) in
        let B : SProp 𝓤 = sem 𝓛 (fbor (lft_at n j ok κs) (Held (Arr (Holey (mem R)) (length a.0.now)) a.0.ref_ptr.0 a.0.ref_ptr.1 a.0.ghost_name)) in
        let Q : SProp 𝓤 = sem 𝓛 (lasts_of κs (slots ks) (all yes (slots ks)) a.1 ws.1) in
        fact_use 𝓤 (length ws.0 ≡ length a.0.now) (via 𝓤 (sep 𝓤 (sep 𝓤 P L) B) (fst∗ 𝓤 (sep 𝓤 (sep 𝓤 P L) B) Q) (via 𝓤 (sep 𝓤 P L) (fst∗ 𝓤 (sep 𝓤 P L) B) (snd∗ 𝓤 P L)))
        (λ l. fact_use 𝓤 (Lens κs ks a.1 ws.1) (without (sep 𝓤 (sep 𝓤 P L) B) (lens-of ks a.1 ws.1))
        (λ ls. fact_i 𝓤 ((length ws.0 ≡ length a.0.now) × Lens κs ks a.1 ws.1) (sep 𝓤 (sep 𝓤 (sep 𝓤 P L) B) Q) (l, ls)))
    lens-of (behind j ok R ∷ ks) a ws = without (sem 𝓛 (ref-last R (lft_at n j ok κs) a.0 ws.0)) (lens-of ks a.1 ws.1)

-- ---- a form: its signature and its contract, which says something of the arguments, the result and the arguments at exit
abbrev pub Said : {n : ℕ} → List (Kind n) → RattleType → Type 1
Said {n} ks O = (κs : Lfts n) → Passed κs ks → O.Denot → Outs κs (slots ks) (all yes (slots ks)) → Type 0

pub record Form : Type 2 where
  pub lifetimes : ℕ
  pub params : List (Kind lifetimes)
  pub result : RattleType
  pub says_of : Said params result

module _ (f : Form) where
  abbrev pub ended_of : Ended
  ended_of = record { signature = record { lifetimes = f.lifetimes; outlives = []; params = slots f.params; result = plain (λ _. f.result) }; kept = all yes (slots f.params) }

  -- the code of such a function: the type of its result's local, its locals past the parameters, and its body
  abbrev pub code_of : Ty → List Local → Body → Fn
  code_of τ rest body = record { lifetimes = f.lifetimes; outlives = []; ty_params = []; givens = zero; params = length f.params; locals = local τ value_local ∷ by_values (param-types f.params) ++ rest; body = body }

  -- the arguments at exit, from the last values
  abbrev pub left_at : (κs : Lfts f.lifetimes) (a : Passed κs f.params) → Lasting κs f.params a → Outs κs (slots f.params) (all yes (slots f.params))
  left_at κs = outs κs (slots f.params) (all yes (slots f.params))

  module _ {M : Type 1} (𝓤 : Ura M) where
    abbrev pub clauses-of : Clauses 𝓤 ended_of
    clauses-of κs a = record { ghost = Unit {0}; requires = λ _. emp 𝓤; ensures = λ _ r e. fact 𝓤 (f.says_of κs a r e) }

    abbrev pub clauses-if : ((κs : Lfts f.lifetimes) → Passed κs f.params → Type 0) → Clauses 𝓤 ended_of
    clauses-if φ κs a = record { ghost = Unit {0}; requires = λ _. fact 𝓤 (φ κs a); ensures = λ _ r e. fact 𝓤 (f.says_of κs a r e) }

    abbrev pub met : (𝓛 : Logic 𝓤) → Contract 𝓤
    met 𝓛 = triple_of 𝓛 ended_of.signature (closing 𝓛 ended_of clauses-of)

    abbrev pub met-if : ((κs : Lfts f.lifetimes) → Passed κs f.params → Type 0) → (𝓛 : Logic 𝓤) → Contract 𝓤
    met-if φ 𝓛 = triple_of 𝓛 ended_of.signature (closing 𝓛 ended_of (clauses-if φ))

-- the code fn meets the form's contract, and the same with a `requires`
module _ {M : Type 1} {𝓤 : Ura M} (𝓛 : Logic 𝓤) (f : Form) where
  open 𝓛 use {H}

  abbrev pub Fulfils : Tables 𝓤 H → Fn → Type 1
  Fulfils 𝓣 fn = Meets 𝓛 (ended_of f).signature (WpFn 𝓤 H 𝓣.C 𝓣.Λ fn) (closing 𝓛 (ended_of f) (clauses-of f 𝓤))

  abbrev pub FulfilsIf : ((κs : Lfts f.lifetimes) → Passed κs f.params → Type 0) → Tables 𝓤 H → Fn → Type 1
  FulfilsIf φ 𝓣 fn = Meets 𝓛 (ended_of f).signature (WpFn 𝓤 H 𝓣.C 𝓣.Λ fn) (closing 𝓛 (ended_of f) (clauses-if f 𝓤 φ))

-- ---- a call
module _ {M : Type 1} {𝓤 : Ura M} (𝓛 : Logic 𝓤) (f : Form) (N : Plains 𝓛 f.params) (κs : Lfts f.lifetimes) (qs : Shares f.lifetimes) (a : Passed κs f.params) where
  open 𝓛 use {H}

  abbrev to-callee : (met f 𝓤 𝓛).Ghost
  to-callee = ((κs, qs, tt, a, machine 𝓛 κs f.params N a), tt)

  -- what the callee asks stands at the head while the operands are read
  abbrev pub asks : Item 𝓤
  asks = raw ((met f 𝓤 𝓛).pre to-callee)

  abbrev pub operands : List Val
  operands = flat (types_at (slots f.params) κs) (machine 𝓛 κs f.params N a)

  abbrev before : List (Item 𝓤)
  before = tokens f.lifetimes κs qs ++ gives κs f.params a

  abbrev after : Lasting κs f.params a → List (Item 𝓤)
  after ws = tokens f.lifetimes κs qs ++ finals κs f.params a ws

  abbrev lasting : Lasting κs f.params a → Fml
  lasting = lasts_of κs (slots f.params) (all yes (slots f.params)) a

  abbrev owned : SProp 𝓤
  owned = sep 𝓤 (toks 𝓛 f.lifetimes κs qs) (sem 𝓛 (owns (types_at (slots f.params) κs) a (machine 𝓛 κs f.params N a)))

  handed-over : Sure 𝓛 κs f.params N a → ent 𝓤 (⋆ 𝓛 before) owned
  handed-over so =
      let T : SProp 𝓤 = ⋆ 𝓛 (tokens f.lifetimes κs qs) in
      via 𝓤 (sep 𝓤 T (⋆ 𝓛 (gives κs f.params a))) (⊢++ 𝓛 (tokens f.lifetimes κs qs) (gives κs f.params a)) (mono∗ 𝓤 (alive-of 𝓛 f.lifetimes κs qs) (owned-of 𝓛 κs f.params N a so))

  asked : Sure 𝓛 κs f.params N a → ent 𝓤 (⋆ 𝓛 before) ((met f 𝓤 𝓛).pre to-callee)
  asked so = via 𝓤 owned (handed-over so) (via 𝓤 (sep 𝓤 (emp 𝓤) owned) (emp∗ 𝓤 owned) (comm∗ 𝓤 (emp 𝓤) owned))

  -- the same of a callee with a `requires`, where it holds
  module _ (φ : (κs : Lfts f.lifetimes) → Passed κs f.params → Type 0) where
    abbrev pub asks-if : Item 𝓤
    asks-if = raw ((met-if f 𝓤 φ 𝓛).pre to-callee)

    asked-if : Sure 𝓛 κs f.params N a → φ κs a → ent 𝓤 (⋆ 𝓛 before) ((met-if f 𝓤 φ 𝓛).pre to-callee)
    asked-if so h =
        let F : SProp 𝓤 = fact 𝓤 (φ κs a) in
        via 𝓤 owned (handed-over so) (via 𝓤 (sep 𝓤 (emp 𝓤) owned) (emp∗ 𝓤 owned) (via 𝓤 (sep 𝓤 F owned) (mono_l 𝓤 owned (fact_i 𝓤 (φ κs a) (emp 𝓤) h)) (comm∗ 𝓤 F owned)))

  returned : (ws : Lasting κs f.params a) → ent 𝓤 (sep 𝓤 (toks 𝓛 f.lifetimes κs qs) (sem 𝓛 (lasting ws))) (⋆ 𝓛 (after ws))
  returned ws =
      via 𝓤 (sep 𝓤 (⋆ 𝓛 (tokens f.lifetimes κs qs)) (⋆ 𝓛 (finals κs f.params a ws))) (mono∗ 𝓤 (tokens-of 𝓛 f.lifetimes κs qs) (finals-of 𝓛 κs f.params a ws))
      (++⊢ 𝓛 (tokens f.lifetimes κs qs) (finals κs f.params a ws))

  module _ (P : PlainType 𝓛 f.result) where
    -- what a caller goes on with, at a goal that depends on the result's machine value
    abbrev Goes_on : Type 0 → List (Item 𝓤) → (Val → Goal 𝓤 H) → Type 1
    Goes_on K Γ Aim = (r : f.result.Denot) (ws : Lasting κs f.params a) → f.says_of κs a r (left_at f κs a ws) → Lens κs f.params a ws → Is f.result r (P.val r ∷ []) → Seq K 𝓛 (after ws ++ Γ) (Aim (P.val r))

    comes_back : {K : Type 0} {Γ : List (Item 𝓤)} → K → (Aim : Val → Goal 𝓤 H) → ((w : Val) → Soaks (Aim w)) → Goes_on K Γ Aim → (w : Val) → Seq K 𝓛 (raw ((met f 𝓤 𝓛).post to-callee w) ∷ Γ) (Aim w)
    comes_back {K} {Γ} t Aim soaks k w =
        use1 𝓛 (later (some (λ (r : f.result.Denot). (raw (toks 𝓛 f.lifetimes κs qs) ⊛ ‵ (f.result.own_val r (w ∷ []))) ⊛ some (λ (ws : Lasting κs f.params a). ‵ (lasting ws) ⊛ raw (fact 𝓤 (f.says_of κs a r (left_at f κs a ws))))))) (id⊢ 𝓤 _) $
        await t (soaks w) $ pick t (λ r. split t $ move t (1 ∷ []) $ pick t (λ ws. split t $ move t (1 ∷ []) $ heard t (f.says_of κs a r (left_at f κs a ws)) (λ e.
        use1 𝓛 (given (Lens κs f.params a ws) (‵ (lasting ws))) (fact_use 𝓤 (Lens κs f.params a ws) (lens-of 𝓛 κs f.params a ws) (guard_i 𝓤 (Lens κs f.params a ws) (sem 𝓛 (lasting ws)))) $ learn t (λ ls.
        -- [the last values; the tokens and the result]
        move t (1 ∷ []) $ split t $ move t (1 ∷ []) $ peeks t f.result (Is f.result) (shows 𝓛 f.result) r (w ∷ []) (λ is. drop t $
        cut (raw (toks 𝓛 f.lifetimes κs qs) ∷ ‵ (lasting ws) ∷ []) (after ws) Γ (returned ws) $
        subst (λ (v : Val). Seq K 𝓛 (after ws ++ Γ) (Aim v)) (sym (ap only (P.tells r (w ∷ []) is))) (k r ws e ls (subst (Is f.result r) (P.tells r (w ∷ []) is) is)))))))

    module _ {K : Type 0} {Γ : List (Item 𝓤)} {E : Env 𝓤 H} (𝓣 : Tables 𝓤 H) {g : Callee} (known : Triple 𝓤 (𝓣.C g) (met f 𝓤 𝓛)) (so : Sure 𝓛 κs f.params N a) {xs : List Operand} {Λ : Loops 𝓤 H} {q : After 𝓤 H} {d : Place} where
      pub calls : K → {rest : Body} → Opds K 𝓛 (asks ∷ Γ) E xs operands → Goes_on K Γ (λ v. lands 𝓣.C Λ E d v rest q) → Seq K 𝓛 (before ++ Γ) (runs 𝓣.C Λ E (seq (call g xs d) rest) q)
      calls t {rest} opds k = cut before (asks ∷ []) Γ (asked so) $ calls_at t (fm_of 𝓤 H 𝓛.laws 𝓣) (met f 𝓤 𝓛) known to-callee opds (comes_back t (λ v. lands 𝓣.C Λ E d v rest q) (λ _. tt) k)

      pub calls_last : K → Opds K 𝓛 (asks ∷ Γ) E xs operands → Goes_on K Γ (λ v. settles E d v q) → Seq K 𝓛 (before ++ Γ) (runs 𝓣.C Λ E (call g xs d) q)
      calls_last t opds k = cut before (asks ∷ []) Γ (asked so) $ calls_at_last t (fm_of 𝓤 H 𝓛.laws 𝓣) (met f 𝓤 𝓛) known to-callee opds (comes_back t (λ v. settles E d v q) (λ _. tt) k)

    module _ {K : Type 0} {Γ : List (Item 𝓤)} {E : Env 𝓤 H} (𝓣 : Tables 𝓤 H) {g : Callee} (φ : (κs : Lfts f.lifetimes) → Passed κs f.params → Type 0) (known : Triple 𝓤 (𝓣.C g) (met-if f 𝓤 φ 𝓛)) (h : φ κs a) (so : Sure 𝓛 κs f.params N a) {xs : List Operand} {Λ : Loops 𝓤 H} {q : After 𝓤 H} {d : Place} where
      pub calls-if : K → {rest : Body} → Opds K 𝓛 (asks-if φ ∷ Γ) E xs operands → Goes_on K Γ (λ v. lands 𝓣.C Λ E d v rest q) → Seq K 𝓛 (before ++ Γ) (runs 𝓣.C Λ E (seq (call g xs d) rest) q)
      calls-if t {rest} opds k = cut before (asks-if φ ∷ []) Γ (asked-if φ so h) $ calls_at t (fm_of 𝓤 H 𝓛.laws 𝓣) (met-if f 𝓤 φ 𝓛) known to-callee opds (comes_back t (λ v. lands 𝓣.C Λ E d v rest q) (λ _. tt) k)

-- ---- a walk: what it begins with, and what it ends with
module _ {M : Type 1} {𝓤 : Ura M} (𝓛 : Logic 𝓤) (f : Form) (N : Plains 𝓛 f.params) where
  open 𝓛 use {H}

  module _ (κs : Lfts f.lifetimes) (qs : Shares f.lifetimes) (a : Passed κs f.params) where
    -- a function's `requires` is no part of it
    abbrev pub Post : Val → SProp 𝓤
    Post = (walk_of 𝓛 (ended_of f) (stays f.params) (clauses-of f 𝓤)).post ((κs, qs, tt, a, machine 𝓛 κs f.params N a), tt)

    -- at the last values z of what is lent as `&mut`
    pub exits : (P : PlainType 𝓛 f.result) (z : Ends κs f.params) (r : f.result.Denot) (v : Val) → f.says_of κs a r (left_at f κs a (ending 𝓛 κs f.params N a z)) → Lens κs f.params a (ending 𝓛 κs f.params N a z)
        → Is f.result r (v ∷ []) → ent 𝓤 (⋆ 𝓛 (tokens f.lifetimes κs qs ++ finals κs f.params a (ending 𝓛 κs f.params N a z))) (Post v)
    exits P z r v e ls is =
        let ws : Lasting κs f.params a = ending 𝓛 κs f.params N a z in
        let X : SProp 𝓤 = ⋆ 𝓛 (finals κs f.params a ws) in
        let Y : SProp 𝓤 = sem 𝓛 (has_of κs (slots f.params) (all yes (slots f.params)) (stays f.params) a ws (machine 𝓛 κs f.params N a)) in
        let O : SProp 𝓤 = sem 𝓛 (f.result.own_val r (v ∷ [])) in
        via 𝓤 (sep 𝓤 (⋆ 𝓛 (tokens f.lifetimes κs qs)) X) (⊢++ 𝓛 (tokens f.lifetimes κs qs) (finals κs f.params a ws))
        (via 𝓤 (sep 𝓤 (toks 𝓛 f.lifetimes κs qs) (sep 𝓤 Y O))
        (mono∗ 𝓤 (alive-of 𝓛 f.lifetimes κs qs) (via 𝓤 Y (had-of 𝓛 κs f.params (machine 𝓛 κs f.params N a) a ws) (via 𝓤 (sep 𝓤 O Y) (beside 𝓛 (P.makes r (v ∷ []) is) (id⊢ 𝓤 Y)) (comm∗ 𝓤 O Y))))
        (qed 𝓛 (raw (sep 𝓤 (toks 𝓛 f.lifetimes κs qs) (sep 𝓤 Y O)) ∷ []) ∵ suffices ! _ (ends_at 𝓛 (ended_of f) (stays f.params) (clauses-of f 𝓤) ((κs, qs, tt, a, machine 𝓛 κs f.params N a), tt) v r ws (fitting κs f.params a ws ls)) $ says ! e $ done !))

  module _ (𝓣 : Tables 𝓤 H) (τ : Ty) (rest : List Local) (body : Body) where
    -- from the arguments in their locals, room for the others, the tokens and what is given
    abbrev pub Walk : (κs : Lfts f.lifetimes) → Shares f.lifetimes → Passed κs f.params → Type 1
    Walk κs qs a = (bs : Blocks (code_of f τ rest body).locals) → Seq (Go {0}) 𝓛 (entered (code_of f τ rest body).locals bs (operands 𝓛 f N κs qs a) (tokens f.lifetimes κs qs ++ gives κs f.params a))
        (runs 𝓣.C 𝓣.Λ (lie-at 𝓤 H (code_of f τ rest body).locals bs) body (at_ret (lie-at 𝓤 H (code_of f τ rest body).locals bs) (Post κs qs a)))

    begun : (κs : Lfts f.lifetimes) (qs : Shares f.lifetimes) (a : Passed κs f.params) → Facts 𝓛 κs f.params N a → Walk κs qs a
        → ent 𝓤 (sep 𝓤 (toks 𝓛 f.lifetimes κs qs) (sem 𝓛 (owns (types_at (slots f.params) κs) a (machine 𝓛 κs f.params N a)))) (WpFn 𝓤 H 𝓣.C 𝓣.Λ (code_of f τ rest body) (operands 𝓛 f N κs qs a) (Post κs qs a))
    begun κs qs a so walk =
        via 𝓤 (sep 𝓤 (⋆ 𝓛 (tokens f.lifetimes κs qs)) (⋆ 𝓛 (gives κs f.params a))) (mono∗ 𝓤 (tokens-of 𝓛 f.lifetimes κs qs) (gives_of 𝓛 κs f.params N a))
        (via 𝓤 (⋆ 𝓛 (tokens f.lifetimes κs qs ++ gives κs f.params a)) (++⊢ 𝓛 (tokens f.lifetimes κs qs) (gives κs f.params a))
        (qed 𝓛 (tokens f.lifetimes κs qs ++ gives κs f.params a) ∵ enters (code_of f τ rest body) (operands 𝓛 f N κs qs a) ! (fitted 𝓛 κs f.params N a rest so) walk))

    pub meets-form : ((κs : Lfts f.lifetimes) (qs : Shares f.lifetimes) (a : Passed κs f.params) → Facts 𝓛 κs f.params N a → Walk κs qs a) → Fulfils 𝓛 f 𝓣 (code_of f τ rest body)
    meets-form walk =
        walk_Meets 𝓛 (ended_of f) (stays f.params) (going 𝓛 f.params N) (clauses-of f 𝓤) (WpFn 𝓤 H 𝓣.C 𝓣.Λ (code_of f τ rest body)) (WpFn-mono 𝓤 H 𝓛.laws 𝓣 (code_of f τ rest body))
        (walked 𝓛 (ended_of f) (stays f.params) (clauses-of f 𝓤) (WpFn 𝓤 H 𝓣.C 𝓣.Λ (code_of f τ rest body)) (λ κs. spells 𝓛 κs f.params N) (λ κs. tellings 𝓛 κs f.params N)
        (λ κs qs _ a _ are. via 𝓤 _ (fst∗ 𝓤 _ (emp 𝓤)) (begun κs qs a (told 𝓛 κs f.params N a are) (walk κs qs a (told 𝓛 κs f.params N a are)))))

    -- the same with a `requires`
    pub meets-if : (φ : (κs : Lfts f.lifetimes) → Passed κs f.params → Type 0) → ((κs : Lfts f.lifetimes) (qs : Shares f.lifetimes) (a : Passed κs f.params) → Facts 𝓛 κs f.params N a → φ κs a → Walk κs qs a) → FulfilsIf 𝓛 f φ 𝓣 (code_of f τ rest body)
    meets-if φ walk =
        walk_Meets 𝓛 (ended_of f) (stays f.params) (going 𝓛 f.params N) (clauses-if f 𝓤 φ) (WpFn 𝓤 H 𝓣.C 𝓣.Λ (code_of f τ rest body)) (WpFn-mono 𝓤 H 𝓛.laws 𝓣 (code_of f τ rest body))
        (walked 𝓛 (ended_of f) (stays f.params) (clauses-if f 𝓤 φ) (WpFn 𝓤 H 𝓣.C 𝓣.Λ (code_of f τ rest body)) (λ κs. spells 𝓛 κs f.params N) (λ κs. tellings 𝓛 κs f.params N)
        (λ κs qs _ a _ are. needs 𝓤 (φ κs a) _ (λ h. begun κs qs a (told 𝓛 κs f.params N a are) (walk κs qs a (told 𝓛 κs f.params N a are) h))))
