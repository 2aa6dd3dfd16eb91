-- All locals of a function as one item of a context, so that a walk goes over any list of parameters: a local is named by a number that need not be written out.
-- Assumes nothing.
--     Store, put       what the locals hold, by number, and the same with one local changed.        Same     nothing before the k-th local has changed
--     Layout, frame    the blocks of the locals, and that each is a cell where the store has a value and room where it has none
--     Local-is, Locals-are, past     a local is there and has a type, so have several in a row, and the number after them
--     Known            a local before the k-th has a type and holds a value.        still     it stays so where only locals from the k-th on change
--     var-in, vars-in, len-in, ptr-in, points-in     what is read: a local, several as the operands of a call, the length of a slice and where it begins, and what a reference points to
--     sets-in, slice_in, lands-in, returns-in     one step for an assignment to a local, for a slice that is handed on by way of two, for the landing of a call's result, and for the end of a function
--     start, gathers   what the locals hold where a body begins, and the context there as the frame beside what is given.        turns     one step to a context in other words
use mathlib.Core.Path.{◌≡◌, refl, sym, ◌∙◌, ap, subst}
use Prim.Native.Nat.{ℕ, zero, suc, ◌<◌, ◌≤◌, ◌+◌}
use native.Mathlib.Nat.{not-suc-le-zero, le_of_suc-le-suc}
use native.Mathlib.Omega.{arith}
use mathlib.Core.List.{List, [], ◌∷◌, ◌++◌}
use mathlib.Core.Option.{Option, none, some}
use lib.Dec.{T as Holds}
use lib.ListN.{get_or}
use seplogic.Ra.Ura.{Ura}
use base.Fraction.{full_share}
use mir.Syntax.{Ty, ty_enum, ttnil, Local, local, Sym, Tys, ty_struct, w64, Rv as RValue, addr_of, deref, field, Body, place, seq, return}
use mir.Val.{Val, Vals, WT, has_ty, vint, vptr, vstruct}
use mir.Fields.{get_v}
use base.Logic.{SProp, ent, sep, wand, emp, all, via, id⊢, comm∗, assoc∗, assoc', mono∗, mono_l, mono_r, snd∗, emp∗, wand_i, all_i}
use base.Fml.{froom, fdies, fat}
use prog.Memory.{field_at, field_of}
use prog.Wp.{Heap, Calls, Loops, spot_of, release, at_return, returns as returned}
use types.Logic.{Logic}
use sound.Laws.{Laws}
use types.Kit.{Item, ‵, raw, ◌⊛◌, ⋆, nth, pop, Post, post, Goal, runs, lands, Seq, Step, step, ◌$◌, ◌∵◌, !, qed, by, use1, use2, split, check, assume, frame as frames}
use types.Run.{Rv, Opd, Opds, Reads, Writes, Finds, from, stop, fld, hop, load, addr, and_then, no_more, assigns, land, returns_within}
use types.Part.{Part, sub, look_in, agg}
use denote.RattleType.{RattleType}
use denote.Slice.{slice_ty, slice_val}
use Rattle.walks.proofs.Steps.{it, its, len_of, ptr_of, sets, steps, by_values, hands_to, Blocks, lie-at, filled, entered}

-- ---- numbers
pub itself : (k : ℕ) → k ≤ k
itself k = omega arith

pub up_to : {i j k : ℕ} → i ≤ j → j ≤ k → i ≤ k
up_to l m = omega (arith, l, m)

pub one_more : (k : ℕ) → k ≤ suc k
one_more k = omega arith

pub less : {k k' : ℕ} → suc k ≤ k' → k ≤ k'
less l = omega (arith, l)

-- the number after so many
abbrev pub past {ℓ} : {X : Type ℓ} → List X → ℕ → ℕ
past [] i = i
past (x ∷ xs) i = past xs (suc i)

pub past-le {ℓ} : {X : Type ℓ} (xs : List X) (i : ℕ) → i ≤ past xs i
past-le [] i = itself i
past-le (x ∷ xs) i = less (past-le xs (suc i))

pub past-both {ℓ} : {X : Type ℓ} (xs ys : List X) (i : ℕ) → past (xs ++ ys) i ≡ past ys (past xs i)
past-both [] ys i = refl
past-both (x ∷ xs) ys i = past-both xs ys (suc i)

-- ---- what the locals hold
abbrev pub Store : Type 0
Store = ℕ → Option Val

abbrev pub put : ℕ → Option Val → Store → Store
put zero u us zero = u
put zero u us (suc n) = us (suc n)
put (suc i) u us zero = us zero
put (suc i) u us (suc n) = put i u (λ m. us (suc m)) n

pub put-here : (i : ℕ) (u : Option Val) (us : Store) → put i u us i ≡ u
put-here zero u us = refl
put-here (suc i) u us = put-here i u (λ m. us (suc m))

put-as-is : (i : ℕ) (us : Store) (n : ℕ) → put i (us i) us n ≡ us n
put-as-is zero us zero = refl
put-as-is zero us (suc n) = refl
put-as-is (suc i) us zero = refl
put-as-is (suc i) us (suc n) = put-as-is i (λ m. us (suc m)) n

-- nothing before the k-th local has changed
abbrev pub Same : ℕ → Store → Store → Type 0
Same k us vs = (n : ℕ) → n < k → vs n ≡ us n

pub put_same : (k : ℕ) (u : Option Val) (us : Store) → Same k us (put k u us)
put_same zero u us n l = absurd (not-suc-le-zero l)
put_same (suc k) u us zero l = refl
put_same (suc k) u us (suc n) l = put_same k u (λ m. us (suc m)) n (le_of_suc-le-suc l)

pub then_same : {k k' : ℕ} {us vs ws : Store} → k ≤ k' → Same k us vs → Same k' vs ws → Same k us ws
then_same l s t n b = t n (up_to b l) ∙ s n b

-- ---- the frame
-- the blocks of the locals, each with its type
abbrev pub Layout : Type 0
Layout = List (Ty × ℕ)

abbrev pub Inside : Layout → ℕ → Type 0
Inside [] i = ⊥
Inside (e ∷ E) zero = Unit {0}
Inside (e ∷ E) (suc i) = Inside E i

-- as the logic has it for a local that is not there
abbrev nowhere : Ty × ℕ
nowhere = (ty_enum [] ttnil, zero)

module _ {M : Type 1} (𝓤 : Ura M) (H : Heap 𝓤) where
  abbrev spot : Ty × ℕ → Option Val → SProp 𝓤
  spot e none = sep 𝓤 (H.room e.0 e.1 zero) (H.dies e.0 e.1)
  spot e (some v) = sep 𝓤 (H.at full_share e.0 e.1 zero v) (H.dies e.0 e.1)

  unfoldable pub frame : Layout → Store → SProp 𝓤
  frame [] us = emp 𝓤
  frame (e ∷ E) us = sep 𝓤 (spot e (us zero)) (frame E (λ n. us (suc n)))

  -- one local, and all others
  abbrev at_local : Layout → ℕ → Option Val → SProp 𝓤
  at_local E i u = spot (get_or E i nowhere) u

  unfoldable others : ℕ → Layout → Store → SProp 𝓤
  others i [] us = emp 𝓤
  others zero (e ∷ E) us = frame E (λ n. us (suc n))
  others (suc i) (e ∷ E) us = sep 𝓤 (spot e (us zero)) (others i E (λ n. us (suc n)))

  swapped : (P Q R : SProp 𝓤) → ent 𝓤 (sep 𝓤 P (sep 𝓤 Q R)) (sep 𝓤 Q (sep 𝓤 P R))
  swapped P Q R = via 𝓤 (sep 𝓤 (sep 𝓤 P Q) R) (assoc' 𝓤 P Q R) (via 𝓤 (sep 𝓤 (sep 𝓤 Q P) R) (mono_l 𝓤 R (comm∗ 𝓤 P Q)) (assoc∗ 𝓤 Q P R))

  taken : (E : Layout) (us : Store) (i : ℕ) → Inside E i → ent 𝓤 (frame E us) (sep 𝓤 (at_local E i (us i)) (others i E us))
  unfolding frame others
  taken [] us i h = absurd h
  taken (e ∷ E) us zero h = id⊢ 𝓤 _
  taken (e ∷ E) us (suc i) h =
      let ts : Store = λ n. us (suc n) in
      via 𝓤 (sep 𝓤 (spot e (us zero)) (sep 𝓤 (at_local E i (ts i)) (others i E ts))) (mono_r 𝓤 (spot e (us zero)) (taken E ts i h)) (swapped (spot e (us zero)) (at_local E i (ts i)) (others i E ts))

  back : (E : Layout) (us : Store) (i : ℕ) (u : Option Val) → Inside E i → ent 𝓤 (sep 𝓤 (at_local E i u) (others i E us)) (frame E (put i u us))
  unfolding frame others
  back [] us i u h = absurd h
  back (e ∷ E) us zero u h = id⊢ 𝓤 _
  back (e ∷ E) us (suc i) u h =
      let ts : Store = λ n. us (suc n) in
      via 𝓤 (sep 𝓤 (spot e (us zero)) (sep 𝓤 (at_local E i u) (others i E ts))) (swapped (at_local E i u) (spot e (us zero)) (others i E ts)) (mono_r 𝓤 (spot e (us zero)) (back E ts i u h))

  -- a cell is room too
  emptied : Laws 𝓤 H → (e : Ty × ℕ) (u : Option Val) → ent 𝓤 (spot e u) (spot e none)
  emptied L e none = id⊢ 𝓤 _
  emptied L e (some v) = mono_l 𝓤 (H.dies e.0 e.1) (L.at_room e.0 e.1 zero v)

  freed : Laws 𝓤 H → (E : Layout) (us : Store) (P : SProp 𝓤) → ent 𝓤 (sep 𝓤 (frame E us) P) (release 𝓤 H E P)
  unfolding frame
  freed L [] us P = snd∗ 𝓤 (emp 𝓤) P
  freed L (e ∷ E) us P =
      let ts : Store = λ n. us (suc n) in
      via 𝓤 (sep 𝓤 (spot e (us zero)) (sep 𝓤 (frame E ts) P)) (assoc∗ 𝓤 (spot e (us zero)) (frame E ts) P) (mono∗ 𝓤 (emptied L e (us zero)) (freed L E ts P))

-- ---- the types of the locals, and what is known of one
pub record Local-is (E : Layout) (i : ℕ) (τ : Ty) : Type 0 where
  pub inside : Inside E i
  pub type-is : (get_or E i nowhere).0 ≡ τ

abbrev pub Locals-are : Layout → ℕ → List Local → Type 0
Locals-are E i [] = Unit {0}
Locals-are E i (local τ h ∷ ls) = Local-is E i τ × Locals-are E (suc i) ls

further : (e : Ty × ℕ) (E : Layout) (i : ℕ) (ls : List Local) → Locals-are E i ls → Locals-are (e ∷ E) (suc i) ls
further e E i [] are = tt
further e E i (local τ h ∷ ls) are = (record { inside = are.0.inside; type-is = are.0.type-is }, further e E (suc i) ls are.1)

pub laid : {M : Type 1} (𝓤 : Ura M) (H : Heap 𝓤) (ls : List Local) (bs : Blocks ls) → Locals-are (lie-at 𝓤 H ls bs) zero ls
laid 𝓤 H [] bs = tt
laid 𝓤 H (local τ h ∷ ls) bs = (record { inside = tt; type-is = refl }, further (τ, bs.0) (lie-at 𝓤 H ls bs.1) zero ls (laid 𝓤 H ls bs.1))

pub parted : (E : Layout) (i : ℕ) (ls ms : List Local) → Locals-are E i (ls ++ ms) → Locals-are E i ls × Locals-are E (past ls i) ms
parted E i [] ms are = (tt, are)
parted E i (local τ h ∷ ls) ms are = let rest = parted E (suc i) ls ms are.1 in ((are.0, rest.0), rest.1)

pub record Known (E : Layout) (us : Store) (k i : ℕ) (τ : Ty) (v : Val) : Type 0 where
  pub before : i < k
  pub is : Local-is E i τ
  pub has : us i ≡ some v

pub still : {E : Layout} {us vs : Store} {k k' i : ℕ} {τ : Ty} {v : Val} → Same k us vs → k ≤ k' → Known E us k i τ v → Known E vs k' i τ v
still {i = i} s l h = record { before = up_to h.before l; is = h.is; has = s i h.before ∙ h.has }

pub newly : {E : Layout} {k : ℕ} {τ : Ty} (v : Val) (us : Store) → Local-is E k τ → Known E (put k (some v) us) (suc k) k τ v
newly {k = k} v us is = record { before = itself (suc k); is = is; has = put-here k (some v) us }

-- values in locals, as the operands of a call ask for them
abbrev pub Lie : Layout → Store → List ℕ → List Val → Type 0
Lie E us [] [] = Unit {0}
Lie E us [] (v ∷ vs) = ⊥
Lie E us (i ∷ is) [] = ⊥
Lie E us (i ∷ is) (v ∷ vs) = (Inside E i × (us i ≡ some v)) × Lie E us is vs

pub lies : {E : Layout} {us vs : Store} {k i : ℕ} {τ : Ty} {v : Val} → Same k us vs → Known E us k i τ v → Inside E i × (vs i ≡ some v)
lies {i = i} s h = (h.is.inside, s i h.before ∙ h.has)

-- ---- the context in which a body begins: the first so many locals after the result's hold values
abbrev firsts : List Val → Store
firsts [] n = none
firsts (v ∷ vs) zero = some v
firsts (v ∷ vs) (suc n) = firsts vs n

abbrev pub start : List Val → Store
start vs zero = none
start vs (suc n) = firsts vs n

module _ {M : Type 1} {𝓤 : Ura M} (𝓛 : Logic 𝓤) where
  open 𝓛 use {H}

  joined : (E : Layout) (us : Store) (F P : SProp 𝓤) (τ : Ty) (b : ℕ) (Γ : List (Item 𝓤)) → ent 𝓤 F (sep 𝓤 (frame 𝓤 H E us) (sep 𝓤 P (⋆ 𝓛 (‵ (fdies τ b) ∷ Γ)))) → ent 𝓤 F (sep 𝓤 (sep 𝓤 (sep 𝓤 P (H.dies τ b)) (frame 𝓤 H E us)) (⋆ 𝓛 Γ))
  joined E us F P τ b Γ h =
      let G : SProp 𝓤 = frame 𝓤 H E us in
      let D : SProp 𝓤 = H.dies τ b in
      let R : SProp 𝓤 = ⋆ 𝓛 Γ in
      via 𝓤 (sep 𝓤 G (sep 𝓤 P (⋆ 𝓛 (‵ (fdies τ b) ∷ Γ)))) h (via 𝓤 (sep 𝓤 G (sep 𝓤 (sep 𝓤 P D) R)) (mono_r 𝓤 G (via 𝓤 (sep 𝓤 P (sep 𝓤 D R)) (mono_r 𝓤 P (pop 𝓛 (‵ (fdies τ b)) Γ)) (assoc' 𝓤 P D R)))
      (via 𝓤 (sep 𝓤 (sep 𝓤 P D) (sep 𝓤 G R)) (swapped 𝓤 H G (sep 𝓤 P D) R) (assoc' 𝓤 (sep 𝓤 P D) G R)))

  grows : (ls : List Local) (bs : Blocks ls) (vs : List Val) (Γ : List (Item 𝓤)) → ent 𝓤 (⋆ 𝓛 (filled ls bs vs Γ)) (sep 𝓤 (frame 𝓤 H (lie-at 𝓤 H ls bs) (firsts vs)) (⋆ 𝓛 Γ))
  unfolding frame
  grows [] bs [] Γ = emp∗ 𝓤 (⋆ 𝓛 Γ)
  grows [] bs (v ∷ vs) Γ = emp∗ 𝓤 (⋆ 𝓛 Γ)
  grows (local τ h ∷ ls) bs [] Γ = joined (lie-at 𝓤 H ls bs.1) (firsts []) _ (H.room τ bs.0 zero) τ bs.0 Γ (grows ls bs.1 [] (‵ (froom τ bs.0 zero) ∷ ‵ (fdies τ bs.0) ∷ Γ))
  grows (local τ h ∷ ls) bs (v ∷ vs) Γ = joined (lie-at 𝓤 H ls bs.1) (firsts vs) _ (H.at full_share τ bs.0 zero v) τ bs.0 Γ (grows ls bs.1 vs (‵ (fat full_share τ bs.0 zero v) ∷ ‵ (fdies τ bs.0) ∷ Γ))

  pub gathers : (ls : List Local) (bs : Blocks ls) (vs : List Val) (Γ : List (Item 𝓤)) → ent 𝓤 (⋆ 𝓛 (entered ls bs vs Γ)) (sep 𝓤 (frame 𝓤 H (lie-at 𝓤 H ls bs) (start vs)) (⋆ 𝓛 Γ))
  unfolding frame
  gathers [] bs vs Γ = emp∗ 𝓤 (⋆ 𝓛 Γ)
  gathers (local τ h ∷ ls) bs vs Γ = joined (lie-at 𝓤 H ls bs.1) (firsts vs) _ (H.room τ bs.0 zero) τ bs.0 Γ (grows ls bs.1 vs (‵ (froom τ bs.0 zero) ∷ ‵ (fdies τ bs.0) ∷ Γ))

-- and these locals are known
abbrev pub Params : Layout → Store → ℕ → ℕ → List Ty → List Val → Type 0
Params E us k i [] vs = Unit {0}
Params E us k i (τ ∷ τs) [] = Unit {0}
Params E us k i (τ ∷ τs) (v ∷ vs) = Known E us k i τ v × Params E us k (suc i) τs vs

pub still-params : (E : Layout) {us us' : Store} {k k' : ℕ} → Same k us us' → k ≤ k' → (i : ℕ) (τs : List Ty) (vs : List Val) → Params E us k i τs vs → Params E us' k' i τs vs
still-params E s l i [] vs h = tt
still-params E s l i (τ ∷ τs) [] h = tt
still-params E s l i (τ ∷ τs) (v ∷ vs) h = (still s l h.0, still-params E s l (suc i) τs vs h.1)

abbrev Lies : Store → ℕ → List Val → Type 0
Lies us i [] = Unit {0}
Lies us i (v ∷ vs) = (us i ≡ some v) × Lies us (suc i) vs

lies-further : (us : Store) (i : ℕ) (vs : List Val) → Lies (λ n. us (suc n)) i vs → Lies us (suc i) vs
lies-further us i [] h = tt
lies-further us i (v ∷ vs) h = (h.0, lies-further us (suc i) vs h.1)

firsts-lie : (vs : List Val) → Lies (firsts vs) zero vs
firsts-lie [] = tt
firsts-lie (v ∷ vs) = (refl, lies-further (firsts (v ∷ vs)) zero vs (firsts-lie vs))

all_known : (E : Layout) (us : Store) (k i : ℕ) (τs : List Ty) (vs : List Val) → Locals-are E i (by_values τs) → Lies us i vs → past (by_values τs) i ≤ k → Params E us k i τs vs
all_known E us k i [] vs are lie l = tt
all_known E us k i (τ ∷ τs) [] are lie l = tt
all_known E us k i (τ ∷ τs) (v ∷ vs) are lie l = let m = past-le (by_values τs) (suc i) in (record { before = omega (arith, l, m); is = are.0; has = lie.0 }, all_known E us k (suc i) τs vs are.1 lie.1 l)

pub begun : (E : Layout) (τs : List Ty) (vs : List Val) → Locals-are E 1 (by_values τs) → Params E (start vs) (past (by_values τs) 1) 1 τs vs
begun E τs vs are = all_known E (start vs) (past (by_values τs) 1) 1 τs vs are (lies-further (start vs) zero vs (firsts-lie vs)) (itself (past (by_values τs) 1))

-- ---- steps
-- the context in other words
pub turns : {M : Type 1} {𝓤 : Ura M} {𝓛 : Logic 𝓤} {K : Type 0} {Γ : List (Item 𝓤)} {G : Goal 𝓤 𝓛.H} (Δ : List (Item 𝓤)) → ent 𝓤 (⋆ 𝓛 Γ) (⋆ 𝓛 Δ) → Step K 𝓛 Δ G Γ G
turns {𝓤 = 𝓤} {𝓛 = 𝓛} Δ h = step (λ s. record { prf = via 𝓤 (⋆ 𝓛 Δ) h s.prf })

module _ {M : Type 1} {𝓤 : Ura M} {𝓛 : Logic 𝓤} {K : Type 0} where
  -- the cell of a local within the frame
  open 𝓛 use {H}

  cell_in : K → (E : Layout) (us : Store) (i : ℕ) {v : Val} → Inside E i → us i ≡ some v → Part K 𝓛 (raw (frame 𝓤 H E us)) full_share (spot_of 𝓤 H E i).0 (spot_of 𝓤 H E i).1 zero v (λ u. raw (frame 𝓤 H E (put i (some u) us)))
  cell_in t E us i {v} h e =
      let e₀ : Ty × ℕ = get_or E i nowhere in
      let D : SProp 𝓤 = H.dies e₀.0 e₀.1 in
      let C : Val → SProp 𝓤 = λ u. H.at full_share e₀.0 e₀.1 zero u in
      let O : SProp 𝓤 = others 𝓤 H i E us in
      let F : Val → SProp 𝓤 = λ u. frame 𝓤 H E (put i (some u) us) in
      record {
        out = via 𝓤 (sep 𝓤 (at_local 𝓤 H E i (us i)) O) (taken 𝓤 H E us i h) (subst (λ (u : Option Val). ent 𝓤 (sep 𝓤 (spot 𝓤 H e₀ u) O) (sep 𝓤 (C v) (all 𝓤 (λ (w : Val). wand 𝓤 (C w) (F w))))) (sym e)
            (via 𝓤 (sep 𝓤 (C v) (sep 𝓤 D O)) (assoc∗ 𝓤 (C v) D O) (mono_r 𝓤 (C v) (all_i 𝓤 (λ (w : Val). wand 𝓤 (C w) (F w)) (λ w. wand_i 𝓤 (sep 𝓤 D O) (C w) (F w)
            (via 𝓤 (sep 𝓤 (C w) (sep 𝓤 D O)) (comm∗ 𝓤 (sep 𝓤 D O) (C w)) (via 𝓤 (sep 𝓤 (sep 𝓤 (C w) D) O) (assoc' 𝓤 (C w) D O) (back 𝓤 H E us i (some w) h))))))));
        same = ap (λ (u : Option Val). raw (frame 𝓤 H E (put i u us))) (sym e) ∙ ap (λ (vs : Store). raw (frame 𝓤 H E vs)) (λ j n. put-as-is i us n j);
      }

  module _ {Γ : List (Item 𝓤)} where
    -- the frame stands at n
    pub var-in : K → (n : ℕ) (E : Layout) (us : Store) (i : ℕ) {v : Val} → nth 𝓛 n Γ ≡ raw (frame 𝓤 H E us) → Inside E i × (us i ≡ some v) → Opd K 𝓛 Γ E (it i) v
    var-in t n E us i {v} at h = load t (from t (stop t)) (look_in t n (subst (λ (j : Item 𝓤). Part K 𝓛 j full_share (spot_of 𝓤 H E i).0 (spot_of 𝓤 H E i).1 zero v (λ u. raw (frame 𝓤 H E (put i (some u) us)))) (sym at) (cell_in t E us i h.0 h.1)))

    pub vars-in : K → (n : ℕ) (E : Layout) (us : Store) (is : List ℕ) (vs : List Val) → nth 𝓛 n Γ ≡ raw (frame 𝓤 H E us) → Lie E us is vs → Opds K 𝓛 Γ E (its is) vs
    vars-in t n E us [] [] at h = no_more t
    vars-in t n E us [] (v ∷ vs) at h = absurd h
    vars-in t n E us (i ∷ is) [] at h = absurd h
    vars-in t n E us (i ∷ is) (v ∷ vs) at h = and_then t (var-in t n E us i at h.0) (vars-in t n E us is vs at h.1)

module _ {M : Type 1} {𝓤 : Ura M} {𝓛 : Logic 𝓤} {K : Type 0} {Γ : List (Item 𝓤)} where
  -- the frame stands at the head. A part of a struct in a local:
  open 𝓛 use {H}

  field_in : K → (E : Layout) (us : Store) (i j : ℕ) {k : ℕ} {ν : Sym} {τs : Tys} {vs : Vals} {τ : Ty} {d : ℕ} → Known E us k i (ty_struct ν τs) (vstruct vs) → field_at zero τs j ≡ some (τ, d) → Reads K 𝓛 (raw (frame 𝓤 H E us) ∷ Γ) τ (spot_of 𝓤 H E i).1 (zero + d) (get_v vs j)
  field_in t E us i j {vs = vs} h f =
      look_in t zero (sub t j f (subst (λ (σ : Ty). Part K 𝓛 (raw (frame 𝓤 H E us)) full_share σ (spot_of 𝓤 H E i).1 zero (vstruct vs) (λ u. raw (frame 𝓤 H E (put i (some u) us)))) h.is.type-is (cell_in t E us i h.is.inside h.has)))

  module _ (E : Layout) (us : Store) (i : ℕ) {k : ℕ} {ρ : Ty} {p : ℕ × ℕ} {m : ℕ} where
    pub len-in : K → Known E us k i (slice_ty ρ) (slice_val p m) → Opd K 𝓛 (raw (frame 𝓤 H E us) ∷ Γ) E (len_of i) (vint w64 m)
    len-in t h = load t (from t (fld t (ap (λ (σ : Ty). field_of σ 1) h.is.type-is) (stop t))) (field_in t E us i 1 h refl)

    pub ptr-in : K → Known E us k i (slice_ty ρ) (slice_val p m) → Opd K 𝓛 (raw (frame 𝓤 H E us) ∷ Γ) E (ptr_of i) (vptr p.0 p.1)
    ptr-in t h = load t (from t (fld t (ap (λ (σ : Ty). field_of σ 0) h.is.type-is) (stop t))) (field_in t E us i 0 h refl)

    begins-in : K → {σ : Ty} → Known E us k i (slice_ty ρ) (slice_val p m) → Rv K 𝓛 (raw (frame 𝓤 H E us) ∷ Γ) E (addr_of (place i (field 0 ∷ deref σ ∷ []))) (vptr p.0 p.1)
    begins-in t h = addr t (from t (fld t (ap (λ (τ : Ty). field_of τ 0) h.is.type-is) (hop t (field_in t E us i 0 h refl) (stop t))))

  pub points-in : K → (E : Layout) (us : Store) (i : ℕ) {k : ℕ} {σ τ : Ty} {b o : ℕ} → Known E us k i τ (vptr b o) → Finds K 𝓛 (raw (frame 𝓤 H E us) ∷ Γ) E (place i (deref σ ∷ [])) (σ, b, o)
  points-in t E us i h = from t (hop t (look_in t zero (cell_in t E us i h.is.inside h.has)) (stop t))

  -- a value of its type is stored in a local, whatever it held
  write-in : K → (E : Layout) (us : Store) (i : ℕ) {τ : Ty} {v : Val} → Local-is E i τ → Holds (has_ty τ v) × WT v → Writes K 𝓛 (raw (frame 𝓤 H E us) ∷ Γ) (spot_of 𝓤 H E i).0 (spot_of 𝓤 H E i).1 zero v (raw (frame 𝓤 H E (put i (some v) us)) ∷ Γ)
  write-in t E us i {v = v} is has =
      let e₀ : Ty × ℕ = get_or E i nowhere in
      let R : SProp 𝓤 = H.room e₀.0 e₀.1 zero in
      let D : SProp 𝓤 = H.dies e₀.0 e₀.1 in
      let C : SProp 𝓤 = H.at full_share e₀.0 e₀.1 zero v in
      let O : SProp 𝓤 = others 𝓤 H i E us in
      record {
        go = λ P h. qed 𝓛 (raw (frame 𝓤 H E us) ∷ Γ) ∵ check ! (subst (λ (σ : Ty). Holds (has_ty σ v) × WT v) (sym is.type-is) has) $
            use1 𝓛 (raw R ⊛ (raw D ⊛ raw O)) (via 𝓤 (sep 𝓤 (at_local 𝓤 H E i (us i)) O) (taken 𝓤 H E us i is.inside) (via 𝓤 (sep 𝓤 (sep 𝓤 R D) O) (mono_l 𝓤 O (emptied 𝓤 H 𝓛.laws e₀ (us i))) (assoc∗ 𝓤 R D O))) $ split ! $ frames ! $ assume ! (raw C) $
            use2 𝓛 (raw (frame 𝓤 H E (put i (some v) us))) (via 𝓤 (sep 𝓤 (sep 𝓤 C D) O) (assoc' 𝓤 C D O) (back 𝓤 H E us i (some v) is.inside)) $ by ! h;
      }

  module _ {C : Calls 𝓤 H} {Λ : Loops 𝓤 H} {q : Post 𝓤 H} where
    pub sets-in : K → (E : Layout) (us : Store) (i : ℕ) {τ : Ty} {v : Val} {rv : RValue} {rest : Body} → Local-is E i τ → Holds (has_ty τ v) × WT v → Rv K 𝓛 (raw (frame 𝓤 H E us) ∷ Γ) E rv v
        → Step K 𝓛 (raw (frame 𝓤 H E (put i (some v) us)) ∷ Γ) (runs C Λ E rest q) (raw (frame 𝓤 H E us) ∷ Γ) (runs C Λ E (seq (sets i rv) rest) q)
    sets-in t E us i is has rv = assigns t rv (from t (stop t)) (write-in t E us i is has)

    pub lands-in : K → (E : Layout) (us : Store) (i : ℕ) {τ : Ty} {v : Val} {rest : Body} → Local-is E i τ → Holds (has_ty τ v) × WT v
        → Step K 𝓛 (raw (frame 𝓤 H E (put i (some v) us)) ∷ Γ) (runs C Λ E rest q) (raw (frame 𝓤 H E us) ∷ Γ) (lands C Λ E (place i []) v rest q)
    lands-in t E us i is has = land t (from t (stop t)) (write-in t E us i is has)

    -- the slice in the local i is handed on by way of the k-th and the next
    pub slice_in : K → (E : Layout) (us : Store) (i k : ℕ) (R : RattleType) {ρ ρ' : Ty} {p : ℕ × ℕ} {m : ℕ} {rest : Body} → Known E us k i (slice_ty ρ) (slice_val p m) → Local-is E k ρ' → Holds (has_ty ρ' (vptr p.0 p.1)) × WT (vptr p.0 p.1)
        → Local-is E (suc k) (slice_ty ρ') → Holds (has_ty (slice_ty ρ') (slice_val p m)) × WT (slice_val p m)
        → Step K 𝓛 (raw (frame 𝓤 H E (put (suc k) (some (slice_val p m)) (put k (some (vptr p.0 p.1)) us))) ∷ Γ) (runs C Λ E rest q) (raw (frame 𝓤 H E us) ∷ Γ) (runs C Λ E (steps (hands_to R i k (suc k)) rest) q)
    slice_in t E us i k R {p = p} h is has is' has' =
        let u : Option Val = some (vptr p.0 p.1) in
        step (λ s. sets-in t E us k is has (begins-in E us i t h) $
        sets-in t E (put k u us) (suc k) is' has' (agg t (and_then t (var-in t zero E (put k u us) k refl (is.inside, put-here k u us)) (and_then t (len-in E (put k u us) i t (still (put_same k u us) (itself k) h)) (no_more t)))) $ s)

    -- the function returns what its first local holds, and all locals are freed
    pub returns-in : K → (E : Layout) (us : Store) {τ : Ty} {v : Val} (Kf : Val → SProp 𝓤) → post 𝓤 H q returned ≡ at_return 𝓤 H E Kf returned → Local-is E zero τ → us zero ≡ some v → ent 𝓤 (⋆ 𝓛 Γ) (Kf v) → Seq K 𝓛 (raw (frame 𝓤 H E us) ∷ Γ) (runs C Λ E return q)
    returns-in t E us {v = v} Kf w is e k =
        let F : SProp 𝓤 = frame 𝓤 H E us in
        returns_within t Kf w (look_in t zero (cell_in t E us zero is.inside e)) $ record { prf = via 𝓤 (sep 𝓤 F (⋆ 𝓛 Γ)) (pop 𝓛 (raw F) Γ) (via 𝓤 (sep 𝓤 F (Kf v)) (mono_r 𝓤 F k) (freed 𝓤 H 𝓛.laws E us (Kf v))) }
