-- The words in which the shapes write MIR, and the steps that walk them.
-- Assumes nothing.
--     it, its, len_of, ptr_of, sets, steps     a local, several, and the two parts of a slice as operands, an assignment to a local, and statements in a row
--     by_values, slice_of, ref-to     locals that are all values, the type of a slice and of a reference
--     hands_to, firsts-of, finds-elem     the two statements by which a slice in a local is handed on, the first elements of an array are a slice, and an element of a row is found
--     Has, Free, Dies     a local's cell, its room, and what says that it dies, as items of a context
--     var, part, len, ptr     what an operand evaluates to: a local, a field of one, the length of a slice, where it begins
--     fills, lands-in  one step for an assignment to a local that has room, and for the landing of a call's result there
--     hands_on, takes-firsts, reaches-elem     one step for each of these three
--     Fill, entered    that values have the types of the first locals, and the context once they are stored
--     Blocks, enters   one step from a function to its body: the parameters are stored, and every other local has room.        ends-in, ends-within     one step from its `return` to its end: every local is freed
--     fits-slice, fits-offset     a slice's machine value and the offset of an element have their types
use mathlib.Core.Path.{◌≡◌, refl, sym, ◌∙◌, ap, subst}
use Prim.Native.Nat.{ℕ, zero, ◌<◌, ◌+◌, ◌*◌, ◌^◌}
use mathlib.Core.List.{List, [], ◌∷◌}
use mathlib.Core.Option.{some}
use lib.Dec.{T as Holds}
use seplogic.Ra.Ura.{Ura}
use base.Fraction.{full_share}
use mir.Syntax.{Sym, Ty, Tys, ty_struct, Lifetime, Mutability, place, Opd as Operand, copy, Rv as RValue, op2, addr_of, aggregate, deref, field, Body, seq, assign, return, Local, local, value_local, Fn, w64, unsigned, mul, offset, ty_ref}
use mir.Val.{Val, Vals, Fits, WT, has_ty, vint, vptr, vstruct}
use mir.Fields.{get_v, set_v}
use base.Logic.{SProp, ent, sep, wand, via, guard_i, wand_i, apply∗, comm∗, assoc∗, assoc', mono_l, mono_r, all_i, all_e}
use base.Fml.{Share, fat, froom, fdies}
use prog.Memory.{field_at, field_of}
use prog.Wp.{Heap, Env, Calls, Loops, WpFn, spot_of, write, alloc, pass, at_return, returns as returned}
use types.Logic.{Logic}
use types.Kit.{Goal, Item, ‵, nth, put, ⋆, aim, prop, runs, lands, allocs, params', passes, Post, at_ret, post, Seq, Step, step, ◌$◌}
use types.Run.{Reads, Opd, Rv, Writes, look, init, stop, hop, fld, from, load, addr, bin, and_then, no_more, assigns, land, returns_within, enter, alloc1, alloc0, pass0}
use types.Part.{Part, whole, sub, look_in, agg}
use denote.RattleType.{RattleType}
use denote.Memory.{mem, pointee}
use denote.Slice.{slice_ty, slice_val, Room}
use denote.Index.{place_is}
use denote.Index as Index
use Rattle.walks.proofs.Plain.{ty}
use Rattle.walks.proofs.Walk.{offset-fits, size_fits, size-op, size_lit, Spots, left_over, leaves}

-- ---- the words
abbrev pub it : ℕ → Operand
it i = copy (place i [])

abbrev pub its : List ℕ → List Operand
its [] = []
its (i ∷ is) = it i ∷ its is

abbrev pub ptr_of : ℕ → Operand
ptr_of i = copy (place i (field 0 ∷ []))

abbrev pub len_of : ℕ → Operand
len_of i = copy (place i (field 1 ∷ []))

abbrev pub sets : ℕ → RValue → Body
sets i rv = assign (place i []) rv

abbrev pub steps : List Body → Body → Body
steps [] last = last
steps (b ∷ bs) last = seq b (steps bs last)

abbrev pub by_values : List Ty → List Local
by_values [] = []
by_values (τ ∷ τs) = local τ value_local ∷ by_values τs

abbrev pub ref-to : Lifetime → Mutability → RattleType → Ty
ref-to ℓ μ R = ty_ref ℓ μ (pointee R.written)

abbrev pub slice_of : Lifetime → Mutability → RattleType → Ty
slice_of ℓ μ R = slice_ty (ref-to ℓ μ R)

-- the slice in the local i is handed on by way of j and k
abbrev pub hands_to : RattleType → ℕ → ℕ → ℕ → List Body
hands_to R i j k = sets j (addr_of (place i (field 0 ∷ deref (ty R) ∷ []))) ∷ sets k (aggregate (it j ∷ len_of i ∷ [])) ∷ []

-- the element of the slice i at the place j lies at p, by way of its offset m
abbrev pub finds-elem : RattleType → ℕ → ℕ → ℕ → ℕ → List Body
finds-elem R i j m p = sets m (op2 (mul unsigned) (it j) (size-op (mem R).size)) ∷ sets p (op2 offset (ptr_of i) (it m)) ∷ []

-- the first of the array in the local i, as many as the operand o says, are a slice by way of j and k
abbrev pub firsts-of : ℕ → ℕ → ℕ → Operand → List Body
firsts-of i j k o = sets j (addr_of (place i [])) ∷ sets k (aggregate (it j ∷ o ∷ [])) ∷ []

abbrev pub fits-slice : {n : ℕ} → n < 2 ^ 64 → Unit {0} × (Unit {0} × (Fits w64 n × Unit {0}))
fits-slice h = (tt, (tt, (record { fits = h }, tt)))

-- and the offset of an element has the type of a number
abbrev pub fits-offset : (R : RattleType) (c x : ℕ) → Room R c → x < c → Unit {0} × Fits w64 (x * (mem R).size)
fits-offset R c x space l = (tt, record { fits = offset-fits R space l })

-- ---- the local i as an item: its cell, its room, that it dies, and its cell with a slice in it
module _ {M : Type 1} (𝓤 : Ura M) (H : Heap 𝓤) (E : Env 𝓤 H) (i : ℕ) where
  abbrev pub Has : Share → Val → Item 𝓤
  Has q v = ‵ (fat q (spot_of 𝓤 H E i).0 (spot_of 𝓤 H E i).1 zero v)

  abbrev pub Free : Item 𝓤
  Free = ‵ (froom (spot_of 𝓤 H E i).0 (spot_of 𝓤 H E i).1 zero)

  abbrev pub Dies : Item 𝓤
  Dies = ‵ (fdies (spot_of 𝓤 H E i).0 (spot_of 𝓤 H E i).1)

  abbrev pub Sliced : Ty → Share → ℕ × ℕ → ℕ → Item 𝓤
  Sliced ρ q p m = ‵ (fat q (slice_ty ρ) (spot_of 𝓤 H E i).1 zero (slice_val p m))

  abbrev Typed : Val → Type 0
  Typed v = Holds (has_ty (spot_of 𝓤 H E i).0 v) × WT v

-- ---- operands
module _ {M : Type 1} {𝓤 : Ura M} {𝓛 : Logic 𝓤} {K : Type 0} {Γ : List (Item 𝓤)} where
  -- field k of a struct in a local, at the position n
  inner : K → (n k : ℕ) {ν : Sym} {τs : Tys} {b : ℕ} {q : Share} {vs : Vals} {τ : Ty} {d : ℕ} → nth 𝓛 n Γ ≡ ‵ (fat q (ty_struct ν τs) b zero (vstruct vs)) → field_at zero τs k ≡ some (τ, d) → Reads K 𝓛 Γ τ b (zero + d) (get_v vs k)
  inner t n k {ν} {τs} {b} {q} {vs} {τ} {d} e f = look_in t n (subst (λ (j : Item 𝓤). Part K 𝓛 j q τ b (zero + d) (get_v vs k) (λ u. ‵ (fat q (ty_struct ν τs) b zero (vstruct (set_v vs k u))))) (sym e) (sub t k f (whole t)))

module _ {M : Type 1} {𝓤 : Ura M} {𝓛 : Logic 𝓤} {K : Type 0} {Γ : List (Item 𝓤)} {E : Env 𝓤 𝓛.H} {i : ℕ} where
  open 𝓛 use {H}

  pub var : K → (n : ℕ) {q : Share} {v : Val} → nth 𝓛 n Γ ≡ Has 𝓤 H E i q v → Opd K 𝓛 Γ E (it i) v
  var t n e = load t (from t (stop t)) (look t n e)

  pub part : K → (n k : ℕ) {ν : Sym} {τs : Tys} {q : Share} {vs : Vals} {τ : Ty} {d : ℕ} → nth 𝓛 n Γ ≡ ‵ (fat q (ty_struct ν τs) (spot_of 𝓤 H E i).1 zero (vstruct vs)) → (spot_of 𝓤 H E i).0 ≡ ty_struct ν τs → field_at zero τs k ≡ some (τ, d)
      → Opd K 𝓛 Γ E (copy (place i (field k ∷ []))) (get_v vs k)
  part t n k e τ-is f = load t (from t (fld t (ap (λ (σ : Ty). field_of σ k) τ-is ∙ f) (stop t))) (inner t n k e f)

  module _ {ρ : Ty} {q : Share} {p : ℕ × ℕ} {m : ℕ} where
    pub len : K → (n : ℕ) → nth 𝓛 n Γ ≡ Sliced 𝓤 H E i ρ q p m → (spot_of 𝓤 H E i).0 ≡ slice_ty ρ → Opd K 𝓛 Γ E (len_of i) (vint w64 m)
    len t n e τ-is = part t n 1 e τ-is refl

    pub ptr : K → (n : ℕ) → nth 𝓛 n Γ ≡ Sliced 𝓤 H E i ρ q p m → (spot_of 𝓤 H E i).0 ≡ slice_ty ρ → Opd K 𝓛 Γ E (ptr_of i) (vptr p.0 p.1)
    ptr t n e τ-is = part t n 0 e τ-is refl

    begins : K → (n : ℕ) {σ : Ty} → nth 𝓛 n Γ ≡ Sliced 𝓤 H E i ρ q p m → (spot_of 𝓤 H E i).0 ≡ slice_ty ρ → Rv K 𝓛 Γ E (addr_of (place i (field 0 ∷ deref σ ∷ []))) (vptr p.0 p.1)
    begins t n e τ-is = addr t (from t (fld t (ap (λ (τ : Ty). field_of τ 0) τ-is) (hop t (inner t n 0 e refl) (stop t))))

counted : {M : Type 1} {𝓤 : Ura M} {𝓛 : Logic 𝓤} {K : Type 0} {Γ : List (Item 𝓤)} {E : Env 𝓤 𝓛.H} {o : Operand} {m c : ℕ} → Opd K 𝓛 Γ E o (vint w64 m) → m ≡ c → Opd K 𝓛 Γ E o (vint w64 c)
counted {𝓛 = 𝓛} {K = K} {Γ = Γ} {E = E} {o = o} a e = subst (λ (x : ℕ). Opd K 𝓛 Γ E o (vint w64 x)) e a

-- ---- statements
module _ {M : Type 1} {𝓤 : Ura M} {𝓛 : Logic 𝓤} {K : Type 0} {Γ : List (Item 𝓤)} {E : Env 𝓤 𝓛.H} {C : Calls 𝓤 𝓛.H} {Λ : Loops 𝓤 𝓛.H} {q : Post 𝓤 𝓛.H} where
  open 𝓛 use {H}

  module _ {i : ℕ} {v : Val} {rest : Body} where
    pub fills : K → {rv : RValue} → Rv K 𝓛 Γ E rv v → (n : ℕ) → nth 𝓛 n Γ ≡ Free 𝓤 H E i → Typed 𝓤 H E i v → Step K 𝓛 (put 𝓛 n (Has 𝓤 H E i full_share v) Γ) (runs C Λ E rest q) Γ (runs C Λ E (seq (sets i rv) rest) q)
    fills t rv n e has = assigns t rv (from t (stop t)) (init t n e has)

    pub lands-in : K → (n : ℕ) → nth 𝓛 n Γ ≡ Free 𝓤 H E i → Typed 𝓤 H E i v → Step K 𝓛 (put 𝓛 n (Has 𝓤 H E i full_share v) Γ) (runs C Λ E rest q) Γ (lands C Λ E (place i []) v rest q)
    lands-in t n e has = land t (from t (stop t)) (init t n e has)

module _ {M : Type 1} {𝓤 : Ura M} {𝓛 : Logic 𝓤} {K : Type 0} {Γ : List (Item 𝓤)} {E : Env 𝓤 𝓛.H} {C : Calls 𝓤 𝓛.H} {Λ : Loops 𝓤 𝓛.H} {q : Post 𝓤 𝓛.H} where
  -- the slice stands at n, and there is room for the two locals at a and b
  open 𝓛 use {H}

  pub hands_on : K → (n a b : ℕ) {σ ρ : Ty} {i j k : ℕ} {rest : Body} {s : Share} {p : ℕ × ℕ} {m : ℕ} → nth 𝓛 n Γ ≡ Sliced 𝓤 H E i ρ s p m → (spot_of 𝓤 H E i).0 ≡ slice_ty ρ → nth 𝓛 a Γ ≡ Free 𝓤 H E j
      → nth 𝓛 n (put 𝓛 a (Has 𝓤 H E j full_share (vptr p.0 p.1)) Γ) ≡ Sliced 𝓤 H E i ρ s p m → nth 𝓛 a (put 𝓛 a (Has 𝓤 H E j full_share (vptr p.0 p.1)) Γ) ≡ Has 𝓤 H E j full_share (vptr p.0 p.1)
      → nth 𝓛 b (put 𝓛 a (Has 𝓤 H E j full_share (vptr p.0 p.1)) Γ) ≡ Free 𝓤 H E k → Typed 𝓤 H E j (vptr p.0 p.1) → Typed 𝓤 H E k (slice_val p m)
      → Step K 𝓛 (put 𝓛 b (Has 𝓤 H E k full_share (slice_val p m)) (put 𝓛 a (Has 𝓤 H E j full_share (vptr p.0 p.1)) Γ)) (runs C Λ E rest q) Γ
      (runs C Λ E (seq (sets j (addr_of (place i (field 0 ∷ deref σ ∷ [])))) (seq (sets k (aggregate (it j ∷ len_of i ∷ []))) rest)) q)
  hands_on t n a b e τ-is r e' f' r' h h' = step (λ s. fills t (begins t n e τ-is) a r h $ fills t (agg t (and_then t (var t a f') (and_then t (len t n e' τ-is) (no_more t)))) b r' h' $ s)

  -- there is room for the two locals at a and b, and the count is c
  pub takes-firsts : K → (a b : ℕ) {i j k : ℕ} {o : Operand} {c m : ℕ} {rest : Body} → nth 𝓛 a Γ ≡ Free 𝓤 H E j → Typed 𝓤 H E j (vptr (spot_of 𝓤 H E i).1 0) → m ≡ c
      → nth 𝓛 a (put 𝓛 a (Has 𝓤 H E j full_share (vptr (spot_of 𝓤 H E i).1 0)) Γ) ≡ Has 𝓤 H E j full_share (vptr (spot_of 𝓤 H E i).1 0) → Opd K 𝓛 (put 𝓛 a (Has 𝓤 H E j full_share (vptr (spot_of 𝓤 H E i).1 0)) Γ) E o (vint w64 m)
      → nth 𝓛 b (put 𝓛 a (Has 𝓤 H E j full_share (vptr (spot_of 𝓤 H E i).1 0)) Γ) ≡ Free 𝓤 H E k → Typed 𝓤 H E k (slice_val ((spot_of 𝓤 H E i).1, 0) c)
      → Step K 𝓛 (put 𝓛 b (Has 𝓤 H E k full_share (slice_val ((spot_of 𝓤 H E i).1, 0) c)) (put 𝓛 a (Has 𝓤 H E j full_share (vptr (spot_of 𝓤 H E i).1 0)) Γ)) (runs C Λ E rest q) Γ (runs C Λ E (steps (firsts-of i j k o) rest) q)
  takes-firsts t a b r h e f by' r' h' = step (λ s. fills t (addr t (from t (stop t))) a r h $ fills t (agg t (and_then t (var t a f) (and_then t (counted by' e) (no_more t)))) b r' h' $ s)

  -- the slice stands at n and has c elements; the offset of the one at x is written by `off`, and there is room for the pointer at a
  pub reaches-elem : K → (R : RattleType) {c x : ℕ} → Room R c → x < c → {i j m p : ℕ} {rest : Body} {Γ' : List (Item 𝓤)} {b o : ℕ} → Opd K 𝓛 Γ E (it j) (vint w64 x) → Writes K 𝓛 Γ (spot_of 𝓤 H E m).0 (spot_of 𝓤 H E m).1 zero (vint w64 (x * (mem R).size)) Γ'
      → Opd K 𝓛 Γ' E (ptr_of i) (vptr b o) → Opd K 𝓛 Γ' E (it m) (vint w64 (x * (mem R).size)) → (a : ℕ) → nth 𝓛 a Γ' ≡ Free 𝓤 H E p → Typed 𝓤 H E p (vptr b (Index.place (mem R).size o x))
      → Step K 𝓛 (put 𝓛 a (Has 𝓤 H E p full_share (vptr b (Index.place (mem R).size o x))) Γ') (runs C Λ E rest q) Γ (runs C Λ E (steps (finds-elem R i j m p) rest) q)
  reaches-elem t R {c} {x} space l {i = i} {m = m} {Γ' = Γ'} {b = b} {o = o} at off from' by' a e has = step (λ s.
      assigns t (bin t at (size_lit t (size_fits R space l)) (record { fits = offset-fits R space l })) (from t (stop t)) off $
      fills t (subst (λ (z : ℕ). Rv K 𝓛 Γ' E (op2 offset (ptr_of i) (it m)) (vptr b z)) (sym (place_is (mem R).size o x)) (bin t {o = offset} from' by' tt)) a e has $ s)

-- ---- a function: to its body, and from its end
abbrev pub Blocks : List Local → Type 0
Blocks [] = Unit {0}
Blocks (l ∷ ls) = ℕ × Blocks ls

abbrev rooms : {M : Type 1} {𝓤 : Ura M} → (ls : List Local) → Blocks ls → List (Item 𝓤) → List (Item 𝓤)
rooms [] bs Γ = Γ
rooms (local τ h ∷ ls) bs Γ = rooms ls bs.1 (‵ (froom τ bs.0 zero) ∷ ‵ (fdies τ bs.0) ∷ Γ)

module _ {M : Type 1} (𝓤 : Ura M) (H : Heap 𝓤) where
  abbrev pub lie-at : (ls : List Local) → Blocks ls → Env 𝓤 H
  lie-at [] bs = []
  lie-at (local τ h ∷ ls) bs = (τ, bs.0) ∷ lie-at ls bs.1

module _ {M : Type 1} {𝓤 : Ura M} {𝓛 : Logic 𝓤} {K : Type 0} where
  open 𝓛 use {H}

  lies : K → (ls : List Local) {Γ : List (Item 𝓤)} {Kt : Env 𝓤 H → Goal 𝓤 H} → ((bs : Blocks ls) → Seq K 𝓛 (rooms ls bs Γ) (Kt (lie-at 𝓤 H ls bs))) → Seq K 𝓛 Γ (allocs ls Kt)
  lies t [] k = alloc0 t $ k tt
  lies t (local τ h ∷ ls) k = alloc1 t (λ b. lies t ls (λ bs. k (b, bs)))

-- the first locals have values, and the others room
abbrev pub Fill : List Local → List Val → Type 0
Fill ls [] = Unit {0}
Fill [] (v ∷ vs) = ⊥
Fill (local τ h ∷ ls) (v ∷ vs) = (Holds (has_ty τ v) × WT v) × Fill ls vs

abbrev pub filled : {M : Type 1} {𝓤 : Ura M} → (ls : List Local) → Blocks ls → List Val → List (Item 𝓤) → List (Item 𝓤)
filled ls bs [] Γ = rooms ls bs Γ
filled [] bs (v ∷ vs) Γ = Γ
filled (local τ h ∷ ls) bs (v ∷ vs) Γ = filled ls bs.1 vs (‵ (fat full_share τ bs.0 zero v) ∷ ‵ (fdies τ bs.0) ∷ Γ)

-- the result's local, in front of them, has room
abbrev pub FillAll : List Local → List Val → Type 0
FillAll [] vs = ⊥
FillAll (l ∷ ls) vs = Fill ls vs

abbrev pub entered : {M : Type 1} {𝓤 : Ura M} → (ls : List Local) → Blocks ls → List Val → List (Item 𝓤) → List (Item 𝓤)
entered [] bs vs Γ = Γ
entered (local τ h ∷ ls) bs vs Γ = filled ls bs.1 vs (‵ (froom τ bs.0 zero) ∷ ‵ (fdies τ bs.0) ∷ Γ)

-- a value may be stored in a local before the locals after it are allocated
module _ {M : Type 1} (𝓤 : Ura M) (H : Heap 𝓤) (τ : Ty) (b : ℕ) (v : Val) (ok : Holds (has_ty τ v) × WT v) where
  abbrev at_b : SProp 𝓤
  at_b = H.at full_share τ b zero v

  abbrev room-b : SProp 𝓤
  room-b = H.room τ b zero

  early : (ls : List Local) (Y : SProp 𝓤) (Q : Env 𝓤 H → SProp 𝓤) → ent 𝓤 (sep 𝓤 at_b Y) (alloc 𝓤 H ls Q) → ent 𝓤 (sep 𝓤 room-b Y) (alloc 𝓤 H ls (λ E. write 𝓤 H τ b zero v (Q E)))
  early [] Y Q h =
      via 𝓤 (sep 𝓤 room-b (wand 𝓤 at_b (Q []))) (mono_r 𝓤 room-b (wand_i 𝓤 Y at_b (Q []) (via 𝓤 (sep 𝓤 at_b Y) (comm∗ 𝓤 Y at_b) h))) (guard_i 𝓤 (Holds (has_ty τ v) × WT v) (sep 𝓤 room-b (wand 𝓤 at_b (Q []))) ok)
  early (local σ g ∷ ls) Y Q h =
      all_i 𝓤 (λ (c : ℕ). wand 𝓤 (mine c) (alloc 𝓤 H ls (λ E. write 𝓤 H τ b zero v (Q ((σ, c) ∷ E))))) (λ c. wand_i 𝓤 (sep 𝓤 room-b Y) (mine c) (alloc 𝓤 H ls (λ E. write 𝓤 H τ b zero v (Q ((σ, c) ∷ E))))
      (via 𝓤 (sep 𝓤 room-b (sep 𝓤 Y (mine c))) (assoc∗ 𝓤 room-b Y (mine c)) (early ls (sep 𝓤 Y (mine c)) (λ E. Q ((σ, c) ∷ E))
      (via 𝓤 (sep 𝓤 (sep 𝓤 at_b Y) (mine c)) (assoc' 𝓤 at_b Y (mine c)) (via 𝓤 (sep 𝓤 (rest c) (mine c)) (mono_l 𝓤 (mine c) (via 𝓤 (alloc 𝓤 H (local σ g ∷ ls) Q) h (all_e 𝓤 rest c)))
      (via 𝓤 (sep 𝓤 (mine c) (rest c)) (comm∗ 𝓤 (rest c) (mine c)) (apply∗ 𝓤 (mine c) (alloc 𝓤 H ls (λ E. Q ((σ, c) ∷ E))))))))))
    where
      mine : ℕ → SProp 𝓤
      mine c = sep 𝓤 (H.room σ c zero) (H.dies σ c)

      rest : ℕ → SProp 𝓤
      rest c = wand 𝓤 (mine c) (alloc 𝓤 H ls (λ E. Q ((σ, c) ∷ E)))

module _ {M : Type 1} {𝓤 : Ura M} {𝓛 : Logic 𝓤} {K : Type 0} where
  open 𝓛 use {H}

  stores : K → (ls : List Local) (vs : List Val) → Fill ls vs → {Γ : List (Item 𝓤)} {Kt : Env 𝓤 H → Goal 𝓤 H} → ((bs : Blocks ls) → Seq K 𝓛 (filled ls bs vs Γ) (Kt (lie-at 𝓤 H ls bs))) → Seq K 𝓛 Γ (allocs ls (λ E. passes E vs (Kt E)))
  stores t ls [] ok k = lies t ls (λ bs. pass0 t $ k bs)
  stores t [] (v ∷ vs) ok k = absurd ok
  stores t (local τ h ∷ ls) (v ∷ vs) ok {Γ} {Kt} k = alloc1 t (λ b. record { prf = early 𝓤 H τ b v ok.0 ls (⋆ 𝓛 (‵ (fdies τ b) ∷ Γ)) (λ E. pass 𝓤 H E vs (aim 𝓤 H (Kt ((τ, b) ∷ E)))) (stores t ls vs ok.1 {Γ = ‵ (fat full_share τ b zero v) ∷ ‵ (fdies τ b) ∷ Γ} {Kt = λ E. Kt ((τ, b) ∷ E)} (λ bs. k (b, bs))).prf })

  -- the first local is the result's, and the next are the parameters'
  opens : K → (ls : List Local) (vs : List Val) → FillAll ls vs → {Γ : List (Item 𝓤)} {Kt : Env 𝓤 H → Goal 𝓤 H} → ((bs : Blocks ls) → Seq K 𝓛 (entered ls bs vs Γ) (Kt (lie-at 𝓤 H ls bs))) → Seq K 𝓛 Γ (allocs ls (λ E. params' E vs (Kt E)))
  opens t [] vs ok k = absurd ok
  opens t (local τ h ∷ ls) vs ok {Γ} {Kt} k = alloc1 t (λ b. record { prf = (stores t ls vs ok {Γ = ‵ (froom τ b zero) ∷ ‵ (fdies τ b) ∷ Γ} {Kt = λ E. Kt ((τ, b) ∷ E)} (λ bs. k (b, bs))).prf })

  pub enters : {Γ : List (Item 𝓤)} {C : Calls 𝓤 H} {Λ : Loops 𝓤 H} (fn : Fn) (vs : List Val) {Kf : Val → SProp 𝓤} → K → FillAll fn.locals vs
      → ((bs : Blocks fn.locals) → Seq K 𝓛 (entered fn.locals bs vs Γ) (runs C Λ (lie-at 𝓤 H fn.locals bs) fn.body (at_ret (lie-at 𝓤 H fn.locals bs) Kf))) → Seq K 𝓛 Γ (prop (WpFn 𝓤 H C Λ fn vs Kf))
  enters {Γ} {C} {Λ} fn vs {Kf} t ok k = enter t C Λ fn vs Kf $ opens t fn.locals vs ok k

module _ {M : Type 1} {𝓤 : Ura M} {𝓛 : Logic 𝓤} {K : Type 0} {Γ : List (Item 𝓤)} {E : Env 𝓤 𝓛.H} {C : Calls 𝓤 𝓛.H} {Λ : Loops 𝓤 𝓛.H} {r : Val} where
  -- the result stands at n, and each other local two places before the last
  open 𝓛 use {H}

  pub ends-in : K → (n : ℕ) {Kf : Val → SProp 𝓤} → nth 𝓛 n Γ ≡ Has 𝓤 H E zero full_share r → Spots 𝓛 n E Γ → Step K 𝓛 (left_over 𝓛 n E Γ) (prop (Kf r)) Γ (runs C Λ E return (at_ret E Kf))
  ends-in t n {Kf} e ss = step (λ s. returns_within t Kf refl (look t n e) $ leaves t n ss $ s)

  pub ends-within : K → (n : ℕ) (Kg : Val → SProp 𝓤) {q : Post 𝓤 H} → post 𝓤 H q returned ≡ at_return 𝓤 H E Kg returned → nth 𝓛 n Γ ≡ Has 𝓤 H E zero full_share r → Spots 𝓛 n E Γ → Step K 𝓛 (left_over 𝓛 n E Γ) (prop (Kg r)) Γ (runs C Λ E return q)
  ends-within t n Kg w e ss = step (λ s. returns_within t Kg w (look t n e) $ leaves t n ss $ s)
