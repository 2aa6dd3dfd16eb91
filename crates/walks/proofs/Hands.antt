-- How the arguments of a call come from a function's own parameters and from the values at hand, for any list of parameters.
-- Assumes nothing.
--     Var              a value at hand: a parameter that comes by value (`param`), or a value that was found since, the newest or an older one
--     Hands            the arguments of a call, each in its place:
--                          same, shows, gives, lends     the next parameter: by value, a `&[R]`, a `&mut [R]`, a `&mut R`.        found v     a value at hand
--                      or leave, holds, rests, hides     the next parameter, by value, a `&mut R`, a `&mut [R]` or a `&[R]`, is no argument.        stop     nor is any that is left.        every     all are
--     fresh, calling   the locals that a call takes, and its code
--     Held, at-var     the values that were found, and the value and the type of one at hand
--     plains, args, sure, Agree     what the callee is passed, and that the lifetimes are those that it names
--     kept, lent       what stays with the caller of what it was given, and that the rest is what the callee asks.        Twices     that each slice shown can be handed on as a copy, which `lent` takes
--     Quiet, restored  a call that is handed no `&mut`: all is there again afterwards
--     ends_of, settled, lengths     the last values after the last call: what the callee left, and the rest as it was.        nows, let_go, lens-now     all as it was
--     hands_in, calls-in     one step for the statements that hand on, and one for a call whose arguments lie in locals and whose result lands in one
use mathlib.Core.Path.{◌≡◌, refl, ap, subst}
use Prim.Native.Nat.{ℕ, suc, ◌≤◌}
use mathlib.Core.List.{List, [], ◌∷◌, ◌++◌}
use mathlib.Core.Option.{some}
use seplogic.Ra.Ura.{Ura}
use mir.Syntax.{Callee, Local, Body, seq, call, erased, mut, place, deref, addr_of}
use mir.Val.{Val, vptr}
use base.Logic.{SProp, ent, sep, via, id⊢, snd∗, emp∗, comm∗, assoc∗, assoc', mono_l, mono_r}
use base.Fml.{Fml, Lft}
use prog.Wp.{Calls, Loops, Tables}
use types.Logic.{Logic, sem}
use types.Kit.{Go, Item, ‵, raw, ⋆, push, pop, ++⊢, ⊢++, cut⊢, drop⊢, Post as After, runs, Seq, ◌$◌, ! }
use types.Run.{addr}
use contract.Lifetimes.{Lfts, Shares, Within, lft_at}
use denote.RattleType.{RattleType, flat}
use denote.Laws.{Is}
use denote.Slice.{shr_slice_vals}
use denote.Signature.{types_at}
use denote.Triple.Statement.{Triple}
use Rattle.walks.proofs.Plain.{ty, PlainType, Shown-twice, has}
use Rattle.walks.proofs.Steps.{its, sets, steps, by_values, ref-to, slice_of, hands_to, fits-slice}
use Rattle.walks.proofs.Form.{Form, Kind, value, shown, handed, behind, slots, param-types, Plains, Passed, machine, Lasting, Lens, Ends, ending, left_at, met, Facts, Sure, shared, mut_slice, mut-ref, tokens, gives as given-of, finals, paired, listed, calls, slice-last, ref-last, mut-slice-val}
use Rattle.walks.proofs.Lent.{seen-row, seen_ref}
use Rattle.walks.proofs.Frame.{one_more, less, Store, put, Same, put_same, then_same, Layout, frame, Local-is, Locals-are, Known, still, newly, Lie, lies, Params, still-params, vars-in, points-in, sets-in, slice_in, lands-in, turns}

-- ---- the values at hand
pub data By-value {n : ℕ} : List (Kind n) → RattleType → Type 2 where
  at : {R : RattleType} {ks : List (Kind n)} → By-value (value R ∷ ks) R
  after-value : {R Q : RattleType} {ks : List (Kind n)} → By-value ks R → By-value (value Q ∷ ks) R
  after-shown : {R Q : RattleType} {j : ℕ} {ok : Within n j} {ks : List (Kind n)} → By-value ks R → By-value (shown j ok Q ∷ ks) R
  after-handed : {R Q : RattleType} {j : ℕ} {ok : Within n j} {ks : List (Kind n)} → By-value ks R → By-value (handed j ok Q ∷ ks) R
  after-behind : {R Q : RattleType} {j : ℕ} {ok : Within n j} {ks : List (Kind n)} → By-value ks R → By-value (behind j ok Q ∷ ks) R

pub data Var {n : ℕ} (ks : List (Kind n)) : List RattleType → RattleType → Type 2 where
  param : {R : RattleType} {Qs : List RattleType} → By-value ks R → Var ks Qs R
  newest : {R : RattleType} {Qs : List RattleType} → Var ks (R ∷ Qs) R
  older : {R Q : RattleType} {Qs : List RattleType} → Var ks Qs R → Var ks (Q ∷ Qs) R

-- ---- the arguments of a call
pub data Hands {n m : ℕ} (Qs : List RattleType) (all : List (Kind n)) : List (Kind n) → List (Kind m) → Type 2 where
  stop : {ks : List (Kind n)} → Hands Qs all ks []
  found : {R : RattleType} {ks : List (Kind n)} {ls : List (Kind m)} → Var all Qs R → Hands Qs all ks ls → Hands Qs all ks (value R ∷ ls)
  same : {R : RattleType} {ks : List (Kind n)} {ls : List (Kind m)} → Hands Qs all ks ls → Hands Qs all (value R ∷ ks) (value R ∷ ls)
  leave : {R : RattleType} {ks : List (Kind n)} {ls : List (Kind m)} → Hands Qs all ks ls → Hands Qs all (value R ∷ ks) ls
  holds : {R : RattleType} {j : ℕ} {ok : Within n j} {ks : List (Kind n)} {ls : List (Kind m)} → Hands Qs all ks ls → Hands Qs all (behind j ok R ∷ ks) ls
  rests : {R : RattleType} {j : ℕ} {ok : Within n j} {ks : List (Kind n)} {ls : List (Kind m)} → Hands Qs all ks ls → Hands Qs all (handed j ok R ∷ ks) ls
  hides : {R : RattleType} {j : ℕ} {ok : Within n j} {ks : List (Kind n)} {ls : List (Kind m)} → Hands Qs all ks ls → Hands Qs all (shown j ok R ∷ ks) ls
  shows : {R : RattleType} {j i : ℕ} {ok : Within n j} {ok' : Within m i} {ks : List (Kind n)} {ls : List (Kind m)} → Hands Qs all ks ls → Hands Qs all (shown j ok R ∷ ks) (shown i ok' R ∷ ls)
  gives : {R : RattleType} {j i : ℕ} {ok : Within n j} {ok' : Within m i} {ks : List (Kind n)} {ls : List (Kind m)} → Hands Qs all ks ls → Hands Qs all (handed j ok R ∷ ks) (handed i ok' R ∷ ls)
  lends : {R : RattleType} {j i : ℕ} {ok : Within n j} {ok' : Within m i} {ks : List (Kind n)} {ls : List (Kind m)} → Hands Qs all ks ls → Hands Qs all (behind j ok R ∷ ks) (behind i ok' R ∷ ls)

-- all parameters in their order
abbrev pub every : {n : ℕ} {Qs : List RattleType} {all : List (Kind n)} (ks : List (Kind n)) → Hands Qs all ks ks
every [] = stop
every (value R ∷ ks) = same (every ks)
every (shown j ok R ∷ ks) = shows (every ks)
every (handed j ok R ∷ ks) = gives (every ks)
every (behind j ok R ∷ ks) = lends (every ks)

-- where the values at hand lie
abbrev pub Spots : List RattleType → Type 0
Spots [] = Unit {0}
Spots (Q ∷ Qs) = ℕ × Spots Qs

abbrev pub number : {n : ℕ} {ks : List (Kind n)} {R : RattleType} → By-value ks R → ℕ → ℕ
number at i = i
number (after-value b) i = number b (suc i)
number (after-shown b) i = number b (suc i)
number (after-handed b) i = number b (suc i)
number (after-behind b) i = number b (suc i)

abbrev pub place_of : {n : ℕ} {ks : List (Kind n)} {Qs : List RattleType} {R : RattleType} → Var ks Qs R → Spots Qs → ℕ
place_of (param b) ms = number b 1
place_of newest ms = ms.0
place_of (older v) ms = place_of v ms.1

module _ {n m : ℕ} {Qs : List RattleType} {all : List (Kind n)} where
  abbrev pub fresh : {ks : List (Kind n)} {ls : List (Kind m)} → Hands Qs all ks ls → List Local
  fresh stop = []
  fresh (found v h) = fresh h
  fresh (same h) = fresh h
  fresh (leave h) = fresh h
  fresh (holds h) = fresh h
  fresh (rests h) = fresh h
  fresh (hides h) = fresh h
  fresh (shows h) = fresh h
  fresh (gives {R = R} h) = by_values (ref-to erased mut R ∷ slice_of erased mut R ∷ []) ++ fresh h
  fresh (lends {R = R} h) = by_values (ref-to erased mut R ∷ []) ++ fresh h

  -- from the i-th local on lie the parameters that are left, and from the k-th on there is room
  abbrev pub moves : {ks : List (Kind n)} {ls : List (Kind m)} → Hands Qs all ks ls → Spots Qs → ℕ → ℕ → (Body → Body) × List ℕ
  moves stop ms i k = ((λ b. b), [])
  moves (found v h) ms i k = let r = moves h ms i k in (r.0, place_of v ms ∷ r.1)
  moves (same h) ms i k = let r = moves h ms (suc i) k in (r.0, i ∷ r.1)
  moves (leave h) ms i k = moves h ms (suc i) k
  moves (holds h) ms i k = moves h ms (suc i) k
  moves (rests h) ms i k = moves h ms (suc i) k
  moves (hides h) ms i k = moves h ms (suc i) k
  moves (shows h) ms i k = let r = moves h ms (suc i) k in (r.0, i ∷ r.1)
  moves (gives {R = R} h) ms i k = let r = moves h ms (suc i) (suc (suc k)) in ((λ b. steps (hands_to R i k (suc k)) (r.0 b)), suc k ∷ r.1)
  moves (lends {R = R} h) ms i k = let r = moves h ms (suc i) (suc k) in ((λ b. steps (sets k (addr_of (place i (deref (ty R) ∷ []))) ∷ []) (r.0 b)), k ∷ r.1)

-- the call of g with these arguments, and others in the locals ps before them. Its result goes to the d-th local
abbrev pub calling : {n m : ℕ} {Qs : List RattleType} {all ks : List (Kind n)} {ls : List (Kind m)} → Hands Qs all ks ls → List ℕ → Callee → Spots Qs → (i d k : ℕ) → Body → Body
calling h ps g ms i d k rest = let r = moves h ms i k in r.0 (seq (call g (its (ps ++ r.1)) (place d [])) rest)

-- ---- what is known of the values at hand
module _ {M : Type 1} {𝓤 : Ura M} (𝓛 : Logic 𝓤) where
  abbrev pub Held : List RattleType → Type 1
  Held [] = Unit {1}
  Held (Q ∷ Qs) = (PlainType 𝓛 Q × Q.Denot) × Held Qs

  abbrev pub word : {R : RattleType} → PlainType 𝓛 R × R.Denot → Val
  word p = p.0.val p.1

  -- the value and the type of one of them
  module _ {n : ℕ} (κs : Lfts n) where
    abbrev pub at-param : {ks : List (Kind n)} {R : RattleType} → By-value ks R → Plains 𝓛 ks → Passed κs ks → PlainType 𝓛 R × R.Denot
    at-param at N a = (N.0, a.0)
    at-param (after-value b) N a = at-param b N.1 a.1
    at-param (after-shown b) N a = at-param b N a.1
    at-param (after-handed b) N a = at-param b N a.1
    at-param (after-behind b) N a = at-param b N a.1

    abbrev pub at-var : {ks : List (Kind n)} {Qs : List RattleType} {R : RattleType} → Var ks Qs R → Held Qs → Plains 𝓛 ks → Passed κs ks → PlainType 𝓛 R × R.Denot
    at-var (param b) hs N a = at-param b N a
    at-var newest hs N a = hs.0
    at-var (older v) hs N a = at-var v hs.1 N a

  -- what is shown can be handed on as a copy
  abbrev pub Twices : {n : ℕ} → List (Kind n) → Type 1
  Twices [] = Unit {1}
  Twices (value R ∷ ks) = Twices ks
  Twices (shown j ok R ∷ ks) = Shown-twice 𝓛 R × Twices ks
  Twices (handed j ok R ∷ ks) = Twices ks
  Twices (behind j ok R ∷ ks) = Twices ks

  -- ---- an item before a list: it goes to the callee, at the lifetime that the callee calls it by, or it stays, or it has come back
  passes : (F : Lft → Fml) {κ μ : Lft} → κ ≡ μ → (Γ Δ : List (Item 𝓤)) (Q : SProp 𝓤) → ent 𝓤 (⋆ 𝓛 Γ) (sep 𝓤 (⋆ 𝓛 Δ) Q) → ent 𝓤 (⋆ 𝓛 (‵ (F κ) ∷ Γ)) (sep 𝓤 (⋆ 𝓛 (‵ (F μ) ∷ Δ)) Q)
  passes F {κ} e Γ Δ Q g =
      let X : SProp 𝓤 = sem 𝓛 (F κ) in
      subst (λ (ν : Lft). ent 𝓤 (⋆ 𝓛 (‵ (F κ) ∷ Γ)) (sep 𝓤 (⋆ 𝓛 (‵ (F ν) ∷ Δ)) Q)) e
      (via 𝓤 (sep 𝓤 X (sep 𝓤 (⋆ 𝓛 Δ) Q)) (paired 𝓛 (F κ) Γ g) (via 𝓤 (sep 𝓤 (sep 𝓤 X (⋆ 𝓛 Δ)) Q) (assoc' 𝓤 X (⋆ 𝓛 Δ) Q) (mono_l 𝓤 Q (push 𝓛 (‵ (F κ)) Δ))))

  stays : (F : Fml) (Γ Δ : List (Item 𝓤)) (P : SProp 𝓤) → ent 𝓤 (⋆ 𝓛 Γ) (sep 𝓤 P (⋆ 𝓛 Δ)) → ent 𝓤 (⋆ 𝓛 (‵ F ∷ Γ)) (sep 𝓤 P (⋆ 𝓛 (‵ F ∷ Δ)))
  stays F Γ Δ P g =
      let X : SProp 𝓤 = sem 𝓛 F in
      via 𝓤 (sep 𝓤 X (sep 𝓤 P (⋆ 𝓛 Δ))) (paired 𝓛 F Γ g) (via 𝓤 (sep 𝓤 (sep 𝓤 P X) (⋆ 𝓛 Δ)) (via 𝓤 (sep 𝓤 (sep 𝓤 X P) (⋆ 𝓛 Δ)) (assoc' 𝓤 X P (⋆ 𝓛 Δ)) (mono_l 𝓤 (⋆ 𝓛 Δ) (comm∗ 𝓤 X P)))
      (via 𝓤 (sep 𝓤 P (sep 𝓤 X (⋆ 𝓛 Δ))) (assoc∗ 𝓤 P X (⋆ 𝓛 Δ)) (mono_r 𝓤 P (push 𝓛 (‵ F) Δ))))

  returns : (F : Fml) (Γ Δ : List (Item 𝓤)) (Q : SProp 𝓤) → ent 𝓤 (sep 𝓤 (⋆ 𝓛 Γ) Q) (⋆ 𝓛 Δ) → ent 𝓤 (sep 𝓤 (⋆ 𝓛 (‵ F ∷ Γ)) Q) (⋆ 𝓛 (‵ F ∷ Δ))
  returns F Γ Δ Q g =
      let X : SProp 𝓤 = sem 𝓛 F in
      via 𝓤 (sep 𝓤 (sep 𝓤 X (⋆ 𝓛 Γ)) Q) (mono_l 𝓤 Q (pop 𝓛 (‵ F) Γ)) (via 𝓤 (sep 𝓤 X (sep 𝓤 (⋆ 𝓛 Γ) Q)) (assoc∗ 𝓤 X (⋆ 𝓛 Γ) Q) (listed 𝓛 F Δ (id⊢ 𝓤 X) g))

  returns-at : (F : Lft → Fml) {κ μ : Lft} → κ ≡ μ → (Γ Δ : List (Item 𝓤)) (Q : SProp 𝓤) → ent 𝓤 (sep 𝓤 (⋆ 𝓛 Γ) Q) (⋆ 𝓛 Δ) → ent 𝓤 (sep 𝓤 (⋆ 𝓛 (‵ (F μ) ∷ Γ)) Q) (⋆ 𝓛 (‵ (F κ) ∷ Δ))
  returns-at F {κ} e Γ Δ Q g = subst (λ (ν : Lft). ent 𝓤 (sep 𝓤 (⋆ 𝓛 (‵ (F ν) ∷ Γ)) Q) (⋆ 𝓛 (‵ (F κ) ∷ Δ))) e (returns (F κ) Γ Δ Q g)

  ends : (F F' : Fml) (Γ Δ : List (Item 𝓤)) (P : SProp 𝓤) → ent 𝓤 (sem 𝓛 F) (sem 𝓛 F') → ent 𝓤 (sep 𝓤 P (⋆ 𝓛 Γ)) (⋆ 𝓛 Δ) → ent 𝓤 (sep 𝓤 P (⋆ 𝓛 (‵ F ∷ Γ))) (⋆ 𝓛 (‵ F' ∷ Δ))
  ends F F' Γ Δ P f g =
      let X : SProp 𝓤 = sem 𝓛 F in
      via 𝓤 (sep 𝓤 P (sep 𝓤 X (⋆ 𝓛 Γ))) (mono_r 𝓤 P (pop 𝓛 (‵ F) Γ)) (via 𝓤 (sep 𝓤 (sep 𝓤 X P) (⋆ 𝓛 Γ)) (via 𝓤 (sep 𝓤 (sep 𝓤 P X) (⋆ 𝓛 Γ)) (assoc' 𝓤 P X (⋆ 𝓛 Γ)) (mono_l 𝓤 (⋆ 𝓛 Γ) (comm∗ 𝓤 P X)))
      (via 𝓤 (sep 𝓤 X (sep 𝓤 P (⋆ 𝓛 Γ))) (assoc∗ 𝓤 X P (⋆ 𝓛 Γ)) (listed 𝓛 F' Δ f g)))

  -- what is lent as `&mut` and let go as it is
  module _ {n : ℕ} (κs : Lfts n) where
    abbrev pub nows : (ks : List (Kind n)) → Passed κs ks → Ends κs ks
    nows [] a = tt
    nows (value R ∷ ks) a = nows ks a.1
    nows (shown j ok R ∷ ks) a = nows ks a.1
    nows (handed j ok R ∷ ks) a = (a.0.now, nows ks a.1)
    nows (behind j ok R ∷ ks) a = (a.0.now, nows ks a.1)

    pub lens-now : (ks : List (Kind n)) (N : Plains 𝓛 ks) (a : Passed κs ks) → Lens κs ks a (ending 𝓛 κs ks N a (nows ks a))
    lens-now [] N a = tt
    lens-now (value R ∷ ks) N a = lens-now ks N.1 a.1
    lens-now (shown j ok R ∷ ks) N a = lens-now ks N a.1
    lens-now (handed j ok R ∷ ks) N a = (refl, lens-now ks N a.1)
    lens-now (behind j ok R ∷ ks) N a = lens-now ks N a.1

    pub let_go : (ks : List (Kind n)) (N : Plains 𝓛 ks) (a : Passed κs ks) → ent 𝓤 (⋆ 𝓛 (given-of κs ks a)) (⋆ 𝓛 (finals κs ks a (ending 𝓛 κs ks N a (nows ks a))))
    let_go [] N a = id⊢ 𝓤 _
    let_go (value R ∷ ks) N a = let_go ks N.1 a.1
    let_go (shown j ok R ∷ ks) N a = drop⊢ 𝓛 (‵ (shared R (lft_at n j ok κs) a.0)) (given-of κs ks a.1) _ (let_go ks N a.1)
    let_go (handed j ok R ∷ ks) N a =
        let F : Fml = slice-last R (lft_at n j ok κs) a.0 a.0.now in
        let Δ : List (Item 𝓤) = finals κs ks a.1 (ending 𝓛 κs ks N a.1 (nows ks a.1)) in
        via 𝓤 (sep 𝓤 (sem 𝓛 (mut_slice R (lft_at n j ok κs) a.0)) (⋆ 𝓛 Δ)) (paired 𝓛 (mut_slice R (lft_at n j ok κs) a.0) (given-of κs ks a.1) (let_go ks N a.1)) (listed 𝓛 F Δ (seen-row 𝓛 R a.0 (lft_at n j ok κs)) (id⊢ 𝓤 _))
    let_go (behind j ok R ∷ ks) N a =
        let F : Fml = ref-last R (lft_at n j ok κs) a.0 a.0.now in
        let Δ : List (Item 𝓤) = finals κs ks a.1 (ending 𝓛 κs ks N a.1 (nows ks a.1)) in
        via 𝓤 (sep 𝓤 (sem 𝓛 (mut-ref R (lft_at n j ok κs) a.0)) (⋆ 𝓛 Δ)) (paired 𝓛 (mut-ref R (lft_at n j ok κs) a.0) (given-of κs ks a.1) (let_go ks N a.1)) (listed 𝓛 F Δ (seen_ref 𝓛 R a.0 (lft_at n j ok κs)) (id⊢ 𝓤 _))

  module _ {n m : ℕ} (κs : Lfts n) (μs : Lfts m) {Qs : List RattleType} {all : List (Kind n)} (x : (R : RattleType) → Var all Qs R → PlainType 𝓛 R × R.Denot) where
    -- the lifetimes of what is handed on are the callee's
    abbrev pub Agree : {ks : List (Kind n)} {ls : List (Kind m)} → Hands Qs all ks ls → Type 0
    Agree stop = Unit {0}
    Agree (found v h) = Agree h
    Agree (same h) = Agree h
    Agree (leave h) = Agree h
    Agree (holds h) = Agree h
    Agree (rests h) = Agree h
    Agree (hides h) = Agree h
    Agree (shows {j = j} {i = i} {ok = ok} {ok' = ok'} h) = (lft_at n j ok κs ≡ lft_at m i ok' μs) × Agree h
    Agree (gives {j = j} {i = i} {ok = ok} {ok' = ok'} h) = (lft_at n j ok κs ≡ lft_at m i ok' μs) × Agree h
    Agree (lends {j = j} {i = i} {ok = ok} {ok' = ok'} h) = (lft_at n j ok κs ≡ lft_at m i ok' μs) × Agree h

    abbrev pub plains : {ks : List (Kind n)} {ls : List (Kind m)} → Hands Qs all ks ls → Plains 𝓛 ks → Plains 𝓛 ls
    plains stop N = tt
    plains (found {R = R} v h) N = ((x R v).0, plains h N)
    plains (same h) N = (N.0, plains h N.1)
    plains (leave h) N = plains h N.1
    plains (holds h) N = plains h N
    plains (rests h) N = plains h N
    plains (hides h) N = plains h N
    plains (shows h) N = plains h N
    plains (gives h) N = plains h N
    plains (lends h) N = plains h N

    abbrev pub args : {ks : List (Kind n)} {ls : List (Kind m)} → Hands Qs all ks ls → Passed κs ks → Passed μs ls
    args stop a = tt
    args (found {R = R} v h) a = ((x R v).1, args h a)
    args (same h) a = (a.0, args h a.1)
    args (leave h) a = args h a.1
    args (holds h) a = args h a.1
    args (rests h) a = args h a.1
    args (hides h) a = args h a.1
    args (shows h) a = (a.0, args h a.1)
    args (gives h) a = (a.0, args h a.1)
    args (lends h) a = (a.0, args h a.1)

    pub sure : ((R : RattleType) (v : Var all Qs R) → Is R (x R v).1 (word (x R v) ∷ [])) → {ks : List (Kind n)} {ls : List (Kind m)} (h : Hands Qs all ks ls) (N : Plains 𝓛 ks) (a : Passed κs ks) → Facts 𝓛 κs ks N a → Sure 𝓛 μs ls (plains h N) (args h a)
    sure is_at stop N a so = tt
    sure is_at (found {R = R} v h) N a so = (is_at R v, sure is_at h N a so)
    sure is_at (same h) N a so = (so.0, sure is_at h N.1 a.1 so.1)
    sure is_at (leave h) N a so = sure is_at h N.1 a.1 so.1
    sure is_at (holds h) N a so = sure is_at h N a.1 so
    sure is_at (rests h) N a so = sure is_at h N a.1 so.1
    sure is_at (hides h) N a so = sure is_at h N a.1 so.1
    sure is_at (shows h) N a so = sure is_at h N a.1 so.1
    sure is_at (gives h) N a so = sure is_at h N a.1 so.1
    sure is_at (lends h) N a so = sure is_at h N a.1 so

    -- of a slice that is shown on a copy stays
    abbrev pub kept : {ks : List (Kind n)} {ls : List (Kind m)} → Hands Qs all ks ls → Passed κs ks → List (Item 𝓤)
    kept (stop {ks = ks}) a = given-of κs ks a
    kept (found v h) a = kept h a
    kept (same h) a = kept h a.1
    kept (leave h) a = kept h a.1
    kept (holds {R = R} {j = j} {ok = ok} h) a = ‵ (mut-ref R (lft_at n j ok κs) a.0) ∷ kept h a.1
    kept (rests {R = R} {j = j} {ok = ok} h) a = ‵ (mut_slice R (lft_at n j ok κs) a.0) ∷ kept h a.1
    kept (hides {R = R} {j = j} {ok = ok} h) a = ‵ (shared R (lft_at n j ok κs) a.0) ∷ kept h a.1
    kept (shows {R = R} {j = j} {ok = ok} h) a = ‵ (shared R (lft_at n j ok κs) a.0) ∷ kept h a.1
    kept (gives h) a = kept h a.1
    kept (lends h) a = kept h a.1

    pub lent : {ks : List (Kind n)} {ls : List (Kind m)} (h : Hands Qs all ks ls) → Twices ks → Agree h → (a : Passed κs ks) → ent 𝓤 (⋆ 𝓛 (given-of κs ks a)) (sep 𝓤 (⋆ 𝓛 (given-of μs ls (args h a))) (⋆ 𝓛 (kept h a)))
    lent (stop {ks = ks}) w e a = emp∗ 𝓤 (⋆ 𝓛 (given-of κs ks a))
    lent (found v h) w e a = lent h w e a
    lent (same h) w e a = lent h w e a.1
    lent (leave h) w e a = lent h w e a.1
    lent (holds {R = R} {j = j} {ok = ok} {ks = ks} {ls = ls} h) w e a = stays (mut-ref R (lft_at n j ok κs) a.0) (given-of κs ks a.1) (kept h a.1) (⋆ 𝓛 (given-of μs ls (args h a.1))) (lent h w e a.1)
    lent (rests {R = R} {j = j} {ok = ok} {ks = ks} {ls = ls} h) w e a = stays (mut_slice R (lft_at n j ok κs) a.0) (given-of κs ks a.1) (kept h a.1) (⋆ 𝓛 (given-of μs ls (args h a.1))) (lent h w e a.1)
    lent (hides {R = R} {j = j} {ok = ok} {ks = ks} {ls = ls} h) w e a = stays (shared R (lft_at n j ok κs) a.0) (given-of κs ks a.1) (kept h a.1) (⋆ 𝓛 (given-of μs ls (args h a.1))) (lent h w.1 e a.1)
    lent (shows {R = R} {j = j} {ok = ok} {ks = ks} {ls = ls} h) w e a =
        let κ : Lft = lft_at n j ok κs in
        let S : Fml = shared R κ a.0 in
        let Γ : List (Item 𝓤) = given-of κs ks a.1 in
        via 𝓤 (⋆ 𝓛 (‵ S ∷ ‵ S ∷ Γ)) (cut⊢ 𝓛 (‵ S ∷ []) (‵ S ∷ ‵ S ∷ []) Γ (⋆ 𝓛 (‵ S ∷ ‵ S ∷ Γ)) ((w.0 κ).twice a.0 (shr_slice_vals a.0)) (id⊢ 𝓤 _))
        (passes (λ μ. shared R μ a.0) e.0 (‵ S ∷ Γ) (given-of μs ls (args h a.1)) (⋆ 𝓛 (‵ S ∷ kept h a.1)) (stays S Γ (kept h a.1) (⋆ 𝓛 (given-of μs ls (args h a.1))) (lent h w.1 e.1 a.1)))
    lent (gives {R = R} {ks = ks} {ls = ls} h) w e a = passes (λ μ. mut_slice R μ a.0) e.0 (given-of κs ks a.1) (given-of μs ls (args h a.1)) (⋆ 𝓛 (kept h a.1)) (lent h w e.1 a.1)
    lent (lends {R = R} {ks = ks} {ls = ls} h) w e a = passes (λ μ. mut-ref R μ a.0) e.0 (given-of κs ks a.1) (given-of μs ls (args h a.1)) (⋆ 𝓛 (kept h a.1)) (lent h w e.1 a.1)

    -- ---- a call that changes nothing: all that was given is there again
    abbrev pub Quiet : {ks : List (Kind n)} {ls : List (Kind m)} → Hands Qs all ks ls → Type 0
    Quiet stop = Unit {0}
    Quiet (found v h) = Quiet h
    Quiet (same h) = Quiet h
    Quiet (leave h) = Quiet h
    Quiet (holds h) = Quiet h
    Quiet (rests h) = Quiet h
    Quiet (hides h) = Quiet h
    Quiet (shows h) = Quiet h
    Quiet (gives h) = ⊥
    Quiet (lends h) = ⊥

    pub restored : {ks : List (Kind n)} {ls : List (Kind m)} (h : Hands Qs all ks ls) → Quiet h → (a : Passed κs ks) → kept h a ≡ given-of κs ks a
    restored stop q a = refl
    restored (found v h) q a = restored h q a
    restored (same h) q a = restored h q a.1
    restored (leave h) q a = restored h q a.1
    restored (holds {R = R} {j = j} {ok = ok} h) q a = ap {B = List (Item 𝓤)} (λ Γ. ‵ (mut-ref R (lft_at n j ok κs) a.0) ∷ Γ) (restored h q a.1)
    restored (rests {R = R} {j = j} {ok = ok} h) q a = ap {B = List (Item 𝓤)} (λ Γ. ‵ (mut_slice R (lft_at n j ok κs) a.0) ∷ Γ) (restored h q a.1)
    restored (hides {R = R} {j = j} {ok = ok} h) q a = ap {B = List (Item 𝓤)} (λ Γ. ‵ (shared R (lft_at n j ok κs) a.0) ∷ Γ) (restored h q a.1)
    restored (shows {R = R} {j = j} {ok = ok} h) q a = ap {B = List (Item 𝓤)} (λ Γ. ‵ (shared R (lft_at n j ok κs) a.0) ∷ Γ) (restored h q a.1)
    restored (gives h) q a = absurd q
    restored (lends h) q a = absurd q

    -- ---- the last call: what the callee left in what was handed on, and the rest as it was
    abbrev pub ends_of : {ks : List (Kind n)} {ls : List (Kind m)} (h : Hands Qs all ks ls) (a : Passed κs ks) → Lasting μs ls (args h a) → Ends κs ks
    ends_of (stop {ks = ks}) a ws = nows κs ks a
    ends_of (found v h) a ws = ends_of h a ws.1
    ends_of (same h) a ws = ends_of h a.1 ws.1
    ends_of (leave h) a ws = ends_of h a.1 ws
    ends_of (holds h) a ws = (a.0.now, ends_of h a.1 ws)
    ends_of (rests h) a ws = (a.0.now, ends_of h a.1 ws)
    ends_of (hides h) a ws = ends_of h a.1 ws
    ends_of (shows h) a ws = ends_of h a.1 ws.1
    ends_of (gives h) a ws = (ws.0, ends_of h a.1 ws.1)
    ends_of (lends h) a ws = (ws.0, ends_of h a.1 ws.1)

    pub settled : {ks : List (Kind n)} {ls : List (Kind m)} (h : Hands Qs all ks ls) → Agree h → (N : Plains 𝓛 ks) (a : Passed κs ks) (ws : Lasting μs ls (args h a))
        → ent 𝓤 (sep 𝓤 (⋆ 𝓛 (finals μs ls (args h a) ws)) (⋆ 𝓛 (kept h a))) (⋆ 𝓛 (finals κs ks a (ending 𝓛 κs ks N a (ends_of h a ws))))
    settled (stop {ks = ks}) g N a ws = via 𝓤 (⋆ 𝓛 (given-of κs ks a)) (snd∗ 𝓤 (⋆ 𝓛 []) (⋆ 𝓛 (given-of κs ks a))) (let_go κs ks N a)
    settled (found v h) g N a ws = settled h g N a ws.1
    settled (same h) g N a ws = settled h g N.1 a.1 ws.1
    settled (leave h) g N a ws = settled h g N.1 a.1 ws
    settled (holds {R = R} {j = j} {ok = ok} {ks = ks} {ls = ls} h) g N a ws =
        ends (mut-ref R (lft_at n j ok κs) a.0) (ref-last R (lft_at n j ok κs) a.0 a.0.now) (kept h a.1) (finals κs ks a.1 (ending 𝓛 κs ks N a.1 (ends_of h a.1 ws))) (⋆ 𝓛 (finals μs ls (args h a.1) ws)) (seen_ref 𝓛 R a.0 (lft_at n j ok κs)) (settled h g N a.1 ws)
    settled (rests {R = R} {j = j} {ok = ok} {ks = ks} {ls = ls} h) g N a ws =
        ends (mut_slice R (lft_at n j ok κs) a.0) (slice-last R (lft_at n j ok κs) a.0 a.0.now) (kept h a.1) (finals κs ks a.1 (ending 𝓛 κs ks N a.1 (ends_of h a.1 ws))) (⋆ 𝓛 (finals μs ls (args h a.1) ws)) (seen-row 𝓛 R a.0 (lft_at n j ok κs)) (settled h g N a.1 ws)
    settled (hides {R = R} {j = j} {ok = ok} {ls = ls} h) g N a ws =
        let F : SProp 𝓤 = ⋆ 𝓛 (finals μs ls (args h a.1) ws) in
        via 𝓤 (sep 𝓤 F (⋆ 𝓛 (kept h a.1))) (mono_r 𝓤 F (drop⊢ 𝓛 (‵ (shared R (lft_at n j ok κs) a.0)) (kept h a.1) (⋆ 𝓛 (kept h a.1)) (id⊢ 𝓤 _))) (settled h g N a.1 ws)
    settled (shows {R = R} {j = j} {ok = ok} {ls = ls} h) g N a ws =
        let F : SProp 𝓤 = ⋆ 𝓛 (finals μs ls (args h a.1) ws.1) in
        via 𝓤 (sep 𝓤 F (⋆ 𝓛 (kept h a.1))) (mono_r 𝓤 F (drop⊢ 𝓛 (‵ (shared R (lft_at n j ok κs) a.0)) (kept h a.1) (⋆ 𝓛 (kept h a.1)) (id⊢ 𝓤 _))) (settled h g.1 N a.1 ws.1)
    settled (gives {R = R} {j = j} {i = i} {ok = ok} {ok' = ok'} {ks = ks} {ls = ls} h) g N a ws =
        returns-at (λ μ. slice-last R μ a.0 ws.0) g.0 (finals μs ls (args h a.1) ws.1) (finals κs ks a.1 (ending 𝓛 κs ks N a.1 (ends_of h a.1 ws.1))) (⋆ 𝓛 (kept h a.1)) (settled h g.1 N a.1 ws.1)
    settled (lends {R = R} {j = j} {i = i} {ok = ok} {ok' = ok'} {ks = ks} {ls = ls} h) g N a ws =
        returns-at (λ μ. ref-last R μ a.0 ws.0) g.0 (finals μs ls (args h a.1) ws.1) (finals κs ks a.1 (ending 𝓛 κs ks N a.1 (ends_of h a.1 ws.1))) (⋆ 𝓛 (kept h a.1)) (settled h g.1 N a.1 ws.1)

    pub lengths : {ks : List (Kind n)} {ls : List (Kind m)} (h : Hands Qs all ks ls) (N : Plains 𝓛 ks) (a : Passed κs ks) (ws : Lasting μs ls (args h a)) → Lens μs ls (args h a) ws → Lens κs ks a (ending 𝓛 κs ks N a (ends_of h a ws))
    lengths (stop {ks = ks}) N a ws l = lens-now κs ks N a
    lengths (found v h) N a ws l = lengths h N a ws.1 l
    lengths (same h) N a ws l = lengths h N.1 a.1 ws.1 l
    lengths (leave h) N a ws l = lengths h N.1 a.1 ws l
    lengths (holds h) N a ws l = lengths h N a.1 ws l
    lengths (rests h) N a ws l = (refl, lengths h N a.1 ws l)
    lengths (hides h) N a ws l = lengths h N a.1 ws l
    lengths (shows h) N a ws l = lengths h N a.1 ws.1 l
    lengths (gives h) N a ws l = (l.0, lengths h N a.1 ws.1 l.1)
    lengths (lends h) N a ws l = lengths h N a.1 ws.1 l

  -- all parameters in their order go at the caller's lifetimes
  pub every-agrees : {n : ℕ} (κs : Lfts n) {Qs : List RattleType} {all : List (Kind n)} (x : (R : RattleType) → Var all Qs R → PlainType 𝓛 R × R.Denot) (ks : List (Kind n)) → Agree κs κs x (every ks)
  every-agrees κs x [] = tt
  every-agrees κs x (value R ∷ ks) = every-agrees κs x ks
  every-agrees κs x (shown j ok R ∷ ks) = (refl, every-agrees κs x ks)
  every-agrees κs x (handed j ok R ∷ ks) = (refl, every-agrees κs x ks)
  every-agrees κs x (behind j ok R ∷ ks) = (refl, every-agrees κs x ks)

-- ---- the statements that hand on
module _ {M : Type 1} {𝓤 : Ura M} (𝓛 : Logic 𝓤) {n : ℕ} (κs : Lfts n) where
  -- the machine values of the parameters
  abbrev pub words : (ks : List (Kind n)) → Plains 𝓛 ks → Passed κs ks → List Val
  words ks N a = flat (types_at (slots ks) κs) (machine 𝓛 κs ks N a)

  abbrev pub Values : List RattleType → List (Kind n) → Type 2
  Values Qs all = (R : RattleType) → Var all Qs R → PlainType 𝓛 R × R.Denot

  abbrev pub Vars : {Qs : List RattleType} {all : List (Kind n)} → Values Qs all → Spots Qs → Layout → Store → ℕ → Type 2
  Vars {Qs} {all} x ms E us k = (R : RattleType) (v : Var all Qs R) → Known E us k (place_of v ms) (ty R) (word 𝓛 (x R v))

module _ {M : Type 1} {𝓤 : Ura M} (𝓛 : Logic 𝓤) {C : Calls 𝓤 𝓛.H} {Λ : Loops 𝓤 𝓛.H} {q : After 𝓤 𝓛.H} {Γ : List (Item 𝓤)} (E : Layout)
    {n m : ℕ} (κs : Lfts n) (μs : Lfts m) {Qs : List RattleType} {all : List (Kind n)} (x : Values 𝓛 κs Qs all) (ms : Spots Qs) where
  open 𝓛 use {H}

  pub hands_in : {ks : List (Kind n)} {ls : List (Kind m)} (h : Hands Qs all ks ls) (N : Plains 𝓛 ks) (a : Passed κs ks) → Facts 𝓛 κs ks N a → (us : Store) (i k : ℕ) → Params E us k i (param-types ks) (words 𝓛 κs ks N a) → Vars 𝓛 κs x ms E us k → Locals-are E k (fresh h) → {rest : Body}
      → ((us' : Store) → Same k us us' → Lie E us' (moves h ms i k).1 (words 𝓛 μs ls (plains 𝓛 κs μs x h N) (args 𝓛 κs μs x h a)) → Seq (Go {0}) 𝓛 (raw (frame 𝓤 H E us') ∷ Γ) (runs C Λ E rest q))
      → Seq (Go {0}) 𝓛 (raw (frame 𝓤 H E us) ∷ Γ) (runs C Λ E ((moves h ms i k).0 rest) q)
  hands_in stop N a so us i k ps vs ts c = c us (λ _ _. refl) tt
  hands_in (found {R = R} v h) N a so us i k ps vs ts c = hands_in h N a so us i k ps vs ts (λ us' s l. c us' s (lies s (vs R v), l))
  hands_in (same h) N a so us i k ps vs ts c = hands_in h N.1 a.1 so.1 us (suc i) k ps.1 vs ts (λ us' s l. c us' s (lies s ps.0, l))
  hands_in (leave h) N a so us i k ps vs ts c = hands_in h N.1 a.1 so.1 us (suc i) k ps.1 vs ts c
  hands_in (holds h) N a so us i k ps vs ts c = hands_in h N a.1 so us (suc i) k ps.1 vs ts c
  hands_in (rests h) N a so us i k ps vs ts c = hands_in h N a.1 so.1 us (suc i) k ps.1 vs ts c
  hands_in (hides h) N a so us i k ps vs ts c = hands_in h N a.1 so.1 us (suc i) k ps.1 vs ts c
  hands_in (shows h) N a so us i k ps vs ts c = hands_in h N a.1 so.1 us (suc i) k ps.1 vs ts (λ us' s l. c us' s (lies s ps.0, l))
  hands_in (gives {R = R} {ks = ks} h) N a so us i k ps vs ts c =
      let us₁ : Store = put k (some (vptr a.0.ref_ptr.0 a.0.ref_ptr.1)) us in
      let us₂ : Store = put (suc k) (some (mut-slice-val a.0)) us₁ in
      let s₂ : Same k us us₂ = then_same (one_more k) (put_same k (some (vptr a.0.ref_ptr.0 a.0.ref_ptr.1)) us) (put_same (suc k) (some (mut-slice-val a.0)) us₁) in
      let l₂ : k ≤ suc (suc k) = less (one_more (suc k)) in
      slice_in ! E us i k R ps.0 ts.0 (tt, tt) ts.1.0 (fits-slice so.0.0) $
      hands_in h N a.1 so.1 us₂ (suc i) (suc (suc k)) (still-params E s₂ l₂ (suc i) (param-types ks) (words 𝓛 κs ks N a.1) ps.1) (λ R v. still s₂ l₂ (vs R v)) ts.1.1 (λ us' s l. c us' (then_same l₂ s₂ s) (lies s (newly (mut-slice-val a.0) us₁ ts.1.0), l))
  hands_in (lends {R = R} {ks = ks} h) N a so us i k ps vs ts c =
      let v : Val = vptr a.0.ref_ptr.0 a.0.ref_ptr.1 in
      let us₁ : Store = put k (some v) us in
      let s₁ : Same k us us₁ = put_same k (some v) us in
      sets-in ! E us k ts.0 (tt, tt) (addr ! (points-in ! E us i ps.0)) $
      hands_in h N a.1 so us₁ (suc i) (suc k) (still-params E s₁ (one_more k) (suc i) (param-types ks) (words 𝓛 κs ks N a.1) ps.1) (λ R v. still s₁ (one_more k) (vs R v)) ts.1 (λ us' s l. c us' (then_same (one_more k) s₁ s) (lies s (newly v us ts.0), l))

-- ---- a call whose arguments lie in locals, and whose result lands in one. Of the rest of the context the callee is handed a part, and Z stays
module _ {M : Type 1} {𝓤 : Ura M} (𝓛 : Logic 𝓤) (𝓣 : Tables 𝓤 𝓛.H) (E : Layout) (f : Form) (N : Plains 𝓛 f.params) (μs : Lfts f.lifetimes) (qs : Shares f.lifetimes) (a : Passed μs f.params) (P : PlainType 𝓛 f.result) where
  open 𝓛 use {H}

  pub calls-in : {g : Callee} → Triple 𝓤 (𝓣.C g) (met f 𝓤 𝓛) → Sure 𝓛 μs f.params N a → (us : Store) (ps : List ℕ) → Lie E us ps (words 𝓛 μs f.params N a) → (d : ℕ) → Local-is E d (ty f.result) → (X Z : SProp 𝓤) → ent 𝓤 X (sep 𝓤 (⋆ 𝓛 (tokens f.lifetimes μs qs ++ given-of μs f.params a)) Z) → {rest : Body} {q : After 𝓤 H}
      → ((r : f.result.Denot) (ws : Lasting μs f.params a) → f.says_of μs a r (left_at f μs a ws) → Lens μs f.params a ws → Is f.result r (P.val r ∷ [])
      → Seq (Go {0}) 𝓛 (raw (frame 𝓤 H E (put d (some (P.val r)) us)) ∷ raw (sep 𝓤 (⋆ 𝓛 (tokens f.lifetimes μs qs ++ finals μs f.params a ws)) Z) ∷ []) (runs 𝓣.C 𝓣.Λ E rest q))
      → Seq (Go {0}) 𝓛 (raw (frame 𝓤 H E us) ∷ raw X ∷ []) (runs 𝓣.C 𝓣.Λ E (seq (call g (its ps) (place d [])) rest) q)
  calls-in known so us ps lie d is X Z out k =
      let F : SProp 𝓤 = frame 𝓤 H E us in
      let B : List (Item 𝓤) = tokens f.lifetimes μs qs ++ given-of μs f.params a in
      turns (B ++ raw Z ∷ raw F ∷ [])
      (via 𝓤 (sep 𝓤 F (sep 𝓤 (⋆ 𝓛 B) Z)) (mono_r 𝓤 F out) (via 𝓤 (sep 𝓤 (sep 𝓤 (⋆ 𝓛 B) Z) F) (comm∗ 𝓤 F (sep 𝓤 (⋆ 𝓛 B) Z)) (via 𝓤 (sep 𝓤 (⋆ 𝓛 B) (sep 𝓤 Z F)) (assoc∗ 𝓤 (⋆ 𝓛 B) Z F) (++⊢ 𝓛 B (raw Z ∷ raw F ∷ []))))) $
      calls 𝓛 f N μs qs a P {Γ = raw Z ∷ raw F ∷ []} 𝓣 known so ! (vars-in ! 2 E us ps (words 𝓛 μs f.params N a) refl lie) (λ r ws e ls r-is.
      let D : List (Item 𝓤) = tokens f.lifetimes μs qs ++ finals μs f.params a ws in
      turns (raw F ∷ raw (sep 𝓤 (⋆ 𝓛 D) Z) ∷ [])
      (via 𝓤 (sep 𝓤 (⋆ 𝓛 D) (sep 𝓤 Z F)) (⊢++ 𝓛 D (raw Z ∷ raw F ∷ [])) (via 𝓤 (sep 𝓤 (sep 𝓤 (⋆ 𝓛 D) Z) F) (assoc' 𝓤 (⋆ 𝓛 D) Z F) (comm∗ 𝓤 (sep 𝓤 (⋆ 𝓛 D) Z) F))) $
      lands-in ! E us d is (has P r r-is) $ k r ws e ls r-is)
