-- Looks and pieces for a function whose first parameter is lent: a `&[R]`, a `&mut R` whose record is copied, or a `&mut [R]` that is shown as a whole or of which one element is lent on.
-- Assumes nothing.
--     copied B T l     a look with a copy of the record at hand: in `g(*b, ..)` it is the newest value
--     asks-row F g     a look, `g(row)`: the row is shown for the time of the call.        asks-slice F g     the same of a `&[R]`
--     how-many         a look, `row.len()`.        how-many-shown     the same of a `&[R]`
--     at_place v F g p q     the piece `let at = g(x); if at < row.len() { p } q`, of one value at hand: it says `r ≡ F x`. For p and q it is the newest
--     at-shown         the same of a `&[R]`.        copies_at B T v z p     the piece p with a copy of the element at v at hand, as in `g(row[at], ..)`: the newest value, in no local that has a name. z is what stands past the end
--     lends-at v z ls h S g     the piece `g(&mut row[at], ..)`, whose answer is returned: the element is lent for the time of the call, and h hands on of the other parameters. z is what stands past the end
--     first_key, later-keys     the token of the first lifetime, and those of all others
use mathlib.Core.Path.{◌≡◌, refl, sym, ◌∙◌, ap, subst}
use Prim.Native.Nat.{ℕ, zero, suc, ◌<◌, ◌≤◌, ◌*◌}
use mathlib.Core.List.{List, [], ◌∷◌, ◌++◌}
use mathlib.Core.Option.{some}
use lib.Dec.{ltb, ltb→lt, nltb→le}
use lib.ListN.{length, get_or, length-set}
use lib.ListN.{set as set_at}
use seplogic.Ra.Ura.{Ura}
use base.Fraction.{full_share}
use mir.Syntax.{Ty, Callee, Local, Body, erased, imm, mut, w64, unsigned, lt, ty_int, ty_bool, ty_ptr, offset, addr_of, return, place, deref, copy, rv_opd, op2, seq, call, cond, skip}
use mir.Val.{Val, vint, vbool, vptr}
use base.Logic.{SProp, ent, sep, via, id⊢, comm∗, mono_l, mono_r}
use base.Fml.{Fml, Lft, Share, GName, flft}
use prog.Wp.{Calls, Loops, Tables, at_return, returns as returned}
use types.Logic.{Logic, sem}
use types.Kit.{Go, Item, ‵, raw, ◌⊛◌, ⋆, push, pop, ++⊢, ⊢++, Post as After, post, Goal, runs, Seq, Step, step, ◌$◌, ◌∵◌, !, qed, by, move, use1, use2, split}
use types.Run.{Rv, load, of_opd, bin, addr, look_raw, and_then, no_more}
use contract.Lifetimes.{Lfts, Shares}
use denote.RattleType.{RattleType}
use denote.Laws.{Is}
use denote.Builtin.{usize}
use denote.Ref.{Bor, MutBor, as_bor}
use denote.Copied.{Copied}
use denote.Slice.{Room, slice_ty}
use denote.Memory.{mem}
use denote.Index.{place_is, shuts_slice}
use denote.Index as Index
use denote.Steps.{only}
use denote.Struct.Declared as D
use denote.Triple.End.{outs, all}
use denote.Triple.Statement.{Triple}
use denote.Exit.{yes}
use Rattle.walks.proofs.Plain.{ty, PlainType, shown-twice, has, uint}
use Rattle.walks.proofs.Walk.{offset-fits, size_fits, size_lit}
use Rattle.walks.proofs.Steps.{it, ptr_of, len_of, sets, steps, by_values, ref-to, slice_of, hands_to, finds-elem, fits-slice, fits-offset}
use Rattle.walks.proofs.OverRow.{takes_out, puts-in, looks-into}
use Rattle.walks.proofs.Form.{Form, Said, Kind, shown, handed, behind, slots, param-types, Passed, Plains, Facts, Lasting, Ends, ending, left_at, met, exits, slice-val, mut-slice-val, slice-last, ref-last, tokens, gives as given-of, finals, mut-ref, mut_slice, shared, paired, listed}
use Rattle.walks.proofs.Callee.{of_one, of-slice, calls-slice, keeps-copy}
use Rattle.walks.proofs.Lent.{elem, ElemKept, settles-as, lends-elem, elem-home, opens-ref, shuts-ref, shows-row, row-home}
use Rattle.walks.proofs.Frame.{itself, one_more, less, up_to, past, past-le, Store, put, put-here, Same, put_same, then_same, Layout, Inside, frame, Local-is, Locals-are, Known, still, newly, still-params, lies, var-in, len-in, ptr-in, points-in, sets-in, slice_in, lands-in, returns-in, turns}
use Rattle.walks.proofs.Hands.{Var, newest, Hands, stop, shows, Spots, place_of, fresh, moves, calling, Held, Twices, words, Agree, args, plains, sure, kept, lent, ends_of, settled, lengths, hands_in, calls-in}
use Rattle.walks.proofs.Pieces.{Scene, Hand, values, whole, End, Runs, still-hand, finds, known-var, Look, Piece, lets, forks, Keys, asks, asks_of}

-- ---- the first token and the first of what is given, apart from the other tokens and the rest
module _ {M : Type 1} {𝓤 : Ura M} (𝓛 : Logic 𝓤) (T X : Fml) (Γ Δ : List (Item 𝓤)) where
  abbrev apart : List (Item 𝓤)
  apart = ‵ T ∷ raw (⋆ 𝓛 Γ) ∷ ‵ X ∷ raw (⋆ 𝓛 Δ) ∷ []

  spread : ent 𝓤 (⋆ 𝓛 (‵ T ∷ Γ ++ ‵ X ∷ Δ)) (⋆ 𝓛 apart)
  spread = paired 𝓛 T (Γ ++ ‵ X ∷ Δ) (via 𝓤 (sep 𝓤 (⋆ 𝓛 Γ) (⋆ 𝓛 (‵ X ∷ Δ))) (⊢++ 𝓛 Γ (‵ X ∷ Δ)) (mono_r 𝓤 (⋆ 𝓛 Γ) (pop 𝓛 (‵ X) Δ)))

  packed : ent 𝓤 (⋆ 𝓛 apart) (⋆ 𝓛 (‵ T ∷ Γ ++ ‵ X ∷ Δ))
  packed = listed 𝓛 T (Γ ++ ‵ X ∷ Δ) (id⊢ 𝓤 (sem 𝓛 T)) (via 𝓤 (sep 𝓤 (⋆ 𝓛 Γ) (⋆ 𝓛 (‵ X ∷ Δ))) (mono_r 𝓤 (⋆ 𝓛 Γ) (push 𝓛 (‵ X) Δ)) (++⊢ 𝓛 Γ (‵ X ∷ Δ)))

-- with something between the two: J stays while what is handed on of the rest goes with them, and what comes back of it ends
module _ {M : Type 1} {𝓤 : Ura M} (𝓛 : Logic 𝓤) (T X : Fml) (Γ Δ Λ : List (Item 𝓤)) (Q : SProp 𝓤) where
  goes-out : (J : Fml) → ent 𝓤 (⋆ 𝓛 Δ) (sep 𝓤 (⋆ 𝓛 Λ) Q) → ent 𝓤 (⋆ 𝓛 (‵ T ∷ ‵ X ∷ ‵ J ∷ raw (⋆ 𝓛 Γ) ∷ raw (⋆ 𝓛 Δ) ∷ [])) (sep 𝓤 (⋆ 𝓛 (‵ T ∷ Γ ++ ‵ X ∷ Λ)) (⋆ 𝓛 (‵ J ∷ raw Q ∷ [])))
  goes-out J h =
      let Z : SProp 𝓤 = ⋆ 𝓛 (‵ J ∷ raw Q ∷ []) in
      qed 𝓛 (‵ T ∷ ‵ X ∷ ‵ J ∷ raw (⋆ 𝓛 Γ) ∷ raw (⋆ 𝓛 Δ) ∷ []) ∵ move ! (4 ∷ []) $ use1 𝓛 (raw (⋆ 𝓛 Λ) ⊛ raw Q) h $ split ! $ move ! (2 ∷ 5 ∷ 3 ∷ 0 ∷ 4 ∷ 1 ∷ []) $
      by ! (via 𝓤 (sep 𝓤 (⋆ 𝓛 (apart 𝓛 T X Γ Λ)) Z) (⊢++ 𝓛 (apart 𝓛 T X Γ Λ) (‵ J ∷ raw Q ∷ [])) (mono_l 𝓤 Z (packed 𝓛 T X Γ Λ)))

  all-ends : ent 𝓤 (sep 𝓤 (⋆ 𝓛 Λ) Q) (⋆ 𝓛 Δ) → ent 𝓤 (⋆ 𝓛 (‵ X ∷ ‵ T ∷ raw (⋆ 𝓛 Γ) ∷ raw (⋆ 𝓛 Λ) ∷ raw Q ∷ [])) (⋆ 𝓛 (‵ T ∷ Γ ++ ‵ X ∷ Δ))
  all-ends h = qed 𝓛 (‵ X ∷ ‵ T ∷ raw (⋆ 𝓛 Γ) ∷ raw (⋆ 𝓛 Λ) ∷ raw Q ∷ []) ∵ move ! (3 ∷ 4 ∷ []) $ use2 𝓛 (raw (⋆ 𝓛 Δ)) h $ move ! (2 ∷ 3 ∷ 1 ∷ 0 ∷ []) $ by ! (packed 𝓛 T X Γ Δ)

-- they stand at the head, and go back
module _ {M : Type 1} {𝓤 : Ura M} {𝓛 : Logic 𝓤} {K : Type 0} {G : Goal 𝓤 𝓛.H} (T X : Fml) (Γ Δ : List (Item 𝓤)) where
  heads : K → (F : SProp 𝓤) → Step K 𝓛 (‵ T ∷ ‵ X ∷ raw F ∷ raw (⋆ 𝓛 Γ) ∷ raw (⋆ 𝓛 Δ) ∷ []) G (raw F ∷ raw (⋆ 𝓛 (‵ T ∷ Γ ++ ‵ X ∷ Δ)) ∷ []) G
  heads t F = step (λ s. turns (raw F ∷ apart 𝓛 T X Γ Δ) (mono_r 𝓤 F (spread 𝓛 T X Γ Δ)) $ move t (1 ∷ 3 ∷ 0 ∷ 2 ∷ 4 ∷ []) $ s)

  homes : K → (F : SProp 𝓤) → Step K 𝓛 (raw F ∷ raw (⋆ 𝓛 (‵ T ∷ Γ ++ ‵ X ∷ Δ)) ∷ []) G (‵ T ∷ ‵ X ∷ raw F ∷ raw (⋆ 𝓛 Γ) ∷ raw (⋆ 𝓛 Δ) ∷ []) G
  homes t F = step (λ s. move t (2 ∷ 0 ∷ 3 ∷ 1 ∷ 4 ∷ []) $ turns (raw F ∷ raw (⋆ 𝓛 (‵ T ∷ Γ ++ ‵ X ∷ Δ)) ∷ []) (mono_r 𝓤 F (packed 𝓛 T X Γ Δ)) $ s)

  -- with J between, and Q beside
  comes-in : K → (F : SProp 𝓤) (J : Fml) (Q : SProp 𝓤) → Step K 𝓛 (‵ T ∷ ‵ X ∷ ‵ J ∷ raw F ∷ raw (⋆ 𝓛 Γ) ∷ raw (⋆ 𝓛 Δ) ∷ raw Q ∷ []) G (raw F ∷ raw (sep 𝓤 (⋆ 𝓛 (‵ T ∷ Γ ++ ‵ X ∷ Δ)) (⋆ 𝓛 (‵ J ∷ raw Q ∷ []))) ∷ []) G
  comes-in t F J Q =
      let Z : SProp 𝓤 = ⋆ 𝓛 (‵ J ∷ raw Q ∷ []) in
      step (λ s. turns (raw F ∷ (apart 𝓛 T X Γ Δ ++ (‵ J ∷ raw Q ∷ []))) (mono_r 𝓤 F (via 𝓤 (sep 𝓤 (⋆ 𝓛 (apart 𝓛 T X Γ Δ)) Z) (mono_l 𝓤 Z (spread 𝓛 T X Γ Δ)) (++⊢ 𝓛 (apart 𝓛 T X Γ Δ) (‵ J ∷ raw Q ∷ [])))) $ move t (1 ∷ 3 ∷ 5 ∷ 0 ∷ 2 ∷ 4 ∷ 6 ∷ []) $ s)

-- a function ends once an element that was lent is home: the row is let go with what the callee left in it
module _ {M : Type 1} {𝓤 : Ura M} (𝓛 : Logic 𝓤) {C : Calls 𝓤 𝓛.H} {Λ : Loops 𝓤 𝓛.H} {q : After 𝓤 𝓛.H} (R : RattleType) (y : MutBor (List R.Denot)) (κ : Lft) (p : Share) (i ν : ℕ) (δ : GName) (z : R.Denot) (Γ F F' : List (Item 𝓤)) (Q : SProp 𝓤) where
  open 𝓛 use {H}

  elem-ends : (E : Layout) (us : Store) {τ : Ty} {v : Val} (Kf : Val → SProp 𝓤) → post 𝓤 H q returned ≡ at_return 𝓤 H E Kf returned → Local-is E zero τ → us zero ≡ some v → i < length y.now → Room R (length y.now) → ent 𝓤 (sep 𝓤 (⋆ 𝓛 F) Q) (⋆ 𝓛 F') → ent 𝓤 (⋆ 𝓛 (‵ (flft κ p) ∷ Γ ++ ‵ (slice-last R κ y (set_at y.now i z)) ∷ F')) (Kf v)
      → Seq (Go {0}) 𝓛 (raw (frame 𝓤 H E us) ∷ raw (sep 𝓤 (⋆ 𝓛 (‵ (flft (ν ∷ []) full_share) ∷ Γ ++ ‵ (ref-last R (ν ∷ []) (elem R y i δ z) z) ∷ F)) (⋆ 𝓛 (‵ (ElemKept R y κ p i ν δ) ∷ raw Q ∷ []))) ∷ []) (runs C Λ E return q)
  elem-ends E us Kf w is e l space settles-rest k =
      comes-in (flft (ν ∷ []) full_share) (ref-last R (ν ∷ []) (elem R y i δ z) z) Γ F ! (frame 𝓤 H E us) (ElemKept R y κ p i ν δ) Q $ elem-home R y ! tt i ν δ z l space $ move ! (1 ∷ []) $ settles-as R y ! κ (set_at y.now i z) (length-set y.now i z) $
      -- [the last row; the row's token; the frame; the other tokens; what the callee left; the rest]
      move ! (2 ∷ []) $ returns-in ! E us Kf w is e (via 𝓤 (⋆ 𝓛 (‵ (flft κ p) ∷ Γ ++ ‵ (slice-last R κ y (set_at y.now i z)) ∷ F')) (all-ends 𝓛 (flft κ p) (slice-last R κ y (set_at y.now i z)) Γ F' F Q settles-rest) k)

-- ---- a scene by its parts
module _ {M : Type 1} {𝓤 : Ura M} (𝓛 : Logic 𝓤) (𝓣 : Tables 𝓤 𝓛.H) {m : ℕ} (ks : List (Kind m)) (O : RattleType) (S : Said ks O) (N : Plains 𝓛 ks) (w : Twices 𝓛 ks) (P : PlainType 𝓛 O) (κs : Lfts m) (qs : Shares m) (a : Passed κs ks) (so : Facts 𝓛 κs ks N a) where
  abbrev scene : Scene 𝓛 (record { lifetimes = m; params = ks; result = O; says_of = S })
  scene = record { 𝓣 = 𝓣; plain = N; answer = P; κs = κs; qs = qs; passed = a; so = so; twice = w }

-- the first token, and the others
module _ {M : Type 1} {𝓤 : Ura M} {𝓛 : Logic 𝓤} {𝓣 : Tables 𝓤 𝓛.H} {m : ℕ} {ks : List (Kind (suc m))} {O : RattleType} {S : Said ks O} {N : Plains 𝓛 ks} {w : Twices 𝓛 ks} {P : PlainType 𝓛 O} {κs : Lfts (suc m)} {qs : Shares (suc m)} {a : Passed κs ks} {so : Facts 𝓛 κs ks N a} where
  abbrev pub first_key : Keys (scene 𝓛 𝓣 ks O S N w P κs qs a so) 1
  first_key = let Γ : List (Item 𝓤) = tokens m κs.1 qs.1 in record { lfts = (κs.0, tt); shares = (qs.0, tt); others = ⋆ 𝓛 Γ; parts = pop 𝓛 (‵ (flft κs.0 qs.0)) Γ; joins = push 𝓛 (‵ (flft κs.0 qs.0)) Γ }

  abbrev pub later-keys : Keys (scene 𝓛 𝓣 ks O S N w P κs qs a so) m
  later-keys =
      let T : Fml = flft κs.0 qs.0 in
      let Γ : List (Item 𝓤) = tokens m κs.1 qs.1 in
      let F : SProp 𝓤 = sem 𝓛 T in
      record { lfts = κs.1; shares = qs.1; others = F; parts = via 𝓤 (sep 𝓤 F (⋆ 𝓛 Γ)) (pop 𝓛 (‵ T) Γ) (comm∗ 𝓤 F (⋆ 𝓛 Γ)); joins = via 𝓤 (sep 𝓤 F (⋆ 𝓛 Γ)) (comm∗ 𝓤 (⋆ 𝓛 Γ) F) (push 𝓛 (‵ T) Γ) }

-- ---- a slice that is shown, the first parameter
pub asks-slice : {M : Type 1} {𝓤 : Ura M} {𝓛 : Logic 𝓤} {𝓣 : Tables 𝓤 𝓛.H} {m : ℕ} {R : RattleType} {ks : List (Kind (suc m))} {O : RattleType} {S : Said (shown zero tt R ∷ ks) O} {N : Plains 𝓛 ks} {w : Twices 𝓛 (shown zero tt R ∷ ks)} {P₀ : PlainType 𝓛 O} {κs : Lfts (suc m)} {qs : Shares (suc m)} {a : Passed κs (shown zero tt R ∷ ks)} {so : Facts 𝓛 κs (shown zero tt R ∷ ks) N a}
    {Qs : List RattleType} {hs : Held 𝓛 Qs} {Q : RattleType} {P : PlainType 𝓛 Q} (F : List R.Denot → Q.Denot) (g : Callee) → Triple 𝓤 (𝓣.C g) (met (of-slice Q R F) 𝓤 𝓛) → Look (scene 𝓛 𝓣 (shown zero tt R ∷ ks) O S N w P₀ κs qs a so) Qs hs Q P (F a.0.now) [] (λ ms d k rest. seq (call g (it 1 ∷ []) (place d [])) rest)
asks-slice {R = R} F g meets = asks (shown zero tt R ∷ []) first_key (shows stop) (λ μs x. F x.0.now) g meets (refl, tt) tt

-- ---- a record behind the first parameter
module _ {M : Type 1} {𝓤 : Ura M} {𝓛 : Logic 𝓤} {𝓣 : Tables 𝓤 𝓛.H} {m : ℕ} {ks : List (Kind (suc m))} {O : RattleType} {N : Plains 𝓛 ks} {w : Twices 𝓛 ks} {P₀ : PlainType 𝓛 O} {κs : Lfts (suc m)} {qs : Shares (suc m)} {Qs : List RattleType} {hs : Held 𝓛 Qs} (B : D.Declared) (T : PlainType 𝓛 (D.row B)) where
  open 𝓛 use {H}

  pub copied : {S : Said (behind zero tt (D.row B) ∷ ks) O} {a : Passed κs (behind zero tt (D.row B) ∷ ks)} {so : Facts 𝓛 κs (behind zero tt (D.row B) ∷ ks) N a} {Q : RattleType} {P : PlainType 𝓛 Q} {z : Q.Denot} {ls : List Local} {l : Spots (D.row B ∷ Qs) → ℕ → ℕ → Body → Body}
      → let c = scene 𝓛 𝓣 (behind zero tt (D.row B) ∷ ks) O S N w P₀ κs qs a so in Look c (D.row B ∷ Qs) ((T, a.0.now), hs) Q P z ls l
      → Look c Qs hs Q P z (by_values (ty (D.row B) ∷ []) ++ ls) (λ ms d k rest. seq (sets k (rv_opd (copy (place 1 (deref (ty (D.row B)) ∷ []))))) (l (k, ms) d (suc k) rest))
  copied {S} {a} {so} l = record {
    looks = λ E us ms d k q rest h are d-is go.
        let R : RattleType = D.row B in
        let y : MutBor R.Denot = a.0 in
        let u = some (T.val y.now) in
        let Γ : List (Item 𝓤) = tokens m κs.1 qs.1 in
        let Δ : List (Item 𝓤) = given-of κs ks a.1 in
        heads (flft κs.0 qs.0) (mut-ref R κs.0 y) Γ Δ ! (frame 𝓤 H E us) $ opens-ref R T y ! tt (λ g.
        -- [the record's cell; the open borrow; the frame; the other tokens; the rest]
        move ! (2 ∷ []) $ sets-in ! E us k are.0 (has T y.now g) (of_opd ! (load ! (points-in ! E us 1 h.params.0) (look_raw ! 1 refl))) $
        move ! (1 ∷ 2 ∷ []) $ shuts-ref R T y ! tt g $ homes (flft κs.0 qs.0) (mut-ref R κs.0 y) Γ Δ ! (frame 𝓤 H E (put k u us)) $
        l.looks E (put k u us) (k, ms) d (suc k) q rest (finds (scene 𝓛 𝓣 (behind zero tt R ∷ ks) O S N w P₀ κs qs a so) (T, y.now) h (λ _ _. refl) are.0 g) are.1 d-is (λ us' s is. go us' (then_same (one_more k) (put_same k u us) s) is));
  }

-- ---- a row that is the first parameter
-- its element at x: where it is goes to the k-th local and those after it
module _ (R : RattleType) (y : Bor (List R.Denot)) (x : ℕ) where
  abbrev at-elem : Val
  at-elem = vptr y.ref_ptr.0 (Index.place (mem R).size y.ref_ptr.1 x)

  abbrev its-offset : Val
  its-offset = vint w64 (x * (mem R).size)

  abbrev aimed-elem : ℕ → Store → Store
  aimed-elem k us = put (suc k) (some at-elem) (put k (some its-offset) us)

  abbrev found-elem : ℕ → Store → Store
  found-elem k us = put (suc (suc k)) (some at-elem) (aimed-elem k us)

-- x lies in the local n
module _ {M : Type 1} {𝓤 : Ura M} {𝓛 : Logic 𝓤} {K : Type 0} {Γ : List (Item 𝓤)} {C : Calls 𝓤 𝓛.H} {Λ : Loops 𝓤 𝓛.H} {q : After 𝓤 𝓛.H} (E : Layout) (us : Store) (R : RattleType) (y : Bor (List R.Denot)) (x n k : ℕ) where
  open 𝓛 use {H}

  aims-in : K → {ρ : Ty} {rest : Body} → Room R (length y.now) → x < length y.now → Known E us k 1 (slice_ty ρ) (slice-val y) → Inside E n × (us n ≡ some (vint w64 x)) → Local-is E k (ty_int w64) → Local-is E (suc k) ty_ptr
      → Step K 𝓛 (raw (frame 𝓤 H E (aimed-elem R y x k us)) ∷ Γ) (runs C Λ E rest q) (raw (frame 𝓤 H E us) ∷ Γ) (runs C Λ E (steps (finds-elem R 1 n k (suc k)) rest) q)
  aims-in t space l row at offset-is ptr-is =
      let w : Val = its-offset R y x in
      let us₁ : Store = put k (some w) us in
      step (λ s.
      sets-in t E us k offset-is (fits-offset R (length y.now) x space l) (bin t (var-in t zero E us n refl at) (size_lit t (size_fits R space l)) (record { fits = offset-fits R space l })) $
      sets-in t E us₁ (suc k) ptr-is (tt, tt) (subst (λ (o : ℕ). Rv K 𝓛 (raw (frame 𝓤 H E us₁) ∷ Γ) E (op2 offset (ptr_of 1) (it k)) (vptr y.ref_ptr.0 o)) (sym (place_is (mem R).size y.ref_ptr.1 x)) (bin t {o = offset} (ptr-in E us₁ 1 t (still (put_same k (some w) us) (itself k) row)) (var-in t zero E us₁ k refl (offset-is.inside, put-here k (some w) us)) tt)) $ s)

  reaches-in : K → {ρ : Ty} {rest : Body} → Room R (length y.now) → x < length y.now → Known E us k 1 (slice_ty ρ) (slice-val y) → Inside E n × (us n ≡ some (vint w64 x)) → Locals-are E k (by_values (ty_int w64 ∷ ty_ptr ∷ ref-to erased mut R ∷ []))
      → Step K 𝓛 (raw (frame 𝓤 H E (found-elem R y x k us)) ∷ Γ) (runs C Λ E rest q) (raw (frame 𝓤 H E us) ∷ Γ) (runs C Λ E (steps (finds-elem R 1 n k (suc k)) (seq (sets (suc (suc k)) (addr_of (place (suc k) (deref (ty R) ∷ [])))) rest)) q)
  reaches-in t space l row at are =
      step (λ s.
      aims-in t space l row at are.0 are.1.0 $
      sets-in t E (aimed-elem R y x k us) (suc (suc k)) are.1.1.0 (tt, tt) (addr t (points-in t E (aimed-elem R y x k us) (suc k) (newly (at-elem R y x) (put k (some (its-offset R y x)) us) are.1.0))) $ s)

-- the code of a test whether what lies in the local n is a place in it
abbrev if-within : ℕ → ℕ → Body → Body → Body
if-within n k b₁ b₂ = steps (sets k (rv_opd (len_of 1)) ∷ sets (suc k) (op2 (lt unsigned) (it n) (it k)) ∷ cond (it (suc k)) b₁ skip ∷ []) b₂

-- the code by which its element at v is lent on
abbrev lending : {n m : ℕ} {Qs : List RattleType} {all ks : List (Kind n)} {ls : List (Kind m)} → RattleType → Var all Qs usize → Hands Qs all ks ls → Callee → Spots Qs → ℕ → ℕ → Body
lending R v h g ms j k = steps (finds-elem R 1 (place_of v ms) k (suc k)) (seq (sets (suc (suc k)) (addr_of (place (suc k) (deref (ty R) ∷ [])))) (calling h (suc (suc k) ∷ []) g ms 2 zero (suc (suc (suc k))) return))

-- the length of the row y, which is the first parameter, shown or handed on, and a place in it
module _ {M : Type 1} {𝓤 : Ura M} {𝓛 : Logic 𝓤} {g : Form} (c : Scene 𝓛 g) (R : RattleType) (y : Bor (List R.Denot)) (space : Room R (length y.now)) {ρ : Ty} (lies-first : (Qs : List RattleType) (ms : Spots Qs) (hs : Held 𝓛 Qs) (E : Layout) (us : Store) (k : ℕ) → Hand c Qs ms hs E us k → Known E us k 1 (slice_ty ρ) (slice-val y)) where
  counts-row : {Qs : List RattleType} {hs : Held 𝓛 Qs} → Look c Qs hs usize (uint 𝓛 w64) (length y.now) [] (λ ms d k rest. seq (sets d (rv_opd (len_of 1))) rest)
  counts-row {Qs} {hs} = record { looks = λ E us ms d k q rest h are d-is go. sets-in ! E us d d-is (tt, record { fits = space.0 }) (of_opd ! (len-in E us 1 ! (lies-first Qs ms hs E us k h))) $ go us (λ _ _. refl) (refl, space.0) }

  -- it lies in a local already
  within : {Qs : List RattleType} {hs : Held 𝓛 Qs} (v : Var g.params Qs usize) {ns₁ ns₂ ts₁ ts₂ : List Local} {b₁ b₂ : Spots Qs → ℕ → ℕ → Body} → let i = (values c hs usize v).1 in
      (i < length y.now → Piece c Qs hs ns₁ ts₁ b₁) → (length y.now ≤ i → Piece c Qs hs ns₂ ts₂ b₂)
      → Piece c Qs hs (ns₁ ++ ns₂) (by_values (ty_int w64 ∷ ty_bool ∷ []) ++ (ts₁ ++ ts₂)) (λ ms j k. if-within (place_of v ms) k (b₁ ms j (suc (suc k))) (b₂ ms (past ns₁ j) (past ts₁ (suc (suc k)))))
  within {Qs} {hs} v {ns₁} {ns₂} p₁ p₂ = record {
    walks = λ E us ms j k q le h' named are e.
        let i : ℕ = (values c hs usize v).1 in
        let n : ℕ = length y.now in
        let here : j ≤ k = up_to (past-le (ns₁ ++ ns₂) j) le in
        let h = still-hand c (λ _ _. refl) here h' in
        let x = known-var c E us k h usize v in
        let w : Val = vbool (ltb i n) in
        let us₁ : Store = put k (some (vint w64 n)) us in
        let s₁ : Same k us us₁ = put_same k (some (vint w64 n)) us in
        sets-in ! E us k are.0 (tt, record { fits = space.0 }) (of_opd ! (len-in E us 1 ! (lies-first Qs ms hs E us k h))) $
        sets-in ! E us₁ (suc k) are.1.0 (tt, tt) (bin ! (var-in ! zero E us₁ (place_of v ms) refl ((lies s₁ x.0).0, (lies s₁ x.0).1 ∙ ap (λ (vs : List Val). some (only vs)) x.1.0)) (var-in ! zero E us₁ k refl (are.0.inside, put-here k (some (vint w64 n)) us)) tt) $
        forks (ltb i n) (λ y. p₁ (ltb→lt i n y)) (λ y. p₂ (nltb→le i n y)) E (put (suc k) (some w) us₁) ms (suc k) j (suc (suc k)) q are.1.0 (put-here (suc k) (some w) us₁) (up_to le (less (one_more (suc k)))) (still-hand c (λ n b. then_same (one_more k) s₁ (put_same (suc k) (some w) us₁) n (up_to b here)) (itself j) h') named are.1.1 e;
  }

  finds-place : {Qs : List RattleType} {hs : Held 𝓛 Qs} {X : RattleType} (v : Var g.params Qs X) (F : X.Denot → ℕ) (f : Callee) → Triple 𝓤 (c.𝓣.C f) (met (of_one usize X F) 𝓤 𝓛) → {ns₁ ns₂ ts₁ ts₂ : List Local} {b₁ b₂ : Spots (usize ∷ Qs) → ℕ → ℕ → Body} → let i = F (values c hs X v).1 in
      (i < length y.now → Piece c (usize ∷ Qs) ((uint 𝓛 w64, i), hs) ns₁ ts₁ b₁) → (length y.now ≤ i → Piece c (usize ∷ Qs) ((uint 𝓛 w64, i), hs) ns₂ ts₂ b₂)
      → Piece c Qs hs (by_values (ty_int w64 ∷ []) ++ (ns₁ ++ ns₂)) (by_values (ty_int w64 ∷ ty_bool ∷ []) ++ (ts₁ ++ ts₂)) (λ ms j k. seq (call f (it (place_of v ms) ∷ []) (place j [])) (if-within j k (b₁ (j, ms) (suc j) (suc (suc k))) (b₂ (j, ms) (past ns₁ (suc j)) (past ts₁ (suc (suc k))))))
  finds-place v F f meets p₁ p₂ = lets (uint 𝓛 w64) _ (asks_of v F f meets) (within newest p₁ p₂)

module _ {M : Type 1} {𝓤 : Ura M} {𝓛 : Logic 𝓤} {𝓣 : Tables 𝓤 𝓛.H} {m : ℕ} {R : RattleType} {ks : List (Kind (suc m))} {O : RattleType} {S : Said (shown zero tt R ∷ ks) O} {N : Plains 𝓛 ks} {w : Twices 𝓛 (shown zero tt R ∷ ks)} {P₀ : PlainType 𝓛 O} {κs : Lfts (suc m)} {qs : Shares (suc m)} {a : Passed κs (shown zero tt R ∷ ks)} {so : Facts 𝓛 κs (shown zero tt R ∷ ks) N a} where
  pub how-many-shown : {Qs : List RattleType} {hs : Held 𝓛 Qs} → Look (scene 𝓛 𝓣 (shown zero tt R ∷ ks) O S N w P₀ κs qs a so) Qs hs usize (uint 𝓛 w64) (length a.0.now) [] (λ ms d k rest. seq (sets d (rv_opd (len_of 1))) rest)
  how-many-shown = counts-row (scene 𝓛 𝓣 (shown zero tt R ∷ ks) O S N w P₀ κs qs a so) R a.0 so.0 (λ Qs ms hs E us k h. h.params.0)

  pub at-shown : {Qs : List RattleType} {hs : Held 𝓛 Qs} {X : RattleType} (v : Var (shown zero tt R ∷ ks) Qs X) (F : X.Denot → ℕ) (g : Callee) → Triple 𝓤 (𝓣.C g) (met (of_one usize X F) 𝓤 𝓛) → {ns₁ ns₂ ts₁ ts₂ : List Local} {b₁ b₂ : Spots (usize ∷ Qs) → ℕ → ℕ → Body} → let c = scene 𝓛 𝓣 (shown zero tt R ∷ ks) O S N w P₀ κs qs a so in let i = F (values c hs X v).1 in
      (i < length a.0.now → Piece c (usize ∷ Qs) ((uint 𝓛 w64, i), hs) ns₁ ts₁ b₁) → (length a.0.now ≤ i → Piece c (usize ∷ Qs) ((uint 𝓛 w64, i), hs) ns₂ ts₂ b₂)
      → Piece c Qs hs (by_values (ty_int w64 ∷ []) ++ (ns₁ ++ ns₂)) (by_values (ty_int w64 ∷ ty_bool ∷ []) ++ (ts₁ ++ ts₂)) (λ ms j k. seq (call g (it (place_of v ms) ∷ []) (place j [])) (if-within j k (b₁ (j, ms) (suc j) (suc (suc k))) (b₂ (j, ms) (past ns₁ (suc j)) (past ts₁ (suc (suc k))))))
  at-shown = finds-place (scene 𝓛 𝓣 (shown zero tt R ∷ ks) O S N w P₀ κs qs a so) R a.0 so.0 (λ Qs ms hs E us k h. h.params.0)

module _ {M : Type 1} {𝓤 : Ura M} {𝓛 : Logic 𝓤} {𝓣 : Tables 𝓤 𝓛.H} {m : ℕ} {ks : List (Kind (suc m))} {O : RattleType} {N : Plains 𝓛 ks} {P₀ : PlainType 𝓛 O} {κs : Lfts (suc m)} {qs : Shares (suc m)} (B : D.Declared) (T : PlainType 𝓛 (D.row B)) {w : Twices 𝓛 (shown zero tt (D.row B) ∷ ks)} {S : Said (shown zero tt (D.row B) ∷ ks) O} {a : Passed κs (shown zero tt (D.row B) ∷ ks)} {so : Facts 𝓛 κs (shown zero tt (D.row B) ∷ ks) N a} where
  open 𝓛 use {H}

  pub copies_at : {Qs : List RattleType} {hs : Held 𝓛 Qs} {ts : List Local} {b : Spots (D.row B ∷ Qs) → ℕ → ℕ → Body} (v : Var (shown zero tt (D.row B) ∷ ks) Qs usize) (none : B.D) → let c = scene 𝓛 𝓣 (shown zero tt (D.row B) ∷ ks) O S N w P₀ κs qs a so in let i = (values c hs usize v).1 in i < length a.0.now
      → Piece c (D.row B ∷ Qs) ((T, get_or a.0.now i none), hs) [] ts b
      → Piece c Qs hs [] (by_values (ty_int w64 ∷ ty_ptr ∷ ty (D.row B) ∷ []) ++ ts) (λ ms j k. steps (finds-elem (D.row B) 1 (place_of v ms) k (suc k)) (seq (sets (suc (suc k)) (rv_opd (copy (place (suc k) (deref (ty (D.row B)) ∷ []))))) (b (suc (suc k), ms) (suc (suc (suc k))) (suc (suc (suc k))))))
  copies_at {Qs} {hs} v none l p = record {
    walks = λ E us ms j k q le h' named are e.
        let c = scene 𝓛 𝓣 (shown zero tt (D.row B) ∷ ks) O S N w P₀ κs qs a so in
        let R : RattleType = D.row B in
        let y : Bor (List R.Denot) = a.0 in
        let i : ℕ = (values c hs usize v).1 in
        let h = still-hand c (λ _ _. refl) le h' in
        let x = known-var c E us k h usize v in
        let us₁ : Store = put k (some (its-offset R y i)) us in
        let us₂ : Store = aimed-elem R y i k us in
        let z : R.Denot = get_or y.now i none in
        let u = some (T.val z) in
        let s₂ : Same k us us₂ = then_same (one_more k) (put_same k (some (its-offset R y i)) us) (put_same (suc k) (some (at-elem R y i)) us₁) in
        let Γ : List (Item 𝓤) = tokens m κs.1 qs.1 in
        let Δ : List (Item 𝓤) = given-of κs ks a.1 in
        aims-in E us R y i (place_of v ms) k ! so.0 l h.params.0 (x.0.is.inside, x.0.has ∙ ap (λ (vs : List Val). some (only vs)) x.1.0) are.0 are.1.0 $
        heads (flft κs.0 qs.0) (shared R κs.0 y) Γ Δ ! (frame 𝓤 H E us₂) $ move ! (1 ∷ []) $ keeps-copy ! R w.0 κs.0 y $ move ! (2 ∷ 0 ∷ []) $ looks-into ! tt R T y (λ s.
        -- [the elements; the open borrow; the row; the frame; the other tokens; the rest]
        takes_out R T y s i none l ! (λ g.
        -- [the element; the other elements; the open borrow; the row; the frame; the other tokens; the rest]
        move ! (4 ∷ []) $ sets-in ! E us₂ (suc (suc k)) are.1.1.0 (has T z g) (of_opd ! (load ! (points-in ! E us₂ (suc k) (newly (at-elem R y i) us₁ are.1.0)) (look_raw ! 1 refl))) $
        move ! (1 ∷ 2 ∷ []) $ puts-in R T y s i none l ! g $ move ! (0 ∷ 2 ∷ []) $ shuts_slice ! tt R s y.now y.ref_ptr.0 y.ref_ptr.1 $
        move ! (0 ∷ 2 ∷ []) $ homes (flft κs.0 qs.0) (shared R κs.0 y) Γ Δ ! (frame 𝓤 H E (put (suc (suc k)) u us₂)) $
        p.walks E (put (suc (suc k)) u us₂) (suc (suc k), ms) (suc (suc (suc k))) (suc (suc (suc k))) q (itself (suc (suc (suc k)))) (finds c (T, z) (still-hand c s₂ (less (one_more (suc k))) h) (λ _ _. refl) are.1.1.0 g) tt are.1.1.1 e));
  }

module _ {M : Type 1} {𝓤 : Ura M} {𝓛 : Logic 𝓤} {𝓣 : Tables 𝓤 𝓛.H} {m : ℕ} {R : RattleType} {ks : List (Kind (suc m))} {O : RattleType} {S : Said (handed zero tt R ∷ ks) O} {N : Plains 𝓛 ks} {w : Twices 𝓛 ks} {P₀ : PlainType 𝓛 O} {κs : Lfts (suc m)} {qs : Shares (suc m)} {a : Passed κs (handed zero tt R ∷ ks)} {so : Facts 𝓛 κs (handed zero tt R ∷ ks) N a} where
  open 𝓛 use {H}

  pub asks-row : {Qs : List RattleType} {hs : Held 𝓛 Qs} {Q : RattleType} {P : PlainType 𝓛 Q} → Copied 𝓛 R → (F : List R.Denot → Q.Denot) (g : Callee) → Triple 𝓤 (𝓣.C g) (met (of-slice Q R F) 𝓤 𝓛)
      → Look (scene 𝓛 𝓣 (handed zero tt R ∷ ks) O S N w P₀ κs qs a so) Qs hs Q P (F a.0.now) (by_values (ref-to erased imm R ∷ slice_of erased imm R ∷ [])) (λ ms d k rest. steps (hands_to R 1 k (suc k)) (seq (call g (it (suc k) ∷ []) (place d [])) rest))
  asks-row {Q = Q} {P = P} cp F g meets = record {
    looks = λ E us ms d k q rest h are d-is go.
        let c = scene 𝓛 𝓣 (handed zero tt R ∷ ks) O S N w P₀ κs qs a so in
        let y : MutBor (List R.Denot) = a.0 in
        let us₁ : Store = put k (some (vptr y.ref_ptr.0 y.ref_ptr.1)) us in
        let us₂ : Store = put (suc k) (some (mut-slice-val y)) us₁ in
        let Γ : List (Item 𝓤) = tokens m κs.1 qs.1 in
        let Δ : List (Item 𝓤) = given-of κs ks a.1 in
        slice_in ! E us 1 k R h.params.0 are.0 (tt, tt) are.1.0 (fits-slice so.0.0) $ heads (flft κs.0 qs.0) (mut_slice R κs.0 y) Γ Δ ! (frame 𝓤 H E us₂) $ shows-row R y ! tt cp so.0 (λ ν.
        -- [ν's token; the row as it is shown; what the lender keeps; the frame; the other tokens; the rest]
        calls-slice ! 𝓣 R (shown-twice 𝓛 R cp) P F meets (ν ∷ []) full_share (as_bor y) (and_then ! (var-in ! 3 E us₂ (suc k) refl (are.1.0.inside, put-here (suc k) (some (mut-slice-val y)) us₁)) (no_more !)) (λ r e is.
        row-home R y ! tt so.0 ν $ homes (flft κs.0 qs.0) (mut_slice R κs.0 y) Γ Δ ! (frame 𝓤 H E us₂) $ lands-in ! E us₂ d d-is (has P r is) $
        subst (λ (x : Q.Denot). Runs c E (put d (some (P.val x)) us₂) (whole c) rest q) (sym e) (go us₂ (then_same (one_more k) (put_same k (some (vptr y.ref_ptr.0 y.ref_ptr.1)) us) (put_same (suc k) (some (mut-slice-val y)) us₁)) (subst (λ (x : Q.Denot). Is Q x (P.val x ∷ [])) e is))));
  }

  pub how-many : {Qs : List RattleType} {hs : Held 𝓛 Qs} → Look (scene 𝓛 𝓣 (handed zero tt R ∷ ks) O S N w P₀ κs qs a so) Qs hs usize (uint 𝓛 w64) (length a.0.now) [] (λ ms d k rest. seq (sets d (rv_opd (len_of 1))) rest)
  how-many = counts-row (scene 𝓛 𝓣 (handed zero tt R ∷ ks) O S N w P₀ κs qs a so) R (as_bor a.0) so.0 (λ Qs ms hs E us k h. h.params.0)

  pub at_place : {Qs : List RattleType} {hs : Held 𝓛 Qs} {X : RattleType} (v : Var (handed zero tt R ∷ ks) Qs X) (F : X.Denot → ℕ) (g : Callee) → Triple 𝓤 (𝓣.C g) (met (of_one usize X F) 𝓤 𝓛) → {ns₁ ns₂ ts₁ ts₂ : List Local} {b₁ b₂ : Spots (usize ∷ Qs) → ℕ → ℕ → Body} → let c = scene 𝓛 𝓣 (handed zero tt R ∷ ks) O S N w P₀ κs qs a so in let i = F (values c hs X v).1 in
      (i < length a.0.now → Piece c (usize ∷ Qs) ((uint 𝓛 w64, i), hs) ns₁ ts₁ b₁) → (length a.0.now ≤ i → Piece c (usize ∷ Qs) ((uint 𝓛 w64, i), hs) ns₂ ts₂ b₂)
      → Piece c Qs hs (by_values (ty_int w64 ∷ []) ++ (ns₁ ++ ns₂)) (by_values (ty_int w64 ∷ ty_bool ∷ []) ++ (ts₁ ++ ts₂)) (λ ms j k. seq (call g (it (place_of v ms) ∷ []) (place j [])) (if-within j k (b₁ (j, ms) (suc j) (suc (suc k))) (b₂ (j, ms) (past ns₁ (suc j)) (past ts₁ (suc (suc k))))))
  at_place = finds-place (scene 𝓛 𝓣 (handed zero tt R ∷ ks) O S N w P₀ κs qs a so) R (as_bor a.0) so.0 (λ Qs ms hs E us k h. h.params.0)

  pub lends-at : {Qs : List RattleType} {hs : Held 𝓛 Qs} (v : Var (handed zero tt R ∷ ks) Qs usize) (none : R.Denot) (ls : List (Kind (suc m))) (h : Hands Qs (handed zero tt R ∷ ks) ks ls) → let c = scene 𝓛 𝓣 (handed zero tt R ∷ ks) O S N w P₀ κs qs a so in let i = (values c hs usize v).1 in let x = values c hs in
      let μs : ℕ → Lfts (suc m) = λ ν. (ν ∷ [], κs.1) in
      let sent : (ν : ℕ) → GName → Passed (μs ν) (behind zero tt R ∷ ls) = λ ν δ. (elem R a.0 i δ (get_or a.0.now i none), args 𝓛 κs (μs ν) x h a.1) in
      (S' : Said (behind zero tt R ∷ ls) O) (g : Callee) → Triple 𝓤 (𝓣.C g) (met (record { lifetimes = suc m; params = behind zero tt R ∷ ls; result = O; says_of = S' }) 𝓤 𝓛) → ((ν : ℕ) → Agree 𝓛 κs (μs ν) x h) → i < length a.0.now
      → ((ν : ℕ) (δ : GName) (r : O.Denot) (ws : Lasting (μs ν) (behind zero tt R ∷ ls) (sent ν δ)) → S' (μs ν) (sent ν δ) r (outs (μs ν) (slots (behind zero tt R ∷ ls)) (all yes (slots (behind zero tt R ∷ ls))) (sent ν δ) ws)
      → S κs a r (left_at (record { lifetimes = suc m; params = handed zero tt R ∷ ks; result = O; says_of = S }) κs a (ending 𝓛 κs (handed zero tt R ∷ ks) N a (set_at a.0.now i ws.0, ends_of 𝓛 κs (μs ν) x h a.1 ws.1))))
      → Piece c Qs hs [] (by_values (ty_int w64 ∷ ty_ptr ∷ ref-to erased mut R ∷ []) ++ fresh h)
      (lending R v h g)
  lends-at {Qs} {hs} v none ls h S' g meets agree l suits = record {
    walks = λ E us ms j k q le hand' named are e.
        let c = scene 𝓛 𝓣 (handed zero tt R ∷ ks) O S N w P₀ κs qs a so in
        let y : MutBor (List R.Denot) = a.0 in
        let i : ℕ = (values c hs usize v).1 in
        let hand = still-hand c (λ _ _. refl) le hand' in
        let vars = known-var c E us k hand in
        let x = vars usize v in
        let found-at : Val = at-elem R (as_bor y) i in
        let us₃ : Store = found-elem R (as_bor y) i k us in
        let us₁ : Store = put k (some (its-offset R (as_bor y) i)) us in
        let us₂ : Store = put (suc k) (some found-at) us₁ in
        let l₂ : k ≤ suc (suc k) = less (one_more (suc k)) in
        let l₃ : k ≤ suc (suc (suc k)) = less (less (one_more (suc (suc k)))) in
        let s₃ : Same k us us₃ = then_same l₂ (then_same (one_more k) (put_same k (some (its-offset R (as_bor y) i)) us) (put_same (suc k) (some found-at) us₁)) (put_same (suc (suc k)) (some found-at) us₂) in
        let Γ : List (Item 𝓤) = tokens m κs.1 qs.1 in
        let Δ : List (Item 𝓤) = given-of κs ks a.1 in
        reaches-in E us R (as_bor y) i (place_of v ms) k ! so.0 l hand.params.0 (x.0.is.inside, x.0.has ∙ ap (λ (vs : List Val). some (only vs)) x.1.0) (are.0, (are.1.0, (are.1.1.0, tt))) $
        heads (flft κs.0 qs.0) (mut_slice R κs.0 y) Γ Δ ! (frame 𝓤 H E us₃) $ lends-elem R y ! tt i none l (λ ν δ.
        -- [ν's token; the element; what the lender keeps; the frame; the other tokens; the rest]
        let μs : Lfts (suc m) = (ν ∷ [], κs.1) in
        let T : Fml = flft (ν ∷ []) full_share in
        let B : Fml = mut-ref R (ν ∷ []) (elem R y i δ (get_or y.now i none)) in
        let J : Fml = ElemKept R y κs.0 qs.0 i ν δ in
        let a' : Passed μs ls = args 𝓛 κs μs (values c hs) h a.1 in
        let L : List (Item 𝓤) = given-of μs ls a' in
        let Q : SProp 𝓤 = ⋆ 𝓛 (kept 𝓛 κs μs (values c hs) h a.1) in
        let X : SProp 𝓤 = ⋆ 𝓛 (‵ T ∷ ‵ B ∷ ‵ J ∷ raw (⋆ 𝓛 Γ) ∷ raw (⋆ 𝓛 Δ) ∷ []) in
        move ! (3 ∷ []) $ turns (raw (frame 𝓤 H E us₃) ∷ raw X ∷ []) (id⊢ 𝓤 _) $
        hands_in 𝓛 E κs μs (values c hs) ms h N a.1 so.1 us₃ 2 (suc (suc (suc k))) (still-params E s₃ l₃ 2 (param-types ks) (words 𝓛 κs ks N a.1) hand.params.1) (λ R v. still s₃ l₃ (vars R v).0) are.1.1.1 (λ us₄ s lie.
        calls-in 𝓛 𝓣 E (record { lifetimes = suc m; params = behind zero tt R ∷ ls; result = O; says_of = S' }) (plains 𝓛 κs μs (values c hs) h N) μs (full_share, qs.1) (elem R y i δ (get_or y.now i none), a') P₀ meets (sure 𝓛 κs μs (values c hs) (λ R v. (vars R v).1) h N a.1 so.1)
        us₄ (suc (suc k) ∷ (moves h ms 2 (suc (suc (suc k)))).1) (lies s (newly found-at us₂ are.1.1.0), lie) zero hand.result X (⋆ 𝓛 (‵ J ∷ raw Q ∷ []))
        (goes-out 𝓛 T B Γ Δ L Q J (lent 𝓛 κs μs (values c hs) h w (agree ν) a.1))
        (λ r ws says lens is.
        let F : List (Item 𝓤) = finals μs ls a' ws.1 in
        let us₅ : Store = put zero (some (P₀.val r)) us₄ in
        let row : List R.Denot = set_at y.now i ws.0 in
        let ends : Ends κs ks = ends_of 𝓛 κs μs (values c hs) h a.1 ws.1 in
        let F' : List (Item 𝓤) = finals κs ks a.1 (ending 𝓛 κs ks N a.1 ends) in
        elem-ends 𝓛 R y κs.0 qs.0 i ν δ ws.0 Γ F F' Q E us₅ (End c) e hand.result refl l so.0 (settled 𝓛 κs μs (values c hs) h (agree ν) N a.1 ws.1)
        (exits 𝓛 (record { lifetimes = suc m; params = handed zero tt R ∷ ks; result = O; says_of = S }) N κs qs a P₀ (row, ends) r (P₀.val r) (suits ν δ r ws says) (length-set y.now i ws.0, lengths 𝓛 κs μs (values c hs) h N a.1 ws.1 lens) is))));
  }
