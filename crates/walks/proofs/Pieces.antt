-- Functions that are put together of pieces, for any list of parameters.
-- Assumes nothing.
--     Scene            a function at the arguments of one call of it: its form, what is known of the types, and what it is passed
--     Hand             what is known of the locals before the k-th: the parameters, and the values that were found since
--     Look             statements that find a value and change nothing of what is lent.        Piece     statements to the end of the function
-- Looks:
--     asks ls t h F g  `g(..)`, of the arguments h: it says `r ≡ F ..`.        nothing z g     `g()`, which says `r ≡ z`.        asks_of v F g     `g(x)` of one value at hand.        no     `false`
-- Pieces:
--     lets P z l p     `let x = l; p`, where z is what is found
--     branch l p q     `if l { p } q`, where p and q may use how the test came out
--     answers l e      `l`, which is returned: all that is lent stays as it is, and e says that this is what the contract says
--     calls-on ls t h S g, calls-all S g     `g(..)`, whose answer is returned, of the arguments h or of all parameters: what it says, S, is what the contract says
--     tells-on ls t h P S f e F g     `let a = f(..); g(a)`, which is returned: what f says of a, g says in other words
--     tells-with ls t h v P S f e F g     `let a = f(..); g(x, a)`, which is returned: the same with a value at hand
--     Keys             which tokens the callee is handed: all-keys, no_keys
--     meets            a function fulfils its form where its body is a piece
-- The locals of a piece and its code are parameters of its type: they are read off the term, and compared with the function's own.
use mathlib.Core.Path.{◌≡◌, refl, sym, ◌∙◌, subst}
use Prim.Native.Nat.{ℕ, zero, suc, ◌≤◌}
use mathlib.Core.List.{List, [], ◌∷◌, ◌++◌}
use mathlib.Core.Option.{some}
use mathlib.Core.Bool.{Bool, false, not}
use lib.Dec.{T as Holds}
use seplogic.Ra.Ura.{Ura}
use mir.Syntax.{Callee, Fn, Local, Body, place, ty_bool, opd_false, rv_opd, skip, cond, seq, call, return}
use mir.Val.{Val, vbool}
use base.Logic.{SProp, ent, sep, emp, via, fst∗, snd∗, emp∗, comm∗, assoc∗, assoc', mono∗, mono_l, mono_r}
use prog.Wp.{Tables, at_return, returns as returned}
use types.Logic.{Logic}
use types.Kit.{Go, Item, raw, ⋆, ++⊢, ⊢++, Post as After, post, at_ret, runs, Seq, ◌$◌, ! }
use types.Run.{first, branches, skips, exec, of_opd, false_lit}
use contract.Lifetimes.{Lfts, Shares}
use denote.RattleType.{RattleType}
use denote.Laws.{Is}
use denote.Builtin.{bool}
use denote.Triple.End.{outs, all}
use denote.Triple.Statement.{Triple}
use denote.Exit.{yes}
use Rattle.walks.proofs.Plain.{ty, PlainType, boolean}
use Rattle.walks.proofs.Steps.{it, sets, by_values, lie-at}
use Rattle.walks.proofs.Form.{Said, Form, Kind, value, slots, param-types, Passed, Plains, Facts, Lasting, Lens, Ends, ending, left_at, met, Post, exits, code_of, Fulfils, meets-form, tokens, gives as given-of, finals}
use Rattle.walks.proofs.Callee.{a-value, of_one, of_two}
use Rattle.walks.proofs.Frame.{itself, one_more, less, up_to, past, past-le, past-both, Store, put, put-here, Same, put_same, then_same, Layout, frame, Local-is, Locals-are, laid, parted, Known, still, newly, lies, Params, still-params, start, gathers, begun, turns, var-in, sets-in, returns-in}
use Rattle.walks.proofs.Hands.{By-value, at, after-value, after-shown, after-handed, after-behind, Var, param, newest, older, Hands, stop, found, every, every-agrees, Spots, number, place_of, fresh, moves, calling, Held, Twices, word, at-param, at-var, Values, words, nows, lens-now, let_go, Agree, plains, args, sure, kept, lent, Quiet, restored, ends_of, settled, lengths, hands_in, calls-in}

-- ---- a function at the arguments of one call of it
pub record Scene {M : Type 1} {𝓤 : Ura M} (𝓛 : Logic 𝓤) (g : Form) : Type 2 where
  pub 𝓣 : Tables 𝓤 𝓛.H
  pub plain : Plains 𝓛 g.params
  pub answer : PlainType 𝓛 g.result
  pub κs : Lfts g.lifetimes
  pub qs : Shares g.lifetimes
  pub passed : Passed κs g.params
  pub so : Facts 𝓛 κs g.params plain passed
  pub twice : Twices 𝓛 g.params

module _ {M : Type 1} {𝓤 : Ura M} {𝓛 : Logic 𝓤} {g : Form} (c : Scene 𝓛 g) where
  open 𝓛 use {H}

  abbrev stored : List Val
  stored = words 𝓛 c.κs g.params c.plain c.passed

  -- what it is given, the tokens and all, and what it ends with, at these last values
  abbrev keys : List (Item 𝓤)
  keys = tokens g.lifetimes c.κs c.qs

  abbrev pub whole : SProp 𝓤
  whole = ⋆ 𝓛 (keys ++ given-of c.κs g.params c.passed)

  abbrev lasting : Ends c.κs g.params → Lasting c.κs g.params c.passed
  lasting z = ending 𝓛 c.κs g.params c.plain c.passed z

  abbrev last : Ends c.κs g.params → List (Item 𝓤)
  last z = finals c.κs g.params c.passed (lasting z)

  -- what its contract says of an answer and of these last values, and what is to be shown where it returns
  abbrev Says : g.result.Denot → Ends c.κs g.params → Type 0
  Says r z = g.says_of c.κs c.passed r (left_at g c.κs c.passed (lasting z))

  abbrev pub End : Val → SProp 𝓤
  End = Post 𝓛 g c.plain c.κs c.qs c.passed

  abbrev pub Runs : Layout → Store → SProp 𝓤 → Body → After 𝓤 H → Type 1
  Runs E us X b q = Seq (Go {0}) 𝓛 (raw (frame 𝓤 H E us) ∷ raw X ∷ []) (runs c.𝓣.C c.𝓣.Λ E b q)

  -- ---- the values at hand
  abbrev pub values : {Qs : List RattleType} → Held 𝓛 Qs → Values 𝓛 c.κs Qs g.params
  values hs R v = at-var 𝓛 c.κs v hs c.plain c.passed

  abbrev Founds : Layout → Store → ℕ → (Qs : List RattleType) → Spots Qs → Held 𝓛 Qs → Type 0
  Founds E us k [] ms hs = Unit {0}
  Founds E us k (Q ∷ Qs) ms hs = (Known E us k ms.0 (ty Q) (word 𝓛 hs.0) × Is Q hs.0.1 (word 𝓛 hs.0 ∷ [])) × Founds E us k Qs ms.1 hs.1

  pub record Hand (Qs : List RattleType) (ms : Spots Qs) (hs : Held 𝓛 Qs) (E : Layout) (us : Store) (k : ℕ) : Type 0 where
    pub result : Local-is E zero (ty g.result)
    pub params : Params E us k 1 (param-types g.params) stored
    pub founds : Founds E us k Qs ms hs

  still-founds : (E : Layout) {us us' : Store} {k k' : ℕ} → Same k us us' → k ≤ k' → (Qs : List RattleType) (ms : Spots Qs) (hs : Held 𝓛 Qs) → Founds E us k Qs ms hs → Founds E us' k' Qs ms hs
  still-founds E s l [] ms hs f = tt
  still-founds E s l (Q ∷ Qs) ms hs f = ((still s l f.0.0, f.0.1), still-founds E s l Qs ms.1 hs.1 f.1)

  pub still-hand : {Qs : List RattleType} {ms : Spots Qs} {hs : Held 𝓛 Qs} {E : Layout} {us us' : Store} {k k' : ℕ} → Same k us us' → k ≤ k' → Hand Qs ms hs E us k → Hand Qs ms hs E us' k'
  still-hand {Qs} {ms} {hs} {E} s l h = record { result = h.result; params = still-params E s l 1 (param-types g.params) stored h.params; founds = still-founds E s l Qs ms hs h.founds }

  -- one more is found, in the k-th local
  pub finds : {Qs : List RattleType} {ms : Spots Qs} {hs : Held 𝓛 Qs} {E : Layout} {us us' : Store} {k : ℕ} {Q : RattleType} (p : PlainType 𝓛 Q × Q.Denot) → Hand Qs ms hs E us k → Same k us us' → Local-is E k (ty Q) → Is Q p.1 (word 𝓛 p ∷ []) → Hand (Q ∷ Qs) (k, ms) (p, hs) E (put k (some (word 𝓛 p)) us') (suc k)
  finds {us' = us'} {k = k} p h s is so =
      let v : Val = word 𝓛 p in
      let h' = still-hand (then_same (itself k) s (put_same k (some v) us')) (one_more k) h in
      record { result = h'.result; params = h'.params; founds = ((newly v us' is, so), h'.founds) }

module _ {M : Type 1} {𝓤 : Ura M} (𝓛 : Logic 𝓤) {n : ℕ} (κs : Lfts n) (E : Layout) (us : Store) (k : ℕ) where
  known-param : {ks : List (Kind n)} {R : RattleType} (b : By-value ks R) (N : Plains 𝓛 ks) (a : Passed κs ks) → Facts 𝓛 κs ks N a → (i : ℕ) → Params E us k i (param-types ks) (words 𝓛 κs ks N a)
      → Known E us k (number b i) (ty R) (word 𝓛 (at-param 𝓛 κs b N a)) × Is R (at-param 𝓛 κs b N a).1 (word 𝓛 (at-param 𝓛 κs b N a) ∷ [])
  known-param at N a so i ps = (ps.0, so.0)
  known-param (after-value b) N a so i ps = known-param b N.1 a.1 so.1 (suc i) ps.1
  known-param (after-shown b) N a so i ps = known-param b N a.1 so.1 (suc i) ps.1
  known-param (after-handed b) N a so i ps = known-param b N a.1 so.1 (suc i) ps.1
  known-param (after-behind b) N a so i ps = known-param b N a.1 so (suc i) ps.1

module _ {M : Type 1} {𝓤 : Ura M} {𝓛 : Logic 𝓤} {g : Form} (c : Scene 𝓛 g) (E : Layout) (us : Store) (k : ℕ) where
  known : (Qs : List RattleType) (ms : Spots Qs) (hs : Held 𝓛 Qs) → Params E us k 1 (param-types g.params) (stored c) → Founds c E us k Qs ms hs → (R : RattleType) (v : Var g.params Qs R)
      → Known E us k (place_of v ms) (ty R) (word 𝓛 (values c hs R v)) × Is R (values c hs R v).1 (word 𝓛 (values c hs R v) ∷ [])
  known Qs ms hs ps fs R (param b) = known-param 𝓛 c.κs E us k b c.plain c.passed c.so 1 ps
  known Qs ms hs ps fs R newest = fs.0
  known Qs ms hs ps fs R (older {Qs = Qs'} v) = known Qs' ms.1 hs.1 ps fs.1 R v

  pub known-var : {Qs : List RattleType} {ms : Spots Qs} {hs : Held 𝓛 Qs} → Hand c Qs ms hs E us k → (R : RattleType) (v : Var g.params Qs R) → Known E us k (place_of v ms) (ty R) (word 𝓛 (values c hs R v)) × Is R (values c hs R v).1 (word 𝓛 (values c hs R v) ∷ [])
  known-var {Qs} {ms} {hs} h = known Qs ms hs h.params h.founds

-- ---- looks and pieces. The locals that they name begin with the j-th, and their others with the k-th
module _ {M : Type 1} {𝓤 : Ura M} {𝓛 : Logic 𝓤} {g : Form} (c : Scene 𝓛 g) (Qs : List RattleType) (hs : Held 𝓛 Qs) where
  open 𝓛 use {H}

  pub record Piece (ns ts : List Local) (b : Spots Qs → ℕ → ℕ → Body) : Type 2 where
    pub walks : (E : Layout) (us : Store) (ms : Spots Qs) (j k : ℕ) (q : After 𝓤 H) → past ns j ≤ k → Hand c Qs ms hs E us j → Locals-are E j ns → Locals-are E k ts → post 𝓤 H q returned ≡ at_return 𝓤 H E (End c) returned → Runs c E us (whole c) (b ms j k) q

  -- the value z goes to the d-th local
  pub record Look (Q : RattleType) (P : PlainType 𝓛 Q) (z : Q.Denot) (ts : List Local) (b : Spots Qs → ℕ → ℕ → Body → Body) : Type 2 where
    pub looks : (E : Layout) (us : Store) (ms : Spots Qs) (d k : ℕ) (q : After 𝓤 H) (rest : Body) → Hand c Qs ms hs E us k → Locals-are E k ts → Local-is E d (ty Q)
        → ((us' : Store) → Same k us us' → Is Q z (P.val z ∷ []) → Runs c E (put d (some (P.val z)) us') (whole c) rest q) → Runs c E us (whole c) (b ms d k rest) q

module _ {M : Type 1} {𝓤 : Ura M} {𝓛 : Logic 𝓤} {g : Form} {c : Scene 𝓛 g} {Qs : List RattleType} {hs : Held 𝓛 Qs} where
  open 𝓛 use {H}

  pub lets : {Q : RattleType} (P : PlainType 𝓛 Q) (z : Q.Denot) {ls ns ts : List Local} {l : Spots Qs → ℕ → ℕ → Body → Body} {b : Spots (Q ∷ Qs) → ℕ → ℕ → Body} → Look c Qs hs Q P z ls l → Piece c (Q ∷ Qs) ((P, z), hs) ns ts b
      → Piece c Qs hs (by_values (ty Q ∷ []) ++ ns) (ls ++ ts) (λ ms j k. l ms j k (b (j, ms) (suc j) (past ls k)))
  lets P z {ls} {ns} {ts} l p = record {
    walks = λ E us ms j k q le h named are e.
        let parts = parted E k ls ts are in
        let here : j ≤ k = up_to (less (past-le ns (suc j))) le in
        l.looks E us ms j k q _ (still-hand c (λ _ _. refl) here h) parts.0 named.0 (λ us' s is.
        p.walks E (put j (some (P.val z)) us') (j, ms) (suc j) (past ls k) q (up_to le (past-le ls k)) (finds c (P, z) h (λ n b. s n (up_to b here)) named.0 is) named.1 parts.1 e);
  }

  -- the test lies in the t-th local
  pub forks : (z : Bool) {ns₁ ns₂ ts₁ ts₂ : List Local} {b₁ b₂ : Spots Qs → ℕ → ℕ → Body} → (Holds z → Piece c Qs hs ns₁ ts₁ b₁) → (Holds (not z) → Piece c Qs hs ns₂ ts₂ b₂) → (E : Layout) (us : Store) (ms : Spots Qs) (t j k : ℕ) (q : After 𝓤 H) → Local-is E t ty_bool → us t ≡ some (vbool z) → past (ns₁ ++ ns₂) j ≤ k → Hand c Qs ms hs E us j
      → Locals-are E j (ns₁ ++ ns₂) → Locals-are E k (ts₁ ++ ts₂) → post 𝓤 H q returned ≡ at_return 𝓤 H E (End c) returned → Runs c E us (whole c) (seq (cond (it t) (b₁ ms j k) skip) (b₂ ms (past ns₁ j) (past ts₁ k))) q
  forks z {ns₁} {ns₂} {ts₁} {ts₂} {b₁} {b₂} p₁ p₂ E us ms t j k q is t-is le h named are e =
      let names = parted E j ns₁ ns₂ named in
      let parts = parted E k ts₁ ts₂ are in
      let le₂ : past ns₂ (past ns₁ j) ≤ k = subst (λ (i : ℕ). i ≤ k) (past-both ns₁ ns₂ j) le in
      first ! $ branches ! (var-in ! zero E us t refl (is.inside, t-is)) (λ y. (p₁ y).walks E us ms j k _ (up_to (past-le ns₂ (past ns₁ j)) le₂) h names.0 parts.0 e)
      (λ y. skips ! $ exec ! c.𝓣.C c.𝓣.Λ E (b₂ ms (past ns₁ j) (past ts₁ k)) q $ (p₂ y).walks E us ms (past ns₁ j) (past ts₁ k) q (up_to le₂ (past-le ts₁ k)) (still-hand c (λ _ _. refl) (past-le ns₁ j) h) names.1 parts.1 e)

  pub branch : {z : Bool} {ls ns₁ ns₂ ts₁ ts₂ : List Local} {l : Spots Qs → ℕ → ℕ → Body → Body} {b₁ b₂ : Spots Qs → ℕ → ℕ → Body} → Look c Qs hs bool (boolean 𝓛) z ls l → (Holds z → Piece c Qs hs ns₁ ts₁ b₁) → (Holds (not z) → Piece c Qs hs ns₂ ts₂ b₂)
      → Piece c Qs hs (ns₁ ++ ns₂) (by_values (ty_bool ∷ []) ++ (ls ++ (ts₁ ++ ts₂))) (λ ms j k. l ms k (suc k) (seq (cond (it k) (b₁ ms j (past ls (suc k))) skip) (b₂ ms (past ns₁ j) (past ts₁ (past ls (suc k))))))
  branch {z} {ls} {ns₁} {ns₂} {ts₁} {ts₂} l p₁ p₂ = record {
    walks = λ E us ms j k q le h named are e.
        let parts = parted E (suc k) ls (ts₁ ++ ts₂) are.1 in
        let here : j ≤ k = up_to (past-le (ns₁ ++ ns₂) j) le in
        let u = some (vbool z) in
        l.looks E us ms k (suc k) q _ (still-hand c (λ _ _. refl) (up_to here (one_more k)) h) parts.0 are.0 (λ us' s is.
        forks z p₁ p₂ E (put k u us') ms k j (past ls (suc k)) q are.0 (put-here k u us') (up_to le (less (past-le ls (suc k)))) (still-hand c (λ n b. put_same k u us' n (up_to b here) ∙ s n (up_to b (up_to here (one_more k)))) (itself j) h) named parts.1 e);
  }

  pub answers : {z : g.result.Denot} {ls : List Local} {l : Spots Qs → ℕ → ℕ → Body → Body} → Look c Qs hs g.result c.answer z ls l → Says c z (nows 𝓛 c.κs g.params c.passed) → Piece c Qs hs [] ls (λ ms j k. l ms zero k return)
  answers {z} l y = record {
    walks = λ E us ms j k q le h named are e. l.looks E us ms zero k q return (still-hand c (λ _ _. refl) le h) are h.result (λ us' s is.
        let T : SProp 𝓤 = ⋆ 𝓛 (keys c) in
        let G : List (Item 𝓤) = given-of c.κs g.params c.passed in
        let as_is : Ends c.κs g.params = nows 𝓛 c.κs g.params c.passed in
        returns-in ! E (put zero (some (c.answer.val z)) us') (End c) e h.result refl
        (via 𝓤 (sep 𝓤 T (⋆ 𝓛 G)) (⊢++ 𝓛 (keys c) G) (via 𝓤 (sep 𝓤 T (⋆ 𝓛 (last c as_is))) (mono_r 𝓤 T (let_go 𝓛 c.κs g.params c.plain c.passed))
        (via 𝓤 (⋆ 𝓛 (keys c ++ last c as_is)) (++⊢ 𝓛 (keys c) (last c as_is)) (exits 𝓛 g c.plain c.κs c.qs c.passed c.answer as_is z (c.answer.val z) y (lens-now 𝓛 c.κs g.params c.plain c.passed) is)))));
  }

-- ---- the tokens that a callee is handed of the caller's, and the rest, which stay
module _ {M : Type 1} {𝓤 : Ura M} {𝓛 : Logic 𝓤} {g : Form} (c : Scene 𝓛 g) where
  pub record Keys (m : ℕ) : Type 2 where
    pub lfts : Lfts m
    pub shares : Shares m
    pub others : SProp 𝓤
    pub parts : ent 𝓤 (⋆ 𝓛 (keys c)) (sep 𝓤 (⋆ 𝓛 (tokens m lfts shares)) others)
    pub joins : ent 𝓤 (sep 𝓤 (⋆ 𝓛 (tokens m lfts shares)) others) (⋆ 𝓛 (keys c))

module _ {M : Type 1} {𝓤 : Ura M} {𝓛 : Logic 𝓤} {g : Form} {c : Scene 𝓛 g} where
  abbrev pub all-keys : Keys c g.lifetimes
  all-keys = let T : SProp 𝓤 = ⋆ 𝓛 (keys c) in record { lfts = c.κs; shares = c.qs; others = emp 𝓤; parts = via 𝓤 (sep 𝓤 (emp 𝓤) T) (emp∗ 𝓤 T) (comm∗ 𝓤 (emp 𝓤) T); joins = fst∗ 𝓤 T (emp 𝓤) }

  abbrev pub no_keys : Keys c zero
  no_keys = let T : SProp 𝓤 = ⋆ 𝓛 (keys c) in record { lfts = tt; shares = tt; others = T; parts = emp∗ 𝓤 T; joins = snd∗ 𝓤 (emp 𝓤) T }

-- ---- a call of the arguments h
crossed : {M : Type 1} (𝓤 : Ura M) (P Q R S : SProp 𝓤) → ent 𝓤 (sep 𝓤 (sep 𝓤 P Q) (sep 𝓤 R S)) (sep 𝓤 (sep 𝓤 P R) (sep 𝓤 Q S))
crossed 𝓤 P Q R S =
    via 𝓤 (sep 𝓤 P (sep 𝓤 Q (sep 𝓤 R S))) (assoc∗ 𝓤 P Q (sep 𝓤 R S)) (via 𝓤 (sep 𝓤 P (sep 𝓤 R (sep 𝓤 Q S)))
    (mono_r 𝓤 P (via 𝓤 (sep 𝓤 (sep 𝓤 Q R) S) (assoc' 𝓤 Q R S) (via 𝓤 (sep 𝓤 (sep 𝓤 R Q) S) (mono_l 𝓤 S (comm∗ 𝓤 Q R)) (assoc∗ 𝓤 R Q S)))) (assoc' 𝓤 P R (sep 𝓤 Q S)))

module _ {M : Type 1} {𝓤 : Ura M} {𝓛 : Logic 𝓤} {g : Form} (c : Scene 𝓛 g) {Qs : List RattleType} (hs : Held 𝓛 Qs) {m : ℕ} (ls : List (Kind m)) (t : Keys c m) (h : Hands Qs g.params g.params ls) where
  open 𝓛 use {H}

  abbrev sent : Passed t.lfts ls
  sent = args 𝓛 c.κs t.lfts (values c hs) h c.passed

  abbrev left_here : SProp 𝓤
  left_here = ⋆ 𝓛 (kept 𝓛 c.κs t.lfts (values c hs) h c.passed)

  abbrev Fit : Type 0
  Fit = Agree 𝓛 c.κs t.lfts (values c hs) h

  abbrev ends_by : Lasting t.lfts ls sent → Ends c.κs g.params
  ends_by = ends_of 𝓛 c.κs t.lfts (values c hs) h c.passed

  -- what the callee says of its answer and of what it leaves is what the caller says
  abbrev Suits : Said ls g.result → Type 0
  Suits S = (r : g.result.Denot) (ws : Lasting t.lfts ls sent) → S t.lfts sent r (outs t.lfts (slots ls) (all yes (slots ls)) sent ws) → Says c r (ends_by ws)

  -- one step for it, at a result of the type O. The caller then makes Δ of what comes back beside the tokens
  calls-h : Fit → (O : RattleType) (P : PlainType 𝓛 O) (S : Said ls O) (f : Callee) → Triple 𝓤 (c.𝓣.C f) (met (record { lifetimes = m; params = ls; result = O; says_of = S }) 𝓤 𝓛) → (E : Layout) (us : Store) (ms : Spots Qs) (d k : ℕ) (q : After 𝓤 H) (rest : Body) → Hand c Qs ms hs E us k → Locals-are E k (fresh h) → Local-is E d (ty O)
      → (Δ : Lasting t.lfts ls sent → List (Item 𝓤)) → ((ws : Lasting t.lfts ls sent) → ent 𝓤 (sep 𝓤 (⋆ 𝓛 (finals t.lfts ls sent ws)) left_here) (⋆ 𝓛 (Δ ws)))
      → ((us' : Store) (r : O.Denot) (ws : Lasting t.lfts ls sent) → Same k us us' → S t.lfts sent r (outs t.lfts (slots ls) (all yes (slots ls)) sent ws) → Lens t.lfts ls sent ws → Is O r (P.val r ∷ []) → Runs c E (put d (some (P.val r)) us') (⋆ 𝓛 (keys c ++ Δ ws)) rest q)
      → Runs c E us (whole c) (calling h [] f ms 1 d k rest) q
  calls-h e O P S f meets E us ms d k q rest h₀ are d-is Δ back go =
      let x = known-var c E us k h₀ in
      let T : SProp 𝓤 = ⋆ 𝓛 (keys c) in
      let T' : List (Item 𝓤) = tokens m t.lfts t.shares in
      let G : List (Item 𝓤) = given-of c.κs g.params c.passed in
      let G' : List (Item 𝓤) = given-of t.lfts ls sent in
      let Z : SProp 𝓤 = sep 𝓤 t.others left_here in
      hands_in 𝓛 E c.κs t.lfts (values c hs) ms h c.plain c.passed c.so us 1 k h₀.params (λ R v. (x R v).0) are (λ us' s lie.
      calls-in 𝓛 c.𝓣 E (record { lifetimes = m; params = ls; result = O; says_of = S }) (plains 𝓛 c.κs t.lfts (values c hs) h c.plain) t.lfts t.shares sent P meets (sure 𝓛 c.κs t.lfts (values c hs) (λ R v. (x R v).1) h c.plain c.passed c.so) us' (moves h ms 1 k).1 lie d d-is (whole c) Z
      (via 𝓤 (sep 𝓤 T (⋆ 𝓛 G)) (⊢++ 𝓛 (keys c) G) (via 𝓤 (sep 𝓤 (sep 𝓤 (⋆ 𝓛 T') t.others) (sep 𝓤 (⋆ 𝓛 G') left_here)) (mono∗ 𝓤 t.parts (lent 𝓛 c.κs t.lfts (values c hs) h c.twice e c.passed))
      (via 𝓤 (sep 𝓤 (sep 𝓤 (⋆ 𝓛 T') (⋆ 𝓛 G')) Z) (crossed 𝓤 (⋆ 𝓛 T') t.others (⋆ 𝓛 G') left_here) (mono_l 𝓤 Z (++⊢ 𝓛 T' G')))))
      (λ r ws says l is.
      let F : List (Item 𝓤) = finals t.lfts ls sent ws in
      turns (raw (frame 𝓤 H E (put d (some (P.val r)) us')) ∷ raw (⋆ 𝓛 (keys c ++ Δ ws)) ∷ []) (mono_r 𝓤 (frame 𝓤 H E (put d (some (P.val r)) us'))
      (via 𝓤 (sep 𝓤 (sep 𝓤 (⋆ 𝓛 T') (⋆ 𝓛 F)) Z) (mono_l 𝓤 Z (⊢++ 𝓛 T' F)) (via 𝓤 (sep 𝓤 (sep 𝓤 (⋆ 𝓛 T') t.others) (sep 𝓤 (⋆ 𝓛 F) left_here)) (crossed 𝓤 (⋆ 𝓛 T') (⋆ 𝓛 F) t.others left_here)
      (via 𝓤 (sep 𝓤 T (⋆ 𝓛 (Δ ws))) (mono∗ 𝓤 t.joins (back ws)) (++⊢ 𝓛 (keys c) (Δ ws)))))) $ go us' r ws s says l is))

module _ {M : Type 1} {𝓤 : Ura M} {𝓛 : Logic 𝓤} {g : Form} {c : Scene 𝓛 g} {Qs : List RattleType} {hs : Held 𝓛 Qs} {m : ℕ} (ls : List (Kind m)) (t : Keys c m) (h : Hands Qs g.params g.params ls) where
  open 𝓛 use {H}

  pub calls-on : (S : Said ls g.result) (f : Callee) → Triple 𝓤 (c.𝓣.C f) (met (record { lifetimes = m; params = ls; result = g.result; says_of = S }) 𝓤 𝓛) → Fit c hs ls t h → Suits c hs ls t h S → Piece c Qs hs [] (fresh h) (λ ms j k. calling h [] f ms 1 zero k return)
  calls-on S f meets e y = record {
    walks = λ E us ms j k q le h₀ named are w.
        calls-h c hs ls t h e g.result c.answer S f meets E us ms zero k q return (still-hand c (λ _ _. refl) le h₀) are h₀.result (λ ws. last c (ends_by c hs ls t h ws)) (settled 𝓛 c.κs t.lfts (values c hs) h e c.plain c.passed) (λ us' r ws s says l is.
        returns-in ! E (put zero (some (c.answer.val r)) us') (End c) w h₀.result refl
        (exits 𝓛 g c.plain c.κs c.qs c.passed c.answer (ends_by c hs ls t h ws) r (c.answer.val r) (y r ws says) (lengths 𝓛 c.κs t.lfts (values c hs) h c.plain c.passed ws l) is));
  }

  pub tells-on : {Y : RattleType} (P : PlainType 𝓛 Y) (S : Said ls Y) (f : Callee) → Triple 𝓤 (c.𝓣.C f) (met (record { lifetimes = m; params = ls; result = Y; says_of = S }) 𝓤 𝓛) → Fit c hs ls t h → (F : Y.Denot → g.result.Denot) (tell : Callee) → Triple 𝓤 (c.𝓣.C tell) (met (of_one g.result Y F) 𝓤 𝓛)
      → ((r : Y.Denot) (ws : Lasting t.lfts ls (sent c hs ls t h)) → S t.lfts (sent c hs ls t h) r (outs t.lfts (slots ls) (all yes (slots ls)) (sent c hs ls t h) ws) → Says c (F r) (ends_by c hs ls t h ws))
      → Piece c Qs hs (by_values (ty Y ∷ [])) (fresh h) (λ ms j k. calling h [] f ms 1 j k (seq (call tell (it j ∷ []) (place zero [])) return))
  tells-on {Y} P S f meets e F tell meets' y = record {
    walks = λ E us ms j k q le h₀ named are w.
        calls-h c hs ls t h e Y P S f meets E us ms j k q _ (still-hand c (λ _ _. refl) (less le) h₀) are named.0 (λ ws. last c (ends_by c hs ls t h ws)) (settled 𝓛 c.κs t.lfts (values c hs) h e c.plain c.passed) (λ us' r ws s says l is.
        let us₁ : Store = put j (some (P.val r)) us' in
        let X : SProp 𝓤 = ⋆ 𝓛 (keys c ++ last c (ends_by c hs ls t h ws)) in
        calls-in 𝓛 c.𝓣 E (of_one g.result Y F) (P, tt) tt tt (r, tt) c.answer meets' (is, tt) us₁ (j ∷ []) ((named.0.inside, put-here j (some (P.val r)) us'), tt) zero h₀.result X X (emp∗ 𝓤 X) (λ z _ told _ z-is.
        turns (raw (frame 𝓤 H E (put zero (some (c.answer.val z)) us₁)) ∷ raw X ∷ []) (mono_r 𝓤 (frame 𝓤 H E (put zero (some (c.answer.val z)) us₁)) (snd∗ 𝓤 (emp 𝓤) X)) $
        returns-in ! E (put zero (some (c.answer.val z)) us₁) (End c) w h₀.result refl
        (exits 𝓛 g c.plain c.κs c.qs c.passed c.answer (ends_by c hs ls t h ws) z (c.answer.val z) (subst (λ (v : g.result.Denot). Says c v (ends_by c hs ls t h ws)) (sym told) (y r ws says)) (lengths 𝓛 c.κs t.lfts (values c hs) h c.plain c.passed ws l) z-is)));
  }

  -- of a value at hand too
  pub tells-with : {X Y : RattleType} (v : Var g.params Qs X) (P : PlainType 𝓛 Y) (S : Said ls Y) (f : Callee) → Triple 𝓤 (c.𝓣.C f) (met (record { lifetimes = m; params = ls; result = Y; says_of = S }) 𝓤 𝓛) → Fit c hs ls t h → (F : X.Denot → Y.Denot → g.result.Denot) (tell : Callee) → Triple 𝓤 (c.𝓣.C tell) (met (of_two g.result X Y F) 𝓤 𝓛)
      → ((r : Y.Denot) (ws : Lasting t.lfts ls (sent c hs ls t h)) → S t.lfts (sent c hs ls t h) r (outs t.lfts (slots ls) (all yes (slots ls)) (sent c hs ls t h) ws) → Says c (F (values c hs X v).1 r) (ends_by c hs ls t h ws))
      → Piece c Qs hs (by_values (ty Y ∷ [])) (fresh h) (λ ms j k. calling h [] f ms 1 j k (seq (call tell (it (place_of v ms) ∷ it j ∷ []) (place zero [])) return))
  tells-with {X} {Y} v P S f meets e F tell meets' y = record {
    walks = λ E us ms j k q le h₀ named are w.
        calls-h c hs ls t h e Y P S f meets E us ms j k q _ (still-hand c (λ _ _. refl) (less le) h₀) are named.0 (λ ws. last c (ends_by c hs ls t h ws)) (settled 𝓛 c.κs t.lfts (values c hs) h e c.plain c.passed) (λ us' r ws s says l is.
        let us₁ : Store = put j (some (P.val r)) us' in
        let x = values c hs X v in
        let x-is = known-var c E us j h₀ X v in
        let same : Same j us us₁ = λ n b. put_same j (some (P.val r)) us' n b ∙ s n (up_to b (less le)) in
        let Z : SProp 𝓤 = ⋆ 𝓛 (keys c ++ last c (ends_by c hs ls t h ws)) in
        calls-in 𝓛 c.𝓣 E (of_two g.result X Y F) (x.0, (P, tt)) tt tt (x.1, (r, tt)) c.answer meets' (x-is.1, (is, tt)) us₁ (place_of v ms ∷ j ∷ []) (lies same x-is.0, ((named.0.inside, put-here j (some (P.val r)) us'), tt)) zero h₀.result Z Z (emp∗ 𝓤 Z) (λ z _ told _ z-is.
        turns (raw (frame 𝓤 H E (put zero (some (c.answer.val z)) us₁)) ∷ raw Z ∷ []) (mono_r 𝓤 (frame 𝓤 H E (put zero (some (c.answer.val z)) us₁)) (snd∗ 𝓤 (emp 𝓤) Z)) $
        returns-in ! E (put zero (some (c.answer.val z)) us₁) (End c) w h₀.result refl
        (exits 𝓛 g c.plain c.κs c.qs c.passed c.answer (ends_by c hs ls t h ws) z (c.answer.val z) (subst (λ (a : g.result.Denot). Says c a (ends_by c hs ls t h ws)) (sym told) (y r ws says)) (lengths 𝓛 c.κs t.lfts (values c hs) h c.plain c.passed ws l) z-is)));
  }

  pub asks : {Q : RattleType} {P : PlainType 𝓛 Q} (F : (μs : Lfts m) → Passed μs ls → Q.Denot) (f : Callee) → Triple 𝓤 (c.𝓣.C f) (met (record { lifetimes = m; params = ls; result = Q; says_of = λ μs a r e. r ≡ F μs a }) 𝓤 𝓛) → Fit c hs ls t h → Quiet 𝓛 c.κs t.lfts (values c hs) h
      → Look c Qs hs Q P (F t.lfts (sent c hs ls t h)) (fresh h) (λ ms d k rest. calling h [] f ms 1 d k rest)
  asks {Q} {P} F f meets e quiet = record {
    looks = λ E us ms d k q rest h₀ are d-is go.
        let G : List (Item 𝓤) = given-of c.κs g.params c.passed in
        let L : List (Item 𝓤) = kept 𝓛 c.κs t.lfts (values c hs) h c.passed in
        calls-h c hs ls t h e Q P (λ μs a r _. r ≡ F μs a) f meets E us ms d k q rest h₀ are d-is (λ ws. G)
        (λ ws. let D : SProp 𝓤 = ⋆ 𝓛 (finals t.lfts ls (sent c hs ls t h) ws) in subst (λ (Δ : List (Item 𝓤)). ent 𝓤 (sep 𝓤 D (⋆ 𝓛 L)) (⋆ 𝓛 Δ)) (restored 𝓛 c.κs t.lfts (values c hs) h quiet c.passed) (snd∗ 𝓤 D (⋆ 𝓛 L)))
        (λ us' r ws s says l is. subst (λ (y : Q.Denot). Runs c E (put d (some (P.val y)) us') (whole c) rest q) (sym says) (go us' s (subst (λ (y : Q.Denot). Is Q y (P.val y ∷ [])) says is)));
  }

-- the locals and the code of a call with all parameters
abbrev all-fresh : Form → List RattleType → List Local
all-fresh g Qs = fresh (every {Qs = Qs} {all = g.params} g.params)

abbrev all-passed : (g : Form) (Qs : List RattleType) → Callee → Spots Qs → ℕ → ℕ → Body
all-passed g Qs f ms j k = calling (every {Qs = Qs} {all = g.params} g.params) [] f ms 1 zero k return

-- the calls that are made most: of no argument, of one value at hand, and of all parameters in their order
module _ {M : Type 1} {𝓤 : Ura M} {𝓛 : Logic 𝓤} {g : Form} {c : Scene 𝓛 g} {Qs : List RattleType} {hs : Held 𝓛 Qs} where
  pub nothing : {Q : RattleType} {P : PlainType 𝓛 Q} (z : Q.Denot) (f : Callee) → Triple 𝓤 (c.𝓣.C f) (met (a-value Q z) 𝓤 𝓛) → Look c Qs hs Q P z [] (λ ms d k rest. seq (call f [] (place d [])) rest)
  nothing z f meets = asks [] no_keys stop (λ _ _. z) f meets tt tt

  pub no : Look c Qs hs bool (boolean 𝓛) false [] (λ ms d k rest. seq (sets d (rv_opd opd_false)) rest)
  no = record { looks = λ E us ms d k q rest h are d-is go. sets-in ! E us d d-is (tt, tt) (of_opd ! (false_lit !)) $ go us (λ _ _. refl) refl }

  pub asks_of : {Q R : RattleType} {P : PlainType 𝓛 Q} (v : Var g.params Qs R) (F : R.Denot → Q.Denot) (f : Callee) → Triple 𝓤 (c.𝓣.C f) (met (of_one Q R F) 𝓤 𝓛) → Look c Qs hs Q P (F (values c hs R v).1) [] (λ ms d k rest. seq (call f (it (place_of v ms) ∷ []) (place d [])) rest)
  asks_of {R = R} v F f meets = asks (value R ∷ []) no_keys (found v stop) (λ _ x. F x.0) f meets tt tt

  pub calls-all : let h : Hands Qs g.params g.params g.params = every g.params in (S : Said g.params g.result) (f : Callee) → Triple 𝓤 (c.𝓣.C f) (met (record { lifetimes = g.lifetimes; params = g.params; result = g.result; says_of = S }) 𝓤 𝓛)
      → Suits c hs g.params all-keys h S → Piece c Qs hs [] (all-fresh g Qs) (all-passed g Qs f)
  calls-all S f meets y = calls-on g.params all-keys (every g.params) S f meets (every-agrees 𝓛 c.κs (values c hs) g.params) y

-- ---- a function whose body is a piece
module _ {M : Type 1} {𝓤 : Ura M} (𝓛 : Logic 𝓤) (𝓣 : Tables 𝓤 𝓛.H) (g : Form) (N : Plains 𝓛 g.params) (w : Twices 𝓛 g.params) (P : PlainType 𝓛 g.result) where
  open 𝓛 use {H}

  abbrev scene : (κs : Lfts g.lifetimes) (qs : Shares g.lifetimes) (a : Passed κs g.params) → Facts 𝓛 κs g.params N a → Scene 𝓛 g
  scene κs qs a so = record { 𝓣 = 𝓣; plain = N; answer = P; κs = κs; qs = qs; passed = a; so = so; twice = w }

  abbrev body_of : (ns ts : List Local) → (Unit {0} → ℕ → ℕ → Body) → Fn
  body_of ns ts b = let j = past (by_values (param-types g.params)) 1 in code_of g (ty g.result) (ns ++ ts) (b tt j (past ns j))

  pub meets : {ns ts : List Local} {b : Unit {0} → ℕ → ℕ → Body} → ((κs : Lfts g.lifetimes) (qs : Shares g.lifetimes) (a : Passed κs g.params) (so : Facts 𝓛 κs g.params N a) → Piece (scene κs qs a so) [] tt ns ts b) → Fulfils 𝓛 g 𝓣 (body_of ns ts b)
  meets {ns} {ts} {b} p =
      let ps : List Local = by_values (param-types g.params) in
      let j : ℕ = past ps 1 in
      meets-form 𝓛 g N 𝓣 (ty g.result) (ns ++ ts) (b tt j (past ns j)) (λ κs qs a so bs.
      let c : Scene 𝓛 g = scene κs qs a so in
      let ls : List Local = by_values (ty g.result ∷ []) ++ (ps ++ (ns ++ ts)) in
      let E : Layout = lie-at 𝓤 H ls bs in
      let are = laid 𝓤 H ls bs in
      let parts = parted E 1 ps (ns ++ ts) are.1 in
      let own = parted E j ns ts parts.1 in
      turns (raw (frame 𝓤 H E (start (stored c))) ∷ raw (whole c) ∷ []) (gathers 𝓛 ls bs (stored c) (tokens g.lifetimes κs qs ++ given-of κs g.params a)) $
      (p κs qs a so).walks E (start (stored c)) tt j (past ns j) (at_ret E (End c)) (itself (past ns j)) (record { result = are.0; params = begun E (param-types g.params) (stored c) parts.0; founds = tt }) own.0 own.1 refl)
