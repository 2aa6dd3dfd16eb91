-- Demand 3: acts that are not tied may change places.
-- Assumes nothing.
use Prim.Native.Nat.{ℕ}
use mathlib.Core.Path.{◌≡◌, refl, sym, ap, ap₂, ◌∙◌, subst}
use mathlib.Core.Bool.{Bool, true}
use mathlib.Core.List.{List, [], ◌∷◌, ◌++◌, map, head-eq_of_cons-eq, tail-eq_of_cons-eq}
use lib.ListN.{length, length-map}
use Rattle.board.specs.declared.Plan.{Plan}
use Rattle.board.specs.Plan.{plan_of}
use Rattle.demands.specs.Acts.{Act, reading, Outcome, outcome, next, opened_row, final, answers}
use Rattle.demands.specs.Shuffle.{picked, Shuffle, Free, TakenOut}
use Rattle.demands.specs.Tied.{tied}
use Rattle.demands.specs.Demands.{Log, begun, row_given, taken, told, opens, nothing, Demand3}
use Rattle.demands.specs.Refused.{plans_by}
use Rattle.demands.proofs.Demanded.{good_of, begun-plans, opens-fine, demand2}
use Rattle.demands.proofs.Places.{picked-map, shuffle-map, taken_out}
use Rattle.demands.proofs.Commute.{Good, keeps, commute}

-- ---- an act of the first list, and what the paper tells of it there

pub record Answered : Type 0 where
  pub act : Act
  pub gets : Outcome

abbrev pub answered : List Log → List Act → List Answered
answered logs [] = []
answered logs (a ∷ acts) = record { act = a; gets = told logs a } ∷ answered (taken logs a) acts

abbrev pub acts_of : List Answered → List Act
acts_of l = map (λ p. p.act) l

abbrev pub gets_of : List Answered → List Outcome
gets_of l = map (λ p. p.gets) l

abbrev pub tied_in : ℕ → Answered → Answered → Bool
tied_in m p q = tied m p.act q.act

acts-answered : (logs : List Log) (acts : List Act) → acts_of (answered logs acts) ≡ acts
acts-answered logs [] = refl
acts-answered logs (a ∷ acts) = ap (λ (l : List Act). a ∷ l) (acts-answered (taken logs a) acts)

gets-answered : (logs : List Log) (acts : List Act) → answers taken told logs acts ≡ gets_of (answered logs acts)
gets-answered logs [] = refl
gets-answered logs (a ∷ acts) = ap (λ (l : List Outcome). told logs a ∷ l) (gets-answered (taken logs a) acts)

none-is-some : {A : Type 0} (a : A) (l : List A) → [] ≡ a ∷ l → ⊥
none-is-some {A} a l e = subst {A = List A} (λ k. is_none k) e tt
  where
    is_none : List A → Type 0
    is_none [] = Unit {0}
    is_none (b ∷ k) = ⊥

module _ (plans : List Plan) (good : good_of plans ≡ true) where
  abbrev m : ℕ
  m = length plans

  -- an act that is tied to none in front of it may be taken first: it gets what it got, and so does every other act behind it
  record First (logs : List Log) (acts : List Act) (p : Answered) (others : List Answered) : Type 0 where
    itself : p.gets ≡ told logs p.act
    rest : answered (taken logs p.act) (acts_of others) ≡ others
    end : final taken (taken logs p.act) (acts_of others) ≡ final taken logs acts

  first : (logs : List Log) → Good plans good logs → (acts : List Act) (before : List Answered) (p : Answered) (after : List Answered)
      → answered logs acts ≡ before ++ (p ∷ after) → Free (tied_in m) p before → First logs acts p (before ++ after)
  first logs g [] [] p after e f = absurd (none-is-some p after e)
  first logs g [] (q ∷ before) p after e f = absurd (none-is-some q (before ++ (p ∷ after)) e)
  first logs g (a ∷ acts) [] p after e f =
      let h = head-eq_of_cons-eq e in
      let t = tail-eq_of_cons-eq e in
      let is-a : p.act ≡ a = sym (ap (λ (z : Answered). z.act) h) in
      let are : acts_of after ≡ acts = ap acts_of (sym t) ∙ acts-answered (taken logs a) acts in
      record {
        itself = sym (ap (λ (z : Answered). z.gets) h) ∙ ap (told logs) (sym is-a);
        rest = ap₂ (λ (b : Act) (l : List Act). answered (taken logs b) l) is-a are ∙ t;
        end = ap₂ (λ (b : Act) (l : List Act). final taken (taken logs b) l) is-a are;
      }
  first logs g (a ∷ acts) (q ∷ before) p after e f =
      let h = head-eq_of_cons-eq e in
      let b = p.act in
      let others = before ++ after in
      let is-a : q.act ≡ a = sym (ap (λ (z : Answered). z.act) h) in
      let k = first (taken logs a) (keeps plans good logs a g) acts before p after (tail-eq_of_cons-eq e) f.1 in
      let c = commute plans good logs a b g (ap (λ (z : Act). tied m z b) (sym is-a) ∙ f.0) in
      let then : answered (taken (taken logs b) a) (acts_of others) ≡ others = ap (λ (s : List Log). answered s (acts_of others)) (sym c.2) ∙ k.rest in
      let first-is : ◌≡◌ {A = Answered} (record { act = a; gets = told (taken logs b) a }) q = (λ i. record { act = a; gets = c.1 i }) ∙ h in
      record {
        itself = k.itself ∙ c.0;
        rest = ap (λ (z : Act). answered (taken logs b) (z ∷ acts_of others)) is-a ∙ ap₂ (λ (z : Answered) (l : List Answered). z ∷ l) first-is then;
        end =
            ap (λ (z : Act). final taken (taken logs b) (z ∷ acts_of others)) is-a
            ∙ ap (λ (s : List Log). final taken s (acts_of others)) (sym c.2)
            ∙ k.end;
      }

  shuffled-so : (logs : List Log) → Good plans good logs → (acts : List Act) (shuffled : List Answered) → TakenOut (tied_in m) (answered logs acts) shuffled
      → (answered logs (acts_of shuffled) ≡ shuffled) × (final taken logs (acts_of shuffled) ≡ final taken logs acts)
  shuffled-so logs g [] [] w = (refl, refl)
  shuffled-so logs g (a ∷ acts) [] w = absurd (none-is-some _ _ (sym w))
  shuffled-so logs g acts (p ∷ shuffled) (before, after, e, f, w) =
      let k = first logs g acts before p after e f in
      let others = before ++ after in
      let left = subst (λ (l : List Answered). TakenOut (tied_in m) l shuffled) (sym k.rest) w in
      let then = shuffled-so (taken logs p.act) (keeps plans good logs p.act g) (acts_of others) shuffled left in (
        ap₂ (λ (o : Outcome) (l : List Answered). record { act = p.act; gets = o } ∷ l) (sym k.itself) then.0,
        then.1 ∙ k.end,
      )

-- demand 3 for acts that are taken out one after another
pub by-taking-out : (plans : List ℕ) → opens plans ≡ true → (acts : List Act) (shuffled : List Answered) → TakenOut (tied_in (length plans)) (answered (begun plans) acts) shuffled
    → (answers next outcome (opened_row plans) (acts_of shuffled) ≡ gets_of shuffled) × (final next (opened_row plans) (acts_of shuffled) ≡ final next (opened_row plans) acts)
by-taking-out plans e acts shuffled w =
    let taken_out = subst (λ (m : ℕ). TakenOut (tied_in m) (answered (begun plans) acts) shuffled) (sym (length-map plans plan_of)) w in
    let so = shuffled-so (plans_by plans) (opens-fine plans e) (begun plans) (begun-plans plans) acts shuffled taken_out in
    let first-list = demand2 plans e acts in
    let second-list = demand2 plans e (acts_of shuffled) in (
      second-list.0 ∙ gets-answered (begun plans) (acts_of shuffled) ∙ ap gets_of so.0,
      second-list.1 ∙ ap row_given so.1 ∙ sym first-list.1,
    )

-- and for every shuffle by places
abbrev no_act : Answered
no_act = record { act = reading; gets = nothing }

pub demand3 : Demand3
demand3 plans e acts order w =
    let all-acts = answered (begun plans) acts in
    let are = acts-answered (begun plans) acts in
    let shuffled = picked no_act order all-acts in
    let same-acts : acts_of shuffled ≡ picked reading order acts = picked-map (λ (p : Answered). p.act) no_act order all-acts ∙ ap (picked reading order) are in
    let same-gets : gets_of shuffled ≡ picked nothing order (answers taken told (begun plans) acts) =
    picked-map (λ (p : Answered). p.gets) no_act order all-acts ∙ ap (picked nothing order) (sym (gets-answered (begun plans) acts)) in
    let places = shuffle-map (λ (p : Answered). p.act) (tied (length plans)) no_act all-acts order
    (subst (λ (l : List Act). Shuffle (tied (length plans)) reading l order) (sym are) w) in
    let so = by-taking-out plans e acts shuffled (taken_out (tied_in (length plans)) no_act all-acts order places) in (
      ap (answers next outcome (opened_row plans)) (sym same-acts) ∙ so.0 ∙ same-gets,
      ap (final next (opened_row plans)) (sym same-acts) ∙ so.1,
    )
