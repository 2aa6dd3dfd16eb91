-- Every recording that a day leaves is accepted (02, ticket 11): what was left out changed no record, and what was kept was told after what was kept before.
-- Assumes nothing.
use Prim.Native.Nat.{ℕ, ◌+◌, ◌*◌, ◌/◌, ◌%◌, ◌≤◌}
use native.Mathlib.Omega.{arith}
use mathlib.Core.Path.{◌≡◌, refl, sym, ap, ap₂, ◌∙◌, subst}
use mathlib.Core.Bool.{Bool, true, false, true≢false, cond, not, ◌||◌, or-false, or-true}
use mathlib.Core.List.{List, [], ◌∷◌, ◌++◌, map}
use lib.Dec.{eqb, ltb, leb}
use lib.ListN.{length, replicate, length-map, length-replicate}
use borrow.Author.Tests.{eqb-true, eq-eqb, eqb-false, ltb-true, ltb-false, le-ltb, leb-true}
use Rattle.lists.specs.Compare.{◌below◌, outside}
use Rattle.lists.specs.Every.{every}
use Rattle.lists.proofs.Split.{split, both, not_yes}
use Rattle.refusal.specs.Said.{Said, first}
use Rattle.format.specs.Format as format
use Rattle.format.specs.Read.{board_fine, boards_fine}
use Rattle.format.proofs.ReadBack.{read_back}
use Rattle.board.specs.declared.Board.{Board}
use Rattle.board.specs.Plan.{is_garden, bad_plan, plan_of}
use Rattle.board.specs.Sample.{fresh}
use Rattle.stack.specs.Open.{good_plans, opened}
use Rattle.frame.specs.Reply.{reply_said}
use Rattle.stack.specs.Frame.{frame_answer, frame_row}
use Rattle.recorder.specs.Recorder.{listed_of, boards_of, has_garden, begin_bars}
use Rattle.replay.specs.Check.{plan_by, plans_in, lent, row_unfit, checked}
use Rattle.replay.proofs.Checks.{check-told}
use Rattle.demands.specs.Acts.{Act, sample, frame, listing, reading, up, outcome, next, opened_row, final, answers}
use Rattle.demands.specs.Demands.{row_given, taken, opens}
use Rattle.demands.specs.Refused.{plans_of}
use Rattle.demands.specs.Recorded.{sent_of, can_record, Day, day, bytes_of, passes, began, entry, with_one, later}
use Rattle.demands.specs.Checked.{act_by, acts_by, recordedly, bare, Accepted}
use Rattle.demands.proofs.Table.{none_is}
use Rattle.demands.proofs.Tells.{tells, gives}
use Rattle.demands.proofs.Demanded.{good_of, good-plans, same-plans, begun-plans, opens-fine, opens-good, opened-given}
use Rattle.demands.proofs.Gaps.{gaps}
use Rattle.demands.proofs.Checked.{says, right-all, opened-is}

-- ---- an act that can be recorded is, by what was sent of it, the same act on any row
frame-lent : (row : List Board) (bytes buffer : List ℕ) → 4 ≤ length buffer → (frame_answer row bytes lent ≡ frame_answer row bytes buffer) × (frame_row row bytes lent ≡ frame_row row bytes buffer)
unfolding frame_answer frame_row
frame-lent row bytes buffer h = (rw (le-ltb (length buffer) 4 h), rw (le-ltb (length buffer) 4 h))

sent-act : (row : List Board) (a : Act) → can_record a ≡ true → ((outcome row (act_by (sent_of a))).said ≡ (outcome row a).said) × (next row (act_by (sent_of a)) ≡ next row a)
sent-act row (sample n x mv) c = (refl, refl)
sent-act row (frame bytes buffer) c =
    let room = leb-true 4 (length buffer) (both (format.recordable (format.frame bytes)) (leb 4 (length buffer)) c).1 in
    let alike = frame-lent row bytes buffer room in
    (ap reply_said alike.0, alike.1)
sent-act row (listing n buffer) c = absurd (true≢false (sym c))
sent-act row reading c = (refl, refl)
sent-act row up c = absurd (true≢false (sym c))

-- ---- one act more
row_more : (row : List Board) (xs : List Act) (y : Act) → final next row (xs ++ (y ∷ [])) ≡ next (final next row xs) y
row_more row [] y = refl
row_more row (x ∷ xs) y = row_more (next row x) xs y

said_more : (row : List Board) (xs : List Act) (y : Act) → map (λ o. o.said) (answers next outcome row (xs ++ (y ∷ []))) ≡ map (λ o. o.said) (answers next outcome row xs) ++ ((outcome (final next row xs) y).said ∷ [])
said_more row [] y = refl
said_more row (x ∷ xs) y = ap (λ (l : List Said). (outcome row x).said ∷ l) (said_more (next row x) xs y)

module _ {A B : Type 0} (f : A → B) where
  map_more : (xs : List A) (y : A) → map f (xs ++ (y ∷ [])) ≡ map f xs ++ (f y ∷ [])
  map_more [] y = refl
  map_more (x ∷ xs) y = ap (λ (l : List B). f x ∷ l) (map_more xs y)

-- ---- through a day: what is kept was rightly answered, and while nothing was lost the row is the one after what is kept
module _ (plans : List ℕ) (room : ℕ) (o : opens plans ≡ true) (g : has_garden plans ≡ false) where
  abbrev rows : List format.Noted → List Board
  rows notes = final next (opened_row plans) (acts_by notes)

  record Holds (d : Day) : Type 0 where
    right : recordedly d.kept ≡ says (opened_row plans) d.kept
    good : good_of (plans_of d.logs) ≡ true
    same : d.full ≡ false → row_given d.logs ≡ rows d.kept

  module _ (d : Day) (a : Act) (h : Holds d) where
    still : good_of (plans_of (taken d.logs a)) ≡ true
    still = ap good_of (same-plans d.logs a) ∙ h.good

    abbrev row : List Board
    row = row_given d.logs

    -- it can not be recorded, and changes nothing
    left_out : can_record a ≡ false → later plans room d a ≡ day (taken d.logs a) d.kept (d.full || false)
    left_out c = rw (g, c)

    out-holds : can_record a ≡ false → Holds (day (taken d.logs a) d.kept (d.full || false))
    out-holds c = record { right = h.right; good = still; same = λ f. sym (gives d.logs a) ∙ gaps row a c ∙ h.same (sym (or-false d.full) ∙ f) }

    -- there is no room, and from now on nothing is kept
    lost : can_record a ≡ true → (d.full || passes plans room (with_one d a)) ≡ true → later plans room d a ≡ day (taken d.logs a) d.kept (d.full || true)
    lost c p = rw (g, c, p)

    lost-holds : Holds (day (taken d.logs a) d.kept (d.full || true))
    lost-holds = record { right = h.right; good = still; same = λ f. absurd (true≢false (sym (or-true d.full) ∙ f)) }

    -- it is kept
    kept-so : can_record a ≡ true → (d.full || passes plans room (with_one d a)) ≡ false → later plans room d a ≡ day (taken d.logs a) (with_one d a) (d.full || false)
    kept-so c p = rw (g, c, p)

    kept-holds : can_record a ≡ true → d.full ≡ false → Holds (day (taken d.logs a) (with_one d a) (d.full || false))
    kept-holds c f =
        let here = h.same f in
        let n = entry d a in
        let alike = sent-act row a c in
        let said : (outcome row (act_by (sent_of a))).said ≡ n.answer = alike.0 ∙ ap (λ x. x.said) (tells d.logs (good-plans d.logs ∙ h.good) a) in
        let acts-more : acts_by (with_one d a) ≡ acts_by d.kept ++ (act_by (sent_of a) ∷ []) = map_more (λ m. act_by m.sent) d.kept n in
        let told_more : says (opened_row plans) (with_one d a) ≡ says (opened_row plans) d.kept ++ ((outcome (rows d.kept) (act_by (sent_of a))).said ∷ [])
        = ap (λ (l : List Act). map (λ x. x.said) (answers next outcome (opened_row plans) l)) acts-more ∙ said_more (opened_row plans) (acts_by d.kept) (act_by (sent_of a)) in
        let last : (outcome (rows d.kept) (act_by (sent_of a))).said ≡ n.answer = ap (λ (r : List Board). (outcome r (act_by (sent_of a))).said) (sym here) ∙ said in
        record {
          right = map_more (λ m. m.answer) d.kept n ∙ ap₂ (λ (l : List Said) (s : Said). l ++ (s ∷ [])) h.right (sym last) ∙ sym told_more;
          good = still;
          same = λ _. sym (gives d.logs a) ∙ sym alike.1 ∙ ap (λ (r : List Board). next r (act_by (sent_of a))) here ∙ sym (ap (final next (opened_row plans)) acts-more ∙ row_more (opened_row plans) (acts_by d.kept) (act_by (sent_of a)));
        }

    step : Holds (later plans room d a)
    step =
        split (can_record a)
        (λ c. split (d.full || passes plans room (with_one d a))
        (λ p. subst Holds (sym (lost c p)) lost-holds)
        (λ p. subst Holds (sym (kept-so c p)) (kept-holds c (first-no d.full (passes plans room (with_one d a)) p))))
        (λ c. subst Holds (sym (left_out c)) (out-holds c))
      where
        first-no : (x y : Bool) → (x || y) ≡ false → x ≡ false
        first-no false y e = refl
        first-no true y e = absurd (true≢false e)

  through : (d : Day) (acts : List Act) → Holds d → Holds (final (later plans room) d acts)
  through d [] h = h
  through d (a ∷ acts) h = through (later plans room d a) acts (step d a h)

  starts : Holds (began plans room)
  starts = record {
    right = refl;
    good = ap good_of (begun-plans plans) ∙ opens-fine plans o;
    same = λ _. sym (opened-given (replicate (length plans) (fresh 0)) plans (length-replicate (length plans) (fresh 0)) o);
  }

-- ---- its boards
no-garden : (k : ℕ) (cells : Bool) (garden : Bool) → (ltb 2 k || cond (eqb k 2) garden cells) ≡ false → eqb k 2 ≡ false → (ltb 1 k ≡ false) × (cells ≡ false)
no-garden k cells garden e f =
    split (ltb 2 k)
    (λ h. absurd (true≢false (rw h at e)))
    (λ h. (le-ltb 1 k (small (ltb-false 2 k h) (eqb-false k 2 f)), rw (h, f) at e))
  where
    small : k ≤ 2 → (k ≡ 2 → ⊥) → k ≤ 1
    small l n = omega (arith, l, n)

boards-fine : (plans : List ℕ) → good_plans plans ≡ true → every (λ plan. not (is_garden (plan_of plan).kind)) plans ≡ true → every board_fine (boards_of plans) ≡ true
unfolding every
boards-fine [] e f = refl
boards-fine (n ∷ plans) e f =
    let p = plan_of n in
    let he = both (not (bad_plan p)) (good_plans plans) e in
    let hf = both (not (is_garden p.kind)) (every (λ plan. not (is_garden (plan_of plan).kind)) plans) f in
    let fine = no-garden p.kind (outside 5 10 p.cells) _ (not_yes (bad_plan p) he.0) (not_yes (is_garden p.kind) hf.0) in
    rw (fine.0, fine.1) (boards-fine plans he.1 hf.1)

plans-back : (plans : List ℕ) → bare plans ≡ true → map plan_by (boards_of plans) ≡ plans
unfolding every
plans-back [] e = refl
plans-back (n ∷ plans) e =
    let h = both (n below 65536) (bare plans) e in
    let small = ltb-true n 65536 h.0 in
    let same : 256 * (n / 256 % 256) + n % 256 ≡ n = omega (arith, small) in
    ap₂ (λ (k : ℕ) (l : List ℕ). k ∷ l) same (plans-back plans h.1)

pub accepted : Accepted
accepted plans o simple room starts-so acts fit row long =
    let bars = none_is (begin_bars plans room) refl (eqb-true (first (begin_bars plans room)) 0 starts-so) in
    let none : has_garden plans ≡ false = bars.1.0 in
    let d = final (later plans room) (began plans room) acts in
    let h = through plans room o none (began plans room) acts (starts plans room o none) in
    let good = opens-good plans o in
    let many : length (boards_of plans) ≡ length plans = length-map plans listed_of in
    let fine : boards_fine (boards_of plans) ≡ true = rw (many, good.0) (boards-fine plans good.1 (not-no (every (λ plan. not (is_garden (plan_of plan).kind)) plans) none)) in
    let bytes = bytes_of plans d.kept in
    let back = read_back (boards_of plans) d.kept fine fit in
    let same : plans_in bytes ≡ plans = ap (map plan_by) back.1 ∙ plans-back plans simple in
    let unfit : row_unfit row bytes ≡ false = rw (back.1, many, long, eq-eqb (length plans) (length plans) refl) in
    let right : recordedly d.kept ≡ says (opened plans) d.kept = h.right ∙ ap (λ (r : List Board). says r d.kept) (opened-is plans o) in
    check-told row bytes back.0 unfit ∙ ap (λ (k : ℕ). checked k 0) (rw (same, back.2) (right-all d.kept (opened plans) 0 right))
  where
    not-no : (b : Bool) → not b ≡ false → b ≡ true
    not-no true e = refl
    not-no false e = absurd (true≢false e)
