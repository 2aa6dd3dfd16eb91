-- A check tells the first act whose answer is not the one that demand 2 gives, or that there is none (02, ticket 11).
-- Assumes nothing.
use Prim.Native.Nat.{ℕ, zero, suc, ◌+◌, ◌<◌}
use native.Mathlib.Nat.{not-suc-le-zero, le_of_suc-le-suc}
use native.Mathlib.Omega.{arith}
use mathlib.Core.Path.{◌≡◌, refl, sym, ap, ap₂, ◌∙◌, subst}
use mathlib.Core.Bool.{true, true≢false, cond}
use mathlib.Core.List.{List, [], ◌∷◌, map}
use lib.ListN.{length, drop, length-map, length-replicate}
use borrow.Author.Tests.{eq-eqb}
use Rattle.lists.proofs.Split.{split}
use Rattle.refusal.specs.Said.{Said}
use Rattle.format.specs.Format as format
use Rattle.format.specs.Read.{acts_in}
use Rattle.board.specs.declared.Board.{Board}
use Rattle.board.specs.Sample.{fresh}
use Rattle.stack.specs.Open.{opened, open_row}
use Rattle.replay.specs.declared.Checked as told
use Rattle.replay.specs.Check.{plans_in, said_on, row_on, right, wrong_after, checked, check_of}
use Rattle.replay.proofs.Checks.{check-told, plans-open}
use Rattle.replay.proofs.Same.{same-is, is_same}
use Rattle.demands.specs.Acts.{outcome, next, opened_row, answers}
use Rattle.demands.specs.Demands.{opens}
use Rattle.demands.specs.Checked.{act_by, acts_by, rightly, recordedly, said_at, FirstWrong, ChecksRight}
use Rattle.demands.proofs.Demanded.{demand2}

-- ---- an act of a recording is an act of the demands
said-so : (row : List Board) (s : format.Sent) → (outcome row (act_by s)).said ≡ said_on row s
said-so row (format.sample board elapsed load thermistor shunt cells) = refl
said-so row (format.frame bytes) = refl
said-so row format.reading = refl

row-so : (row : List Board) (s : format.Sent) → next row (act_by s) ≡ row_on row s
row-so row (format.sample board elapsed load thermistor shunt cells) = refl
row-so row (format.frame bytes) = refl
row-so row format.reading = refl

-- what the library says of each
abbrev pub says : List Board → List format.Noted → List Said
says row notes = map (λ o. o.said) (answers next outcome row (acts_by notes))

says_on : (row : List Board) (n : format.Noted) (ns : List format.Noted) → says row (n ∷ ns) ≡ said_on row n.sent ∷ says (row_on row n.sent) ns
says_on row n ns = ap₂ (λ (a : Said) (l : List Said). a ∷ l) (said-so row n.sent) (ap (λ (r : List Board). says r ns) (row-so row n.sent))

-- ---- two lists of answers: all the same, or the first place where they are not
abbrev First : List Said → List Said → ℕ → Type 0
First xs ys i = (i < length xs) × ((j : ℕ) → j < i → said_at xs j ≡ said_at ys j) × (said_at xs i ≡ said_at ys i → ⊥)

module _ (x y : Said) (xs ys : List Said) where
  first-later : x ≡ y → (k : ℕ) → First xs ys k → First (x ∷ xs) (y ∷ ys) (suc k)
  first-later e k f = (omega (arith, f.0), before, f.2)
    where
      before : (j : ℕ) → j < suc k → said_at (x ∷ xs) j ≡ said_at (y ∷ ys) j
      before zero p = e
      before (suc j) p = f.1 j (le_of_suc-le-suc p)

  later_first : (k : ℕ) → First (x ∷ xs) (y ∷ ys) (suc k) → (x ≡ y) × First xs ys k
  later_first k f = (f.1 0 (omega arith), (omega (arith, f.0), (λ j p. f.1 (suc j) (omega (arith, p))), f.2))

-- ---- the place that is told, where `done` acts stand before
past : (notes : List format.Noted) (row : List Board) (done : ℕ) → (wrong_after done row notes ≡ 0 → ⊥) → done < wrong_after done row notes
unfolding wrong_after
past [] row done e = absurd (e refl)
past (n ∷ ns) row done e =
    split (right row n)
    (λ r. let later = past ns (row_on row n.sent) (done + 1) (rw r at e) in rw r (omega (arith, later)))
    (λ r. rw r (omega arith))

all_right : (notes : List format.Noted) (row : List Board) (done : ℕ) → wrong_after done row notes ≡ 0 → recordedly notes ≡ says row notes
unfolding wrong_after
all_right [] row done e = refl
all_right (n ∷ ns) row done e =
    split (right row n)
    (λ r. ap₂ (λ (a : Said) (l : List Said). a ∷ l) (same-is n.answer (said_on row n.sent) r) (all_right ns (row_on row n.sent) (done + 1) (rw r at e)) ∙ sym (says_on row n ns))
    (λ r. let some : done + 1 ≡ 0 = rw r at e in absurd (omega (arith, some)))

pub right-all : (notes : List format.Noted) (row : List Board) (done : ℕ) → recordedly notes ≡ says row notes → wrong_after done row notes ≡ 0
unfolding wrong_after
right-all [] row done e = refl
right-all (n ∷ ns) row done e =
    let whole = e ∙ says_on row n ns in
    let head : n.answer ≡ said_on row n.sent = ap (λ (l : List Said). said_at l 0) whole in
    let rest : recordedly ns ≡ says (row_on row n.sent) ns = ap (λ (l : List Said). drop 1 l) whole in
    rw (is_same n.answer (said_on row n.sent) head) (right-all ns (row_on row n.sent) (done + 1) rest)

first_out : (notes : List format.Noted) (row : List Board) (done k : ℕ) → wrong_after done row notes ≡ done + suc k → First (recordedly notes) (says row notes) k
unfolding wrong_after
first_out [] row done k e = absurd (omega (arith, e))
first_out (n ∷ ns) row done k e =
    subst (λ (l : List Said). First (recordedly (n ∷ ns)) l k) (sym (says_on row n ns))
    (split (right row n)
    (λ r. by k (same-is n.answer (said_on row n.sent) r) (rw r at e) (past ns (row_on row n.sent) (done + 1)) (λ j f. first_out ns (row_on row n.sent) (done + 1) j f))
    (λ r. let none : k ≡ 0 = last (rw r at e) in rw none (omega arith, (λ j p. absurd (not-suc-le-zero p)), λ f. true≢false (sym (is_same n.answer (said_on row n.sent) f) ∙ r))))
  where
    last : done + 1 ≡ done + suc k → k ≡ 0
    last f = omega (arith, f)

    by : (j : ℕ) → n.answer ≡ said_on row n.sent → wrong_after (done + 1) (row_on row n.sent) ns ≡ done + suc j → ((wrong_after (done + 1) (row_on row n.sent) ns ≡ 0 → ⊥) → done + 1 < wrong_after (done + 1) (row_on row n.sent) ns)
        → ((i : ℕ) → wrong_after (done + 1) (row_on row n.sent) ns ≡ done + 1 + suc i → First (recordedly ns) (says (row_on row n.sent) ns) i) → First (recordedly (n ∷ ns)) (said_on row n.sent ∷ says (row_on row n.sent) ns) j
    by zero a f p ih = absurd (omega (arith, f, p (λ z. omega (arith, f, z))))
    by (suc i) a f p ih = first-later n.answer (said_on row n.sent) (recordedly ns) (says (row_on row n.sent) ns) a i (ih i (omega (arith, f)))

out_first : (notes : List format.Noted) (row : List Board) (done k : ℕ) → First (recordedly notes) (says row notes) k → wrong_after done row notes ≡ done + suc k
unfolding wrong_after
out_first [] row done k f = absurd (not-suc-le-zero f.0)
out_first (n ∷ ns) row done k f = by k (subst (λ (l : List Said). First (recordedly (n ∷ ns)) l k) (says_on row n ns) f) (λ j g. out_first ns (row_on row n.sent) (done + 1) j g)
  where
    by : (j : ℕ) → First (recordedly (n ∷ ns)) (said_on row n.sent ∷ says (row_on row n.sent) ns) j → ((i : ℕ) → First (recordedly ns) (says (row_on row n.sent) ns) i → wrong_after (done + 1) (row_on row n.sent) ns ≡ done + 1 + suc i)
        → cond (right row n) (wrong_after (done + 1) (row_on row n.sent) ns) (done + 1) ≡ done + suc j
    by zero g ih = split (right row n) (λ r. absurd (g.2 (same-is n.answer (said_on row n.sent) r))) (λ r. rw r (omega arith))
    by (suc i) g ih =
        let l = later_first n.answer (said_on row n.sent) (recordedly ns) (says (row_on row n.sent) ns) i g in
        let there = ih i l.1 in
        rw (is_same n.answer (said_on row n.sent) l.0) (omega (arith, there))

-- ---- demand 2 tells what the library says
pub opened-is : (plans : List ℕ) → opens plans ≡ true → opened_row plans ≡ opened plans
unfolding open_row
opened-is plans e = rw (length-replicate (length plans) (fresh 0), e)

pub rightly-is : (plans : List ℕ) (notes : List format.Noted) → opens plans ≡ true → says (opened plans) notes ≡ rightly plans notes
rightly-is plans notes e = ap (λ (r : List Board). says r notes) (sym (opened-is plans e)) ∙ ap (map (λ o. o.said)) (demand2 plans e (acts_by notes)).0

-- there are as many answers as acts
module _ (plans : List ℕ) (notes : List format.Noted) (k : ℕ) where
  as_many : length (recordedly notes) ≡ length notes
  as_many = length-map notes (λ n. n.answer)

  wrong-at : First (recordedly notes) (rightly plans notes) k → FirstWrong plans notes k
  wrong-at f = (omega (arith, f.0, as_many), f.1, f.2)

  at-wrong : FirstWrong plans notes k → First (recordedly notes) (rightly plans notes) k
  at-wrong f = (omega (arith, f.0, as_many), f.1, f.2)

pub checks-right : ChecksRight
checks-right row bytes so fit =
    let plans = plans_in bytes in
    let notes = acts_in bytes in
    let ok = plans-open row bytes so in
    let open-so : opens plans ≡ true = rw (eq-eqb (length plans) (length plans) refl, ok.0, ok.1) in
    let is = check-told row bytes so fit in
    let tells = rightly-is plans notes open-so in
    let place : (k : ℕ) → check_of row bytes ≡ checked k 0 → wrong_after 0 (opened plans) notes ≡ k = λ k e. ap (λ (c : told.Checked). c.place) (sym is ∙ e) in
    let at : (k : ℕ) → wrong_after 0 (opened plans) notes ≡ k → check_of row bytes ≡ checked k 0 = λ k e. is ∙ ap (λ (n : ℕ). checked n 0) e in
    record {
      opened = open-so;
      all = λ e. all_right notes (opened plans) 0 (place 0 e) ∙ tells;
      all_so = λ e. at 0 (right-all notes (opened plans) 0 (e ∙ sym tells));
      first = λ k e. wrong-at plans notes k (subst (λ (l : List Said). First (recordedly notes) l k) tells (first_out notes (opened plans) 0 k (place (suc k) e ∙ sym (none_more k))));
      first_so = λ k f. at (suc k) (out_first notes (opened plans) 0 k (subst (λ (l : List Said). First (recordedly notes) l k) (sym tells) (at-wrong plans notes k f)) ∙ none_more k);
    }
  where
    none_more : (k : ℕ) → 0 + suc k ≡ suc k
    none_more k = omega arith
