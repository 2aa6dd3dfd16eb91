-- A whole-stack reading says what the latches and flags of the histories do.
-- Assumes nothing.
use Prim.Native.Nat.{ℕ, zero, suc, ◌+◌, ◌-◌, ◌<◌, ◌≤◌}
use native.Mathlib.Nat.{not-suc-le-zero}
use native.Mathlib.Numerals.{add-one}
use native.Mathlib.Omega.{arith}
use mathlib.Core.Path.{◌≡◌, refl, sym, ap, ◌∙◌, subst}
use mathlib.Core.Logic.{◌⊎◌, inl, inr, ◌↔◌}
use mathlib.Core.Bool.{Bool, true, false, true≢false, cond, not, ◌&&◌, ◌||◌}
use mathlib.Core.List.{List, [], ◌∷◌, map}
use lib.Dec.{ltb, eqb}
use borrow.Author.Tests.{ltb-true, ltb-false, eqb-true, eqb-false, ne_eqb}
use Rattle.lists.specs.Every.{every}
use Rattle.lists.specs.Each.{each}
use Rattle.lists.specs.Marks.{bit, number, marks, lowest}
use Rattle.lists.proofs.Each.{each-length}
use Rattle.lists.proofs.Marks.{marks-number}
use Rattle.lists.proofs.Split.{split, both}
use Rattle.settings.specs.Faults.{Fault, SCD, OCD, OV, UV, OT}
use Rattle.board.specs.declared.Board.{Board}
use Rattle.board.specs.Plan.{is_host}
use Rattle.reading.specs.declared.Summary.{Summary}
use Rattle.reading.specs.declared.Place.{Place}
use Rattle.reading.specs.Reading.{line_up, chg_on, dsg_on, lowest_flagged, place, first_flagged, read_of}
use Rattle.demands.specs.Paper.{latched, dsg_set, chg_set, flagged, flags_at}
use Rattle.demands.specs.Acts.{Outcome, reading, outcome, final}
use Rattle.demands.specs.Demands.{Log, no_log, begun, log_at, taken, summary_given, reading_says}
use Rattle.demands.specs.Refused.{log_of}
use Rattle.demands.specs.Whole.{Latched, Flagged, May, LineUp, PackChg, PackDsg, Southernmost, NoneFlagged, OneIf, Reading, ReadByPaper}
use Rattle.demands.proofs.Asked.{Asks, asks-no, asks-so, asks-or, asks-and, asks-not, asks-or3}
use Rattle.demands.proofs.Tells.{tells}
use Rattle.demands.proofs.Demanded.{demand2, final-good}
use Rattle.demands.proofs.Refused.{opens-so}

-- ---- line and switches

abbrev pub on : Log → Fault → Bool
on l f = latched l.plan f l.acts

abbrev pub On : Log → Fault → Type 0
On l f = on l f ≡ true

asks-it : (b : Bool) → Asks b (b ≡ true)
asks-it b = (λ e. e, λ e. e)

-- a board has a latch
pub any-ask : (l : Log) → Asks (summary_given l).latched ((f : Fault) × On l f)
any-ask l =
    let a = on l SCD in
    let b = on l OCD in
    let c = on l OV in
    let d = on l UV in
    let e = on l OT in
    asks-so (a || b || c || d || e)
    (asks-or3 (a || b || c) d e (asks-or3 (a || b) c (d || e) (asks-or3 a b (c || (d || e))
    (asks-or a (b || (c || (d || e))) (asks-it a) (asks-or b (c || (d || e)) (asks-it b)
    (asks-or c (d || e) (asks-it c) (asks-or d e (asks-it d) (asks-it e))))))))
    there (λ (f, h). back f h)
  where
    there : On l SCD ⊎ On l OCD ⊎ On l OV ⊎ On l UV ⊎ On l OT → (f : Fault) × On l f
    there (inl h) = (SCD, h)
    there (inr (inl h)) = (OCD, h)
    there (inr (inr (inl h))) = (OV, h)
    there (inr (inr (inr (inl h)))) = (UV, h)
    there (inr (inr (inr (inr h)))) = (OT, h)

    back : (f : Fault) → On l f → On l SCD ⊎ On l OCD ⊎ On l OV ⊎ On l UV ⊎ On l OT
    back SCD h = inl h
    back OCD h = inr (inl h)
    back OV h = inr (inr (inl h))
    back UV h = inr (inr (inr (inl h)))
    back OT h = inr (inr (inr (inr h)))

-- none of four
none-ask : (a b c d : Bool) → Asks (not (a || b || c || d)) ((¬ (a ≡ true)) × (¬ (b ≡ true)) × (¬ (c ≡ true)) × (¬ (d ≡ true)))
none-ask a b c d =
    asks-so (not (a || b || c || d))
    (asks-not (a || b || c || d) (asks-or3 (a || b) c d (asks-or3 a b (c || d)
    (asks-or a (b || (c || d)) (asks-it a) (asks-or b (c || d) (asks-it b) (asks-or c d (asks-it c) (asks-it d)))))))
    (λ none. (λ e. none (inl e), λ e. none (inr (inl e)), λ e. none (inr (inr (inl e))), λ e. none (inr (inr (inr e)))))
    back
  where
    back : (¬ (a ≡ true)) × (¬ (b ≡ true)) × (¬ (c ≡ true)) × (¬ (d ≡ true)) → ¬ ((a ≡ true) ⊎ (b ≡ true) ⊎ (c ≡ true) ⊎ (d ≡ true))
    back (p, q, r, s) (inl e) = p e
    back (p, q, r, s) (inr (inl e)) = q e
    back (p, q, r, s) (inr (inr (inl e))) = r e
    back (p, q, r, s) (inr (inr (inr e))) = s e

-- the line, by places in the row and by numbers
line_at : (logs : List Log) → Asks (line_up (map summary_given logs)) ((i : ℕ) × (f : Fault) × On (log_at logs i) f)
unfolding line_up
line_at [] = (λ e. absurd (true≢false (sym e)), λ (i, f, h). absurd (true≢false (sym h)))
line_at (l ∷ logs) =
    asks-so ((summary_given l).latched || line_up (map summary_given logs))
    (asks-or (summary_given l).latched (line_up (map summary_given logs)) (any-ask l) (line_at logs)) there (λ (i, f, h). back i f h)
  where
    there : ((f : Fault) × On l f) ⊎ ((i : ℕ) × (f : Fault) × On (log_at logs i) f) → (i : ℕ) × (f : Fault) × On (log_at (l ∷ logs) i) f
    there (inl (f, h)) = (zero, f, h)
    there (inr (i, f, h)) = (suc i, f, h)

    back : (i : ℕ) (f : Fault) → On (log_at (l ∷ logs) i) f → ((f : Fault) × On l f) ⊎ ((i : ℕ) × (f : Fault) × On (log_at logs i) f)
    back zero f h = inl (f, h)
    back (suc i) f h = inr (i, f, h)

pub line-ask : (logs : List Log) → Asks (line_up (map summary_given logs)) (LineUp logs 1)
line-ask logs = asks-so (line_up (map summary_given logs)) (line_at logs) (λ (i, f, h). (suc i, omega arith, f, h)) (λ (b, p, f, h). back b f h)
  where
    back : (b : ℕ) (f : Fault) → Latched logs b f → (i : ℕ) × (f : Fault) × On (log_at logs i) f
    back zero f h = absurd (true≢false (sym h))
    back (suc i) f h = (i, f, h)

-- a test that every board passes, where one that is not there does
module _ (test : Summary → Bool) (absent : test (summary_given (no_log)) ≡ true) where
  every-place : (logs : List Log) → Asks (every test (map summary_given logs)) ((i : ℕ) → test (summary_given (log_at logs i)) ≡ true)
  unfolding every
  every-place [] = (λ e i. absent, λ h. refl)
  every-place (l ∷ logs) =
      let rest = every-place logs in (
        λ e. there (rest.0 (both (test (summary_given l)) (every test (map summary_given logs)) e).1) (both (test (summary_given l)) (every test (map summary_given logs)) e).0,
        λ h. rw (h zero) (rest.1 (λ i. h (suc i))),
      )
    where
      there : ((i : ℕ) → test (summary_given (log_at logs i)) ≡ true) → test (summary_given l) ≡ true → (i : ℕ) → test (summary_given (log_at (l ∷ logs) i)) ≡ true
      there later here zero = here
      there later here (suc i) = later i

  every-board : (logs : List Log) → Asks (every test (map summary_given logs)) ((b : ℕ) → test (summary_given (log_of logs b)) ≡ true)
  every-board logs = asks-so (every test (map summary_given logs)) (every-place logs) there (λ h i. h (suc i))
    where
      there : ((i : ℕ) → test (summary_given (log_at logs i)) ≡ true) → (b : ℕ) → test (summary_given (log_of logs b)) ≡ true
      there h zero = absent
      there h (suc i) = h i

-- on a host board the bit is set
may-ask : (l : Log) (bit : Bool) → Asks (not (is_host l.plan.kind) || bit) (May l bit)
may-ask l bit =
    split (is_host l.plan.kind)
    (λ h. rw h (λ e is. e, λ so. so (eqb-true l.plan.kind 1 h)))
    (λ h. rw h (λ e is. absurd (eqb-false l.plan.kind 1 h is), λ so. refl))

-- a switch: it may be on, and none of four faults forbids it
switch-ask : (l : Log) (bit a b c d : Bool)
    → Asks ((not (is_host l.plan.kind) || bit) && not (a || b || c || d)) (May l bit × (¬ (a ≡ true)) × (¬ (b ≡ true)) × (¬ (c ≡ true)) × (¬ (d ≡ true)))
switch-ask l bit a b c d =
    let may = not (is_host l.plan.kind) || bit in
    let none = not (a || b || c || d) in
    asks-so (may && none) (asks-and may none (may-ask l bit) (none-ask a b c d)) (λ (m, (p, q, r, s)). (m, p, q, r, s)) (λ (m, p, q, r, s). (m, (p, q, r, s)))

chg-ask : (logs : List Log) → Asks (every chg_on (map summary_given logs)) (PackChg logs)
chg-ask logs =
    let ask : (b : ℕ) → _ = λ b. let l = log_of logs b in switch-ask l (chg_set l.plan l.acts) (on l OV) (on l OCD) (on l SCD) (on l OT) in
    asks-so (every chg_on (map summary_given logs)) (every-board chg_on refl logs) (λ h b. (ask b).0 (h b)) (λ h b. (ask b).1 (h b))

dsg-ask : (logs : List Log) → Asks (every dsg_on (map summary_given logs)) (PackDsg logs)
dsg-ask logs =
    let ask : (b : ℕ) → _ = λ b. let l = log_of logs b in switch-ask l (dsg_set l.plan l.acts) (on l UV) (on l OCD) (on l SCD) (on l OT) in
    asks-so (every dsg_on (map summary_given logs)) (every-board dsg_on refl logs) (λ h b. (ask b).0 (h b)) (λ h b. (ask b).1 (h b))

pub one-if : {P : Type 0} (t : Bool) → Asks t P → OneIf P (bit t)
one-if true a = inl (a.0 refl, refl)
one-if false a = inr ((asks-no false a).0 refl, refl)

-- ---- the flagged place

-- of n places from i on: none so, or the lowest that is
abbrev LowestAt : (ℕ → Bool) → ℕ → ℕ → ℕ → Type 0
LowestAt f i n c =
    ((c ≡ 0) × ((k : ℕ) → i ≤ k → k < i + n → ¬ (f k ≡ true)))
    ⊎ ((j : ℕ) × (c ≡ j + 1) × (i ≤ j) × (j < i + n) × (f j ≡ true) × ((k : ℕ) → i ≤ k → k < j → ¬ (f k ≡ true)))

lowest-at : (f : ℕ → Bool) (i n : ℕ) → LowestAt f i n (lowest (i + 1) (each i n f))
unfolding each lowest
lowest-at f i zero = inl (refl, λ k low high. absurd (omega arith))
lowest-at f i (suc n) =
    split (f i)
    (λ h. rw h (inr (i, refl, omega arith, omega arith, h, λ k low high. absurd (omega arith))))
    (λ h. rw (h, ← (add-one i)) (more h (lowest-at f (i + 1) n)))
  where
    not-here : f i ≡ false → (k : ℕ) → i ≤ k → ((i + 1 ≤ k) → ¬ (f k ≡ true)) → ¬ (f k ≡ true)
    not-here h k low later e =
        split (eqb k i)
        (λ is. true≢false (sym e ∙ ap f (eqb-true k i is) ∙ h))
        (λ other. later (omega (arith, low, eqb-false k i other)) e)

    more : f i ≡ false → LowestAt f (i + 1) n (lowest (i + 1 + 1) (each (i + 1) n f)) → LowestAt f i (suc n) (lowest (i + 1 + 1) (each (i + 1) n f))
    more h (inl (z, none)) = inl (z, λ k low high. not-here h k low (λ above. none k above (omega arith)))
    more h (inr (j, is, low, high, e, none)) =
        inr (j, is, omega arith, omega arith, e, λ k from under. not-here h k from (λ above. none k above under))

-- of one board: no cell is flagged, or the lowest that is
abbrev Cell : Log → ℕ → Type 0
Cell l c = (1 ≤ c) × (c ≤ l.plan.cells) × (flagged l.plan (c - 1) l.acts ≡ true)

abbrev LowestOn : Log → ℕ → Type 0
LowestOn l c = ((c ≡ 0) × ((d : ℕ) → ¬ Cell l d)) ⊎ (Cell l c × ((d : ℕ) → d < c → ¬ Cell l d))

lowest-on : (l : Log) → LowestOn l (lowest_flagged (summary_given l))
lowest-on l = subst (LowestOn l) (sym flags-are) (by (lowest 1 (flags_at l.plan l.acts)) (lowest-at f 0 l.plan.cells))
  where
    f : ℕ → Bool
    f k = flagged l.plan k l.acts

    flags-are : lowest_flagged (summary_given l) ≡ lowest 1 (flags_at l.plan l.acts)
    flags-are =
        let bs = flags_at l.plan l.acts in
        ap (λ (n : ℕ). lowest 1 (marks n (number bs))) (sym (each-length f 0 l.plan.cells)) ∙ ap (lowest 1) (marks-number bs)

    by : (c : ℕ) → LowestAt f 0 l.plan.cells c → LowestOn l c
    by c (inl (z, none)) = inl (z, λ d (p, q, e). none (d - 1) (omega arith) (omega arith) e)
    by c (inr (j, is, low, high, e, none)) =
        let back : c - 1 ≡ j = omega arith in
        inr ((omega arith, omega arith, ap f back ∙ e), λ d under (p, q, h). none (d - 1) (omega arith) (omega arith) h)

-- of a row whose first board has number k
abbrev FirstAt : List Log → ℕ → Place → Type 0
FirstAt logs k p =
    ((p ≡ place 0 0) × ((i c : ℕ) → ¬ Cell (log_at logs i) c))
    ⊎ ((i : ℕ) × (c : ℕ) × (p ≡ place (k + i) c) × Cell (log_at logs i) c × ((d : ℕ) → d < c → ¬ Cell (log_at logs i) d) × ((j d : ℕ) → j < i → ¬ Cell (log_at logs j) d))

first-at : (k : ℕ) (logs : List Log) → FirstAt logs k (first_flagged k (map summary_given logs))
unfolding first_flagged
first-at k [] = inl (refl, λ i c (p, q, e). omega arith)
first-at k (l ∷ logs) = on-board (lowest_flagged (summary_given l)) (lowest-on l) (first-at (k + 1) logs)
  where
    north : Place
    north = first_flagged (k + 1) (map summary_given logs)

    none_so : ((d : ℕ) → ¬ Cell l d) → (i : ℕ) → ((j d : ℕ) → j < i → ¬ Cell (log_at logs j) d) → (j d : ℕ) → j < suc i → ¬ Cell (log_at (l ∷ logs) j) d
    none_so here i later zero d p = here d
    none_so here i later (suc j) d p = later j d (omega arith)

    further : ((d : ℕ) → ¬ Cell l d) → FirstAt logs (k + 1) north → FirstAt (l ∷ logs) k north
    further here (inl (e, none)) = inl (e, λ i c. none_so here i (λ j d p. none j d) i c (omega arith))
    further here (inr (i, c, e, flag, low, south)) =
        let one : k + 1 + i ≡ k + suc i = omega arith in
        inr (suc i, c, e ∙ ap (λ (b : ℕ). place b c) one, flag, low, none_so here i south)

    on-board : (c : ℕ) → LowestOn l c → FirstAt logs (k + 1) north → FirstAt (l ∷ logs) k (cond (eqb c 0) north (place k c))
    on-board c (inl (z, none)) rest = rw z (further none rest)
    on-board c (inr ((p, q, e), low)) rest =
        let here : k ≡ k + 0 = omega arith in
        rw (ne_eqb c 0 (λ z. omega arith)) (inr (zero, c, ap (λ (b : ℕ). place b c) here, (p, q, e), low, λ j d under. absurd (not-suc-le-zero under)))

-- by numbers
none-by : (logs : List Log) → ((i c : ℕ) → ¬ Cell (log_at logs i) c) → NoneFlagged logs
none-by logs none zero c (p, q, e) = omega arith
none-by logs none (suc i) c flag = none i c flag

south-by : (logs : List Log) (i : ℕ) → ((j d : ℕ) → j < i → ¬ Cell (log_at logs j) d) → (a d : ℕ) → a < suc i → ¬ Flagged logs a d
south-by logs i south zero d p (q, r, e) = omega arith
south-by logs i south (suc j) d p flag = south j d (omega arith) flag

southernmost : (logs : List Log) (i c : ℕ) → Cell (log_at logs i) c → ((d : ℕ) → d < c → ¬ Cell (log_at logs i) d) → ((j d : ℕ) → j < i → ¬ Cell (log_at logs j) d) → Southernmost logs (suc i) c
southernmost logs i c flag low south = (flag, low, south-by logs i south)

-- there is at most one such place
unique : (logs : List Log) (b c a d : ℕ) → Southernmost logs b c → Southernmost logs a d → (b ≡ a) × (c ≡ d)
unique logs b c a d (flag, low, south) (other, lower, further) =
    let same : b ≡ a = apart b a (λ p. further b c p flag) (λ p. south a d p other) in
    let other-here : Flagged logs b d = subst (λ (n : ℕ). Flagged logs n d) (sym same) other in
    let flag-there : Flagged logs a c = subst (λ (n : ℕ). Flagged logs n c) same flag in
    (same, apart c d (λ p. lower c p flag-there) (λ p. low d p other-here))
  where
    apart : (m n : ℕ) → ¬ (m < n) → ¬ (n < m) → m ≡ n
    apart m n p q = split (ltb m n) (λ e. absurd (p (ltb-true m n e))) (λ e. split (ltb n m) (λ h. absurd (q (ltb-true n m h))) (λ h. omega (arith, ltb-false m n e, ltb-false n m h)))

module _ (logs : List Log) (p : Place) where
  somewhere : FirstAt logs 1 p → (b c : ℕ) → 0 < b → ((p.board ≡ b) × (p.cell ≡ c)) ↔ Southernmost logs b c
  somewhere (inl (e, none)) b c some = (
    λ (is, at). absurd (omega (arith, some, is, ap (λ (q : Place). q.board) e)),
    λ (flag, low, south). absurd (none-by logs none b c flag),
  )
  somewhere (inr (i, c, e, flag, low, south)) b d some =
      let board-is : p.board ≡ suc i = ap (λ (q : Place). q.board) e ∙ omega arith in
      let cell-is : p.cell ≡ c = ap (λ (q : Place). q.cell) e in
      let here = southernmost logs i c flag low south in (
        λ (is, at). subst (λ (n : ℕ). Southernmost logs n d) (sym board-is ∙ is) (subst (λ (n : ℕ). Southernmost logs (suc i) n) (sym cell-is ∙ at) here),
        λ there. let found = unique logs (suc i) c b d here there in (board-is ∙ found.0, cell-is ∙ found.1),
      )

  nowhere : FirstAt logs 1 p → ((p.board ≡ 0) × (p.cell ≡ 0)) ↔ NoneFlagged logs
  nowhere (inl (e, none)) = (λ is. none-by logs none, λ never. (ap (λ (q : Place). q.board) e, ap (λ (q : Place). q.cell) e))
  nowhere (inr (i, c, e, flag, low, south)) = (
    λ (is, at). absurd (omega (arith, is, ap (λ (q : Place). q.board) e)),
    λ never. absurd (never (suc i) c flag),
  )

-- ---- the reading

reads : (logs : List Log) → Reading logs (reading_says logs)
unfolding read_of
reads logs =
    let boards = map summary_given logs in
    let found = first-at 1 logs in
    record {
      five = refl;
      line = one-if (line_up boards) (line-ask logs);
      chg = one-if (every chg_on boards) (chg-ask logs);
      dsg = one-if (every dsg_on boards) (dsg-ask logs);
      somewhere = somewhere logs (first_flagged 1 boards) found;
      nowhere = nowhere logs (first_flagged 1 boards) found;
    }

pub read-by-paper : ReadByPaper
read-by-paper =
    record {
      told = reads;
      answered = λ plans fine acts.
          let e = opens-so plans fine in
          let logs = final taken (begun plans) acts in
          let said = ap (λ (row : List Board). (outcome row reading).said) (demand2 plans e acts).1
          ∙ ap (λ (o : Outcome). o.said) (tells logs (final-good plans e acts) reading) in
          (reading_says logs, said, reads logs);
    }
