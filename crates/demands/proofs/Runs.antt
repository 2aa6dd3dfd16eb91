-- What one more act makes of the cycles spent, of the working settings and of the runs in a history.
-- Assumes nothing.
use Prim.Native.Nat.{ℕ, ◌+◌}
use mathlib.Core.Path.{◌≡◌, refl, sym, ap}
use mathlib.Core.Bool.{Bool, true, false, true≢false, cond, not, ◌&&◌}
use mathlib.Core.List.{List, [], ◌∷◌}
use mathlib.Core.Option.{Option, some, none}
use borrow.Author.Tests.{not-false}
use Rattle.lists.proofs.Split.{split}
use Rattle.settings.specs.Bytes.{same}
use Rattle.settings.specs.Faults.{Fault}
use Rattle.settings.proofs.Laws.{same-yes}
use Rattle.runs.specs.Run.{stretch, lasting}
use Rattle.demands.specs.Paper.{Entry, sampled, framed, History, programming, staged, working, spends, Sample, sample_of, since, holds, run_of}
use Rattle.demands.specs.Mechanic.{Runs, Cycles}

pub cycles : (e : Entry) (h : History) → Cycles e h
cycles e h =
    record {
      none-at-equal = λ s. split (programming e) (λ p. rw (p, s)) (λ p. rw p);
      one-at-unlike = λ p s. rw (p, s);
      none-else = λ p. rw p;
    }

-- an act that spends no cycle leaves the working settings: an equal programming too
pub working-stays : (e : Entry) (h : History) → spends e h ≡ false → working (e ∷ h) ≡ working h
working-stays e h = by (programming e)
  where
    by : (p : Bool) → (p && not (same (staged h) (working h))) ≡ false → cond p (staged h) (working h) ≡ working h
    by true n = same-yes (staged h) (working h) (not-false (same (staged h) (working h)) n)
    by false n = refl

abbrev is_none : Option ℕ → Bool
is_none none = true
is_none (some t) = false

abbrev longer : ℕ → Option ℕ → Option ℕ
longer e none = none
longer e (some t) = some (e + t)

abbrev elapsed_of : Sample → ℕ
elapsed_of x = x.readings.elapsed

begin : (x : Sample) (older : List Sample) → lasting elapsed_of older ≡ none → lasting elapsed_of (x ∷ older) ≡ some 0
begin x [] e = refl
begin x (y ∷ older) e = absurd (true≢false (sym (ap is_none e)))

go_on : (x : Sample) (older : List Sample) (t : ℕ) → lasting elapsed_of older ≡ some t → lasting elapsed_of (x ∷ older) ≡ some (elapsed_of x + t)
go_on x [] t e = absurd (true≢false (ap is_none e))
go_on x (y ∷ older) t e = ap (longer (elapsed_of x)) e

pub runs : (f : Fault) (k : ℕ) (h : History) → Runs f k h
runs f k h =
    let before = stretch (holds f (working h) k) (since h) in
    record {
      fails = λ x mv e. rw e;
      begins = λ x mv e n. rw e (begin (sample_of x mv) before n);
      goes_on = λ x mv t e n. rw e (go_on (sample_of x mv) before t n);
      starts-over = over;
      else-stays = λ address register v n. let e = framed address register v in rw (n, working-stays e h n);
    }
  where
    -- only a frame spends
    over : (e : Entry) → spends e h ≡ true → run_of f k (e ∷ h) ≡ none
    over (sampled x mv) s = absurd (true≢false (sym s))
    over (framed address register v) s = rw s
