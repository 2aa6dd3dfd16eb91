-- What is told of an answer tells it.
-- Assumes nothing.
use Rattle.std.proofs.Common.{ℕ, ◌≡◌, refl, sym, ap, ◌∙◌, Result, Ok, Err, arith}
use Rattle.std.specs.Prelude.{IsOk}
use mathlib.Core.Bool.{false, true≢false}
use Rattle.reader.specs.declared.Fault.{Fault}
use Rattle.reader.specs.declared.Fault.TheVariants.{CutShort, Wrong, LeftOver}
use Rattle.lists.specs.Compare.{outside}
use Rattle.reader.specs.declared.Kind.{Kind}
use Rattle.reader.specs.Kinds.{Decodes}
use Rattle.reader.specs.declared.Stop.{Stop}
use Rattle.reader.specs.declared.Counts.{Counts}
use Rattle.reader.specs.Reader.{Step, Read}
use Rattle.reader.specs.Told.{number_of, step_told, read_told, ToldOnce}

-- a fault's number is never the 0 that says that reading goes on
pub number-some : (f : Fault) → number_of f ≡ 0 → ⊥
number-some CutShort e = omega (arith, e)
number-some Wrong e = omega (arith, e)
number-some LeftOver e = omega (arith, e)

pub told-some : (e : Stop) {s : Step} → step_told (Err e) ≡ s → s.number ≡ 0 → ⊥
told-some e so none = number-some e.fault (ap (λ (s : Step). s.number) so ∙ none)

-- where the number is 0, reading goes on
pub told-ok : (r : Result ℕ Stop) {s : Step} → step_told r ≡ s → s.number ≡ 0 → IsOk r
told-ok (Ok next) so none = refl
told-ok (Err e) so none = absurd (told-some e so none)

-- a byte that is not outside them stands for a kind
pub known : (code : ℕ) (r : Result Kind Fault) → Decodes code r → outside 1 3 code ≡ false → IsOk r
known code (Ok kind) d e = refl
known code (Err fault) d e = absurd (true≢false (sym d.1 ∙ e))

number-once : (f g : Fault) → number_of f ≡ number_of g → f ≡ g
number-once CutShort CutShort e = refl
number-once CutShort Wrong e = absurd (omega (arith, e))
number-once CutShort LeftOver e = absurd (omega (arith, e))
number-once Wrong CutShort e = absurd (omega (arith, e))
number-once Wrong Wrong e = refl
number-once Wrong LeftOver e = absurd (omega (arith, e))
number-once LeftOver CutShort e = absurd (omega (arith, e))
number-once LeftOver Wrong e = absurd (omega (arith, e))
number-once LeftOver LeftOver e = refl

-- one answer at most is told so
pub step-once : (r t : Result ℕ Stop) → step_told r ≡ step_told t → r ≡ t
step-once (Ok m) (Ok n) e = λ i. Ok (e i).at
step-once (Ok m) (Err b) e = absurd (number-some b.fault (sym (ap (λ (s : Step). s.number) e)))
step-once (Err a) (Ok n) e = absurd (number-some a.fault (ap (λ (s : Step). s.number) e))
step-once (Err a) (Err b) e =
    let fault = number-once a.fault b.fault (ap (λ (s : Step). s.number) e) in
    λ i. Err (record { fault = fault i; at = (e i).at })

pub read-once : (long : ℕ) (r t : Result Counts Stop) → read_told long r ≡ read_told long t → r ≡ t
read-once long (Ok m) (Ok n) e = λ i. Ok (record { boards = (e i).boards; acts = (e i).acts })
read-once long (Ok m) (Err b) e = absurd (number-some b.fault (sym (ap (λ (s : Read). s.number) e)))
read-once long (Err a) (Ok n) e = absurd (number-some a.fault (ap (λ (s : Read). s.number) e))
read-once long (Err a) (Err b) e =
    let fault = number-once a.fault b.fault (ap (λ (s : Read). s.number) e) in
    λ i. Err (record { fault = fault i; at = (e i).at })

pub told_once : ToldOnce
told_once = (step-once, read-once)
