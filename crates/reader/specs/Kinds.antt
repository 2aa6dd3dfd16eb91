-- What an act is, and the byte that stands for it (02, ticket 10).
-- Assumes nothing.
use Rattle.std.specs.Prelude.{ℕ, ◌≡◌, true, Result, MatchResult}
use Rattle.lists.specs.Compare.{outside}
use Rattle.reader.specs.declared.Fault.{Fault}
use Rattle.reader.specs.declared.Fault.TheVariants.{Wrong}
use Rattle.reader.specs.declared.Kind.{Kind}
use Rattle.reader.specs.declared.Kind.TheVariants.{Sample, Frame, Reading}

abbrev pub code_of : Kind → ℕ
code_of Sample = 1
code_of Frame = 2
code_of Reading = 3

-- the kind that a byte stands for, or wrong where it stands for none
abbrev pub Decodes : ℕ → Result Kind Fault → Type 0
Decodes code r = MatchResult r (λ kind. code_of kind ≡ code) (λ e. (e ≡ Wrong) × (outside 1 3 code ≡ true))
