-- `line_end`: the bytes from at on, and the first newline among them.
-- Assumes nothing.
use Rattle.std.proofs.Common.{arith, ◌≡◌, ◌<◌, ◌≤◌, ◌+◌, ◌-◌, length, drop, List, ℕ, refl, sym, ◌∙◌, [], Option, Some, None, ◌⊎◌, MatchOption}
use Rattle.std.specs.Option.{unwrap_or}
use Rattle.std.specs.List.{slice_range}
use Rattle.std.proofs.Common.{Bor}
use mathlib.Core.Logic.{⊎_elim}
use lib.ListN.{drop_of_length-le, length-drop}
use lib.Seq.{take_all}
use Rattle.lines.proofs.Ends.{newline-at}
use Rattle.lines.proofs.line_end.Goals as goal

rest-now : (s : List ℕ) (at : ℕ) (o : Option (Bor (List ℕ))) (none : Bor (List ℕ)) → none.now ≡ []
    → MatchOption o ((length s < at) ⊎ (length s < length s)) (λ x. (at ≤ length s) × (length s ≤ length s) × (x.now ≡ slice_range s at (length s)) × (length x.now + at ≡ length s))
    → (unwrap_or o none).now ≡ drop at s
rest-now s at None none e h = e ∙ sym (drop_of_length-le s (⊎_elim (λ l. omega arith) (λ l. omega arith) h))
rest-now s at (Some x) none e h = h.2 ∙ take_all (length s - at) (drop at s) (rw length-drop (omega arith))

pub returns : goal.returns
returns c =
    let s = c.args.s.now in
    let rest : c.unwrap_or-rest.result.now ≡ drop c.args.at s = rw c.unwrap_or-rest.ensures (rest-now s c.args.at c.get.result _ refl c.get.ensures.lookup.0) in
    rw (c.unwrap_or.ensures, c.first_newline.ensures, newline-at, rest)
