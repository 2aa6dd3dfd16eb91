-- Lines that are kept alike are read and answered alike.
-- Assumes nothing.
use Prim.Native.Nat.{ℕ, ◌<◌}
use native.Mathlib.Omega.{arith}
use mathlib.Core.Path.{◌≡◌, refl}
use mathlib.Core.List.{List, [], ◌∷◌, ◌++◌, map, append_assoc}
use lib.ListN.{length}
use borrow.Author.Tests.{lt-leb}
use Rattle.lines.specs.Line.{line_of}
use Rattle.text.specs.Text.{by_number, text_of}
use Rattle.held.specs.declared.Stack.{Stack}
use Rattle.lines.specs.Way.{clip}
use Rattle.lines.proofs.Clips.{read-clip}
use Rattle.session.specs.Session.{step_of, stack_after, output_of}

-- all lines over 200 bytes are read alike
pub over-alike : (p q : List ℕ) → 200 < length p → 200 < length q → line_of p ≡ line_of q
unfolding line_of
over-alike p q h k = rw (lt-leb (length p) 200 h, lt-leb (length q) 200 k)

-- so what is kept of a line is enough to read it
pub line-clip : (p : List ℕ) → line_of (clip p) ≡ line_of p
line-clip p = read-clip line_of over-alike p

pub none-held : (p : List ℕ) → length p ≡ 0 → p ≡ []
none-held [] e = refl
none-held (b ∷ p) e = absurd (omega arith)

-- lines that are read alike are answered alike
pub output-alike : (s : Stack) (a b : List (List ℕ)) → map line_of a ≡ map line_of b → output_of s a ≡ output_of s b
unfolding output_of
output-alike s [] [] e = refl
output-alike s [] (l ∷ b) e = let z : ◌≡◌ {A = ℕ} 0 1 = cc in absurd (omega arith)
output-alike s (k ∷ a) [] e = let z : ◌≡◌ {A = ℕ} 0 1 = cc in absurd (omega arith)
output-alike s (k ∷ a) (l ∷ b) e =
    let first : line_of k ≡ line_of l = cc in
    let rest : map line_of a ≡ map line_of b = cc in
    rw (first, output-alike (step_of s l).stack a b rest)

-- ---- some lines and then more

pub stack-append : (s : Stack) (a b : List (List ℕ)) → stack_after s (a ++ b) ≡ stack_after (stack_after s a) b
unfolding stack_after
stack-append s [] b = refl
stack-append s (l ∷ a) b = stack-append (step_of s l).stack a b

pub output-append : (s : Stack) (a b : List (List ℕ)) → output_of s (a ++ b) ≡ output_of s a ++ output_of (stack_after s a) b
unfolding stack_after output_of
output-append s [] b = refl
output-append s (l ∷ a) b =
    rw (output-append (step_of s l).stack a b, append_assoc (text_of (by_number (step_of s l).told)) (output_of (step_of s l).stack a) (output_of (stack_after (step_of s l).stack a) b))
