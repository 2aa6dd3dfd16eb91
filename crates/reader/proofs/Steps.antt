-- Where the reading of an act stops behind its kind and the length of its body.
-- Assumes nothing.
use Prim.Native.Nat.{ℕ, ◌+◌, ◌<◌, ◌≤◌}
use native.Mathlib.Omega.{arith}
use mathlib.Core.Path.{◌≡◌, refl}
use mathlib.Core.Bool.{true, false}
use mathlib.Core.List.{List}
use lib.ListN.{length}
use borrow.Author.Tests.{lt-ltb, le-ltb}
use Rattle.lists.specs.Compare.{outside}
use Rattle.format.specs.Read.{kind_in, long_in, wrong_long, act_long, act_tests}
use Rattle.reader.specs.declared.Kind.{Kind}
use Rattle.reader.specs.declared.Kind.TheVariants.{Sample, Frame, Reading}
use Rattle.reader.specs.Kinds.{code_of}
use Rattle.reader.specs.Reader.{stop, act_step}
use Rattle.reader.specs.Way.{answer_step}

known : (kind : Kind) → outside 1 3 (code_of kind) ≡ false
known Sample = refl
known Frame = refl
known Reading = refl

module _ (at : ℕ) (rest : List ℕ) (two : 2 ≤ length rest) (kind : Kind) (ek : code_of kind ≡ kind_in rest) (long : ℕ) (el : long ≡ long_in rest) where
  pub act-long : wrong_long (code_of kind) long ≡ true → stop 18 (at + 1) ≡ act_step at rest
  unfolding act_step act_tests
  act-long h = rw (le-ltb (length rest) 1 (omega (arith, two)), ← ek, known kind, le-ltb (length rest) 2 two, ← el, h)

  module _ (right : wrong_long (code_of kind) long ≡ false) where
    pub act-no-body : length rest < 2 + long → stop 17 (at + 2) ≡ act_step at rest
    unfolding act_step act_tests
    act-no-body h = rw (le-ltb (length rest) 1 (omega (arith, two)), ← ek, known kind, le-ltb (length rest) 2 two, ← el, right, lt-ltb (length rest) (2 + long) h)

    pub act-body : 2 + long ≤ length rest → answer_step at rest (code_of kind) long ≡ act_step at rest
    unfolding act_step act_tests answer_step act_long
    act-body h = rw (le-ltb (length rest) 1 (omega (arith, two)), ← ek, known kind, le-ltb (length rest) 2 two, ← el, right, le-ltb (length rest) (2 + long) h)
