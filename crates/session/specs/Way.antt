-- On the way to a block that is fed: its lines answered one after the other, and a line that had begun before it. Nothing here is to be
-- believed; what a block does is said by Session.
-- Assumes nothing.
use Rattle.std.specs.Prelude.{ℕ, ◌+◌, ◌≤◌, ◌<◌, ◌≡◌, ◌⊎◌, List, [], length, take}
use Rattle.held.specs.declared.Stack.{Stack}
use Rattle.lines.specs.Way.{end_at, held}
use Rattle.session.specs.declared.Session.{Session}
use Rattle.session.specs.declared.Fed.{Fed}
use Rattle.session.specs.Session.{Fold}

-- the lines of a block up to a place are answered
pub record Sofar (s : Stack) (block : List ℕ) (from : ℕ) (old new : List ℕ) (s' : Stack) (r : Fed) : Type 0 where
  pub within : r.used ≤ length block
  pub fed : Fold [] s (take r.used block) from old new [] s' r.wrote

-- and no more is possible: none ends in the rest, or there is no room for its text
pub record Answered (s : Stack) (block : List ℕ) (from : ℕ) (old new : List ℕ) (s' : Stack) (r : Fed) : Type 0 where
  pub sofar : Sofar s block from old new s' r
  pub stops : (length block ≤ end_at block r.used) ⊎ (length old < r.wrote + 32)

-- a line that had begun is answered, or the whole block is kept behind it
pub record Completed (b : Session) (block old new : List ℕ) (a : Session) (r : Fed) : Type 0 where
  pub within : r.used ≤ length block
  pub done : (held a.cutter ≡ []) ⊎ (r.used ≡ length block)
  pub fed : Fold (held b.cutter) b.stack (take r.used block) 0 old new (held a.cutter) a.stack r.wrote
