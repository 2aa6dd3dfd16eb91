-- A reply is determined by the number and the values it says; a frame taken apart says 6, 7 or 8 exactly by the table, and else has room for its reply.
-- Assumes nothing.
use Prim.Native.Nat.{ℕ, ◌≤◌}
use mathlib.Core.Path.{◌≡◌, refl}
use mathlib.Core.Bool.{Bool, true, false, cond, not}
use mathlib.Core.List.{List, [], ◌∷◌}
use lib.Dec.{ltb, eqb}
use lib.ListN.{length}
use borrow.Author.Tests.{ltb-false}
use Rattle.std.specs.Prelude.{Result, Ok, Err}
use Rattle.lists.proofs.Split.{split}
use Rattle.refusal.specs.declared.Refusal.{Refusal}
use Rattle.refusal.specs.Said.{judged}
use Rattle.refusal.proofs.Laws.{said-back}
use Rattle.frame.specs.declared.Reply.{Reply}
use Rattle.frame.specs.declared.Taken.{Taken}
use Rattle.frame.specs.Check.{check_of}
use Rattle.frame.specs.Frame.{byte, frame_bars}
use Rattle.frame.specs.Reply.{bytes_of, reply_in, reply_said, reply_saying}
use Rattle.frame.specs.Way.{taken_apart, parts_said}

pub reply-said : (r : Result Reply Refusal) → reply_saying (reply_said r) ≡ r
reply-said = said-back bytes_of reply_in (λ r. refl)

-- its check is not that of its bytes
abbrev bad_check : List ℕ → Bool
bad_check frame = not (eqb (byte frame 3) (check_of (byte frame 0 ∷ byte frame 1 ∷ byte frame 2 ∷ [])))

-- a frame says the number of the table or its bytes
pub taken-said : (frame : List ℕ) (room : ℕ) → parts_said (taken_apart frame room) ≡ judged (frame_bars frame room) (byte frame 0 ∷ byte frame 1 ∷ byte frame 2 ∷ byte frame 3 ∷ [])
unfolding taken_apart
taken-said frame room =
    split (eqb (length frame) 4)
    (λ e6. split (ltb room 4) (λ e7. rw (e6, e7)) (λ e7. split (bad_check frame) (λ e8. rw (e6, e7, e8)) (λ e8. rw (e6, e7, e8))))
    (λ e6. rw e6)

-- where it is taken apart there is room for its reply
pub room_for : (frame : List ℕ) (room : ℕ) (t : Taken) → taken_apart frame room ≡ Ok t → 4 ≤ room
unfolding taken_apart
room_for frame room t e = split (ltb room 4) (λ e7. absurd (none _ _ (eqb (length frame) 4) (rw e7 at e))) (λ e7. ltb-false room 4 e7)
  where
    none : (x y : Refusal) (b : Bool) → cond b (Err x) (Err y) ≡ Ok t → ⊥
    none x y true e = cc
    none x y false e = cc
