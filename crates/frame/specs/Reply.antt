-- The reply to a frame: its bytes, and its number and values (01, Frames and registers).
-- Assumes nothing.
use Rattle.std.specs.Prelude.{ℕ, List, [], ◌∷◌, Result}
use Rattle.refusal.specs.declared.Refusal.{Refusal}
use Rattle.refusal.specs.Said.{Said, said_by, saying_by, value}
use Rattle.frame.specs.declared.Reply.{Reply}
use Rattle.frame.specs.Check.{check_of}

-- the frame's first two bytes, then a value and a fresh check
abbrev pub reply_bytes : ℕ → ℕ → ℕ → List ℕ
reply_bytes address register v = address ∷ register ∷ v ∷ check_of (address ∷ register ∷ v ∷ []) ∷ []

-- the paper's number and values of an answer to a frame, and the answer that says them
abbrev pub bytes_of : Reply → List ℕ
bytes_of r = r.address ∷ r.register ∷ r.value ∷ r.check ∷ []

abbrev pub reply_in : Said → Reply
reply_in s = record { address = value 0 s; register = value 1 s; value = value 2 s; check = value 3 s }

abbrev pub reply_said : Result Reply Refusal → Said
reply_said r = said_by bytes_of r

abbrev pub reply_saying : Said → Result Reply Refusal
reply_saying s = saying_by reply_in s
