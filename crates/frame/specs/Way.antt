-- On the way to the reply: the check by halves, a frame taken apart, what a board makes of it, and the check that moves
-- with the value. That these come to the definitions, to the table of refusals and to the paper's reply is shown in proofs/Halves.antt,
-- Laws.antt, Sums.antt and `stack` proofs/Ways.antt; nobody need believe them.
-- Assumes nothing.
use Rattle.std.specs.Prelude.{ℕ, ◌*◌, ◌/◌, ◌%◌, ◌<◌, ◌≡◌, cond, not, List, [], ◌∷◌, ltb, eqb, length, get_or, drop, Result, Ok, Err}
use Rattle.std.specs.Int.Bits.{bit_xor}
use Rattle.refusal.specs.declared.Refusal.{Refusal}
use Rattle.refusal.specs.Refusals.{numbered}
use Rattle.refusal.specs.Said.{Said, said_by, saying_by, value}
use Rattle.frame.specs.declared.Taken.{Taken}
use Rattle.frame.specs.declared.Reply.{Reply}
use Rattle.frame.specs.Check.{shifted, times, checked, check_of}
use Rattle.frame.specs.Frame.{byte}

-- ---- the check by halves
-- a table of it: entry k is what four shifts make of 16k
unfoldable pub FourShifts : List ℕ → Type 0
FourShifts table = (k : ℕ) → k < 16 → get_or table k 0 ≡ times 4 shifted (16 * k)

-- a step by a table: the lower half of the register moves up, and the entry of the upper half is added
abbrev pub half_next : List ℕ → ℕ → ℕ
half_next table r = bit_xor (r % 16 * 16) (get_or table (r / 16) 0)

-- ---- a frame taken apart: 6 where there are not four bytes, then 7, then 8
abbrev pub parts_of : List ℕ → Taken
parts_of frame = record { request = record { address = byte frame 0; register = byte frame 1; value = byte frame 2 }; check = byte frame 3 }

unfoldable pub taken_apart : List ℕ → ℕ → Result Taken Refusal
taken_apart frame room =
    cond (eqb (length frame) 4)
    (cond (ltb room 4) (Err (numbered 7))
    (cond (not (eqb (byte frame 3) (check_of (byte frame 0 ∷ byte frame 1 ∷ byte frame 2 ∷ [])))) (Err (numbered 8)) (Ok (parts_of frame))))
    (Err (numbered 6))

-- the paper's number and values of a frame taken apart
abbrev pub parts_said : Result Taken Refusal → Said
parts_said t = said_by (λ t. t.request.address ∷ t.request.register ∷ t.request.value ∷ t.check ∷ []) t

-- ---- what a board makes of a frame, the value that its reply carries: the paper's number and value of it, and the outcome that says them
abbrev pub outcome_said : Result ℕ Refusal → Said
outcome_said o = said_by (λ v. v ∷ []) o

abbrev pub outcome_saying : Said → Result ℕ Refusal
outcome_saying s = saying_by (value 0) s

-- ---- the reply
-- the check of three bytes of which the last becomes another: by the check that it had, which moves by what the change comes to.
-- Where that one was right, as in every frame taken apart, it is the fresh check
abbrev pub check_moved : ℕ → ℕ → ℕ → ℕ
check_moved check old new = bit_xor check (checked old new)

abbrev pub check_after : ℕ → ℕ → ℕ → ℕ → ℕ → ℕ
check_after address register old check new =
    cond (eqb check (check_of (address ∷ register ∷ old ∷ []))) (check_of (address ∷ register ∷ new ∷ [])) (check_moved check old new)

-- the reply to a frame: it repeats the first two bytes, then the outcome's value and the check that follows
unfoldable pub reply_by : Taken → ℕ → Reply
reply_by t v =
    let asked = t.request in
    record { address = asked.address; register = asked.register; value = v; check = check_after asked.address asked.register asked.value t.check v }

abbrev pub reply_of : Taken → Result ℕ Refusal → Result Reply Refusal
reply_of t (Ok v) = Ok (reply_by t v)
reply_of t (Err why) = Err why

-- it takes the first four bytes of the buffer; later bytes stay, and at a refusal all of them
abbrev pub buffer_with : List ℕ → Result Reply Refusal → List ℕ
buffer_with buffer (Ok r) = r.address ∷ r.register ∷ r.value ∷ r.check ∷ drop 4 buffer
buffer_with buffer (Err why) = buffer
