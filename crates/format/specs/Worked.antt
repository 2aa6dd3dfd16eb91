-- Recordings worked by hand (02, ticket 10): the header alone, and a sample and a reading behind it.
-- Assumes nothing.
use Rattle.std.specs.Prelude.{◌≡◌, refl, [], ◌∷◌, pos, negsuc}
use Rattle.refusal.specs.Said.{accepts, refuses}
use Rattle.format.specs.Format.{little, listed, header, board_bytes, sample, frame, reading, noted, body_of, fields, answer_bytes, act_bytes, recording}

pub record Worked : Type 0 where
  -- one stand-alone board of 5 cells and one host board of 10
  pub opened : recording (listed 0 5 ∷ listed 1 10 ∷ []) [] ≡ 1 ∷ 0 ∷ 2 ∷ 0 ∷ 0 ∷ 0 ∷ 0 ∷ 0 ∷ 0 ∷ 5 ∷ 1 ∷ 10 ∷ []
  -- board 1 after 1000 µs, no load, 2000 mV, -2 µV, one cell of 4000 mV: refused with 3
  pub sampled : act_bytes (noted (sample 1 1000 0 2000 (negsuc 1) (4000 ∷ [])) (refuses 3))
      ≡ 1 ∷ 14 ∷ 1 ∷ 232 ∷ 3 ∷ 0 ∷ 0 ∷ 0 ∷ 208 ∷ 7 ∷ 254 ∷ 255 ∷ 255 ∷ 255 ∷ 160 ∷ 15 ∷ 3 ∷ []
  -- the same without its shunt and cell, answered with status 192 and cells 1 and 9 bled
  pub answered : act_bytes (noted (sample 1 1000 0 2000 (pos 0) []) (accepts (192 ∷ 257 ∷ [])))
      ≡ 1 ∷ 12 ∷ 1 ∷ 232 ∷ 3 ∷ 0 ∷ 0 ∷ 0 ∷ 208 ∷ 7 ∷ 0 ∷ 0 ∷ 0 ∷ 0 ∷ 0 ∷ 192 ∷ 1 ∷ 1 ∷ []
  pub framed : act_bytes (noted (frame (2 ∷ 0 ∷ 0 ∷ 216 ∷ [])) (accepts (2 ∷ 0 ∷ 192 ∷ 152 ∷ []))) ≡ 2 ∷ 4 ∷ 2 ∷ 0 ∷ 0 ∷ 216 ∷ 0 ∷ 2 ∷ 0 ∷ 192 ∷ 152 ∷ []
  pub read : act_bytes (noted reading (accepts (0 ∷ 1 ∷ 1 ∷ 2 ∷ 7 ∷ []))) ≡ 3 ∷ 0 ∷ 0 ∷ 0 ∷ 1 ∷ 1 ∷ 2 ∷ 7 ∷ []

pub worked : Worked
unfolding recording header board_bytes little act_bytes body_of answer_bytes fields
worked = record { opened = refl; sampled = refl; answered = refl; framed = refl; read = refl }
