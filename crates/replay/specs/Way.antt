-- The way of the code: an act and its answer as they are taken from a recording's bytes. Nothing here is to be believed.
-- Assumes nothing.
use Rattle.std.specs.Prelude.{ℕ, zero, suc, ◌+◌, ◌-◌, ◌/◌, ◌≤◌, ◌≡◌, min, false, cond, List, [], ◌∷◌, ◌++◌, eqb, length, get_or, take, drop, replicate, Result, Ok, Err}
use Rattle.lists.specs.Compare.{outside}
use Rattle.refusal.specs.declared.Refusal.{Refusal}
use Rattle.refusal.specs.Said.{Said, said_by}
use Rattle.format.specs.Read.{number_in, pairs_in, signed, kind_in, long_in, number_of, wrong_long, values_long}
use Rattle.board.specs.Sample.{sampled_values}
use Rattle.frame.specs.Reply.{bytes_of}
use Rattle.reading.specs.Reading.{whole_said}
use Rattle.acts.specs.declared.Act.{Act}
use Rattle.acts.specs.declared.Act.TheVariants.{Sample, Frame, Reading}
use Rattle.acts.specs.declared.Sample as sample
use Rattle.acts.specs.declared.Frame as frame
use Rattle.acts.specs.declared.Told.{Told}
use Rattle.acts.specs.declared.Told.TheVariants as told

-- ---- an act taken from its bytes: its first sixteen cells, or its first sixteen bytes, with zeros behind
abbrev pub front : ℕ → List ℕ → List ℕ
front n xs = take (min n 16) xs ++ replicate (16 - min n 16) 0

-- reading does not stop at the act that begins here
pub record IsWhole (rest : List ℕ) : Type 0 where
  pub known : outside 1 3 (kind_in rest) ≡ false
  pub fitting : wrong_long (kind_in rest) (long_in rest) ≡ false
  pub inside : 3 + long_in rest + values_long (kind_in rest) (number_of rest) ≤ length rest

unfoldable pub sample_in : ℕ → List ℕ → sample.Sample
sample_in long body =
    record {
      board = number_in 1 body;
      readings = record { elapsed = number_in 4 (drop 1 body); shunt = signed (number_in 4 (drop 8 body)); thermistor = number_in 2 (drop 6 body); load = number_in 1 (drop 5 body) };
      cells = front ((long - 12) / 2) (pairs_in ((long - 12) / 2) (drop 12 body));
      count = (long - 12) / 2;
    }

unfoldable pub frame_in : ℕ → List ℕ → frame.Frame
frame_in long body = record { bytes = front long (take long body); count = long; room = 4 }

unfoldable pub act_in : List ℕ → Act
act_in rest =
    cond (eqb (kind_in rest) 1) (Sample (sample_in (long_in rest) (drop 2 rest)))
    (cond (eqb (kind_in rest) 2) (Frame (frame_in (long_in rest) (drop 2 rest))) Reading)

-- ---- answers with five places for their values, zeros behind
abbrev pub places : ℕ → List ℕ → List ℕ
places zero vs = []
places (suc n) vs = get_or vs 0 0 ∷ places n (drop 1 vs)

-- the number of a refusal, or the values
unfoldable pub padded : Said → Result (List ℕ) ℕ
padded a = cond (eqb a.number 0) (Ok (places 5 a.values)) (Err a.number)

abbrev pub told_values : Told → List ℕ
told_values told.Opened = []
told_values (told.Status s) = sampled_values s
told_values (told.Reply r) = bytes_of r
told_values (told.Reading w) = whole_said w

abbrev pub told_said : Result Told Refusal → Said
told_said told = said_by told_values told

-- ---- a byte as it is told
abbrev pub held : ℕ → ℕ
held n = min n 4294967295
