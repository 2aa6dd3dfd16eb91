-- Each number lies where the format has it.
-- Assumes nothing.
use Rattle.std.proofs.Common.{◌≡◌, ℕ, ◌-◌, ◌/◌, ℤ, List, ap, ◌∙◌, drop, length}
use Rattle.format.specs.Read.{number_in, pairs_in, signed}
use Rattle.acts.specs.declared.Sample.{Sample}
use Rattle.replay.specs.Way.{front, sample_in}
use Rattle.replay.proofs.Signs.{shunt-is}
use lib.ListN.{length-drop}
use Rattle.std.proofs.lemmas.List.{take_rest}
use Rattle.replay.proofs.sample_in.Goals as goal

abbrev sample_of : ℕ → ℕ → ℤ → ℕ → ℕ → List ℕ → ℕ → Sample
sample_of board elapsed shunt thermistor load cells count =
    record { board = board; readings = record { elapsed = elapsed; shunt = shunt; thermistor = thermistor; load = load }; cells = cells; count = count }

made : (l : List ℕ) (long board elapsed thermistor load : ℕ) (shunt : ℤ) (cells : List ℕ)
    → board ≡ number_in 1 l → elapsed ≡ number_in 4 (drop 1 l) → shunt ≡ signed (number_in 4 (drop 8 l)) → thermistor ≡ number_in 2 (drop 6 l) → load ≡ number_in 1 (drop 5 l)
    → cells ≡ front ((long - 12) / 2) (pairs_in ((long - 12) / 2) (drop 12 l)) → sample_of board elapsed shunt thermistor load cells ((long - 12) / 2) ≡ sample_in long l
unfolding sample_in
made l long board elapsed thermistor load shunt cells eb ee es et el ec = rw (eb, ee, es, et, el, ec)

pub returns : goal.returns
returns c =
    let body = c.args.body.now in
    let shunt = shunt-is c.four_at-2.result c.cast_signed.result c.cast_signed.ensures c.four_at-2.type_inv ∙ ap signed c.four_at-2.ensures in
    let cells = ap (λ l. front (length l / 2) (pairs_in (length l / 2) l)) (take_rest body 12) ∙ ap (λ k. front (k / 2) (pairs_in (k / 2) (drop 12 body))) (length-drop 12 body) in
    made body (length body) _ _ _ _ _ _ c.byte_at-2.ensures c.four_at.ensures shunt c.two_at.ensures c.byte_at.ensures (c.cells_in.ensures ∙ cells)
