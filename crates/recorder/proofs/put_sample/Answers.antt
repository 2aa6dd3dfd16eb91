use Rattle.std.proofs.Common.{rules}
use mir.Facts.{to_z-of_z}
use mir.Syntax.{w32}
use mir.Val.{SFits}
use Rattle.recorder.proofs.Samples.{fitting, sample-put}
use Rattle.recorder.proofs.put_sample.Goals as goal

pub returns-clause-put : goal.returns-clause-put
returns-clause-put c =
    let a = c.args in
    let x = a.x in
    let fits : SFits w32 x.shunt = search rules in
    sample-put a.board x.elapsed x.load x.thermistor x.shunt a.cells.now (fitting a.board x.load x.thermistor a.cells.now c.requires.1)
    c.put_bytes-board_end.ensures (rw c.to_le_bytes.ensures at c.put_bytes-elapsed_end.ensures) c.put_bytes-load_end.ensures
    (rw c.to_le_bytes-2.ensures at c.put_bytes-thermistor_end.ensures) (rw (c.to_le_bytes-3.ensures, to_z-of_z fits) at c.put_bytes-shunt_end.ensures) c.put_cells.ensures.put
