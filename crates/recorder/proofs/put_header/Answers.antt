use Rattle.puts.proofs.Puts.{put_then}
use Rattle.format.specs.Format.{header}
use Rattle.recorder.proofs.Numbers.{little-two, little-four}
use Rattle.recorder.proofs.put_header.Goals as goal

pub returns-clause-put : goal.returns-clause-put
unfolding header
returns-clause-put c =
    let edition = rw (c.to_le_bytes.ensures, little-two) at c.put_bytes-edition_end.ensures in
    let boards = rw (c.to_le_bytes-2.ensures, little-two) at c.put_bytes-boards_end.ensures in
    let acts = rw (c.to_le_bytes-3.ensures, little-four) at c.put_bytes.ensures in
    put_then edition (put_then boards acts)
