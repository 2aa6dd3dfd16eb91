use Rattle.std.proofs.Common.{◌≡◌, ◌%◌, length, arith}
use Rattle.puts.proofs.Puts.{put_then}
use Rattle.format.specs.Format.{little, body_of}
use Rattle.recorder.specs.Way.{sent_bytes}
use Rattle.recorder.proofs.put_frame.Goals as goal

pub returns-clause-put : goal.returns-clause-put
unfolding sent_bytes body_of little
returns-clause-put c =
    let size : length c.args.bytes.now % 256 ≡ length c.args.bytes.now = omega (arith, c.requires.1) in
    rw size (put_then c.put_bytes-size_end.ensures c.put_bytes.ensures)
