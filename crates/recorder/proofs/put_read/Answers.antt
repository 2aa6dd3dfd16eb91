use Rattle.format.specs.Format.{little, body_of}
use Rattle.recorder.specs.Way.{sent_bytes}
use Rattle.recorder.proofs.put_read.Goals as goal

pub returns-clause-put : goal.returns-clause-put
unfolding sent_bytes body_of little
returns-clause-put c = c.put_bytes.ensures
