-- On the way to an answer's text in a lent buffer: what is put there, and that the numbers of an answer are within their types. Nobody
-- need believe these; what a session prints is said by Text.
-- Assumes nothing.
use Rattle.std.specs.Prelude.{ℕ, ◌+◌, ◌<◌, cond, List, [], leb, Result, Ok, Err}
use Rattle.acts.specs.declared.Told.{Told}
use Rattle.acts.specs.declared.Told.TheVariants.{Opened, Status, Reply, Reading}
use Rattle.text.specs.Text.{text_of}

-- what is put from at on into a buffer of so many bytes: the line where 32 bytes are free, and otherwise nothing
unfoldable pub placed : ℕ → ℕ → Result Told ℕ → List ℕ
placed room at told = cond (leb (at + 32) room) (text_of told) []

-- the numbers of an answer are within their types: bytes, and the bled cells sixteen bits
abbrev pub Typed : Result Told ℕ → Type 0
Typed (Ok Opened) = record {}
Typed (Err n) = n < 256
Typed (Ok (Status s)) = (s.status < 256) × (s.bled < 65536)
Typed (Ok (Reply r)) = (r.address < 256) × (r.register < 256) × (r.value < 256) × (r.check < 256)
Typed (Ok (Reading w)) = (w.flagged.board < 256) × (w.flagged.cell < 256)
