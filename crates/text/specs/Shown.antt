-- The lines of the paper's session, and a refusal (01, The bench program).
-- Assumes nothing.
use Rattle.std.specs.Prelude.{◌≡◌, refl, true, false, Ok, Err}
use Rattle.acts.specs.declared.Told.TheVariants.{Opened, Status, Reply, Reading}
use Rattle.text.specs.Text.{bytes, place_of, decimal, words_of, text_of}

pub record Shown : Type 0 where
  pub opened : text_of (Ok Opened) ≡ bytes "ok\n"
  pub sampled : text_of (Ok (Status (record { status = 192; bled = 0 }))) ≡ bytes "st 192 bal 0\n"
  pub replied : text_of (Ok (Reply (record { address = 2; register = 0; value = 192; check = 152 }))) ≡ bytes "re 2 0 192 152\n"
  pub latched : text_of (Ok (Status (record { status = 1; bled = 0 }))) ≡ bytes "st 1 bal 0\n"
  pub read : text_of (Ok (Reading (record { line = true; chg = false; dsg = false; flagged = record { board = 0; cell = 0 } }))) ≡ bytes "ln 1 chg 0 dsg 0 at 0 0\n"
  pub refused : text_of (Err 12) ≡ bytes "no 12\n"

pub shown : Shown
unfolding text_of words_of decimal place_of
shown = record { opened = refl; sampled = refl; replied = refl; latched = refl; read = refl; refused = refl }
