-- Each part by what its callee says, and the whole of them.
use Rattle.std.proofs.Common.{◌≡◌, ℕ, List, ap, ◌∙◌}
use Rattle.settings.specs.Faults.{OV, UV}
use Rattle.latches.specs.declared.Latches.{Latches}
use Rattle.latches.specs.Latches.{latch, risen, latches_of, latches_byte}
use Rattle.latches.specs.Tallies.{tallies_next}
use Rattle.latches.proofs.Packed.{latches-kept}
use Rattle.board.specs.declared.Board.{Board}
use Rattle.board.specs.declared.Readings.{Readings}
use Rattle.board.specs.Host.{status_by}
use Rattle.board.specs.Sample.{currents_next, swept_at, risen_by, control_up, control_with, board_with}
use Rattle.board.specs.Way.{latches_by, latches_left, sampled, lowest_if, note_of, accepted_by}
use Rattle.board.proofs.accept.Goals as goal

pub returns : goal.returns
unfolding accepted_by board_with
returns c =
    let a = c.args in
    let b : Board = a.b in
    let x : Readings = a.x in
    let mv : List ℕ = a.mv.now in
    let left = latches_left b x a.span mv in
    let up = risen_by b left in
    let swept : c.sweep-swept.result ≡ swept_at b x mv = c.sweep-swept.ensures in
    let currents : c.currents_next-currents.result ≡ currents_next b.working b.currents x = c.currents_next-currents.ensures in
    let was : c.latches_of-was.result ≡ latches_of b.latches = c.latches_of-was.ensures in
    let latches : c.latches_next-latches.result ≡ left = c.latches_next-latches.ensures ∙ λ i. latches_by b.working (swept i) a.span (currents i) x b.kind (was i) in
    let byte : c.byte_of.result ≡ latches_byte left = c.byte_of.ensures ∙ ap latches_byte latches in
    let rose : c.risen-up.result ≡ up = c.risen-up.ensures ∙ λ i. risen (was i) (latches i) in
    let control : c.control_up.result ≡ control_with b left = c.control_up.ensures ∙ ap (control_up b) rose in
    let tallies : c.tallies_next-next.result ≡ tallies_next up b.tallies = c.tallies_next-next.ensures ∙ ap (λ (u : Latches). tallies_next u b.tallies) rose in
    -- the status is of the latches, and the code has them as a byte
    let status : c.status.result ≡ status_by b.kind (control_with b left) left =
    c.status.ensures ∙ (λ i. status_by b.kind (control i) (latches_of (byte i))) ∙ ap (status_by b.kind (control_with b left)) (latches-kept left) in
    let ov : c.lowest_if.result ≡ lowest_if (latch OV up) (swept_at b x mv).ov_stood = c.lowest_if.ensures ∙ λ i. lowest_if (latch OV (rose i)) (swept i).ov_stood in
    let uv : c.lowest_if-2.result ≡ lowest_if (latch UV up) (swept_at b x mv).uv_stood = c.lowest_if-2.ensures ∙ λ i. lowest_if (latch UV (rose i)) (swept i).uv_stood in
    λ i. record {
      board =
          record {
            count = b.count;
            latches = byte i;
            cycles = b.cycles;
            kind = b.kind;
            flags = (swept i).flags;
            working = b.working;
            staged = b.staged;
            currents = currents i;
            cells = (swept i).cells;
            last = c.last_by-next.ensures i;
            control = control i;
            garden = b.garden;
            tallies = tallies i;
            samples = c.number_next.ensures i;
            journal = b.journal;
          };
      note = note_of (sampled (status i) (swept i).bled) (rose i) (ov i) (uv i);
    }
