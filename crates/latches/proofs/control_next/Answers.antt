-- Where a fault latched the bits go by the switches' own rules, over the latches that rose.
use Rattle.std.proofs.Common.{◌≡◌, true, false, sym, ap, ◌∙◌}
use Rattle.latches.specs.Latches.{any_latch, latches_of, chg_on, dsg_on}
use Rattle.latches.specs.Control.{control_next, dsg_bit, chg_bit}
use Rattle.latches.proofs.Packed.{bool-bit, control-sum, latches-kept}
use Rattle.latches.proofs.control_next.Goals as goal

pub returns-then-not-any_up : goal.returns-then-not-any_up
unfolding control_next
returns-then-not-any_up c =
    let none : any_latch c.args.up ≡ false = sym c.any_up.ensures ∙ c.if-not-any_up.true in
    rw none

pub returns : goal.returns
unfolding control_next
returns c =
    let some : any_latch c.args.up ≡ true = sym c.any_up.ensures ∙ c.if-not-any_up.false in
    let up = c.args.up in
    let v = c.args.control in
    let at : latches_of c.byte_of-byte.result ≡ up = ap latches_of c.byte_of-byte.ensures ∙ latches-kept up in
    let dsg : c.dsg_on-dsg.result ≡ dsg_on (dsg_bit v) up = c.dsg_on-dsg.ensures ∙ ap (dsg_on (dsg_bit v)) at in
    let chg : c.chg_on-chg.result ≡ chg_on (chg_bit v) up = c.chg_on-chg.ensures ∙ ap (chg_on (chg_bit v)) at in
    rw (some, control-sum, c.from-3.ensures, c.from-2.ensures, c.from.ensures, chg, dsg) (simp bool-bit)
