-- `field_at`: by its first byte, the minus sign or another.
-- Assumes nothing.
use borrow.Author.Tests.{eq-eqb, ne_eqb}
use Rattle.lines.proofs.Numbers.{field_in}
use Rattle.lines.proofs.field_at.Goals as goal

pub returns-then-byte_at-ne45 : goal.returns-then-byte_at-ne45
returns-then-byte_at-ne45 c =
    let a = c.args in
    rw (field_in _ _ a.s.now a.at c.byte_at.ensures, ne_eqb _ _ c.if-byte_at-ne45.true) c.number_at.ensures

pub returns-then-signed : goal.returns-then-signed
returns-then-signed c =
    let a = c.args in
    rw (field_in _ _ a.s.now a.at c.byte_at.ensures, eq-eqb _ _ c.if-byte_at-ne45.false, c.if-signed.true) c.number_at-then-signed.ensures

pub returns : goal.returns
returns c =
    let a = c.args in
    rw (field_in _ _ a.s.now a.at c.byte_at.ensures, eq-eqb _ _ c.if-byte_at-ne45.false, c.if-signed.false)
