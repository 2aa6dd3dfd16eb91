-- `bytes_of`: the first places, one by one.
-- Assumes nothing.
use Rattle.std.proofs.Common.{◌≡◌, ◌<◌, ◌%◌, length, take, map, ◌∙◌, arith}
use mathlib.Core.List.{append-nil}
use lib.ListN.{length-map}
use lib.Seq.{get_or-take, length-take-le}
use Rattle.lists.proofs.Fill.{fill_none, fill-map, fill-all}
use Rattle.session.specs.LineActs.{bytes_of}
use Rattle.session.proofs.bytes_of.Goals as goal

pub loop-i-init : goal.loop-i-init
loop-i-init c = fill_none 0 16 (map (λ n. n % 256) (take 16 c.args.numbers.now))

pub loop-i-preserved : goal.loop-i-preserved
loop-i-preserved c =
    let h = c.loop-i in
    let numbers = c.args.numbers.now in
    let few : length (take 16 numbers) ≡ 16 = length-take-le 16 numbers (omega (arith, c.told-numbers)) in
    let here : h.i < 16 = c.loop-i-test.true in
    let within : h.i < length (take 16 numbers) = rw few here in
    fill-map (λ n. n % 256) 0 16 (take 16 numbers) h.i _ _ h.invariant (rw (get_or-take 16 numbers h.i 0 here)) within here

pub returns : goal.returns
unfolding bytes_of
returns c =
    let h = c.loop-i in
    let numbers = c.args.numbers.now in
    let made = map (λ n. n % 256) (take 16 numbers) in
    let few : length made ≡ 16 = length-map (take 16 numbers) (λ n. n % 256) ∙ length-take-le 16 numbers (omega (arith, c.told-numbers)) in
    let full : h.i ≡ length made = rw few (omega arith) in
    h.invariant ∙ fill-all 0 16 made h.i full ∙ rw few (append-nil made)
