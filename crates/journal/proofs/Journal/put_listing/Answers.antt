-- `put_listing`: from the newest entry down, three words each.
-- Assumes nothing.
use Rattle.std.proofs.Common.{◌≡◌, ℕ, ◌+◌, ◌-◌, ◌%◌, ◌<◌, length, sym, ap, ◌∙◌, arith}
use Rattle.journal.specs.Ring.{entry, held, kept, place_at, listing}
use Rattle.journal.proofs.Laws.{listing-length, listing-at, put-none, put-turn}
use Rattle.journal.proofs.Journal.put_listing.Goals as goal

pub loop-k-init : goal.loop-k-init
loop-k-init c = rw c.listed-many.ensures (put-none (listing c.args.self.now) c.args.out.now)

pub place_at-at-requires : goal.place_at-at-requires
place_at-at-requires c =
    let long = listing-length c.args.self.now in
    (omega (arith, c.listed-many.ensures, long), omega arith)

pub loop-k-preserved : goal.loop-k-preserved
loop-k-preserved c =
    let h = c.loop-k in
    let j = c.args.self.now in
    let es = listing j in
    let at = c.place_at-at.result in
    let long : length es ≡ held j = listing-length j in
    let many : c.listed-many.result ≡ held j = c.listed-many.ensures ∙ long in
    let here : h.k - 1 < held j = omega (arith, c.loop-k-test.true, h.auto.k, many) in
    let place : at ≡ place_at j (h.k - 1) = c.place_at-at.ensures ∙ ap (λ (n : ℕ). (j.next % 128 + (128 - n) + (h.k - 1)) % 128) many in
    rw (c.from.ensures, c.from-in-loop-k.ensures)
    (put-turn es c.args.out.now h.k (kept j at) (entry 0 0) h.out c.loop-k-test.true (omega (arith, h.auto.k, many, long)) c.requires h.invariant (listing-at j (h.k - 1) (entry 0 0) here ∙ ap (kept j) (sym place)))
