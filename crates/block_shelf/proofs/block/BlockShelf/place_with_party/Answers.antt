use Rattle.std.proofs.Common.{◌≡◌, ℕ, length, ap, arith, below_more}
use Rattle.block_rules.specs.Blocks.{party}
use Rattle.block_rules.specs.Counting.{stands_with}
use Rattle.block_shelf.specs.States.{block_state}
use Rattle.block_shelf.proofs.Fit.{seat_there}
use Rattle.block_shelf.proofs.Standing.{found_here, not_here}
use Rattle.block_shelf.proofs.block.BlockShelf.place_with_party.Goals as goal

pub returns-in-Some : goal.returns-in-Some
returns-in-Some g c =
    found_here c.args.self.now c.loop-party.party c.seat-item.result _ c.deref-seat-items.ensures.value c.seat-item.is c.loop-party-test.true c.args.block c.in-Some.place c.in-Some.ensures

pub loop-party-preserved : goal.loop-party-preserved
loop-party-preserved g c =
    below_more (λ (p : ℕ). stands_with c.args.block (party (block_state c.args.self.now) p) ≡ 0) c.loop-party.party c.loop-party.invariant
    (not_here c.args.self.now c.loop-party.party c.seat-item.result _ c.deref-seat-items.ensures.value c.seat-item.is c.loop-party-test.true c.args.block c.in_default.ensures)

pub returns : goal.returns
returns g c p h = c.loop-party.invariant p (omega (arith, seat_there c.args.self.now p h, ap length c.deref-seat-items.ensures.value))
