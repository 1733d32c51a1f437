use Rattle.std.proofs.Common.{◌≡◌, ◌+◌, ◌-◌, ◌≤◌, reverse}
use Rattle.block_rules.specs.Blocks.{blocks_from}
use Rattle.block_parts.specs.Lists.{blocks_in}
use Rattle.block_shelf.proofs.making.fresh_seat.Given as goal

abbrev pub invariant-loop-block : goal.invariant-loop-block
invariant-loop-block l = (l.first ≤ l.block) × (reverse (blocks_in l.ready) ≡ blocks_from l.block (l.first + l.count - l.block))
