use Rattle.std.proofs.Common.{◌≡◌}
use Rattle.block_rules.specs.Blocks.{blocks_from}
use Rattle.block_shelf.proofs.making.first_blocks.Given as goal

abbrev pub invariant-loop-channel : goal.invariant-loop-channel
invariant-loop-channel l = l.list.items ≡ blocks_from 0 l.channel
