use Rattle.block_parts.specs.Lists.{blocks_in}
use Rattle.block_parts.proofs.Stacks.{SortedOut}
use Rattle.block_parts.proofs.seats.sort_out.Given as goal

abbrev pub invariant-loop-block : goal.invariant-loop-block
invariant-loop-block l = SortedOut (blocks_in l.read) l.block-items (blocks_in l.initial.ready) l.block-index (blocks_in l.ready) (blocks_in l.held)
