-- The rules' state that a block shelf's fields stand for.
use Rattle.std.specs.Prelude.{map}
use Rattle.block_rules.specs.Blocks.{State, state_of}
use Rattle.block_parts.specs.Seats.{party_of}
use Rattle.block_shelf.specs.declared.block.BlockShelf.{BlockShelf}

abbrev pub block_state : {R : Type 0} → BlockShelf R → State R
block_state s = state_of s.plan s.row.blocks.now s.current.items s.links.items (map party_of s.seats.items)
