use Rattle.block_shelf.proofs.Standing.{held_stay}
use Rattle.block_shelf.proofs.block.BlockShelf.held_blocks_stay.Goals as goal

pub returns : goal.returns
returns g c = held_stay g.R.Reading.kind.blank c.args.self.now
