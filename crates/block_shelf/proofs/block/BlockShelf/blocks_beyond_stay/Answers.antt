use Rattle.block_shelf.proofs.Standing.{beyond_stays}
use Rattle.block_shelf.proofs.block.BlockShelf.blocks_beyond_stay.Goals as goal

pub returns : goal.returns
returns g c = beyond_stays g.R.Reading.kind.blank c.args.self.now
