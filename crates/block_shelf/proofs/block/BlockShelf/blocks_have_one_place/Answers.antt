use Rattle.block_shelf.proofs.Standing.{places_stay}
use Rattle.block_shelf.proofs.block.BlockShelf.blocks_have_one_place.Goals as goal

pub returns : goal.returns
returns g c = places_stay g.R.Reading.kind.blank c.args.self.now
