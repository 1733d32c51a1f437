use Rattle.block_shelf.proofs.Starts.{put_sound}
use Rattle.block_shelf.proofs.block_shelf.BlockShelfShelf.start_put.Goals as goal

pub take_up-requires : goal.take_up-requires
take_up-requires g c = put_sound g.R.Reading.kind.blank c.args.self.now c.args.party c.args.link c.in_ok-at.at c.in_ok-at.ensures c.args.reading
