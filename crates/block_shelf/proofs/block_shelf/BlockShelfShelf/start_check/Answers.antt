use Rattle.block_shelf.proofs.Starts.{check_sound}
use Rattle.block_shelf.proofs.block_shelf.BlockShelfShelf.start_check.Goals as goal

pub set_job-requires : goal.set_job-requires
set_job-requires g c = check_sound g.R.Reading.kind.blank c.args.self.now c.args.party c.args.link c.in_ok-at.at c.in_ok-at.ensures
