use Rattle.std.proofs.Common.{refl}
use Rattle.block_rules.specs.declared.parts.Job.TheVariants.{Checking}
use Rattle.block_shelf.proofs.Fit.{turn_sound}
use Rattle.block_shelf.proofs.block.BlockShelf.turn_check.Goals as goal

pub set_job-requires : goal.set_job-requires
set_job-requires g c = turn_sound c.args.self.now c.args.party (Checking c.args.at) c.requires refl
