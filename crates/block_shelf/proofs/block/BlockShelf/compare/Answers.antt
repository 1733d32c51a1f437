use Rattle.std.proofs.Common.{refl}
use Rattle.block_rules.specs.declared.parts.Access.TheVariants.{Compare}
use Rattle.block_shelf.proofs.Fit.{held_sound, again_sound}
use Rattle.block_shelf.proofs.block.BlockShelf.compare.Goals as goal

pub set_link-requires : goal.set_link-requires
set_link-requires g c =
    held_sound c.args.self.now c.args.party c.args.at c.args.channel Compare c.requires c.link-link.result c.link-link.ensures c.holding.result c.current.result c.current.ensures refl c.if-current-link.true c.holding.ensures

pub set_job-requires : goal.set_job-requires
set_job-requires g c =
    again_sound c.args.self.now c.args.party c.args.at c.args.channel Compare c.requires c.link-link.result c.link-link.ensures c.link-link.result c.current.result c.current.ensures refl c.if-current-link.false
