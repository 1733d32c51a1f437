use Rattle.std.proofs.Common.{refl, ap, ◌∙◌}
use Rattle.block_rules.specs.declared.parts.Access.{Access}
use Rattle.block_rules.specs.declared.parts.Access.TheVariants.{ReadBlock}
use Rattle.block_rules.specs.declared.parts.Job.TheVariants.{Taking}
use Rattle.block_shelf.proofs.Fit.{saw_sound, guarded_sound, turn_sound}
use Rattle.block_shelf.proofs.block.BlockShelf.turn_take.Goals as goal

pub set_link-requires : goal.set_link-requires
set_link-requires g c =
    saw_sound c.args.self.now c.args.party c.args.at c.args.channel c.args.access c.requires c.link.result c.link.ensures c.seeing-link.result c.current.result c.current.ensures c.in-ReadCurrent.is c.seeing-link.ensures

pub set_link-requires-in-SetGuard : goal.set_link-requires-in-SetGuard
set_link-requires-in-SetGuard g c =
    guarded_sound c.args.self.now c.args.party c.args.at c.args.channel c.args.access c.requires c.link-in-SetGuard.result c.link-in-SetGuard.ensures c.guarding-link.result c.in-SetGuard.is c.guarding-link.ensures

pub set_job-requires : goal.set_job-requires
set_job-requires g c =
    turn_sound c.args.self.now c.args.party (Taking c.args.at c.args.channel ReadBlock) (c.requires ∙ ap (λ (a : Access). Taking c.args.at c.args.channel a) c.in-ReadBlock.is) refl
