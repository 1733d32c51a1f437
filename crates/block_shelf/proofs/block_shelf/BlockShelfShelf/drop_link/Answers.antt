use Rattle.std.proofs.Common.{[], ap, ◌∙◌, arith}
use Rattle.block_rules.specs.Blocks.{emptied}
use Rattle.block_shelf.proofs.Fit.{link_there}
use Rattle.block_shelf.proofs.Starts.{within, drop_sound}
use Rattle.block_shelf.proofs.block_shelf.BlockShelfShelf.drop_link.Goals as goal

pub index_mut-requires : goal.index_mut-requires
index_mut-requires g c =
    let v = c.args.self.now in
    omega (arith, link_there v c.in_ok-at.at (within g.R.Reading.kind.blank v c.args.party c.args.link c.in_ok-at.at [] c.in_ok-at.ensures), v.links.ok.0)

pub invariant_of-self : goal.invariant_of-self
invariant_of-self g c =
    let v = c.args.self.now in
    record { sound = drop_sound g.R.Reading.kind.blank v c.args.party c.args.link c.in_ok-at.at [] c.in_ok-at.ensures c.emptied-empty.result (c.emptied-empty.ensures ∙ ap emptied c.link.ensures) }
