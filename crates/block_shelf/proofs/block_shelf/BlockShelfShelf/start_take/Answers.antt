use Rattle.std.proofs.Common.{[], ap, ◌∙◌}
use Rattle.block_rules.specs.Blocks.{emptied}
use Rattle.block_shelf.proofs.Starts.{take_sound}
use Rattle.block_shelf.proofs.block_shelf.BlockShelfShelf.start_take.Goals as goal

pub set_link-requires : goal.set_link-requires
set_link-requires g c =
    take_sound g.R.Reading.kind.blank c.args.self.now c.args.party c.args.link c.in_ok-at.at [] c.in_ok-at.ensures c.args.channel c.if-channel-self.false
    c.emptied-empty.result (c.emptied-empty.ensures ∙ ap emptied c.link.ensures)
