use Rattle.block_rules.specs.Blocks as rules
use Rattle.block_shelf.proofs.Built.{parties_more}
use Rattle.block_shelf.proofs.making.fresh_seats.Goals as goal

pub loop-party-preserved : goal.loop-party-preserved
loop-party-preserved c =
    let pl = c.args.plan in
    parties_more pl.channels (rules.share pl) c.loop-party.party c.loop-party.seats.items c.push.new.self.items c.fresh_seat.result c.loop-party.invariant c.in_ok-push.ensures.items cc
