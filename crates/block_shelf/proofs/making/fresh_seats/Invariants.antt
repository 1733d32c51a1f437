use Rattle.std.proofs.Common.{◌≡◌, map, vec_items}
use Rattle.block_rules.specs.Blocks.{fresh_parties}
use Rattle.block_rules.specs.Blocks as rules
use Rattle.block_parts.specs.Seats.{party_of}
use Rattle.block_shelf.proofs.making.fresh_seats.Given as goal

abbrev pub invariant-loop-party : goal.invariant-loop-party
invariant-loop-party l = map party_of (vec_items l.seats) ≡ fresh_parties l.plan.channels (rules.share l.plan) l.party
