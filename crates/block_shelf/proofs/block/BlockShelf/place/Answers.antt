use Rattle.std.proofs.Common.{arith}
use Rattle.block_rules.specs.declared.parts.Place.TheVariants.{Current}
use Rattle.block_shelf.proofs.Standing.{too_large, told_place, told_with}
use Rattle.block_shelf.proofs.block.BlockShelf.place.Goals as goal

pub returns-in_default : goal.returns-in_default
returns-in_default g c = too_large c.args.self.now c.args.block (omega (arith, c.in_default.ensures))

pub returns-in-Some : goal.returns-in-Some
returns-in-Some g c = told_place c.args.self.now c.args.block c.in-Ok.block c.in-Ok.ensures.1 (Current c.in-Some.channel) c.in-Some.ensures

pub returns : goal.returns
returns g c =
    told_with c.args.self.now c.args.block c.in-Ok.block c.in-Ok.ensures.1 c.in_default-channel_with.ensures c.place_with_party.result c.place_with_party.ensures c.ok_or.result c.ok_or.ensures.value
