use Rattle.block_shelf.proofs.Fit.{put_started, put_not_started, allowed_then, found_there}
use Rattle.block_shelf.proofs.block.BlockShelf.take_up.Goals as goal

pub invariant_of-self-in-Some-take_up : goal.invariant_of-self-in-Some-take_up
invariant_of-self-in-Some-take_up g c = record {
  sound = allowed_then _ _ (put_started c.args.self.now c.args.party c.in-Some.seat.now c.take_up.new.self c.in-Some.ensures.value (found_there _ _ c.in-Some.seat c.in-Some.ensures.item)
      c.args.at c.in-Some-take_up.ensures.party _ c.args.reading c.write.new.self.blocks.now c.in-Some-take_up.ensures.block c.write.ensures.blocks) c.requires;
}

pub returns-in-Some-take_up : goal.returns-in-Some-take_up
returns-in-Some-take_up g c =
    put_started c.args.self.now c.args.party c.in-Some.seat.now c.take_up.new.self c.in-Some.ensures.value (found_there _ _ c.in-Some.seat c.in-Some.ensures.item)
    c.args.at c.in-Some-take_up.ensures.party _ c.args.reading c.write.new.self.blocks.now c.in-Some-take_up.ensures.block c.write.ensures.blocks

pub invariant_of-self-in_default-take_up : goal.invariant_of-self-in_default-take_up
invariant_of-self-in_default-take_up g c = record {
  sound = allowed_then _ _ (put_not_started c.args.self.now c.args.party c.in-Some.seat.now c.take_up.new.self c.in-Some.ensures.value (found_there _ _ c.in-Some.seat c.in-Some.ensures.item)
      c.args.at c.in_default-take_up.ensures.party c.args.reading c.in_default-take_up.ensures.block) c.requires;
}

pub returns-in_default-take_up : goal.returns-in_default-take_up
returns-in_default-take_up g c =
    put_not_started c.args.self.now c.args.party c.in-Some.seat.now c.take_up.new.self c.in-Some.ensures.value (found_there _ _ c.in-Some.seat c.in-Some.ensures.item)
    c.args.at c.in_default-take_up.ensures.party c.args.reading c.in_default-take_up.ensures.block
