use Rattle.std.proofs.Common.{refl}
use Rattle.block_rules.specs.Blocks.{Party, with_job}
use Rattle.block_shelf.proofs.Fit.{seated, allowed_then, found_there}
use Rattle.block_shelf.proofs.block.BlockShelf.set_job.Goals as goal

pub invariant_of-self : goal.invariant_of-self
invariant_of-self g c =
    let there = found_there _ c.args.party c.in-Some.seat c.in-Some.ensures.item in
    record { sound = allowed_then _ _ (seated _ _ _ _ _ _ c.in-Some.seat.now _ (λ (q : Party). with_job q c.args.job) c.in-Some.ensures.value there refl) c.requires }

pub returns-in-Some : goal.returns-in-Some
returns-in-Some g c =
    let there = found_there _ c.args.party c.in-Some.seat c.in-Some.ensures.item in
    seated _ _ _ _ _ _ c.in-Some.seat.now _ (λ (q : Party). with_job q c.args.job) c.in-Some.ensures.value there refl
