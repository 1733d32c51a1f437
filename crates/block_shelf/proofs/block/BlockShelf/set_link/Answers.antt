use Rattle.std.proofs.Common.{refl, ◌∙◌}
use Rattle.block_rules.specs.Blocks.{Party, with_job}
use Rattle.block_shelf.proofs.Fit.{seated, unlinked, allowed_then, found_there, not_found}
use Rattle.block_shelf.proofs.block.BlockShelf.set_link.Goals as goal
use Rattle.block_shelf.proofs.block.BlockShelf.set_link.Goals.{in-Some, in_default}

pub invariant_of-self : goal.invariant_of-self
invariant_of-self g c =
    let there = found_there _ c.args.party c.in-Some-get_mut.seat c.in-Some-get_mut.ensures.item in
    elim c.match-get_mut.branch [
      | in-Some w ↦ rw w.self-is (record { sound = allowed_then _ _ (seated _ _ _ _ _ _ c.in-Some-get_mut.seat.now _ (λ (q : Party). with_job q c.args.job) c.in-Some-get_mut.ensures.value there refl) c.requires })
      | in_default w ↦ rw w.self-is (record {
        sound = allowed_then _ _ (seated _ _ _ _ _ _ c.in-Some-get_mut.seat.now _ (λ (q : Party). with_job q c.args.job) c.in-Some-get_mut.ensures.value there refl
            ∙ unlinked _ _ _ _ _ c.args.at c.args.link (not_found _ _ w.in_default.ensures.item)) c.requires;
      })
    ]

pub returns-in-Some-get_mut : goal.returns-in-Some-get_mut
returns-in-Some-get_mut g c =
    let there = found_there _ c.args.party c.in-Some-get_mut.seat c.in-Some-get_mut.ensures.item in
    elim c.match-get_mut.branch [
      | in-Some w ↦ rw w.self-is (seated _ _ _ _ _ _ c.in-Some-get_mut.seat.now _ (λ (q : Party). with_job q c.args.job) c.in-Some-get_mut.ensures.value there refl)
      | in_default w ↦ rw w.self-is (seated _ _ _ _ _ _ c.in-Some-get_mut.seat.now _ (λ (q : Party). with_job q c.args.job) c.in-Some-get_mut.ensures.value there refl
          ∙ unlinked _ _ _ _ _ c.args.at c.args.link (not_found _ _ w.in_default.ensures.item))
    ]
