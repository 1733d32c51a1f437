use Rattle.std.proofs.Common.{◌≡◌, ℕ, ◌<◌}
use Rattle.block_rules.specs.Blocks.{party}
use Rattle.block_rules.specs.Counting.{stands_with}
use Rattle.block_shelf.specs.States.{block_state}
use Rattle.block_shelf.proofs.block.BlockShelf.place_with_party.Given as goal

abbrev pub invariant-loop-party : goal.invariant-loop-party
invariant-loop-party g l = (p : ℕ) → p < l.party → stands_with l.block (party (block_state l.self) p) ≡ 0
