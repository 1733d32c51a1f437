use Rattle.std.proofs.Common.{ℕ, ◌<◌, ◌≢◌, get_or}
use Rattle.block_shelf.proofs.block.BlockShelf.channel_with.Given as goal

abbrev pub invariant-loop-channel : goal.invariant-loop-channel
invariant-loop-channel g l = (c : ℕ) → c < l.channel → get_or l.self.current.items c 0 ≢ l.block
