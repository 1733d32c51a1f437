use Rattle.std.proofs.Common.{ℕ, [], ◌∷◌, ◌++◌, ap, ◌∙◌}
use Rattle.block_shelf.proofs.Built.{blocks_more}
use Rattle.block_shelf.proofs.making.first_blocks.Goals as goal

pub loop-channel-preserved : goal.loop-channel-preserved
loop-channel-preserved c = blocks_more _ _ _ c.loop-channel.invariant (c.in_ok-push.ensures.items ∙ ap (λ (n : ℕ). c.loop-channel.list.items ++ n ∷ []) c.from.ensures)
