use Rattle.std.proofs.Common.{◌≡◌, take, replicate}
use Rattle.shelf.proofs.row.blank_first.Given as goal

abbrev pub invariant-loop-block : goal.invariant-loop-block
invariant-loop-block g l = take l.block-index l.block-items ≡ replicate l.block-index g.R.Reading.kind.blank
