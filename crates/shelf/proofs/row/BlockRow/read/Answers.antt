use Rattle.std.proofs.Common.{sym, arith}
use Rattle.std.proofs.lemmas.List.{get_or_past}
use Rattle.shelf.proofs.row.BlockRow.read.Goals as goal

pub returns-else-at-self : goal.returns-else-at-self
returns-else-at-self g c = sym (get_or_past c.args.self.now.blocks.now c.args.at c.args.absent (omega arith))
