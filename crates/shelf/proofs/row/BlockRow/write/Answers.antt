use Rattle.std.proofs.Common.{sym, refl, arith}
use Rattle.std.proofs.lemmas.List.{set_past}
use Rattle.shelf.proofs.row.BlockRow.write.Goals as goal

pub returns-else-at-self : goal.returns-else-at-self
returns-else-at-self g c =
    record { blocks = sym (set_past c.args.self.now.blocks.now c.args.at c.args.reading (omega arith)); len = refl; lent = refl }
