use Rattle.shelf.proofs.Patience.{patient}
use Rattle.shelf.proofs.laws.turns_end_operations.Goals as goal

pub returns : goal.returns
returns g c = patient g.S.Shelf.rules
