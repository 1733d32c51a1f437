use Rattle.shelf.proofs.Runs.{ideal_links}
use Rattle.shelf.proofs.laws.links_are_ideal.Goals as goal

pub returns : goal.returns
returns g c = ideal_links g.S.Shelf.rules
