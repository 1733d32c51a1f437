-- Numbers of links.
use Rattle.std.proofs.Common.{ℕ, ◌<◌, ◌≢◌, arith}
use Rattle.plan.specs.Plans.{width}
use Rattle.plan.specs.declared.check.Plan.{Plan}
use Rattle.shelf.specs.Meaning.{flat}
use Rattle.shelf.proofs.Basics.{own_apart, own_below}
use Rattle.shelf.proofs.After.{own_flat}

pub flat_below : (pl : Plan) (p i : ℕ) → p < pl.parties → i < pl.links → flat pl p i < width pl
flat_below pl p i h l = own_below pl p (flat pl p i) h (own_flat pl p i l)

pub flat_apart : (pl : Plan) (p q i j : ℕ) → q ≢ p → i < pl.links → j < pl.links → flat pl q j ≢ flat pl p i
flat_apart pl p q i j ne li lj e = own_apart pl q p (flat pl q j) (own_flat pl q j lj) (rw e (own_flat pl p i li)) ne

pub flat_other : (pl : Plan) (p i j : ℕ) → j ≢ i → flat pl p j ≢ flat pl p i
flat_other pl p i j ne e = ne (omega arith)
