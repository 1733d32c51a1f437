-- A plan's ranges, needs and patience, and the check of a plan.
use Rattle.std.specs.Prelude.{ℕ, ◌+◌, ◌*◌, ◌≤◌, max, Bool, ◌&&◌, [], ◌∷◌, nat_le}
use Rattle.plan.specs.declared.check.Plan.{Plan}
use Rattle.plan.specs.declared.check.ShelfType.{ShelfType}
use Rattle.plan.specs.declared.check.ShelfType.TheVariants.{Flag, Block}
use Rattle.plan.specs.Refusals.{Outcome, unless_refused}

-- H, the links of all parties together
abbrev pub width : Plan → ℕ
width p = p.parties * p.links

-- the blocks that a shelf needs
abbrev pub need : ShelfType → Plan → ℕ
need Flag p = p.channels + width p
need Block p = p.channels + p.parties * (width p + 1)

-- the turns that a shelf operation may spend, undisturbed, before the one that ends it
abbrev pub patience : ShelfType → Plan → ℕ
patience Flag p = 0
patience Block p = max 5 (width p)

-- from low to high, both included
abbrev pub between : ℕ → ℕ → ℕ → Bool
between low high n = nat_le low n && nat_le n high

-- the check of a plan: its tests in order, and the plan
abbrev pub plan_verdict : Plan → ShelfType → ℕ → Outcome Plan
plan_verdict plan shelf blocks =
    unless_refused
    (record { number = 11; passes = between 1 24 plan.parties }
    ∷ record { number = 12; passes = between 1 4 plan.links }
    ∷ record { number = 13; passes = between 1 64 plan.channels }
    ∷ record { number = 14; passes = nat_le (need shelf plan) blocks }
    ∷ [])
    plan

-- the plan of a shelf whose plan was refused: without parties and without need
abbrev pub no_plan : Plan
no_plan = record { parties = 0; links = 0; channels = 0 }

-- a plan whose sizes are in their ranges
pub record InRange (p : Plan) : Type 0 where
  pub some_parties : 1 ≤ p.parties
  pub most_parties : p.parties ≤ 24
  pub some_links : 1 ≤ p.links
  pub most_links : p.links ≤ 4
  pub some_channels : 1 ≤ p.channels
  pub most_channels : p.channels ≤ 64

-- one in which no size is above its most
pub record Small (p : Plan) : Type 0 where
  pub parties : p.parties ≤ 24
  pub links : p.links ≤ 4
  pub channels : p.channels ≤ 64
