-- A past on the flag shelf: two parties, two links, two channels, tallies.
use Rattle.std.specs.Prelude.{◌≡◌, ℕ, List, [], ◌∷◌, replicate}
use Rattle.plan.specs.Plans.{need}
use Rattle.plan.specs.declared.check.Plan.{Plan}
use Rattle.plan.specs.declared.check.ShelfType.TheVariants.{Flag}
use Rattle.reading.specs.Tallies.{tally_kind}
use Rattle.reading.specs.declared.tally.Tally.{Tally}
use Rattle.shelf.specs.Rules.{Rules, Fresh}
use Rattle.flag_rules.specs.Flags.{State, made}
use Rattle.flag_rules.proofs.AsShelf.{flag_shelf_rules}
use Rattle.history.specs.Board.{Order, amendment, picture}
use Rattle.hub_rules.specs.Hub.{Call, Amendment, Picture, Turn, Release, Look, Hub, made_on, after_all}
use Rattle.hub_rules.specs.Law.{Operation, EndsAt, LooksGive, BringsIntoForce, hub_at}

abbrev pub tally : ℕ → Tally
tally n = record { count = n }

abbrev pub rules : Rules Tally
rules = flag_shelf_rules (tally 0)

abbrev pub plan : Plan
plan = record { parties = 2; links = 2; channels = 2 }

abbrev pub shelf : State Tally
shelf = made (tally 0) plan (replicate (need Flag plan) (tally 9))

abbrev pub start : Hub rules
start = made_on rules shelf

-- party 0's amendment comes into force between the takes of party 1's picture, which begins again; then party 0 amends
-- the other channel, and orders once more
abbrev pub calls : List Call
calls =
    Amendment 0 0 5 ∷ Picture 1 (0 ∷ 1 ∷ []) ∷ Turn 0 ∷ Turn 1 ∷ Turn 0 ∷ Turn 1 ∷ Turn 1 ∷ Turn 1 ∷ Turn 1 ∷ Turn 1 ∷ Turn 1
    ∷ Amendment 0 1 7 ∷ Look 1 0 ∷ Turn 0 ∷ Turn 0 ∷ Release 1 ∷ Amendment 0 0 1 ∷ []

-- party p's operation k, an order o, ends with call e and this answer
pub record Finishes (p k e : ℕ) (o : Order) (answer : List Tally) : Type 0 where
  pub operation : Operation tally_kind rules start calls p k o
  pub ends : EndsAt tally_kind rules start calls p k e
  pub looks : LooksGive tally_kind rules start calls p e o answer

pub record ExamplePast : Type 0 where
  pub fresh : Fresh rules shelf
  pub amends : Finishes 0 0 4 (amendment 0 5) (tally 0 ∷ [])
  pub pictures : Finishes 1 1 10 (picture (0 ∷ 1 ∷ [])) (tally 5 ∷ tally 0 ∷ [])
  pub amends_again : Finishes 0 11 14 (amendment 1 7) (tally 0 ∷ [])
  -- the last order still runs
  pub runs : Operation tally_kind rules start calls 0 16 (amendment 0 1)
  pub comes_into_force : BringsIntoForce tally_kind rules (hub_at tally_kind rules start calls 4) (Turn 0) (hub_at tally_kind rules start calls 5)
  pub readings : (rules.means (after_all tally_kind rules start calls).shelf).readings ≡ tally 5 ∷ tally 7 ∷ []
