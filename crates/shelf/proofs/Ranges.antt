-- What an accepted plan check tells.
use Rattle.std.proofs.Common.{◌≡◌, ℕ, ◌≤◌, min, arith, leb, List, [], ◌∷◌, sym, subst}
use Rattle.std.proofs.lemmas.Bool.{and_parts, leb-true}
use Rattle.std.specs.Prelude.{Ok, Err, Result}
use Rattle.std.specs.Result.{ResultUnwrapsOrElse, result_unwrap_or}
use Rattle.plan.specs.Refusals.{Test, accepted, refused, refusal_number, told}
use Rattle.plan.specs.Plans.{between, need, plan_verdict, no_plan, InRange, Small}
use Rattle.plan.specs.declared.check.Plan.{Plan}
use Rattle.plan.specs.declared.refusal.Refusal.{Refusal}
use Rattle.plan.specs.contracts.check.PlanDefault.TheImpl.{is_default-value}
use Rattle.plan.specs.declared.check.ShelfType.{ShelfType}
use Rattle.plan.specs.declared.check.ShelfType.TheVariants.{Flag, Block}
use Rattle.shelf.proofs.Passing.{accepted_passed}

pub record Accepted (pl : Plan) (shelf : ShelfType) (blocks : ℕ) (given : Plan) : Type 0 where
  pub same : given ≡ pl
  pub in_range : InRange pl
  pub enough : need shelf pl ≤ blocks

module _ (pl : Plan) (shelf : ShelfType) (blocks : ℕ) (given : Plan) (e : accepted given ≡ plan_verdict pl shelf blocks) where
  tests : List Test
  tests =
      record { number = 11; passes = between 1 24 pl.parties }
      ∷ record { number = 12; passes = between 1 4 pl.links }
      ∷ record { number = 13; passes = between 1 64 pl.channels }
      ∷ record { number = 14; passes = leb (need shelf pl) blocks }
      ∷ []

  pub plan_accepted : Accepted pl shelf blocks given
  unfolding tests
  plan_accepted =
      let t = accepted_passed tests pl given e in
      let n = and_parts (leb 1 pl.parties) (leb pl.parties 24) t.0.0 in
      let k = and_parts (leb 1 pl.links) (leb pl.links 4) t.0.1.0 in
      let c = and_parts (leb 1 pl.channels) (leb pl.channels 64) t.0.1.1.0 in
      record {
        same = t.1;
        in_range = record {
          some_parties = leb-true _ _ n.0;
          most_parties = leb-true _ _ n.1;
          some_links = leb-true _ _ k.0;
          most_links = leb-true _ _ k.1;
          some_channels = leb-true _ _ c.0;
          most_channels = leb-true _ _ c.1;
        };
        enough = leb-true _ _ t.0.1.1.1.0;
      }

pub range_small : (pl : Plan) → InRange pl → Small pl
range_small pl r = record { parties = r.most_parties; links = r.most_links; channels = r.most_channels }

-- the plan of a shelf: the one that was accepted, or none
pub data Chosen (pl : Plan) (shelf : ShelfType) (blocks : ℕ) : Plan → Type 0 where
  given : (p : Plan) → accepted p ≡ plan_verdict pl shelf blocks → Chosen pl shelf blocks p
  none : (n : ℕ) → refused n ≡ plan_verdict pl shelf blocks → Chosen pl shelf blocks no_plan

pub plan_chosen : (pl : Plan) (shelf : ShelfType) (blocks : ℕ) (checked : Result Plan Refusal) (p : Plan) → told checked ≡ plan_verdict pl shelf blocks
    → ResultUnwrapsOrElse checked is_default-value.it p → Chosen pl shelf blocks p
plan_chosen pl shelf blocks (Ok q) p e u = subst (Chosen pl shelf blocks) (sym u) (given q e)
plan_chosen pl shelf blocks (Err r) p e u = let k : p ≡ no_plan = λ i. record { parties = u.0 i; links = u.1.0 i; channels = u.1.1 i } in subst (Chosen pl shelf blocks) (sym k) (none (refusal_number r) e)

pub plan_or_none : (pl : Plan) (shelf : ShelfType) (blocks : ℕ) (checked : Result Plan Refusal) (p : Plan) → told checked ≡ plan_verdict pl shelf blocks
    → p ≡ result_unwrap_or checked no_plan → Chosen pl shelf blocks p
plan_or_none pl shelf blocks (Ok q) p e u = subst (Chosen pl shelf blocks) (sym u) (given q e)
plan_or_none pl shelf blocks (Err r) p e u = subst (Chosen pl shelf blocks) (sym u) (none (refusal_number r) e)

-- a shelf of the chosen plan has the blocks of its need
pub chosen_fits : (pl : Plan) (shelf : ShelfType) (blocks : ℕ) (p : Plan) → Chosen pl shelf blocks p → min (need shelf p) blocks ≡ need shelf p
chosen_fits pl shelf blocks _ (given p e) =
    let t = plan_accepted pl shelf blocks p e in
    omega (arith, subst (λ (x : Plan). need shelf x ≤ blocks) (sym t.same) t.enough)
chosen_fits pl Flag blocks _ (none n e) = omega arith
chosen_fits pl Block blocks _ (none n e) = omega arith
