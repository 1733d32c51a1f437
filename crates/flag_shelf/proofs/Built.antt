-- The making of a flag shelf, on the lists that its fields hold.
use Rattle.std.proofs.Common.{◌≡◌, ℕ, min, List, ◌++◌, length, drop, replicate, sym, ap, ◌∙◌, subst}
use Rattle.plan.specs.Refusals.{accepted}
use Rattle.plan.specs.Plans.{width, need, plan_verdict}
use Rattle.plan.specs.declared.check.Plan.{Plan}
use Rattle.plan.specs.declared.check.ShelfType.TheVariants.{Flag}
use Rattle.shelf.specs.Rules.{Fresh}
use Rattle.shelf.proofs.Ranges.{Chosen, given, none, chosen_fits}
use Rattle.flag_rules.specs.declared.parts.Mark.{Mark}
use Rattle.flag_rules.specs.declared.parts.Mark.TheVariants.{Empty}
use Rattle.flag_rules.specs.declared.parts.Job.{Job}
use Rattle.flag_rules.specs.declared.parts.Job.TheVariants.{Idle}
use Rattle.flag_rules.specs.Flags.{State, state_of, made_by, made, Sound}
use Rattle.flag_rules.proofs.AsShelf.{flag_shelf_rules}
use Rattle.flag_rules.proofs.Made.{nothing_sound, made_fresh}

module _ {R : Type 0} (d : R) (pl : Plan) (row : List R) where
  -- the state that the rule makes of the chosen plan
  made_of : (p : Plan) → Chosen pl Flag (length row) p
      → state_of p (replicate (need Flag p) d ++ drop (need Flag p) row) (replicate (width p) Empty) (replicate p.parties Idle) ≡ made d pl row
  made_of _ (given p e) = ap (made_by d row) e
  made_of _ (none n e) = ap (made_by d row) e

  -- and of the lists that the code makes
  pub built_is : (p : Plan) → Chosen pl Flag (length row) p → (row' : List R) (marks : List Mark) (jobs : List (Job R))
      → row' ≡ replicate (min (need Flag p) (length row)) d ++ drop (min (need Flag p) (length row)) row
      → marks ≡ replicate (width p) Empty → jobs ≡ replicate p.parties Idle → state_of p row' marks jobs ≡ made d pl row
  built_is p c row' marks jobs r m j =
      let rows = r ∙ ap (λ (n : ℕ). replicate n d ++ drop n row) (chosen_fits pl Flag (length row) p c) in
      (λ i. state_of p (rows i) (m i) (j i)) ∙ made_of p c

  pub built_sound : (p : Plan) → Chosen pl Flag (length row) p → (t : State R) → t ≡ made d pl row → ∥ Sound t ∥₁
  built_sound _ (given p e) t q = ∣ subst Sound (sym q) (made_fresh d pl row p e).is_sound ∣₁
  built_sound _ (none n e) t q = ∣ subst Sound (sym (q ∙ sym (ap (made_by d row) e))) (nothing_sound d row) ∣₁

  -- whatever state is made, it is fresh if the check accepts
  pub built_fresh : (t : State R) → t ≡ made d pl row → (p : Plan) → accepted p ≡ plan_verdict pl Flag (length row) → Fresh (flag_shelf_rules d) t
  built_fresh t q p e = subst (Fresh (flag_shelf_rules d)) (sym q) (made_fresh d pl row p e)
