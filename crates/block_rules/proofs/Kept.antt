-- What a step leaves as it was: a turn the plan and the row, a start of a put the plan.
use Rattle.std.proofs.Common.{◌≡◌, ℕ, ◌+◌, Bool, true, false, eqb, ltb, List, [], ◌∷◌, Option, refl}
use Rattle.plan.specs.Plans.{width}
use Rattle.block_rules.specs.declared.parts.Access.TheVariants.{ReadCurrent, SetGuard, Compare, ReadBlock}
use Rattle.block_rules.specs.declared.parts.Job.{Job}
use Rattle.block_rules.specs.declared.parts.Job.TheVariants.{Idle, Taking, Putting, Scanning, Checking}
use Rattle.block_rules.specs.Blocks.{State, link, current_of, is_live, put_from, compared, turn_put, turn_scan, turn_job}

pub record Same {R : Type 0} (s t : State R) : Type 0 where
  pub plan : t.plan ≡ s.plan
  pub row : t.row ≡ s.row

module _ {R : Type 0} (s : State R) where
  same_compared : (p j c : ℕ) (t : Bool) → Same s (compared s p j c t)
  same_compared p j c true = record { plan = refl; row = refl }
  same_compared p j c false = record { plan = refl; row = refl }

  same_put : (p j h : ℕ) (t : Bool) → Same s (turn_put s p j h t)
  same_put p j h true = record { plan = refl; row = refl }
  same_put p j h false = record { plan = refl; row = refl }

  same_scan : (p j k : ℕ) (g : Option ℕ) (t : Bool) → Same s (turn_scan s p j k g t)
  same_scan p j k g true = record { plan = refl; row = refl }
  same_scan p j k g false = record { plan = refl; row = refl }

  pub turn_same : (p : ℕ) (job : Job) → Same s (turn_job s p job)
  turn_same p Idle = record { plan = refl; row = refl }
  turn_same p (Taking j c ReadCurrent) = record { plan = refl; row = refl }
  turn_same p (Taking j c SetGuard) = record { plan = refl; row = refl }
  turn_same p (Taking j c Compare) = same_compared p j c (eqb (current_of s c) (link s j).seen)
  turn_same p (Taking j c ReadBlock) = record { plan = refl; row = refl }
  turn_same p (Putting j h) = same_put p j h (is_live s j)
  turn_same p (Scanning j k) = same_scan p j k (link s k).guard (ltb (k + 1) (width s.plan))
  turn_same p (Checking j) = record { plan = refl; row = refl }

  pub plan_put : (p j : ℕ) (r : R) (xs : List ℕ) → (put_from s p j r xs).plan ≡ s.plan
  plan_put p j r [] = refl
  plan_put p j r (x ∷ xs) = refl
