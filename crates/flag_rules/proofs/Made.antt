-- A flag shelf that was just made.
use Rattle.std.proofs.Common.{◌≡◌, ℕ, zero, suc, List, [], ◌∷◌, ◌++◌, map, length, get_or, take, drop, replicate, sym, refl, ap, ◌∙◌, subst, arith}
use Rattle.std.proofs.lemmas.List.{length-append, length-replicate, take-append-le, take-replicate}
use Rattle.plan.specs.Plans.{width, need, plan_verdict, no_plan, InRange}
use Rattle.plan.specs.Refusals.{accepted}
use Rattle.plan.specs.declared.check.Plan.{Plan}
use Rattle.plan.specs.declared.check.ShelfType.TheVariants.{Flag}
use Rattle.shelf.specs.Meaning.{Link, vacant, Activity, idle, blank_meaning}
use Rattle.shelf.specs.Rules.{Fresh}
use Rattle.shelf.proofs.Ranges.{plan_accepted, range_small}
use Rattle.flag_rules.specs.declared.parts.Mark.TheVariants.{Empty}
use Rattle.flag_rules.specs.declared.parts.Job.{Job}
use Rattle.flag_rules.specs.declared.parts.Job.TheVariants.{Idle}
use Rattle.flag_rules.specs.Flags.{State, state_of, made_by, made, MarkFits, JobFits, Sound}
use Rattle.flag_rules.specs.Means.{links_of, activity_in, means}
use Rattle.flag_rules.proofs.AsShelf.{flag_shelf_rules}

all_empty : (n j : ℕ) → get_or (replicate n Empty) j Empty ≡ Empty
all_empty zero j = refl
all_empty (suc n) zero = refl
all_empty (suc n) (suc j) = all_empty n j

all_idle : {R : Type 0} (none : Job R) (n p : ℕ) → get_or (replicate n none) p none ≡ none
all_idle none zero p = refl
all_idle none (suc n) zero = refl
all_idle none (suc n) (suc p) = all_idle none n p

module _ {R : Type 0} (d : R) where
  vacant_links : (xs : List R) (n : ℕ) → links_of d xs (replicate n Empty) ≡ replicate n vacant
  vacant_links xs zero = refl
  vacant_links [] (suc n) = ap (λ (ls : List (Link R)). vacant ∷ ls) (vacant_links [] n)
  vacant_links (x ∷ xs) (suc n) = ap (λ (ls : List (Link R)). vacant ∷ ls) (vacant_links xs n)

  idle_activities : (n : ℕ) → map (activity_in {R = R}) (replicate n Idle) ≡ replicate n idle
  idle_activities zero = refl
  idle_activities (suc n) = ap (λ (xs : List (Activity R)). idle ∷ xs) (idle_activities n)

  pub nothing_sound : (row : List R) → Sound (state_of no_plan row [] [])
  nothing_sound row = record {
    small = record { parties = omega arith; links = omega arith; channels = omega arith };
    rows = omega arith;
    marks = refl;
    jobs = refl;
    marks_fit = λ j h. tt;
    jobs_fit = λ p h. tt;
  }

  module _ (pl : Plan) (row : List R) where
    abbrev fresh : State R
    fresh = state_of pl (replicate (need Flag pl) d ++ drop (need Flag pl) row) (replicate (width pl) Empty) (replicate pl.parties Idle)

    pub fresh_sound : InRange pl → Sound fresh
    fresh_sound r = record {
      small = range_small pl r;
      rows = omega (arith, length-append (replicate (need Flag pl) d) (drop (need Flag pl) row), length-replicate (need Flag pl) d);
      marks = length-replicate (width pl) Empty;
      jobs = length-replicate pl.parties Idle;
      marks_fit = λ j h. subst (MarkFits pl.channels) (sym (all_empty (width pl) j)) tt;
      jobs_fit = λ p h. subst (JobFits fresh p) (sym (all_idle {R = R} Idle pl.parties p)) tt;
    }

    fresh_means : means d fresh ≡ blank_meaning d pl
    fresh_means =
        let readings : take pl.channels (replicate (need Flag pl) d ++ drop (need Flag pl) row) ≡ replicate pl.channels d =
        take-append-le pl.channels (replicate (need Flag pl) d) (drop (need Flag pl) row) (omega (arith, length-replicate (need Flag pl) d))
        ∙ take-replicate pl.channels (need Flag pl) d (omega arith) in
        λ i. record { readings = readings i; links = vacant_links (drop pl.channels (replicate (need Flag pl) d ++ drop (need Flag pl) row)) (width pl) i; activities = idle_activities pl.parties i }

    pub is_fresh : InRange pl → Fresh (flag_shelf_rules d) fresh
    is_fresh r = record { is_sound = fresh_sound r; in_range = r; is_blank = fresh_means }

    -- the state that is made, when the check accepts and when it refuses
    pub made_accepted : (given : Plan) → accepted given ≡ plan_verdict pl Flag (length row) → fresh ≡ made d pl row
    made_accepted given e =
        let t = plan_accepted pl Flag (length row) given e in
        ap (λ (x : Plan). made_by d row (accepted x)) (sym t.same) ∙ ap (made_by d row) e

    pub made_fresh : (given : Plan) → accepted given ≡ plan_verdict pl Flag (length row) → Fresh (flag_shelf_rules d) (made d pl row)
    made_fresh given e =
        subst (Fresh (flag_shelf_rules d)) (made_accepted given e) (is_fresh (plan_accepted pl Flag (length row) given e).in_range)
