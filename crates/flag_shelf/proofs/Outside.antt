-- No call of a flag shelf touches a block beyond its need.
use Rattle.std.proofs.Common.{ℕ, ◌+◌, ◌<◌, get_or, set, sym, refl, subst, arith}
use Rattle.plan.specs.Plans.{need}
use Rattle.plan.specs.Refusals.{Outcome}
use Rattle.plan.specs.declared.check.ShelfType.TheVariants.{Flag}
use Rattle.shelf.specs.Calls.{Call, Take, Put, Check, Drop, Look, Turn, tests_of, leaves, state_after, after}
use Rattle.shelf.proofs.Passing.{Passed, Ways, all_pass, one_refuses, ways}
use Rattle.std.specs.List.{AllByRecursion}
use Rattle.std.proofs.lemmas.Bool.{ltb-true}
use Rattle.flag_rules.specs.declared.parts.Mark.{Mark}
use Rattle.flag_rules.specs.declared.parts.Mark.TheVariants.{Empty, Live, Broken}
use Rattle.flag_rules.specs.declared.parts.Job.{Job}
use Rattle.flag_rules.specs.declared.parts.Job.TheVariants.{Idle, Taking, Putting, Checking}
use Rattle.flag_rules.specs.Flags.{State, mark_at, job_of, put_by, turn_by, MarkFits, JobFits, Sound}
use Rattle.flag_rules.specs.Means.{means}
use Rattle.shelf.proofs.Basics.{own_below}
use Rattle.flag_rules.proofs.AsShelf.{flag_shelf_rules}
use Rattle.shelf.specs.Beyond.{Untouched, BeyondStays}
use Rattle.shelf.proofs.Always.{row_same, row_written, beyond_always}

module _ {R : Type 0} (d : R) where
  module _ (s : State R) (ok : Sound s) where
    abbrev Stays : State R → Type 0
    Stays t = Untouched (need Flag s.plan) s.row t.row

    same : Untouched (need Flag s.plan) s.row s.row
    same = row_same (need Flag s.plan) s.row s.row refl

    written : (b : ℕ) (x : R) → b < need Flag s.plan → Untouched (need Flag s.plan) s.row (set s.row b x)
    written b x h = row_written (need Flag s.plan) s.row (set s.row b x) b x h refl

    put_stays : (p : ℕ) (r : R) (m : Mark) → MarkFits s.plan.channels m → Stays (put_by s p r m)
    put_stays p r Empty f = same
    put_stays p r (Live c) f = written c r (omega (arith, f))
    put_stays p r (Broken c) f = same

    turn_stays : (p : ℕ) → p < s.plan.parties → (job : Job R) → JobFits s p job → Stays (turn_by d s p job)
    turn_stays p h Idle f = same
    turn_stays p h (Taking j c) f = written (s.plan.channels + j) (get_or s.row c d) (omega (arith, own_below s.plan p j h f.0))
    turn_stays p h (Putting j r) f = put_stays p r (mark_at s j) (ok.marks_fit j (own_below s.plan p j h f.0))
    turn_stays p h (Checking j) f = same

    accepted_stays : (k : Call R) → AllByRecursion Passed (tests_of s.plan (means d s) k) → Stays (state_after (flag_shelf_rules d) s k)
    accepted_stays (Take p i c) t = same
    accepted_stays (Put p i r) t = same
    accepted_stays (Check p i) t = same
    accepted_stays (Drop p i) t = same
    accepted_stays (Look p i) t = same
    accepted_stays (Turn p) t = let h = ltb-true p s.plan.parties t.0 in turn_stays p h (job_of s p) (ok.jobs_fit p h)

    call_stays : (k : Call R) → Stays (after (flag_shelf_rules d) s k)
    call_stays k = by_way (ways (tests_of s.plan (means d s) k) (state_after (flag_shelf_rules d) s k))
      where
        by_way : Ways (tests_of s.plan (means d s) k) (state_after (flag_shelf_rules d) s k) → Stays (after (flag_shelf_rules d) s k)
        by_way (all_pass p q) = subst (λ (o : Outcome (State R)). Stays (leaves s o)) (sym q) (accepted_stays k p)
        by_way (one_refuses n q) = subst (λ (o : Outcome (State R)). Stays (leaves s o)) (sym q) same

  pub beyond_stays : (s : State R) → Sound s → BeyondStays (flag_shelf_rules d) (λ s. s.row) (need Flag s.plan) s
  beyond_stays = beyond_always (flag_shelf_rules d) (λ s. s.row) (need Flag) call_stays
