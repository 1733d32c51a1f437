-- The flag shelf's rules as those of a shelf.
use Rattle.std.proofs.Common.{◌≡◌, ℕ, ◌+◌, ◌<◌, ◌≤◌, ◌≢◌, List, get_or, drop, set, refl, ap, ◌∙◌, inl, arith}
use Rattle.std.proofs.lemmas.List.{length-map, length-take-le, get_or-set_same, get_or-set_other}
use Rattle.plan.specs.Plans.{patience}
use Rattle.plan.specs.declared.check.ShelfType.TheVariants.{Flag}
use Rattle.shelf.specs.Meaning.{idle, activity_of, Sizes}
use Rattle.shelf.specs.Rules.{Rules}
use Rattle.flag_rules.specs.declared.parts.Mark.{Mark}
use Rattle.flag_rules.specs.declared.parts.Job.{Job}
use Rattle.flag_rules.specs.declared.parts.Job.TheVariants.{Idle, Taking, Putting, Checking}
use Rattle.flag_rules.specs.Flags.{State, mark_at, job_of, start_take, start_put, start_check, dropped, put_by, turn_by, turned, answer, Sound}
use Rattle.flag_rules.specs.declared.parts.Mark.TheVariants.{Empty, Live, Broken}
use Rattle.flag_rules.specs.Means.{activity_in, means, job_left}
use Rattle.flag_rules.proofs.Lists.{length_links}
use Rattle.flag_rules.proofs.Steps.{sound_job, sound_take, sound_drop, sound_turn}
use Rattle.flag_rules.proofs.Meant.{activity_is, idle_from, full_from, means_job, means_take, means_drop, turns}

module _ {R : Type 0} (d : R) where
  abbrev pub turns_left : State R → ℕ → ℕ
  turns_left s p = job_left (job_of s p)

  pub left_most : (job : Job R) → job_left job ≤ 0 + 1
  left_most Idle = omega arith
  left_most (Taking j c) = omega arith
  left_most (Putting j r) = omega arith
  left_most (Checking j) = omega arith

  pub left_least : (job : Job R) → activity_in job ≢ idle → 1 ≤ job_left job
  left_least Idle n = absurd (n refl)
  left_least (Taking j c) n = omega arith
  left_least (Putting j r) n = omega arith
  left_least (Checking j) n = omega arith

  pub sizes : (s : State R) → Sound s → Sizes s.plan (means d s)
  sizes s ok = record {
    readings = length-take-le s.plan.channels s.row (omega (arith, ok.rows));
    links = length_links d (drop s.plan.channels s.row) s.marks ∙ ok.marks;
    activities = length-map s.jobs activity_in ∙ ok.jobs;
  }

  -- another party's job stays
  pub other_left : (s : State R) (p q : ℕ) (job : Job R) → q ≢ p → job_left (get_or (set s.jobs p job) q Idle) ≤ turns_left s q
  other_left s p q job ne = omega (arith, ap job_left (get_or-set_other s.jobs p q job Idle ne))

  put_job : (s : State R) (p : ℕ) (r : R) (m : Mark) → (put_by s p r m).jobs ≡ set s.jobs p Idle
  put_job s p r Empty = refl
  put_job s p r (Live c) = refl
  put_job s p r (Broken c) = refl

  turn_job_lem : (s : State R) (p : ℕ) (job : Job R) → (job ≡ Idle → ⊥) → (turn_by d s p job).jobs ≡ set s.jobs p Idle
  turn_job_lem s p Idle n = absurd (n refl)
  turn_job_lem s p (Taking j c) n = refl
  turn_job_lem s p (Putting j r) n = put_job s p r (mark_at s j)
  turn_job_lem s p (Checking j) n = refl

  put_plan : (s : State R) (p : ℕ) (r : R) (m : Mark) → (put_by s p r m).plan ≡ s.plan
  put_plan s p r Empty = refl
  put_plan s p r (Live c) = refl
  put_plan s p r (Broken c) = refl

  pub turn_plan : (s : State R) (p : ℕ) (job : Job R) → (turn_by d s p job).plan ≡ s.plan
  turn_plan s p Idle = refl
  turn_plan s p (Taking j c) = refl
  turn_plan s p (Putting j r) = put_plan s p r (mark_at s j)
  turn_plan s p (Checking j) = refl

  module _ (s : State R) (p : ℕ) (n : activity_of (means d s) p ≢ idle) where
    busy : job_of s p ≡ Idle → ⊥
    busy e = n (activity_is d s p ∙ ap activity_in e)

    job_after : (q : ℕ) → job_of (turned d s p) q ≡ get_or (set s.jobs p Idle) q Idle
    job_after q = ap (λ (js : List (Job R)). get_or js q Idle) (turn_job_lem s p (job_of s p) busy)

    pub idle_after : Sound s → p < s.plan.parties → activity_of (means d (turned d s p)) p ≡ idle
    idle_after ok in_p = activity_is d (turned d s p) p ∙ ap activity_in (job_after p ∙ get_or-set_same s.jobs p Idle Idle (omega (arith, ok.jobs)))

    pub stays_left : (q : ℕ) → q ≢ p → turns_left (turned d s p) q ≤ turns_left s q
    stays_left q ne = omega (arith, ap job_left (job_after q), other_left s p q Idle ne)

  abbrev pub flag_shelf_rules : Rules R
  flag_shelf_rules = record {
    State = State R;
    blank = d;
    plan = λ s. s.plan;
    patience = λ s. patience Flag s.plan;
    sound = Sound;
    means = means d;
    left = turns_left;
    start_take = start_take;
    start_put = start_put;
    start_check = start_check;
    dropped = λ s p j. dropped s j;
    turned = turned d;
    answer = answer;
    small = λ s ok. ok.small;
    sizes = sizes;
    takes = λ s p j c ok in_p own in_c rests.
        (record { sound' = sound_take s ok p in_p j c own in_c; plan' = refl; patience' = refl; left' = λ q ne in_q. other_left s p q (Taking j c) ne }, means_take d s p j c);
    puts = λ s p j r ok in_p own rests full.
        (record { sound' = sound_job s ok p in_p (Putting j r) (own, full_from d s j full); plan' = refl; patience' = refl; left' = λ q ne in_q. other_left s p q (Putting j r) ne }, means_job d s p (Putting j r));
    checks = λ s p j ok in_p own rests full.
        (record { sound' = sound_job s ok p in_p (Checking j) (own, full_from d s j full); plan' = refl; patience' = refl; left' = λ q ne in_q. other_left s p q (Checking j) ne }, means_job d s p (Checking j));
    drops = λ s p j ok in_p own rests.
        (record { sound' = sound_drop s ok p in_p j (idle_from d s p rests) own; plan' = refl; patience' = refl; left' = λ q ne in_q. omega arith }, means_drop d s j);
    turns = λ s p ok in_p n. (sound_turn s ok p in_p d, turn_plan s p (job_of s p), refl, turns d s ok p in_p n);
    most = λ s p ok in_p. left_most (job_of s p);
    least = λ s p ok in_p n. left_least (job_of s p) (λ e. n (activity_is d s p ∙ e));
    falls = λ s p ok in_p n. inl (idle_after s p n ok in_p);
    stays = λ s p q ok in_p in_q ne n. inl (stays_left s p n q ne);
  }
