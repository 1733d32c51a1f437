-- Every step of the flag shelf leads to a state that it can be in.
use Rattle.std.proofs.Common.{◌≡◌, ℕ, ◌+◌, ◌<◌, ◌≢◌, List, map, length, get_or, set, sym, refl, ap, ◌∙◌, subst, ⊎_elim, arith}
use mathlib.Core.HLevel.{×_prop}
use mathlib.Core.Logic.{∥∥₁_elim}
use native.Mathlib.Nat.{ℕ_set}
use native.Mathlib.Bridge.{le_prop}
use Rattle.std.proofs.lemmas.List.{length-set, length-map, get_or-set_same, get_or-set_other, set-get_or}
use Rattle.std.proofs.lemmas.Bool.{cases_eq}
use Rattle.plan.specs.Plans.{width}
use Rattle.plan.specs.declared.check.Plan.{Plan}
use Rattle.shelf.specs.Meaning.{Own}
use Rattle.flag_rules.specs.declared.parts.Mark.{Mark}
use Rattle.flag_rules.specs.declared.parts.Mark.TheVariants.{Empty, Live, Broken}
use Rattle.flag_rules.specs.declared.parts.Job.{Job}
use Rattle.flag_rules.specs.declared.parts.Job.TheVariants.{Idle, Taking, Putting, Checking}
use Rattle.flag_rules.specs.Flags.{State, mark_at, job_of, with_job, start_take, dropped, break_mark, taken, put_by, turn_by, turned, Full, MarkFits, JobFits, Sound}
use Rattle.shelf.proofs.Basics.{get_d_mapped, own_apart, own_below}
use Rattle.flag_rules.proofs.Lists.{broken_full, broken_fits}

-- ** the change of one party

module _ {R : Type 0} (s : State R) (ok : Sound s) (p : ℕ) (in_p : p < s.plan.parties) where
  abbrev changed : List R → List Mark → Job R → State R
  changed row' marks' job' = record { plan = s.plan; row = row'; marks = marks'; jobs = set s.jobs p job' }

  module _ (row' : List R) (marks' : List Mark) (job' : Job R)
      (rows : length row' ≡ length s.row) (marks : length marks' ≡ length s.marks)
      (marks_fit : (j : ℕ) → j < width s.plan → MarkFits s.plan.channels (get_or marks' j Empty))
      (others : (q j : ℕ) → q ≢ p → Own s.plan q j → Full (mark_at s j) → Full (get_or marks' j Empty))
      (own : JobFits (changed row' marks' job') p job') where
    other_fits : (q : ℕ) → q ≢ p → (job : Job R) → JobFits s q job → JobFits (changed row' marks' job') q job
    other_fits q ne Idle f = f
    other_fits q ne (Taking j c) f = f
    other_fits q ne (Putting j r) f = (f.0, others q j ne f.0 f.1)
    other_fits q ne (Checking j) f = (f.0, others q j ne f.0 f.1)

    fits : (q : ℕ) → q < s.plan.parties → JobFits (changed row' marks' job') q (job_of (changed row' marks' job') q)
    fits q in_q = ⊎_elim same other (cases_eq q p)
      where
        same : q ≡ p → JobFits (changed row' marks' job') q (job_of (changed row' marks' job') q)
        same e = subst (λ (x : ℕ). JobFits (changed row' marks' job') x (job_of (changed row' marks' job') x)) (sym e)
            (subst (λ (job : Job R). JobFits (changed row' marks' job') p job) (sym (get_or-set_same s.jobs p job' Idle (omega (arith, ok.jobs)))) own)

        other : (q ≡ p → ⊥) → JobFits (changed row' marks' job') q (job_of (changed row' marks' job') q)
        other ne = subst (λ (job : Job R). JobFits (changed row' marks' job') q job) (sym (get_or-set_other s.jobs p q job' Idle ne))
            (other_fits q ne (job_of s q) (ok.jobs_fit q in_q))

    pub keeps : Sound (changed row' marks' job')
    keeps = record {
      small = ok.small;
      rows = omega (arith, ok.rows, rows);
      marks = marks ∙ ok.marks;
      jobs = length-set s.jobs p job' ∙ ok.jobs;
      marks_fit = marks_fit;
      jobs_fit = fits;
    }

  -- a mark of the party's own changed
  set_fits : (j : ℕ) (m : Mark) → j < width s.plan → MarkFits s.plan.channels m → (k : ℕ) → k < width s.plan → MarkFits s.plan.channels (get_or (set s.marks j m) k Empty)
  set_fits j m in_j f k in_k = ⊎_elim same other (cases_eq k j)
    where
      same : k ≡ j → MarkFits s.plan.channels (get_or (set s.marks j m) k Empty)
      same e = subst (λ (x : ℕ). MarkFits s.plan.channels (get_or (set s.marks j m) x Empty)) (sym e)
          (subst (MarkFits s.plan.channels) (sym (get_or-set_same s.marks j m Empty (omega (arith, ok.marks)))) f)

      other : (k ≡ j → ⊥) → MarkFits s.plan.channels (get_or (set s.marks j m) k Empty)
      other ne = subst (MarkFits s.plan.channels) (sym (get_or-set_other s.marks j k m Empty ne)) (ok.marks_fit k in_k)

  set_others : (j : ℕ) (m : Mark) → Own s.plan p j → (q k : ℕ) → q ≢ p → Own s.plan q k → Full (mark_at s k) → Full (get_or (set s.marks j m) k Empty)
  set_others j m own q k ne own' f =
      subst Full (sym (get_or-set_other s.marks j k m Empty (λ e. own_apart s.plan q p k own' (subst (λ (x : ℕ). Own s.plan p x) (sym e) own) ne))) f

  pub sound_job : (job : Job R) → JobFits (with_job s p job) p job → Sound (with_job s p job)
  sound_job job f = keeps s.row s.marks job refl refl ok.marks_fit (λ q j ne own full. full) f

  pub sound_take : (j c : ℕ) → Own s.plan p j → c < s.plan.channels → Sound (start_take s p j c)
  sound_take j c own in_c =
      keeps s.row (set s.marks j Empty) (Taking j c) refl (length-set s.marks j Empty)
      (set_fits j Empty (own_below s.plan p j in_p own) tt) (set_others j Empty own) (own, in_c)

  pub sound_drop : (j : ℕ) → job_of s p ≡ Idle → Own s.plan p j → Sound (dropped s j)
  sound_drop j e own =
      subst (λ (js : List (Job R)). Sound (record { plan = s.plan; row = s.row; marks = set s.marks j Empty; jobs = js }))
      (ap (set s.jobs p) (sym e) ∙ set-get_or s.jobs p Idle)
      (keeps s.row (set s.marks j Empty) Idle refl (length-set s.marks j Empty)
      (set_fits j Empty (own_below s.plan p j in_p own) tt) (set_others j Empty own) tt)

  module _ (d : R) where
    sound_taken : (j c : ℕ) → Own s.plan p j → c < s.plan.channels → Sound (taken d s p j c)
    sound_taken j c own in_c =
        keeps (set s.row (s.plan.channels + j) (get_or s.row c d)) (set s.marks j (Live c)) Idle (length-set _ _ _) (length-set s.marks j (Live c))
        (set_fits j (Live c) (own_below s.plan p j in_p own) in_c) (set_others j (Live c) own) tt

    sound_put : (r : R) (m : Mark) → Sound (put_by s p r m)
    sound_put r Empty = sound_job Idle tt
    sound_put r (Live c) =
        keeps (set s.row c r) (map (break_mark c) s.marks) Idle (length-set s.row c r) (length-map s.marks (break_mark c))
        (λ j in_j. subst (MarkFits s.plan.channels) (sym (get_d_mapped (break_mark c) s.marks j Empty)) (broken_fits s.plan.channels c (mark_at s j) (ok.marks_fit j in_j)))
        (λ q j ne own f. subst Full (sym (get_d_mapped (break_mark c) s.marks j Empty)) (broken_full c (mark_at s j) f)) tt
    sound_put r (Broken c) = sound_job Idle tt

    sound_by : (job : Job R) → JobFits s p job → Sound (turn_by d s p job)
    sound_by Idle f = ok
    sound_by (Taking j c) f = sound_taken j c f.0 f.1
    sound_by (Putting j r) f = sound_put r (mark_at s j)
    sound_by (Checking j) f = sound_job Idle tt

    pub sound_turn : Sound (turned d s p)
    sound_turn = sound_by (job_of s p) (ok.jobs_fit p in_p)

-- ** a state is sound in one way at most

own_prop : (pl : Plan) (p j : ℕ) → IsProp (Own pl p j)
own_prop pl p j x y = λ i. record { from = le_prop x.from y.from i; to = le_prop x.to y.to i }

full_prop : (m : Mark) → IsProp (Full m)
full_prop Empty x y = absurd x
full_prop (Live c) x y = refl
full_prop (Broken c) x y = refl

mark_prop : (n : ℕ) (m : Mark) → IsProp (MarkFits n m)
mark_prop n Empty x y = refl
mark_prop n (Live c) x y = le_prop x y
mark_prop n (Broken c) x y = le_prop x y

job_prop : {R : Type 0} (s : State R) (p : ℕ) (job : Job R) → IsProp (JobFits s p job)
job_prop s p Idle x y = refl
job_prop s p (Taking j c) x y = ×_prop (own_prop s.plan p j) le_prop x y
job_prop s p (Putting j r) x y = ×_prop (own_prop s.plan p j) (full_prop (mark_at s j)) x y
job_prop s p (Checking j) x y = ×_prop (own_prop s.plan p j) (full_prop (mark_at s j)) x y

sound_prop : {R : Type 0} (s : State R) → IsProp (Sound s)
sound_prop s x y = λ i. record {
  small = record { parties = le_prop x.small.parties y.small.parties i; links = le_prop x.small.links y.small.links i; channels = le_prop x.small.channels y.small.channels i };
  rows = le_prop x.rows y.rows i;
  marks = ℕ_set _ _ x.marks y.marks i;
  jobs = ℕ_set _ _ x.jobs y.jobs i;
  marks_fit = λ j h. mark_prop s.plan.channels (mark_at s j) (x.marks_fit j h) (y.marks_fit j h) i;
  jobs_fit = λ p h. job_prop s p (job_of s p) (x.jobs_fit p h) (y.jobs_fit p h) i;
}

pub sound_out : {R : Type 0} (s : State R) → ∥ Sound s ∥₁ → Sound s
sound_out s t = ∥∥₁_elim t (sound_prop s) (λ x. x)
