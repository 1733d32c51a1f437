-- What each step of the flag shelf means.
use Rattle.std.proofs.Common.{◌≡◌, ℕ, ◌+◌, ◌<◌, true, not, ◌≢◌, List, map, length, get_or, take, drop, set, sym, refl, ap, ◌∙◌, subst, arith}
use Rattle.shelf.specs.Calls.{is_vacant}
use Rattle.std.proofs.lemmas.List.{length-map, length-drop, get_or-set_same, get_or-take, set-set, map-set, take-set-le, drop-set-lt, drop-set-add}
use Rattle.plan.specs.Plans.{width}
use Rattle.shelf.specs.declared.answer.Answer.{Answer}
use Rattle.shelf.specs.declared.answer.Answer.TheVariants as answers
use Rattle.shelf.specs.Meaning.{Link, vacant, holds, Activity, idle, waits, in_force, take as take_op, put, check, Meaning, link_at, activity_of, does, linking, break_on, put_on, verdict, brought, Turned, comes_and_ends}
use Rattle.flag_rules.specs.declared.parts.Mark.{Mark}
use Rattle.flag_rules.specs.declared.parts.Mark.TheVariants.{Empty, Live, Broken}
use Rattle.flag_rules.specs.declared.parts.Job.{Job}
use Rattle.flag_rules.specs.declared.parts.Job.TheVariants.{Idle, Taking, Putting, Checking}
use Rattle.flag_rules.specs.Flags.{State, mark_at, job_of, with_job, start_take, dropped, break_mark, taken, put_by, turn_by, turned, put_answer, answer_of_check, answer_by, answer, is_full, Full, MarkFits, JobFits, Sound}
use Rattle.flag_rules.specs.Means.{link_of, links_of, activity_in, means}
use Rattle.shelf.proofs.Basics.{get_d_mapped, own_below}
use Rattle.flag_rules.proofs.Lists.{take_set_in, link_at_lem, links_emptied, links_set, links_broken, check_is}

module _ {R : Type 0} (d : R) (s : State R) where
  -- a party's activity is that of its job, and a link that of its mark and block
  pub activity_is : (p : ℕ) → activity_of (means d s) p ≡ activity_in (job_of s p)
  activity_is p = get_d_mapped activity_in s.jobs p Idle

  pub link_is : (j : ℕ) → link_at (means d s) j ≡ link_of (mark_at s j) (get_or (drop s.plan.channels s.row) j d)
  link_is j = link_at_lem d (drop s.plan.channels s.row) s.marks j

  idle_job : (job : Job R) → activity_in job ≡ idle → job ≡ Idle
  idle_job Idle e = refl
  idle_job (Taking j c) e = let z : ◌≡◌ {A = ℕ} 0 1 = cc in absurd (omega arith)
  idle_job (Putting j r) e = let z : ◌≡◌ {A = ℕ} 0 1 = cc in absurd (omega arith)
  idle_job (Checking j) e = let z : ◌≡◌ {A = ℕ} 0 1 = cc in absurd (omega arith)

  pub idle_from : (p : ℕ) → activity_of (means d s) p ≡ idle → job_of s p ≡ Idle
  idle_from p e = idle_job (job_of s p) (sym (activity_is p) ∙ e)

  full_mark : (m : Mark) (x : R) → link_of m x ≢ vacant → Full m
  full_mark Empty x n = n refl
  full_mark (Live c) x n = tt
  full_mark (Broken c) x n = tt

  pub full_from : (j : ℕ) → link_at (means d s) j ≢ vacant → Full (mark_at s j)
  full_from j n = full_mark (mark_at s j) _ (λ e. n (link_is j ∙ e))

  full_link : (m : Mark) (x : R) → is_full m ≡ not (is_vacant (link_of m x))
  full_link Empty x = refl
  full_link (Live c) x = refl
  full_link (Broken c) x = refl

  pub is_full_lem : (j : ℕ) → is_full (mark_at s j) ≡ not (is_vacant (link_at (means d s) j))
  is_full_lem j = full_link (mark_at s j) _ ∙ ap (λ (l : Link R). not (is_vacant l)) (sym (link_is j))

  -- ** starting and dropping

  pub means_job : (p : ℕ) (job : Job R) → means d (with_job s p job) ≡ does (means d s) p (activity_in job)
  means_job p job = λ i. record {
    readings = take s.plan.channels s.row;
    links = links_of d (drop s.plan.channels s.row) s.marks;
    activities = map-set activity_in s.jobs p job i;
  }

  pub means_take : (p j c : ℕ) → means d (start_take s p j c) ≡ does (linking (means d s) j vacant) p (waits (take_op j c))
  means_take p j c = λ i. record {
    readings = take s.plan.channels s.row;
    links = links_emptied d (drop s.plan.channels s.row) s.marks j i;
    activities = map-set activity_in s.jobs p (Taking j c) i;
  }

  pub means_drop : (j : ℕ) → means d (dropped s j) ≡ linking (means d s) j vacant
  means_drop j = λ i. record {
    readings = take s.plan.channels s.row;
    links = links_emptied d (drop s.plan.channels s.row) s.marks j i;
    activities = map activity_in s.jobs;
  }

  -- ** turns

  module _ (ok : Sound s) (p : ℕ) (in_p : p < s.plan.parties) where
    -- an activity that is set and set again
    twice : (a : Answer) → map activity_in (set s.jobs p Idle) ≡ set (set (map activity_in s.jobs) p (in_force a)) p idle
    twice a = map-set activity_in s.jobs p Idle ∙ sym (set-set (map activity_in s.jobs) p (in_force a) idle)

    set_there : (acts : List (Activity R)) (a : Answer) → length acts ≡ length s.jobs → get_or (set acts p (in_force a)) p idle ≡ in_force a
    set_there acts a l = get_or-set_same acts p (in_force a) idle (omega (arith, ok.jobs, l))

    here : (a : Answer) → get_or (set (map activity_in s.jobs) p (in_force a)) p idle ≡ in_force a
    here a = set_there (map activity_in s.jobs) a (length-map s.jobs activity_in)

    means_taken : (j c : ℕ) → j < width s.plan → c < s.plan.channels
        → means d (taken d s p j c) ≡ does (brought d (means d s) p (take_op j c)) p idle
    means_taken j c in_j in_c =
        let C : ℕ = s.plan.channels in
        let x : R = get_or s.row c d in
        let links : links_of d (drop C (set s.row (C + j) x)) (set s.marks j (Live c)) ≡ set (links_of d (drop C s.row) s.marks) j (holds c (get_or (take C s.row) c d) true) =
        ap (λ (xs : List R). links_of d xs (set s.marks j (Live c))) (drop-set-add C s.row j x)
        ∙ (links_set d (drop C s.row) s.marks j x (Live c) (omega (arith, length-drop C s.row, ok.rows))
        ∙ ap (λ (y : R). set (links_of d (drop C s.row) s.marks) j (holds c y true)) (sym (get_or-take C s.row c d in_c))) in
        λ i. record { readings = take-set-le C s.row (C + j) x (omega arith) i; links = links i; activities = twice answers.Taken i }

    means_stored : (j c : ℕ) (r : R) → c < s.plan.channels
        → means d (put_by s p r (Live c)) ≡ does (put_on (means d s) p r (holds c r true)) p idle
    means_stored j c r in_c =
        let C : ℕ = s.plan.channels in
        let links : links_of d (drop C (set s.row c r)) (map (break_mark c) s.marks) ≡ map (break_on c) (links_of d (drop C s.row) s.marks) =
        ap (λ (xs : List R). links_of d xs (map (break_mark c) s.marks)) (drop-set-lt C s.row c r in_c) ∙ links_broken d c (drop C s.row) s.marks in
        λ i. record { readings = take_set_in C s.row c r i; links = links i; activities = twice answers.Stored i }

    means_idle : (a : Answer) → means d (with_job s p Idle) ≡ does (does (means d s) p (in_force a)) p idle
    means_idle a = λ i. record {
      readings = take s.plan.channels s.row;
      links = links_of d (drop s.plan.channels s.row) s.marks;
      activities = twice a i;
    }

    -- a put, by the mark of its link; x is what the link shows
    put_turns : (j : ℕ) (r : R) → job_of s p ≡ Putting j r → (m : Mark) (x : R) → Full m → (m ≡ mark_at s j) → link_at (means d s) j ≡ link_of m x → j < width s.plan
        → Turned d (means d s) p (put_answer m) (means d (put_by s p r m))
    put_turns j r e Empty x f is l in_j = absurd f
    put_turns j r e (Live c) x f is l in_j =
        let in_c : c < s.plan.channels = subst (MarkFits s.plan.channels) (sym is) (ok.marks_fit j in_j) in
        let forced : brought d (means d s) p (put j r) ≡ put_on (means d s) p r (holds c x true) = ap (put_on (means d s) p r) l in
        subst (λ (m : Meaning R). Turned d (means d s) p answers.Stored m)
        (ap (λ (m : Meaning R). does m p idle) forced ∙ sym (means_stored j c r in_c))
        (comes_and_ends (put j r) answers.Stored (activity_is p ∙ ap activity_in e) (ap (λ (m : Meaning R). activity_of m p) forced ∙ here answers.Stored))
    put_turns j r e (Broken c) x f is l in_j =
        let forced : brought d (means d s) p (put j r) ≡ does (means d s) p (in_force answers.Missed) = ap (put_on (means d s) p r) l in
        subst (λ (m : Meaning R). Turned d (means d s) p answers.Missed m)
        (ap (λ (m : Meaning R). does m p idle) forced ∙ sym (means_idle answers.Missed))
        (comes_and_ends (put j r) answers.Missed (activity_is p ∙ ap activity_in e) (ap (λ (m : Meaning R). activity_of m p) forced ∙ here answers.Missed))

    turns_by : (job : Job R) → job_of s p ≡ job → (job ≡ Idle → ⊥) → JobFits s p job → Turned d (means d s) p (answer_by s job) (means d (turn_by d s p job))
    turns_by Idle e n f = absurd (n refl)
    turns_by (Taking j c) e n f =
        subst (λ (m : Meaning R). Turned d (means d s) p answers.Taken m) (sym (means_taken j c (own_below s.plan p j in_p f.0) f.1))
        (comes_and_ends (take_op j c) answers.Taken (activity_is p ∙ ap activity_in e) (here answers.Taken))
    turns_by (Putting j r) e n f =
        put_turns j r e (mark_at s j) (get_or (drop s.plan.channels s.row) j d) f.1 refl (link_is j) (own_below s.plan p j in_p f.0)
    turns_by (Checking j) e n f =
        let a : Answer = answer_of_check (mark_at s j) in
        let same : verdict (link_at (means d s) j) ≡ a = ap verdict (link_is j) ∙ check_is d (mark_at s j) _ in
        let forced : brought d (means d s) p (check j) ≡ does (means d s) p (in_force a) = ap (λ (x : Answer). does (means d s) p (in_force x)) same in
        subst (λ (m : Meaning R). Turned d (means d s) p a m) (ap (λ (m : Meaning R). does m p idle) forced ∙ sym (means_idle a))
        (comes_and_ends (check j) a (activity_is p ∙ ap activity_in e) (ap (λ (m : Meaning R). activity_of m p) forced ∙ here a))

    pub turns : activity_of (means d s) p ≢ idle → Turned d (means d s) p (answer s p) (means d (turned d s p))
    turns n = turns_by (job_of s p) refl (λ e. n (activity_is p ∙ ap activity_in e)) (ok.jobs_fit p in_p)
