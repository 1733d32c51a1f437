-- The block shelf's rules as those of a shelf.
use Rattle.std.proofs.Common.{◌≡◌, ℕ, ◌<◌, ◌≤◌, Bool, true, eqb, ◌≢◌, ◌⊎◌, List, [], ◌∷◌, get_or, sym, refl, ap, ◌∙◌, subst, inl, inr, ⊎_elim, arith, Some, None, Option}
use Rattle.std.proofs.lemmas.List.{get_or-set_same, length-map}
use Rattle.std.proofs.lemmas.Bool.{eq-eqb}
use Rattle.plan.specs.Plans.{patience}
use Rattle.plan.specs.declared.check.ShelfType.TheVariants.{Block}
use Rattle.shelf.specs.declared.answer.Answer.{Answer}
use Rattle.shelf.specs.Meaning.{vacant, holds, Operation, put, check, Activity, idle, waits, in_force, link_at, activity_of, Sizes, Stores, is_on, take as take_op}
use Rattle.shelf.specs.Rules.{Rules}
use Rattle.shelf.specs.Calls.{is_idle}
use Rattle.shelf.proofs.Basics.{get_d_mapped}
use Rattle.block_rules.specs.declared.parts.Access.TheVariants.{ReadCurrent, SetGuard, Compare, ReadBlock}
use Rattle.block_rules.specs.declared.parts.Job.{Job}
use Rattle.block_rules.specs.declared.parts.Job.TheVariants.{Idle, Taking, Putting, Scanning, Checking}
use Rattle.block_rules.specs.Blocks.{Party, State, unused, nobody, link, party, current_of, with_job, emptied, channel_held, rests, is_live, start_take, start_put, start_check, dropped, after_put, turn_put, turn_job, turned, answer}
use Rattle.block_rules.specs.Sound.{Sound}
use Rattle.block_rules.specs.Means.{link_of, link_from, activity_in, activity_from, means, turns_left}
use Rattle.block_rules.proofs.Kept.{turn_same, plan_put}
use Rattle.block_rules.proofs.Left.{channel_in, PutsLive, most, least, falls, party_left, link_left, put_left_lem, drop_left, kept}
use Rattle.block_rules.proofs.Starting.{means_take, means_put, means_check, means_drop}
use Rattle.block_rules.proofs.Steps.{sound_take, sound_check, sound_put, sound_drop, sound_turn}
use Rattle.block_rules.proofs.Turning.{turns}

waits_not : {R : Type 0} (o : Operation R) → waits o ≡ idle → ⊥
waits_not o e = let z : ◌≡◌ {A = ℕ} 0 1 = cc in omega arith

in_force_not : {R : Type 0} (a : Answer) → ◌≡◌ {A = Activity R} (in_force a) idle → ⊥
in_force_not {R} a e = let z : ◌≡◌ {A = ℕ} 0 1 = cc in omega arith

module _ {R : Type 0} (d : R) where
  -- a party that is idle in the meaning has no job
  idle_of : (row : List R) (job : Job) → activity_in d row job ≡ idle → job ≡ Idle
  idle_of row Idle e = refl
  idle_of row (Taking j c ReadCurrent) e = absurd (waits_not (take_op j c) e)
  idle_of row (Taking j c SetGuard) e = absurd (waits_not (take_op j c) e)
  idle_of row (Taking j c Compare) e = absurd (waits_not (take_op j c) e)
  idle_of row (Taking j c ReadBlock) e = absurd (in_force_not _ e)
  idle_of row (Putting j h) e = absurd (waits_not (put j (get_or row h d)) e)
  idle_of row (Scanning j k) e = absurd (in_force_not _ e)
  idle_of row (Checking j) e = absurd (waits_not (check j) e)

  on_of : (row : List R) (current : List ℕ) (b : ℕ) (l : Option ℕ) → (link_of d row current b l ≡ vacant → ⊥) → (c : ℕ) × (l ≡ Some c)
  on_of row current b None n = absurd (n refl)
  on_of row current b (Some c) n = (c, refl)

  rest_of : (row : List R) (job : Job) → rests job ≡ is_idle (activity_in d row job)
  rest_of row Idle = refl
  rest_of row (Taking j c ReadCurrent) = refl
  rest_of row (Taking j c SetGuard) = refl
  rest_of row (Taking j c Compare) = refl
  rest_of row (Taking j c ReadBlock) = refl
  rest_of row (Putting j h) = refl
  rest_of row (Scanning j k) = refl
  rest_of row (Checking j) = refl

  -- activity and link in the meaning, also of a party or a link that is not there
  module _ (s : State R) where
    pub activity_is : (p : ℕ) → activity_of (means d s) p ≡ activity_in d s.row (party s p).job
    activity_is p = get_d_mapped (activity_from d s.row) s.parties p nobody

    pub link_is : (j : ℕ) → link_at (means d s) j ≡ link_from d s.row s.current (link s j)
    link_is j = get_d_mapped (link_from d s.row s.current) s.links j unused

    pub idle_from : (p : ℕ) → activity_of (means d s) p ≡ idle → (party s p).job ≡ Idle
    idle_from p e = idle_of s.row (party s p).job (sym (activity_is p) ∙ e)

    pub busy_from : (p : ℕ) → activity_of (means d s) p ≢ idle → (party s p).job ≢ Idle
    busy_from p n e = n (activity_is p ∙ ap (activity_in d s.row) e)

    pub on_from : (j : ℕ) → link_at (means d s) j ≢ vacant → (c : ℕ) × ((link s j).hold ≡ Some c)
    on_from j n = on_of s.row s.current (link s j).seen (link s j).hold (λ e. n (link_is j ∙ e))

  -- in the words of the meaning
  module _ (s : State R) (ok : Sound s) where
    held_link : (j c : ℕ) → (link s j).hold ≡ Some c → link_at (means d s) j ≡ holds c (get_or s.row (link s j).seen d) (eqb (current_of s c) (link s j).seen)
    held_link j c e = link_is s j ∙ ap (link_of d s.row s.current (link s j).seen) e

    on_channel : (c : ℕ) (job : Job) → channel_in s job c → is_on (means d s) (activity_in d s.row job) c
    on_channel c Idle k = k
    on_channel c (Taking j x ReadCurrent) k = k
    on_channel c (Taking j x SetGuard) k = k
    on_channel c (Taking j x Compare) k = k
    on_channel c (Taking j x ReadBlock) k = k
    on_channel c (Putting j h) k = (get_or s.row (link s j).seen d, eqb (current_of s c) (link s j).seen, held_link j c k)
    on_channel c (Scanning j n) k = k
    on_channel c (Checking j) k = (get_or s.row (link s j).seen d, eqb (current_of s c) (link s j).seen, held_link j c k)

    -- a put that stores waits no more
    not_waiting : (row : List R) (j : ℕ) (xs : List ℕ) (o : Operation R) → activity_in d row (after_put j xs) ≡ waits o → ⊥
    not_waiting row j [] o e = let z : ◌≡◌ {A = ℕ} 0 1 = cc in omega arith
    not_waiting row j (b ∷ bs) o e = let z : ◌≡◌ {A = ℕ} 0 1 = cc in omega arith

    job_after : (p c : ℕ) → p < s.plan.parties → (z : PutsLive s p c) → (party (turned s p) p).job ≡ after_put z.on_link (party s p).ready
    job_after p c in_p z =
        ap (λ (x : Job). (party (turn_job s p x) p).job) z.putting
        ∙ (ap (λ (t : Bool). (party (turn_put s p z.on_link z.block t) p).job) live
        ∙ ap (λ (q : Party). q.job) (get_or-set_same s.parties p _ nobody (omega (arith, ok.parties))))
      where
        live : is_live s z.on_link ≡ true
        live = ap (λ (x : Option ℕ). eqb (current_of s (channel_held x)) (link s z.on_link).seen) z.held ∙ eq-eqb (current_of s c) (link s z.on_link).seen z.alive

    stores_now : (p c : ℕ) → p < s.plan.parties → PutsLive s p c → Stores (means d s) (means d (turned s p)) p c
    stores_now p c in_p z =
        let t = turned s p in
        let r = get_or s.row z.block d in
        record {
          link = z.on_link;
          reading = r;
          seen = get_or s.row (link s z.on_link).seen d;
          comes = record {
            waited = activity_is s p ∙ ap (activity_in d s.row) z.putting;
            waits_no_more = λ e. not_waiting t.row z.on_link (party s p).ready (put z.on_link r)
                (ap (activity_in d t.row) (sym (job_after p c in_p z)) ∙ (sym (activity_is t p) ∙ e));
          };
          alive = held_link z.on_link c z.held ∙ ap (holds c (get_or s.row (link s z.on_link).seen d)) (eq-eqb (current_of s c) (link s z.on_link).seen z.alive);
        }

    pub stays_left : (p q : ℕ) → p < s.plan.parties → q < s.plan.parties → q ≢ p
        → (turns_left (turned s p) q ≤ turns_left s q) ⊎ ((c : ℕ) × Stores (means d s) (means d (turned s p)) p c × is_on (means d s) (activity_of (means d s) q) c)
    stays_left p q in_p in_q ne = ⊎_elim (λ (h : turns_left (turned s p) q ≤ turns_left s q). inl h)
        (λ (h : (c : ℕ) × PutsLive s p c × channel_in s (party s q).job c).
        inr (h.0, stores_now p h.0 in_p h.1, subst (λ x. is_on (means d s) x h.0) (sym (activity_is s q)) (on_channel h.0 (party s q).job h.2)))
        (kept s ok p in_p q ne in_q (party s p).job refl)

    pub sizes : Sizes s.plan (means d s)
    sizes = record {
      readings = length-map s.current _ ∙ ok.currents;
      links = length-map s.links _ ∙ ok.links;
      activities = length-map s.parties _ ∙ ok.parties;
    }

  abbrev pub block_shelf_rules : Rules R
  block_shelf_rules = record {
    State = State R;
    blank = d;
    plan = λ s. s.plan;
    patience = λ s. patience Block s.plan;
    sound = Sound;
    means = means d;
    left = turns_left;
    start_take = start_take;
    start_put = start_put;
    start_check = start_check;
    dropped = λ s p j. dropped s j;
    turned = turned;
    answer = answer;
    small = λ s ok. ok.small;
    sizes = sizes;
    takes = λ s p j c ok in_p own in_c rests. let z = idle_from s p rests in
        (record { sound' = sound_take s ok p in_p j c z own in_c; plan' = refl; patience' = refl; left' = λ q ne in_q. link_left s ok p in_p q ne in_q j (emptied (link s j)) (with_job (party s p) (Taking j c ReadCurrent)) own }, means_take d s p j c);
    puts = λ s p j r ok in_p own rests full. let h = on_from s j full in let z = idle_from s p rests in
        (record { sound' = sound_put s ok p in_p j h.0 r z own h.1; plan' = plan_put s p j r (party s p).ready; patience' = ap (patience Block) (plan_put s p j r (party s p).ready); left' = λ q ne in_q. put_left_lem s ok p in_p q ne in_q j r (party s p).ready }, means_put d s ok p in_p z j r);
    checks = λ s p j ok in_p own rests full. let h = on_from s j full in let z = idle_from s p rests in
        (record { sound' = sound_check s ok p in_p j h.0 z own h.1; plan' = refl; patience' = refl; left' = λ q ne in_q. party_left s ok p in_p q ne in_q s.row (with_job (party s p) (Checking j)) }, means_check d s p j);
    drops = λ s p j ok in_p own rests.
        (record { sound' = sound_drop s ok p in_p j (idle_from s p rests) own; plan' = refl; patience' = refl; left' = λ q ne in_q. drop_left s ok p in_p q ne in_q j own }, means_drop d s j);
    turns = λ s p ok in_p n. (sound_turn s ok p in_p, (turn_same s p (party s p).job).plan, ap (patience Block) (turn_same s p (party s p).job).plan, turns d s ok p in_p);
    most = λ s p ok in_p. most s ok p in_p (party s p).job;
    least = λ s p ok in_p n. least s ok p in_p (party s p).job refl (busy_from s p n);
    falls = λ s p ok in_p n. ⊎_elim (λ (e : (party (turned s p) p).job ≡ Idle). inl (activity_is (turned s p) p ∙ ap (activity_in d (turned s p).row) e)) (λ (h : turns_left (turned s p) p < turns_left s p). inr h) (falls s ok p in_p (party s p).job refl (busy_from s p n));
    stays = λ s p q ok in_p in_q ne n. stays_left s ok p q in_p in_q ne;
  }
