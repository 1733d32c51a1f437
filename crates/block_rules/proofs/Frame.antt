-- One theorem for every step: a call of party p changes only p's seat, p's links, the currents and the row.
use Rattle.std.proofs.Common.{◌≡◌, ℕ, ◌+◌, ◌<◌, ◌≤◌, ◌≢◌, ◌⊎◌, List, length, get_or, set, sym, ap, ◌∙◌, subst, ⊎_elim, arith, Some}
use Rattle.std.proofs.lemmas.List.{length-set, get_or-set_same, get_or-set_other}
use Rattle.std.proofs.lemmas.List.Sums.{sum_by-set, get_or-le-sum_by}
use Rattle.std.proofs.lemmas.Bool.{cases_eq}
use Rattle.std.proofs.lemmas.Bool.Decides.{nat_tests}
use Rattle.plan.specs.Plans.{width, need}
use Rattle.plan.specs.declared.check.ShelfType.TheVariants.{Block}
use Rattle.shelf.specs.Meaning.{Own}
use Rattle.shelf.proofs.Basics.{own_apart}
use Rattle.block_rules.specs.declared.parts.LinkState.{LinkState}
use Rattle.block_rules.specs.declared.parts.Job.{Job}
use Rattle.block_rules.specs.declared.parts.Job.TheVariants.{Idle, Taking, Putting, Scanning, Checking}
use Rattle.block_rules.specs.Blocks.{Party, State, state_of, unused, nobody, link, party, channel_held}
use Rattle.block_rules.specs.Counting.{times, stands_with, free_with, standings, free, below}
use Rattle.block_rules.specs.Sound.{LinkOk, AccessOk, JobOk, PartyOk, Sound}
use Rattle.block_rules.proofs.Counts.{sum_by_mono}

-- ** a block stands once

pub below_le : (b n : ℕ) → below b n ≤ 1
below_le b n = grind (arith, nat_tests)

module _ {R : Type 0} (t : State R) (b : ℕ) (once : standings t b ≤ 1) where
  pub current_not_with : (q : ℕ) → q < length t.parties → 1 ≤ times b t.current → stands_with b (party t q) ≡ 0
  unfolding standings
  current_not_with q h k = omega (arith, once, get_or-le-sum_by (stands_with b) t.parties q nobody h)

  pub current_not_free : 1 ≤ times b t.current → free t b ≡ 0
  unfolding standings free
  current_not_free k = omega (arith, once, sum_by_mono (free_with b) (stands_with b) (λ x. omega arith) t.parties)

  pub once_with : (q : ℕ) → q < length t.parties → stands_with b (party t q) ≤ 1
  unfolding standings
  once_with q h = omega (arith, once, get_or-le-sum_by (stands_with b) t.parties q nobody h)

  pub free_with_lem : (q : ℕ) → q < length t.parties → free_with b (party t q) ≤ free t b
  unfolding free
  free_with_lem q h = get_or-le-sum_by (free_with b) t.parties q nobody h

pub sound_once : {R : Type 0} (s : State R) → Sound s → (b : ℕ) → standings s b ≤ 1
sound_once s ok b = omega (arith, ok.once b, below_le b (need Block s.plan))

-- ** the change of one party

abbrev pub changed : {R : Type 0} → State R → List R → List ℕ → List LinkState → ℕ → Party → State R
changed s row' current' links' p q' = state_of s.plan row' current' links' (set s.parties p q')

pub record Fits {R : Type 0} (s : State R) (row' : List R) (current' : List ℕ) (links' : List LinkState) (p : ℕ) (q' : Party) : Type 0 where
  pub rows : length row' ≡ length s.row
  pub currents : length current' ≡ length s.current
  pub links : length links' ≡ length s.links
  pub moves : (b : ℕ) → times b current' + stands_with b q' ≡ times b s.current + stands_with b (party s p)
  pub others : (i : ℕ) → (Own s.plan p i → ⊥) → get_or links' i unused ≡ link s i
  pub held : (i : ℕ) → i < width s.plan → LinkOk (changed s row' current' links' p q') (get_or links' i unused)
  pub stays : (i c : ℕ) → i < width s.plan → (get_or links' i unused).hold ≡ Some c →
      (((link s i).hold ≡ Some c) × ((link s i).seen ≡ (get_or links' i unused).seen)) ⊎ (1 ≤ times (get_or links' i unused).seen current')
  pub job : PartyOk (changed s row' current' links' p q') p q'

module _ {R : Type 0} (s : State R) (ok : Sound s) (p : ℕ) (in_p : p < s.plan.parties) (row' : List R) (current' : List ℕ) (links' : List LinkState) (q' : Party) where
  in_parties : p < length s.parties
  in_parties = omega (arith, ok.parties, in_p)

  pub free_after : (b : ℕ) → free (changed s row' current' links' p q') b + free_with b (party s p) ≡ free s b + free_with b q'
  unfolding free
  free_after b = sum_by-set (free_with b) s.parties p q' nobody in_parties

  pub standings_after : (b : ℕ) → times b current' + stands_with b q' ≡ times b s.current + stands_with b (party s p) → standings (changed s row' current' links' p q') b ≡ standings s b
  unfolding standings
  standings_after b h = omega (arith, h, sum_by-set (stands_with b) s.parties p q' nobody in_parties)

  module _ (fits : Fits s row' current' links' p q') where
    once' : (b : ℕ) → standings (changed s row' current' links' p q') b ≡ below b (need Block s.plan)
    once' b = standings_after b (fits.moves b) ∙ ok.once b

    -- another party's job is as it was
    job_kept : (q : ℕ) → q < s.plan.parties → q ≢ p → (job : Job) → JobOk s q (party s q) job → JobOk (changed s row' current' links' p q') q (party s q) job
    job_kept q in_q ne Idle k = k
    job_kept q in_q ne (Taking j c a) k = record {
      spare = k.spare;
      own = k.own;
      channel = k.channel;
      stage = subst (λ l. AccessOk l c a) (sym (fits.others j (λ o. own_apart s.plan q p j k.own o ne))) k.stage;
    }
    job_kept q in_q ne (Putting j h) k = record {
      own = k.own;
      held = subst (λ l. l.hold ≡ Some (channel_held l.hold)) (sym (fits.others j (λ o. own_apart s.plan q p j k.own o ne))) k.held;
    }
    job_kept q in_q ne (Scanning j n) k = record {
      own = k.own;
      within = k.within;
      none = k.none;
      few = k.few;
      met = λ i c h e m. ⊎_elim
          (λ (same_link : ((link s i).hold ≡ Some c) × ((link s i).seen ≡ (get_or links' i unused).seen)). subst (λ b. 1 ≤ times b (party s q).read) same_link.1 (k.met i c h same_link.0 (subst (λ b. 1 ≤ times b (party s q).retired) (sym same_link.1) m)))
          (λ (now : 1 ≤ times (get_or links' i unused).seen current'). absurd (clash i now m))
          (fits.stays i c (omega (arith, k.within, h)) e);
    }
      where
        clash : (i : ℕ) → 1 ≤ times (get_or links' i unused).seen current' → 1 ≤ times (get_or links' i unused).seen (party s q).retired → ⊥
        clash i now m =
            let b = (get_or links' i unused).seen in
            let t = changed s row' current' links' p q' in
            let z = current_not_with t b (omega (arith, once' b, below_le b (need Block s.plan))) q (omega (arith, length-set s.parties p q', ok.parties, in_q)) now in
            let e = ap (λ x. times b x.retired) (get_or-set_other s.parties p q q' nobody ne) in
            omega arith
    job_kept q in_q ne (Checking j) k = record {
      spare = k.spare;
      own = k.own;
      held = subst (λ l. l.hold ≡ Some (channel_held l.hold)) (sym (fits.others j (λ o. own_apart s.plan q p j k.own o ne))) k.held;
    }

    pub keeps : Sound (changed s row' current' links' p q')
    keeps = record {
      small = ok.small;
      rows = omega (arith, ok.rows, fits.rows);
      currents = fits.currents ∙ ok.currents;
      links = fits.links ∙ ok.links;
      parties = length-set s.parties p q' ∙ ok.parties;
      once = once';
      held = fits.held;
      jobs = λ q h. ⊎_elim
          (λ (e : q ≡ p). subst (λ x. PartyOk (changed s row' current' links' p q') x (get_or (set s.parties p q') x nobody)) (sym e) (subst (PartyOk (changed s row' current' links' p q') p) (sym (get_or-set_same s.parties p q' nobody in_parties)) fits.job))
          (λ (ne : q ≡ p → ⊥). subst (PartyOk (changed s row' current' links' p q') q) (sym (get_or-set_other s.parties p q q' nobody ne)) (record { size = (ok.jobs q h).size; task = job_kept q h ne (party s q).job (ok.jobs q h).task }))
          (cases_eq q p);
    }
