-- What starting, dropping and looking mean.
use Rattle.std.proofs.Common.{◌≡◌, ℕ, ◌<◌, ◌≤◌, eqb, ◌≢◌, List, [], ◌∷◌, map, length, get_or, set, sym, refl, ap, ◌∙◌, subst, ⊎_elim, arith, Some, None, Option}
use Rattle.std.proofs.lemmas.List.{get_or-set_same, get_or-set_other, map-set}
use Rattle.std.proofs.lemmas.List.Sums.{get_or-le-sum_by}
use Rattle.std.proofs.lemmas.Bool.{cases_eq}
use Rattle.std.proofs.lemmas.Bool.Decides.{nat_tests}
use Rattle.plan.specs.Plans.{width, need}
use Rattle.plan.specs.declared.check.ShelfType.TheVariants.{Block}
use Rattle.shelf.specs.Meaning.{vacant, holds, put, check, waits, does, linking, take as take_op}
use Rattle.block_rules.specs.declared.parts.Access.TheVariants.{ReadCurrent, SetGuard, Compare, ReadBlock}
use Rattle.block_rules.specs.declared.parts.Job.{Job}
use Rattle.block_rules.specs.declared.parts.Job.TheVariants.{Idle, Taking, Putting, Scanning, Checking}
use Rattle.block_rules.specs.Blocks.{in_hand, State, unused, nobody, link, party, current_of, with_job, emptied, start_take, taken_up, put_from, start_put, start_check, dropped}
use Rattle.block_rules.specs.Counting.{same, times, stands_with, standings, free}
use Rattle.block_rules.specs.Sound.{Sound}
use Rattle.block_rules.specs.Means.{link_of, link_from, activity_in, activity_from, reading_in, means}
use Rattle.block_rules.proofs.Counts.{same_self, times_cons, times_one, times_at, two_le_sum_by}
use Rattle.block_rules.proofs.Frame.{current_not_with, free_with_lem, sound_once}
use Rattle.block_rules.proofs.Steps.{task_at}
use Rattle.block_rules.proofs.Turning.{map_like, same_meaning}

module _ {R : Type 0} (d : R) (s : State R) (ok : Sound s) (p : ℕ) (in_p : p < s.plan.parties) (rests : (party s p).job ≡ Idle) where
  in_parties : p < length s.parties
  in_parties = omega (arith, ok.parties)

  module _ (h : ℕ) (rest : List ℕ) (top : (party s p).ready ≡ h ∷ rest) where
    -- the top ready block stands with p
    with_p : 1 ≤ times h (party s p).ready
    with_p = omega (arith, ap (times h) top, times_cons h h rest, same_self h)

    pub top_known : h < need Block s.plan
    unfolding standings
    top_known = grind (arith, ok.once h, get_or-le-sum_by (stands_with h) s.parties p nobody in_parties, with_p, nat_tests)

    not_current : (c : ℕ) → c < length s.current → current_of s c ≢ h
    not_current c hc e = omega (arith, current_not_with s h (sound_once s ok h) p in_parties (subst (λ b. 1 ≤ times b s.current) e (times_at s.current c hc)), with_p)

    pub not_seen : (i c : ℕ) → i < width s.plan → (link s i).hold ≡ Some c → (link s i).seen ≢ h
    not_seen i c hi on_c e = omega (arith, subst (λ b. free s b ≡ 0) e (ok.held i hi c on_c).not_free, free_with_lem s h (sound_once s ok h) p in_parties, with_p)

    not_in_hand : (q j g : ℕ) → q < length s.parties → (party s q).job ≡ Putting j g → g ≢ h
    unfolding standings
    not_in_hand q j g hq e is = ⊎_elim
        (λ (same_party : q ≡ p). let z : ◌≡◌ {A = ℕ} 0 1 = go (sym rests ∙ (ap (λ x. (party s x).job) (sym same_party) ∙ e)) in omega arith)
        (λ (ne : q ≡ p → ⊥). omega (arith, sound_once s ok h, two_le_sum_by (stands_with h) s.parties q p nobody hq in_parties ne, with_p, ap (λ y. times h (in_hand y)) e, times_one h g, ap (same h) is, same_self h))
        (cases_eq q p)
      where
        go : Idle ≡ Putting j g → ◌≡◌ {A = ℕ} 0 1
        go k = cc

    row' : R → List R
    row' r = set s.row h r

    activity_same : (r : R) (q : ℕ) → q < length s.parties → (job : Job) → (party s q).job ≡ job → activity_in d (set s.row h r) job ≡ activity_in d s.row job
    activity_same r q hq Idle e = refl
    activity_same r q hq (Taking j c ReadCurrent) e = refl
    activity_same r q hq (Taking j c SetGuard) e = refl
    activity_same r q hq (Taking j c Compare) e = refl
    activity_same r q hq (Taking j c ReadBlock) e = refl
    activity_same r q hq (Putting j g) e = ap (λ x. waits (put j x)) (get_or-set_other s.row h g r d (not_in_hand q j g hq e))
    activity_same r q hq (Scanning j k) e = refl
    activity_same r q hq (Checking j) e = refl

    link_same : (r : R) (i : ℕ) → i < width s.plan → (st : Option ℕ) → (link s i).hold ≡ st → link_of d (set s.row h r) s.current (link s i).seen st ≡ link_of d s.row s.current (link s i).seen st
    link_same r i hi None e = refl
    link_same r i hi (Some c) e = ap (λ x. holds c x (eqb (get_or s.current c 0) (link s i).seen)) (get_or-set_other s.row h (link s i).seen r d (not_seen i c hi e))

    put_means : (j : ℕ) (r : R) → means d (put_from s p j r (h ∷ rest)) ≡ does (means d s) p (waits (put j r))
    put_means j r = same_meaning _ _ _ _ _ _
        (map_like (reading_in d (set s.row h r)) (reading_in d s.row) 0 s.current (λ c hc. get_or-set_other s.row h (current_of s c) r d (not_current c hc)))
        (map_like (link_from d (set s.row h r) s.current) (link_from d s.row s.current) unused s.links (λ i hi. link_same r i (omega (arith, hi, ok.links)) (link s i).hold refl))
        (map-set (activity_from d (set s.row h r)) s.parties p (taken_up (party s p) j h rest)
        ∙ (ap (λ x. set (map (activity_from d (set s.row h r)) s.parties) p (waits (put j x))) (get_or-set_same s.row h r d (omega (arith, top_known, ok.rows)))
        ∙ ap (λ xs. set xs p (waits (put j r))) (map_like (activity_from d (set s.row h r)) (activity_from d s.row) nobody s.parties (λ q hq. activity_same r q hq (party s q).job refl))))

  means_put_from : (j : ℕ) (r : R) (xs : List ℕ) → (party s p).ready ≡ xs → means d (put_from s p j r xs) ≡ does (means d s) p (waits (put j r))
  means_put_from j r [] e = absurd (omega (arith, ap length e, task_at s ok p in_p Idle rests))
  means_put_from j r (h ∷ rest) e = put_means h rest e j r

pub means_take : {R : Type 0} (d : R) (s : State R) (p j c : ℕ) → means d (start_take s p j c) ≡ does (linking (means d s) j vacant) p (waits (take_op j c))
means_take d s p j c = same_meaning _ _ _ _ _ _ refl (map-set (link_from d s.row s.current) s.links j (emptied (link s j))) (map-set (activity_from d s.row) s.parties p (with_job (party s p) (Taking j c ReadCurrent)))

pub means_put : {R : Type 0} (d : R) (s : State R) → Sound s → (p : ℕ) → p < s.plan.parties → (party s p).job ≡ Idle → (j : ℕ) (r : R) → means d (start_put s p j r) ≡ does (means d s) p (waits (put j r))
means_put d s ok p in_p rests j r = means_put_from d s ok p in_p rests j r (party s p).ready refl

pub means_check : {R : Type 0} (d : R) (s : State R) (p j : ℕ) → means d (start_check s p j) ≡ does (means d s) p (waits (check j))
means_check d s p j = same_meaning _ _ _ _ _ _ refl refl (map-set (activity_from d s.row) s.parties p (with_job (party s p) (Checking j)))

pub means_drop : {R : Type 0} (d : R) (s : State R) (j : ℕ) → means d (dropped s j) ≡ linking (means d s) j vacant
means_drop d s j = same_meaning _ _ _ _ _ _ refl (map-set (link_from d s.row s.current) s.links j (emptied (link s j))) refl
