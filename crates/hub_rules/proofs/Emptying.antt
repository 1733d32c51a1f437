-- All links of a party emptied, exactly and in the model.
use Rattle.std.proofs.Common.{◌≡◌, ℕ, zero, suc, ◌<◌, ◌≤◌, ◌≢◌, length, refl, ap, ◌∙◌, arith, length-set, get_or-set_other, get_or-set_same}
use Rattle.std.proofs.lemmas.Bool.{lt-ltb}
use Rattle.reading.specs.Kinds.{KindOf}
use Rattle.plan.specs.declared.check.Plan.{Plan}
use Rattle.plan.specs.Plans.{width}
use Rattle.shelf.specs.Meaning.{flat, vacant, idle, Meaning, link_at, activity_of, linking}
use Rattle.shelf.specs.Rules.{Rules}
use Rattle.std.specs.List.{AllByRecursion}
use Rattle.shelf.proofs.Passing.{Passed, passes}
use Rattle.shelf.proofs.After.{own_flat}
use Rattle.shelf.specs.Calls as C
use Rattle.shelf.specs.Calls.{is_idle}
use Rattle.history.proofs.Shelf.{rests, Shelf}
use Rattle.history.proofs.Hub.{cleared}
use Rattle.history.proofs.Basics.{updated_same, updated_other, at_party}
use Rattle.hub_rules.specs.Hub.{emptied}
use Rattle.hub_rules.proofs.Links.{flat_below, flat_apart, flat_other}
use Rattle.hub_rules.proofs.Match.{DoesAs, Shelved}
use Rattle.hub_rules.proofs.Turning.{job_idle}

module _ {R : Type 0} (kind : KindOf R) (rules : Rules R) (pl : Plan) (w : ℕ) (s : rules.State) (m : Shelf R) (ok : Shelved rules pl w s m)
    (p : ℕ) (in_p : p < pl.parties) (free : activity_of (rules.means s) p ≡ idle) where
  abbrev M : Meaning R
  M = rules.means s

  -- the links below n of party p are empty, all else is as it was
  record Emptied (n : ℕ) (t : rules.State) : Type 0 where
    sound : rules.sound t
    plan : rules.plan t ≡ pl
    patience : rules.patience t ≡ w
    left : (q : ℕ) → q ≢ p → q < pl.parties → rules.left t q ≤ rules.left s q
    readings : (rules.means t).readings ≡ M.readings
    activities : (rules.means t).activities ≡ M.activities
    size : length (rules.means t).links ≡ width pl
    gone : (i : ℕ) → i < n → link_at (rules.means t) (flat pl p i) ≡ vacant
    kept : (q i : ℕ) → q ≢ p → i < pl.links → link_at (rules.means t) (flat pl q i) ≡ link_at M (flat pl q i)

  one_more : (n : ℕ) (t : rules.State) → n < pl.links → Emptied n t → Emptied (suc n) (C.after rules t (C.Drop p n))
  one_more n t in_n E =
      let in_plan : p < (rules.plan t).parties = rw E.plan in_p in
      let in_links : n < (rules.plan t).links = rw E.plan in_n in
      let free' : activity_of (rules.means t) p ≡ idle = rw E.activities free in
      let law = rules.drops t p (flat (rules.plan t) p n) E.sound in_plan (own_flat (rules.plan t) p n in_links) free' in
      let e_m : rules.means (rules.dropped t p (flat (rules.plan t) p n)) ≡ linking (rules.means t) (flat pl p n) vacant = law.1 ∙ rw E.plan refl in
      let tests : AllByRecursion Passed (C.tests_of (rules.plan t) (rules.means t) (C.Drop p n)) = (lt-ltb _ _ in_plan, (ap is_idle free', (lt-ltb _ _ in_links, tt))) in
      rw (passes (C.tests_of (rules.plan t) (rules.means t) (C.Drop p n)) (rules.dropped t p (flat (rules.plan t) p n)) tests)
      (record {
        sound = law.0.sound';
        plan = law.0.plan' ∙ E.plan;
        patience = law.0.patience' ∙ E.patience;
        left = λ q ne h. let a = law.0.left' q ne (rw E.plan h) in let b = E.left q ne h in omega arith;
        readings = rw e_m E.readings;
        activities = rw e_m E.activities;
        size = rw e_m (length-set (rules.means t).links (flat pl p n) vacant ∙ E.size);
        gone = at_party n (λ i. i < suc n → link_at (rules.means (rules.dropped t p (flat (rules.plan t) p n))) (flat pl p i) ≡ vacant)
            (λ h. rw e_m (get_or-set_same (rules.means t).links (flat pl p n) vacant vacant (let a = E.size in let b = flat_below pl p n in_p in_n in omega arith)))
            (λ i ne h. rw (e_m, get_or-set_other (rules.means t).links (flat pl p n) (flat pl p i) vacant vacant (flat_other pl p n i ne)) (E.gone i (omega (arith, ne))));
        kept = λ q i ne h. rw (e_m, get_or-set_other (rules.means t).links (flat pl p n) (flat pl q i) vacant vacant (flat_apart pl p q n i ne in_n h)) (E.kept q i ne h);
      })

  all_emptied : (n : ℕ) → n ≤ pl.links → Emptied n (emptied kind rules s p n)
  all_emptied zero h = record {
    sound = ok.sound;
    plan = ok.plan;
    patience = ok.patience;
    left = λ q ne h. omega arith;
    readings = refl;
    activities = refl;
    size = ok.fits.sizes.links;
    gone = λ i h. absurd (omega arith);
    kept = λ q i ne h. refl;
  }
  all_emptied (suc n) h = one_more n (emptied kind rules s p n) (omega arith) (all_emptied n (omega arith))

  -- the model's party with all links empty
  pub cleared_matched : Shelved rules pl w (emptied kind rules s p pl.links) (cleared m p)
  cleared_matched =
      let t = emptied kind rules s p pl.links in
      let E = all_emptied pl.links (omega arith) in
      let jobs : m.job p ≡ rests = job_idle pl p (m.link p) (activity_of M p) (m.job p) (ok.fits.activities p in_p) free in
      let activity_same : (q : ℕ) → activity_of (rules.means t) q ≡ activity_of M q = λ q. rw E.activities refl in
      record {
        sound = E.sound;
        plan = E.plan;
        patience = E.patience;
        fits = record {
          sizes = record { readings = ap length E.readings ∙ ok.fits.sizes.readings; links = E.size; activities = ap length E.activities ∙ ok.fits.sizes.activities };
          readings = λ c h. rw E.readings (ok.fits.readings c h);
          links = at_party p (λ q. (i : ℕ) → q < pl.parties → i < pl.links → link_at (rules.means t) (flat pl q i) ≡ (cleared m p).link q i)
              (λ i a b. rw updated_same (E.gone i b))
              (λ q ne i a b. rw (updated_other m.link p (λ j. vacant) q ne) (E.kept q i ne b ∙ ok.fits.links q i a b));
          activities = at_party p (λ q. q < pl.parties → DoesAs pl q ((cleared m p).link q) (activity_of (rules.means t) q) (m.job q))
              (λ h. rw jobs (activity_same p ∙ free))
              (λ q ne h. rw (updated_other m.link p (λ j. vacant) q ne, activity_same q) (ok.fits.activities q h));
        };
        left = at_party p (λ q. q < pl.parties → activity_of (rules.means t) q ≢ idle → rules.left t q ≤ suc (m.left q))
            (λ h b. absurd (b (activity_same p ∙ free)))
            (λ q ne h b. let a = E.left q ne h in let k = ok.left q h (λ e. b (activity_same q ∙ e)) in omega arith);
      }
