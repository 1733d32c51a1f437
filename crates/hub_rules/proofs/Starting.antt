-- A hub's turn starts the shelf operation that its party is at, exactly and in the model.
use Rattle.std.proofs.Common.{◌≡◌, ℕ, suc, ◌-◌, ◌<◌, ◌≤◌, true, false, ◌≢◌, get_or, refl, ap, ◌∙◌, arith, length-set}
use Rattle.std.proofs.lemmas.Bool.{lt-ltb, cond-false}
use Rattle.reading.specs.Kinds.{KindOf}
use Rattle.plan.specs.declared.check.Plan.{Plan}
use Rattle.shelf.specs.Meaning.{flat, Link, vacant, holds, Operation, take, put, check, Activity, idle, waits, in_force, Meaning, link_at, activity_of, does, linking}
use Rattle.shelf.specs.Rules.{Rules, Keeps}
use Rattle.std.specs.List.{AllByRecursion}
use Rattle.shelf.proofs.Passing.{Passed, passes}
use Rattle.shelf.proofs.After.{own_flat}
use Rattle.shelf.specs.Calls as C
use Rattle.shelf.specs.Calls.{is_idle, is_vacant, reading_on}
use Rattle.history.specs.Board.{updated, amendment, picture}
use Rattle.history.proofs.Shelf.{rests, awaits, Shelf, set_link, Starts, start_take, start_put, start_check}
use Rattle.history.proofs.Hub as N
use Rattle.history.proofs.Hub.{Wants, want_take, want_put, want_check, Begun, begun_before, begun_now}
use Rattle.history.proofs.Fitting.{Ready, CanBegin}
use Rattle.history.proofs.Basics.{updated_same, updated_other, at_party}
use Rattle.hub_rules.specs.declared.parts.ChannelList.{ChannelList}
use Rattle.hub_rules.specs.declared.parts.Party.{Party}
use Rattle.hub_rules.specs.declared.parts.Party.TheVariants.{Idle, AmendmentTake, AmendmentPut, PictureTake, PictureCheck}
use Rattle.hub_rules.specs.Hub.{channels_of, taken_by, started, begun}
use Rattle.hub_rules.proofs.Match.{order_of, stage_of, flat_operation, CanWait, Fits, Shelved, does_at, link_is}
use Rattle.hub_rules.proofs.Force.{redo, relink, relink_ready}
use Rattle.hub_rules.proofs.Turning.{busy_back, job_idle}

module _ {R : Type 0} (kind : KindOf R) (rules : Rules R) (pl : Plan) (w : ℕ) where
  pub record BegunMatched (s : rules.State) (m : Shelf R) (p : ℕ) (y : Party) : Type 0 where
    pub then : Shelf R
    pub begins : Begun kind.amended w m p (order_of y) (stage_of y) then
    pub shelved : Shelved rules pl w (begun kind rules s p y) then
    pub busy : activity_of (rules.means (begun kind rules s p y)) p ≢ idle

  module _ (s : rules.State) (m : Shelf R) (ok : Shelved rules pl w s m) (p : ℕ) (in_p : p < pl.parties) where
    abbrev M : Meaning R
    M = rules.means s

    in_plan : p < (rules.plan s).parties
    in_plan = rw ok.plan in_p

    in_links : (i : ℕ) → i < pl.links → i < (rules.plan s).links
    in_links i h = rw ok.plan h

    in_channels : (c : ℕ) → c < pl.channels → c < (rules.plan s).channels
    in_channels c h = rw ok.plan h

    -- a state in which party p's operation has started
    started_shelved : (t : rules.State) (a : Operation R) (link' : ℕ → ℕ → Link R) → Keeps rules.State rules.plan rules.patience rules.sound rules.left p s t
        → Fits rules.blank pl (rules.means t) m.reading link' (updated m.job p (awaits a))
        → Shelved rules pl w t (record { reading = m.reading; link = link'; job = updated m.job p (awaits a); left = updated m.left p (rules.left t p - 1) })
    started_shelved t a link' k F = record {
      sound = k.sound';
      plan = k.plan' ∙ ok.plan;
      patience = k.patience' ∙ ok.patience;
      fits = F;
      left = at_party p (λ q. q < pl.parties → activity_of (rules.means t) q ≢ idle → rules.left t q ≤ suc (updated m.left p (rules.left t p - 1) q))
          (λ h b. let e = updated_same m.left p (rules.left t p - 1) in omega arith)
          (λ q ne h b.
          let e = updated_other m.left p (rules.left t p - 1) q ne in
          let l = k.left' q ne (rw ok.plan h) in
          let l' = ok.left q h (busy_back pl q (m.link q) (link' q) (activity_of M q) (activity_of (rules.means t) q) (m.job q) (ok.fits.activities q h)
          (does_at F q (m.job q) h (updated_other m.job p (awaits a) q ne)) b) in
          omega arith);
    }

    within : (t : rules.State) → Keeps rules.State rules.plan rules.patience rules.sound rules.left p s t → rules.left t p - 1 ≤ w
    within t k =
        let l = rules.most t p k.sound' (rw k.plan' in_plan) in
        let e = k.patience' ∙ ok.patience in
        omega arith

    busy_now : (t : rules.State) (a : Operation R) (link' : ℕ → ℕ → Link R) → Fits rules.blank pl (rules.means t) m.reading link' (updated m.job p (awaits a)) → activity_of (rules.means t) p ≢ idle
    busy_now t a link' F e =
        let d = does_at F p (awaits a) in_p (updated_same m.job p (awaits a)) in
        let d0 = d.0 in cc

    module _ (free : activity_of M p ≡ idle) where
      idle_true : is_idle (activity_of M p) ≡ true
      idle_true = ap is_idle free

      idle_job : m.job p ≡ rests
      idle_job = job_idle pl p (m.link p) (activity_of M p) (m.job p) (ok.fits.activities p in_p) free

      -- the start in the model, from the start exactly
      begin : (y : Party) (a : Operation R) (link' : ℕ → ℕ → Link R) (t : rules.State) → begun kind rules s p y ≡ t
          → Wants kind.amended (m.link p) (order_of y) (stage_of y) a → Starts m.link p a link' → Keeps rules.State rules.plan rules.patience rules.sound rules.left p s t
          → Fits rules.blank pl (rules.means t) m.reading link' (updated m.job p (awaits a)) → BegunMatched s m p y
      begin y a link' t e W St k F = record {
        then = record { reading = m.reading; link = link'; job = updated m.job p (awaits a); left = updated m.left p (rules.left t p - 1) };
        begins = begun_now a (rules.left t p - 1) link' idle_job W St (within t k);
        shelved = rw e (started_shelved t a link' k F);
        busy = rw e (busy_now t a link' F);
      }

      -- what the hub starts, where the shelf accepts it
      started_is : (k : C.Call R) → AllByRecursion Passed (C.tests_of (rules.plan s) M k) → started kind rules s p k ≡ C.state_after rules s k
      started_is k t =
          rw (idle_true, passes (C.tests_of (rules.plan s) M k) (C.state_after rules s k) t) refl

      full : (i : ℕ) → i < pl.links → (rd : Ready (m.link p i)) → link_at M (flat (rules.plan s) p i) ≡ holds rd.channel rd.reading rd.is_live
      full i in_i rd = link_is ok p i in_p in_i ∙ rd.is

      not_vacant : (i : ℕ) → i < pl.links → Ready (m.link p i) → link_at M (flat (rules.plan s) p i) ≢ vacant
      not_vacant i in_i rd z = let f = full i in_i rd in cc

      -- the meaning with party p's operation waiting
      waiting : (a : Operation R) → CanWait pl (m.link p) a → Fits rules.blank pl (does M p (waits (flat_operation pl p a))) m.reading m.link (updated m.job p (awaits a))
      waiting a act = record {
        sizes = record { readings = ok.fits.sizes.readings; links = ok.fits.sizes.links; activities = length-set M.activities p _ ∙ ok.fits.sizes.activities };
        readings = ok.fits.readings;
        links = ok.fits.links;
        activities = redo rules.blank pl m.link m.link m.job p (waits (flat_operation pl p a)) (awaits a) M.activities in_p ok.fits.sizes.activities (λ q ne h. ok.fits.activities q h) (λ q ne i r. r) (refl, act);
      }

      taking_link : (i c : ℕ) → i < pl.links → c < pl.channels → Fits rules.blank pl (does (linking M (flat pl p i) vacant) p (waits (take (flat pl p i) c))) m.reading (set_link m.link p i vacant) (updated m.job p (awaits (take i c)))
      taking_link i c in_i in_c = record {
        sizes = record { readings = ok.fits.sizes.readings; links = length-set M.links (flat pl p i) vacant ∙ ok.fits.sizes.links; activities = length-set M.activities p _ ∙ ok.fits.sizes.activities };
        readings = ok.fits.readings;
        links = relink rules.blank pl M m.link p i vacant ok.fits.sizes in_p in_i ok.fits.links;
        activities = redo rules.blank pl m.link (set_link m.link p i vacant) m.job p (waits (take (flat pl p i) c)) (awaits (take i c)) M.activities in_p ok.fits.sizes.activities (λ q ne h. ok.fits.activities q h)
            (relink_ready rules.blank pl m.link p i vacant) (refl, (in_i, in_c));
      }

      take_tests : (i c : ℕ) → i < pl.links → c < pl.channels → AllByRecursion Passed (C.tests_of (rules.plan s) M (C.Take p i c))
      take_tests i c in_i in_c = (lt-ltb _ _ in_plan, (idle_true, (lt-ltb _ _ (in_links i in_i), (lt-ltb _ _ (in_channels c in_c), tt))))

      -- those of a put, a check and a look
      full_tests : (i : ℕ) → i < pl.links → Ready (m.link p i) → AllByRecursion Passed (C.tests_of (rules.plan s) M (C.Check p i))
      full_tests i in_i rd = (lt-ltb _ _ in_plan, (idle_true, (lt-ltb _ _ (in_links i in_i), (rw (full i in_i rd) refl, tt))))

      begin_take : (y : Party) (j c : ℕ) → begun kind rules s p y ≡ started kind rules s p (C.Take p j c) → Wants kind.amended (m.link p) (order_of y) (stage_of y) (take j c)
          → j < pl.links → c < pl.channels → BegunMatched s m p y
      begin_take y j c e W in_j in_c =
          let law = rules.takes s p (flat (rules.plan s) p j) c ok.sound in_plan (own_flat (rules.plan s) p j (in_links j in_j)) (in_channels c in_c) free in
          begin y (take j c) (set_link m.link p j vacant) (rules.start_take s p (flat (rules.plan s) p j) c)
          (e ∙ started_is (C.Take p j c) (take_tests j c in_j in_c)) W (start_take j c) law.0
          (rw (law.1, ok.plan) (taking_link j c in_j in_c))

      taken_is : (rd : Ready (m.link p 0)) → 0 < pl.links → taken_by kind rules s p ≡ rd.reading
      taken_is rd in_0 =
          rw (passes (C.tests_of (rules.plan s) M (C.Look p 0)) (reading_on rules.blank (link_at M (flat (rules.plan s) p 0))) (full_tests 0 in_0 rd), full 0 in_0 rd) refl

      begin_put : (c v : ℕ) → 0 < pl.links → Ready (m.link p 0) → BegunMatched s m p (AmendmentPut c v)
      begin_put c v in_0 rd =
          let value = kind.amended rd.reading v in
          let law = rules.puts s p (flat (rules.plan s) p 0) value ok.sound in_plan (own_flat (rules.plan s) p 0 (in_links 0 in_0)) free (not_vacant 0 in_0 rd) in
          begin (AmendmentPut c v) (put 0 value) m.link (rules.start_put s p (flat (rules.plan s) p 0) value)
          (ap (λ (r : R). started kind rules s p (C.Put p 0 (kind.amended r v))) (taken_is rd in_0) ∙ started_is (C.Put p 0 value) (full_tests 0 in_0 rd))
          (want_put c v rd.channel rd.reading rd.is_live rd.is) (start_put 0 value rd.channel rd.reading rd.is_live rd.is) law.0
          (rw (law.1, ok.plan) (waiting (put 0 value) (in_0, rd)))

      begin_check : (l : ChannelList) (j : ℕ) → j < pl.links → Ready (m.link p j) → BegunMatched s m p (PictureCheck l j)
      begin_check l j in_j rd =
          let law = rules.checks s p (flat (rules.plan s) p j) ok.sound in_plan (own_flat (rules.plan s) p j (in_links j in_j)) free (not_vacant j in_j rd) in
          begin (PictureCheck l j) (check j) m.link (rules.start_check s p (flat (rules.plan s) p j))
          (started_is (C.Check p j) (full_tests j in_j rd))
          (want_check (channels_of l) j) (start_check j rd.channel rd.reading rd.is_live rd.is) law.0
          (rw (law.1, ok.plan) (waiting (check j) (in_j, rd)))

    module _ (plan : N.Plan) (same_links : plan.links ≡ pl.links) (same_channels : plan.channels ≡ pl.channels) where
      begin_free : (y : Party) → activity_of M p ≡ idle → CanBegin plan (m.link p) (order_of y) (stage_of y) → BegunMatched s m p y
      begin_free Idle free b = absurd b
      begin_free (AmendmentTake c v) free b = begin_take free (AmendmentTake c v) 0 c refl (want_take (amendment c v) 0) (let u = b.0 in let v = b.1 in omega arith) (let u = b.2 in omega arith)
      begin_free (AmendmentPut c v) free b = begin_put free c v (let u = b.1 in omega arith) b.0
      begin_free (PictureTake l i) free b =
          begin_take free (PictureTake l i) i (get_or (channels_of l) i 0) refl (want_take (picture (channels_of l)) i) (let u = b.0 in let v = b.1 in omega arith) (let u = b.2 in omega arith)
      begin_free (PictureCheck l i) free b = begin_check free l i (let u = b.1 in omega arith) b.0

      -- an operation runs already
      running_stays : (y : Party) → is_idle (activity_of M p) ≡ false → begun kind rules s p y ≡ s
      running_stays Idle e = refl
      running_stays (AmendmentTake c v) e = cond-false _ _ _ e
      running_stays (AmendmentPut c v) e = cond-false _ _ _ e
      running_stays (PictureTake l i) e = cond-false _ _ _ e
      running_stays (PictureCheck l i) e = cond-false _ _ _ e

      begin_busy : (y : Party) → activity_of M p ≢ idle → is_idle (activity_of M p) ≡ false → BegunMatched s m p y
      begin_busy y busy e =
          record {
            then = m;
            begins = begun_before (λ k. busy (does_at ok.fits p rests in_p k));
            shelved = rw (running_stays y e) ok;
            busy = rw (running_stays y e) busy;
          }

      by_activity : (d : Activity R) → activity_of M p ≡ d → (y : Party) → CanBegin plan (m.link p) (order_of y) (stage_of y) → BegunMatched s m p y
      by_activity idle e y b = begin_free y e b
      by_activity (waits x) e y b = begin_busy y (λ k. cc) (ap is_idle e)
      by_activity (in_force x) e y b = begin_busy y (λ k. cc) (ap is_idle e)

      pub begun_matched : (y : Party) → CanBegin plan (m.link p) (order_of y) (stage_of y) → BegunMatched s m p y
      begun_matched y b = by_activity (activity_of M p) refl y b
