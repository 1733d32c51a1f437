-- What a party holds reads the same until its next accepted order or its release.
use Rattle.std.proofs.Common.{◌≡◌, ℕ, suc, ◌<◌, Bool, true, not, ◌≢◌, List, [], ◌∷◌, ◌++◌, length, sym, refl, ap, ◌∙◌, arith}
use mathlib.Core.Option.{Option, none, some}
use Rattle.std.proofs.lemmas.Bool.{ltb-true, and_parts}
use Rattle.plan.specs.Refusals.{Outcome, accepted, refused}
use Rattle.plan.specs.Plans.{InRange}
use Rattle.plan.specs.declared.check.Plan.{Plan}
use Rattle.reading.specs.Kinds.{KindOf}
use Rattle.shelf.specs.Meaning.{flat, Link, vacant, holds, Operation, link_at, activity_of, break_on}
use Rattle.shelf.specs.Rules.{Rules}
use Rattle.shelf.specs.Calls.{is_idle, is_vacant, reading_on}
use Rattle.shelf.proofs.Passing.{accepted_passed}
use Rattle.shelf.proofs.After.{idle_is}
use Rattle.history.specs.Board.{updated, Order, amendment, picture}
use Rattle.history.proofs.Shelf.{Said, rests, awaits, Shelf, Starts, start_take, start_put, start_check, Forces, force_take, force_put, force_miss, force_live, force_broken, Turn as ModelTurn, turn_still, turn_force, turn_end, turn_both}
use Rattle.history.proofs.Hub as N
use Rattle.history.proofs.Hub.{Stage, Task, free, doing, Begun, begun_before, begun_now, Step, step_order, step_run, step_next, step_done, step_release, step_nothing, Past, after_that}
use Rattle.history.proofs.Basics.{updated_other}
use Rattle.hub_rules.specs.declared.parts.Progress.{Progress}
use Rattle.hub_rules.specs.declared.parts.Progress.TheVariants.{Run, Done}
use Rattle.hub_rules.specs.Hub.{Call, Amendment, Picture, Turn, Release, Look, Hub, is_free, party_of, tests_of, after, granted, turn_answer, looked, after_all, made_on}
use Rattle.hub_rules.specs.Law.{call_at, AcceptedAt, Empties, HoldingsStay}
use Rattle.hub_rules.proofs.Match.{task_of, Matches, does_at, link_is}
use Rattle.hub_rules.proofs.Turning.{job_idle}
use Rattle.hub_rules.proofs.Stages.{free_from, task_free}
use Rattle.hub_rules.proofs.Hearing.{order_event, turn_event, release_event, event_of}
use Rattle.hub_rules.proofs.Stepping.{look_accepted, stepped}
use Rattle.hub_rules.proofs.Running.{plan, range, runs}

-- ** in the model

not_busy : (p : ℕ) (task : ℕ → Task) (q : ℕ) (o : Order) (st : Stage) → task p ≡ free → task q ≡ doing o st → p ≢ q
not_busy p task q o st a b e = cc

module _ {R : Type 0} where
  -- what a look at a link shows, if anything
  abbrev shown : Link R → Option R
  shown vacant = none
  shown (holds c r b) = some r

  shown_break : (c : ℕ) (l : Link R) → shown (break_on c l) ≡ shown l
  shown_break c vacant = refl
  shown_break c (holds d r b) = refl

  -- the event is no order and no release of party p
  abbrev NotBy : ℕ → N.Event R → Type 0
  NotBy p (N.ordered q o) = p ≢ q
  NotBy p (N.run q f) = Unit {0}
  NotBy p (N.done q f a) = Unit {0}
  NotBy p (N.released q) = p ≢ q
  NotBy p N.nothing = Unit {0}

  module _ (p i : ℕ) where
    -- party p's link shows what it showed, and its job is as it was
    record Same (m n : Shelf R) : Type 0 where
      shows : shown (n.link p i) ≡ shown (m.link p i)
      job : n.job p ≡ m.job p

    other_link : (link : ℕ → ℕ → Link R) (q : ℕ) (f : ℕ → Link R) → p ≢ q → updated link q f p i ≡ link p i
    other_link link q f ne = ap (λ (g : ℕ → Link R). g i) (updated_other link q f p ne)

    starts_same : {link : ℕ → ℕ → Link R} {q : ℕ} {a : Operation R} {link' : ℕ → ℕ → Link R} → p ≢ q → Starts link q a link' → shown (link' p i) ≡ shown (link p i)
    starts_same {link} {q} ne (start_take j c) = ap shown (other_link link q (updated (link q) j vacant) ne)
    starts_same ne (start_put j v c r b e) = refl
    starts_same ne (start_check j c r b e) = refl

    begun_same : (amended : R → ℕ → R) (w : ℕ) (m : Shelf R) (q : ℕ) (o : Order) (st : Stage) {n : Shelf R} → p ≢ q → Begun amended w m q o st n → Same m n
    begun_same amended w m q o st ne (begun_before h) = record { shows = refl; job = refl }
    begun_same amended w m q o st ne (begun_now a n link' e_j W St l) = record { shows = starts_same ne St; job = updated_other m.job q (awaits a) p ne }

    force_same : (m : Shelf R) (q : ℕ) (a : Operation R) {f : Option ℕ} {sd : Said} {r : ℕ → R} {l : ℕ → ℕ → Link R} → p ≢ q → Forces m q a f sd r l → shown (l p i) ≡ shown (m.link p i)
    force_same m q a ne (force_take j c) = ap shown (other_link m.link q _ ne)
    force_same m q a ne (force_put j c v r e) = shown_break c (m.link p i)
    force_same m q a ne (force_miss j c v r e) = refl
    force_same m q a ne (force_live j c r e) = refl
    force_same m q a ne (force_broken j c r e) = refl

    turn_same : (w : ℕ) (m : Shelf R) (q : ℕ) {f : Option ℕ} {x : Option Said} {n : Shelf R} → p ≢ q → ModelTurn w m q f x n → Same m n
    turn_same w m q ne (turn_still n l h) = record { shows = refl; job = refl }
    turn_same w m q ne (turn_force a f sd r l left' e_j F b ot) = record { shows = force_same m q a ne F; job = updated_other m.job q _ p ne }
    turn_same w m q ne (turn_end a sd e_j) = record { shows = refl; job = updated_other m.job q _ p ne }
    turn_same w m q ne (turn_both a f sd r l left' e_j F b ot) = record { shows = force_same m q a ne F; job = updated_other m.job q _ p ne }

    both : {m n k : Shelf R} → Same m n → Same n k → Same m k
    both a b = record { shows = b.shows ∙ a.shows; job = b.job ∙ a.job }

    module _ (blank : R) (amended : R → ℕ → R) (pl : N.Plan) (h : N.Hub R) (e : h.task p ≡ free) where
      -- a turn of another party
      turned_same : (q : ℕ) (o : Order) (s : Stage) {m n : Shelf R} {f : Option ℕ} {x : Option Said} → h.task q ≡ doing o s → Begun amended pl.patience h.shelf q o s m → ModelTurn pl.patience m q f x n → Same h.shelf n
      turned_same q o s {m} b c d = let ne = not_busy p h.task q o s e b in both (begun_same amended pl.patience h.shelf q o s ne c) (turn_same pl.patience m q ne d)

      step_same : {n : N.Event R} {h' : N.Hub R} → NotBy p n → Step blank amended pl h n h' → Same h.shelf h'.shelf
      step_same nb (step_order q o a b c) = record { shows = ap shown (other_link h.shelf.link q (λ j. vacant) nb); job = refl }
      step_same nb (step_run q o s m n f a b c d) = turned_same q o s b c d
      step_same nb (step_next q o s s' m n f sd a b c d x) = turned_same q o s b c d
      step_same nb (step_done q o s m n f sd a b c d x) = turned_same q o s b c d
      step_same nb (step_release q a b) = record { shows = ap shown (other_link h.shelf.link q (λ j. vacant) nb); job = refl }
      step_same nb step_nothing = record { shows = refl; job = refl }

      step_free : {n : N.Event R} {h' : N.Hub R} → NotBy p n → Step blank amended pl h n h' → h'.task p ≡ free
      step_free nb (step_order q o a b c) = updated_other h.task q _ p nb ∙ e
      step_free nb (step_run q o s m n f a b c d) = e
      step_free nb (step_next q o s s' m n f sd a b c d x) = updated_other h.task q _ p (not_busy p h.task q o s e b) ∙ e
      step_free nb (step_done q o s m n f sd a b c d x) = updated_other h.task q _ p (not_busy p h.task q o s e b) ∙ e
      step_free nb (step_release q a b) = e
      step_free nb step_nothing = e

-- ** the call, exactly

module _ {R : Type 0} (kind : KindOf R) (rules : Rules R) (p : ℕ) where
  order_not : (q : ℕ) (o : Order) (r : Outcome (Unit {0})) → (r ≡ accepted tt → q ≡ p → ⊥) → NotBy {R = R} p (order_event q o r)
  order_not q o (accepted u) h = λ e. h refl (sym e)
  order_not q o (refused n) h = tt

  turn_not : (q : ℕ) (f : Bool) (a : List R) (r : Outcome Progress) → NotBy p (turn_event q f a r)
  turn_not q f a (accepted Run) = tt
  turn_not q f a (accepted Done) = tt
  turn_not q f a (refused n) = tt

  release_not : (q : ℕ) (r : Outcome (Unit {0})) → (r ≡ accepted tt → q ≡ p → ⊥) → NotBy {R = R} p (release_event q r)
  release_not q (accepted u) h = λ e. h refl (sym e)
  release_not q (refused n) h = tt

  event_not : (x : Hub rules) (k : Call) (f : Bool) (a : List R) → (granted kind rules x k ≡ accepted tt → Empties p k → ⊥) → NotBy p (event_of kind rules x k f a)
  event_not x (Amendment q c w) f a h = order_not q (amendment c w) (granted kind rules x (Amendment q c w)) h
  event_not x (Picture q cs) f a h = order_not q (picture cs) (granted kind rules x (Picture q cs)) h
  event_not x (Turn q) f a h = turn_not q f a (turn_answer kind rules x q)
  event_not x (Release q) f a h = release_not q (granted kind rules x (Release q)) h
  event_not x (Look q i) f a h = tt

module _ {R : Type 0} (kind : KindOf R) (rules : Rules R) (pl : Plan) (w : ℕ) (p i : ℕ) (r : R) where
  -- a look at link i shows r, in words of the model
  record Holds (h : N.Hub R) : Type 0 where
    in_p : p < pl.parties
    in_i : i < pl.links
    is_free : h.task p ≡ free
    is_idle : h.shelf.job p ≡ rests
    shows : shown (h.shelf.link p i) ≡ some r

  link_shows : (l : Link R) → not (is_vacant l) ≡ true → r ≡ reading_on rules.blank l → shown l ≡ some r
  link_shows vacant a b = absurd cc
  link_shows (holds c x t) a b = ap some (sym b)

  link_full : (l : Link R) → shown l ≡ some r → (not (is_vacant l) ≡ true) × (reading_on rules.blank l ≡ r)
  link_full vacant e = absurd cc
  link_full (holds c x t) e = (refl, cc (e))

  module _ (x : Hub rules) (h : N.Hub R) (mt : Matches rules pl w x h) where
    abbrev link_here : Link R
    link_here = link_at (rules.means x.shelf) (flat (rules.plan x.shelf) p i)

    look_holds : looked kind rules x p i ≡ accepted r → Holds h
    look_holds e =
        let t = accepted_passed (tests_of kind rules x (Look p i)) (reading_on rules.blank link_here) r (sym e) in
        let a = t.0 in
        let b = and_parts (is_free (party_of kind rules x p)) (is_idle (activity_of (rules.means x.shelf) p)) a.1.0 in
        let e_p = mt.shelved.plan in
        let in_p : p < pl.parties = rw e_p at (ltb-true p (rules.plan x.shelf).parties a.0) in
        let in_i : i < pl.links = rw e_p at (ltb-true i (rules.plan x.shelf).links a.1.1.0) in
        let e_l = link_is mt.shelved p i in_p in_i in
        record {
          in_p = in_p;
          in_i = in_i;
          is_free = mt.tasks p ∙ ap task_of (free_from (party_of kind rules x p) b.0);
          is_idle = job_idle pl p (h.shelf.link p) (activity_of (rules.means x.shelf) p) (h.shelf.job p) (mt.shelved.fits.activities p in_p) (idle_is _ b.1);
          shows = link_shows (h.shelf.link p i) (rw (← e_l) a.1.1.1.0) (rw (← e_l) t.1);
        }

    holds_look : Holds h → looked kind rules x p i ≡ accepted r
    holds_look H =
        let full = link_full (h.shelf.link p i) H.shows in
        look_accepted kind rules x p i (h.shelf.link p i) (rw mt.shelved.plan H.in_p) (rw mt.shelved.plan H.in_i) (task_free _ (sym (mt.tasks p) ∙ H.is_free)) (does_at mt.shelved.fits p rests H.in_p H.is_idle)
        (link_is mt.shelved p i H.in_p H.in_i) full.0
        ∙ ap accepted full.1

  module _ (plan : N.Plan) (range : InRange pl) (same_parties : plan.parties ≡ pl.parties) (same_links : plan.links ≡ pl.links)
      (same_channels : plan.channels ≡ pl.channels) (same_patience : w ≡ plan.patience) where
    stays : (x : Hub rules) (h : N.Hub R) (before : List (N.Event R)) → Past rules.blank kind.amended plan before h → Matches rules pl w x h → (more : List Call)
        → Holds h → ((t : ℕ) → t < length more → AcceptedAt kind rules x more t → Empties p (call_at kind rules x more t) → ⊥)
        → looked kind rules (after_all kind rules x more) p i ≡ accepted r
    stays x h before past mt [] H sp = holds_look x h mt H
    stays x h before past mt (k ∷ ks) H sp =
        let z = stepped kind rules plan pl w range same_parties same_links same_channels same_patience x h mt before past k in
        let nb : NotBy p z.heard = rw z.told.is (event_not kind rules p x k z.told.forces z.told.answer (sp 0 (omega arith))) in
        let same = step_same p i rules.blank kind.amended plan h H.is_free nb z.step in
        stays (after kind rules x k) z.then (before ++ (z.heard ∷ [])) (after_that z.heard z.then past z.step) z.matches ks
        (record {
          in_p = H.in_p;
          in_i = H.in_i;
          is_free = step_free p i rules.blank kind.amended plan h H.is_free nb z.step;
          is_idle = same.job ∙ H.is_idle;
          shows = same.shows ∙ H.shows;
        })
        (λ t l. sp (suc t) (omega arith))

pub holdings_stay : {R : Type 0} (kind : KindOf R) (rules : Rules R) → HoldingsStay kind rules
holdings_stay kind rules s fresh calls more p i r e sp =
    let z = runs kind rules s fresh calls in
    let x = after_all kind rules (made_on rules s) calls in
    stays kind rules (rules.plan s) (rules.patience s) p i r (plan kind rules s fresh) (range kind rules s fresh) refl refl refl refl x z.hub z.log z.past z.matches more
    (look_holds kind rules (rules.plan s) (rules.patience s) p i r x z.hub z.matches e) sp
