-- Every call of the exact hub is a step of the model.
use Rattle.std.proofs.Common.{◌≡◌, ℕ, zero, suc, ◌+◌, ◌<◌, true, false, not, ◌&&◌, ltb, leb, ◌≢◌, List, [], ◌∷◌, length, get_or, set, sym, refl, ap, ◌∙◌, subst, arith, length-set, get_or-set_other, get_or-set_same, zero-add}
use mathlib.Core.Option.{Option, none, some}
use Rattle.std.specs.List.{AllByRecursion}
use Rattle.std.proofs.lemmas.Bool.{ltb-true, lt-ltb, leb-true, and_parts, and_from}
use Rattle.plan.specs.Refusals.{accepted}
use Rattle.plan.specs.Plans.{InRange}
use Rattle.plan.specs.declared.check.Plan.{Plan}
use Rattle.reading.specs.Kinds.{KindOf}
use Rattle.shelf.specs.declared.answer.Answer.{Answer}
use Rattle.shelf.specs.declared.answer.Answer.TheVariants as answers
use Rattle.shelf.specs.Meaning.{flat, Link, Activity, idle, waits, in_force, link_at, activity_of, Stores}
use Rattle.shelf.specs.Rules.{Rules}
use Rattle.shelf.specs.Calls as C
use Rattle.shelf.specs.Calls.{is_idle, is_vacant, reading_on, leaves}
use Rattle.shelf.proofs.Passing.{Passed, Ways, all_pass, one_refuses, ways, passes}
use Rattle.shelf.proofs.After.{idle_is}
use Rattle.history.specs.Board.{updated, Order, amendment, picture, listed}
use Rattle.history.proofs.Shelf.{Said, taken, stored as put_stored, missed, live, broken, rests, Shelf, Turn as ModelTurn}
use Rattle.history.proofs.Hub as N
use Rattle.history.proofs.Hub.{Stage, taking, putting, Task, free, doing, is_some, looks, cleared, Begun, Next, Step, step_order, step_run, step_next, step_done, step_release, step_nothing, Allowed, Past}
use Rattle.history.proofs.Basics.{updated_same, updated_other, at_party}
use Rattle.history.proofs.Shape.{past_begins, past_says, past_amends, past_ready, past_allowed, turn_idle}
use Rattle.hub_rules.specs.declared.parts.Party.{Party}
use Rattle.hub_rules.specs.declared.parts.Party.TheVariants.{Idle, AmendmentTake, AmendmentPut, PictureTake, PictureCheck}
use Rattle.hub_rules.specs.declared.parts.Progress.TheVariants as progress
use Rattle.hub_rules.specs.Hub.{Call, Amendment, Picture, Turn, Release, Look, Hub, stored, is_free, progress_of, next, emptied, begun, party_of, tests_of, ordered, next_at, turned, hub_after, after, turn_answer, looked}
use Rattle.hub_rules.specs.Law.{BringsIntoForce}
use Rattle.hub_rules.proofs.Match.{answer_of, task_of, order_of, stage_of, Shelved, Matches, does_at, link_is}
use Rattle.hub_rules.proofs.Turning.{said_of, TurnMatched, turn_matched}
use Rattle.hub_rules.proofs.Starting.{BegunMatched, begun_matched}
use Rattle.hub_rules.proofs.Emptying.{cleared_matched}
use Rattle.hub_rules.proofs.Stages.{stored_back, Leads, to_end, to_stage, leads, next_run, free_from, Runs, runs_from, below_at, apart_at}
use Rattle.hub_rules.proofs.Hearing.{order_event, release_event, Told, quiet, event_of, refused_event}

module _ {R : Type 0} where
  looks_length : (blank : R) (links : ℕ → Link R) (i : ℕ) (cs : List ℕ) → length (looks blank links i cs) ≡ length cs
  looks_length blank links i [] = refl
  looks_length blank links i (c ∷ cs) = ap suc (looks_length blank links (suc i) cs)

  looks_at : (blank : R) (links : ℕ → Link R) (i : ℕ) (cs : List ℕ) (n : ℕ) → n < length cs → get_or (looks blank links i cs) n blank ≡ reading_on blank (links (i + n))
  looks_at blank links i [] n h = absurd (omega arith)
  looks_at blank links i (c ∷ cs) zero h = let e : i ≡ i + 0 = omega arith in cc
  looks_at blank links i (c ∷ cs) (suc n) h = let e : suc i + n ≡ i + suc n = omega arith in cc (looks_at blank links (suc i) cs n (omega arith))

  busy_true : (d : Activity R) → d ≢ idle → not (is_idle d) ≡ true
  busy_true idle n = absurd (n refl)
  busy_true (waits z) n = refl
  busy_true (in_force a) n = refl

-- a look, of a party of which nothing runs, at a link that is not empty
pub look_accepted : {R : Type 0} (kind : KindOf R) (rules : Rules R) (x : Hub rules) (p i : ℕ) (l : Link R) → p < (rules.plan x.shelf).parties → i < (rules.plan x.shelf).links
    → party_of kind rules x p ≡ Idle → activity_of (rules.means x.shelf) p ≡ idle → link_at (rules.means x.shelf) (flat (rules.plan x.shelf) p i) ≡ l → not (is_vacant l) ≡ true
    → looked kind rules x p i ≡ accepted (reading_on rules.blank l)
look_accepted {R} kind rules x p i l in_p in_i is_none is_rest e full =
    passes (tests_of kind rules x (Look p i)) (reading_on rules.blank (link_at (rules.means x.shelf) (flat (rules.plan x.shelf) p i)))
    (lt-ltb _ _ in_p, (and_from _ _ (ap is_free is_none) (ap is_idle is_rest), (lt-ltb _ _ in_i, (rw e full, tt))))
    ∙ ap (λ (z : Link R). accepted (reading_on rules.blank z)) e

-- only a put is at the stage of putting
put_from_lem : (y : Party) (c w : ℕ) → order_of y ≡ amendment c w → stage_of y ≡ putting → y ≡ AmendmentPut c w
put_from_lem Idle c w e s = cc
put_from_lem (AmendmentTake d v) c w e s = cc
put_from_lem (AmendmentPut d v) c w e s = cc
put_from_lem (PictureTake l i) c w e s = cc
put_from_lem (PictureCheck l i) c w e s = cc

module _ {R : Type 0} (kind : KindOf R) (rules : Rules R) (plan : N.Plan) (pl : Plan) (w : ℕ) (range : InRange pl)
    (same_parties : plan.parties ≡ pl.parties) (same_links : plan.links ≡ pl.links) (same_channels : plan.channels ≡ pl.channels) (same_patience : w ≡ plan.patience) where
  pub record Stepped (x : Hub rules) (h : N.Hub R) (k : Call) (y : Hub rules) : Type 0 where
    pub heard : N.Event R
    pub then : N.Hub R
    pub step : Step rules.blank kind.amended plan h heard then
    pub matches : Matches rules pl w y then
    pub told : Told kind rules x k y heard

  module _ (x : Hub rules) (h : N.Hub R) (mt : Matches rules pl w x h) (log : List (N.Event R)) (past : Past rules.blank kind.amended plan log h) where
    at_plan : (n : ℕ) (f : Plan → ℕ) → n < f (rules.plan x.shelf) → n < f pl
    at_plan n f l = rw mt.shelved.plan at l

    -- a record set in the table
    set_task : (p : ℕ) (v : Party) (T : Task) → task_of v ≡ T → p < pl.parties → (q : ℕ) → updated h.task p T q ≡ task_of (get_or (set x.table p v) q Idle)
    set_task p v T e in_p = at_party p (λ q. updated h.task p T q ≡ task_of (get_or (set x.table p v) q Idle))
        (cc (updated_same h.task p T, get_or-set_same x.table p v Idle (let z = mt.size in omega arith)))
        (λ q ne. cc (updated_other h.task p T q ne, mt.tasks q, get_or-set_other x.table p q v Idle ne))

    -- a party that the hub may serve
    record Serves (p : ℕ) : Type 0 where
      in_p : p < pl.parties
      is_free : h.task p ≡ free
      is_idle : activity_of (rules.means x.shelf) p ≡ idle

    serves : (p : ℕ) → ltb p (rules.plan x.shelf).parties ≡ true → is_free (party_of kind rules x p) && is_idle (activity_of (rules.means x.shelf) p) ≡ true → Serves p
    serves p a b =
        let c = and_parts (is_free (party_of kind rules x p)) (is_idle (activity_of (rules.means x.shelf) p)) b in
        record {
          in_p = at_plan p (λ (z : Plan). z.parties) (ltb-true _ _ a);
          is_free = mt.tasks p ∙ ap task_of (free_from (party_of kind rules x p) c.0);
          is_idle = idle_is (activity_of (rules.means x.shelf) p) c.1;
        }

    emptied_matched : (p : ℕ) → Serves p → Shelved rules pl w (emptied kind rules x.shelf p (rules.plan x.shelf).links) (cleared h.shelf p)
    emptied_matched p f =
        rw mt.shelved.plan
        (cleared_matched kind rules pl w x.shelf h.shelf mt.shelved p f.in_p f.is_idle)

    order_step : (p : ℕ) (v : Party) (o : Order) (k : Call) → task_of v ≡ doing o (taking 0) → N.ordered p o ≡ event_of kind rules x k false [] → Serves p → Allowed plan o → Stepped x h k (ordered kind rules x p v)
    order_step p v o k e_v e f al = record {
      heard = N.ordered p o;
      then = record { shelf = cleared h.shelf p; task = updated h.task p (doing o (taking 0)) };
      step = step_order p o (let a = f.in_p in omega arith) f.is_free al;
      matches = record { shelved = emptied_matched p f; size = length-set x.table p v ∙ mt.size; tasks = set_task p v (doing o (taking 0)) e_v f.in_p };
      told = quiet kind rules x (ordered kind rules x p v) k (N.ordered p o) e;
    }

    -- ** a turn

    module _ (p : ℕ) (y : Party) (in_p : p < pl.parties) (e_y : party_of kind rules x p ≡ y) (running : Runs y) (t : AllByRecursion Passed (tests_of kind rules x (Turn p))) where
      hub_task : h.task p ≡ doing (order_of y) (stage_of y)
      hub_task = mt.tasks p ∙ (ap task_of e_y ∙ running.task)

      abbrev s : rules.State
      s = begun kind rules x.shelf p y

      B : BegunMatched kind rules pl w x.shelf h.shelf p y
      B = begun_matched kind rules pl w x.shelf h.shelf mt.shelved p in_p plan same_links same_channels y (past_begins rules.blank kind.amended plan log h past p (order_of y) (stage_of y) hub_task)

      T : TurnMatched rules pl w s B.then p
      T = turn_matched rules pl w s B.then B.shelved p in_p B.busy

      begins_at : Begun kind.amended plan.patience h.shelf p (order_of y) (stage_of y) B.then
      begins_at = subst (λ (n : ℕ). Begun kind.amended n h.shelf p (order_of y) (stage_of y) B.then) same_patience B.begins

      -- the hub after the turn
      abbrev then_at : Party → Hub rules
      then_at v = record { shelf = rules.turned s p; table = set x.table p v }

      brings_at : (c : Option ℕ) → ((d : ℕ) → c ≡ some d → Stores (rules.means s) (rules.means (rules.turned s p)) p d) → ((d : ℕ) → c ≡ some d → (v : ℕ) × (order_of y ≡ amendment d v) × (stage_of y ≡ putting))
          → (v : Party) → is_some c ≡ true → BringsIntoForce kind rules x (Turn p) (then_at v)
      brings_at none puts am v e = absurd cc
      brings_at (some d) puts am v e =
          let a = am d refl in
          let is = put_from_lem y d a.0 a.1 a.2 in
          record {
            party = p;
            channel = d;
            word = a.0;
            is_turn = refl;
            amends = e_y ∙ is;
            stores = subst (λ (z : Party). Stores (rules.means (begun kind rules x.shelf p z)) (rules.means (rules.turned s p)) p d) is (puts d refl);
          }

      module _ (n : Shelf R) (f : Option ℕ) (shelved : Shelved rules pl w (rules.turned s p) n) (puts : (d : ℕ) → f ≡ some d → Stores (rules.means s) (rules.means (rules.turned s p)) p d) where
        amends_at : {a : Option Said} → ModelTurn plan.patience B.then p f a n → (d : ℕ) → f ≡ some d → (v : ℕ) × (order_of y ≡ amendment d v) × (stage_of y ≡ putting)
        amends_at t d e = past_amends rules.blank kind.amended plan log h past p (order_of y) (stage_of y) d hub_task begins_at t e

        -- answered "run" by the hub
        goes_on : (v : Party) → turn_answer kind rules x p ≡ accepted progress.Run → {a : Option Said} → ModelTurn plan.patience B.then p f a n
            → Told kind rules x (Turn p) (then_at v) (N.run p (is_some f))
        goes_on v e_a t = record {
          forces = is_some f;
          answer = [];
          is = rw e_a refl;
          brings = brings_at f puts (amends_at t) v;
          looks_give = λ q i a b l. absurd (omega arith);
        }

        -- answered "run" by the shelf
        ran : turn_answer kind rules x p ≡ accepted progress.Run → ModelTurn plan.patience B.then p f none n → Stepped x h (Turn p) (then_at y)
        ran e_a t = record {
          heard = N.run p (is_some f);
          then = record { shelf = n; task = h.task };
          step = step_run p (order_of y) (stage_of y) B.then n f (let a = in_p in omega arith) hub_task begins_at t;
          matches = record {
            shelved = shelved;
            size = length-set x.table p y ∙ mt.size;
            tasks = at_party p (λ q. h.task q ≡ task_of (get_or (set x.table p y) q Idle))
                (cc (hub_task, running.task, get_or-set_same x.table p y Idle (let e = mt.size in omega arith)))
                (λ q ne. cc (mt.tasks q, get_or-set_other x.table p q y Idle ne));
          };
          told = goes_on y e_a t;
        }

        -- the operation goes on with its next stage
        went_on : (sd : Said) (v : Party) (st : Stage) → turn_answer kind rules x p ≡ accepted progress.Run → task_of v ≡ doing (order_of y) st
            → ModelTurn plan.patience B.then p f (some sd) n → Next (order_of y) (stage_of y) sd (some st) → Stepped x h (Turn p) (then_at v)
        went_on sd v st e_a e_v t nx = record {
          heard = N.run p (is_some f);
          then = record { shelf = n; task = updated h.task p (doing (order_of y) st) };
          step = step_next p (order_of y) (stage_of y) st B.then n f sd (let a = in_p in omega arith) hub_task begins_at t nx;
          matches = record { shelved = shelved; size = length-set x.table p v ∙ mt.size; tasks = set_task p v (doing (order_of y) st) e_v in_p };
          told = goes_on v e_a t;
        }

        -- what looks give when the operation is done
        look_after : (sd : Said) → ModelTurn plan.patience B.then p f (some sd) n → Next (order_of y) (stage_of y) sd none → (i : ℕ) → i < length (listed (order_of y))
            → looked kind rules (then_at Idle) p i ≡ accepted (reading_on rules.blank (n.link p i))
        look_after sd t nx i l =
            let rd = past_ready rules.blank kind.amended plan log h past p (order_of y) (stage_of y) hub_task begins_at t nx i l in
            let al = past_allowed rules.blank kind.amended plan log h past p (order_of y) (stage_of y) hub_task in
            let fit = al.fit in
            let in_i : i < pl.links = omega arith in
            look_accepted kind rules (then_at Idle) p i (n.link p i) (rw shelved.plan in_p) (rw shelved.plan in_i) (get_or-set_same x.table p Idle Idle (let e = mt.size in omega arith))
            (does_at shelved.fits p rests in_p (turn_idle rules.blank kind.amended plan.patience B.then p t)) (link_is shelved p i in_p in_i) (ap (λ (z : Link R). not (is_vacant z)) rd.is)

        finished : (sd : Said) → turn_answer kind rules x p ≡ accepted progress.Done → ModelTurn plan.patience B.then p f (some sd) n → Next (order_of y) (stage_of y) sd none → Stepped x h (Turn p) (then_at Idle)
        finished sd e_a t nx =
            let answer = looks rules.blank (n.link p) 0 (listed (order_of y)) in
            record {
              heard = N.done p (is_some f) answer;
              then = record { shelf = n; task = updated h.task p free };
              step = step_done p (order_of y) (stage_of y) B.then n f sd (let a = in_p in omega arith) hub_task begins_at t nx;
              matches = record { shelved = shelved; size = length-set x.table p Idle ∙ mt.size; tasks = set_task p Idle free refl in_p };
              told = record {
                forces = is_some f;
                answer = answer;
                is = rw e_a refl;
                brings = brings_at f puts (amends_at t) Idle;
                looks_give = λ q i e d l.
                    let l' : i < length (listed (order_of y)) = (let a = looks_length rules.blank (n.link p) 0 (listed (order_of y)) in omega arith) in
                    let same : p ≡ q = cc in
                    cc (look_after sd t nx i l', looks_at rules.blank (n.link p) 0 (listed (order_of y)) i l', zero-add i);
              };
            }

        -- by where the answer leads
        led : (sd : Said) → turn_answer kind rules x p ≡ accepted (progress_of (next y (answer_of sd))) → ModelTurn plan.patience B.then p f (some sd) n → Leads y sd → Stepped x h (Turn p) (then_at (next y (answer_of sd)))
        led sd e_a t (to_end nx e) = rw e (finished sd (cc (e_a, e)) t nx)
        led sd e_a t (to_stage v st nx e e_v e_r) =
            rw e (went_on sd v st (cc (e_a, e, e_r)) e_v t nx)

        said : (sd : Said) → turn_answer kind rules x p ≡ accepted (progress_of (next y (answer_of sd))) → ModelTurn plan.patience B.then p f (some sd) n → Stepped x h (Turn p) (then_at (next y (answer_of sd)))
        said sd e_a t = led sd e_a t (leads y sd (past_says rules.blank kind.amended plan log h past p (order_of y) (stage_of y) hub_task begins_at t))

        by_answer : (a : Answer) → turn_answer kind rules x p ≡ accepted (progress_of (next y a)) → ModelTurn plan.patience B.then p f (said_of a) n → Stepped x h (Turn p) (then_at (next y a))
        by_answer answers.Run e_a t =
            rw (next_run y) (ran (cc (e_a, next_run y, running.progress)) t)
        by_answer answers.Taken e_a t = said taken e_a t
        by_answer answers.Stored e_a t = said put_stored e_a t
        by_answer answers.Missed e_a t = said missed e_a t
        by_answer answers.Live e_a t = said live e_a t
        by_answer answers.Broken e_a t = said broken e_a t

      -- the shelf accepts the turn
      shelf_tests : AllByRecursion Passed (C.tests_of (rules.plan s) (rules.means s) (C.Turn p))
      shelf_tests = (lt-ltb _ _ (rw B.shelved.plan in_p), (busy_true (activity_of (rules.means s) p) B.busy, tt))

      shelf_answers : C.turn_answer rules s p ≡ accepted (rules.answer s p)
      shelf_answers = passes (C.tests_of (rules.plan s) (rules.means s) (C.Turn p)) (rules.answer s p) shelf_tests

      shelf_turned : C.after rules s (C.Turn p) ≡ rules.turned s p
      shelf_turned = ap (leaves s) (passes (C.tests_of (rules.plan s) (rules.means s) (C.Turn p)) (rules.turned s p) shelf_tests)

      hub_answers : turn_answer kind rules x p ≡ accepted (progress_of (next y (rules.answer s p)))
      hub_answers =
          passes (tests_of kind rules x (Turn p)) (progress_of (next_at kind rules x p (party_of kind rules x p))) t
          ∙ rw (e_y, shelf_answers) refl

      hub_turned : turned kind rules x p (party_of kind rules x p) ≡ then_at (next y (rules.answer s p))
      hub_turned = rw (e_y, shelf_turned, shelf_answers) refl

      turn_step : Stepped x h (Turn p) (turned kind rules x p (party_of kind rules x p))
      turn_step =
          rw hub_turned
          (by_answer T.then T.channel T.shelved T.puts (rules.answer s p) hub_answers
          (subst (λ (z : ℕ). ModelTurn z B.then p T.channel (said_of (rules.answer s p)) T.then) same_patience T.turn))

    accepted_step : (k : Call) → AllByRecursion Passed (tests_of kind rules x k) → Stepped x h k (hub_after kind rules x k)
    accepted_step (Amendment p c v) a =
        order_step p (AmendmentTake c v) (amendment c v) (Amendment p c v) refl
        (sym (ap (order_event p (amendment c v)) (passes (tests_of kind rules x (Amendment p c v)) tt a))) (serves p a.0 a.1.0)
        (record {
          some_listed = omega arith;
          fit = let z = range.some_links in omega arith;
          there = first (at_plan c (λ (z : Plan). z.channels) (ltb-true _ _ a.1.1.0));
          once = λ i j l m. absurd (omega arith);
        })
      where
        first : c < pl.channels → (i : ℕ) → i < 1 → get_or (c ∷ []) i 0 < plan.channels
        first l zero m = omega arith
        first l (suc i) m = absurd (omega arith)
    accepted_step (Picture p cs) a =
        let len = and_parts (leb 1 (length cs)) (leb (length cs) (rules.plan x.shelf).links) a.1.1.0 in
        order_step p (PictureTake (stored cs) 0) (picture cs) (Picture p cs) (ap (λ (z : List ℕ). doing (picture z) (taking 0)) (stored_back cs))
        (sym (ap (order_event p (picture cs)) (passes (tests_of kind rules x (Picture p cs)) tt a))) (serves p a.0 a.1.0)
        (record {
          some_listed = let z = leb-true _ _ len.0 in omega arith;
          fit = let z = leb-true _ _ len.1 in let y = ap (λ (q : Plan). q.links) mt.shelved.plan in omega arith;
          there = λ i l. let z = below_at (rules.plan x.shelf).channels cs a.1.1.1.0 i l in let y = ap (λ (q : Plan). q.channels) mt.shelved.plan in omega arith;
          once = apart_at cs a.1.1.1.1.0;
        })
    accepted_step (Turn p) a =
        turn_step p (party_of kind rules x p) (at_plan p (λ (z : Plan). z.parties) (ltb-true _ _ a.0)) refl (runs_from (party_of kind rules x p) a.1.0) a
    accepted_step (Release p) a =
        let f = serves p a.0 a.1.0 in
        record {
          heard = N.released p;
          then = record { shelf = cleared h.shelf p; task = h.task };
          step = step_release p (let b = f.in_p in omega arith) f.is_free;
          matches = record { shelved = emptied_matched p f; size = mt.size; tasks = mt.tasks };
          told = quiet kind rules x (hub_after kind rules x (Release p)) (Release p) (N.released p) (sym (ap (release_event p) (passes (tests_of kind rules x (Release p)) tt a)));
        }
    accepted_step (Look p i) a = record { heard = N.nothing; then = h; step = step_nothing; matches = mt; told = quiet kind rules x x (Look p i) N.nothing refl }

    pub stepped : (k : Call) → Stepped x h k (after kind rules x k)
    stepped k = by_way (ways (tests_of kind rules x k) (hub_after kind rules x k))
      where
        by_way : Ways (tests_of kind rules x k) (hub_after kind rules x k) → Stepped x h k (after kind rules x k)
        by_way (all_pass t q) = rw (ap (leaves x) q) (accepted_step k t)
        by_way (one_refuses n q) =
            rw (ap (leaves x) q)
            (record { heard = N.nothing; then = h; step = step_nothing; matches = mt; told = quiet kind rules x x k N.nothing (sym (refused_event kind rules x k n q)) })
