-- Each call keeps what a past keeps, so its operations have an order.
use mathlib.Core.Path.{◌≡◌, refl, sym, ap, ◌∙◌, subst}
use mathlib.Core.List.{List, []}
use mathlib.Core.Bool.{true}
use mathlib.Core.Logic.{◌≢◌, ◌⊎◌, inl, inr}
use mathlib.Core.Option.{Option, none, some}
use Prim.Native.Nat.{ℕ, zero, suc, ◌≤◌, ◌<◌}
use native.Mathlib.Omega.{arith}
use native.Mathlib.Decide.{ℕ_discrete}
use lib.ListN.{length}
use Rattle.history.specs.Board.{updated, Order, listed, Entry, StandsIn}
use Rattle.shelf.specs.Meaning.{Link, vacant, holds}
use Rattle.history.proofs.Shelf.{Said, Job, rests, awaits, forced, Shelf, Turn, turn_still, turn_force, turn_end, turn_both}
use Rattle.history.proofs.Hub.{Stage, taking, Task, free, doing, Hub, Plan, Event, ordered, run, done, released, nothing, looks, Next, Step, step_order, step_run, step_next, step_done, step_release, step_nothing, Fresh, is_some}
use Rattle.history.proofs.Claim.{Ordered}
use Rattle.history.proofs.Trace.{Trace}
use Rattle.history.proofs.Basics.{never, updated_same, updated_other, updated_twice, at_party}
use Rattle.history.proofs.Kept.{Absent, Party, State, Lined, Runs, Clock, Ended, Busy}
use Rattle.history.proofs.Starting.{party_of_lem, party_free, begun_state}
use Rattle.history.proofs.Lines.{Result}
use Rattle.history.proofs.Forcing.{force_state}
use Rattle.history.proofs.Ending.{end_state, done_state}
use Rattle.history.proofs.Clocks.{runs_on, ended_on, clock_on, lined_on, clock_stage, lined_done, clock_done}

module _ {R : Type 0} (blank : R) (amended : R → ℕ → R) (plan : Plan) (event : ℕ → Event R) where
  -- all that is kept
  pub record Kept (t : ℕ) (h : Hub R) : Type 0 where
    pub line : List (Entry R)
    pub cur : ℕ → ℕ
    pub lined : Lined event t line
    pub state : State blank amended line h.shelf.reading h.shelf.link h.shelf.job h.task cur
    pub clock : Clock event t h.task cur

  module _ (t : ℕ) where
    -- a turn of party p that says "run" in the same stage
    turn_none : (w : ℕ) (line : List (Entry R)) → Lined event t line → (task : ℕ → Task) (cur : ℕ → ℕ) → ((q : ℕ) → Runs event t q (cur q) (task q)) → (p : ℕ)
        (m : Shelf R) (o : Order) (s : Stage) {f : Option ℕ} {n : Shelf R} → task p ≡ doing o s → Turn w m p f none n
        → State blank amended line m.reading m.link m.job task cur
        → Result blank amended event t n.reading n.link n.job task cur
    turn_none w line li task cur ru p m o s e_t (turn_still k l h) st = record { line = line; lined = li; state = st }
    turn_none w line li task cur ru p m o s e_t (turn_force a f sd reading' link' left' e_j F l ot) st =
        force_state blank amended event t line li task cur ru p m o s a e_t e_j F st

    turn_some : (w : ℕ) (line : List (Entry R)) → Lined event t line → (task : ℕ → Task) (cur : ℕ → ℕ) → ((q : ℕ) → Runs event t q (cur q) (task q)) → (p : ℕ)
        (m : Shelf R) (o : Order) (s s' : Stage) {f : Option ℕ} {sd : Said} {n : Shelf R} → task p ≡ doing o s → Turn w m p f (some sd) n
        → Next o s sd (some s') → State blank amended line m.reading m.link m.job task cur
        → Result blank amended event t n.reading n.link n.job (updated task p (doing o s')) cur
    turn_some w line li task cur ru p m o s s' e_t (turn_end a sd e_j) N st =
        end_state blank amended event t line li task cur ru p m.reading m.link m.job a e_j e_t N st
    turn_some w line li task cur ru p m o s s' e_t (turn_both a f sd reading' link' left' e_j F l ot) N st =
        let one = force_state blank amended event t line li task cur ru p m o s a e_t e_j F st in
        subst (λ (j : ℕ → Job R). Result blank amended event t reading' link' j (updated task p (doing o s')) cur) (updated_twice m.job p (forced a sd) rests)
        (end_state blank amended event t one.line one.lined task cur ru p reading' link' (updated m.job p (forced a sd)) a
        (updated_same m.job p (forced a sd)) e_t N one.state)

    abbrev Finished : ℕ → Order → (ℕ → R) → (ℕ → ℕ → Link R) → (ℕ → Job R) → (ℕ → Task) → (ℕ → ℕ) → Type 0
    Finished p o reading link job task cur =
        (line : List (Entry R)) × Lined event t line
        × StandsIn (record { op = cur p; order = o; answer = looks blank (link p) 0 (listed o) }) line
        × State blank amended line reading link job (updated task p free) cur

    turn_done : (w : ℕ) (line : List (Entry R)) → Lined event t line → (task : ℕ → Task) (cur : ℕ → ℕ) → ((q : ℕ) → Runs event t q (cur q) (task q)) → (p : ℕ)
        (m : Shelf R) (o : Order) (s : Stage) {f : Option ℕ} {sd : Said} {n : Shelf R} → task p ≡ doing o s → Turn w m p f (some sd) n
        → Next o s sd none → State blank amended line m.reading m.link m.job task cur
        → Finished p o n.reading n.link n.job task cur
    turn_done w line li task cur ru p m o s e_t (turn_end a sd e_j) N st =
        let d = done_state blank amended event t line li task cur ru p m.reading m.link m.job a e_j e_t N st in
        (line, li, d.0, d.1)
    turn_done w line li task cur ru p m o s e_t (turn_both a f sd reading' link' left' e_j F l ot) N st =
        let one = force_state blank amended event t line li task cur ru p m o s a e_t e_j F st in
        let d =
        done_state blank amended event t one.line one.lined task cur ru p reading' link' (updated m.job p (forced a sd)) a
        (updated_same m.job p (forced a sd)) e_t N one.state in (
          one.line,
          one.lined,
          d.0,
          subst (λ (j : ℕ → Job R). State blank amended one.line reading' link' j (updated task p free) cur) (updated_twice m.job p (forced a sd) rests) d.1,
        )

    -- emptying party p's links
    clear_true : (reading : ℕ → R) (link : ℕ → ℕ → Link R) (p : ℕ) → ((q i c : ℕ) (r : R) → link q i ≡ holds c r true → r ≡ reading c)
        → (q i c : ℕ) (r : R) → updated link p (λ i. vacant) q i ≡ holds c r true → r ≡ reading c
    clear_true reading link p old =
        at_party p (λ q. (i c : ℕ) (r : R) → updated link p (λ i. vacant) q i ≡ holds c r true → r ≡ reading c)
        (λ i c r e. absurd (never (let f : vacant ≡ holds c r true = sym (ap (λ (g : ℕ → Link R). g i) (updated_same link p (λ i. vacant))) ∙ e in cc)))
        (λ q h i c r e. old q i c r (sym (ap (λ (g : ℕ → Link R). g i) (updated_other link p (λ i. vacant) q h)) ∙ e))

    order_part : (line : List (Entry R)) (l l' : ℕ → Link R) (k k' : ℕ) (job : Job R) (o : Order) → Absent line k' → 0 < length (listed o)
        → Party blank amended line l k job free → Party blank amended line l' k' job (doing o (taking 0))
    order_part line l l' k k' rests o ab z p = (ab, z, (λ i h. absurd (omega arith)), tt)
    order_part line l l' k k' (awaits a) o ab z p = absurd p
    order_part line l l' k k' (forced a s) o ab z p = absurd p

    pub step : {h h' : Hub R} {c : Event R} → event t ≡ c → Step blank amended plan h c h' → Kept t h → Kept (suc t) h'
    step {h} ec (step_order p o lt e_t al) ke =
        record {
          line = ke.line;
          cur = updated ke.cur p t;
          lined = lined_on event t ke.line (λ q f a e. never (let g : ◌≡◌ {A = Event R} (ordered p o) (done q f a) = sym ec ∙ e in cc)) ke.lined;
          state =
              record {
                played = ke.state.played;
                true_links = clear_true h.shelf.reading h.shelf.link p ke.state.true_links;
                party =
                    at_party p
                    (λ q. Party blank amended ke.line (updated h.shelf.link p (λ i. vacant) q) (updated ke.cur p t q) (h.shelf.job q) (updated h.task p new q))
                    (party_of_lem blank amended ke.line (updated_same h.shelf.link p (λ i. vacant)) (updated_same ke.cur p t) refl (updated_same h.task p new)
                    (order_part ke.line (h.shelf.link p) (λ i. vacant) (ke.cur p) t (h.shelf.job p) o
                    (λ x m e. let l = (ke.lined.accepted x m).0 in omega arith) al.some_listed
                    (party_of_lem blank amended ke.line refl refl refl (sym e_t) (ke.state.party p))))
                    (λ q n. party_of_lem blank amended ke.line (updated_other h.shelf.link p (λ i. vacant) q n) (updated_other ke.cur p t q n) refl
                    (updated_other h.task p new q n) (ke.state.party q));
              };
          clock = record { running = running; known = known };
        }
      where
        new : Task
        new = doing o (taking 0)

        ck : Clock event t h.task ke.cur
        ck = ke.clock

        running : (q : ℕ) → Runs event (suc t) q (updated ke.cur p t q) (updated h.task p new q)
        running =
            at_party p (λ q. Runs event (suc t) q (updated ke.cur p t q) (updated h.task p new q))
            (subst (λ (k : ℕ). Runs event (suc t) p k (updated h.task p new p)) (sym (updated_same ke.cur p t))
            (subst (λ (T : Task). Runs event (suc t) p t T) (sym (updated_same h.task p new)) (omega arith, ec, (λ u l l'. absurd (omega arith)))))
            (λ q n. subst (λ (k : ℕ). Runs event (suc t) q k (updated h.task p new q)) (sym (updated_other ke.cur p t q n))
            (subst (λ (T : Task). Runs event (suc t) q (ke.cur q) T) (sym (updated_other h.task p new q n))
            (runs_on event t q (ke.cur q) (h.task q) (λ f a e. never (let g : ◌≡◌ {A = Event R} (ordered p o) (done q f a) = sym ec ∙ e in cc)) (ck.running q))))

        known : (q k : ℕ) (o' : Order) → k < suc t → event k ≡ ordered q o' → Ended event (suc t) q k ⊎ ((k ≡ updated ke.cur p t q) × Busy (updated h.task p new q))
        known q k o' l e = by (ℕ_discrete k t)
          where
            old : (q : ℕ) → q ≢ p → (k ≡ ke.cur q) × Busy (h.task q) → (k ≡ updated ke.cur p t q) × Busy (updated h.task p new q)
            old q n u = (u.0 ∙ sym (updated_other ke.cur p t q n), subst Busy (sym (updated_other h.task p new q n)) u.1)

            at_q : Dec (q ≡ p) → (k ≡ ke.cur q) × Busy (h.task q) → (k ≡ updated ke.cur p t q) × Busy (updated h.task p new q)
            at_q (yes f) u = absurd (subst Busy (ap h.task f ∙ e_t) u.1)
            at_q (no n) u = old q n u

            by : Dec (k ≡ t) → Ended event (suc t) q k ⊎ ((k ≡ updated ke.cur p t q) × Busy (updated h.task p new q))
            by (yes same) =
                let who : q ≡ p = (let g : ◌≡◌ {A = Event R} (ordered q o') (ordered p o) = sym e ∙ ap event same ∙ ec in cc) in
                inr (subst (λ (x : ℕ). (k ≡ updated ke.cur p t x) × Busy (updated h.task p new x)) (sym who)
                (same ∙ sym (updated_same ke.cur p t), subst Busy (sym (updated_same h.task p new)) tt))
            by (no n) = elim (ck.known q k o' (omega arith) e) [ inl u ↦ inl (ended_on event t q k u) | inr u ↦ inr (at_q (ℕ_discrete q p) u) ]
    step {h} ec (step_run p o s m n f lt e_t B T) ke =
        let st = begun_state blank amended ke.line plan.patience h.shelf h.task ke.cur p e_t B ke.state in
        let re = turn_none plan.patience ke.line ke.lined h.task ke.cur ke.clock.running p m o s e_t T st in
        record {
          line = re.line;
          cur = ke.cur;
          lined = lined_on event t re.line (λ q g a e. never (let k : ◌≡◌ {A = Event R} (run p (is_some f)) (done q g a) = sym ec ∙ e in cc)) re.lined;
          state = re.state;
          clock =
              clock_on event t h.task ke.cur (λ q o e. never (let k : ◌≡◌ {A = Event R} (run p (is_some f)) (ordered q o) = sym ec ∙ e in cc))
              (λ q g a e. never (let k : ◌≡◌ {A = Event R} (run p (is_some f)) (done q g a) = sym ec ∙ e in cc)) ke.clock;
        }
    step {h} ec (step_next p o s s' m n f sd lt e_t B T N) ke =
        let st = begun_state blank amended ke.line plan.patience h.shelf h.task ke.cur p e_t B ke.state in
        let re = turn_some plan.patience ke.line ke.lined h.task ke.cur ke.clock.running p m o s s' e_t T N st in
        record {
          line = re.line;
          cur = ke.cur;
          lined = lined_on event t re.line (λ q g a e. never (let k : ◌≡◌ {A = Event R} (run p (is_some f)) (done q g a) = sym ec ∙ e in cc)) re.lined;
          state = re.state;
          clock =
              clock_on event t (updated h.task p (doing o s')) ke.cur (λ q o e. never (let k : ◌≡◌ {A = Event R} (run p (is_some f)) (ordered q o) = sym ec ∙ e in cc))
              (λ q g a e. never (let k : ◌≡◌ {A = Event R} (run p (is_some f)) (done q g a) = sym ec ∙ e in cc))
              (clock_stage event t h.task ke.cur p o s s' e_t ke.clock);
        }
    step {h} ec (step_done p o s m n f sd lt e_t B T N) ke =
        let st = begun_state blank amended ke.line plan.patience h.shelf h.task ke.cur p e_t B ke.state in
        let d = turn_done plan.patience ke.line ke.lined h.task ke.cur ke.clock.running p m o s e_t T N st in
        record {
          line = d.0;
          cur = ke.cur;
          lined = lined_done event t d.0 h.task ke.cur p o s (is_some f) (looks blank (n.link p) 0 (listed o)) ec e_t ke.clock d.2 d.1;
          state = d.3;
          clock = clock_done event t h.task ke.cur p o s (is_some f) (looks blank (n.link p) 0 (listed o)) ec e_t ke.clock;
        }
    step {h} ec (step_release p lt e_t) ke =
        record {
          line = ke.line;
          cur = ke.cur;
          lined = lined_on event t ke.line (λ q f a e. never (let g : ◌≡◌ {A = Event R} (released p) (done q f a) = sym ec ∙ e in cc)) ke.lined;
          state =
              record {
                played = ke.state.played;
                true_links = clear_true h.shelf.reading h.shelf.link p ke.state.true_links;
                party =
                    at_party p (λ q. Party blank amended ke.line (updated h.shelf.link p (λ i. vacant) q) (ke.cur q) (h.shelf.job q) (h.task q))
                    (party_of_lem blank amended ke.line {k = ke.cur p} (updated_same h.shelf.link p (λ i. vacant)) refl refl e_t
                    (party_free blank amended ke.line ke.line (h.shelf.link p) (λ i. vacant) (ke.cur p) (ke.cur p) (h.shelf.job p)
                    (party_of_lem blank amended ke.line refl refl refl (sym e_t) (ke.state.party p))))
                    (λ q n. party_of_lem blank amended ke.line {k = ke.cur q} {T = h.task q} (updated_other h.shelf.link p (λ i. vacant) q n) refl refl refl (ke.state.party q));
              };
          clock =
              clock_on event t h.task ke.cur (λ q o e. never (let k : ◌≡◌ {A = Event R} (released p) (ordered q o) = sym ec ∙ e in cc))
              (λ q g a e. never (let k : ◌≡◌ {A = Event R} (released p) (done q g a) = sym ec ∙ e in cc)) ke.clock;
        }
    step {h} ec step_nothing ke =
        record {
          line = ke.line;
          cur = ke.cur;
          lined = lined_on event t ke.line (λ q f a e. never (let g : ◌≡◌ {A = Event R} nothing (done q f a) = sym ec ∙ e in cc)) ke.lined;
          state = ke.state;
          clock =
              clock_on event t h.task ke.cur (λ q o e. never (let k : ◌≡◌ {A = Event R} nothing (ordered q o) = sym ec ∙ e in cc))
              (λ q g a e. never (let k : ◌≡◌ {A = Event R} nothing (done q g a) = sym ec ∙ e in cc)) ke.clock;
        }

  fresh : (h : Hub R) → Fresh blank plan h → Kept 0 h
  fresh h fr =
      record {
        line = [];
        cur = λ q. 0;
        lined =
            record {
              accepted = λ x m. absurd m;
              finished = λ p k e o a c en l. absurd (omega arith);
              in_turn = tt;
            };
        state =
            record {
              played = λ c. sym (fr.blank_readings c);
              true_links = λ q i c r e. absurd (never (let f : vacant ≡ holds c r true = sym (fr.empty_links q i) ∙ e in cc));
              party = λ q. party_of_lem blank amended [] {l = h.shelf.link q} {k = 0} refl refl (fr.idle_jobs q) (fr.free_tasks q) tt;
            };
        clock =
            record {
              running = λ q. subst (Runs event 0 q 0) (sym (fr.free_tasks q)) tt;
              known = λ q k o l e. absurd (omega arith);
            };
      }

pub always : {R : Type 0} (blank : R) (amended : R → ℕ → R) (plan : Plan) (past : Trace blank amended plan) (t : ℕ) → t ≤ past.events
    → Kept blank amended plan past.event t (past.hub t)
always blank amended plan past zero l = fresh blank amended plan past.event (past.hub 0) past.made_fresh
always blank amended plan past (suc t) l =
    step blank amended plan past.event t refl (past.each t l) (always blank amended plan past t (omega arith))

pub order_holds : {R : Type 0} (blank : R) (amended : R → ℕ → R) (plan : Plan) (past : Trace blank amended plan)
    → Ordered blank amended past.event past.events (past.hub past.events).shelf.reading
order_holds blank amended plan past =
    let k = always blank amended plan past past.events (omega arith) in
    record {
      line = k.line;
      accepted = k.lined.accepted;
      finished = k.lined.finished;
      in_turn = k.lined.in_turn;
      played = k.state.played;
    }
