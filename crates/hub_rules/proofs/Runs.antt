-- The law of runs, from the model's.
use Rattle.std.proofs.Common.{◌≡◌, ℕ, zero, suc, ◌+◌, ◌*◌, ◌<◌, ◌≤◌, true, ◌⊎◌, List, [], ◌∷◌, length, get_or, sym, refl, ap, ◌∙◌, subst, inl, inr, arith}
use lib.ListN.{length-map}
use Rattle.plan.specs.Refusals.{accepted}
use Rattle.reading.specs.Kinds.{KindOf}
use Rattle.shelf.specs.Rules.{Rules, Fresh}
use Rattle.history.specs.Board.{Order, listed, Entry, board_after, GivesAnswers, board_at_end, StandsIn, Along}
use Rattle.history.proofs.Basics.{Plays}
use Rattle.history.proofs.Hub as N
use Rattle.history.proofs.Claim as Model
use Rattle.history.proofs.Claim.{Ends, GetsOn, turns_in, event_at}
use Rattle.history.proofs.Main.{every_history}
use Rattle.hub_rules.specs.declared.parts.Progress.TheVariants.{Done}
use Rattle.hub_rules.specs.Hub.{Call, Turn, Hub, turn_answer, after_all, made_on}
use Rattle.hub_rules.specs.Law.{BringsIntoForce, call_at, hub_at, DoneAt, Operation, EndsAt, LooksGive, MayPrecede, Ordered, busy_turns, OneGetsOn, turn_bound, OperationsOrdered, TurnsGetOn}
use Rattle.hub_rules.proofs.Hearing.{event_of, Told, event_ordered, ordered_event, event_done, done_event, counts, gets_on}
use Rattle.hub_rules.proofs.Running.{heard_length, heard_at, Ran, range, plan, runs}

-- ** lines that the board plays

module _ {R : Type 0} (amended : R → ℕ → R) where
  gives_answers : (board : ℕ → R) (line : List (Entry R)) (end : ℕ → R) → Plays amended board line end → GivesAnswers amended board line
  gives_answers board [] end p = tt
  gives_answers board (x ∷ xs) end p = (p.0, gives_answers (board_after amended x.order board) xs end p.1)

  at_end : (board : ℕ → R) (line : List (Entry R)) (end : ℕ → R) → Plays amended board line end → (c : ℕ) → board_at_end amended board line c ≡ end c
  at_end board [] end p c = p c
  at_end board (x ∷ xs) end p c = at_end (board_after amended x.order board) xs end p.1 c

  answer_size : (board : ℕ → R) (line : List (Entry R)) (end : ℕ → R) → Plays amended board line end → (x : Entry R) → StandsIn x line → length x.answer ≡ length (listed x.order)
  answer_size board [] end p x m = absurd m
  answer_size board (y ∷ ys) end p x (inl e) =
      rw e (ap length p.0 ∙ length-map (listed y.order) board)
  answer_size board (y ∷ ys) end p x (inr m) = answer_size (board_after amended y.order board) ys end p.1 x m

along_map : {R : Type 0} (P Q : Entry R → Entry R → Type 0) → ((x y : Entry R) → P x y → Q x y) → (line : List (Entry R)) → Along P line → Along Q line
along_map P Q h [] a = tt
along_map P Q h (x ∷ xs) a = ((λ y m. h x y (a.0 y m)), along_map P Q h xs a.1)

module _ {R : Type 0} (kind : KindOf R) (rules : Rules R) (s : rules.State) (fresh : Fresh rules s) (calls : List Call) where
  abbrev start : Hub rules
  start = made_on rules s

  Z : Ran kind rules (plan kind rules s fresh) (rules.plan s) (rules.patience s) (range kind rules s fresh) refl refl refl refl start calls []
  Z = runs kind rules s fresh calls

  abbrev log : List (N.Event R)
  log = Z.log

  model : Model.Holds rules.blank kind.amended (plan kind rules s fresh) log Z.hub
  model = every_history R rules.blank kind.amended (plan kind rules s fresh) log Z.hub Z.past

  long : length log ≡ length calls
  long = heard_length kind rules start calls log Z.heard

  abbrev at : ℕ → Hub rules
  at t = hub_at kind rules start calls t

  abbrev call : ℕ → Call
  call t = call_at kind rules start calls t

  told : (t : ℕ) → t < length calls → Told kind rules (at t) (call t) (at (suc t)) (event_at log t)
  told t h = heard_at kind rules start calls log Z.heard t h

  -- ** the order

  operation : (p k : ℕ) (o : Order) → k < length log → event_at log k ≡ N.ordered p o → Operation kind rules start calls p k o
  operation p k o h e =
      let l : k < length calls = (let z = long in omega arith) in
      let w = told k l in
      let z = event_ordered kind rules (at k) (call k) w.forces w.answer p o (sym e ∙ w.is) in
      record { in_past = l; is_order = z.0; is_accepted = z.1 }

  ordered_at : (p k : ℕ) (o : Order) → Operation kind rules start calls p k o → event_at log k ≡ N.ordered p o
  ordered_at p k o op =
      let w = told k op.in_past in
      w.is ∙ ordered_event kind rules (at k) (call k) w.forces w.answer p o op.is_order op.is_accepted

  ends_at : (p k e : ℕ) → (en : EndsAt kind rules start calls p k e) → Ends (event_at log) p k e (told e en.in_past).answer
  ends_at p k e en =
      let w = told e en.in_past in
      record {
        later = en.later;
        brings = w.forces;
        is_done = w.is ∙ done_event kind rules (at e) (call e) w.forces w.answer p en.is_done.0 en.is_done.1;
        first = λ t a b f x z.
            let l : t < length calls = (let i = en.in_past in omega arith) in
            let v = told t l in
            en.first t a b (event_done kind rules (at t) (call t) v.forces v.answer p f x (sym z ∙ v.is));
      }

  module _ (e_b : rules.blank ≡ kind.blank) where
    its_answer : (p e : ℕ) (o : Order) (l : e < length calls) → DoneAt kind rules start calls p e
        → length (told e l).answer ≡ length (listed o) → LooksGive kind rules start calls p e o (told e l).answer
    its_answer p e o l d size = record {
      size = size;
      looks = λ i h. (told e l).looks_give p i d.0 d.1 (omega arith) ∙ ap (λ (b : R). accepted (get_or (told e l).answer i b)) e_b;
    }

    order : Ordered kind rules start calls
    order =
        let m = model.order in
        record {
          line = m.line;
          operations = λ x h. let a = m.accepted x h in (a.1.0, operation a.1.0 x.op x.order a.0 a.1.1);
          in_turn = along_map (Model.Before (event_at log)) (MayPrecede kind rules start calls)
              (λ x y b. (b.0, λ p e op en. b.1 p e (told e en.in_past).answer (ordered_at p y.op y.order op) (ends_at p y.op e en))) m.line m.in_turn;
          finished = λ p k e o op en.
              let answer = (told e en.in_past).answer in
              let h = m.finished p k e o answer (ordered_at p k o op) (ends_at p k e en) (let z = long in let y = en.in_past in omega arith) in
              let size = answer_size kind.amended (λ c. rules.blank) m.line Z.hub.shelf.reading m.played (record { op = k; order = o; answer = answer }) h in
              (answer, its_answer p e o en.in_past en.is_done size, h);
          answers = subst (λ (b : R). GivesAnswers kind.amended (λ c. b) m.line) e_b (gives_answers kind.amended (λ c. rules.blank) m.line Z.hub.shelf.reading m.played);
          readings = subst (λ (b : R). (c : ℕ) → c < (rules.plan s).channels → board_at_end kind.amended (λ c. b) m.line c ≡ get_or (rules.means (after_all kind rules start calls).shelf).readings c b) e_b
              (λ c h. at_end kind.amended (λ c. rules.blank) m.line Z.hub.shelf.reading m.played c ∙ sym (Z.matches.shelved.fits.readings c h));
        }

  -- ** the turns

  fewer : (t n : ℕ) → t + n ≤ length calls → busy_turns kind rules start calls t n ≤ Model.turns_from (event_at log) t n
  fewer t zero h = omega arith
  fewer t (suc n) h =
      let w = told (t + n) (omega arith) in
      let a = fewer t n (omega arith) in
      let b = counts kind rules (at (t + n)) (call (t + n)) w.forces w.answer in
      let c : turns_in (event_at log (t + n)) ≡ turns_in (event_of kind rules (at (t + n)) (call (t + n)) w.forces w.answer) = ap turns_in w.is in
      omega arith

  turns : OneGetsOn kind rules start calls (turn_bound kind rules start calls)
  turns t n h b =
      let e : rules.patience s + 1 ≡ suc (rules.patience s) = omega arith in
      let e' : turn_bound kind rules start calls ≡ 1 + 16 * ((rules.plan s).parties * suc (rules.patience s)) = ap (λ (x : ℕ). 1 + 16 * ((rules.plan s).parties * x)) e in
      let f = fewer t n h in
      let g = model.get_on t n (let z = long in omega arith) (let z = rw e' at b in omega arith) in
      (g.0, g.1, g.2, found g.0 (omega (arith, g.2)) g.3)
    where
      found : (u : ℕ) → u < length calls → GetsOn (event_at log u) → ((p : ℕ) × DoneAt kind rules start calls p u) ⊎ BringsIntoForce kind rules (at u) (call u) (at (suc u))
      found u l z = go (gets_on kind rules (at u) (call u) (told u l).forces (told u l).answer (subst GetsOn (told u l).is z))
        where
          go : ((p : ℕ) × (call u ≡ Turn p) × (turn_answer kind rules (at u) p ≡ accepted Done)) ⊎ ((told u l).forces ≡ true) → ((p : ℕ) × DoneAt kind rules start calls p u) ⊎ BringsIntoForce kind rules (at u) (call u) (at (suc u))
          go (inl d) = inl (d.0, (d.1, d.2))
          go (inr t) = inr ((told u l).brings t)

pub operations_ordered : {R : Type 0} (kind : KindOf R) (rules : Rules R) → rules.blank ≡ kind.blank → OperationsOrdered kind rules
operations_ordered kind rules e_b s fresh calls = order kind rules s fresh calls e_b

pub turns_get_on : {R : Type 0} (kind : KindOf R) (rules : Rules R) → TurnsGetOn kind rules
turns_get_on kind rules s fresh calls = turns kind rules s fresh calls

-- the shelf stays in states of which its laws hold, and its plan and patience stay
module _ {R : Type 0} (kind : KindOf R) (rules : Rules R) (s : rules.State) (fresh : Fresh rules s) (calls : List Call) where
  pub always_sound : rules.sound (after_all kind rules (made_on rules s) calls).shelf
  always_sound = (runs kind rules s fresh calls).matches.shelved.sound

  pub plan_stays : rules.plan (after_all kind rules (made_on rules s) calls).shelf ≡ rules.plan s
  plan_stays = (runs kind rules s fresh calls).matches.shelved.plan

  pub patience_stays : rules.patience (after_all kind rules (made_on rules s) calls).shelf ≡ rules.patience s
  patience_stays = (runs kind rules s fresh calls).matches.shelved.patience
