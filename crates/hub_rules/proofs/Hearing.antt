-- What the model hears of a call, and what that tells of the call.
use Rattle.std.proofs.Common.{◌≡◌, ℕ, ◌<◌, ◌≤◌, Bool, true, false, ◌⊎◌, List, [], length, get_or, sym, refl, ap, inl, inr, append-nil, arith}
use Rattle.plan.specs.Refusals.{Outcome, accepted, refused, Test, unless_refused}
use Rattle.reading.specs.Kinds.{KindOf}
use Rattle.shelf.specs.Rules.{Rules}
use Rattle.shelf.proofs.Passing.{refused_more}
use Rattle.history.specs.Board.{Order, amendment, picture}
use Rattle.history.proofs.Hub as N
use Rattle.history.proofs.Claim.{turns_in, GetsOn}
use Rattle.hub_rules.specs.declared.parts.Progress.{Progress}
use Rattle.hub_rules.specs.declared.parts.Progress.TheVariants.{Run, Done}
use Rattle.hub_rules.specs.Hub.{Call, Amendment, Picture, Turn, Release, Look, Hub, party_of, progress_of, next_at, tests_of, hub_after, granted, turn_answer, looked}
use Rattle.hub_rules.specs.Law.{order_call, BringsIntoForce, one_if_accepted, busy_turn}

-- tests that refuse do so whatever the value
same_refusal : {A B : Type 0} (ts : List Test) (a : A) (b : B) (n : ℕ) → unless_refused ts a ≡ refused n → unless_refused ts b ≡ refused n
same_refusal ts a b n e = rw append-nil at (sym (refused_more ts [] a b n (sym e)))

module _ {R : Type 0} where
  abbrev pub order_event : ℕ → Order → Outcome (Unit {0}) → N.Event R
  order_event p o (accepted u) = N.ordered p o
  order_event p o (refused n) = N.nothing

  abbrev pub turn_event : ℕ → Bool → List R → Outcome Progress → N.Event R
  turn_event p f a (accepted Run) = N.run p f
  turn_event p f a (accepted Done) = N.done p f a
  turn_event p f a (refused n) = N.nothing

  abbrev pub release_event : ℕ → Outcome (Unit {0}) → N.Event R
  release_event p (accepted u) = N.released p
  release_event p (refused n) = N.nothing

module _ {R : Type 0} (kind : KindOf R) (rules : Rules R) where
  -- what the model hears of a call of hub x that brings an amendment into force, if f is true, and ends with the answer a, if it is done
  abbrev pub event_of : Hub rules → Call → Bool → List R → N.Event R
  event_of x (Amendment p c w) f a = order_event p (amendment c w) (granted kind rules x (Amendment p c w))
  event_of x (Picture p cs) f a = order_event p (picture cs) (granted kind rules x (Picture p cs))
  event_of x (Turn p) f a = turn_event p f a (turn_answer kind rules x p)
  event_of x (Release p) f a = release_event p (granted kind rules x (Release p))
  event_of x (Look p i) f a = N.nothing

  -- the call k leads from hub x to hub y, and the model hears n
  pub record Told (x : Hub rules) (k : Call) (y : Hub rules) (n : N.Event R) : Type 0 where
    pub forces : Bool
    pub answer : List R
    pub is : n ≡ event_of x k forces answer
    pub brings : forces ≡ true → BringsIntoForce kind rules x k y
    pub looks_give : (p i : ℕ) → k ≡ Turn p → turn_answer kind rules x p ≡ accepted Done → i < length answer → looked kind rules y p i ≡ accepted (get_or answer i rules.blank)

  -- where nothing comes into force and nothing is answered
  pub quiet : (x y : Hub rules) (k : Call) (n : N.Event R) → n ≡ event_of x k false [] → Told x k y n
  quiet x y k n e = record { forces = false; answer = []; is = e; brings = λ z. absurd cc; looks_give = λ p i a b h. absurd (omega arith) }

  -- of a refused call the model hears nothing
  pub refused_event : (x : Hub rules) (k : Call) (n : ℕ) → unless_refused (tests_of kind rules x k) (hub_after kind rules x k) ≡ refused n → event_of x k false [] ≡ N.nothing
  refused_event x (Amendment p c w) n e = rw (same_refusal (tests_of kind rules x (Amendment p c w)) _ (tt {0}) n e) refl
  refused_event x (Picture p cs) n e = rw (same_refusal (tests_of kind rules x (Picture p cs)) _ (tt {0}) n e) refl
  refused_event x (Turn p) n e = rw (same_refusal (tests_of kind rules x (Turn p)) _ (progress_of (next_at kind rules x p (party_of kind rules x p))) n e) refl
  refused_event x (Release p) n e = rw (same_refusal (tests_of kind rules x (Release p)) _ (tt {0}) n e) refl
  refused_event x (Look p i) n e = refl

  -- ** an order

  order_back : (q : ℕ) (o' : Order) (r : Outcome (Unit {0})) (p : ℕ) (o : Order) → ◌≡◌ {A = N.Event R} (N.ordered p o) (order_event q o' r) → (order_call q o' ≡ order_call p o) × (r ≡ accepted tt)
  order_back q o' (accepted u) p o e = (cc, refl)
  order_back q o' (refused n) p o e = absurd cc

  turn_no_order : (q : ℕ) (f : Bool) (a : List R) (r : Outcome Progress) (p : ℕ) (o : Order) → N.ordered p o ≡ turn_event q f a r → ⊥
  turn_no_order q f a (accepted Run) p o e = cc
  turn_no_order q f a (accepted Done) p o e = cc
  turn_no_order q f a (refused n) p o e = cc

  release_no_order : (q : ℕ) (r : Outcome (Unit {0})) (p : ℕ) (o : Order) → ◌≡◌ {A = N.Event R} (N.ordered p o) (release_event q r) → ⊥
  release_no_order q (accepted u) p o e = cc
  release_no_order q (refused n) p o e = cc

  pub event_ordered : (x : Hub rules) (k : Call) (f : Bool) (a : List R) (p : ℕ) (o : Order) → N.ordered p o ≡ event_of x k f a → (k ≡ order_call p o) × (granted kind rules x k ≡ accepted tt)
  event_ordered x (Amendment q c w) f a p o e = order_back q (amendment c w) (granted kind rules x (Amendment q c w)) p o e
  event_ordered x (Picture q cs) f a p o e = order_back q (picture cs) (granted kind rules x (Picture q cs)) p o e
  event_ordered x (Turn q) f a p o e = absurd (turn_no_order q f a (turn_answer kind rules x q) p o e)
  event_ordered x (Release q) f a p o e = absurd (release_no_order q (granted kind rules x (Release q)) p o e)
  event_ordered x (Look q i) f a p o e = absurd cc

  plain_ordered : (x : Hub rules) (p : ℕ) (o : Order) (f : Bool) (a : List R) → granted kind rules x (order_call p o) ≡ accepted tt → event_of x (order_call p o) f a ≡ N.ordered p o
  plain_ordered x p (amendment c w) f a e = rw e refl
  plain_ordered x p (picture cs) f a e = rw e refl

  pub ordered_event : (x : Hub rules) (k : Call) (f : Bool) (a : List R) (p : ℕ) (o : Order) → k ≡ order_call p o → granted kind rules x k ≡ accepted tt → event_of x k f a ≡ N.ordered p o
  ordered_event x k f a p o ek e = rw ek (plain_ordered x p o f a (rw ek at e))

  -- ** a turn that is done

  order_no_done : (q : ℕ) (o : Order) (r : Outcome (Unit {0})) (p : ℕ) (g : Bool) (b : List R) → N.done p g b ≡ order_event q o r → ⊥
  order_no_done q o (accepted u) p g b e = cc
  order_no_done q o (refused n) p g b e = cc

  release_no_done : (q : ℕ) (r : Outcome (Unit {0})) (p : ℕ) (g : Bool) (b : List R) → N.done p g b ≡ release_event q r → ⊥
  release_no_done q (accepted u) p g b e = cc
  release_no_done q (refused n) p g b e = cc

  turn_back : (q : ℕ) (f : Bool) (a : List R) (r : Outcome Progress) (p : ℕ) (g : Bool) (b : List R) → N.done p g b ≡ turn_event q f a r → (q ≡ p) × (r ≡ accepted Done)
  turn_back q f a (accepted Run) p g b e = absurd cc
  turn_back q f a (accepted Done) p g b e = (cc, refl)
  turn_back q f a (refused n) p g b e = absurd cc

  pub event_done : (x : Hub rules) (k : Call) (f : Bool) (a : List R) (p : ℕ) (g : Bool) (b : List R) → N.done p g b ≡ event_of x k f a → (k ≡ Turn p) × (turn_answer kind rules x p ≡ accepted Done)
  event_done x (Amendment q c w) f a p g b e = absurd (order_no_done q (amendment c w) (granted kind rules x (Amendment q c w)) p g b e)
  event_done x (Picture q cs) f a p g b e = absurd (order_no_done q (picture cs) (granted kind rules x (Picture q cs)) p g b e)
  event_done x (Turn q) f a p g b e =
      let z = turn_back q f a (turn_answer kind rules x q) p g b e in
      (ap Turn z.0, rw (← z.0) z.1)
  event_done x (Release q) f a p g b e = absurd (release_no_done q (granted kind rules x (Release q)) p g b e)
  event_done x (Look q i) f a p g b e = absurd cc

  pub done_event : (x : Hub rules) (k : Call) (f : Bool) (a : List R) (p : ℕ) → k ≡ Turn p → turn_answer kind rules x p ≡ accepted Done → event_of x k f a ≡ N.done p f a
  done_event x k f a p ek e = rw (ek, e) refl

  -- ** turns of busy parties, and those that get on

  turn_counts : (p : ℕ) (f : Bool) (a : List R) (r : Outcome Progress) → one_if_accepted r ≤ turns_in (turn_event p f a r)
  turn_counts p f a (accepted Run) = omega arith
  turn_counts p f a (accepted Done) = omega arith
  turn_counts p f a (refused n) = omega arith

  pub counts : (x : Hub rules) (k : Call) (f : Bool) (a : List R) → busy_turn kind rules x k ≤ turns_in (event_of x k f a)
  counts x (Amendment p c w) f a = omega arith
  counts x (Picture p cs) f a = omega arith
  counts x (Turn p) f a = turn_counts p f a (turn_answer kind rules x p)
  counts x (Release p) f a = omega arith
  counts x (Look p i) f a = omega arith

  order_idles : (q : ℕ) (o : Order) (r : Outcome (Unit {0})) → GetsOn {R = R} (order_event q o r) → ⊥
  order_idles q o (accepted u) g = g
  order_idles q o (refused n) g = g

  release_idles : (q : ℕ) (r : Outcome (Unit {0})) → GetsOn {R = R} (release_event q r) → ⊥
  release_idles q (accepted u) g = g
  release_idles q (refused n) g = g

  turn_gets_on : (q : ℕ) (f : Bool) (a : List R) (r : Outcome Progress) → GetsOn (turn_event q f a r) → (r ≡ accepted Done) ⊎ (f ≡ true)
  turn_gets_on q f a (accepted Run) g = inr g
  turn_gets_on q f a (accepted Done) g = inl refl
  turn_gets_on q f a (refused n) g = absurd g

  pub gets_on : (x : Hub rules) (k : Call) (f : Bool) (a : List R) → GetsOn (event_of x k f a) → ((p : ℕ) × (k ≡ Turn p) × (turn_answer kind rules x p ≡ accepted Done)) ⊎ (f ≡ true)
  gets_on x (Amendment q c w) f a g = absurd (order_idles q (amendment c w) (granted kind rules x (Amendment q c w)) g)
  gets_on x (Picture q cs) f a g = absurd (order_idles q (picture cs) (granted kind rules x (Picture q cs)) g)
  gets_on x (Turn q) f a g = elim (turn_gets_on q f a (turn_answer kind rules x q) g) [ inl d ↦ inl (q, refl, d) | inr b ↦ inr b ]
  gets_on x (Release q) f a g = absurd (release_idles q (granted kind rules x (Release q)) g)
  gets_on x (Look q i) f a g = absurd g
