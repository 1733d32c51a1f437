-- What holds of every past of a hub of the model.
use mathlib.Core.Path.{◌≡◌}
use mathlib.Core.Logic.{◌≢◌}
use mathlib.Core.List.{List}
use mathlib.Core.Bool.{Bool, true}
use Prim.Native.Nat.{ℕ, zero, suc, ◌+◌, ◌*◌, ◌≤◌, ◌<◌}
use lib.ListN.{length, get_or}
use Rattle.history.specs.Board.{Order, Entry, StandsIn, Along}
use Rattle.history.proofs.Basics.{Plays}
use Rattle.history.proofs.Hub.{Hub, Plan, Event, ordered, run, done, released, nothing, Past}

module _ {R : Type 0} where
  -- the operation ordered at time k by party p ends at time e with this answer: e is the party's first turn after k that says "done"
  pub record Ends (event : ℕ → Event R) (p k e : ℕ) (answer : List R) : Type 0 where
    pub later : k < e
    pub brings : Bool
    pub is_done : event e ≡ done p brings answer
    pub first : (t : ℕ) → k < t → t < e → (f : Bool) (a : List R) → event t ≢ done p f a

  -- x may stand before y: they are two operations, and y did not end before x was ordered
  abbrev pub Before : (ℕ → Event R) → Entry R → Entry R → Type 0
  Before event x y =
      (x.op ≢ y.op)
      × ((p e : ℕ) (answer : List R) → event y.op ≡ ordered p y.order → Ends event p y.op e answer → x.op < e)

  -- there is an order of operations, each an accepted order of the past, none twice; each finished one stands there with the answer
  -- that it gave; none stands before one that had ended when it was ordered; and the ideal board, blank at first, gives each its answer
  -- and holds at the end what the shelf's channels hold
  pub record Ordered (blank : R) (amended : R → ℕ → R) (event : ℕ → Event R) (events : ℕ) (reading : ℕ → R) : Type 0 where
    pub line : List (Entry R)
    pub accepted : (x : Entry R) → StandsIn x line → (x.op < events) × ((p : ℕ) × (event x.op ≡ ordered p x.order))
    pub finished : (p k e : ℕ) (o : Order) (answer : List R) → event k ≡ ordered p o → Ends event p k e answer → e < events
        → StandsIn (record { op = k; order = o; answer = answer }) line
    pub in_turn : Along (Before event) line
    pub played : Plays amended (λ c. blank) line reading

  -- 1 for a turn of a busy party, else 0
  abbrev pub turns_in : Event R → ℕ
  turns_in (ordered p o) = 0
  turns_in (run p f) = 1
  turns_in (done p f a) = 1
  turns_in (released p) = 0
  turns_in nothing = 0

  -- how many of the n calls from time t on are turns
  abbrev pub turns_from : (ℕ → Event R) → ℕ → ℕ → ℕ
  turns_from event t zero = 0
  turns_from event t (suc n) = turns_from event t n + turns_in (event (t + n))

  -- the call ends an operation or brings an amendment into force
  abbrev pub GetsOn : Event R → Type 0
  GetsOn (ordered p o) = ⊥
  GetsOn (run p f) = f ≡ true
  GetsOn (done p f a) = Unit {0}
  GetsOn (released p) = ⊥
  GetsOn nothing = ⊥

  -- of any so many successive turns one gets on
  abbrev pub TurnsGetOn : (ℕ → Event R) → ℕ → ℕ → Type 0
  TurnsGetOn event events bound =
      (t n : ℕ) → t + n ≤ events → bound ≤ turns_from event t n → (u : ℕ) × (t ≤ u) × (u < t + n) × GetsOn (event u)

  -- call t of a past, counted from 0
  abbrev pub event_at : List (Event R) → ℕ → Event R
  event_at log t = get_or log t nothing

  -- what holds of a hub with such a past
  pub record Holds (blank : R) (amended : R → ℕ → R) (plan : Plan) (log : List (Event R)) (h : Hub R) : Type 0 where
    pub order : Ordered blank amended (event_at log) (length log) h.shelf.reading
    pub get_on : TurnsGetOn (event_at log) (length log) (1 + 16 * (plan.parties * suc plan.patience))

abbrev pub EveryHistory : Type 0 → Type 0
EveryHistory R =
    (blank : R) (amended : R → ℕ → R) (plan : Plan) (log : List (Event R)) (h : Hub R) → Past blank amended plan log h → Holds blank amended plan log h
