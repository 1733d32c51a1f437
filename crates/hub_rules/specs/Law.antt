-- The law of runs: what holds of every hub whose past is its making on a fresh shelf and any list of calls.
use Rattle.std.specs.Prelude.{◌≡◌, ℕ, zero, suc, ◌+◌, ◌*◌, ◌<◌, ◌≤◌, ◌≢◌, ◌⊎◌, List, length, take, slice_index_or}
use Rattle.plan.specs.Refusals.{Outcome, accepted, refused}
use Rattle.reading.specs.Kinds.{KindOf}
use Rattle.shelf.specs.Meaning.{Stores}
use Rattle.shelf.specs.Rules.{Rules, Fresh}
use Rattle.history.specs.Board.{Order, amendment, picture, listed, Entry, GivesAnswers, board_at_end, StandsIn, Along}
use Rattle.hub_rules.specs.declared.parts.Party.TheVariants.{AmendmentPut}
use Rattle.hub_rules.specs.declared.parts.Progress.{Progress}
use Rattle.hub_rules.specs.declared.parts.Progress.TheVariants.{Done}
use Rattle.hub_rules.specs.Hub.{Call, Amendment, Picture, Turn, Release, Look, Hub, made_on, begun, party_of, granted, turn_answer, looked, after_all}

-- the call that gives an order
abbrev pub order_call : ℕ → Order → Call
order_call p (amendment c w) = Amendment p c w
order_call p (picture cs) = Picture p cs

-- the call k, from hub h to hub h', is a turn that brings an amendment into force: its put does so on a live link
pub record BringsIntoForce {R : Type 0} (kind : KindOf R) (rules : Rules R) (h : Hub rules) (k : Call) (h' : Hub rules) : Type 0 where
  pub party : ℕ
  pub channel : ℕ
  pub word : ℕ
  pub is_turn : k ≡ Turn party
  pub amends : party_of kind rules h party ≡ AmendmentPut channel word
  pub stores : Stores (rules.means (begun kind rules h.shelf party (AmendmentPut channel word))) (rules.means h'.shelf) party channel

-- 1 for an accepted turn, which is one of a busy party, and 0 for any other call
abbrev pub one_if_accepted : Outcome Progress → ℕ
one_if_accepted (accepted a) = 1
one_if_accepted (refused n) = 0

abbrev pub busy_turn : {R : Type 0} (kind : KindOf R) (rules : Rules R) → Hub rules → Call → ℕ
busy_turn kind rules h (Amendment p c w) = 0
busy_turn kind rules h (Picture p cs) = 0
busy_turn kind rules h (Turn p) = one_if_accepted (turn_answer kind rules h p)
busy_turn kind rules h (Release p) = 0
busy_turn kind rules h (Look p i) = 0

-- the calls of a list, from a hub on
module _ {R : Type 0} (kind : KindOf R) (rules : Rules R) (start : Hub rules) (calls : List Call) where
  -- call t, and the hub before it
  abbrev pub call_at : ℕ → Call
  call_at t = slice_index_or calls t (Look 0 0)

  abbrev pub hub_at : ℕ → Hub rules
  hub_at t = after_all kind rules start (take t calls)

  -- call t is accepted; call t is a turn of party p that ends the party's operation
  abbrev pub AcceptedAt : ℕ → Type 0
  AcceptedAt t = granted kind rules (hub_at t) (call_at t) ≡ accepted tt

  abbrev pub DoneAt : ℕ → ℕ → Type 0
  DoneAt p t = (call_at t ≡ Turn p) × (turn_answer kind rules (hub_at t) p ≡ accepted Done)

  -- ** order

  -- an operation is an accepted order; it is named by the place of its call
  pub record Operation (p k : ℕ) (o : Order) : Type 0 where
    pub in_past : k < length calls
    pub is_order : call_at k ≡ order_call p o
    pub is_accepted : AcceptedAt k

  -- operation k of party p ends, finished, with call e: the party's first turn after k that answers "done"
  pub record EndsAt (p k e : ℕ) : Type 0 where
    pub in_past : e < length calls
    pub later : k < e
    pub is_done : DoneAt p e
    pub first : (t : ℕ) → k < t → t < e → DoneAt p t → ⊥

  -- its answer is what looks at the links, one for each listed channel, give right after call e
  pub record LooksGive (p e : ℕ) (o : Order) (answer : List R) : Type 0 where
    pub size : length answer ≡ length (listed o)
    pub looks : (i : ℕ) → i < length (listed o) → looked kind rules (hub_at (suc e)) p i ≡ accepted (slice_index_or answer i kind.blank)

  -- x may stand before y: it is another operation, and y had not ended when x was ordered
  abbrev pub MayPrecede : Entry R → Entry R → Type 0
  MayPrecede x y = (x.op ≢ y.op) × ((p e : ℕ) → Operation p y.op y.order → EndsAt p y.op e → x.op < e)

  pub record Ordered : Type 0 where
    pub line : List (Entry R)
    -- only operations stand there; none twice, and none before one that had ended when it was ordered
    pub operations : (x : Entry R) → StandsIn x line → (p : ℕ) × Operation p x.op x.order
    pub in_turn : Along MayPrecede line
    -- each finished one has its answer, and stands there with it
    pub finished : (p k e : ℕ) (o : Order) → Operation p k o → EndsAt p k e
        → (answer : List R) × LooksGive p e o answer × StandsIn (record { op = k; order = o; answer = answer }) line
    -- the ideal board, blank at first, gives these answers, and holds at the end what the shelf's channels hold
    pub answers : GivesAnswers kind.amended (λ c. kind.blank) line
    pub readings : (c : ℕ) → c < (rules.plan start.shelf).channels
        → board_at_end kind.amended (λ c. kind.blank) line c ≡ slice_index_or (rules.means (after_all kind rules start calls).shelf).readings c kind.blank

  -- ** turns

  -- how many of the n calls from place t on are turns of busy parties
  abbrev pub busy_turns : ℕ → ℕ → ℕ
  busy_turns t zero = 0
  busy_turns t (suc n) = busy_turns t n + busy_turn kind rules (hub_at (t + n)) (call_at (t + n))

  -- of any so many successive turns of busy parties, other calls between them, one ends an operation or brings an amendment into force
  abbrev pub OneGetsOn : ℕ → Type 0
  OneGetsOn bound = (t n : ℕ) → t + n ≤ length calls → bound ≤ busy_turns t n
      → (u : ℕ) × (t ≤ u) × (u < t + n) × (((p : ℕ) × DoneAt p u) ⊎ BringsIntoForce kind rules (hub_at u) (call_at u) (hub_at (suc u)))

  -- 1 + 16 × N × (w + 1)
  abbrev pub turn_bound : ℕ
  turn_bound = 1 + 16 * ((rules.plan start.shelf).parties * (rules.patience start.shelf + 1))

-- ** the laws, of every list of calls on a hub made on a fresh shelf

abbrev pub OperationsOrdered : {R : Type 0} → KindOf R → Rules R → Type 0
OperationsOrdered kind rules = (s : rules.State) → Fresh rules s → (calls : List Call) → Ordered kind rules (made_on rules s) calls

abbrev pub TurnsGetOn : {R : Type 0} → KindOf R → Rules R → Type 0
TurnsGetOn kind rules = (s : rules.State) → Fresh rules s → (calls : List Call)
    → OneGetsOn kind rules (made_on rules s) calls (turn_bound kind rules (made_on rules s) calls)

-- an order or a release of party p
abbrev pub Empties : ℕ → Call → Type 0
Empties p (Amendment q c w) = q ≡ p
Empties p (Picture q cs) = q ≡ p
Empties p (Turn q) = ⊥
Empties p (Release q) = q ≡ p
Empties p (Look q i) = ⊥

-- what a party holds reads the same until its next accepted order or its release
abbrev pub HoldingsStay : {R : Type 0} → KindOf R → Rules R → Type 0
HoldingsStay {R} kind rules = (s : rules.State) → Fresh rules s → (calls more : List Call) (p i : ℕ) (r : R)
    → let held = after_all kind rules (made_on rules s) calls in
    looked kind rules held p i ≡ accepted r
    → ((t : ℕ) → t < length more → AcceptedAt kind rules held more t → Empties p (call_at kind rules held more t) → ⊥)
    → looked kind rules (after_all kind rules held more) p i ≡ accepted r
