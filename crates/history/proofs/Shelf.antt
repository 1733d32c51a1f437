-- A model of what a shelf means, for proofs: functions in place of lists, each party's links by their own numbers, an
-- operation in force that still names what it was, and the turns left.
use mathlib.Core.Path.{◌≡◌}
use mathlib.Core.Logic.{◌≢◌, ◌⊎◌}
use mathlib.Core.Bool.{Bool, true, false}
use mathlib.Core.Option.{Option, none, some}
use Prim.Native.Nat.{ℕ, ◌≤◌, ◌<◌}
use Rattle.shelf.specs.Meaning.{Link, vacant, holds, Operation, take, put, check, break_on}
use Rattle.history.specs.Board.{updated}

-- what a shelf operation answers
pub data Said : Type 0 where
  taken stored missed live broken : Said

-- a party on the shelf: idle, or with one operation, waiting or in force with its answer
pub data Job (R : Type 0) : Type 0 where
  rests : Job R
  awaits : Operation R → Job R
  forced : Operation R → Said → Job R

-- `left p` is how many more turns party p's operation may be answered "run" while nobody disturbs it
pub record Shelf (R : Type 0) : Type 0 where
  pub reading : ℕ → R
  pub link : ℕ → ℕ → Link R
  pub job : ℕ → Job R
  pub left : ℕ → ℕ

module _ {R : Type 0} where
  -- link (p, i) is `l`, the others as before
  abbrev pub set_link : (ℕ → ℕ → Link R) → ℕ → ℕ → Link R → ℕ → ℕ → Link R
  set_link links p i l = updated links p (updated (links p) i l)

  -- starting an operation: the links then. A take empties its link, the others need one that is not empty
  pub data Starts (links : ℕ → ℕ → Link R) (p : ℕ) : Operation R → (ℕ → ℕ → Link R) → Type 0 where
    start_take : (i c : ℕ) → Starts links p (take i c) (set_link links p i vacant)
    start_put : (i : ℕ) (v : R) (c : ℕ) (r : R) (b : Bool) → links p i ≡ holds c r b → Starts links p (put i v) links
    start_check : (i : ℕ) (c : ℕ) (r : R) (b : Bool) → links p i ≡ holds c r b → Starts links p (check i) links

  -- coming into force: whether it is a put on a live link (then with its channel), the answer, and the readings and links then
  pub data Forces (m : Shelf R) (p : ℕ) : Operation R → Option ℕ → Said → (ℕ → R) → (ℕ → ℕ → Link R) → Type 0 where
    force_take : (i c : ℕ) → Forces m p (take i c) none taken m.reading (set_link m.link p i (holds c (m.reading c) true))
    force_put : (i c : ℕ) (v r : R) → m.link p i ≡ holds c r true
        → Forces m p (put i v) (some c) stored (updated m.reading c v) (λ q j. break_on c (m.link q j))
    force_miss : (i c : ℕ) (v r : R) → m.link p i ≡ holds c r false → Forces m p (put i v) none missed m.reading m.link
    force_live : (i c : ℕ) (r : R) → m.link p i ≡ holds c r true → Forces m p (check i) none live m.reading m.link
    force_broken : (i c : ℕ) (r : R) → m.link p i ≡ holds c r false → Forces m p (check i) none broken m.reading m.link

  -- the channel of a party's operation is c
  abbrev pub OperationOn : (ℕ → Link R) → Operation R → ℕ → Type 0
  OperationOn links (take i d) c = d ≡ c
  OperationOn links (put i v) c = (r : R) × (b : Bool) × (links i ≡ holds c r b)
  OperationOn links (check i) c = (r : R) × (b : Bool) × (links i ≡ holds c r b)

  abbrev pub On : (ℕ → Link R) → Job R → ℕ → Type 0
  On links rests c = ⊥
  On links (awaits a) c = OperationOn links a c
  On links (forced a said) c = OperationOn links a c

  -- the other parties' patience after a turn of party p: as it was, but where a put came into force on a live link of the channel of
  -- the party's operation it may begin anew
  abbrev pub Others : ℕ → Shelf R → ℕ → Option ℕ → (ℕ → ℕ) → Type 0
  Others w m p none left' = (q : ℕ) → q ≢ p → left' q ≡ m.left q
  Others w m p (some c) left' = (q : ℕ) → q ≢ p → (left' q ≡ m.left q) ⊎ ((left' q ≤ w) × On (m.link q) (m.job q) c)

  -- one turn of party p on a shelf of patience w: the channel of a put that it brings into force on a live link, if any;
  -- the answer that it hands over, or none for "run"; and the shelf then
  pub data Turn (w : ℕ) (m : Shelf R) (p : ℕ) : Option ℕ → Option Said → Shelf R → Type 0 where
    turn_still : (n : ℕ) → n < m.left p → m.job p ≢ rests
        → Turn w m p none none (record { reading = m.reading; link = m.link; job = m.job; left = updated m.left p n })
    turn_force : (a : Operation R) (f : Option ℕ) (s : Said) (reading' : ℕ → R) (link' : ℕ → ℕ → Link R) (left' : ℕ → ℕ)
        → m.job p ≡ awaits a → Forces m p a f s reading' link' → left' p < m.left p → Others w m p f left'
        → Turn w m p f none (record { reading = reading'; link = link'; job = updated m.job p (forced a s); left = left' })
    turn_end : (a : Operation R) (s : Said) → m.job p ≡ forced a s
        → Turn w m p none (some s) (record { reading = m.reading; link = m.link; job = updated m.job p rests; left = m.left })
    turn_both : (a : Operation R) (f : Option ℕ) (s : Said) (reading' : ℕ → R) (link' : ℕ → ℕ → Link R) (left' : ℕ → ℕ)
        → m.job p ≡ awaits a → Forces m p a f s reading' link' → left' p ≤ w → Others w m p f left'
        → Turn w m p f (some s) (record { reading = reading'; link = link'; job = updated m.job p rests; left = left' })
