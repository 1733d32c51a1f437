-- What holds of every shelf, over every run of calls from a fresh one.
use Rattle.std.specs.Prelude.{◌≡◌, ℕ, suc, ◌+◌, ◌<◌, ◌≤◌, Bool, true, false, cond, ◌≢◌, ◌⊎◌, List, [], ◌∷◌, length, take, Some, None, Option, ◌==◌, slice_index_or}
use Rattle.plan.specs.Refusals.{accepted}
use Rattle.shelf.specs.declared.answer.Answer.{Answer}
use Rattle.shelf.specs.declared.answer.Answer.TheVariants.{Stored, Missed, Live, Broken}
use Rattle.shelf.specs.Meaning.{Own, Link, vacant, holds, Operation, take as take_op, put, check, idle, in_force, Meaning, link_at, activity_of, Comes, Stores, is_on}
use Rattle.shelf.specs.Rules.{Rules, Fresh}
use Rattle.shelf.specs.Calls.{Call, Take, Put, Check, Drop, Look, Turn, after, turn_answer}

abbrev pub after_all : {R : Type 0} (rules : Rules R) → rules.State → List (Call R) → rules.State
after_all rules s [] = s
after_all rules s (k ∷ ks) = after_all rules (after rules s k) ks

-- the party that calls
abbrev pub caller_of : {R : Type 0} → Call R → ℕ
caller_of (Take p i c) = p
caller_of (Put p i r) = p
caller_of (Check p i) = p
caller_of (Drop p i) = p
caller_of (Look p i) = p
caller_of (Turn p) = p

-- what a link shows, if it is not empty
abbrev pub shown_by : {R : Type 0} → Link R → Option R
shown_by vacant = None
shown_by (holds c x t) = Some x

-- a run: calls from a state on
module _ {R : Type 0} (rules : Rules R) (start : rules.State) (calls : List (Call R)) where
  -- the state before call t, what it means, and the call
  abbrev pub state_at : ℕ → rules.State
  state_at t = after_all rules start (take t calls)

  abbrev pub meaning_at : ℕ → Meaning R
  meaning_at t = rules.means (state_at t)

  abbrev pub call_at : ℕ → Call R
  call_at t = slice_index_or calls t (Look 0 0)

  -- call t is a turn that brings party p's operation o into force
  pub record ComesAt (t p : ℕ) (o : Operation R) : Type 0 where
    pub in_past : t < length calls
    pub is_turn : call_at t ≡ Turn p
    pub comes : Comes (meaning_at t) (meaning_at (suc t)) p o

  -- call t brings a put into force on a live link of channel c
  pub record StoresAt (t c : ℕ) : Type 0 where
    pub in_past : t < length calls
    pub party : ℕ
    pub is_turn : call_at t ≡ Turn party
    pub stores : Stores (meaning_at t) (meaning_at (suc t)) party c

  -- no put stored on channel c after call t and before call u
  abbrev pub NoneBetween : ℕ → ℕ → ℕ → Type 0
  NoneBetween t u c = (v : ℕ) → t < v → v < u → StoresAt v c → ⊥

  -- the link was never empty after call t, up to the state before call u
  abbrev pub HeldSince : ℕ → ℕ → ℕ → Type 0
  HeldSince t u j = (v : ℕ) → t < v → v ≤ u → link_at (meaning_at v) j ≢ vacant

  -- what a held link is: it shows what its channel held when its take came into force,
  -- and it is live exactly if no put stored on the channel since
  pub record SinceTake (t u j c : ℕ) : Type 0 where
    pub live : Bool
    pub shows : link_at (meaning_at u) j ≡ holds c (slice_index_or (meaning_at t).readings c rules.blank) live
    pub live_if_none : NoneBetween t u c → live ≡ true
    pub none_if_live : live ≡ true → NoneBetween t u c

  -- party p's operation, which came into force in call u, has the answer a: it is in force with it, or the turn handed it over
  abbrev pub HasAnswer : ℕ → ℕ → Answer → Type 0
  HasAnswer u p a =
      (activity_of (meaning_at (suc u)) p ≡ in_force a)
      ⊎ ((activity_of (meaning_at (suc u)) p ≡ idle) × (turn_answer rules (state_at u) p ≡ accepted a))

  -- what channel c reads before call t
  abbrev pub reading_at : ℕ → ℕ → R
  reading_at t c = slice_index_or (meaning_at t).readings c rules.blank

  pub record LinksIdeal : Type 0 where
    -- a channel reads what it read, unless a put on a live link of it comes into force; then it reads what that put gave
    pub unchanged : (t c : ℕ) → t < length calls → (StoresAt t c → ⊥) → reading_at (suc t) c ≡ reading_at t c
    pub changed : (t c : ℕ) → c < (rules.plan start).channels → (x : StoresAt t c) → reading_at (suc t) c ≡ x.stores.reading
    -- a link that is not empty was taken, and has been held since
    pub taken : (u j : ℕ) → u ≤ length calls → link_at (meaning_at u) j ≢ vacant → (t : ℕ) × (p : ℕ) × (c : ℕ) × ComesAt t p (take_op j c) × (t < u) × HeldSince t u j
    -- what it is then
    pub links : (t u p j c : ℕ) → ComesAt t p (take_op j c) → t < u → u ≤ length calls → HeldSince t u j → SinceTake t u j c
    -- a put that comes into force on it answers "put" exactly if no put stored on the channel since the take, and else "missed"
    pub puts : (t u p q j c : ℕ) (r : R) (a : Answer) → ComesAt t p (take_op j c) → t < u → HeldSince t u j → ComesAt u q (put j r) → HasAnswer u q a
        → (NoneBetween t u c → a ≡ Stored) × (a ≡ Stored → NoneBetween t u c) × ((a ≡ Stored) ⊎ (a ≡ Missed))
    -- and a check "live", else "broken"
    pub checks : (t u p q j c : ℕ) (a : Answer) → ComesAt t p (take_op j c) → t < u → HeldSince t u j → ComesAt u q (check j) → HasAnswer u q a
        → (NoneBetween t u c → a ≡ Live) × (a ≡ Live → NoneBetween t u c) × ((a ≡ Live) ⊎ (a ≡ Broken))
    -- after a put on its channel a link is broken, whatever the channel reads by then
    pub broken : (t v u p j c : ℕ) → ComesAt t p (take_op j c) → t < v → v < u → u ≤ length calls → StoresAt v c → HeldSince t u j
        → (x : R) × (link_at (meaning_at u) j ≡ holds c x false)
    -- what a party's links show is changed by nobody else's call
    pub alone : (t p j : ℕ) → t < length calls → Own (rules.plan start) p j → caller_of (call_at t) ≢ p
        → shown_by (link_at (meaning_at (suc t)) j) ≡ shown_by (link_at (meaning_at t) j)

abbrev pub IdealLinks : {R : Type 0} → Rules R → Type 0
IdealLinks {R} rules = (s : rules.State) → Fresh rules s → (calls : List (Call R)) → LinksIdeal rules s calls

-- ** patience

-- how many of the calls are turns of party p
abbrev pub turns_of : {R : Type 0} → ℕ → List (Call R) → ℕ
turns_of p [] = 0
turns_of p (Take q i c ∷ ks) = turns_of p ks
turns_of p (Put q i r ∷ ks) = turns_of p ks
turns_of p (Check q i ∷ ks) = turns_of p ks
turns_of p (Drop q i ∷ ks) = turns_of p ks
turns_of p (Look q i ∷ ks) = turns_of p ks
turns_of p (Turn q ∷ ks) = cond (q == p) 1 0 + turns_of p ks

-- party p's operation goes on through all the calls, and no other party's put comes into force on a live link of the channel on which it waits
abbrev pub GoesOn : {R : Type 0} (rules : Rules R) → rules.State → ℕ → List (Call R) → Type 0
GoesOn rules s p [] = Unit {0}
GoesOn rules s p (k ∷ ks) =
    (activity_of (rules.means (after rules s k)) p ≢ idle)
    × ((q c : ℕ) → k ≡ Turn q → q ≢ p → Stores (rules.means s) (rules.means (after rules s k)) q c → is_on (rules.means s) (activity_of (rules.means s) p) c → ⊥)
    × GoesOn rules (after rules s k) p ks

-- so of any patience + 1 turns that a party spends in one operation, undisturbed, one ends it
abbrev pub Patient : {R : Type 0} → Rules R → Type 0
Patient {R} rules = (s : rules.State) → rules.sound s → (p : ℕ) → p < (rules.plan s).parties → activity_of (rules.means s) p ≢ idle
    → (ks : List (Call R)) → GoesOn rules s p ks → turns_of p ks ≤ rules.patience s
