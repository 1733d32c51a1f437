-- The calls of a shelf: when they are refused, what they answer, and the state then.
use Rattle.std.specs.Prelude.{ℕ, Bool, true, false, not, List, [], ◌∷◌, nat_lt}
use Rattle.plan.specs.Refusals.{Outcome, accepted, refused, Test, unless_refused}
use Rattle.plan.specs.declared.check.Plan.{Plan}
use Rattle.shelf.specs.declared.answer.Answer.{Answer}
use Rattle.shelf.specs.Meaning.{flat, Link, vacant, holds, Activity, idle, waits, in_force, Meaning, link_at, activity_of}
use Rattle.shelf.specs.Rules.{Rules}

pub data Call (R : Type 0) : Type 0 where
  Take : (party link channel : ℕ) → Call R
  Put : (party link : ℕ) (reading : R) → Call R
  Check : (party link : ℕ) → Call R
  Drop : (party link : ℕ) → Call R
  Look : (party link : ℕ) → Call R
  Turn : (party : ℕ) → Call R

abbrev pub is_idle : {R : Type 0} → Activity R → Bool
is_idle idle = true
is_idle (waits o) = false
is_idle (in_force a) = false

abbrev pub is_vacant : {R : Type 0} → Link R → Bool
is_vacant vacant = true
is_vacant (holds c x t) = false

-- the reading of a link; d stands for that of an empty one
abbrev pub reading_on : {R : Type 0} → R → Link R → R
reading_on d vacant = d
reading_on d (holds c x t) = x

-- the tests of each call, down the table of refusals
module _ {R : Type 0} (pl : Plan) (m : Meaning R) where
  abbrev pub known : ℕ → Test
  known p = record { number = 1; passes = nat_lt p pl.parties }

  abbrev pub free : ℕ → Test
  free p = record { number = 2; passes = is_idle (activity_of m p) }

  abbrev pub busy : ℕ → Test
  busy p = record { number = 3; passes = not (is_idle (activity_of m p)) }

  abbrev pub has_link : ℕ → Test
  has_link i = record { number = 4; passes = nat_lt i pl.links }

  abbrev pub has_channel : ℕ → Test
  has_channel c = record { number = 6; passes = nat_lt c pl.channels }

  abbrev pub full : ℕ → ℕ → Test
  full p i = record { number = 8; passes = not (is_vacant (link_at m (flat pl p i))) }

  abbrev pub tests_of : Call R → List Test
  tests_of (Take p i c) = known p ∷ free p ∷ has_link i ∷ has_channel c ∷ []
  tests_of (Put p i r) = known p ∷ free p ∷ has_link i ∷ full p i ∷ []
  tests_of (Check p i) = known p ∷ free p ∷ has_link i ∷ full p i ∷ []
  tests_of (Drop p i) = known p ∷ free p ∷ has_link i ∷ []
  tests_of (Look p i) = known p ∷ free p ∷ has_link i ∷ full p i ∷ []
  tests_of (Turn p) = known p ∷ busy p ∷ []

-- the state that an outcome leaves: a refusal leaves the one there was
abbrev pub leaves : {S : Type 0} → S → Outcome S → S
leaves s (accepted t) = t
leaves s (refused n) = s

module _ {R : Type 0} (rules : Rules R) (s : rules.State) where
  -- a call's value, or the first refusal that fits
  abbrev pub unless_call_refused : {A : Type 0} → Call R → A → Outcome A
  unless_call_refused k a = unless_refused (tests_of (rules.plan s) (rules.means s) k) a

  -- the state after an accepted call
  abbrev pub state_after : Call R → rules.State
  state_after (Take p i c) = rules.start_take s p (flat (rules.plan s) p i) c
  state_after (Put p i r) = rules.start_put s p (flat (rules.plan s) p i) r
  state_after (Check p i) = rules.start_check s p (flat (rules.plan s) p i)
  state_after (Drop p i) = rules.dropped s p (flat (rules.plan s) p i)
  state_after (Look p i) = s
  state_after (Turn p) = rules.turned s p

  -- the state after any call
  abbrev pub after : Call R → rules.State
  after k = leaves s (unless_call_refused k (state_after k))

  -- what a start or a drop answers; a look; a turn
  abbrev pub granted : Call R → Outcome (Unit {0})
  granted k = unless_call_refused k tt

  abbrev pub looked : ℕ → ℕ → Outcome R
  looked p i = unless_call_refused (Look p i) (reading_on rules.blank (link_at (rules.means s) (flat (rules.plan s) p i)))

  abbrev pub turn_answer : ℕ → Outcome Answer
  turn_answer p = unless_call_refused (Turn p) (rules.answer s p)
