-- What every shelf gives: its exact rules, what they mean, and the laws that tie the two.
use Rattle.std.specs.Prelude.{◌≡◌, ℕ, ◌+◌, ◌<◌, ◌≤◌, ◌≢◌, ◌⊎◌}
use Rattle.plan.specs.Plans.{InRange, Small}
use Rattle.plan.specs.declared.check.Plan.{Plan}
use Rattle.shelf.specs.declared.answer.Answer.{Answer}
use Rattle.shelf.specs.Meaning.{Own, vacant, take, put, check, idle, waits, Meaning, link_at, activity_of, does, linking, Turned, Sizes, blank_meaning, Stores, is_on}

-- what every start and drop of party p keeps: the laws' ground, plan and patience, and nobody else's turns left grow
pub record Keeps (State : Type 0) (plan : State → Plan) (patience : State → ℕ) (sound : State → Type 0) (left : State → ℕ → ℕ) (p : ℕ) (s t : State) : Type 0 where
  pub sound' : sound t
  pub plan' : plan t ≡ plan s
  pub patience' : patience t ≡ patience s
  pub left' : (q : ℕ) → q ≢ p → q < (plan s).parties → left t q ≤ left s q

-- The rules of a shelf over readings R. A link is given by its number among the links of all parties.
-- The step functions say what an accepted call makes of the state; when a call is accepted is the same for every shelf.
-- What is open to a maker is how a state looks, which turn brings an operation into force, and the patience; the laws
-- say what holds of these all the same.
pub record Rules (R : Type 0) : Type 1 where
  pub State : Type 0
  pub blank : R
  pub plan : State → Plan
  pub patience : State → ℕ
  -- the states of which the laws hold: all that a shelf can be in
  pub sound : State → Type 0
  pub means : State → Meaning R
  -- the turns that party p's operation may still spend while no other party's put comes into force on a live link of its channel
  pub left : State → ℕ → ℕ
  pub start_take : State → ℕ → ℕ → ℕ → State
  pub start_put : State → ℕ → ℕ → R → State
  pub start_check : State → ℕ → ℕ → State
  pub dropped : State → ℕ → ℕ → State
  pub turned : State → ℕ → State
  pub answer : State → ℕ → Answer
  -- ** laws, in words of the meaning
  pub small : (s : State) → sound s → Small (plan s)
  pub sizes : (s : State) → sound s → Sizes (plan s) (means s)
  pub takes : (s : State) (p j c : ℕ) → sound s → p < (plan s).parties → Own (plan s) p j → c < (plan s).channels → activity_of (means s) p ≡ idle
      → Keeps State plan patience sound left p s (start_take s p j c) × (means (start_take s p j c) ≡ does (linking (means s) j vacant) p (waits (take j c)))
  pub puts : (s : State) (p j : ℕ) (r : R) → sound s → p < (plan s).parties → Own (plan s) p j → activity_of (means s) p ≡ idle → link_at (means s) j ≢ vacant
      → Keeps State plan patience sound left p s (start_put s p j r) × (means (start_put s p j r) ≡ does (means s) p (waits (put j r)))
  pub checks : (s : State) (p j : ℕ) → sound s → p < (plan s).parties → Own (plan s) p j → activity_of (means s) p ≡ idle → link_at (means s) j ≢ vacant
      → Keeps State plan patience sound left p s (start_check s p j) × (means (start_check s p j) ≡ does (means s) p (waits (check j)))
  pub drops : (s : State) (p j : ℕ) → sound s → p < (plan s).parties → Own (plan s) p j → activity_of (means s) p ≡ idle
      → Keeps State plan patience sound left p s (dropped s p j) × (means (dropped s p j) ≡ linking (means s) j vacant)
  pub turns : (s : State) (p : ℕ) → sound s → p < (plan s).parties → activity_of (means s) p ≢ idle
      → sound (turned s p) × (plan (turned s p) ≡ plan s) × (patience (turned s p) ≡ patience s) × Turned blank (means s) p (answer s p) (means (turned s p))
  -- the turns left are at most the patience and one, at least one while an operation runs, and fall with each turn that does not end it
  pub most : (s : State) (p : ℕ) → sound s → p < (plan s).parties → left s p ≤ patience s + 1
  pub least : (s : State) (p : ℕ) → sound s → p < (plan s).parties → activity_of (means s) p ≢ idle → 1 ≤ left s p
  pub falls : (s : State) (p : ℕ) → sound s → p < (plan s).parties → activity_of (means s) p ≢ idle
      → (activity_of (means (turned s p)) p ≡ idle) ⊎ (left (turned s p) p < left s p)
  -- another party's grow only if this turn brings a put into force on a live link of the channel of its waiting operation
  pub stays : (s : State) (p q : ℕ) → sound s → p < (plan s).parties → q < (plan s).parties → q ≢ p → activity_of (means s) p ≢ idle
      → (left (turned s p) q ≤ left s q) ⊎ ((c : ℕ) × Stores (means s) (means (turned s p)) p c × is_on (means s) (activity_of (means s) q) c)

-- a fresh shelf, by its meaning: the plan in range, readings blank, links empty, parties idle
pub record Fresh {R : Type 0} (rules : Rules R) (s : rules.State) : Type 0 where
  pub is_sound : rules.sound s
  pub in_range : InRange (rules.plan s)
  pub is_blank : rules.means s ≡ blank_meaning rules.blank (rules.plan s)
