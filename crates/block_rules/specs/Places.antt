-- Where blocks stand, and which blocks nobody touches.
use Rattle.std.specs.Prelude.{◌≡◌, ℕ, ◌+◌, ◌<◌, ◌≤◌, Bool, true, false, List, length, Some, slice_set}
use Rattle.plan.specs.Plans.{width, need}
use Rattle.plan.specs.Refusals.{Outcome, accepted, refused}
use Rattle.plan.specs.declared.check.ShelfType.TheVariants.{Block}
use Rattle.block_rules.specs.declared.parts.Job.{Job}
use Rattle.block_rules.specs.declared.parts.Job.TheVariants.{Idle, Taking, Putting, Scanning, Checking}
use Rattle.block_rules.specs.declared.parts.Place.{Place}
use Rattle.block_rules.specs.declared.parts.Place.TheVariants.{Current, Ready, Retired, InHand}
use Rattle.block_rules.specs.Blocks.{in_hand, State, link, party, current_of}
use Rattle.block_rules.specs.Counting.{times, standings, below}

-- block b stands at a place
abbrev pub StandsAt : {R : Type 0} → State R → ℕ → Place → Type 0
StandsAt s b (Current c) = (c < s.plan.channels) × (current_of s c ≡ b)
StandsAt s b (Ready p) = (p < s.plan.parties) × (1 ≤ times b (party s p).ready)
StandsAt s b (Retired p) = (p < s.plan.parties) × (1 ≤ times b (party s p).retired)
StandsAt s b (InHand p) = (p < s.plan.parties) × (1 ≤ times b (in_hand (party s p).job))

-- at that place and at no other
pub record OnlyAt {R : Type 0} (s : State R) (b : ℕ) (x : Place) : Type 0 where
  pub there : StandsAt s b x
  pub alone : (y : Place) → StandsAt s b y → y ≡ x

-- what the place question answers: the one place of a block of the need, and 10 for any other block
abbrev pub PlaceTold : {R : Type 0} → State R → ℕ → Outcome Place → Type 0
PlaceTold s b (accepted x) = (b < need Block s.plan) × OnlyAt s b x
PlaceTold s b (refused n) = (need Block s.plan ≤ b) × (n ≡ 10)

-- a put waits, or is in force and scans
abbrev pub puts : Job → Bool
puts Idle = false
puts (Taking j c a) = false
puts (Putting j h) = true
puts (Scanning j k) = true
puts (Checking j) = false

pub record Placed {R : Type 0} (s : State R) : Type 0 where
  -- a block of the need stands once among the channels' current blocks and the parties' ready, retired and in-hand ones, and no other block stands there
  pub once : (b : ℕ) → standings s b ≡ below b (need Block s.plan)
  -- so it has one place
  pub places : (b : ℕ) → b < need Block s.plan → (x : Place) × OnlyAt s b x
  -- each party's blocks number H + 1
  pub shares : (p : ℕ) → p < s.plan.parties → length (party s p).ready + length (party s p).retired + length (in_hand (party s p).job) ≡ width s.plan + 1
  -- and one of them is ready whenever a put can start
  pub spare : (p : ℕ) → p < s.plan.parties → puts (party s p).job ≡ false → 1 ≤ length (party s p).ready

-- link j holds its block: it guards the block, and no party has it ready or in hand
pub record Safe {R : Type 0} (s : State R) (j : ℕ) : Type 0 where
  pub guarded : (link s j).guard ≡ Some (link s j).seen
  pub not_ready : (p : ℕ) → p < s.plan.parties → times (link s j).seen (party s p).ready ≡ 0
  pub not_in_hand : (p : ℕ) → p < s.plan.parties → times (link s j).seen (in_hand (party s p).job) ≡ 0

-- what a call of party p may do to the row of state s: write no block, or one that was ready with that party
pub data Writes {R : Type 0} (s : State R) (p : ℕ) (row : List R) : Type 0 where
  nothing : row ≡ s.row → Writes s p row
  ready_block : (b : ℕ) (r : R) → p < s.plan.parties → 1 ≤ times b (party s p).ready → row ≡ slice_set s.row b r → Writes s p row
