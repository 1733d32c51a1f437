-- The states that a block shelf can be in.
use Rattle.std.specs.Prelude.{◌≡◌, ℕ, ◌+◌, ◌<◌, ◌≤◌, length, Some, None}
use Rattle.plan.specs.Plans.{width, need, Small}
use Rattle.plan.specs.declared.check.ShelfType.TheVariants.{Block}
use Rattle.shelf.specs.Meaning.{Own}
use Rattle.block_rules.specs.declared.parts.LinkState.{LinkState}
use Rattle.block_rules.specs.declared.parts.Access.{Access}
use Rattle.block_rules.specs.declared.parts.Access.TheVariants.{ReadCurrent, SetGuard, Compare, ReadBlock}
use Rattle.block_rules.specs.declared.parts.Job.{Job}
use Rattle.block_rules.specs.declared.parts.Job.TheVariants.{Idle, Taking, Putting, Scanning, Checking}
use Rattle.block_rules.specs.Blocks.{share, Party, in_hand, State, link, party, channel_held}
use Rattle.block_rules.specs.Counting.{times, standings, free, below}

-- a link on a channel guards the block that it saw, and that block is neither ready nor in hand
pub record Held {R : Type 0} (s : State R) (l : LinkState) (c : ℕ) : Type 0 where
  pub channel : c < s.plan.channels
  pub guarded : l.guard ≡ Some l.seen
  pub not_free : free s l.seen ≡ 0
  pub known : l.seen < need Block s.plan

abbrev pub LinkOk : {R : Type 0} → State R → LinkState → Type 0
LinkOk s l = (c : ℕ) → l.hold ≡ Some c → Held s l c

abbrev pub AccessOk : LinkState → ℕ → Access → Type 0
AccessOk l c ReadCurrent = l.hold ≡ None
AccessOk l c SetGuard = l.hold ≡ None
AccessOk l c Compare = (l.hold ≡ None) × (l.guard ≡ Some l.seen)
AccessOk l c ReadBlock = l.hold ≡ Some c

pub record TakeOk {R : Type 0} (s : State R) (p : ℕ) (q : Party) (j c : ℕ) (a : Access) : Type 0 where
  pub spare : 1 ≤ length q.ready
  pub own : Own s.plan p j
  pub channel : c < s.plan.channels
  pub stage : AccessOk (link s j) c a

pub record PutOk {R : Type 0} (s : State R) (p j : ℕ) : Type 0 where
  pub own : Own s.plan p j
  pub held : (link s j).hold ≡ Some (channel_held (link s j).hold)

-- k guards are read: if one of those links holds a block that the party retired, then the block was read
pub record ScanOk {R : Type 0} (s : State R) (p : ℕ) (q : Party) (j k : ℕ) : Type 0 where
  pub own : Own s.plan p j
  pub within : k < width s.plan
  pub none : length q.ready ≡ 0
  pub few : length q.read ≤ k
  pub met : (i c : ℕ) → i < k → (link s i).hold ≡ Some c → 1 ≤ times (link s i).seen q.retired → 1 ≤ times (link s i).seen q.read

pub record CheckOk {R : Type 0} (s : State R) (p : ℕ) (q : Party) (j : ℕ) : Type 0 where
  pub spare : 1 ≤ length q.ready
  pub own : Own s.plan p j
  pub held : (link s j).hold ≡ Some (channel_held (link s j).hold)

-- a party has a ready block, but while its put runs
abbrev pub JobOk : {R : Type 0} → State R → ℕ → Party → Job → Type 0
JobOk s p q Idle = 1 ≤ length q.ready
JobOk s p q (Taking j c a) = TakeOk s p q j c a
JobOk s p q (Putting j h) = PutOk s p j
JobOk s p q (Scanning j k) = ScanOk s p q j k
JobOk s p q (Checking j) = CheckOk s p q j

pub record PartyOk {R : Type 0} (s : State R) (p : ℕ) (q : Party) : Type 0 where
  pub size : length q.ready + length q.retired + length (in_hand q.job) ≡ share s.plan
  pub task : JobOk s p q q.job

pub record Sound {R : Type 0} (s : State R) : Type 0 where
  pub small : Small s.plan
  pub rows : need Block s.plan ≤ length s.row
  pub currents : length s.current ≡ s.plan.channels
  pub links : length s.links ≡ width s.plan
  pub parties : length s.parties ≡ s.plan.parties
  pub once : (b : ℕ) → standings s b ≡ below b (need Block s.plan)
  pub held : (j : ℕ) → j < width s.plan → LinkOk s (link s j)
  pub jobs : (p : ℕ) → p < s.plan.parties → PartyOk s p (party s p)
