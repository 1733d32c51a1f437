-- What holds of a block shelf whatever is called from a state on.
use Rattle.std.specs.Prelude.{◌≡◌, ℕ, ◌<◌, ◌≢◌, List, Some, None, Option, slice_index_or}
use Rattle.shelf.specs.Calls.{Call, after}
use Rattle.shelf.specs.Laws.{after_all, caller_of}
use Rattle.block_rules.specs.declared.parts.Place.{Place}
use Rattle.block_rules.specs.Blocks.{State, link, party, current_of}
use Rattle.block_rules.specs.Counting.{stands_with}
use Rattle.block_rules.specs.Places.{StandsAt, Placed, Safe, Writes}
use Rattle.block_rules.proofs.AsShelf.{block_shelf_rules}

-- every block of the need stands in one place, and each party's blocks number H + 1
abbrev pub PlacesStay : {R : Type 0} → R → State R → Type 0
PlacesStay {R} d s = (calls : List (Call R)) → Placed (after_all (block_shelf_rules d) s calls)

-- blocks that links hold
pub record HeldBlocks {R : Type 0} (d : R) (s : State R) : Type 0 where
  -- a held link guards its block, and no party has that block ready or in hand
  pub safe : (j c : ℕ) → (link s j).hold ≡ Some c → Safe s j
  -- a call writes no block but one that was ready with its party
  pub writes : (k : Call R) → Writes s (caller_of k) (after (block_shelf_rules d) s k).row
  -- so no call writes the block that a link holds
  pub unwritten : (k : Call R) (j c : ℕ) → (link s j).hold ≡ Some c → slice_index_or (after (block_shelf_rules d) s k).row (link s j).seen d ≡ slice_index_or s.row (link s j).seen d

abbrev pub HeldBlocksStay : {R : Type 0} → R → State R → Type 0
HeldBlocksStay {R} d s = (calls : List (Call R)) → HeldBlocks d (after_all (block_shelf_rules d) s calls)

-- ** what the searches of the place question tell

abbrev pub ChannelTold : {R : Type 0} → State R → ℕ → Option ℕ → Type 0
ChannelTold s b None = (c : ℕ) → c < s.plan.channels → current_of s c ≢ b
ChannelTold s b (Some c) = (c < s.plan.channels) × (current_of s c ≡ b)

abbrev pub PartyTold : {R : Type 0} → State R → ℕ → Option Place → Type 0
PartyTold s b None = (p : ℕ) → p < s.plan.parties → stands_with b (party s p) ≡ 0
PartyTold s b (Some x) = StandsAt s b x
