-- What a list of blocks holds.
use Rattle.std.specs.Prelude.{◌≡◌, ℕ, List, [], ◌∷◌, ◌++◌, take, Some, None, Option}
use Rattle.block_parts.specs.declared.block_list.BlockList.{BlockList}

-- its blocks, in the order in which they came
abbrev pub blocks_in : BlockList → List ℕ
blocks_in l = take l.len l.blocks

-- the last block was taken off a list, if there was one
abbrev pub Popped : List ℕ → List ℕ → Option ℕ → Type 0
Popped before after None = (before ≡ []) × (after ≡ [])
Popped before after (Some b) = before ≡ after ++ (b ∷ [])
