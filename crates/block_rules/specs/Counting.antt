-- How often a block stands where.
use Rattle.std.specs.Prelude.{ℕ, ◌+◌, if◌then◌else◌, List, sum_by, ◌==◌, nat_lt}
use Rattle.block_rules.specs.Blocks.{Party, in_hand, State}

abbrev pub same : ℕ → ℕ → ℕ
same b x = if b == x then 1 else 0

-- how often block b stands in a list
unfoldable pub times : ℕ → List ℕ → ℕ
times b xs = sum_by (same b) xs

-- how often it stands with a party; how often ready or in hand
abbrev pub stands_with : ℕ → Party → ℕ
stands_with b q = times b q.ready + times b q.retired + times b (in_hand q.job)

abbrev pub free_with : ℕ → Party → ℕ
free_with b q = times b q.ready + times b (in_hand q.job)

-- how often it stands among the channels' current blocks and all parties' ready, retired and in-hand ones
unfoldable pub standings : {R : Type 0} → State R → ℕ → ℕ
standings s b = times b s.current + sum_by (stands_with b) s.parties

-- how often it is ready or in hand, of whatever party
unfoldable pub free : {R : Type 0} → State R → ℕ → ℕ
free s b = sum_by (free_with b) s.parties

-- once if b is below n, else never
abbrev pub below : ℕ → ℕ → ℕ
below b n = if nat_lt b n then 1 else 0
