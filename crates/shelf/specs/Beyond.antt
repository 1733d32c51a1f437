-- Blocks beyond the need of a shelf that stands on a row of blocks.
use Rattle.std.specs.Prelude.{◌≡◌, ℕ, List, length, drop}
use Rattle.shelf.specs.Rules.{Rules}
use Rattle.shelf.specs.Calls.{Call}
use Rattle.shelf.specs.Laws.{after_all}

-- a row kept its length, and its blocks from n on what they held
pub record Untouched {R : Type 0} (n : ℕ) (before later : List R) : Type 0 where
  pub size : length later ≡ length before
  pub beyond : drop n later ≡ drop n before

-- and so it is whatever is called from state s on
abbrev pub BeyondStays : {R : Type 0} (rules : Rules R) (row : rules.State → List R) → ℕ → rules.State → Type 0
BeyondStays {R} rules row n s = (calls : List (Call R)) → Untouched n (row s) (row (after_all rules s calls))
