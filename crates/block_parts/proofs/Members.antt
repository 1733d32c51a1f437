-- Whether a block stands in a list.
use Rattle.std.proofs.Common.{◌≡◌, ℕ, Bool, true, false, List, reverse, refl, arith}
use Rattle.block_rules.specs.Blocks.{among}
use Rattle.block_rules.specs.Counting.{times}
use Rattle.block_rules.proofs.Counts.{times_reverse, among_times}
use Rattle.block_rules.proofs.Placed.{among_yes, among_not}

-- a stack has the blocks of its list
pub among_reverse : (b : ℕ) (xs : List ℕ) → among b (reverse xs) ≡ among b xs
among_reverse b xs = go (among b xs) refl
  where
    go : (t : Bool) → among b xs ≡ t → among b (reverse xs) ≡ t
    go true e = among_times b (reverse xs) (omega (arith, times_reverse b xs, among_yes b xs e))
    go false e = not_among (reverse xs) (omega (arith, times_reverse b xs, among_not b xs e))
      where
        not_among : (ys : List ℕ) → times b ys ≡ 0 → among b ys ≡ false
        not_among ys z = by (among b ys) refl
          where
            by : (t : Bool) → among b ys ≡ t → among b ys ≡ false
            by true k = absurd (omega (arith, z, among_yes b ys k))
            by false k = k
