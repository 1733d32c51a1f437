-- What a bit reader still has to read.
use Rattle.std.specs.Prelude.{ℕ, ◌+◌, ◌≤◌, List, length, drop}
use Rattle.std.specs.Int.Digits.{AllBelowBase}
use Rattle.sheet_rules.specs.Sheets.{most_bits}

-- the bits that are left, and the place of the first of them in the sheet
pub record Rest : Type 0 where
  pub bits : List ℕ
  pub place : ℕ

-- what is left behind a field of a width
abbrev pub behind : ℕ → Rest → Rest
behind width rest = record { bits = drop width rest.bits; place = rest.place + width }

-- what is left of a sheet: bits, and with those before them no more than a sheet has
pub record LeftOfSheet (rest : Rest) : Type 0 where
  pub binary : AllBelowBase 2 rest.bits
  pub short : rest.place + length rest.bits ≤ most_bits
