-- Bits and fields. A bit is 0 or 1; a field is a number in a given width, most significant bit first.
use Rattle.std.specs.Prelude.{ℕ, zero, suc, ◌/◌, ◌%◌, cond, List, [], ◌∷◌, ◌++◌, length, take, Some, None, Option, nat_le}
use Rattle.std.specs.Int.Digits.{number_from_digits}

-- a number packed into a width
unfoldable pub packed : ℕ → ℕ → List ℕ
packed zero v = []
packed (suc w) v = packed w (v / 2) ++ (v % 2 ∷ [])

-- the bits of a row of bytes
unfoldable pub bits_of : List ℕ → List ℕ
bits_of [] = []
bits_of (b ∷ bs) = packed 8 b ++ bits_of bs

-- the number in the first field of a width, if the bits do not end before it does
unfoldable pub field_in : List ℕ → ℕ → Option ℕ
field_in bits w = cond (nat_le w (length bits)) (Some (number_from_digits 2 (take w bits))) None
