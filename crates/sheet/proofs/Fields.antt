-- The bits of a sheet from a place on.
use Rattle.std.proofs.Common.{◌≡◌, ℕ, ◌+◌, ◌-◌, ◌*◌, ◌/◌, ◌%◌, ◌^◌, ◌<◌, ◌≤◌, List, length, get_or, drop, sym, ◌∙◌, arith}
use Rattle.std.proofs.ByRecursion.{All-drop}
use Rattle.std.proofs.lemmas.List.{length-drop, get_or-drop}
use Rattle.sheet_rules.specs.Bits.{bits_of}
use Rattle.sheet_rules.proofs.Bytes.{length_bits, under_bits, bit_at}
use Rattle.sheet.specs.Rest.{LeftOfSheet}

pub length_left : (bytes : List ℕ) (at : ℕ) → length (drop at (bits_of bytes)) ≡ 8 * length bytes - at
length_left bytes at = length-drop at (bits_of bytes) ∙ omega (arith, length_bits bytes)

pub bit_left : (bytes : List ℕ) (at i : ℕ) → at + i < 8 * length bytes
    → get_or bytes ((at + i) / 8) 0 / 2 ^ (7 - (at + i) % 8) % 2 ≡ get_or (drop at (bits_of bytes)) i 0
bit_left bytes at i h = bit_at bytes (at + i) h ∙ sym (get_or-drop at (bits_of bytes) i 0)

pub left_of_sheet : (bytes : List ℕ) (at : ℕ) → length bytes ≤ 65536 → at ≤ 8 * length bytes → LeftOfSheet (record { bits = drop at (bits_of bytes); place = at })
left_of_sheet bytes at few within = record { binary = All-drop (λ d. d < 2) at (bits_of bytes) (under_bits bytes); short = omega (arith, few, within, length_left bytes at) }
