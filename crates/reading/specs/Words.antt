-- The three fields of a capture's word, most significant first: first sample (32 bits), samples (16), levels (16).
use Rattle.std.specs.Prelude.{ℕ, ◌/◌, ◌%◌, ◌^◌}

abbrev pub first_of : ℕ → ℕ
first_of w = w / 2 ^ 32

abbrev pub samples_of : ℕ → ℕ
samples_of w = w / 2 ^ 16 % 2 ^ 16

abbrev pub levels_of : ℕ → ℕ
levels_of w = w % 2 ^ 16
