-- The format of a run sheet, field by field, and how fields are read: in the order written, until one fails.
use Rattle.std.specs.Prelude.{◌≡◌, ℕ, zero, suc, ◌+◌, ◌^◌, ◌<◌, Bool, true, false, cond, not, ◌&&◌, List, [], ◌∷◌, ◌++◌, length, drop, Some, None, Option, ◌==◌, nat_le, nat_lt}
use Rattle.std.specs.Int.Digits.{number_from_digits}
use Rattle.sheet_rules.specs.Bits.{packed, field_in}
use Rattle.sheet_rules.specs.Contents.{Header, Entry, amendment, picture, turn, release, look, Fault, fault_at}

-- a format: nothing more to read and what was read; or a field of a width, the values that are wrong in it,
-- the number that refuses those, and what follows a value
pub data Format (A : Type 0) : Type 0 where
  gives : A → Format A
  field : (width : ℕ) → (wrong : ℕ → Bool) → (number : ℕ) → (ℕ → Format A) → Format A

-- a field in which no value is wrong
abbrev pub any : {A : Type 0} → ℕ → (ℕ → Format A) → Format A
any w f = field w (λ v. false) 0 f

abbrev pub outside : ℕ → ℕ → ℕ → Bool
outside low high v = not (nat_le low v && nat_le v high)

-- version, kind, shelf, N, K, C, spare
abbrev pub header_format : Format Header
header_format =
    field 4 (outside 1 1) 21 (λ version.
    field 2 (outside 0 1) 21 (λ kind.
    field 2 (outside 0 1) 21 (λ shelf.
    field 5 (outside 1 24) 11 (λ n.
    field 3 (outside 1 4) 12 (λ k.
    field 7 (outside 1 64) 13 (λ c.
    field 1 (outside 0 0) 21 (λ spare.
    gives (record { kind = kind; shelf = shelf; parties = n; links = k; channels = c }))))))))

-- n channels, after those already read
abbrev pub channels_format : ℕ → List ℕ → Format (List ℕ)
channels_format zero cs = gives cs
channels_format (suc n) cs = any 7 (λ c. channels_format n (cs ++ (c ∷ [])))

-- what a format gives, taken further
abbrev pub mapped : {A B : Type 0} → (A → B) → Format A → Format B
mapped g (gives a) = gives (g a)
mapped g (field w wrong n f) = field w wrong n (λ v. mapped g (f v))

abbrev pub amendment_format : Format Entry
amendment_format = any 5 (λ p. any 7 (λ c. any 64 (λ w. gives (amendment p c w))))

abbrev pub picture_format : Format Entry
picture_format = any 5 (λ p. any 3 (λ count. mapped (picture p) (channels_format count [])))

abbrev pub turn_format : Format Entry
turn_format = any 5 (λ p. gives (turn p))

abbrev pub release_format : Format Entry
release_format = any 5 (λ p. gives (release p))

abbrev pub look_format : Format Entry
look_format = any 5 (λ p. any 3 (λ i. gives (look p i)))

-- what follows a record's code; none for the end
abbrev pub body_format : ℕ → Format (Option Entry)
body_format code =
    cond (code == 1) (mapped Some amendment_format) (
    cond (code == 2) (mapped Some picture_format) (
    cond (code == 3) (mapped Some turn_format) (
    cond (code == 4) (mapped Some release_format) (
    cond (code == 5) (mapped Some look_format) (
    gives None)))))

abbrev pub entry_format : Format (Option Entry)
entry_format = field 3 (outside 0 5) 22 body_format

-- ** reading

-- what was read, the bits left and the place of the first of them; or the fault of the first field that fails
pub data Read (A : Type 0) : Type 0 where
  got : A → List ℕ → ℕ → Read A
  fails : Fault → Read A

-- a field that is there, or 20 at its first bit
abbrev pub field_or : {A : Type 0} → Option ℕ → ℕ → (ℕ → Read A) → Read A
field_or None k f = fails (fault_at 20 k)
field_or (Some v) k f = f v

-- reading by a format, from the bits left at a place
abbrev pub read_as : {A : Type 0} → Format A → List ℕ → ℕ → Read A
read_as (gives a) bits k = got a bits k
read_as (field w wrong n f) bits k =
    field_or (field_in bits w) k (λ v. cond (wrong v) (fails (fault_at n k)) (read_as (f v) (drop w bits) (k + w)))

-- after the end code: fewer than eight bits, all zero
abbrev pub only_fill : List ℕ → Bool
only_fill bits = nat_lt (length bits) 8 && number_from_digits 2 bits == 0

-- the first field that fails: cut short, or with a wrong value, or a later one
pub data Fails {A : Type 0} : Format A → List ℕ → ℕ → Fault → Type 0 where
  cut : (w : ℕ) (wrong : ℕ → Bool) (n : ℕ) (f : ℕ → Format A) (bits : List ℕ) (k : ℕ)
      → length bits < w → Fails (field w wrong n f) bits k (fault_at 20 k)
  bad : (w : ℕ) (wrong : ℕ → Bool) (n : ℕ) (f : ℕ → Format A) (v : ℕ) (rest : List ℕ) (k : ℕ)
      → v < 2 ^ w → wrong v ≡ true → Fails (field w wrong n f) (packed w v ++ rest) k (fault_at n k)
  later : (w : ℕ) (wrong : ℕ → Bool) (n : ℕ) (f : ℕ → Format A) (v : ℕ) (rest : List ℕ) (k : ℕ) (e : Fault)
      → v < 2 ^ w → wrong v ≡ false → Fails (f v) rest (k + w) e → Fails (field w wrong n f) (packed w v ++ rest) k e
