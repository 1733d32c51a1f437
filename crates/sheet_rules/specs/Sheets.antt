-- The law of sheets: which bits pack which contents, and what any bits say.
use Rattle.std.specs.Prelude.{◌≡◌, ℕ, ◌+◌, ◌*◌, ◌^◌, ◌<◌, ◌≤◌, List, [], ◌∷◌, ◌++◌, length, replicate, Some, None, Option}
use Rattle.std.specs.Int.Digits.{AllBelowBase}
use Rattle.std.specs.List.{flat_map, AllByRecursion}
use Rattle.sheet_rules.specs.Bits.{packed}
use Rattle.sheet_rules.specs.Contents.{Header, Entry, amendment, picture, turn, release, look, Fault, fault_at, Contents, nothing_but, read_to}
use Rattle.sheet_rules.specs.Formats.{Fails, header_format, entry_format}

-- a field of a sheet
pub record Field : Type 0 where
  pub width : ℕ
  pub value : ℕ

-- the field of a width that holds a value
abbrev pub field_of : ℕ → ℕ → Field
field_of w v = record { width = w; value = v }

-- fields packed without gaps
abbrev pub packed_all : List Field → List ℕ
packed_all fs = flat_map (λ f. packed f.width f.value) fs

abbrev pub header_fields : Header → List Field
header_fields h =
    field_of 4 1 ∷ field_of 2 h.kind ∷ field_of 2 h.shelf ∷ field_of 5 h.parties ∷ field_of 3 h.links ∷ field_of 7 h.channels ∷ field_of 1 0 ∷ []

abbrev pub channel_fields : List ℕ → List Field
channel_fields [] = []
channel_fields (c ∷ cs) = field_of 7 c ∷ channel_fields cs

abbrev pub entry_fields : Entry → List Field
entry_fields (amendment p c w) = field_of 3 1 ∷ field_of 5 p ∷ field_of 7 c ∷ field_of 64 w ∷ []
entry_fields (picture p cs) = field_of 3 2 ∷ field_of 5 p ∷ field_of 3 (length cs) ∷ channel_fields cs
entry_fields (turn p) = field_of 3 3 ∷ field_of 5 p ∷ []
entry_fields (release p) = field_of 3 4 ∷ field_of 5 p ∷ []
entry_fields (look p i) = field_of 3 5 ∷ field_of 5 p ∷ field_of 3 i ∷ []

-- a header in its ranges
pub record HeaderFits (h : Header) : Type 0 where
  pub kind : h.kind ≤ 1
  pub shelf : h.shelf ≤ 1
  pub some_parties : 1 ≤ h.parties
  pub most_parties : h.parties ≤ 24
  pub some_links : 1 ≤ h.links
  pub most_links : h.links ≤ 4
  pub some_channels : 1 ≤ h.channels
  pub most_channels : h.channels ≤ 64

-- an entry whose fields fit their widths
abbrev pub EntryFits : Entry → Type 0
EntryFits (amendment p c w) = (p < 2 ^ 5) × (c < 2 ^ 7) × (w < 2 ^ 64)
EntryFits (picture p cs) = (p < 2 ^ 5) × (length cs < 2 ^ 3) × AllByRecursion (λ c. c < 2 ^ 7) cs
EntryFits (turn p) = p < 2 ^ 5
EntryFits (release p) = p < 2 ^ 5
EntryFits (look p i) = (p < 2 ^ 5) × (i < 2 ^ 3)

-- the packed entries in order
abbrev pub packed_entries : List Entry → List ℕ
packed_entries es = flat_map (λ e. packed_all (entry_fields e)) es

abbrev pub end_code : List ℕ
end_code = packed 3 0

-- nothing but zero bits to fill the byte
abbrev pub Filled : List ℕ → Type 0
Filled rest = (n : ℕ) × (n < 8) × (rest ≡ replicate n 0)

-- a sheet has at most 65,536 bytes
abbrev pub most_bits : ℕ
most_bits = 8 * 65536

-- these bits are the sheet of a header and entries: packed header, packed entries in order, end code and zero fill
pub record IsSheet (bits : List ℕ) (h : Header) (es : List Entry) : Type 0 where
  pub short : length bits ≤ most_bits
  pub header : HeaderFits h
  pub entries : AllByRecursion EntryFits es
  pub fill : List ℕ
  pub filled : Filled fill
  pub packs : bits ≡ packed_all (header_fields h) ++ (packed_entries es ++ (end_code ++ fill))

-- what the bits behind a header say, from a place on: entries, and then a field that fails, or the end code
-- with more than fill behind it, or the end
pub data Ends (bits : List ℕ) (k : ℕ) : List Entry → Option Fault → Type 0 where
  entry_fails : (es : List Entry) (rest : List ℕ) (f : Fault) → AllByRecursion EntryFits es → bits ≡ packed_entries es ++ rest
      → Fails entry_format rest (k + length (packed_entries es)) f → Ends bits k es (Some f)
  runs_on : (es : List Entry) (rest : List ℕ) → AllByRecursion EntryFits es → bits ≡ packed_entries es ++ (end_code ++ rest)
      → (Filled rest → ⊥) → Ends bits k es (Some (fault_at 23 (k + length (packed_entries es) + 3)))
  ends : (es : List Entry) (rest : List ℕ) → AllByRecursion EntryFits es → bits ≡ packed_entries es ++ (end_code ++ rest)
      → Filled rest → Ends bits k es None

-- what bits say: too much, or a fault in the header, or a header and what stands behind it
pub data Says (bits : List ℕ) : Contents → Type 0 where
  too_long : most_bits < length bits → Says bits (nothing_but (fault_at 24 0))
  header_fails : (f : Fault) → length bits ≤ most_bits → Fails header_format bits 0 f → Says bits (nothing_but f)
  goes_on : (h : Header) (es : List Entry) (rest : List ℕ) (f : Option Fault) → length bits ≤ most_bits → HeaderFits h
      → bits ≡ packed_all (header_fields h) ++ rest → Ends rest (length (packed_all (header_fields h))) es f → Says bits (read_to h es f)

-- what a reader owes: the contents that the bits say, which are the only ones;
-- so it accepts the sheets, giving the header and the entries packed there, and nothing else
pub record ReadRight (bits : List ℕ) (c : Contents) : Type 0 where
  pub says : Says bits c
  pub only : (d : Contents) → Says bits d → d ≡ c
  pub sheet_accepted : (h : Header) (es : List Entry) → IsSheet bits h es → c ≡ read_to h es None
  pub accepted_sheet : c.fault ≡ None → (h : Header) × (es : List Entry) × IsSheet bits h es × (c ≡ read_to h es None)

-- bits say one thing at most
abbrev pub OneMeaning : Type 0
OneMeaning = (bits : List ℕ) → AllBelowBase 2 bits → (c d : Contents) → Says bits c → Says bits d → c ≡ d
