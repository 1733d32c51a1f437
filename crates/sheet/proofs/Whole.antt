-- A whole sheet: from the bytes to what they say.
use Rattle.std.proofs.Common.{◌≡◌, ℕ, ◌<◌, ◌≤◌, List, [], ◌∷◌, ◌++◌, cond, map, length, Some, None, Option, sym, arith}
use Rattle.std.proofs.lemmas.List.{map_push, length_push, length-map}
use Rattle.sheet_rules.specs.Bits.{bits_of}
use Rattle.sheet_rules.specs.Contents.{Header, Entry, Fault, fault_at, nothing_but, read_to}
use Rattle.sheet_rules.specs.Formats.{got, fails, read_as, header_format, entry_format, only_fill}
use Rattle.sheet_rules.specs.Sheets.{Ends, too_long, ReadRight}
use Rattle.sheet_rules.proofs.Bytes.{length_bits, under_bits}
use Rattle.sheet_rules.proofs.Reading.{read_place}
use Rattle.sheet_rules.proofs.Following.{Leads, leads_more, fewer_left, leads_fails, leads_end, header_says, header_says_fault}
use Rattle.sheet_rules.proofs.Meaning.{read_right, few}
use Rattle.sheet.specs.Rest.{LeftOfSheet}
use Rattle.sheet.specs.Told.{record_told}
use Rattle.sheet.specs.declared.words.Record.{Record}

-- a turn of the reader: the records so far lead from the bits at the start to those that are read on
module _ {bits : List ℕ} {k : ℕ} (rs : List Record) {rest : List ℕ} {k' : ℕ} (so_far : Leads bits k (map record_told rs) rest k') (of_sheet : LeftOfSheet (record { bits = rest; place = k' })) where
  pub fault_ends : {f : Fault} → fails f ≡ read_as entry_format rest k' → Ends bits k (map record_told rs) (Some f)
  fault_ends {f} r = leads_fails bits k (map record_told rs) rest k' so_far of_sheet.binary f r

  pub end_ends : {rest' : List ℕ} {k'' : ℕ} → got None rest' k'' ≡ read_as entry_format rest k'
      → Ends bits k (map record_told rs) (cond (only_fill rest') None (Some (fault_at 23 k'')))
  end_ends {rest'} {k''} r = leads_end bits k (map record_told rs) rest k' so_far of_sheet.binary rest' k'' r

  module _ (x : Record) {rest' : List ℕ} {k'' : ℕ} (r : got (Some (record_told x)) rest' k'' ≡ read_as entry_format rest k') where
    pub record_shortens : length rest' < length rest
    record_shortens = fewer_left bits k (map record_told rs) rest k' so_far of_sheet.binary (record_told x) rest' k'' r

    led_on : Leads bits k (map record_told rs ++ (record_told x ∷ [])) rest' k''
    led_on = leads_more bits k (map record_told rs) rest k' so_far of_sheet.binary (record_told x) rest' k'' r

    pub record_leads : (rs' : List Record) → rs' ≡ rs ++ (x ∷ []) → Leads bits k (map record_told rs') rest' k''
    record_leads rs' e = rw (e, map_push record_told rs x) led_on

    -- with one record more there are at most 65,536
    pub record_fits : length rs < 65536
    record_fits =
        omega (
          arith,
          led_on.place,
          few (map record_told rs ++ (record_told x ∷ [])),
          read_place entry_format rest k' (Some (record_told x)) rest' k'' of_sheet.binary (sym r),
          of_sheet.short,
          length_push (map record_told rs) (record_told x),
          length-map rs record_told,
        )

module _ (bytes : List ℕ) where
  pub sheet_too_long : 65536 < length bytes → ReadRight (bits_of bytes) (nothing_but (fault_at 24 0))
  sheet_too_long h =
      read_right (bits_of bytes) (nothing_but (fault_at 24 0)) (under_bits bytes) (too_long (omega (arith, length_bits bytes)))

  module _ (s : length bytes ≤ 65536) where
    pub sheet_headed : (h : Header) (rest : List ℕ) (k : ℕ) (es : List Entry) (f : Option Fault)
        → got h rest k ≡ read_as header_format (bits_of bytes) 0 → Ends rest k es f → ReadRight (bits_of bytes) (read_to h es f)
    sheet_headed h rest k es f r d =
        read_right (bits_of bytes) (read_to h es f) (under_bits bytes)
        (header_says (bits_of bytes) h rest k es f (under_bits bytes) (omega (arith, length_bits bytes)) r d)

    pub sheet_headless : (f : Fault) → fails f ≡ read_as header_format (bits_of bytes) 0 → ReadRight (bits_of bytes) (nothing_but f)
    sheet_headless f r =
        read_right (bits_of bytes) (nothing_but f) (under_bits bytes)
        (header_says_fault (bits_of bytes) f (under_bits bytes) (omega (arith, length_bits bytes)) r)
