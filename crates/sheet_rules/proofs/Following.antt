-- Reading entry after entry: what was read so far, and how it ends.
use Rattle.std.proofs.Common.{◌≡◌, ℕ, ◌+◌, ◌*◌, ◌<◌, ◌≤◌, Bool, true, false, cond, List, [], ◌∷◌, ◌++◌, length, Some, None, Option, sym, refl, ap, ◌∙◌, subst, arith}
use Rattle.std.specs.Int.Digits.{AllBelowBase}
use Rattle.std.specs.List.{AllByRecursion}
use Rattle.std.proofs.lemmas.List.{append_assoc, length-append, flat_map_more}
use Rattle.std.proofs.ByRecursion.{All-push}
use Rattle.std.proofs.lemmas.Bool.{both_ways}
use Rattle.sheet_rules.specs.Contents.{Header, Entry, Fault, fault_at, nothing_but, read_to}
use Rattle.sheet_rules.specs.Formats.{got, fails, read_as, header_format, entry_format, only_fill, Fails}
use Rattle.sheet_rules.specs.Sheets.{packed_all, header_fields, entry_fields, EntryFits, packed_entries, end_code, most_bits, Ends, entry_fails, runs_on, ends, Says, header_fails, goes_on}
use Rattle.sheet_rules.proofs.Reading.{read_got, read_place, read_under, read_fails}
use Rattle.sheet_rules.proofs.Headers.{got_header}
use Rattle.sheet_rules.proofs.Entries.{Entered, got_entry}
use Rattle.sheet_rules.proofs.Fill.{is_filled, filled_is}
use Rattle.sheet_rules.proofs.Meaning.{eight_bits, few}
use Rattle.sheet_rules.proofs.Packing.{length_packed}

-- entries lead from some bits at a place to the bits left at another
pub record Leads (bits : List ℕ) (k : ℕ) (es : List Entry) (rest : List ℕ) (k' : ℕ) : Type 0 where
  pub fit : AllByRecursion EntryFits es
  pub packs : bits ≡ packed_entries es ++ rest
  pub place : k' ≡ k + length (packed_entries es)

pub leads_none : (bits : List ℕ) (k : ℕ) → Leads bits k [] bits k
leads_none bits k = record { fit = tt; packs = refl; place = omega arith }

pub leads_few : (bits : List ℕ) (k : ℕ) (es : List Entry) (rest : List ℕ) (k' : ℕ) → Leads bits k es rest k' → 8 * length es ≤ length bits
leads_few bits k es rest k' t = omega (arith, ap length t.packs, length-append (packed_entries es) rest, few es)

module _ (bits : List ℕ) (k : ℕ) (es : List Entry) (rest : List ℕ) (k' : ℕ) (so_far : Leads bits k es rest k') (u : AllBelowBase 2 rest) where
  module _ (e : Entry) (rest' : List ℕ) (k'' : ℕ) (r : got (Some e) rest' k'' ≡ read_as entry_format rest k') where
    entered : Entered rest (Some e) rest'
    entered = got_entry rest (Some e) rest' (read_got entry_format rest k' (Some e) rest' k'' u (sym r))

    pub leads_more : Leads bits k (es ++ (e ∷ [])) rest' k''
    leads_more =
        let one : List ℕ = packed_all (entry_fields e) in
        let more : packed_entries es ++ one ≡ packed_entries (es ++ (e ∷ [])) = flat_map_more (λ (x : Entry). packed_all (entry_fields x)) [] es e in
        let counted : k' + length rest ≡ k'' + length rest' = read_place entry_format rest k' (Some e) rest' k'' u (sym r) in
        record {
          fit = All-push EntryFits es e so_far.fit entered.0;
          packs = so_far.packs ∙ (ap (λ (xs : List ℕ). packed_entries es ++ xs) entered.1
              ∙ (sym (append_assoc (packed_entries es) one rest') ∙ ap (λ (xs : List ℕ). xs ++ rest') more));
          place = omega (arith, so_far.place, ap length entered.1, length-append one rest', ap length more, length-append (packed_entries es) one);
        }

    pub fewer_left : length rest' < length rest
    fewer_left = omega (arith, ap length entered.1, length-append (packed_all (entry_fields e)) rest', eight_bits e)

  pub leads_fails : (f : Fault) → fails f ≡ read_as entry_format rest k' → Ends bits k es (Some f)
  leads_fails f r =
      entry_fails es rest f so_far.fit so_far.packs
      (subst (λ (j : ℕ). Fails entry_format rest j f) so_far.place (read_fails entry_format rest k' f u (sym r)))

  pub leads_end : (rest' : List ℕ) (k'' : ℕ) → got None rest' k'' ≡ read_as entry_format rest k'
      → Ends bits k es (cond (only_fill rest') None (Some (fault_at 23 k'')))
  leads_end rest' k'' r =
      let there = read_got entry_format rest k' None rest' k'' u (sym r) in
      ended rest' k'' (got_entry rest None rest' there) (read_under entry_format rest None rest' u there)
      (read_place entry_format rest k' None rest' k'' u (sym r)) (only_fill rest') refl
    where
      ended : (rest' : List ℕ) (k'' : ℕ) → rest ≡ end_code ++ rest' → AllBelowBase 2 rest' → k' + length rest ≡ k'' + length rest'
          → (b : Bool) → only_fill rest' ≡ b → Ends bits k es (cond b None (Some (fault_at 23 k'')))
      ended rest' k'' q v counted true t =
          ends es rest' so_far.fit (so_far.packs ∙ ap (λ (xs : List ℕ). packed_entries es ++ xs) q) (is_filled rest' v t)
      ended rest' k'' q v counted false t =
          let place : k + length (packed_entries es) + 3 ≡ k'' =
          omega (arith, so_far.place, ap length q, length-append end_code rest', length_packed 3 0) in
          subst (λ (j : ℕ). Ends bits k es (Some (fault_at 23 j))) place
          (runs_on es rest' so_far.fit (so_far.packs ∙ ap (λ (xs : List ℕ). packed_entries es ++ xs) q)
          (λ fill. both_ways (only_fill rest') t (filled_is rest' fill)))

-- a header, and what follows it
pub header_says : (bits : List ℕ) (h : Header) (rest : List ℕ) (k : ℕ) (es : List Entry) (f : Option Fault) → AllBelowBase 2 bits → length bits ≤ most_bits
    → got h rest k ≡ read_as header_format bits 0 → Ends rest k es f → Says bits (read_to h es f)
header_says bits h rest k es f u s r d =
    let t = got_header bits h rest (read_got header_format bits 0 h rest k u (sym r)) in
    let place : k ≡ length (packed_all (header_fields h)) =
    omega (arith, read_place header_format bits 0 h rest k u (sym r), ap length t.packs, length-append (packed_all (header_fields h)) rest) in
    goes_on h es rest f s t.fits t.packs (subst (λ (j : ℕ). Ends rest j es f) place d)

pub header_says_fault : (bits : List ℕ) (f : Fault) → AllBelowBase 2 bits → length bits ≤ most_bits → fails f ≡ read_as header_format bits 0 → Says bits (nothing_but f)
header_says_fault bits f u s r = header_fails f s (read_fails header_format bits 0 f u (sym r))
