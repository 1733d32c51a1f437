-- Bits say one thing at most: what they say is what reading from the front gives.
use Rattle.std.proofs.Common.{◌≡◌, ℕ, zero, suc, ◌+◌, ◌-◌, ◌*◌, ◌<◌, ◌≤◌, Bool, true, false, cond, ltb, List, [], ◌∷◌, ◌++◌, length, drop, Some, None, Option, sym, refl, ap, ◌∙◌, subst, arith}
use Rattle.std.specs.Int.Digits.{AllBelowBase}
use Rattle.std.specs.List.{AllByRecursion}
use Rattle.std.proofs.lemmas.List.{append_assoc, append-nil, length-append, drop_at}
use Rattle.std.proofs.ByRecursion.{All-drop}
use Rattle.std.proofs.lemmas.Bool.{cond-true, cond-false, lt-ltb, le-ltb}
use Rattle.sheet_rules.specs.Bits.{packed}
use Rattle.sheet_rules.specs.Contents.{Header, Entry, amendment, picture, turn, release, look, Fault, fault_at, Contents, nothing_but, read_to}
use Rattle.sheet_rules.specs.Formats.{Read, got, fails, read_as, header_format, entry_format, only_fill}
use Rattle.sheet_rules.specs.Sheets.{Field, field_of, packed_all, header_fields, entry_fields, HeaderFits, EntryFits, packed_entries, end_code, Filled, most_bits, IsSheet, Ends, entry_fails, runs_on, ends, Says, too_long, header_fails, goes_on, ReadRight, OneMeaning}
use Rattle.sheet_rules.proofs.Packing.{length_packed}
use Rattle.sheet_rules.proofs.Reading.{fails_read, got_read}
use Rattle.sheet_rules.proofs.Headers.{header_got}
use Rattle.sheet_rules.proofs.Entries.{entry_got}
use Rattle.sheet_rules.proofs.Fill.{filled_is, is_filled}

-- entries and the fault that ends them
record Tail : Type 0 where
  entries : List Entry
  fault : Option Fault

abbrev go_on : Read (Option Entry) → (List ℕ → ℕ → Tail) → Tail
go_on (fails f) next = record { entries = []; fault = Some f }
go_on (got None rest k) next = record { entries = []; fault = cond (only_fill rest) None (Some (fault_at 23 k)) }
go_on (got (Some e) rest k) next = record { entries = e ∷ (next rest k).entries; fault = (next rest k).fault }

-- at most n entries from a place
abbrev tail_from : ℕ → List ℕ → ℕ → Tail
tail_from zero bits k = record { entries = []; fault = None }
tail_from (suc n) bits k = go_on (read_as entry_format bits k) (tail_from n)

abbrev from_header : ℕ → Read Header → Contents
from_header n (fails f) = nothing_but f
from_header n (got h rest k) = read_to h (tail_from n rest k).entries (tail_from n rest k).fault

-- what reading from the front gives
abbrev contents_in : List ℕ → Contents
contents_in bits = cond (ltb most_bits (length bits)) (nothing_but (fault_at 24 0)) (from_header (suc (length bits)) (read_as header_format bits 0))

abbrev prepend : List Entry → Tail → Tail
prepend es t = record { entries = es ++ t.entries; fault = t.fault }

walk : (es : List Entry) (rest : List ℕ) (k n m : ℕ) → AllByRecursion EntryFits es → m ≡ length es + n
    → tail_from m (packed_entries es ++ rest) k ≡ prepend es (tail_from n rest (k + length (packed_entries es)))
walk [] rest k n m u e =
    let same : m ≡ n = omega arith in
    ap (λ (j : ℕ). tail_from j rest k) same ∙ ap (λ (j : ℕ). tail_from n rest j) (let z : k ≡ k + 0 = omega arith in z)
walk (x ∷ es) rest k n m u e =
    let more : List ℕ = packed_entries es ++ rest in
    let bits : List ℕ = packed_all (entry_fields x) ++ more in
    let apart : packed_entries (x ∷ es) ++ rest ≡ bits = append_assoc (packed_all (entry_fields x)) (packed_entries es) rest in
    let r = got_read entry_format bits k (Some x) more (entry_got bits (Some x) more (u.0, refl)) in
    let long : k + length bits ≡ r.0 + length more = r.2 in
    let place : r.0 + length (packed_entries es) ≡ k + length (packed_entries (x ∷ es)) =
    omega (arith, length-append (packed_all (entry_fields x)) more, length-append (packed_all (entry_fields x)) (packed_entries es)) in
    let fuel : m ≡ suc (length es + n) = omega arith in
    ap (λ (j : ℕ). tail_from j (packed_entries (x ∷ es) ++ rest) k) fuel
    ∙ (ap (λ (xs : List ℕ). tail_from (suc (length es + n)) xs k) apart
    ∙ (ap (λ (y : Read (Option Entry)). go_on y (tail_from (length es + n))) r.1
    ∙ (ap (λ (t : Tail). prepend (x ∷ []) t) (walk es rest r.0 n (length es + n) u.1 refl)
    ∙ ap (λ (j : ℕ). prepend (x ∷ es) (tail_from n rest j)) place)))

-- every entry has a code and a party, eight bits
two_fields : (v p : ℕ) (fs : List Field) → 8 ≤ length (packed_all (field_of 3 v ∷ field_of 5 p ∷ fs))
two_fields v p fs =
    omega (arith, length-append (packed 3 v) (packed_all (field_of 5 p ∷ fs)), length_packed 3 v, length-append (packed 5 p) (packed_all fs), length_packed 5 p)

pub eight_bits : (e : Entry) → 8 ≤ length (packed_all (entry_fields e))
eight_bits (amendment p c w) = two_fields 1 p (drop 2 (entry_fields (amendment p c w)))
eight_bits (picture p cs) = two_fields 2 p (drop 2 (entry_fields (picture p cs)))
eight_bits (turn p) = two_fields 3 p []
eight_bits (release p) = two_fields 4 p []
eight_bits (look p i) = two_fields 5 p (drop 2 (entry_fields (look p i)))

pub few : (es : List Entry) → 8 * length es ≤ length (packed_entries es)
few [] = omega arith
few (e ∷ es) = omega (arith, length-append (packed_all (entry_fields e)) (packed_entries es), eight_bits e, few es)

abbrev with_tail : Header → List Entry → Tail → Contents
with_tail h es t = read_to h (es ++ t.entries) t.fault

module _ (bits : List ℕ) (h : Header) (es : List Entry) (s : length bits ≤ most_bits) (f : HeaderFits h) (u : AllByRecursion EntryFits es) where
  abbrev behind : ℕ
  behind = length (packed_all (header_fields h)) + length (packed_entries es)

  -- after a header and entries, reading goes on with the rest
  reading_goes_on : (rest : List ℕ) → bits ≡ packed_all (header_fields h) ++ (packed_entries es ++ rest)
      → (n : ℕ) × (contents_in bits ≡ with_tail h es (go_on (read_as entry_format rest behind) (tail_from n)))
  reading_goes_on rest packs =
      let head : List ℕ = packed_all (header_fields h) in
      let more : List ℕ = packed_entries es ++ rest in
      let r = got_read header_format bits 0 h more (header_got bits h more (record { fits = f; packs = packs })) in
      let long : 0 + length bits ≡ r.0 + length more = r.2 in
      let place : r.0 + length (packed_entries es) ≡ behind = omega (arith, ap length packs, length-append head more) in
      let n : ℕ = length bits - length es in
      let fuel : suc (length bits) ≡ length es + suc n =
      omega (arith, ap length packs, length-append head more, length-append (packed_entries es) rest, few es) in (
        n,
        cond-false _ (nothing_but (fault_at 24 0)) (from_header (suc (length bits)) (read_as header_format bits 0)) (le-ltb most_bits (length bits) s)
            ∙ (ap (from_header (suc (length bits))) r.1
            ∙ (ap (with_tail h []) (walk es rest r.0 (suc n) (suc (length bits)) u fuel)
            ∙ ap (λ (j : ℕ). with_tail h es (tail_from (suc n) rest j)) place)),
      )

  -- the rest after the end code
  at_end : (rest : List ℕ) (b : Bool) → bits ≡ packed_all (header_fields h) ++ (packed_entries es ++ (end_code ++ rest)) → only_fill rest ≡ b
      → read_to h es (cond b None (Some (fault_at 23 (behind + 3)))) ≡ contents_in bits
  at_end rest b e o =
      let g = reading_goes_on (end_code ++ rest) e in
      let r = got_read entry_format (end_code ++ rest) behind None rest (entry_got (end_code ++ rest) None rest refl) in
      let long : behind + length (end_code ++ rest) ≡ r.0 + length rest = r.2 in
      let place : r.0 ≡ behind + 3 = omega (arith, length-append end_code rest, length_packed 3 0) in
      sym (g.1
      ∙ (ap (λ (y : Read (Option Entry)). with_tail h es (go_on y (tail_from g.0))) r.1
      ∙ (ap (λ (xs : List Entry). read_to h xs (cond (only_fill rest) None (Some (fault_at 23 r.0)))) (append-nil es)
      ∙ (ap (λ (x : Bool). read_to h es (cond x None (Some (fault_at 23 r.0)))) o
      ∙ ap (λ (j : ℕ). read_to h es (cond b None (Some (fault_at 23 j)))) place))))

-- the rest of some bits are bits
pub under_rest : (front rest : List ℕ) → AllBelowBase 2 (front ++ rest) → AllBelowBase 2 rest
under_rest front rest u =
    subst (λ (xs : List ℕ). AllBelowBase 2 xs) (drop_at front rest (length front) refl) (All-drop (λ d. d < 2) (length front) (front ++ rest) u)

pub not_fill : (rest : List ℕ) → AllBelowBase 2 rest → (Filled rest → ⊥) → only_fill rest ≡ false
not_fill rest u no_fill = by_test (only_fill rest) refl
  where
    by_test : (b : Bool) → only_fill rest ≡ b → only_fill rest ≡ false
    by_test true t = absurd (no_fill (is_filled rest u t))
    by_test false t = t

-- behind the header
said_behind : (bits : List ℕ) (h : Header) (rest : List ℕ) {es : List Entry} {f : Option Fault} → AllBelowBase 2 bits → length bits ≤ most_bits → HeaderFits h
    → bits ≡ packed_all (header_fields h) ++ rest → Ends rest (length (packed_all (header_fields h))) es f → read_to h es f ≡ contents_in bits
said_behind bits h rest u s hf e (entry_fails es more g ef q d) =
    let r = reading_goes_on bits h es s hf ef more (e ∙ ap (λ (xs : List ℕ). packed_all (header_fields h) ++ xs) q) in
    sym (r.1
    ∙ (ap (λ (y : Read (Option Entry)). with_tail h es (go_on y (tail_from r.0))) (fails_read d)
    ∙ ap (λ (xs : List Entry). read_to h xs (Some g)) (append-nil es)))
said_behind bits h rest u s hf e (runs_on es more ef q no_fill) =
    let under : AllBelowBase 2 more =
    under_rest end_code more (under_rest (packed_entries es) (end_code ++ more) (subst (λ (xs : List ℕ). AllBelowBase 2 xs) q
    (under_rest (packed_all (header_fields h)) rest (subst (λ (xs : List ℕ). AllBelowBase 2 xs) e u)))) in
    at_end bits h es s hf ef more false (e ∙ ap (λ (xs : List ℕ). packed_all (header_fields h) ++ xs) q) (not_fill more under no_fill)
said_behind bits h rest u s hf e (ends es more ef q fill) =
    at_end bits h es s hf ef more true (e ∙ ap (λ (xs : List ℕ). packed_all (header_fields h) ++ xs) q) (filled_is more fill)

-- what some bits say is what reading from the front gives
said : (bits : List ℕ) (c : Contents) → AllBelowBase 2 bits → Says bits c → c ≡ contents_in bits
said bits c u (too_long h) =
    sym (cond-true _ (nothing_but (fault_at 24 0)) (from_header (suc (length bits)) (read_as header_format bits 0)) (lt-ltb most_bits (length bits) h))
said bits c u (header_fails f s d) =
    sym (cond-false _ (nothing_but (fault_at 24 0)) (from_header (suc (length bits)) (read_as header_format bits 0)) (le-ltb most_bits (length bits) s)
    ∙ ap (from_header (suc (length bits))) (fails_read d))
said bits c u (goes_on h es rest f s hf e d) = said_behind bits h rest u s hf e d

pub one_meaning : OneMeaning
one_meaning bits u c d p q = said bits c u p ∙ sym (said bits d u q)

-- bits that say something without a fault are a sheet
whole_behind : (bits : List ℕ) (h : Header) (rest : List ℕ) (k : ℕ) {es : List Entry} {f : Option Fault} → length bits ≤ most_bits → HeaderFits h
    → bits ≡ packed_all (header_fields h) ++ rest → Ends rest k es f → f ≡ None → IsSheet bits h es
whole_behind bits h rest k s hf e (entry_fails es more g ef q d) n = cc
whole_behind bits h rest k s hf e (runs_on es more ef q no_fill) n = cc
whole_behind bits h rest k s hf e (ends es more ef q fill) n =
    record { short = s; header = hf; entries = ef; fill = more; filled = fill; packs = e ∙ ap (λ (xs : List ℕ). packed_all (header_fields h) ++ xs) q }

whole_said : (bits : List ℕ) {c : Contents} → Says bits c → c.fault ≡ None → (h : Header) × (es : List Entry) × IsSheet bits h es × (c ≡ read_to h es None)
whole_said bits (too_long l) n = cc
whole_said bits (header_fails f s d) n = cc
whole_said bits (goes_on h es rest f s hf e d) n =
    (h, es, whole_behind bits h rest (length (packed_all (header_fields h))) s hf e d n, ap (read_to h es) n)

-- a sheet says its header and entries
sheet_says : (bits : List ℕ) (h : Header) (es : List Entry) → IsSheet bits h es → Says bits (read_to h es None)
sheet_says bits h es t =
    goes_on h es (packed_entries es ++ (end_code ++ t.fill)) None t.short t.header t.packs (ends es t.fill t.entries refl t.filled)

-- whoever gives what the bits say has read them right
pub read_right : (bits : List ℕ) (c : Contents) → AllBelowBase 2 bits → Says bits c → ReadRight bits c
read_right bits c u t = record {
  says = t;
  only = λ d q. one_meaning bits u d c q t;
  sheet_accepted = λ h es q. one_meaning bits u c (read_to h es None) t (sheet_says bits h es q);
  accepted_sheet = whole_said bits t;
}
