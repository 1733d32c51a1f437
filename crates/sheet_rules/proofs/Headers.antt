-- A header that is read is the header that is packed there.
use Rattle.std.proofs.Common.{◌≡◌, ℕ, ◌≤◌, false, List, [], ◌∷◌, ◌++◌, drop, sym, refl, ap, ◌∙◌, subst, arith}
use Rattle.std.proofs.lemmas.List.{append_assoc}
use Rattle.std.proofs.lemmas.Bool.Decides.{nat_tests}
use Rattle.sheet_rules.specs.Bits.{packed}
use Rattle.sheet_rules.specs.Contents.{Header}
use Rattle.sheet_rules.specs.Formats.{outside, header_format}
use Rattle.sheet_rules.specs.Sheets.{Field, field_of, packed_all, header_fields, HeaderFits}
use Rattle.sheet_rules.proofs.Reading.{Got}

pub within : (low high v : ℕ) → outside low high v ≡ false → (low ≤ v) × (v ≤ high)
within low high v e = (grind (arith, nat_tests), grind (arith, nat_tests))

pub not_outside : (low high v : ℕ) → low ≤ v → v ≤ high → outside low high v ≡ false
not_outside low high v l h = grind (arith, nat_tests)

-- one field before others
pub before : (w v : ℕ) (fs : List Field) (bits bits' rest : List ℕ)
    → bits ≡ packed w v ++ bits' → bits' ≡ packed_all fs ++ rest → bits ≡ packed_all (field_of w v ∷ fs) ++ rest
before w v fs bits bits' rest p q =
    p ∙ (ap (λ (xs : List ℕ). packed w v ++ xs) q ∙ sym (append_assoc (packed w v) (packed_all fs) rest))

-- some bits begin with a header in its ranges
pub record Headed (bits : List ℕ) (h : Header) (rest : List ℕ) : Type 0 where
  pub fits : HeaderFits h
  pub packs : bits ≡ packed_all (header_fields h) ++ rest

pub got_header : (bits : List ℕ) (h : Header) (rest : List ℕ) → Got header_format bits h rest → Headed bits h rest
got_header bits h rest a =
    let b = a.5 in
    let c = b.5 in
    let d = c.5 in
    let e = d.5 in
    let f = e.5 in
    let g = f.5 in
    let end = g.5 in
    let version : a.0 ≡ 1 = omega (arith, within 1 1 a.0 a.2) in
    let spare : g.0 ≡ 0 = omega (arith, within 0 0 g.0 g.2) in
    let made : Header = record { kind = b.0; shelf = c.0; parties = d.0; links = e.0; channels = f.0 } in
    let fs : List Field = header_fields made in
    let whole : Headed bits made rest = record {
      fits = record {
        kind = (within 0 1 b.0 b.2).1;
        shelf = (within 0 1 c.0 c.2).1;
        some_parties = (within 1 24 d.0 d.2).0;
        most_parties = (within 1 24 d.0 d.2).1;
        some_links = (within 1 4 e.0 e.2).0;
        most_links = (within 1 4 e.0 e.2).1;
        some_channels = (within 1 64 f.0 f.2).0;
        most_channels = (within 1 64 f.0 f.2).1;
      };
      packs =
          before 4 1 (drop 1 fs) bits a.3 rest (a.4 ∙ ap (λ (x : ℕ). packed 4 x ++ a.3) version)
          (before 2 b.0 (drop 2 fs) a.3 b.3 rest b.4
          (before 2 c.0 (drop 3 fs) b.3 c.3 rest c.4
          (before 5 d.0 (drop 4 fs) c.3 d.3 rest d.4
          (before 3 e.0 (drop 5 fs) d.3 e.3 rest e.4
          (before 7 f.0 (drop 6 fs) e.3 f.3 rest f.4
          (before 1 0 [] f.3 g.3 rest (g.4 ∙ ap (λ (x : ℕ). packed 1 x ++ g.3) spare) end.1))))));
    } in
    subst (λ (x : Header). Headed bits x rest) end.0 whole

-- a part of the fields, and what stands behind them
pub after : (w v : ℕ) (fs : List Field) (rest : List ℕ) → packed_all (field_of w v ∷ fs) ++ rest ≡ packed w v ++ (packed_all fs ++ rest)
after w v fs rest = append_assoc (packed w v) (packed_all fs) rest

pub header_got : (bits : List ℕ) (h : Header) (rest : List ℕ) → Headed bits h rest → Got header_format bits h rest
header_got bits h rest t =
    let s = t.fits in
    let fs : List Field = header_fields h in (
      1,
      omega arith,
      refl,
      _,
      t.packs ∙ after 4 1 (drop 1 fs) rest,
      (
        h.kind,
        omega arith,
        not_outside 0 1 h.kind (omega arith) s.kind,
        _,
        after 2 h.kind (drop 2 fs) rest,
        (
          h.shelf,
          omega arith,
          not_outside 0 1 h.shelf (omega arith) s.shelf,
          _,
          after 2 h.shelf (drop 3 fs) rest,
          (
            h.parties,
            omega arith,
            not_outside 1 24 h.parties s.some_parties s.most_parties,
            _,
            after 5 h.parties (drop 4 fs) rest,
            (
              h.links,
              omega arith,
              not_outside 1 4 h.links s.some_links s.most_links,
              _,
              after 3 h.links (drop 5 fs) rest,
              (
                h.channels,
                omega arith,
                not_outside 1 64 h.channels s.some_channels s.most_channels,
                _,
                after 7 h.channels (drop 6 fs) rest,
                (0, omega arith, refl, _, after 1 0 [] rest, (refl, refl)),
              ),
            ),
          ),
        ),
      ),
    )
