-- An entry that is read is the entry that is packed there.
use Rattle.std.proofs.Common.{◌≡◌, ℕ, zero, suc, ◌^◌, ◌<◌, ◌≤◌, List, [], ◌∷◌, ◌++◌, length, drop, Some, None, Option, sym, refl, ap, ◌∙◌, subst, arith}
use Rattle.std.specs.List.{AllByRecursion}
use Rattle.std.proofs.lemmas.List.{append_assoc, append-nil}
use Rattle.sheet_rules.specs.Bits.{packed}
use Rattle.sheet_rules.specs.Contents.{Entry, amendment, picture, turn, release, look}
use Rattle.sheet_rules.specs.Formats.{mapped, channels_format, body_format, entry_format}
use Rattle.sheet_rules.specs.Sheets.{Field, packed_all, channel_fields, entry_fields, EntryFits, end_code}
use Rattle.sheet_rules.proofs.Reading.{Got, mapped_got, got_mapped}
use Rattle.sheet_rules.proofs.Headers.{within, before, after}

-- some bits begin with an entry that fits, or with the end code
abbrev pub Entered : List ℕ → Option Entry → List ℕ → Type 0
Entered bits (Some e) rest = EntryFits e × (bits ≡ packed_all (entry_fields e) ++ rest)
Entered bits None rest = bits ≡ end_code ++ rest

-- the channels of a picture
pub record Listed (bits : List ℕ) (n : ℕ) (cs ds rest : List ℕ) : Type 0 where
  pub more : List ℕ
  pub all : ds ≡ cs ++ more
  pub count : length more ≡ n
  pub fit : AllByRecursion (λ c. c < 2 ^ 7) more
  pub packs : bits ≡ packed_all (channel_fields more) ++ rest

got_channels : (n : ℕ) (cs bits ds rest : List ℕ) → Got (channels_format n cs) bits ds rest → Listed bits n cs ds rest
got_channels zero cs bits ds rest t = record { more = []; all = sym t.0 ∙ sym (append-nil cs); count = refl; fit = tt; packs = t.1 }
got_channels (suc n) cs bits ds rest t =
    let r = got_channels n (cs ++ (t.0 ∷ [])) t.3 ds rest t.5 in
    record {
      more = t.0 ∷ r.more;
      all = r.all ∙ append_assoc cs (t.0 ∷ []) r.more;
      count = ap suc r.count;
      fit = (t.1, r.fit);
      packs = before 7 t.0 (channel_fields r.more) bits t.3 rest t.4 r.packs;
    }

channels_got : (more cs rest : List ℕ) → AllByRecursion (λ c. c < 2 ^ 7) more
    → Got (channels_format (length more) cs) (packed_all (channel_fields more) ++ rest) (cs ++ more) rest
channels_got [] cs rest u = (sym (append-nil cs), refl)
channels_got (c ∷ more) cs rest u = (
  c,
  u.0,
  refl,
  packed_all (channel_fields more) ++ rest,
  after 7 c (channel_fields more) rest,
  subst (λ (ds : List ℕ). Got (channels_format (length more) (cs ++ (c ∷ []))) (packed_all (channel_fields more) ++ rest) ds rest)
      (append_assoc cs (c ∷ []) more) (channels_got more (cs ++ (c ∷ [])) rest u.1),
)

module _ (bits bits₁ : List ℕ) (o : Option Entry) (rest : List ℕ) where
  entered_as : (e : Entry) → Some e ≡ o → EntryFits e → bits ≡ packed_all (entry_fields e) ++ rest → Entered bits o rest
  entered_as e p f q = subst (λ (x : Option Entry). Entered bits x rest) p (f, q)

  -- the fields behind each code
  by_code : (code : ℕ) → code ≤ 5 → bits ≡ packed 3 code ++ bits₁ → Got (body_format code) bits₁ o rest → Entered bits o rest
  by_code zero h q t = subst (λ (x : Option Entry). Entered bits x rest) t.0 (q ∙ ap (λ (xs : List ℕ). packed 3 0 ++ xs) t.1)
  by_code (suc zero) h q t =
      let u = t.5 in
      let v = u.5 in
      let end = v.5 in
      let e : Entry = amendment t.0 u.0 v.0 in
      let fs : List Field = entry_fields e in
      entered_as e end.0 (t.1, u.1, v.1)
      (before 3 1 (drop 1 fs) bits bits₁ rest q
      (before 5 t.0 (drop 2 fs) bits₁ t.3 rest t.4
      (before 7 u.0 (drop 3 fs) t.3 u.3 rest u.4
      (before 64 v.0 [] u.3 v.3 rest v.4 end.1))))
  by_code (suc (suc zero)) h q t =
      let u = t.5 in
      let m = mapped_got Some (mapped (picture t.0) (channels_format u.0 [])) u.3 o rest u.5 in
      let p = mapped_got (picture t.0) (channels_format u.0 []) u.3 m.0 rest m.2 in
      let l = got_channels u.0 [] u.3 p.0 rest p.2 in
      let e : Entry = picture t.0 l.more in
      entered_as e (ap (λ (cs : List ℕ). Some (picture t.0 cs)) (sym l.all) ∙ (ap Some p.1 ∙ m.1))
      (t.1, subst (λ (n : ℕ). n < 2 ^ 3) (sym l.count) u.1, l.fit)
      (before 3 2 (drop 1 (entry_fields e)) bits bits₁ rest q
      (before 5 t.0 (drop 2 (entry_fields e)) bits₁ t.3 rest t.4
      (before 3 (length l.more) (channel_fields l.more) t.3 u.3 rest
      (u.4 ∙ ap (λ (n : ℕ). packed 3 n ++ u.3) (sym l.count)) l.packs)))
  by_code (suc (suc (suc zero))) h q t =
      let end = t.5 in
      let e : Entry = turn t.0 in
      entered_as e end.0 t.1 (before 3 3 (drop 1 (entry_fields e)) bits bits₁ rest q (before 5 t.0 [] bits₁ t.3 rest t.4 end.1))
  by_code (suc (suc (suc (suc zero)))) h q t =
      let end = t.5 in
      let e : Entry = release t.0 in
      entered_as e end.0 t.1 (before 3 4 (drop 1 (entry_fields e)) bits bits₁ rest q (before 5 t.0 [] bits₁ t.3 rest t.4 end.1))
  by_code (suc (suc (suc (suc (suc zero))))) h q t =
      let u = t.5 in
      let end = u.5 in
      let e : Entry = look t.0 u.0 in
      entered_as e end.0 (t.1, u.1)
      (before 3 5 (drop 1 (entry_fields e)) bits bits₁ rest q
      (before 5 t.0 (drop 2 (entry_fields e)) bits₁ t.3 rest t.4
      (before 3 u.0 [] t.3 u.3 rest u.4 end.1)))
  by_code (suc (suc (suc (suc (suc (suc n)))))) h q t = absurd (omega arith)

pub got_entry : (bits : List ℕ) (o : Option Entry) (rest : List ℕ) → Got entry_format bits o rest → Entered bits o rest
got_entry bits o rest t = by_code bits t.3 o rest t.0 (within 0 5 t.0 t.2).1 t.4 t.5

-- the other way
entry_by : (e : Entry) (bits rest : List ℕ) → EntryFits e → bits ≡ packed_all (entry_fields e) ++ rest → Got entry_format bits (Some e) rest
entry_by (amendment p c w) bits rest f q =
    let fs : List Field = entry_fields (amendment p c w) in (
      1,
      omega arith,
      refl,
      _,
      q ∙ after 3 1 (drop 1 fs) rest,
      (
        p,
        f.0,
        refl,
        _,
        after 5 p (drop 2 fs) rest,
        (
          c,
          f.1,
          refl,
          _,
          after 7 c (drop 3 fs) rest,
          (w, f.2, refl, _, after 64 w [] rest, (refl, refl)),
        ),
      ),
    )
entry_by (picture p cs) bits rest f q =
    let fs : List Field = entry_fields (picture p cs) in (
      2,
      omega arith,
      refl,
      _,
      q ∙ after 3 2 (drop 1 fs) rest,
      (
        p,
        f.0,
        refl,
        _,
        after 5 p (drop 2 fs) rest,
        (
          length cs,
          f.1,
          refl,
          _,
          after 3 (length cs) (channel_fields cs) rest,
          got_mapped Some (mapped (picture p) (channels_format (length cs) [])) (packed_all (channel_fields cs) ++ rest) (picture p cs) rest
              (got_mapped (picture p) (channels_format (length cs) []) (packed_all (channel_fields cs) ++ rest) cs rest (channels_got cs [] rest f.2)),
        ),
      ),
    )
entry_by (turn p) bits rest f q =
    (3, omega arith, refl, _, q ∙ after 3 3 (drop 1 (entry_fields (turn p))) rest, (p, f, refl, _, after 5 p [] rest, (refl, refl)))
entry_by (release p) bits rest f q =
    (4, omega arith, refl, _, q ∙ after 3 4 (drop 1 (entry_fields (release p))) rest, (p, f, refl, _, after 5 p [] rest, (refl, refl)))
entry_by (look p i) bits rest f q =
    let fs : List Field = entry_fields (look p i) in (
      5,
      omega arith,
      refl,
      _,
      q ∙ after 3 5 (drop 1 fs) rest,
      (
        p,
        f.0,
        refl,
        _,
        after 5 p (drop 2 fs) rest,
        (i, f.1, refl, _, after 3 i [] rest, (refl, refl)),
      ),
    )

pub entry_got : (bits : List ℕ) (o : Option Entry) (rest : List ℕ) → Entered bits o rest → Got entry_format bits o rest
entry_got bits (Some e) rest t = entry_by e bits rest t.0 t.1
entry_got bits None rest t = (0, omega arith, refl, rest, t, (refl, refl))
