-- Reading by a format, and the first field that fails.
use Rattle.std.proofs.Common.{◌≡◌, ℕ, ◌+◌, ◌^◌, ◌<◌, Bool, true, false, cond, List, ◌++◌, length, drop, Some, None, Option, sym, refl, ap, ◌∙◌, subst, arith}
use Rattle.std.specs.Int.Digits.{AllBelowBase}
use Rattle.std.proofs.ByRecursion.{All-drop}
use Rattle.std.proofs.lemmas.Bool.{cond-true, cond-false}
use Rattle.std.proofs.lemmas.List.{length-append}
use Rattle.sheet_rules.specs.Bits.{packed, field_in}
use Rattle.sheet_rules.specs.Contents.{Fault, fault_at}
use Rattle.sheet_rules.specs.Formats.{Format, gives, field, Read, got, fails, field_or, read_as, mapped, Fails, cut, bad, later}
use Rattle.sheet_rules.proofs.Packing.{length_packed, drop_packed, field_packed, field_cut, field_found, field_missing, Found}

module _ {A : Type 0} where
  -- a value that is there and right is read, and the rest goes on behind it
  pub reads_on : (w : ℕ) (wrong : ℕ → Bool) (n : ℕ) (f : ℕ → Format A) (v : ℕ) (rest : List ℕ) (k : ℕ)
      → v < 2 ^ w → wrong v ≡ false → read_as (field w wrong n f) (packed w v ++ rest) k ≡ read_as (f v) rest (k + w)
  reads_on w wrong n f v rest k h r =
      ap (λ o. field_or o k (λ x. cond (wrong x) (fails (fault_at n k)) (read_as (f x) (drop w (packed w v ++ rest)) (k + w)))) (field_packed w v rest h)
      ∙ (cond-false (wrong v) (fails (fault_at n k)) (read_as (f v) (drop w (packed w v ++ rest)) (k + w)) r
      ∙ ap (λ (bits : List ℕ). read_as (f v) bits (k + w)) (drop_packed w v rest))

  -- the relation of the first failing field gives what reading gives
  pub fails_read : {g : Format A} {bits : List ℕ} {k : ℕ} {e : Fault} → Fails g bits k e → read_as g bits k ≡ fails e
  fails_read (cut w wrong n f bits k h) =
      ap (λ o. field_or o k (λ x. cond (wrong x) (fails (fault_at n k)) (read_as (f x) (drop w bits) (k + w)))) (field_cut bits w h)
  fails_read (bad w wrong n f v rest k h r) =
      ap (λ o. field_or o k (λ x. cond (wrong x) (fails (fault_at n k)) (read_as (f x) (drop w (packed w v ++ rest)) (k + w)))) (field_packed w v rest h)
      ∙ cond-true (wrong v) (fails (fault_at n k)) (read_as (f v) (drop w (packed w v ++ rest)) (k + w)) r
  fails_read (later w wrong n f v rest k e h r d) =
      reads_on w wrong n f v rest k h r ∙ fails_read d

  -- what a read field tells
  pub record Step (w : ℕ) (wrong : ℕ → Bool) (f : ℕ → Format A) (bits : List ℕ) (k : ℕ) (r : Read A) : Type 0 where
    pub value : ℕ
    pub found : Found bits w value
    pub right : wrong value ≡ false
    pub follows : read_as (f value) (drop w bits) (k + w) ≡ r

  got_not_fails : (a : A) (bits : List ℕ) (k : ℕ) (e : Fault) → ◌≡◌ {A = Read A} (fails e) (got a bits k) → ⊥
  got_not_fails a bits k e p = cc

  -- a field that was read with success
  pub step_got : (w : ℕ) (wrong : ℕ → Bool) (n : ℕ) (f : ℕ → Format A) (bits : List ℕ) (k : ℕ) (a : A) (rest : List ℕ) (k' : ℕ)
      → AllBelowBase 2 bits → read_as (field w wrong n f) bits k ≡ got a rest k' → Step w wrong f bits k (got a rest k')
  step_got w wrong n f bits k a rest k' u e = by_field (field_in bits w) refl e
    where
      by_value : (v : ℕ) → field_in bits w ≡ Some v → (b : Bool) → wrong v ≡ b
          → cond b (fails (fault_at n k)) (read_as (f v) (drop w bits) (k + w)) ≡ got a rest k' → Step w wrong f bits k (got a rest k')
      by_value v o true t d = absurd (got_not_fails a rest k' (fault_at n k) d)
      by_value v o false t d = record { value = v; found = field_found bits w v u o; right = t; follows = d }

      by_field : (o : Option ℕ) → field_in bits w ≡ o
          → field_or o k (λ x. cond (wrong x) (fails (fault_at n k)) (read_as (f x) (drop w bits) (k + w))) ≡ got a rest k' → Step w wrong f bits k (got a rest k')
      by_field None o d = absurd (got_not_fails a rest k' (fault_at 20 k) d)
      by_field (Some v) o d = by_value v o (wrong v) refl d

  same_fault : (d e : Fault) → ◌≡◌ {A = Read A} (fails d) (fails e) → d ≡ e
  same_fault d e p = cc

  not_given : (g : Format A) (a : A) (bits : List ℕ) (k : ℕ) (e : Fault) → ◌≡◌ {A = Read A} (got a bits k) (fails e) → Fails g bits k e
  not_given g a bits k e p = cc

  -- where reading fails, it is at the first field that fails
  pub read_fails : (g : Format A) (bits : List ℕ) (k : ℕ) (e : Fault) → AllBelowBase 2 bits → read_as g bits k ≡ fails e → Fails g bits k e
  read_fails (gives a) bits k e u p = not_given (gives a) a bits k e p
  read_fails (field w wrong n f) bits k e u p =
      by_field (λ v. read_fails (f v) (drop w bits) (k + w) e (All-drop (λ d. d < 2) w bits u)) (field_in bits w) refl p
    where
      by_value : (v : ℕ) → (read_as (f v) (drop w bits) (k + w) ≡ fails e → Fails (f v) (drop w bits) (k + w) e) → field_in bits w ≡ Some v
          → (b : Bool) → wrong v ≡ b → cond b (fails (fault_at n k)) (read_as (f v) (drop w bits) (k + w)) ≡ fails e → Fails (field w wrong n f) bits k e
      by_value v ih o true t d =
          let s = field_found bits w v u o in
          subst (λ (x : Fault). Fails (field w wrong n f) bits k x) (same_fault (fault_at n k) e d)
          (subst (λ (xs : List ℕ). Fails (field w wrong n f) xs k (fault_at n k)) (sym s.packs) (bad w wrong n f v (drop w bits) k s.fits t))
      by_value v ih o false t d =
          let s = field_found bits w v u o in
          subst (λ (xs : List ℕ). Fails (field w wrong n f) xs k e) (sym s.packs) (later w wrong n f v (drop w bits) k e s.fits t (ih d))

      by_field : ((v : ℕ) → read_as (f v) (drop w bits) (k + w) ≡ fails e → Fails (f v) (drop w bits) (k + w) e)
          → (o : Option ℕ) → field_in bits w ≡ o
          → field_or o k (λ x. cond (wrong x) (fails (fault_at n k)) (read_as (f x) (drop w bits) (k + w))) ≡ fails e → Fails (field w wrong n f) bits k e
      by_field ih None o d =
          subst (λ (x : Fault). Fails (field w wrong n f) bits k x) (same_fault (fault_at 20 k) e d) (cut w wrong n f bits k (field_missing bits w o))
      by_field ih (Some v) o d = by_value v (ih v) o (wrong v) refl d

  -- the values that a format reads from the front of some bits, each packed in its width and right
  abbrev pub Got : Format A → List ℕ → A → List ℕ → Type 0
  Got (gives b) bits a rest = (b ≡ a) × (bits ≡ rest)
  Got (field w wrong n f) bits a rest =
      (v : ℕ) × (v < 2 ^ w) × (wrong v ≡ false) × (bits' : List ℕ) × (bits ≡ packed w v ++ bits') × Got (f v) bits' a rest

  given_parts : (b a : A) (bits rest : List ℕ) (k k' : ℕ) → got b bits k ≡ got a rest k' → (b ≡ a) × (bits ≡ rest)
  given_parts b a bits rest k k' e = (cc, cc)

  pub read_got : (g : Format A) (bits : List ℕ) (k : ℕ) (a : A) (rest : List ℕ) (k' : ℕ)
      → AllBelowBase 2 bits → read_as g bits k ≡ got a rest k' → Got g bits a rest
  read_got (gives b) bits k a rest k' u e = given_parts b a bits rest k k' e
  read_got (field w wrong n f) bits k a rest k' u e =
      let s = step_got w wrong n f bits k a rest k' u e in (
        s.value,
        s.found.fits,
        s.right,
        drop w bits,
        s.found.packs,
        read_got (f s.value) (drop w bits) (k + w) a rest k' (All-drop (λ d. d < 2) w bits u) s.follows,
      )

  -- reading gives what is there, and its place counts the bits
  pub got_read : (g : Format A) (bits : List ℕ) (k : ℕ) (a : A) (rest : List ℕ) → Got g bits a rest
      → (k' : ℕ) × (read_as g bits k ≡ got a rest k') × (k + length bits ≡ k' + length rest)
  got_read (gives b) bits k a rest t =
      (k, ap (λ x. got x bits k) t.0 ∙ ap (λ (xs : List ℕ). got a xs k) t.1, ap (λ (xs : List ℕ). k + length xs) t.1)
  got_read (field w wrong n f) bits k a rest t =
      let r = got_read (f t.0) t.3 (k + w) a rest t.5 in (
        r.0,
        ap (λ (xs : List ℕ). read_as (field w wrong n f) xs k) t.4 ∙ (reads_on w wrong n f t.0 t.3 k t.1 t.2 ∙ r.1),
        omega (arith, ap length t.4, length-append (packed w t.0) t.3, length_packed w t.0, r.2),
      )

  -- the place counts the bits, and the rest are bits
  pub read_place : (g : Format A) (bits : List ℕ) (k : ℕ) (a : A) (rest : List ℕ) (k' : ℕ)
      → AllBelowBase 2 bits → read_as g bits k ≡ got a rest k' → k + length bits ≡ k' + length rest
  read_place g bits k a rest k' u e =
      let r = got_read g bits k a rest (read_got g bits k a rest k' u e) in
      let same : got a rest r.0 ≡ got a rest k' = sym r.1 ∙ e in
      let j : r.0 ≡ k' = cc in
      omega (arith, r.2)

  pub read_under : (g : Format A) (bits : List ℕ) (a : A) (rest : List ℕ) → AllBelowBase 2 bits → Got g bits a rest → AllBelowBase 2 rest
  read_under (gives b) bits a rest u t = subst (λ (xs : List ℕ). AllBelowBase 2 xs) t.1 u
  read_under (field w wrong n f) bits a rest u t =
      read_under (f t.0) t.3 a rest
      (subst (λ (xs : List ℕ). AllBelowBase 2 xs) (ap (drop w) t.4 ∙ drop_packed w t.0 t.3) (All-drop (λ d. d < 2) w bits u)) t.5

-- what a format gives, taken further
module _ {A B : Type 0} (g : A → B) where
  pub mapped_got : (f : Format A) (bits : List ℕ) (b : B) (rest : List ℕ) → Got (mapped g f) bits b rest → (a : A) × (g a ≡ b) × Got f bits a rest
  mapped_got (gives a) bits b rest t = (a, t.0, (refl, t.1))
  mapped_got (field w wrong n f) bits b rest t =
      let r = mapped_got (f t.0) t.3 b rest t.5 in
      (r.0, r.1, (t.0, t.1, t.2, t.3, t.4, r.2))

  pub got_mapped : (f : Format A) (bits : List ℕ) (a : A) (rest : List ℕ) → Got f bits a rest → Got (mapped g f) bits (g a) rest
  got_mapped (gives c) bits a rest t = (ap g t.0, t.1)
  got_mapped (field w wrong n f) bits a rest t = (t.0, t.1, t.2, t.3, t.4, got_mapped (f t.0) t.3 a rest t.5)
