-- Reading a format field by field, each by a call that reads one field alone.
use Rattle.std.proofs.Common.{◌≡◌, ℕ, ◌+◌, Bool, true, false, cond, List, drop, Some, None, Option, refl, ap, ◌∙◌}
use Rattle.sheet_rules.specs.Bits.{field_in}
use Rattle.sheet_rules.specs.Contents.{Fault, fault_at}
use Rattle.sheet_rules.specs.Formats.{Format, gives, field, Read, got, fails, field_or, read_as}
use Rattle.sheet.specs.Rest.{Rest}
use Rattle.sheet.specs.Told.{one}

infixl 5 ◌▸◌
module _ {B : Type 0} where
  -- the first field alone
  abbrev pub first_of : Format B → Format ℕ
  first_of (gives b) = gives 0
  first_of (field w wrong n f) = one w wrong n

  -- what follows a value
  abbrev pub next : Format B → ℕ → Format B
  next (gives b) v = gives b
  next (field w wrong n f) v = f v

  -- what was read, and reading on from there
  abbrev read_on : (ℕ → Format B) → Read ℕ → Read B
  read_on f (got v bits k) = read_as (f v) bits k
  read_on f (fails d) = fails d

  -- reading is to read the first field and to read on
  read_first : (g : Format B) (bits : List ℕ) (k : ℕ) → read_on (next g) (read_as (first_of g) bits k) ≡ read_as g bits k
  read_first (gives b) bits k = refl
  read_first (field w wrong n f) bits k = by_field (field_in bits w)
    where
      by_value : (x : ℕ) (b : Bool) → read_on f (cond b (fails (fault_at n k)) (got x (drop w bits) (k + w))) ≡ cond b (fails (fault_at n k)) (read_as (f x) (drop w bits) (k + w))
      by_value x true = refl
      by_value x false = refl

      by_field : (o : Option ℕ) → read_on f (field_or o k (λ x. cond (wrong x) (fails (fault_at n k)) (got x (drop w bits) (k + w))))
          ≡ field_or o k (λ x. cond (wrong x) (fails (fault_at n k)) (read_as (f x) (drop w bits) (k + w)))
      by_field None = refl
      by_field (Some x) = by_value x (wrong x)

  -- fields of f were read from old, and g is what is left to read, from some bits at a place
  pub record ReadTo (f : Format B) (old : Rest) (g : Format B) (bits : List ℕ) (place : ℕ) : Type 0 where
    pub same : read_as g bits place ≡ read_as f old.bits old.place

  pub at_front : (f : Format B) (old : Rest) → ReadTo f old f old.bits old.place
  at_front f old = record { same = refl }

  module _ {f : Format B} {old : Rest} {g : Format B} {bits : List ℕ} {place : ℕ} (so_far : ReadTo f old g bits place) where
    -- one field more, written infix
    pub ◌▸◌ : {v : ℕ} {bits' : List ℕ} {place' : ℕ} → got v bits' place' ≡ read_as (first_of g) bits place → ReadTo f old (next g v) bits' place'
    ◌▸◌ e = record { same = ap (read_on (next g)) e ∙ (read_first g bits place ∙ so_far.same) }

    pub field_fails : {d : Fault} → fails d ≡ read_as (first_of g) bits place → fails d ≡ read_as f old.bits old.place
    field_fails e = ap (read_on (next g)) e ∙ (read_first g bits place ∙ so_far.same)
