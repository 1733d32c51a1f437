-- When two captures are equal, and which capture an amending gives.
use Rattle.std.proofs.Common.{◌≡◌, ℕ, ◌+◌, ◌^◌, ◌<◌, Bool, true, false, sym, refl, ◌∙◌, arith, eq-eqb, ne_eqb}
use mathlib.Core.HLevel.{is_prop→PathP}
use native.Mathlib.Bridge.{le_prop}
use Rattle.reading.specs.declared.capture.Capture.{Capture}
use Rattle.reading.specs.Words.{first_of, samples_of, levels_of}
use Rattle.reading.specs.Captures.{keeps_bound, with_levels, capture_in, capture_amended}

-- captures of equal fields are equal, as the bound has one proof at most
pub same_capture : (a b : Capture) → a.first ≡ b.first → a.samples ≡ b.samples → a.levels ≡ b.levels → a ≡ b
same_capture a b p q r = λ i. record {
  first = p i;
  samples = q i;
  levels = r i;
  bound = is_prop→PathP (λ j. p j + q j < 2 ^ 32) (λ j. le_prop) a.bound b.bound i;
}

-- a capture has the fields of a word
abbrev pub Whole : ℕ → Capture → Type 0
Whole w d = (d.first ≡ first_of w) × (d.samples ≡ samples_of w) × (d.levels ≡ levels_of w)

capture_in_whole : (c : Capture) (w : ℕ) (b : Bool) (e : keeps_bound w ≡ b) → b ≡ true → Whole w (capture_in c w b e)
capture_in_whole c w true e h = (refl, refl, refl)
capture_in_whole c w false e h = let z : ◌≡◌ {A = ℕ} 0 1 = cc in omega arith

capture_in_kept : (c : Capture) (w : ℕ) (b : Bool) (e : keeps_bound w ≡ b) → b ≡ false → capture_in c w b e ≡ c
capture_in_kept c w true e h = let z : ◌≡◌ {A = ℕ} 0 1 = cc in absurd (omega arith)
capture_in_kept c w false e h = refl

-- the three ways of an amending
pub amended_levels : (c : Capture) (w : ℕ) → samples_of w ≡ 0 → capture_amended c w ≡ with_levels c (levels_of w)
amended_levels c w z = simp (eq-eqb _ _ z)

pub amended_whole : (c : Capture) (w : ℕ) → (samples_of w ≡ 0 → ⊥) → keeps_bound w ≡ true → Whole w (capture_amended c w)
amended_whole c w z k = simp (ne_eqb _ _ z) (capture_in_whole c w (keeps_bound w) refl k)

amended_kept : (c : Capture) (w : ℕ) → (samples_of w ≡ 0 → ⊥) → keeps_bound w ≡ false → capture_amended c w ≡ c
amended_kept c w z k = simp (ne_eqb _ _ z) (capture_in_kept c w (keeps_bound w) refl k)

-- the same of a capture that the code builds
pub built_levels : (c d : Capture) (w : ℕ) → d.first ≡ c.first → d.samples ≡ c.samples → d.levels ≡ levels_of w → samples_of w ≡ 0 → d ≡ capture_amended c w
built_levels c d w p q r z = same_capture d (with_levels c (levels_of w)) p q r ∙ sym (amended_levels c w z)

pub built_whole : (c d : Capture) (w : ℕ) → d.first ≡ first_of w → d.samples ≡ samples_of w → d.levels ≡ levels_of w → (samples_of w ≡ 0 → ⊥) → keeps_bound w ≡ true → d ≡ capture_amended c w
built_whole c d w p q r z k = let e = amended_whole c w z k in same_capture d (capture_amended c w) (p ∙ sym e.0) (q ∙ sym e.1) (r ∙ sym e.2)

pub built_kept : (c : Capture) (w : ℕ) → (samples_of w ≡ 0 → ⊥) → keeps_bound w ≡ false → c ≡ capture_amended c w
built_kept c w z k = sym (amended_kept c w z k)
