-- The capture: where its samples begin, how many there are, and the levels of the lines.
use Rattle.std.specs.Prelude.{◌≡◌, ℕ, ◌+◌, ◌*◌, ◌^◌, Bool, true, false, cond, ◌||◌, ◌==◌, ◌≢◌, nat_lt, refl}
use Rattle.std.proofs.Common.{lit<, ltb-true}
use Rattle.reading.specs.Kinds.{KindOf}
use Rattle.reading.specs.Words.{first_of, samples_of, levels_of}
use Rattle.reading.specs.declared.capture.Capture.{Capture}

-- the word's fields keep the bound of every capture
abbrev pub keeps_bound : ℕ → Bool
keeps_bound w = nat_lt (first_of w + samples_of w) (2 ^ 32)

-- a word without samples is admitted, any other if it keeps the bound
abbrev pub capture_admits : ℕ → Bool
capture_admits w = samples_of w == 0 || keeps_bound w

abbrev pub blank_capture : Capture
blank_capture = record { first = 0; samples = 0; levels = 0; bound = lit< tt }

abbrev pub with_levels : Capture → ℕ → Capture
with_levels c l = record { first = c.first; samples = c.samples; levels = l; bound = c.bound }

-- the capture that a word gives, if it keeps the bound; else the one there was
abbrev pub capture_in : Capture → (w : ℕ) (b : Bool) → keeps_bound w ≡ b → Capture
capture_in c w true h = record { first = first_of w; samples = samples_of w; levels = levels_of w; bound = ltb-true _ _ h }
capture_in c w false h = c

-- without samples a word replaces only the levels; any other replaces the reading; one that is not admitted alters nothing
abbrev pub capture_amended : Capture → ℕ → Capture
capture_amended c w = cond (samples_of w == 0) (with_levels c (levels_of w)) (capture_in c w (keeps_bound w) refl)

abbrev pub capture_shown : Capture → ℕ
capture_shown c = c.first * 2 ^ 32 + c.samples * 2 ^ 16 + c.levels

abbrev pub capture_kind : KindOf Capture
capture_kind = record { blank = blank_capture; admits = capture_admits; amended = capture_amended; shown = capture_shown }

-- what showing means: the shown word, read as a word, has the capture's fields
pub record ShowsFields (c : Capture) (w : ℕ) : Type 0 where
  pub first : first_of w ≡ c.first
  pub samples : samples_of w ≡ c.samples
  pub levels : levels_of w ≡ c.levels

-- what amending by an admitted word means, in shown words: without samples, the levels are the word's and the rest stays;
-- with samples, the reading is shown as the word itself
pub record ShowsAmended (old word new : ℕ) : Type 0 where
  pub only_levels : samples_of word ≡ 0 → (first_of new ≡ first_of old) × (samples_of new ≡ samples_of old) × (levels_of new ≡ levels_of word)
  pub replaced : (samples_of word ≢ 0) → new ≡ word
