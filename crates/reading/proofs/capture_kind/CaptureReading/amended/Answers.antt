use Rattle.std.proofs.Common.{◌≡◌, sym, ap, ◌∙◌, arith}
use Rattle.std.proofs.lemmas.Bool.Decides.{nat_tests}
use Rattle.reading.specs.Words.{samples_of}
use Rattle.reading.proofs.Same.{same_capture, built_levels, built_whole, built_kept}
use Rattle.reading.proofs.capture_kind.CaptureReading.amended.Goals as goal
use Rattle.reading.proofs.capture_kind.CaptureReading.amended.Goals.{then-samples-eq0, else-samples-eq0+then-first-samples, else-samples-eq0+else-first-samples}

-- the three ways: only the levels, the whole word, nothing
pub returns : goal.returns
returns c =
    let word = c.args.word in
    elim c.if-samples-eq0.branch [
      | then-samples-eq0 w ↦
          (let r = w.result-is in
          built_levels _ _ word (ap (λ t. t.0) r) (ap (λ t. t.1.0) r) (ap (λ t. t.1.1.0) r ∙ c.levels_field-levels.ensures)
          (sym c.samples_field-samples.ensures ∙ w.if-samples-eq0.true))
      | else-samples-eq0+then-first-samples w ↦
          (let r = w.result-is in
          let z : samples_of word ≡ 0 → ⊥ = λ q. w.if-samples-eq0.false (c.samples_field-samples.ensures ∙ q) in
          built_whole _ _ word (ap (λ t. t.0) r ∙ c.first_field-first.ensures) (ap (λ t. t.1.0) r ∙ c.samples_field-samples.ensures)
          (ap (λ t. t.1.1.0) r ∙ c.levels_field-levels.ensures) z (grind (arith, nat_tests)))
      | else-samples-eq0+else-first-samples w ↦
          (let r = w.result-is in
          let z : samples_of word ≡ 0 → ⊥ = λ q. w.if-samples-eq0.false (c.samples_field-samples.ensures ∙ q) in
          same_capture _ c.args.self (ap (λ t. t.0) r) (ap (λ t. t.1.0) r) (ap (λ t. t.1.1.0) r) ∙ built_kept c.args.self word z (grind (arith, nat_tests)))
    ]
