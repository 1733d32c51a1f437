-- The bits after the end code.
use Rattle.std.proofs.Common.{◌≡◌, ℕ, zero, suc, ◌+◌, true, eqb, ltb, List, [], ◌∷◌, ◌++◌, length, replicate, sym, refl, ap, ◌∙◌, arith}
use Rattle.std.specs.Int.Digits.{number_from_digits, AllBelowBase}
use Rattle.std.proofs.lemmas.List.{replicate_more, length-replicate}
use Rattle.std.proofs.lemmas.Nat.{pow_pos}
use Rattle.std.proofs.lemmas.Bool.{and_parts, and_from, lt-ltb, ltb-true, eq-eqb, eqb-true}
use Rattle.sheet_rules.specs.Bits.{packed}
use Rattle.sheet_rules.specs.Formats.{only_fill}
use Rattle.sheet_rules.specs.Sheets.{Filled}
use Rattle.sheet_rules.proofs.Packing.{packed_number, number_packed}

packed_zero : (w : ℕ) → packed w 0 ≡ replicate w 0
unfolding packed
packed_zero zero = refl
packed_zero (suc w) =
    ap (λ (xs : List ℕ). xs ++ (0 ∷ [])) (packed_zero w) ∙ (replicate_more w 0 ∙ ap (λ (n : ℕ). replicate n 0) (let e : w + 1 ≡ suc w = omega arith in e))

pub is_filled : (rest : List ℕ) → AllBelowBase 2 rest → only_fill rest ≡ true → Filled rest
is_filled rest u e =
    let t = and_parts (ltb (length rest) 8) (eqb (number_from_digits 2 rest) 0) e in (
      length rest,
      ltb-true _ _ t.0,
      sym (packed_number (length rest) rest refl u) ∙ (ap (packed (length rest)) (eqb-true _ _ t.1) ∙ packed_zero (length rest)),
    )

pub filled_is : (rest : List ℕ) → Filled rest → only_fill rest ≡ true
filled_is rest t =
    let long : length rest ≡ t.0 = ap length t.2 ∙ length-replicate t.0 0 in
    let zero_sum : number_from_digits 2 rest ≡ 0 = ap (number_from_digits 2) (t.2 ∙ sym (packed_zero t.0)) ∙ number_packed t.0 0 (pow_pos t.0) in
    and_from _ _ (lt-ltb _ _ (omega (arith, t.1))) (eq-eqb _ _ zero_sum)
