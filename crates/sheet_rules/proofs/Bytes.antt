-- The bits of a row of bytes, one by one.
use Rattle.std.proofs.Common.{◌≡◌, ℕ, zero, suc, ◌+◌, ◌-◌, ◌*◌, ◌/◌, ◌%◌, ◌^◌, ◌<◌, ◌≤◌, List, [], ◌∷◌, ◌++◌, length, get_or, sym, refl, ap, ◌∙◌, ⊎_elim, arith}
use Rattle.std.specs.Int.Digits.{AllBelowBase}
use Rattle.std.proofs.lemmas.List.{length-append, get_or_append_left, get_or-append_right, get_or_push}
use Rattle.std.proofs.lemmas.Nat.{shr-shr}
use Rattle.std.proofs.lemmas.Bool.{cases_lt}
use Rattle.std.proofs.ByRecursion.{All-append}
use Rattle.sheet_rules.specs.Bits.{packed, bits_of}
use Rattle.sheet_rules.proofs.Packing.{length_packed, under_packed}

pub length_bits : (bytes : List ℕ) → length (bits_of bytes) ≡ 8 * length bytes
unfolding bits_of
length_bits [] = refl
length_bits (b ∷ bytes) = omega (arith, length-append (packed 8 b) (bits_of bytes), length_packed 8 b, length_bits bytes)

pub under_bits : (bytes : List ℕ) → AllBelowBase 2 (bits_of bytes)
unfolding bits_of
under_bits [] = tt
under_bits (b ∷ bytes) = All-append (λ d. d < 2) (packed 8 b) (bits_of bytes) (under_packed 8 b) (under_bits bytes)

-- digit i of a packed number
digit_at : (w v i : ℕ) → i < w → get_or (packed w v) i 0 ≡ v / 2 ^ (w - 1 - i) % 2
unfolding packed
digit_at zero v i h = absurd (omega arith)
digit_at (suc w) v i h = ⊎_elim (λ l. before_last l (digit_at w (v / 2) i l)) at_last (cases_lt i w)
  where
    before_last : i < w → get_or (packed w (v / 2)) i 0 ≡ v / 2 / 2 ^ (w - 1 - i) % 2 → get_or (packed w (v / 2) ++ (v % 2 ∷ [])) i 0 ≡ v / 2 ^ (suc w - 1 - i) % 2
    before_last l d =
        get_or_append_left (packed w (v / 2)) (v % 2 ∷ []) 0 i (omega (arith, length_packed w (v / 2)))
        ∙ (d
        ∙ (ap (λ (n : ℕ). n % 2) (shr-shr v 1 (w - 1 - i)) ∙ ap (λ (n : ℕ). v / 2 ^ n % 2) (let e : 1 + (w - 1 - i) ≡ suc w - 1 - i = omega arith in e)))

    at_last : w ≤ i → get_or (packed w (v / 2) ++ (v % 2 ∷ [])) i 0 ≡ v / 2 ^ (suc w - 1 - i) % 2
    at_last l =
        let same : i ≡ w = omega arith in
        get_or_push (packed w (v / 2)) (v % 2) 0 i (length_packed w (v / 2) ∙ sym same)
        ∙ (let e : v % 2 ≡ v / 2 ^ 0 % 2 = omega arith in e) ∙ ap (λ (n : ℕ). v / 2 ^ n % 2) (let e : 0 ≡ suc w - 1 - i = omega arith in e)

-- bit k, from the byte that holds it
pub bit_at : (bytes : List ℕ) (k : ℕ) → k < 8 * length bytes → get_or bytes (k / 8) 0 / 2 ^ (7 - k % 8) % 2 ≡ get_or (bits_of bytes) k 0
unfolding bits_of
bit_at [] k h = absurd (omega arith)
bit_at (b ∷ bytes) k h = ⊎_elim here (λ l. there l (bit_at bytes (k - 8) (omega arith))) (cases_lt k 8)
  where
    here : k < 8 → get_or (b ∷ bytes) (k / 8) 0 / 2 ^ (7 - k % 8) % 2 ≡ get_or (packed 8 b ++ bits_of bytes) k 0
    here l =
        let q : k / 8 ≡ 0 = omega arith in
        let r : k % 8 ≡ k = omega arith in
        ap (λ (n : ℕ). get_or (b ∷ bytes) n 0 / 2 ^ (7 - k % 8) % 2) q
        ∙ (ap (λ (n : ℕ). b / 2 ^ (7 - n) % 2) r
        ∙ sym (get_or_append_left (packed 8 b) (bits_of bytes) 0 k (omega (arith, length_packed 8 b)) ∙ digit_at 8 b k l))

    there : 8 ≤ k → get_or bytes ((k - 8) / 8) 0 / 2 ^ (7 - (k - 8) % 8) % 2 ≡ get_or (bits_of bytes) (k - 8) 0 → get_or (b ∷ bytes) (k / 8) 0 / 2 ^ (7 - k % 8) % 2 ≡ get_or (packed 8 b ++ bits_of bytes) k 0
    there l d =
        let q : k / 8 ≡ suc ((k - 8) / 8) = omega arith in
        let r : k % 8 ≡ (k - 8) % 8 = omega arith in
        ap (λ (n : ℕ). get_or (b ∷ bytes) n 0 / 2 ^ (7 - k % 8) % 2) q
        ∙ (ap (λ (n : ℕ). get_or bytes ((k - 8) / 8) 0 / 2 ^ (7 - n) % 2) r
        ∙ (d ∙ sym (get_or-append_right (packed 8 b) (bits_of bytes) 8 k 0 (length_packed 8 b) l)))
