-- Sums over the parties.
use mathlib.Core.Path.{◌≡◌, refl, ap, ◌∙◌}
use mathlib.Core.Logic.{◌≢◌}
use Prim.Native.Nat.{ℕ, zero, suc, ◌+◌, ◌*◌, ◌≤◌, ◌<◌}
use native.Mathlib.Omega.{arith}
use native.Mathlib.Decide.{ℕ_discrete}
use Rattle.history.specs.Board.{updated}
use Rattle.history.proofs.Basics.{updated_same, updated_other}

-- the sum of f over the parties below n
pub sum : ℕ → (ℕ → ℕ) → ℕ
sum zero f = 0
sum (suc n) f = sum n f + f n

pub sum_const : (n v : ℕ) → sum n (λ q. v) ≡ n * v
unfolding sum
sum_const zero v = omega arith
sum_const (suc n) v = let h = sum_const n v in omega arith

pub sum_above : (n p v : ℕ) (f : ℕ → ℕ) → n ≤ p → sum n (updated f p v) ≡ sum n f
unfolding sum
sum_above zero p v f l = refl
sum_above (suc n) p v f l =
    let h = sum_above n p v f (omega arith) in
    let ne : n ≢ p = omega arith in
    let e = updated_other f p v n ne in
    omega arith

-- one party's part falls
pub sum_falls : (n p v : ℕ) (f : ℕ → ℕ) → p < n → suc v ≤ f p → suc (sum n (updated f p v)) ≤ sum n f
unfolding sum
sum_falls zero p v f l h = absurd (omega arith)
sum_falls (suc n) p v f l h = go (ℕ_discrete n p) (λ l'. sum_falls n p v f l' h)
  where
    go : Dec (n ≡ p) → (p < n → suc (sum n (updated f p v)) ≤ sum n f) → suc (sum n (updated f p v) + updated f p v n) ≤ sum n f + f n
    go (yes e) ih =
        let a = sum_above n p v f (omega arith) in
        let b : updated f p v n ≡ v = ap (updated f p v) e ∙ updated_same f p v in
        let c : f n ≡ f p = ap f e in
        omega arith
    go (no ne) ih =
        let a = ih (omega arith) in
        let e = updated_other f p v n ne in
        omega arith
