-- Small facts that proofs about shelves share.
use Rattle.std.proofs.Common.{◌≡◌, ℕ, zero, suc, ◌<◌, ◌≤◌, ◌≢◌, List, [], ◌∷◌, map, get_or, refl, ⊎_elim, mul-le-mul_right, arith}
use Rattle.std.proofs.lemmas.Bool.{cases_lt}
use Rattle.plan.specs.Plans.{width}
use Rattle.plan.specs.declared.check.Plan.{Plan}
use Rattle.shelf.specs.Meaning.{Own}

-- an element of a mapped list, also past its end
pub get_d_mapped : {X Y : Type 0} (f : X → Y) (xs : List X) (i : ℕ) (d : X) → get_or (map f xs) i (f d) ≡ f (get_or xs i d)
get_d_mapped f [] i d = refl
get_d_mapped f (x ∷ xs) zero d = refl
get_d_mapped f (x ∷ xs) (suc i) d = get_d_mapped f xs i d

-- links of different parties
pub own_apart : (pl : Plan) (p q j : ℕ) → Own pl p j → Own pl q j → p ≢ q → ⊥
own_apart pl p q j a b ne =
    ⊎_elim (λ (h : p < q). omega (arith, a.from, a.to, b.from, b.to, mul-le-mul_right pl.links h))
    (λ (h : q ≤ p). omega (arith, a.from, a.to, b.from, b.to, mul-le-mul_right pl.links (apart h))) (cases_lt p q)
  where
    apart : q ≤ p → q < p
    apart h = omega (arith, ne)

pub own_below : (pl : Plan) (p j : ℕ) → p < pl.parties → Own pl p j → j < width pl
own_below pl p j h a = omega (arith, a.from, a.to, mul-le-mul_right pl.links h)
