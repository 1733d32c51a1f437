-- How often a block stands in a list: lemmas on `times`, on what a scan frees, and on sums over parties.
use Rattle.std.proofs.Common.{◌≡◌, ℕ, zero, suc, ◌+◌, ◌<◌, ◌≤◌, Bool, true, false, cond, not, ◌||◌, eqb, ◌≢◌, List, [], ◌∷◌, ◌++◌, reverse, length, get_or, set, sum_by, filter, sym, refl, ap, ◌∙◌, arith}
use mathlib.Core.List.{reverse-cons}
use Rattle.std.proofs.lemmas.List.Sums.{sum_by-cons, sum_by-append, sum_by-set, get_or-le-sum_by}
use Rattle.std.proofs.lemmas.List.Filters.{sum_by-filter_both}
use Rattle.std.proofs.lemmas.Bool.{eqb-true, eqb-false, eq-eqb, ne_eqb, both_ways}
use Rattle.block_rules.specs.Blocks.{among, unread, still_held}
use Rattle.block_rules.specs.Counting.{same, times}

pub same_self : (b : ℕ) → same b b ≡ 1
same_self b = rw (eq-eqb b b refl)

pub same_other : (b x : ℕ) → b ≢ x → same b x ≡ 0
same_other b x h = rw (ne_eqb b x h)

pub times_nil : (b : ℕ) → times b [] ≡ 0
unfolding times
times_nil b = refl

pub times_cons : (b x : ℕ) (xs : List ℕ) → times b (x ∷ xs) ≡ same b x + times b xs
unfolding times
times_cons b x xs = sum_by-cons (same b) x xs

pub times_one : (b x : ℕ) → times b (x ∷ []) ≡ same b x
times_one b x = omega (arith, times_cons b x [], times_nil b)

pub times_append : (b : ℕ) (xs ys : List ℕ) → times b (xs ++ ys) ≡ times b xs + times b ys
unfolding times
times_append b xs ys = sum_by-append (same b) xs ys

pub times_push : (b : ℕ) (xs : List ℕ) (x : ℕ) → times b (xs ++ (x ∷ [])) ≡ times b xs + same b x
times_push b xs x = omega (arith, times_append b xs (x ∷ []), times_one b x)

pub times_reverse : (b : ℕ) (xs : List ℕ) → times b (reverse xs) ≡ times b xs
times_reverse b [] = refl
times_reverse b (x ∷ xs) = ap (times b) (reverse-cons x xs) ∙ (omega (arith, times_push b (reverse xs) x, times_reverse b xs, times_cons b x xs))

pub times_set : (b : ℕ) (xs : List ℕ) (i y : ℕ) → i < length xs → times b (set xs i y) + same b (get_or xs i 0) ≡ times b xs + same b y
unfolding times
times_set b xs i y h = sum_by-set (same b) xs i y 0 h

pub times_at : (xs : List ℕ) (i : ℕ) → i < length xs → 1 ≤ times (get_or xs i 0) xs
unfolding times
times_at xs i h = omega (arith, get_or-le-sum_by (same (get_or xs i 0)) xs i 0 h, same_self (get_or xs i 0))

-- two places of a sum
pub two_le_sum_by : {X : Type 0} (f : X → ℕ) (xs : List X) (i k : ℕ) (d : X) → i < length xs → k < length xs → i ≢ k → f (get_or xs i d) + f (get_or xs k d) ≤ sum_by f xs
two_le_sum_by f [] i k d hi hk ne = absurd (omega arith)
two_le_sum_by f (x ∷ xs) zero zero d hi hk ne = absurd (ne refl)
two_le_sum_by f (x ∷ xs) zero (suc k) d hi hk ne = omega (arith, sum_by-cons f x xs, get_or-le-sum_by f xs k d (omega arith))
two_le_sum_by f (x ∷ xs) (suc i) zero d hi hk ne = omega (arith, sum_by-cons f x xs, get_or-le-sum_by f xs i d (omega arith))
two_le_sum_by f (x ∷ xs) (suc i) (suc k) d hi hk ne = omega (arith, sum_by-cons f x xs, two_le_sum_by f xs i k d (omega arith) (omega arith) (λ e. ne (ap suc e)))

-- one sum below another
pub sum_by_mono : {X : Type 0} (f g : X → ℕ) → ((x : X) → f x ≤ g x) → (xs : List X) → sum_by f xs ≤ sum_by g xs
sum_by_mono f g h [] = omega arith
sum_by_mono f g h (x ∷ xs) = omega (arith, sum_by-cons f x xs, sum_by-cons g x xs, h x, sum_by_mono f g h xs)

-- ** what a scan frees

pub among_times : (b : ℕ) (xs : List ℕ) → 1 ≤ times b xs → among b xs ≡ true
among_times b [] h = absurd (omega (arith, times_nil b))
among_times b (x ∷ xs) h = go (eqb x b) refl (among_times b xs)
  where
    go : (t : Bool) → eqb x b ≡ t → (1 ≤ times b xs → among b xs ≡ true) → (t || among b xs) ≡ true
    go true e ih = refl
    go false e ih = ih (omega (arith, times_cons b x xs, same_other b x (λ k. eqb-false x b e (sym k))))

pub freed_parts : (b : ℕ) (test : ℕ → Bool) (xs : List ℕ) → times b (filter test xs) + times b (filter (λ x. not (test x)) xs) ≡ times b xs
unfolding times
freed_parts b test xs = sum_by-filter_both test (λ x. not (test x)) (λ _. refl) (same b) xs

pub kept_none : (b : ℕ) (test : ℕ → Bool) → test b ≡ false → (xs : List ℕ) → times b (filter test xs) ≡ 0
kept_none b test h [] = times_nil b
kept_none b test h (x ∷ xs) = go (test x) refl (kept_none b test h xs)
  where
    go : (t : Bool) → test x ≡ t → times b (filter test xs) ≡ 0 → times b (cond t (x ∷ filter test xs) (filter test xs)) ≡ 0
    go true e ih = omega (arith, times_cons b x (filter test xs), same_other b x (λ k. both_ways (test x) (sym (ap test k) ∙ h) e))
    go false e ih = ih

-- a block that was read is not freed
pub freed_none : (b : ℕ) (read xs : List ℕ) → 1 ≤ times b read → times b (unread read xs) ≡ 0
freed_none b read xs h = kept_none b (λ x. not (among x read)) (ap not (among_times b read h)) xs

-- one block more read keeps at most its own standings more
one_more : (g : ℕ) (read xs : List ℕ) → length (still_held (g ∷ read) xs) ≤ times g xs + length (still_held read xs)
one_more g read [] = omega arith
one_more g read (x ∷ xs) = go (eqb g x) refl (among x read) (one_more g read xs)
  where
    go : (t : Bool) → eqb g x ≡ t → (u : Bool) → length (still_held (g ∷ read) xs) ≤ times g xs + length (still_held read xs) →
        length (cond (t || u) (x ∷ still_held (g ∷ read) xs) (still_held (g ∷ read) xs)) ≤ times g (x ∷ xs) + length (cond u (x ∷ still_held read xs) (still_held read xs))
    go true e true ih = omega (arith, times_cons g x xs)
    go true e false ih = omega (arith, times_cons g x xs, ap (same g) (eqb-true g x e), same_self g)
    go false e true ih = omega (arith, times_cons g x xs)
    go false e false ih = omega (arith, times_cons g x xs)

none_held : (xs : List ℕ) → length (still_held [] xs) ≡ 0
none_held [] = refl
none_held (x ∷ xs) = none_held xs

-- at most as many different blocks stay as were read
pub few_held : (read xs : List ℕ) → ((b : ℕ) → times b xs ≤ 1) → length (still_held read xs) ≤ length read
few_held [] xs once = omega (arith, none_held xs)
few_held (g ∷ read) xs once = omega (arith, one_more g read xs, once g, few_held read xs once)
