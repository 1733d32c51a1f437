-- Facts on the lists of a flag shelf: marks, links and blocks.
use Rattle.std.proofs.Common.{◌≡◌, ℕ, zero, suc, ◌<◌, Bool, true, false, cond, eqb, List, [], ◌∷◌, map, length, get_or, take, set, refl, ap, arith}
use Rattle.shelf.specs.Meaning.{Link, vacant, holds, break_on, verdict}
use Rattle.flag_rules.specs.declared.parts.Mark.{Mark}
use Rattle.flag_rules.specs.declared.parts.Mark.TheVariants.{Empty, Live, Broken}
use Rattle.flag_rules.specs.Flags.{break_mark, Full, MarkFits, answer_of_check}
use Rattle.flag_rules.specs.Means.{link_of, links_of}

pub take_set_in : {X : Type 0} (n : ℕ) (xs : List X) (i : ℕ) (x : X) → take n (set xs i x) ≡ set (take n xs) i x
take_set_in zero [] i x = refl
take_set_in zero (y ∷ xs) zero x = refl
take_set_in zero (y ∷ xs) (suc i) x = refl
take_set_in (suc n) [] i x = refl
take_set_in (suc n) (y ∷ xs) zero x = refl
take_set_in (suc n) (y ∷ xs) (suc i) x = ap (λ (zs : List _). y ∷ zs) (take_set_in n xs i x)

module _ {R : Type 0} (d : R) where
  pub length_links : (xs : List R) (ms : List Mark) → length (links_of d xs ms) ≡ length ms
  length_links xs [] = refl
  length_links [] (m ∷ ms) = ap suc (length_links [] ms)
  length_links (x ∷ xs) (m ∷ ms) = ap suc (length_links xs ms)

  pub link_at_lem : (xs : List R) (ms : List Mark) (j : ℕ) → get_or (links_of d xs ms) j vacant ≡ link_of (get_or ms j Empty) (get_or xs j d)
  link_at_lem xs [] j = refl
  link_at_lem [] (m ∷ ms) zero = refl
  link_at_lem [] (m ∷ ms) (suc j) = link_at_lem [] ms j
  link_at_lem (x ∷ xs) (m ∷ ms) zero = refl
  link_at_lem (x ∷ xs) (m ∷ ms) (suc j) = link_at_lem xs ms j

  pub links_emptied : (xs : List R) (ms : List Mark) (j : ℕ) → links_of d xs (set ms j Empty) ≡ set (links_of d xs ms) j vacant
  links_emptied xs [] j = refl
  links_emptied [] (m ∷ ms) zero = refl
  links_emptied [] (m ∷ ms) (suc j) = ap (λ (ls : List (Link R)). link_of m d ∷ ls) (links_emptied [] ms j)
  links_emptied (x ∷ xs) (m ∷ ms) zero = refl
  links_emptied (x ∷ xs) (m ∷ ms) (suc j) = ap (λ (ls : List (Link R)). link_of m x ∷ ls) (links_emptied xs ms j)

  pub links_set : (xs : List R) (ms : List Mark) (j : ℕ) (x : R) (m : Mark) → j < length xs
      → links_of d (set xs j x) (set ms j m) ≡ set (links_of d xs ms) j (link_of m x)
  links_set xs [] j x m h = refl
  links_set [] (n ∷ ms) j x m h = absurd (omega arith)
  links_set (y ∷ xs) (n ∷ ms) zero x m h = refl
  links_set (y ∷ xs) (n ∷ ms) (suc j) x m h = ap (λ (ls : List (Link R)). link_of n y ∷ ls) (links_set xs ms j x m (omega arith))

  broken_link : (c : ℕ) (m : Mark) (x : R) → link_of (break_mark c m) x ≡ break_on c (link_of m x)
  broken_link c Empty x = refl
  broken_link c (Live e) x = by_test (eqb e c)
    where
      by_test : (b : Bool) → link_of (cond b (Broken e) (Live e)) x ≡ holds e x (cond b false true)
      by_test true = refl
      by_test false = refl
  broken_link c (Broken e) x = by_test (eqb e c)
    where
      by_test : (b : Bool) → holds e x false ≡ holds e x (cond b false false)
      by_test true = refl
      by_test false = refl

  pub links_broken : (c : ℕ) (xs : List R) (ms : List Mark) → links_of d xs (map (break_mark c) ms) ≡ map (break_on c) (links_of d xs ms)
  links_broken c xs [] = refl
  links_broken c [] (m ∷ ms) = (λ i. broken_link c m d i ∷ links_broken c [] ms i)
  links_broken c (x ∷ xs) (m ∷ ms) = (λ i. broken_link c m x i ∷ links_broken c xs ms i)

  pub check_is : (m : Mark) (x : R) → verdict (link_of m x) ≡ answer_of_check m
  check_is Empty x = refl
  check_is (Live c) x = refl
  check_is (Broken c) x = refl

pub broken_full : (c : ℕ) (m : Mark) → Full m → Full (break_mark c m)
broken_full c Empty f = f
broken_full c (Live e) f = by_test (eqb e c)
  where
    by_test : (b : Bool) → Full (cond b (Broken e) (Live e))
    by_test true = tt
    by_test false = tt
broken_full c (Broken e) f = tt

pub broken_fits : (n c : ℕ) (m : Mark) → MarkFits n m → MarkFits n (break_mark c m)
broken_fits n c Empty f = f
broken_fits n c (Live e) f = by_test (eqb e c)
  where
    by_test : (b : Bool) → MarkFits n (cond b (Broken e) (Live e))
    by_test true = f
    by_test false = f
broken_fits n c (Broken e) f = f
