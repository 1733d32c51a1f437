-- Packing a number into bits and reading it back.
use Rattle.std.proofs.Common.{◌≡◌, ℕ, zero, suc, ◌+◌, ◌*◌, ◌/◌, ◌%◌, ◌^◌, ◌<◌, ◌≤◌, true, false, leb, List, [], ◌∷◌, ◌++◌, length, get_or, take, drop, Some, None, Option, sym, refl, ap, ◌∙◌, subst, ⊎_elim, pow-suc, arith}
use Rattle.std.specs.Int.Digits.{number_from_digits, AllBelowBase}
use Rattle.std.proofs.lemmas.Int.Digits.{number_push, number_lt}
use Rattle.std.proofs.lemmas.List.{length_push, length-append, length-take-le, take-append-drop, take_at, drop_at, take_all, take_more, nil_from_length}
use Rattle.std.proofs.lemmas.Bool.{le-leb, lt-leb, leb-true, leb-false, cond-true, cond-false, cases_Bool}
use Rattle.std.proofs.ByRecursion.{All-take, All-get_or, All-push}
use Rattle.sheet_rules.specs.Bits.{packed, field_in}

pub length_packed : (w v : ℕ) → length (packed w v) ≡ w
unfolding packed
length_packed zero v = refl
length_packed (suc w) v = length_push (packed w (v / 2)) (v % 2) ∙ omega (arith, length_packed w (v / 2))

pub under_packed : (w v : ℕ) → AllBelowBase 2 (packed w v)
unfolding packed
under_packed zero v = tt
under_packed (suc w) v = All-push (λ d. d < 2) (packed w (v / 2)) (v % 2) (under_packed w (v / 2)) (omega arith)

half_below : (w v : ℕ) → v < 2 ^ suc w → v / 2 < 2 ^ w
half_below w v h = let e : 2 ^ suc w ≡ 2 ^ w * 2 = pow-suc 2 w in omega arith

pub number_packed : (w v : ℕ) → v < 2 ^ w → number_from_digits 2 (packed w v) ≡ v
unfolding packed
number_packed zero v h = omega arith
number_packed (suc w) v h =
    number_push 2 (packed w (v / 2)) (v % 2) ∙ omega (arith, number_packed w (v / 2) (half_below w v h))

-- bits are their first ones and the last
last_apart : (w : ℕ) (bits : List ℕ) → length bits ≡ suc w → bits ≡ take w bits ++ (get_or bits w 0 ∷ [])
last_apart w bits l = sym (take_all (w + 1) bits (omega arith)) ∙ take_more bits w 0 (omega arith)

pub packed_number : (w : ℕ) (bits : List ℕ) → length bits ≡ w → AllBelowBase 2 bits → packed w (number_from_digits 2 bits) ≡ bits
unfolding packed
packed_number zero bits l u = sym (nil_from_length bits l)
packed_number (suc w) bits l u =
    let m : ℕ = number_from_digits 2 (take w bits) in
    let b : ℕ = get_or bits w 0 in
    let small : b < 2 = All-get_or (λ d. d < 2) bits w 0 (omega arith) u in
    let apart : bits ≡ take w bits ++ (b ∷ []) = last_apart w bits l in
    let value : number_from_digits 2 bits ≡ m * 2 + b = ap (number_from_digits 2) apart ∙ number_push 2 (take w bits) b in
    let high : number_from_digits 2 bits / 2 ≡ m = omega arith in
    let low : number_from_digits 2 bits % 2 ≡ b = omega arith in
    let rest : packed w m ≡ take w bits = packed_number w (take w bits) (length-take-le w bits (omega arith)) (All-take (λ d. d < 2) w bits u) in
    ap (λ (x : ℕ). packed w x ++ (number_from_digits 2 bits % 2 ∷ [])) high
    ∙ (ap (λ (xs : List ℕ). xs ++ (number_from_digits 2 bits % 2 ∷ [])) rest
    ∙ (ap (λ (x : ℕ). take w bits ++ (x ∷ [])) low ∙ sym apart))

-- ** the first field of some bits

pub drop_packed : (w v : ℕ) (rest : List ℕ) → drop w (packed w v ++ rest) ≡ rest
drop_packed w v rest = drop_at (packed w v) rest w (length_packed w v)

pub field_packed : (w v : ℕ) (rest : List ℕ) → v < 2 ^ w → field_in (packed w v ++ rest) w ≡ Some v
unfolding field_in
field_packed w v rest h =
    let enough : leb w (length (packed w v ++ rest)) ≡ true = le-leb _ _ (omega (arith, length-append (packed w v) rest, length_packed w v)) in
    cond-true _ _ None enough
    ∙ ap (λ (bits : List ℕ). Some (number_from_digits 2 bits)) (take_at (packed w v) rest w (length_packed w v))
    ∙ ap Some (number_packed w v h)

pub field_cut : (bits : List ℕ) (w : ℕ) → length bits < w → field_in bits w ≡ None
unfolding field_in
field_cut bits w h = cond-false _ _ None (lt-leb w (length bits) h)

-- what a field tells of the bits
pub record Found (bits : List ℕ) (w v : ℕ) : Type 0 where
  pub fits : v < 2 ^ w
  pub packs : bits ≡ packed w v ++ drop w bits
  pub enough : w ≤ length bits

found_by : (bits : List ℕ) (w v : ℕ) → AllBelowBase 2 bits → w ≤ length bits → number_from_digits 2 (take w bits) ≡ v → Found bits w v
found_by bits w v u l e =
    let long : length (take w bits) ≡ w = length-take-le w bits l in
    let small : number_from_digits 2 (take w bits) < 2 ^ length (take w bits) = number_lt 2 (take w bits) (All-take (λ d. d < 2) w bits u) in
    record {
      fits = subst (λ (n : ℕ). n < 2 ^ w) e (subst (λ (n : ℕ). number_from_digits 2 (take w bits) < 2 ^ n) long small);
      packs = sym (take-append-drop w bits) ∙ ap (λ (xs : List ℕ). xs ++ drop w bits) (sym (packed_number w (take w bits) long (All-take (λ d. d < 2) w bits u)) ∙ ap (packed w) e);
      enough = l;
    }

pub field_found : (bits : List ℕ) (w v : ℕ) → AllBelowBase 2 bits → field_in bits w ≡ Some v → Found bits w v
unfolding field_in
field_found bits w v u e = ⊎_elim yes_way no_way (cases_Bool (leb w (length bits)))
  where
    yes_way : leb w (length bits) ≡ true → Found bits w v
    yes_way t =
        let s : Some (number_from_digits 2 (take w bits)) ≡ Some v = sym (cond-true _ _ None t) ∙ e in
        found_by bits w v u (leb-true _ _ t) (cc)

    no_way : leb w (length bits) ≡ false → Found bits w v
    no_way t =
        let s : ◌≡◌ {A = Option ℕ} None (Some v) = sym (cond-false _ (Some (number_from_digits 2 (take w bits))) None t) ∙ e in
        cc

pub field_missing : (bits : List ℕ) (w : ℕ) → field_in bits w ≡ None → length bits < w
unfolding field_in
field_missing bits w e = ⊎_elim yes_way (λ t. leb-false _ _ t) (cases_Bool (leb w (length bits)))
  where
    yes_way : leb w (length bits) ≡ true → length bits < w
    yes_way t =
        let s : Some (number_from_digits 2 (take w bits)) ≡ None = sym (cond-true _ _ None t) ∙ e in
        cc
