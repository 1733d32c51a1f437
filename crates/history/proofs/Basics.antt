-- Updated functions; entries appended to a line and removed from it.
use mathlib.Core.Path.{◌≡◌, refl, sym, ap, ◌∙◌, subst, fun_ext}
use mathlib.Core.List.{List, [], ◌∷◌, ◌++◌}
use mathlib.Core.Bool.{Bool, cond}
use mathlib.Core.Logic.{◌≢◌, ◌⊎◌, inl, inr}
use Prim.Native.Nat.{ℕ}
use native.Mathlib.Omega.{arith}
use native.Mathlib.Decide.{ℕ_discrete}
use lib.Dec.{eqb}
use borrow.Author.Tests.{eq-eqb, ne_eqb}
use Rattle.history.specs.Board.{updated, Order, picture, Entry, board_answer, board_after, StandsIn, Along}

-- `cc` proves 0 ≡ 1 where two constructors are said to be equal
pub never : ◌≡◌ {A = ℕ} 0 1 → ⊥
never e = omega arith

pub updated_same : {A : Type 0} (f : ℕ → A) (p : ℕ) (v : A) → updated f p v p ≡ v
unfolding updated
updated_same f p v = ap (λ (b : Bool). cond b v (f p)) (eq-eqb p p refl)

pub updated_other : {A : Type 0} (f : ℕ → A) (p : ℕ) (v : A) (q : ℕ) → q ≢ p → updated f p v q ≡ f q
unfolding updated
updated_other f p v q h = ap (λ (b : Bool). cond b v (f q)) (ne_eqb q p h)

-- by cases: at p and elsewhere
pub at_party : (p : ℕ) (G : ℕ → Type 0) → G p → ((q : ℕ) → q ≢ p → G q) → (q : ℕ) → G q
at_party p G here there q = go (ℕ_discrete q p)
  where
    go : Dec (q ≡ p) → G q
    go (yes e) = subst G (sym e) here
    go (no h) = there q h

pub updated_twice : {A : Type 0} (f : ℕ → A) (p : ℕ) (v w : A) → updated (updated f p v) p w ≡ updated f p w
updated_twice f p v w =
    fun_ext
    (at_party p (λ q. updated (updated f p v) p w q ≡ updated f p w q)
    (updated_same (updated f p v) p w ∙ sym (updated_same f p w))
    (λ q h. updated_other (updated f p v) p w q h ∙ updated_other f p v q h ∙ sym (updated_other f p w q h)))

module _ {R : Type 0} where
  -- the board, played from `board`, gives each entry of the list its answer in turn, and holds `end` at the end
  abbrev pub Plays : (R → ℕ → R) → (ℕ → R) → List (Entry R) → (ℕ → R) → Type 0
  Plays amended board [] end = (c : ℕ) → board c ≡ end c
  Plays amended board (x ∷ xs) end =
      (x.answer ≡ board_answer board x.order) × Plays amended (board_after amended x.order board) xs end

  pub mem_left : (x : Entry R) (xs ys : List (Entry R)) → StandsIn x xs → StandsIn x (xs ++ ys)
  mem_left x [] ys m = absurd m
  mem_left x (y ∷ xs) ys (inl e) = inl e
  mem_left x (y ∷ xs) ys (inr m) = inr (mem_left x xs ys m)

  pub mem_last : (x : Entry R) (xs : List (Entry R)) → StandsIn x (xs ++ (x ∷ []))
  mem_last x [] = inl refl
  mem_last x (y ∷ xs) = inr (mem_last x xs)

  pub mem_snoc : (y x : Entry R) (xs : List (Entry R)) → StandsIn y (xs ++ (x ∷ [])) → StandsIn y xs ⊎ (y ≡ x)
  mem_snoc y x [] (inl e) = inr e
  mem_snoc y x [] (inr m) = absurd m
  mem_snoc y x (z ∷ xs) (inl e) = inl (inl e)
  mem_snoc y x (z ∷ xs) (inr m) = elim (mem_snoc y x xs m) [ inl k ↦ inl (inr k) | inr e ↦ inr e ]

  pub along_snoc : (P : Entry R → Entry R → Type 0) (x : Entry R) (xs : List (Entry R)) → Along P xs
      → ((y : Entry R) → StandsIn y xs → P y x) → Along P (xs ++ (x ∷ []))
  along_snoc P x [] a h = ((λ y m. absurd m), tt)
  along_snoc P x (y ∷ xs) a h = (
    (λ z m. elim (mem_snoc z x xs m) [ inl k ↦ a.0 z k | inr e ↦ subst (λ (w : Entry R). P y w) (sym e) (h y (inl refl)) ]),
    along_snoc P x xs a.1 (λ z m. h z (inr m)),
  )

  pub plays_snoc : (amended : R → ℕ → R) (board : ℕ → R) (x : Entry R) (xs : List (Entry R)) (end end' : ℕ → R)
      → Plays amended board xs end → x.answer ≡ board_answer end x.order → ((c : ℕ) → board_after amended x.order end c ≡ end' c)
      → Plays amended board (xs ++ (x ∷ [])) end'
  plays_snoc amended board x [] end end' p a e =
      subst (λ (b : ℕ → R). (x.answer ≡ board_answer b x.order) × ((c : ℕ) → board_after amended x.order b c ≡ end' c)) (sym (fun_ext p)) (a, e)
  plays_snoc amended board x (y ∷ xs) end end' p a e =
      (p.0, plays_snoc amended (board_after amended y.order board) x xs end end' p.1 a e)

  -- the line without the operation k
  pub rem : ℕ → List (Entry R) → List (Entry R)
  rem k [] = []
  rem k (x ∷ xs) = cond (eqb x.op k) (rem k xs) (x ∷ rem k xs)

  rem_hit : (k : ℕ) (x : Entry R) (xs : List (Entry R)) → x.op ≡ k → rem k (x ∷ xs) ≡ rem k xs
  unfolding rem
  rem_hit k x xs e = ap (λ (b : Bool). cond b (rem k xs) (x ∷ rem k xs)) (eq-eqb x.op k e)

  rem_miss : (k : ℕ) (x : Entry R) (xs : List (Entry R)) → x.op ≢ k → rem k (x ∷ xs) ≡ x ∷ rem k xs
  unfolding rem
  rem_miss k x xs h = ap (λ (b : Bool). cond b (rem k xs) (x ∷ rem k xs)) (ne_eqb x.op k h)

  rem_nil : (k : ℕ) → rem k [] ≡ []
  unfolding rem
  rem_nil k = refl

  pub mem_rem : (k : ℕ) (y : Entry R) (xs : List (Entry R)) → StandsIn y xs → y.op ≢ k → StandsIn y (rem k xs)
  mem_rem k y [] m h = absurd m
  mem_rem k y (x ∷ xs) m h = go (ℕ_discrete x.op k) m (mem_rem k y xs)
    where
      go : Dec (x.op ≡ k) → (y ≡ x) ⊎ StandsIn y xs → (StandsIn y xs → y.op ≢ k → StandsIn y (rem k xs)) → StandsIn y (rem k (x ∷ xs))
      go (yes e) (inl f) ih = absurd (h (ap (λ (z : Entry R). z.op) f ∙ e))
      go (yes e) (inr m') ih = subst⁻ (rem_hit k x xs e) (ih m' h)
        where
          subst⁻ : {l l' : List (Entry R)} → l ≡ l' → StandsIn y l' → StandsIn y l
          subst⁻ q u = subst (StandsIn y) (sym q) u
      go (no n) (inl f) ih = subst (StandsIn y) (sym (rem_miss k x xs n)) (inl f)
      go (no n) (inr m') ih = subst (StandsIn y) (sym (rem_miss k x xs n)) (inr (ih m' h))

  pub mem_of_rem : (k : ℕ) (y : Entry R) (xs : List (Entry R)) → StandsIn y (rem k xs) → StandsIn y xs × (y.op ≢ k)
  mem_of_rem k y [] m = absurd (subst (StandsIn y) (rem_nil k) m)
  mem_of_rem k y (x ∷ xs) m = go (ℕ_discrete x.op k) (mem_of_rem k y xs)
    where
      miss : x.op ≢ k → (StandsIn y (rem k xs) → StandsIn y xs × (y.op ≢ k)) → (y ≡ x) ⊎ StandsIn y (rem k xs) → StandsIn y (x ∷ xs) × (y.op ≢ k)
      miss n ih (inl f) = (inl f, λ e. n (sym (ap (λ (z : Entry R). z.op) f) ∙ e))
      miss n ih (inr u) = (inr (ih u).0, (ih u).1)

      go : Dec (x.op ≡ k) → (StandsIn y (rem k xs) → StandsIn y xs × (y.op ≢ k)) → StandsIn y (x ∷ xs) × (y.op ≢ k)
      go (yes e) ih = let u = ih (subst (StandsIn y) (rem_hit k x xs e) m) in (inr u.0, u.1)
      go (no n) ih = miss n ih (subst (StandsIn y) (rem_miss k x xs n) m)

  pub along_rem : (P : Entry R → Entry R → Type 0) (k : ℕ) (xs : List (Entry R)) → Along P xs → Along P (rem k xs)
  along_rem P k [] a = subst (Along P) (sym (rem_nil k)) tt
  along_rem P k (x ∷ xs) a = go (ℕ_discrete x.op k) (along_rem P k xs a.1)
    where
      go : Dec (x.op ≡ k) → Along P (rem k xs) → Along P (rem k (x ∷ xs))
      go (yes e) ih = subst (Along P) (sym (rem_hit k x xs e)) ih
      go (no n) ih = subst (Along P) (sym (rem_miss k x xs n)) ((λ y m. a.0 y (mem_of_rem k y xs m).0), ih)

  picture_keeps : (amended : R → ℕ → R) (o : Order) (board : ℕ → R) → (cs : List ℕ) → o ≡ picture cs → board_after amended o board ≡ board
  picture_keeps amended o board cs e = ap (λ (u : Order). board_after amended u board) e

  pub plays_rem : (amended : R → ℕ → R) (board : ℕ → R) (k : ℕ) (xs : List (Entry R)) (end : ℕ → R)
      → ((y : Entry R) → StandsIn y xs → y.op ≡ k → (cs : List ℕ) × (y.order ≡ picture cs)) → Plays amended board xs end
      → Plays amended board (rem k xs) end
  plays_rem amended board k [] end h p = subst (λ (l : List (Entry R)). Plays amended board l end) (sym (rem_nil k)) p
  plays_rem amended board k (x ∷ xs) end h p =
      go (ℕ_discrete x.op k) (plays_rem amended (board_after amended x.order board) k xs end (λ y m. h y (inr m)) p.1)
    where
      go : Dec (x.op ≡ k) → Plays amended (board_after amended x.order board) (rem k xs) end → Plays amended board (rem k (x ∷ xs)) end
      go (yes e) ih =
          let c = h x (inl refl) e in
          subst (λ (l : List (Entry R)). Plays amended board l end) (sym (rem_hit k x xs e))
          (subst (λ (b : ℕ → R). Plays amended b (rem k xs) end) (picture_keeps amended x.order board c.0 c.1) ih)
      go (no n) ih = subst (λ (l : List (Entry R)). Plays amended board l end) (sym (rem_miss k x xs n)) (p.0, ih)
