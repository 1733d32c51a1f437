-- Every block of the need has one place.
use Rattle.std.proofs.Common.{◌≡◌, ℕ, suc, ◌+◌, ◌<◌, ◌≤◌, Bool, true, false, cond, ◌||◌, eqb, ◌⊎◌, List, [], ◌∷◌, length, get_or, sum_by, sym, refl, ap, subst, inl, inr, ⊎_elim, arith, Some}
use Rattle.std.proofs.lemmas.List.Sums.{sum_by-cons, get_or-le-sum_by}
use Rattle.std.proofs.lemmas.Bool.{eqb-true, eqb-false, cases_eq, cases_lt, lt-ltb, false≢true, true≢false}
use Rattle.std.proofs.lemmas.Bool.Decides.{nat_tests}
use Rattle.plan.specs.Plans.{width, need}
use Rattle.plan.specs.declared.check.ShelfType.TheVariants.{Block}
use Rattle.shelf.specs.Calls.{known}
use Rattle.block_rules.specs.declared.parts.Job.{Job}
use Rattle.block_rules.specs.declared.parts.Job.TheVariants.{Idle, Taking, Putting, Scanning, Checking}
use Rattle.block_rules.specs.declared.parts.Place.{Place}
use Rattle.block_rules.specs.declared.parts.Place.TheVariants.{Current, Ready, Retired, InHand}
use Rattle.block_rules.specs.Blocks.{Party, in_hand, State, nobody, link, party, current_of, among}
use Rattle.block_rules.specs.Counting.{same, times, stands_with, standings}
use Rattle.block_rules.specs.Sound.{JobOk, Sound}
use Rattle.block_rules.specs.Places.{StandsAt, OnlyAt, puts, Placed, Safe}
use Rattle.block_rules.proofs.Counts.{same_self, same_other, times_nil, times_cons, times_at, two_le_sum_by}
use Rattle.block_rules.proofs.Frame.{current_not_with, once_with, free_with_lem, sound_once}

pub among_yes : (b : ℕ) (xs : List ℕ) → among b xs ≡ true → 1 ≤ times b xs
among_yes b [] e = absurd (false≢true e)
among_yes b (x ∷ xs) e = go (eqb x b) refl e (among_yes b xs)
  where
    go : (t : Bool) → eqb x b ≡ t → (t || among b xs) ≡ true → (among b xs ≡ true → 1 ≤ times b xs) → 1 ≤ times b (x ∷ xs)
    go true k _ ih = omega (arith, times_cons b x xs, ap (same b) (eqb-true x b k), same_self b)
    go false k h ih = omega (arith, times_cons b x xs, ih h)

pub among_not : (b : ℕ) (xs : List ℕ) → among b xs ≡ false → times b xs ≡ 0
among_not b [] e = times_nil b
among_not b (x ∷ xs) e = go (eqb x b) refl e (among_not b xs)
  where
    go : (t : Bool) → eqb x b ≡ t → (t || among b xs) ≡ false → (among b xs ≡ false → times b xs ≡ 0) → times b (x ∷ xs) ≡ 0
    go true k h ih = absurd (true≢false h)
    go false k h ih = omega (arith, times_cons b x xs, ih h, same_other b x (λ e. eqb-false x b k (sym e)))

-- a block that stands in a list or with a party is found there
find_block : (b : ℕ) (xs : List ℕ) → (times b xs ≡ 0) ⊎ ((i : ℕ) × (i < length xs) × (get_or xs i 0 ≡ b))
find_block b [] = inl (times_nil b)
find_block b (x ∷ xs) = go (eqb b x) refl (find_block b xs)
  where
    go : (t : Bool) → eqb b x ≡ t → (times b xs ≡ 0) ⊎ ((i : ℕ) × (i < length xs) × (get_or xs i 0 ≡ b)) → (times b (x ∷ xs) ≡ 0) ⊎ ((i : ℕ) × (i < length (x ∷ xs)) × (get_or (x ∷ xs) i 0 ≡ b))
    go true k _ = inr (0, omega arith, sym (eqb-true b x k))
    go false k (inl h) = inl (omega (arith, times_cons b x xs, h, same_other b x (eqb-false b x k)))
    go false k (inr h) = inr (suc h.0, omega (arith, h.1), h.2)

find_party : (b : ℕ) (qs : List Party) → (sum_by (stands_with b) qs ≡ 0) ⊎ ((p : ℕ) × (p < length qs) × (1 ≤ stands_with b (get_or qs p nobody)))
find_party b [] = inl refl
find_party b (q ∷ qs) = go (cases_lt (stands_with b q) 1) (find_party b qs)
  where
    go : (stands_with b q < 1) ⊎ (1 ≤ stands_with b q) → (sum_by (stands_with b) qs ≡ 0) ⊎ ((p : ℕ) × (p < length qs) × (1 ≤ stands_with b (get_or qs p nobody)))
        → (sum_by (stands_with b) (q ∷ qs) ≡ 0) ⊎ ((p : ℕ) × (p < length (q ∷ qs)) × (1 ≤ stands_with b (get_or (q ∷ qs) p nobody)))
    go (inr h) _ = inr (0, omega arith, h)
    go (inl h) (inl z) = inl (omega (arith, sum_by-cons (stands_with b) q qs, h, z))
    go (inl h) (inr z) = inr (suc z.0, omega (arith, z.1), z.2)

-- one that stands nowhere in a list, by its places; and so with the parties
pub none_there : (b : ℕ) (xs : List ℕ) → ((i : ℕ) → i < length xs → get_or xs i 0 ≡ b → ⊥) → times b xs ≡ 0
none_there b xs none = ⊎_elim (λ (h : times b xs ≡ 0). h) (λ (h : (i : ℕ) × (i < length xs) × (get_or xs i 0 ≡ b)). absurd (none h.0 h.1 h.2)) (find_block b xs)

pub none_with : (b : ℕ) (qs : List Party) → ((p : ℕ) → p < length qs → stands_with b (get_or qs p nobody) ≡ 0) → sum_by (stands_with b) qs ≡ 0
none_with b qs none = ⊎_elim (λ (h : sum_by (stands_with b) qs ≡ 0). h) (λ (h : (p : ℕ) × (p < length qs) × (1 ≤ stands_with b (get_or qs p nobody))). absurd (omega (arith, none h.0 h.1, h.2))) (find_party b qs)

module _ {R : Type 0} (s : State R) (ok : Sound s) (b : ℕ) where
  in_parties : (p : ℕ) → p < s.plan.parties → p < length s.parties
  in_parties p h = omega (arith, ok.parties)

  same_party : (p q : ℕ) → p < s.plan.parties → q < s.plan.parties → 1 ≤ stands_with b (party s p) → 1 ≤ stands_with b (party s q) → p ≡ q
  unfolding standings
  same_party p q hp hq kp kq = ⊎_elim (λ (e : p ≡ q). e)
      (λ (ne : p ≡ q → ⊥). absurd (omega (arith, sound_once s ok b, two_le_sum_by (stands_with b) s.parties p q nobody (in_parties p hp) (in_parties q hq) ne, kp, kq))) (cases_eq p q)

  same_channel : (c e : ℕ) → c < s.plan.channels → e < s.plan.channels → current_of s c ≡ b → current_of s e ≡ b → c ≡ e
  unfolding standings times
  same_channel c e hc he kc ke = ⊎_elim (λ (k : c ≡ e). k)
      (λ (ne : c ≡ e → ⊥). absurd (omega (arith, sound_once s ok b, two_le_sum_by (same b) s.current c e 0 (omega (arith, hc, ok.currents)) (omega (arith, he, ok.currents)) ne, ap (same b) kc, ap (same b) ke, same_self b))) (cases_eq c e)

  not_both : (c p : ℕ) → c < s.plan.channels → current_of s c ≡ b → p < s.plan.parties → 1 ≤ stands_with b (party s p) → ⊥
  not_both c p hc kc hp kp = omega (arith, current_not_with s b (sound_once s ok b) p (in_parties p hp) (subst (λ x. 1 ≤ times x s.current) kc (times_at s.current c (omega (arith, hc, ok.currents)))), kp)

  -- two different standings with parties
  not_twice : (p q : ℕ) (f g : Party → ℕ) → ((x : Party) → f x + g x ≤ stands_with b x) → p < s.plan.parties → q < s.plan.parties → 1 ≤ f (party s p) → 1 ≤ g (party s q) → ⊥
  not_twice p q f g both hp hq kp kq =
      let e = same_party p q hp hq (omega (arith, both (party s p), kp)) (omega (arith, both (party s q), kq)) in
      omega (arith, both (party s q), once_with s b (sound_once s ok b) q (in_parties q hq), kq, subst (λ x. 1 ≤ f (party s x)) e kp)

  pub one_place : (x y : Place) → StandsAt s b x → StandsAt s b y → x ≡ y
  one_place (Current c) (Current e) h k = ap Current (same_channel c e h.0 k.0 h.1 k.1)
  one_place (Current c) (Ready q) h k = absurd (not_both c q h.0 h.1 k.0 (omega arith))
  one_place (Current c) (Retired q) h k = absurd (not_both c q h.0 h.1 k.0 (omega arith))
  one_place (Current c) (InHand q) h k = absurd (not_both c q h.0 h.1 k.0 (omega arith))
  one_place (Ready p) (Current e) h k = absurd (not_both e p k.0 k.1 h.0 (omega arith))
  one_place (Ready p) (Ready q) h k = ap Ready (same_party p q h.0 k.0 (omega arith) (omega arith))
  one_place (Ready p) (Retired q) h k = absurd (not_twice p q (λ x. times b x.ready) (λ x. times b x.retired) (λ x. omega arith) h.0 k.0 h.1 k.1)
  one_place (Ready p) (InHand q) h k = absurd (not_twice p q (λ x. times b x.ready) (λ x. times b (in_hand x.job)) (λ x. omega arith) h.0 k.0 h.1 k.1)
  one_place (Retired p) (Current e) h k = absurd (not_both e p k.0 k.1 h.0 (omega arith))
  one_place (Retired p) (Ready q) h k = absurd (not_twice p q (λ x. times b x.retired) (λ x. times b x.ready) (λ x. omega arith) h.0 k.0 h.1 k.1)
  one_place (Retired p) (Retired q) h k = ap Retired (same_party p q h.0 k.0 (omega arith) (omega arith))
  one_place (Retired p) (InHand q) h k = absurd (not_twice p q (λ x. times b x.retired) (λ x. times b (in_hand x.job)) (λ x. omega arith) h.0 k.0 h.1 k.1)
  one_place (InHand p) (Current e) h k = absurd (not_both e p k.0 k.1 h.0 (omega arith))
  one_place (InHand p) (Ready q) h k = absurd (not_twice p q (λ x. times b (in_hand x.job)) (λ x. times b x.ready) (λ x. omega arith) h.0 k.0 h.1 k.1)
  one_place (InHand p) (Retired q) h k = absurd (not_twice p q (λ x. times b (in_hand x.job)) (λ x. times b x.retired) (λ x. omega arith) h.0 k.0 h.1 k.1)
  one_place (InHand p) (InHand q) h k = ap InHand (same_party p q h.0 k.0 (omega arith) (omega arith))

  -- where it stands with a party
  with_party_lem : (p : ℕ) → p < s.plan.parties → 1 ≤ stands_with b (party s p) → (x : Place) × StandsAt s b x
  with_party_lem p h k = ⊎_elim
      (λ (r : times b (party s p).ready < 1). ⊎_elim
      (λ (e : times b (party s p).retired < 1). (InHand p, (h, omega (arith, k, r, e))))
      (λ (e : 1 ≤ times b (party s p).retired). (Retired p, (h, e)))
      (cases_lt (times b (party s p).retired) 1))
      (λ (r : 1 ≤ times b (party s p).ready). (Ready p, (h, r)))
      (cases_lt (times b (party s p).ready) 1)

  stands_somewhere : b < need Block s.plan → (x : Place) × StandsAt s b x
  unfolding standings
  stands_somewhere known = ⊎_elim
      (λ (z : times b s.current ≡ 0). ⊎_elim
      (λ (y : sum_by (stands_with b) s.parties ≡ 0). absurd (omega (arith, ok.once b, z, y, ap {B = ℕ} (λ t. cond t 1 0) (lt-ltb b (need Block s.plan) known))))
      (λ (y : (p : ℕ) × (p < length s.parties) × (1 ≤ stands_with b (party s p))). with_party_lem y.0 (omega (arith, y.1, ok.parties)) y.2)
      (find_party b s.parties))
      (λ (z : (c : ℕ) × (c < length s.current) × (current_of s c ≡ b)). (Current z.0, (omega (arith, z.1, ok.currents), z.2)))
      (find_block b s.current)

  pub one_only : (x : Place) → StandsAt s b x → OnlyAt s b x
  one_only x h = record { there = h; alone = λ y k. one_place y x k h }

  -- a block that stands at a place is one of the need
  stands_with_lem : (x : Place) → StandsAt s b x → 1 ≤ standings s b
  unfolding standings
  stands_with_lem (Current c) h = omega (arith, subst (λ y. 1 ≤ times y s.current) h.1 (times_at s.current c (omega (arith, h.0, ok.currents))))
  stands_with_lem (Ready p) h = omega (arith, h.1, get_or-le-sum_by (stands_with b) s.parties p nobody (in_parties p h.0))
  stands_with_lem (Retired p) h = omega (arith, h.1, get_or-le-sum_by (stands_with b) s.parties p nobody (in_parties p h.0))
  stands_with_lem (InHand p) h = omega (arith, h.1, get_or-le-sum_by (stands_with b) s.parties p nobody (in_parties p h.0))

  pub placed_known : (x : Place) → StandsAt s b x → b < need Block s.plan
  placed_known x h = grind (arith, ok.once b, stands_with_lem x h, nat_tests)

  -- one that stands nowhere is not
  pub not_placed : standings s b ≡ 0 → need Block s.plan ≤ b
  not_placed z = grind (arith, ok.once b, z, nat_tests)

spare_of : {R : Type 0} (s : State R) (p : ℕ) (q : Party) (job : Job) → JobOk s p q job → puts job ≡ false → 1 ≤ length q.ready
spare_of s p q Idle k e = k
spare_of s p q (Taking j c a) k e = k.spare
spare_of s p q (Putting j h) k e = absurd (true≢false e)
spare_of s p q (Scanning j n) k e = absurd (true≢false e)
spare_of s p q (Checking j) k e = k.spare

pub placed : {R : Type 0} (s : State R) → Sound s → Placed s
placed s ok = record {
  once = ok.once;
  places = λ b h. let x = stands_somewhere s ok b h in (x.0, one_only s ok b x.0 x.1);
  shares = λ p h. (ok.jobs p h).size;
  spare = λ p h e. spare_of s p (party s p) (party s p).job (ok.jobs p h).task e;
}

-- what a link holds nobody has ready or in hand
pub safe : {R : Type 0} (s : State R) → Sound s → (j c : ℕ) → j < width s.plan → (link s j).hold ≡ Some c → Safe s j
safe s ok j c h e =
    let o = ok.held j h c e in
    let b = (link s j).seen in
    record {
      guarded = o.guarded;
      not_ready = λ p in_p. omega (arith, o.not_free, free_with_lem s b (sound_once s ok b) p (omega (arith, in_p, ok.parties)));
      not_in_hand = λ p in_p. omega (arith, o.not_free, free_with_lem s b (sound_once s ok b) p (omega (arith, in_p, ok.parties)));
    }
