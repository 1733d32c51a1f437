-- Every shelf is patient, by the turns left.
use Rattle.std.proofs.Common.{◌≡◌, ℕ, ◌+◌, ◌<◌, ◌≤◌, Bool, true, false, cond, not, eqb, ◌≢◌, List, [], ◌∷◌, sym, refl, ap, ◌∙◌, subst, ⊎_elim, arith}
use Rattle.std.specs.List.{AllByRecursion}
use Rattle.shelf.proofs.Passing.{Passed, passes}
use Rattle.std.proofs.lemmas.Bool.{cases_eq, lt-ltb, eq-eqb, ne_eqb}
use Rattle.plan.specs.declared.check.Plan.{Plan}
use Rattle.shelf.specs.Meaning.{Activity, idle, waits, in_force, Meaning, activity_of, Stores, is_on}
use Rattle.shelf.specs.Rules.{Rules}
use Rattle.shelf.specs.Calls.{Call, Take, Put, Check, Drop, Look, Turn, is_idle, tests_of, leaves, after}
use Rattle.shelf.specs.Laws.{turns_of, GoesOn, Patient}
use Rattle.shelf.proofs.After.{sound_after}
use Rattle.shelf.proofs.Did.{Begins, Did, nothing, starts_take, starts_put, starts_check, drops, turns, did, same_plan}

-- 1 for a turn of party p
abbrev turn_of : {R : Type 0} → ℕ → Call R → ℕ
turn_of p (Take q i c) = 0
turn_of p (Put q i r) = 0
turn_of p (Check q i) = 0
turn_of p (Drop q i) = 0
turn_of p (Look q i) = 0
turn_of p (Turn q) = cond (eqb q p) 1 0

turns_more : {R : Type 0} (p : ℕ) (k : Call R) (ks : List (Call R)) → turns_of p (k ∷ ks) ≡ turn_of p k + turns_of p ks
turns_more p (Take q i c) ks = omega arith
turns_more p (Put q i r) ks = omega arith
turns_more p (Check q i) ks = omega arith
turns_more p (Drop q i) ks = omega arith
turns_more p (Look q i) ks = omega arith
turns_more p (Turn q) ks = refl

module _ {R : Type 0} (rules : Rules R) where
  module _ (s : rules.State) (ok : rules.sound s) (p : ℕ) (known : p < (rules.plan s).parties) (busy : activity_of (rules.means s) p ≢ idle) (k : Call R)
      (goes_on : activity_of (rules.means (after rules s k)) p ≢ idle)
      (undisturbed : (q c : ℕ) → k ≡ Turn q → q ≢ p → Stores (rules.means s) (rules.means (after rules s k)) q c → is_on (rules.means s) (activity_of (rules.means s) p) c → ⊥) where
    abbrev left' : ℕ
    left' = rules.left (after rules s k) p

    -- a start or drop is another party's
    begun : (q j : ℕ) (m' : Meaning R) → Begins rules s k q j m' → left' ≤ rules.left s p
    begun q j m' b = b.keeps.left' p (λ e. busy (ap (activity_of (rules.means s)) e ∙ b.rests)) known

    other : (k ≡ Turn p → ⊥) → left' ≤ rules.left s p
    other not_own = by_did (did rules s ok k)
      where
        by_did : Did rules s k → left' ≤ rules.left s p
        by_did (nothing e) = omega (arith, ap (λ (t : rules.State). rules.left t p) e)
        by_did (starts_take q j c b) = begun q j _ b
        by_did (starts_put q j r b) = begun q j _ b
        by_did (starts_check q j b) = begun q j _ b
        by_did (drops q j b) = begun q j _ b
        by_did (turns q is h n e) =
            let ne : q ≢ p = λ z. not_own (is ∙ ap Turn z) in
            ⊎_elim (λ (f : rules.left (rules.turned s q) p ≤ rules.left s p). omega (arith, f, ap (λ (t : rules.State). rules.left t p) e))
            (λ (f : (c : ℕ) × Stores (rules.means s) (rules.means (rules.turned s q)) q c × is_on (rules.means s) (activity_of (rules.means s) p) c).
            absurd (undisturbed q f.0 is ne (subst (λ (t : rules.State). Stores (rules.means s) (rules.means t) q f.0) (sym e) f.1) f.2))
            (rules.stays s q p ok h known (λ z. ne (sym z)) n)

    own : k ≡ Turn p → left' < rules.left s p
    own is =
        let passed : AllByRecursion Passed (tests_of (rules.plan s) (rules.means s) (Turn p)) = (lt-ltb p (rules.plan s).parties known, (not_idle (activity_of (rules.means s) p) busy, tt)) in
        let e : after rules s k ≡ rules.turned s p = ap (after rules s) is ∙ ap (leaves s) (passes (tests_of (rules.plan s) (rules.means s) (Turn p)) (rules.turned s p) passed) in
        ⊎_elim (λ (f : activity_of (rules.means (rules.turned s p)) p ≡ idle). absurd (goes_on (ap (λ (t : rules.State). activity_of (rules.means t) p) e ∙ f)))
        (λ (f : rules.left (rules.turned s p) p < rules.left s p). omega (arith, f, ap (λ (t : rules.State). rules.left t p) e))
        (rules.falls s p ok known busy)
      where
        not_idle : (x : Activity R) → x ≢ idle → not (is_idle x) ≡ true
        not_idle idle n = absurd (n refl)
        not_idle (waits o) n = refl
        not_idle (in_force a) n = refl

    pub costs : turn_of p k + left' ≤ rules.left s p
    costs = by_call k refl
      where
        by_call : (x : Call R) → k ≡ x → turn_of p x + left' ≤ rules.left s p
        by_call (Take q i c) e = omega (arith, other (λ z. not_turn_take q i c (sym e ∙ z)))
          where
            not_turn_take : (q i c : ℕ) → ◌≡◌ {A = Call R} (Take q i c) (Turn p) → ⊥
            not_turn_take q i c z = let y : ◌≡◌ {A = ℕ} 0 1 = cc in omega arith
        by_call (Put q i r) e = omega (arith, other (λ z. not_turn_put q i r (sym e ∙ z)))
          where
            not_turn_put : (q i : ℕ) (r : R) → Put q i r ≡ Turn p → ⊥
            not_turn_put q i r z = let y : ◌≡◌ {A = ℕ} 0 1 = cc in omega arith
        by_call (Check q i) e = omega (arith, other (λ z. not_turn_check q i (sym e ∙ z)))
          where
            not_turn_check : (q i : ℕ) → ◌≡◌ {A = Call R} (Check q i) (Turn p) → ⊥
            not_turn_check q i z = let y : ◌≡◌ {A = ℕ} 0 1 = cc in omega arith
        by_call (Drop q i) e = omega (arith, other (λ z. not_turn_drop q i (sym e ∙ z)))
          where
            not_turn_drop : (q i : ℕ) → ◌≡◌ {A = Call R} (Drop q i) (Turn p) → ⊥
            not_turn_drop q i z = let y : ◌≡◌ {A = ℕ} 0 1 = cc in omega arith
        by_call (Look q i) e = omega (arith, other (λ z. not_turn_look q i (sym e ∙ z)))
          where
            not_turn_look : (q i : ℕ) → ◌≡◌ {A = Call R} (Look q i) (Turn p) → ⊥
            not_turn_look q i z = let y : ◌≡◌ {A = ℕ} 0 1 = cc in omega arith
        by_call (Turn q) e = ⊎_elim
            (λ (z : q ≡ p). omega (arith, own (e ∙ ap Turn z), one q p (eq-eqb q p z)))
            (λ (n : q ≡ p → ⊥). omega (arith, other (λ z. n (turn_same q p (sym e ∙ z))), none q p (ne_eqb q p n))) (cases_eq q p)
          where
            one : (q p : ℕ) → eqb q p ≡ true → ◌≡◌ {A = ℕ} (cond (eqb q p) 1 0) 1
            one q p z = ap {B = ℕ} (λ (b : Bool). cond b 1 0) z

            none : (q p : ℕ) → eqb q p ≡ false → ◌≡◌ {A = ℕ} (cond (eqb q p) 1 0) 0
            none q p z = ap {B = ℕ} (λ (b : Bool). cond b 1 0) z

            turn_same : (q p : ℕ) → ◌≡◌ {A = Call R} (Turn q) (Turn p) → q ≡ p
            turn_same q p z = cc

  -- fewer turns than are left
  fewer : (ks : List (Call R)) (s : rules.State) → rules.sound s → (p : ℕ) → p < (rules.plan s).parties → activity_of (rules.means s) p ≢ idle → GoesOn rules s p ks
      → turns_of p ks < rules.left s p
  fewer [] s ok p known busy g = rules.least s p ok known busy
  fewer (k ∷ ks) s ok p known busy g =
      omega (
        arith,
        turns_more p k ks,
        costs s ok p known busy k g.0 g.1,
        fewer ks (after rules s k) (sound_after rules s ok k) p (subst (λ (x : Plan). p < x.parties) (sym (same_plan rules s ok k)) known) g.0 g.2,
      )

  pub patient : Patient rules
  patient s ok p known busy ks g = omega (arith, fewer ks s ok p known busy g, rules.most s p ok known)
