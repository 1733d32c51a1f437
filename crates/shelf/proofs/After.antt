-- Whatever is called, a shelf stays in a state of which its laws hold.
use Rattle.std.proofs.Common.{◌≡◌, ℕ, ◌<◌, true, not, ◌≢◌, sym, refl, subst, arith}
use Rattle.std.specs.List.{AllByRecursion}
use Rattle.std.proofs.lemmas.Bool.{ltb-true}
use Rattle.plan.specs.Refusals.{Outcome}
use Rattle.plan.specs.declared.check.Plan.{Plan}
use Rattle.shelf.specs.Meaning.{flat, Own, Link, vacant, holds, Activity, idle, waits, in_force}
use Rattle.shelf.specs.Rules.{Rules}
use Rattle.shelf.specs.Calls.{Call, Take, Put, Check, Drop, Look, Turn, is_idle, is_vacant, tests_of, leaves, state_after, after}
use Rattle.shelf.proofs.Passing.{Passed, Ways, all_pass, one_refuses, ways}

pub idle_is : {R : Type 0} (x : Activity R) → is_idle x ≡ true → x ≡ idle
idle_is idle e = refl
idle_is (waits o) e = let z : ◌≡◌ {A = ℕ} 0 1 = cc in absurd (omega arith)
idle_is (in_force a) e = let z : ◌≡◌ {A = ℕ} 0 1 = cc in absurd (omega arith)

pub busy_is : {R : Type 0} (x : Activity R) → not (is_idle x) ≡ true → x ≢ idle
busy_is idle e q = let z : ◌≡◌ {A = ℕ} 0 1 = cc in omega arith
busy_is (waits o) e q = let z : ◌≡◌ {A = ℕ} 0 1 = cc in omega arith
busy_is (in_force a) e q = let z : ◌≡◌ {A = ℕ} 0 1 = cc in omega arith

pub full_is : {R : Type 0} (x : Link R) → not (is_vacant x) ≡ true → x ≢ vacant
full_is vacant e q = let z : ◌≡◌ {A = ℕ} 0 1 = cc in omega arith
full_is (holds c r t) e q = let z : ◌≡◌ {A = ℕ} 0 1 = cc in omega arith

pub own_flat : (pl : Plan) (p i : ℕ) → i < pl.links → Own pl p (flat pl p i)
own_flat pl p i h = record { from = omega arith; to = omega arith }

module _ {R : Type 0} (rules : Rules R) (s : rules.State) (ok : rules.sound s) where
  sound_accepted : (k : Call R) → AllByRecursion Passed (tests_of (rules.plan s) (rules.means s) k) → rules.sound (state_after rules s k)
  sound_accepted (Take p i c) t =
      (rules.takes s p (flat (rules.plan s) p i) c ok (ltb-true _ _ t.0) (own_flat (rules.plan s) p i (ltb-true _ _ t.1.1.0)) (ltb-true _ _ t.1.1.1.0) (idle_is _ t.1.0)).0.sound'
  sound_accepted (Put p i r) t =
      (rules.puts s p (flat (rules.plan s) p i) r ok (ltb-true _ _ t.0) (own_flat (rules.plan s) p i (ltb-true _ _ t.1.1.0)) (idle_is _ t.1.0) (full_is _ t.1.1.1.0)).0.sound'
  sound_accepted (Check p i) t =
      (rules.checks s p (flat (rules.plan s) p i) ok (ltb-true _ _ t.0) (own_flat (rules.plan s) p i (ltb-true _ _ t.1.1.0)) (idle_is _ t.1.0) (full_is _ t.1.1.1.0)).0.sound'
  sound_accepted (Drop p i) t =
      (rules.drops s p (flat (rules.plan s) p i) ok (ltb-true _ _ t.0) (own_flat (rules.plan s) p i (ltb-true _ _ t.1.1.0)) (idle_is _ t.1.0)).0.sound'
  sound_accepted (Look p i) t = ok
  sound_accepted (Turn p) t = (rules.turns s p ok (ltb-true _ _ t.0) (busy_is _ t.1.0)).0

  pub sound_after : (k : Call R) → rules.sound (after rules s k)
  sound_after k = by_way (ways (tests_of (rules.plan s) (rules.means s) k) (state_after rules s k))
    where
      by_way : Ways (tests_of (rules.plan s) (rules.means s) k) (state_after rules s k) → rules.sound (after rules s k)
      by_way (all_pass p q) = subst (λ (o : Outcome rules.State). rules.sound (leaves s o)) (sym q) (sound_accepted k p)
      by_way (one_refuses n q) = subst (λ (o : Outcome rules.State). rules.sound (leaves s o)) (sym q) ok
