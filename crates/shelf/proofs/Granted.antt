-- What the tests of a call tell when it is accepted, and the state and the answer then, for the maker of any shelf.
use Rattle.std.proofs.Common.{◌≡◌, ℕ, ◌<◌, true, false, cond, not, ltb, ◌≢◌, List, [], ◌∷◌, sym, refl, ap, ◌∙◌, subst}
use Rattle.std.specs.List.{AllByRecursion}
use Rattle.std.proofs.lemmas.Bool.{ltb-true, lt-ltb, cond-true, cond-false}
use Rattle.plan.specs.Refusals.{Test, accepted, refused, unless_refused}
use Rattle.plan.specs.declared.check.Plan.{Plan}
use Rattle.shelf.specs.declared.answer.Answer.{Answer}
use Rattle.shelf.specs.Meaning.{flat, Own, vacant, Activity, idle, waits, in_force, Meaning, link_at, activity_of}
use Rattle.shelf.specs.Rules.{Rules}
use Rattle.shelf.specs.Calls.{Call, Turn, is_idle, known, free, has_link, full, tests_of, leaves, state_after, after, granted, turn_answer}
use Rattle.shelf.proofs.Passing.{Passed, passes, accepted_passed}
use Rattle.shelf.proofs.After.{idle_is, full_is, own_flat}

-- a party's link that passed the tests of a free one
module _ {R : Type 0} (pl : Plan) (m : Meaning R) (p i at : ℕ) (us : List Test)
    (e : accepted at ≡ unless_refused (known pl m p ∷ free pl m p ∷ has_link pl m i ∷ us) (flat pl p i)) where
  pub free_passed : AllByRecursion Passed (known pl m p ∷ free pl m p ∷ has_link pl m i ∷ us)
  free_passed = (accepted_passed (known pl m p ∷ free pl m p ∷ has_link pl m i ∷ us) (flat pl p i) at e).0

  pub number_is : at ≡ flat pl p i
  number_is = (accepted_passed (known pl m p ∷ free pl m p ∷ has_link pl m i ∷ us) (flat pl p i) at e).1

  pub party_in : p < pl.parties
  party_in = ltb-true _ _ free_passed.0

  pub idle_there : activity_of m p ≡ idle
  idle_there = idle_is _ free_passed.1.0

  pub link_own : Own pl p at
  link_own = subst (λ (j : ℕ). Own pl p j) (sym number_is) (own_flat pl p i (ltb-true _ _ free_passed.1.1.0))

-- and of one that is not empty
pub link_full : {R : Type 0} (pl : Plan) (m : Meaning R) (p i at : ℕ) → accepted at ≡ unless_refused (known pl m p ∷ free pl m p ∷ has_link pl m i ∷ full pl m p i ∷ []) (flat pl p i)
    → link_at m at ≢ vacant
link_full pl m p i at e =
    subst (λ (j : ℕ). link_at m j ≢ vacant) (sym (number_is pl m p i at (full pl m p i ∷ []) e)) (full_is _ (free_passed pl m p i at (full pl m p i ∷ []) e).1.1.1.0)

-- an accepted call
module _ {R : Type 0} (rules : Rules R) (s : rules.State) (k : Call R) (t : AllByRecursion Passed (tests_of (rules.plan s) (rules.means s) k)) where
  pub granted_by : accepted tt ≡ granted rules s k
  granted_by = sym (passes (tests_of (rules.plan s) (rules.means s) k) tt t)

  pub after_by : (u : rules.State) → u ≡ state_after rules s k → u ≡ after rules s k
  after_by u e = e ∙ ap (leaves s) (sym (passes (tests_of (rules.plan s) (rules.means s) k) (state_after rules s k) t))

-- a turn of a party that is there
module _ {R : Type 0} (rules : Rules R) (s : rules.State) (p : ℕ) (in_p : p < (rules.plan s).parties) where
  turn_refused : activity_of (rules.means s) p ≡ idle → {A : Type 0} (a : A) → refused 3 ≡ unless_refused (tests_of (rules.plan s) (rules.means s) (Turn p)) a
  turn_refused e {A} a =
      let quiet : not (is_idle (activity_of (rules.means s) p)) ≡ false = ap (λ x. not (is_idle x)) e in
      sym (cond-true (ltb p (rules.plan s).parties) (cond (not (is_idle (activity_of (rules.means s) p))) (accepted a) (refused 3)) (refused 1) (lt-ltb p (rules.plan s).parties in_p)
      ∙ cond-false (not (is_idle (activity_of (rules.means s) p))) (accepted a) (refused 3) quiet)

  busy_passes : (x : Activity R) → x ≢ idle → not (is_idle x) ≡ true
  busy_passes idle n = absurd (n refl)
  busy_passes (waits o) n = refl
  busy_passes (in_force a) n = refl

  pub turn_passes : activity_of (rules.means s) p ≢ idle → AllByRecursion Passed (tests_of (rules.plan s) (rules.means s) (Turn p))
  turn_passes n = (lt-ltb p (rules.plan s).parties in_p, (busy_passes (activity_of (rules.means s) p) n, tt))

  pub idle_answer : activity_of (rules.means s) p ≡ idle → refused 3 ≡ turn_answer rules s p
  idle_answer e = turn_refused e (rules.answer s p)

  pub idle_state : activity_of (rules.means s) p ≡ idle → s ≡ after rules s (Turn p)
  idle_state e = ap (leaves s) (turn_refused e (rules.turned s p))

  pub busy_answer : activity_of (rules.means s) p ≢ idle → (a : Answer) → a ≡ rules.answer s p → accepted a ≡ turn_answer rules s p
  busy_answer n a e = ap accepted e ∙ sym (passes (tests_of (rules.plan s) (rules.means s) (Turn p)) (rules.answer s p) (turn_passes n))
