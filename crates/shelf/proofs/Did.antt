-- What a call does to the meaning of a shelf.
use Rattle.std.proofs.Common.{◌≡◌, ℕ, ◌<◌, ◌≢◌, sym, refl, ap, ◌∙◌, subst}
use Rattle.std.specs.List.{AllByRecursion}
use Rattle.std.proofs.lemmas.Bool.{ltb-true}
use Rattle.shelf.specs.Meaning.{flat, Own, vacant, idle, waits, take, put, check, Meaning, activity_of, link_at, does, linking}
use Rattle.shelf.specs.Rules.{Rules, Keeps}
use Rattle.shelf.specs.Calls.{Call, Take, Put, Check, Drop, Look, Turn, tests_of, leaves, state_after, after}
use Rattle.shelf.specs.Laws.{caller_of}
use Rattle.shelf.proofs.Passing.{Passed, Ways, all_pass, one_refuses, ways}
use Rattle.shelf.proofs.After.{idle_is, busy_is, full_is, own_flat}

module _ {R : Type 0} (rules : Rules R) (s : rules.State) where
  -- an accepted start or drop of party p on its own link j, while p is idle
  pub record Begins (k : Call R) (p j : ℕ) (m' : Meaning R) : Type 0 where
    pub caller : caller_of k ≡ p
    pub known : p < (rules.plan s).parties
    pub own : Own (rules.plan s) p j
    pub rests : activity_of (rules.means s) p ≡ idle
    pub keeps : Keeps rules.State rules.plan rules.patience rules.sound rules.left p s (after rules s k)
    pub meant : rules.means (after rules s k) ≡ m'

  pub data Did (k : Call R) : Type 0 where
    nothing : after rules s k ≡ s → Did k
    starts_take : (p j c : ℕ) → Begins k p j (does (linking (rules.means s) j vacant) p (waits (take j c))) → Did k
    starts_put : (p j : ℕ) (r : R) → Begins k p j (does (rules.means s) p (waits (put j r))) → Did k
    starts_check : (p j : ℕ) → Begins k p j (does (rules.means s) p (waits (check j))) → Did k
    drops : (p j : ℕ) → Begins k p j (linking (rules.means s) j vacant) → Did k
    turns : (p : ℕ) → k ≡ Turn p → p < (rules.plan s).parties → activity_of (rules.means s) p ≢ idle → after rules s k ≡ rules.turned s p → Did k

  module _ (ok : rules.sound s) where
    begun : (k : Call R) (p j : ℕ) (m' : Meaning R) → caller_of k ≡ p → p < (rules.plan s).parties → Own (rules.plan s) p j → activity_of (rules.means s) p ≡ idle
        → after rules s k ≡ state_after rules s k → Keeps rules.State rules.plan rules.patience rules.sound rules.left p s (state_after rules s k) × (rules.means (state_after rules s k) ≡ m')
        → Begins k p j m'
    begun k p j m' e h own rests q t = record {
      caller = e;
      known = h;
      own = own;
      rests = rests;
      keeps = subst (λ (x : rules.State). Keeps rules.State rules.plan rules.patience rules.sound rules.left p s x) (sym q) t.0;
      meant = ap rules.means q ∙ t.1;
    }

    by_call : (k : Call R) → AllByRecursion Passed (tests_of (rules.plan s) (rules.means s) k) → after rules s k ≡ state_after rules s k → Did k
    by_call (Take p i c) t q =
        let j : ℕ = flat (rules.plan s) p i in
        let h = ltb-true p (rules.plan s).parties t.0 in
        let own = own_flat (rules.plan s) p i (ltb-true i (rules.plan s).links t.1.1.0) in
        let rests = idle_is (activity_of (rules.means s) p) t.1.0 in
        starts_take p j c (begun (Take p i c) p j _ refl h own rests q (rules.takes s p j c ok h own (ltb-true c (rules.plan s).channels t.1.1.1.0) rests))
    by_call (Put p i r) t q =
        let j : ℕ = flat (rules.plan s) p i in
        let h = ltb-true p (rules.plan s).parties t.0 in
        let own = own_flat (rules.plan s) p i (ltb-true i (rules.plan s).links t.1.1.0) in
        let rests = idle_is (activity_of (rules.means s) p) t.1.0 in
        starts_put p j r (begun (Put p i r) p j _ refl h own rests q (rules.puts s p j r ok h own rests (full_is (link_at (rules.means s) j) t.1.1.1.0)))
    by_call (Check p i) t q =
        let j : ℕ = flat (rules.plan s) p i in
        let h = ltb-true p (rules.plan s).parties t.0 in
        let own = own_flat (rules.plan s) p i (ltb-true i (rules.plan s).links t.1.1.0) in
        let rests = idle_is (activity_of (rules.means s) p) t.1.0 in
        starts_check p j (begun (Check p i) p j _ refl h own rests q (rules.checks s p j ok h own rests (full_is (link_at (rules.means s) j) t.1.1.1.0)))
    by_call (Drop p i) t q =
        let j : ℕ = flat (rules.plan s) p i in
        let h = ltb-true p (rules.plan s).parties t.0 in
        let own = own_flat (rules.plan s) p i (ltb-true i (rules.plan s).links t.1.1.0) in
        let rests = idle_is (activity_of (rules.means s) p) t.1.0 in
        drops p j (begun (Drop p i) p j _ refl h own rests q (rules.drops s p j ok h own rests))
    by_call (Look p i) t q = nothing q
    by_call (Turn p) t q = turns p refl (ltb-true p (rules.plan s).parties t.0) (busy_is (activity_of (rules.means s) p) t.1.0) q

    pub did : (k : Call R) → Did k
    did k = by_way (ways (tests_of (rules.plan s) (rules.means s) k) (state_after rules s k))
      where
        by_way : Ways (tests_of (rules.plan s) (rules.means s) k) (state_after rules s k) → Did k
        by_way (all_pass p q) = by_call k p (ap (leaves s) q)
        by_way (one_refuses n q) = nothing (ap (leaves s) q)

    -- plan and patience stay whatever is called
    pub same_plan : (k : Call R) → rules.plan (after rules s k) ≡ rules.plan s
    same_plan k = by_did (did k)
      where
        by_did : Did k → rules.plan (after rules s k) ≡ rules.plan s
        by_did (nothing e) = ap rules.plan e
        by_did (starts_take p j c b) = b.keeps.plan'
        by_did (starts_put p j r b) = b.keeps.plan'
        by_did (starts_check p j b) = b.keeps.plan'
        by_did (drops p j b) = b.keeps.plan'
        by_did (turns p e h n q) = ap rules.plan q ∙ (rules.turns s p ok h n).1

    pub same_patience : (k : Call R) → rules.patience (after rules s k) ≡ rules.patience s
    same_patience k = by_did (did k)
      where
        by_did : Did k → rules.patience (after rules s k) ≡ rules.patience s
        by_did (nothing e) = ap rules.patience e
        by_did (starts_take p j c b) = b.keeps.patience'
        by_did (starts_put p j r b) = b.keeps.patience'
        by_did (starts_check p j b) = b.keeps.patience'
        by_did (drops p j b) = b.keeps.patience'
        by_did (turns p e h n q) = ap rules.patience q ∙ (rules.turns s p ok h n).2
