-- What one call keeps, every run of calls keeps.
use Rattle.std.proofs.Common.{◌≡◌, ℕ, ◌<◌, List, [], ◌∷◌, length, drop, set, sym, refl, ap, ◌∙◌}
use Rattle.std.proofs.lemmas.List.{length-set, drop-set-lt}
use Rattle.plan.specs.declared.check.Plan.{Plan}
use Rattle.shelf.specs.Rules.{Rules}
use Rattle.shelf.specs.Calls.{Call, after}
use Rattle.shelf.specs.Laws.{after_all}
use Rattle.shelf.specs.Beyond.{Untouched, BeyondStays}
use Rattle.shelf.proofs.After.{sound_after}
use Rattle.shelf.proofs.Did.{same_plan}

pub sound_always : {R : Type 0} (rules : Rules R) (s : rules.State) → rules.sound s → (ks : List (Call R)) → rules.sound (after_all rules s ks)
sound_always rules s ok [] = ok
sound_always rules s ok (k ∷ ks) = sound_always rules (after rules s k) (sound_after rules s ok k) ks

-- a row as it was, and one with a block below n written
pub row_same : {R : Type 0} (n : ℕ) (row row' : List R) → row' ≡ row → Untouched n row row'
row_same n row row' e = record { size = ap length e; beyond = ap (drop n) e }

pub row_written : {R : Type 0} (n : ℕ) (row row' : List R) (b : ℕ) (x : R) → b < n → row' ≡ set row b x → Untouched n row row'
row_written n row row' b x h e = record { size = ap length e ∙ length-set row b x; beyond = ap (drop n) e ∙ drop-set-lt n row b x h }

pub beyond_always : {R : Type 0} (rules : Rules R) (row : rules.State → List R) (need : Plan → ℕ)
    → ((t : rules.State) → rules.sound t → (k : Call R) → Untouched (need (rules.plan t)) (row t) (row (after rules t k)))
    → (s : rules.State) → rules.sound s → BeyondStays rules row (need (rules.plan s)) s
beyond_always {R} rules row need one s ok calls = over calls s ok
  where
    over : (ks : List (Call R)) (t : rules.State) → rules.sound t → Untouched (need (rules.plan t)) (row t) (row (after_all rules t ks))
    over [] t ok = record { size = refl; beyond = refl }
    over (k ∷ ks) t ok =
        let u = after rules t k in
        let first = one t ok k in
        let rest = over ks u (sound_after rules t ok k) in
        let e = ap need (same_plan rules t ok k) in
        record {
          size = rest.size ∙ first.size;
          beyond = ap (λ (n : ℕ). drop n (row (after_all rules u ks))) (sym e) ∙ (rest.beyond ∙ (ap (λ (n : ℕ). drop n (row u)) e ∙ first.beyond));
        }
