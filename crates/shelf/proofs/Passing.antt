-- Tests down the table of refusals: all passed, or refused by one.
use Rattle.std.proofs.Common.{◌≡◌, ℕ, Bool, true, false, cond, List, [], ◌∷◌, ◌++◌, sym, refl, ap, ◌∙◌, arith}
use Rattle.std.specs.List.{AllByRecursion}
use Rattle.plan.specs.Refusals.{accepted, refused, Test, unless_refused}

abbrev pub Passed : Test → Type 0
Passed t = t.passes ≡ true

-- the ways of a list of tests
pub data Ways {A : Type 0} (ts : List Test) (a : A) : Type 0 where
  all_pass : AllByRecursion Passed ts → unless_refused ts a ≡ accepted a → Ways ts a
  one_refuses : (n : ℕ) → unless_refused ts a ≡ refused n → Ways ts a

pub ways : {A : Type 0} (ts : List Test) (a : A) → Ways ts a
ways [] a = all_pass tt refl
ways {A} (t ∷ ts) a = by_test t.passes refl (ways ts a)
  where
    under : (b : Bool) → t.passes ≡ b → cond t.passes (unless_refused ts a) (refused t.number) ≡ cond b (unless_refused ts a) (refused t.number)
    under b e = ap (λ (x : Bool). cond x (unless_refused ts a) (refused t.number)) e

    by_test : (b : Bool) → t.passes ≡ b → Ways ts a → Ways (t ∷ ts) a
    by_test false e w = one_refuses t.number (under false e)
    by_test true e (all_pass p q) = all_pass (e, p) (under true e ∙ q)
    by_test true e (one_refuses n q) = one_refuses n (under true e ∙ q)

-- where all pass
pub passes : {A : Type 0} (ts : List Test) (a : A) → AllByRecursion Passed ts → unless_refused ts a ≡ accepted a
passes [] a p = refl
passes (t ∷ ts) a p = ap (λ (x : Bool). cond x (unless_refused ts a) (refused t.number)) p.0 ∙ passes ts a p.1

not_both : {A : Type 0} (a : A) (n : ℕ) → accepted a ≡ refused n → ⊥
not_both a n e = let z : ◌≡◌ {A = ℕ} 0 1 = cc in omega arith

-- tests that accepted were all passed, and gave their value
pub accepted_passed : {A : Type 0} (ts : List Test) (a b : A) → accepted b ≡ unless_refused ts a → AllByRecursion Passed ts × (b ≡ a)
accepted_passed {A} ts a b e = by_way (ways ts a)
  where
    by_way : Ways ts a → AllByRecursion Passed ts × (b ≡ a)
    by_way (all_pass p q) = (p, let r : accepted b ≡ accepted a = e ∙ q in cc)
    by_way (one_refuses n q) = absurd (not_both b n (e ∙ q))

-- tests that refused refuse whatever value and whatever tests follow
pub refused_more : {A B : Type 0} (ts us : List Test) (a : A) (b : B) (n : ℕ) → refused n ≡ unless_refused ts a → refused n ≡ unless_refused (ts ++ us) b
refused_more [] us a b n e = absurd (not_both a n (sym e))
refused_more {A} {B} (t ∷ ts) us a b n e = by_test t.passes refl (refused_more ts us a b n)
  where
    by_test : (x : Bool) → t.passes ≡ x → (refused n ≡ unless_refused ts a → refused n ≡ unless_refused (ts ++ us) b)
        → refused n ≡ cond t.passes (unless_refused (ts ++ us) b) (refused t.number)
    by_test false q ih =
        let d : refused n ≡ refused t.number = e ∙ ap (λ (x : Bool). cond x (unless_refused ts a) (refused t.number)) q in
        let same : n ≡ t.number = cc in
        ap refused same ∙ ap (λ (x : Bool). cond x (unless_refused (ts ++ us) b) (refused t.number)) (sym q)
    by_test true q ih =
        let d : refused n ≡ unless_refused ts a = e ∙ ap (λ (x : Bool). cond x (unless_refused ts a) (refused t.number)) q in
        ih d ∙ ap (λ (x : Bool). cond x (unless_refused (ts ++ us) b) (refused t.number)) (sym q)
