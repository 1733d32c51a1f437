-- The place that a seat tells is one where the block stands; and if it tells none, the block does not stand with the party.
use Rattle.std.proofs.Common.{◌≡◌, ℕ, ◌<◌, Bool, true, false, cond, Some, None, refl, subst, arith}
use Rattle.block_parts.specs.Seats.{place_with}
use Rattle.block_rules.specs.declared.parts.Place.{Place}
use Rattle.block_rules.specs.declared.parts.Place.TheVariants.{Ready, Retired, InHand}
use Rattle.block_rules.specs.Blocks.{in_hand, State, party, among}
use Rattle.block_rules.specs.Counting.{stands_with}
use Rattle.block_rules.specs.Places.{StandsAt}
use Rattle.block_rules.proofs.Placed.{among_yes, among_not}

module _ {R : Type 0} (s : State R) (p b : ℕ) where
  pub told_stands : p < s.plan.parties → (x : Place) → Some x ≡ place_with (party s p) p b → StandsAt s b x
  told_stands in_p x e = by (among b (party s p).ready) refl (among b (party s p).retired) refl (among b (in_hand (party s p).job)) refl e
    where
      by : (t : Bool) → among b (party s p).ready ≡ t → (u : Bool) → among b (party s p).retired ≡ u → (v : Bool) → among b (in_hand (party s p).job) ≡ v
          → Some x ≡ cond t (Some (Ready p)) (cond u (Some (Retired p)) (cond v (Some (InHand p)) None)) → StandsAt s b x
      by true f u g v h k = let same : Ready p ≡ x = cc in subst (StandsAt s b) same (in_p, among_yes b (party s p).ready f)
      by false f true g v h k = let same : Retired p ≡ x = cc in subst (StandsAt s b) same (in_p, among_yes b (party s p).retired g)
      by false f false g true h k = let same : InHand p ≡ x = cc in subst (StandsAt s b) same (in_p, among_yes b (in_hand (party s p).job) h)
      by false f false g false h k = let z : ◌≡◌ {A = ℕ} 0 1 = cc in absurd (omega arith)

  pub told_none : None ≡ place_with (party s p) p b → stands_with b (party s p) ≡ 0
  told_none e = by (among b (party s p).ready) refl (among b (party s p).retired) refl (among b (in_hand (party s p).job)) refl e
    where
      by : (t : Bool) → among b (party s p).ready ≡ t → (u : Bool) → among b (party s p).retired ≡ u → (v : Bool) → among b (in_hand (party s p).job) ≡ v
          → None ≡ cond t (Some (Ready p)) (cond u (Some (Retired p)) (cond v (Some (InHand p)) None)) → stands_with b (party s p) ≡ 0
      by true f u g v h k = let z : ◌≡◌ {A = ℕ} 0 1 = cc in absurd (omega arith)
      by false f true g v h k = let z : ◌≡◌ {A = ℕ} 0 1 = cc in absurd (omega arith)
      by false f false g true h k = let z : ◌≡◌ {A = ℕ} 0 1 = cc in absurd (omega arith)
      by false f false g false h k = omega (arith, among_not b (party s p).ready f, among_not b (party s p).retired g, among_not b (in_hand (party s p).job) h)
