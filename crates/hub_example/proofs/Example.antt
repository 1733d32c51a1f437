-- The example, by computation.
use Rattle.std.proofs.Common.{◌≡◌, ℕ, ◌<◌, Bool, true, false, ◌&&◌, eqb, ltb, replicate, refl, ap, ◌∙◌, arith}
use Rattle.std.proofs.lemmas.Bool.{both_ways, lt-ltb, eq-eqb, and_from, agree_below, agree_below_at}
use borrow.Author.Count.{below_none, below_more}
use Rattle.plan.specs.Refusals.{Outcome, accepted, refused}
use Rattle.plan.specs.Plans.{need}
use Rattle.plan.specs.declared.check.ShelfType.TheVariants.{Flag}
use Rattle.reading.specs.Tallies.{tally_kind}
use Rattle.flag_rules.proofs.Made.{made_fresh}
use Rattle.hub_rules.specs.declared.parts.Progress.{Progress}
use Rattle.hub_rules.specs.declared.parts.Progress.TheVariants.{Run, Done}
use Rattle.hub_rules.specs.Hub.{Call, Amendment, Picture, Turn, Release, Look, turn_answer}
use Rattle.hub_rules.specs.Law.{DoneAt, call_at, hub_at}
use Rattle.hub_example.specs.Past.{tally, rules, plan, start, calls, ExamplePast}

-- whether call t is a turn of party p that is done
abbrev is_turn_of : ℕ → Call → Bool
is_turn_of p (Amendment q c w) = false
is_turn_of p (Picture q cs) = false
is_turn_of p (Turn q) = eqb q p
is_turn_of p (Release q) = false
is_turn_of p (Look q i) = false

abbrev says_done : Outcome Progress → Bool
says_done (accepted Run) = false
says_done (accepted Done) = true
says_done (refused n) = false

abbrev is_done : ℕ → ℕ → Bool
is_done p t = is_turn_of p (call_at tally_kind rules start calls t) && says_done (turn_answer tally_kind rules (hub_at tally_kind rules start calls t) p)

is_done_where : (p t : ℕ) → DoneAt tally_kind rules start calls p t → is_done p t ≡ true
is_done_where p t d = and_from _ _ (ap (is_turn_of p) d.0 ∙ eq-eqb p p refl) (ap says_done d.1)

-- no turn between calls k and e is one of party p that is done
none_between : (p k e : ℕ) → agree_below (λ t. ltb k t && is_done p t) (λ t. false) e ≡ true → (t : ℕ) → k < t → t < e → DoneAt tally_kind rules start calls p t → ⊥
none_between p k e none t a b d = both_ways _ (agree_below_at (λ t. ltb k t && is_done p t) (λ t. false) e t none b) (and_from _ _ (lt-ltb k t a) (is_done_where p t d))

pub example_past : ExamplePast
example_past = record {
  fresh = made_fresh (tally 0) plan (replicate (need Flag plan) (tally 9)) plan refl;
  amends = record {
    operation = record { in_past = omega arith; is_order = refl; is_accepted = refl };
    ends = record { in_past = omega arith; later = omega arith; is_done = (refl, refl); first = none_between 0 0 4 refl };
    looks = record { size = refl; looks = below_more _ 0 (below_none _) refl };
  };
  pictures = record {
    operation = record { in_past = omega arith; is_order = refl; is_accepted = refl };
    ends = record { in_past = omega arith; later = omega arith; is_done = (refl, refl); first = none_between 1 1 10 refl };
    looks = record { size = refl; looks = below_more _ 1 (below_more _ 0 (below_none _) refl) refl };
  };
  amends_again = record {
    operation = record { in_past = omega arith; is_order = refl; is_accepted = refl };
    ends = record { in_past = omega arith; later = omega arith; is_done = (refl, refl); first = none_between 0 11 14 refl };
    looks = record { size = refl; looks = below_more _ 0 (below_none _) refl };
  };
  runs = record { in_past = omega arith; is_order = refl; is_accepted = refl };
  comes_into_force = record {
    party = 0;
    channel = 0;
    word = 5;
    is_turn = refl;
    amends = refl;
    stores = record { link = 0; reading = tally 5; seen = tally 0; comes = record { waited = refl; waits_no_more = λ e. cc }; alive = refl };
  };
  readings = refl;
}
