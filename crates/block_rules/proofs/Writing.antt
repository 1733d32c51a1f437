-- What calls write: nothing but blocks that were ready, so no block that a link holds and none beyond the need.
use Rattle.std.proofs.Common.{◌≡◌, ℕ, ◌<◌, ◌≤◌, List, [], ◌∷◌, get_or, sym, refl, ap, ◌∙◌, subst, ⊎_elim, arith, Some}
use Rattle.std.specs.List.{AllByRecursion}
use Rattle.std.proofs.lemmas.List.{get_or-set_other, get_or_past}
use Rattle.std.proofs.lemmas.Bool.{cases_lt, ltb-true}
use Rattle.plan.specs.Plans.{width, need}
use Rattle.plan.specs.Refusals.{Outcome}
use Rattle.plan.specs.declared.check.ShelfType.TheVariants.{Block}
use Rattle.shelf.specs.Meaning.{flat}
use Rattle.shelf.specs.Calls.{Call, Take, Put, Check, Drop, Look, Turn, tests_of, leaves, state_after, after}
use Rattle.shelf.specs.Laws.{caller_of}
use Rattle.shelf.specs.Beyond.{Untouched}
use Rattle.shelf.proofs.Always.{row_same, row_written}
use Rattle.shelf.proofs.Passing.{Passed, Ways, all_pass, one_refuses, ways}
use Rattle.block_rules.specs.declared.parts.LinkState.{LinkState}
use Rattle.block_rules.specs.declared.parts.Place.TheVariants.{Ready}
use Rattle.block_rules.specs.Blocks.{State, unused, link, party, put_from}
use Rattle.block_rules.specs.Counting.{times}
use Rattle.block_rules.specs.Sound.{Sound}
use Rattle.block_rules.specs.Means.{means}
use Rattle.block_rules.specs.Places.{Safe, Writes, nothing, ready_block}
use Rattle.block_rules.proofs.AsShelf.{block_shelf_rules}
use Rattle.block_rules.proofs.Counts.{same_self, times_cons}
use Rattle.block_rules.proofs.Kept.{turn_same}
use Rattle.block_rules.proofs.Placed.{placed_known, safe}
use Rattle.block_rules.proofs.Steps.{none_not_some}

module _ {R : Type 0} (d : R) (s : State R) (ok : Sound s) where
  put_writes : (p j : ℕ) (r : R) → p < s.plan.parties → (xs : List ℕ) → (party s p).ready ≡ xs → Writes s p (put_from s p j r xs).row
  put_writes p j r in_p [] e = nothing refl
  put_writes p j r in_p (h ∷ rest) e = ready_block h r in_p (omega (arith, ap (times h) e, times_cons h h rest, same_self h)) refl

  accepted_writes : (k : Call R) → AllByRecursion Passed (tests_of s.plan (means d s) k) → Writes s (caller_of k) (state_after (block_shelf_rules d) s k).row
  accepted_writes (Take p i c) t = nothing refl
  accepted_writes (Put p i r) t = put_writes p (flat s.plan p i) r (ltb-true p s.plan.parties t.0) (party s p).ready refl
  accepted_writes (Check p i) t = nothing refl
  accepted_writes (Drop p i) t = nothing refl
  accepted_writes (Look p i) t = nothing refl
  accepted_writes (Turn p) t = nothing (turn_same s p (party s p).job).row

  pub call_writes : (k : Call R) → Writes s (caller_of k) (after (block_shelf_rules d) s k).row
  call_writes k = by_way (ways (tests_of s.plan (means d s) k) (state_after (block_shelf_rules d) s k))
    where
      by_way : Ways (tests_of s.plan (means d s) k) (state_after (block_shelf_rules d) s k) → Writes s (caller_of k) (after (block_shelf_rules d) s k).row
      by_way (all_pass p q) = subst (λ (o : Outcome (State R)). Writes s (caller_of k) (leaves s o).row) (sym q) (accepted_writes k p)
      by_way (one_refuses n q) = subst (λ (o : Outcome (State R)). Writes s (caller_of k) (leaves s o).row) (sym q) (nothing refl)

  pub call_untouched : (k : Call R) → Untouched (need Block s.plan) s.row (after (block_shelf_rules d) s k).row
  call_untouched k = by (call_writes k)
    where
      by : Writes s (caller_of k) (after (block_shelf_rules d) s k).row → Untouched (need Block s.plan) s.row (after (block_shelf_rules d) s k).row
      by (nothing e) = row_same (need Block s.plan) s.row (after (block_shelf_rules d) s k).row e
      by (ready_block b r in_p h e) = row_written (need Block s.plan) s.row (after (block_shelf_rules d) s k).row b r (placed_known s ok b (Ready (caller_of k)) (in_p, h)) e

  -- a link that holds something is one that is there
  held_within : (j c : ℕ) → (link s j).hold ≡ Some c → j < width s.plan
  held_within j c e = ⊎_elim (λ (h : j < width s.plan). h)
      (λ (h : width s.plan ≤ j). absurd (none_not_some c (sym (ap (λ (l : LinkState). l.hold) (get_or_past s.links j unused (omega (arith, h, ok.links)))) ∙ e)))
      (cases_lt j (width s.plan))

  pub held_safe : (j c : ℕ) → (link s j).hold ≡ Some c → Safe s j
  held_safe j c e = safe s ok j c (held_within j c e) e

  pub call_spares : (k : Call R) (j c : ℕ) → (link s j).hold ≡ Some c → get_or (after (block_shelf_rules d) s k).row (link s j).seen d ≡ get_or s.row (link s j).seen d
  call_spares k j c on_c = by (after (block_shelf_rules d) s k).row (caller_of k) (call_writes k)
    where
      by : (row : List R) (p : ℕ) → Writes s p row → get_or row (link s j).seen d ≡ get_or s.row (link s j).seen d
      by row p (nothing e) = ap (λ (xs : List R). get_or xs (link s j).seen d) e
      by row p (ready_block b r in_p h e) =
          ap (λ (xs : List R). get_or xs (link s j).seen d) e
          ∙ get_or-set_other s.row b (link s j).seen r d
          (λ same_block. omega (arith, (held_safe j c on_c).not_ready p in_p, subst (λ (x : ℕ). 1 ≤ times x (party s p).ready) (sym same_block) h))
