-- What follows from the shelf's answer, exactly and in the model; lists that pass the hub's tests.
use Rattle.std.proofs.Common.{◌≡◌, ℕ, zero, suc, ◌+◌, ◌-◌, ◌<◌, Bool, true, false, not, eqb, ltb, ◌≢◌, List, [], ◌∷◌, length, replicate, get_or, refl, add-one, arith}
use lib.Seq.{take-append_seam}
use mathlib.Core.Option.{none, some}
use Rattle.std.proofs.lemmas.Bool.{both_ways, ltb-true, ltb-false, eq-eqb, not-true, and_parts, true_from_ne_false, cond-true, cond-false}
use Rattle.std.specs.List.{list_all}
use Rattle.std.proofs.lemmas.List.Folds.{list_all_at, list_any_at}
use Rattle.shelf.specs.declared.answer.Answer.TheVariants.{Run}
use Rattle.history.specs.Board.{picture}
use Rattle.history.proofs.Shelf.{Said, taken, stored as put_stored, missed, live, broken}
use Rattle.history.proofs.Hub.{Stage, taking, putting, checking, free, doing, Next, next_take, next_put, next_check, stored_done, missed_again, live_next, live_done, broken_again}
use Rattle.history.proofs.Fitting.{CanSay}
use Rattle.hub_rules.specs.declared.parts.ChannelList.{ChannelList}
use Rattle.hub_rules.specs.declared.parts.Party.{Party}
use Rattle.hub_rules.specs.declared.parts.Party.TheVariants.{Idle, AmendmentTake, AmendmentPut, PictureTake, PictureCheck}
use Rattle.hub_rules.specs.declared.parts.Progress.TheVariants as progress
use Rattle.hub_rules.specs.Hub.{channels_of, stored, none_twice, is_free, progress_of, next}
use Rattle.hub_rules.proofs.Match.{answer_of, task_of, order_of, stage_of}

-- what an operation and the shelf's answer lead to: the end, or another stage
pub data Leads (y : Party) (sd : Said) : Type 0 where
  to_end : Next (order_of y) (stage_of y) sd none → next y (answer_of sd) ≡ Idle → Leads y sd
  to_stage : (y' : Party) (st : Stage) → Next (order_of y) (stage_of y) sd (some st) → next y (answer_of sd) ≡ y' → task_of y' ≡ doing (order_of y) st → progress_of y' ≡ progress.Run → Leads y sd

module _ (l : ChannelList) (j : ℕ) (h : j < length (channels_of l)) where
  take_leads : (b : Bool) → ltb (j + 1) (length (channels_of l)) ≡ b → Leads (PictureTake l j) taken
  take_leads true e =
      to_stage (PictureTake l (j + 1)) (taking (j + 1)) (rw add-one (next_take (picture (channels_of l)) j (omega (arith, ltb-true)))) (cond-true _ _ _ e) refl refl
  take_leads false e = to_stage (PictureCheck l 0) (checking 0) (next_check (channels_of l) j (omega (arith, ltb-false))) (cond-false _ _ _ e) refl refl

  check_leads : (b : Bool) → ltb (j + 1) (length (channels_of l)) ≡ b → Leads (PictureCheck l j) live
  check_leads true e =
      to_stage (PictureCheck l (j + 1)) (checking (j + 1)) (rw add-one (live_next (channels_of l) j (omega (arith, ltb-true)))) (cond-true _ _ _ e) refl refl
  check_leads false e = to_end (live_done (channels_of l) j (omega (arith, ltb-false))) (cond-false _ _ _ e)

pub leads : (y : Party) (sd : Said) → CanSay (order_of y) (stage_of y) sd → Leads y sd
leads Idle sd s = absurd s
leads (AmendmentTake c w) taken s = to_stage (AmendmentPut c w) putting (next_put c w) refl refl refl
leads (AmendmentTake c w) put_stored s = absurd s
leads (AmendmentTake c w) missed s = absurd s
leads (AmendmentTake c w) live s = absurd s
leads (AmendmentTake c w) broken s = absurd s
leads (AmendmentPut c w) taken s = absurd s
leads (AmendmentPut c w) put_stored s = to_end (stored_done c w) refl
leads (AmendmentPut c w) missed s = to_stage (AmendmentTake c w) (taking 0) (missed_again c w) refl refl refl
leads (AmendmentPut c w) live s = absurd s
leads (AmendmentPut c w) broken s = absurd s
leads (PictureTake l j) taken s = take_leads l j s.0 (ltb (j + 1) (length (channels_of l))) refl
leads (PictureTake l j) put_stored s = absurd s
leads (PictureTake l j) missed s = absurd s
leads (PictureTake l j) live s = absurd s
leads (PictureTake l j) broken s = absurd s
leads (PictureCheck l j) taken s = absurd s
leads (PictureCheck l j) put_stored s = absurd s
leads (PictureCheck l j) missed s = absurd s
leads (PictureCheck l j) live s = check_leads l j s.0 (ltb (j + 1) (length (channels_of l))) refl
leads (PictureCheck l j) broken s = to_stage (PictureTake l 0) (taking 0) (broken_again (channels_of l) j) refl refl refl

pub next_run : (y : Party) → next y Run ≡ y
next_run Idle = refl
next_run (AmendmentTake c w) = refl
next_run (AmendmentPut c w) = refl
next_run (PictureTake l i) = refl
next_run (PictureCheck l i) = refl

-- a party that is free, and one that is not
pub free_from : (y : Party) → is_free y ≡ true → y ≡ Idle
free_from Idle e = refl
free_from (AmendmentTake c w) e = cc
free_from (AmendmentPut c w) e = cc
free_from (PictureTake l i) e = cc
free_from (PictureCheck l i) e = cc

pub task_free : (y : Party) → task_of y ≡ free → y ≡ Idle
task_free Idle e = refl
task_free (AmendmentTake c w) e = cc
task_free (AmendmentPut c w) e = cc
task_free (PictureTake l i) e = cc
task_free (PictureCheck l i) e = cc

pub record Runs (y : Party) : Type 0 where
  pub task : task_of y ≡ doing (order_of y) (stage_of y)
  pub progress : progress_of y ≡ progress.Run

pub runs_from : (y : Party) → not (is_free y) ≡ true → Runs y
runs_from Idle e = absurd cc
runs_from (AmendmentTake c w) e = record { task = refl; progress = refl }
runs_from (AmendmentPut c w) e = record { task = refl; progress = refl }
runs_from (PictureTake l i) e = record { task = refl; progress = refl }
runs_from (PictureCheck l i) e = record { task = refl; progress = refl }

-- ** lists

pub stored_back : (cs : List ℕ) → channels_of (stored cs) ≡ cs
stored_back cs = take-append_seam cs (replicate (4 - length cs) 0)

pub below_at : (n : ℕ) (cs : List ℕ) → list_all (λ c. ltb c n) cs ≡ true → (i : ℕ) → i < length cs → get_or cs i 0 < n
below_at n cs e i h = ltb-true _ _ (true_from_ne_false _ (λ f. both_ways _ (list_all_at (λ c. ltb c n) cs i 0 h f) e))

pub apart_at : (cs : List ℕ) → none_twice cs ≡ true → (i j : ℕ) → i < j → j < length cs → get_or cs i 0 ≢ get_or cs j 0
apart_at [] e i j h l k = omega arith
apart_at (c ∷ cs) e i zero h l k = omega arith
apart_at (c ∷ cs) e zero (suc j) h l k = both_ways _ (not-true _ (and_parts _ _ e).0) (list_any_at (eqb c) cs j 0 (omega arith) (eq-eqb c _ k))
apart_at (c ∷ cs) e (suc i) (suc j) h l k = apart_at cs (and_parts _ _ e).1 i j (omega arith) (omega arith) k
