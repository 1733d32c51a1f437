-- What a hub with a past can count on in a turn: that its shelf operation can begin, and what that can answer.
use mathlib.Core.Path.{◌≡◌, refl}
use mathlib.Core.Bool.{Bool, false, cond}
use Prim.Native.Nat.{ℕ, ◌≤◌, ◌<◌}
use lib.Dec.{eqb}
use lib.ListN.{length, get_or}
use Rattle.history.proofs.Basics.{never}
use Rattle.history.specs.Board.{Order, amendment, picture, listed}
use Rattle.shelf.specs.Meaning.{Link, vacant, holds, break_on}
use Rattle.history.proofs.Shelf.{Said, taken, stored, missed, live, broken}
use Rattle.history.proofs.Hub.{Stage, taking, putting, checking, Plan}

-- a link that is not empty
pub record Ready {R : Type 0} (l : Link R) : Type 0 where
  pub channel : ℕ
  pub reading : R
  pub is_live : Bool
  pub is : l ≡ holds channel reading is_live

pub break_ready : {R : Type 0} (c : ℕ) (l : Link R) → Ready l → Ready (break_on c l)
break_ready c vacant r = absurd (never (let e = r.is in cc))
break_ready c (holds d x b) r = record { channel = d; reading = x; is_live = cond (eqb d c) false b; is = refl }

-- the stage can begin: its link is there, and its number within the list
abbrev pub CanBegin : {R : Type 0} → Plan → (ℕ → Link R) → Order → Stage → Type 0
CanBegin plan links o (taking j) = (j < length (listed o)) × (length (listed o) ≤ plan.links) × (get_or (listed o) j 0 < plan.channels)
CanBegin plan links (amendment c w) putting = Ready (links 0) × (0 < plan.links)
CanBegin plan links (picture cs) putting = ⊥
CanBegin plan links (amendment c w) (checking j) = ⊥
CanBegin plan links (picture cs) (checking j) = Ready (links j) × (j < plan.links)

abbrev pub TakeSays : ℕ → ℕ → Said → Type 0
TakeSays j n taken = (j < n) × (n ≤ 4)
TakeSays j n stored = ⊥
TakeSays j n missed = ⊥
TakeSays j n live = ⊥
TakeSays j n broken = ⊥

abbrev pub PutSays : Said → Type 0
PutSays taken = ⊥
PutSays stored = Unit {0}
PutSays missed = Unit {0}
PutSays live = ⊥
PutSays broken = ⊥

abbrev pub CheckSays : ℕ → ℕ → Said → Type 0
CheckSays j n taken = ⊥
CheckSays j n stored = ⊥
CheckSays j n missed = ⊥
CheckSays j n live = (j < n) × (n ≤ 4)
CheckSays j n broken = (j < n) × (n ≤ 4)

-- the shelf's answer is one to the stage's operation
abbrev pub CanSay : Order → Stage → Said → Type 0
CanSay o (taking j) s = TakeSays j (length (listed o)) s
CanSay (amendment c w) putting s = PutSays s
CanSay (picture cs) putting s = ⊥
CanSay (amendment c w) (checking j) s = ⊥
CanSay (picture cs) (checking j) s = CheckSays j (length cs) s
