-- What the bounds of a plan keep of a hub.
use mathlib.Core.Path.{sym, subst}
use mathlib.Core.Logic.{inl, inr}
use mathlib.Core.Option.{Option, none, some}
use Prim.Native.Nat.{ℕ, ◌≤◌}
use native.Mathlib.Omega.{arith}
use lib.ListN.{length}
use Rattle.history.specs.Board.{updated, Order, listed}
use Rattle.history.proofs.Shelf.{Said, Shelf, Others, Turn, turn_still, turn_force, turn_end, turn_both}
use Rattle.history.proofs.Hub.{Stage, taking, Task, free, doing, Hub, Plan, Event, Begun, begun_before, begun_now, Step, step_order, step_run, step_next, step_done, step_release, step_nothing, Allowed}
use Rattle.history.proofs.Basics.{updated_same, updated_other, at_party}

-- the order has no more than four channels
abbrev pub FitsTask : Task → Type 0
FitsTask free = Unit {0}
FitsTask (doing o s) = length (listed o) ≤ 4

-- patience never exceeds its bound
abbrev pub Patient : ℕ → (ℕ → ℕ) → Type 0
Patient w left = (q : ℕ) → left q ≤ w

pub updated_patient : (w : ℕ) (left : ℕ → ℕ) (p n : ℕ) → n ≤ w → Patient w left → Patient w (updated left p n)
updated_patient w left p n l pa =
    at_party p (λ q. updated left p n q ≤ w) (let e = updated_same left p n in omega arith) (λ q h. let e = updated_other left p n q h in let b = pa q in omega arith)

-- the order is one that the plan allows
abbrev pub AllowedTask : Plan → Task → Type 0
AllowedTask plan free = Unit {0}
AllowedTask plan (doing o s) = Allowed plan o

pub allowed_updated : (plan : Plan) (task : ℕ → Task) (p : ℕ) (T : Task) → AllowedTask plan T → ((q : ℕ) → AllowedTask plan (task q)) → (q : ℕ) → AllowedTask plan (updated task p T q)
allowed_updated plan task p T f all =
    at_party p (λ q. AllowedTask plan (updated task p T q)) (subst (AllowedTask plan) (sym (updated_same task p T)) f)
    (λ q h. subst (AllowedTask plan) (sym (updated_other task p T q h)) (all q))

pub fits_updated : (task : ℕ → Task) (p : ℕ) (T : Task) → FitsTask T → ((q : ℕ) → FitsTask (task q)) → (q : ℕ) → FitsTask (updated task p T q)
fits_updated task p T f all =
    at_party p (λ q. FitsTask (updated task p T q)) (subst FitsTask (sym (updated_same task p T)) f)
    (λ q h. subst FitsTask (sym (updated_other task p T q h)) (all q))

module _ {R : Type 0} where
  pub others_patient : (w : ℕ) (m : Shelf R) (p : ℕ) (f : Option ℕ) (left' : ℕ → ℕ) → Patient w m.left → left' p ≤ w → Others w m p f left' → Patient w left'
  others_patient w m p none left' pa l ot = at_party p (λ q. left' q ≤ w) l (λ q h. let e = ot q h in let b = pa q in omega arith)
  others_patient w m p (some c) left' pa l ot =
      at_party p (λ q. left' q ≤ w) l (λ q h. elim (ot q h) [ inl e ↦ (let b = pa q in omega (arith, e, b)) | inr u ↦ u.0 ])

  pub begun_patient : (amended : R → ℕ → R) (w : ℕ) (m : Shelf R) (p : ℕ) (o : Order) (s : Stage) {m' : Shelf R} → Begun amended w m p o s m' → Patient w m.left → Patient w m'.left
  begun_patient amended w m p o s (begun_before h) pa = pa
  begun_patient amended w m p o s (begun_now a n link' e_j W St le) pa = updated_patient w m.left p n le pa

  pub turn_patient : (w : ℕ) (m : Shelf R) (p : ℕ) {f : Option ℕ} {sd : Option Said} {n : Shelf R} → Turn w m p f sd n → Patient w m.left → Patient w n.left
  turn_patient w m p (turn_still k l h) pa = updated_patient w m.left p k (let b = pa p in omega arith) pa
  turn_patient w m p (turn_force a f s reading' link' left' e_j F l ot) pa = others_patient w m p f left' pa (let b = pa p in omega arith) ot
  turn_patient w m p (turn_end a s e_j) pa = pa
  turn_patient w m p (turn_both a f s reading' link' left' e_j F l ot) pa = others_patient w m p f left' pa l ot

  -- what the plan's bounds keep of a hub
  pub record Sized (plan : Plan) (h : Hub R) : Type 0 where
    pub patient : Patient plan.patience h.shelf.left
    pub fits : (q : ℕ) → FitsTask (h.task q)
    pub allowed : (q : ℕ) → AllowedTask plan (h.task q)

  pub step_sized : (blank : R) (amended : R → ℕ → R) (plan : Plan) {h h' : Hub R} {c : Event R} → Step blank amended plan h c h' → Sized plan h → Sized plan h'
  step_sized blank amended plan {h} (step_order p o l e_t al) sz =
      record { patient = sz.patient; fits = fits_updated h.task p (doing o (taking 0)) (let a = al.fit in let b = plan.few in omega arith) sz.fits; allowed = allowed_updated plan h.task p (doing o (taking 0)) al sz.allowed }
  step_sized blank amended plan {h} (step_run p o s m n f l e_t B T) sz =
      record { patient = turn_patient plan.patience m p T (begun_patient amended plan.patience h.shelf p o s B sz.patient); fits = sz.fits; allowed = sz.allowed }
  step_sized blank amended plan {h} (step_next p o s s' m n f sd l e_t B T N) sz =
      record {
        patient = turn_patient plan.patience m p T (begun_patient amended plan.patience h.shelf p o s B sz.patient);
        fits = fits_updated h.task p (doing o s') (subst FitsTask e_t (sz.fits p)) sz.fits;
        allowed = allowed_updated plan h.task p (doing o s') (subst (AllowedTask plan) e_t (sz.allowed p)) sz.allowed;
      }
  step_sized blank amended plan {h} (step_done p o s m n f sd l e_t B T N) sz =
      record {
        patient = turn_patient plan.patience m p T (begun_patient amended plan.patience h.shelf p o s B sz.patient);
        fits = fits_updated h.task p free tt sz.fits;
        allowed = allowed_updated plan h.task p free tt sz.allowed;
      }
  step_sized blank amended plan (step_release p l e_t) sz = record { patient = sz.patient; fits = sz.fits; allowed = sz.allowed }
  step_sized blank amended plan step_nothing sz = sz
