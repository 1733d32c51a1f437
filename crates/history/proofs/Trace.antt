-- A past as a trace: the hub before each call, by time.
use mathlib.Core.Path.{◌≡◌, refl, sym, ap, ◌∙◌, subst}
use mathlib.Core.List.{List, [], ◌∷◌, ◌++◌}
use mathlib.Core.Bool.{Bool, cond}
use Prim.Native.Nat.{ℕ, suc, ◌≤◌, ◌<◌}
use native.Mathlib.Omega.{arith}
use native.Mathlib.Decide.{ℕ_discrete}
use lib.Dec.{leb}
use lib.ListN.{length, get_or, length-append, get_or-append}
use borrow.Author.Tests.{le-leb, lt-leb}
use Rattle.history.proofs.Hub.{Hub, Plan, Event, nothing, Fresh, Step, Past, made, after_that}
use Rattle.history.proofs.Claim.{event_at}

pub record Trace {R : Type 0} (blank : R) (amended : R → ℕ → R) (plan : Plan) : Type 0 where
  pub events : ℕ
  pub hub : ℕ → Hub R
  pub event : ℕ → Event R
  pub made_fresh : Fresh blank plan (hub 0)
  pub each : (t : ℕ) → t < events → Step blank amended plan (hub t) (event t) (hub (suc t))

get_d_last : {A : Type 0} (xs : List A) (x d : A) → get_or (xs ++ (x ∷ [])) (length xs) d ≡ x
get_d_last [] x d = refl
get_d_last (y ∷ xs) x d = get_d_last xs x d

module _ {R : Type 0} (blank : R) (amended : R → ℕ → R) (plan : Plan) where
  -- the hub after t calls
  pub past_hub : {log : List (Event R)} {h : Hub R} → Past blank amended plan log h → ℕ → Hub R
  past_hub (made h f) t = h
  past_hub (after_that {log} c h' p s) t = cond (leb t (length log)) (past_hub p t) h'

  early : {log : List (Event R)} {h : Hub R} (c : Event R) (h' : Hub R) (p : Past blank amended plan log h) (s : Step blank amended plan h c h') (t : ℕ)
      → t ≤ length log → past_hub (after_that c h' p s) t ≡ past_hub p t
  unfolding past_hub
  early {log} c h' p s t l = ap (λ (b : Bool). cond b (past_hub p t) h') (le-leb t (length log) l)

  late : {log : List (Event R)} {h : Hub R} (c : Event R) (h' : Hub R) (p : Past blank amended plan log h) (s : Step blank amended plan h c h') (t : ℕ)
      → length log < t → past_hub (after_that c h' p s) t ≡ h'
  unfolding past_hub
  late {log} c h' p s t l = ap (λ (b : Bool). cond b (past_hub p t) h') (lt-leb t (length log) l)

  more : (log : List (Event R)) (c : Event R) → length (log ++ (c ∷ [])) ≡ suc (length log)
  more log c = let e = length-append log (c ∷ []) in omega arith

  pub hub_end : {log : List (Event R)} {h : Hub R} (p : Past blank amended plan log h) → past_hub p (length log) ≡ h
  unfolding past_hub
  hub_end (made h f) = refl
  hub_end (after_that {log} c h' p s) = late c h' p s (length (log ++ (c ∷ []))) (let e = more log c in omega arith)

  pub hub_start : {log : List (Event R)} {h : Hub R} (p : Past blank amended plan log h) → Fresh blank plan (past_hub p 0)
  unfolding past_hub
  hub_start (made h f) = f
  hub_start (after_that c h' p s) = subst (Fresh blank plan) (sym (early c h' p s 0 (omega arith))) (hub_start p)

  pub hub_each : {log : List (Event R)} {h : Hub R} (p : Past blank amended plan log h) (t : ℕ) → t < length log
      → Step blank amended plan (past_hub p t) (event_at log t) (past_hub p (suc t))
  hub_each (made h f) t l = absurd (omega arith)
  hub_each (after_that {log} {h} c h' p s) t l = go (ℕ_discrete t (length log)) (hub_each p t)
    where
      P : Type 0
      P = Step blank amended plan (past_hub (after_that c h' p s) t) (event_at (log ++ (c ∷ [])) t) (past_hub (after_that c h' p s) (suc t))

      put_in : {a b : Hub R} {x : Event R} → past_hub (after_that c h' p s) t ≡ a → event_at (log ++ (c ∷ [])) t ≡ x → past_hub (after_that c h' p s) (suc t) ≡ b
          → Step blank amended plan a x b → P
      put_in {a} {b} {x} e f g u =
          subst (λ (y : Hub R). Step blank amended plan y (event_at (log ++ (c ∷ [])) t) (past_hub (after_that c h' p s) (suc t))) (sym e)
          (subst (λ (y : Event R). Step blank amended plan a y (past_hub (after_that c h' p s) (suc t))) (sym f)
          (subst (λ (y : Hub R). Step blank amended plan a x y) (sym g) u))

      go : Dec (t ≡ length log) → (t < length log → Step blank amended plan (past_hub p t) (event_at log t) (past_hub p (suc t))) → P
      go (yes e) ih =
          put_in (early c h' p s t (omega arith) ∙ ap (past_hub p) e ∙ hub_end p) (ap (λ (n : ℕ). event_at (log ++ (c ∷ [])) n) e ∙ get_d_last log c nothing)
          (late c h' p s (suc t) (omega arith)) s
      go (no n) ih =
          let lt : t < length log = (let e = more log c in omega arith) in
          put_in (early c h' p s t (omega arith)) (get_or-append log (c ∷ []) nothing t lt) (early c h' p s (suc t) lt) (ih lt)

  unfoldable pub trace_of : {log : List (Event R)} {h : Hub R} → Past blank amended plan log h → Trace blank amended plan
  trace_of {log} p = record { events = length log; hub = past_hub p; event = event_at log; made_fresh = hub_start p; each = hub_each p }
