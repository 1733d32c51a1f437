-- What a past says of a party's stage, its links and the shelf's answers.
use mathlib.Core.Path.{◌≡◌, refl, sym, ap, ◌∙◌, subst}
use mathlib.Core.List.{List}
use mathlib.Core.Bool.{Bool, true}
use mathlib.Core.Logic.{◌≢◌}
use mathlib.Core.Option.{Option, none, some}
use Prim.Native.Nat.{ℕ, ◌≤◌, ◌<◌}
use native.Mathlib.Omega.{arith}
use lib.ListN.{length, get_or}
use Rattle.history.specs.Board.{Order, amendment, picture, listed, Entry}
use Rattle.shelf.specs.Meaning.{Link, holds, Operation, take, put, check}
use Rattle.history.proofs.Shelf.{Said, taken, stored, missed, live, broken, Job, rests, awaits, forced, Shelf, Forces, force_take, force_put, force_miss, force_live, force_broken, Turn, turn_still, turn_force, turn_end, turn_both}
use Rattle.history.proofs.Hub.{Stage, taking, putting, checking, Task, doing, Hub, Plan, Event, Begun, Next, stored_done, live_done, Past, Allowed}
use Rattle.history.proofs.Fitting.{Ready, break_ready, CanBegin, TakeSays, PutSays, CheckSays, CanSay}
use Rattle.history.proofs.Basics.{never, updated_same}
use Rattle.history.proofs.Kept.{Party, State}
use Rattle.history.proofs.Starting.{party_of_lem, begun_state}
use Rattle.history.proofs.Trace.{trace_of, hub_end}
use Rattle.history.proofs.Time.{Kept, always}
use Rattle.history.proofs.Sized.{Sized, FitsTask, AllowedTask}
use Rattle.history.proofs.Progress.{sized}

module _ {R : Type 0} (blank : R) (amended : R → ℕ → R) where
  begin_part : (plan : Plan) (line : List (Entry R)) (links : ℕ → Link R) (k : ℕ) (J : Job R) (o : Order) (s : Stage) → Party blank amended line links k J (doing o s)
      → Allowed plan o → CanBegin plan links o s
  begin_part plan line links k J o (taking j) p al = (p.1, al.fit, al.there j p.1)
  begin_part plan line links k J (amendment c w) putting p al = (record { channel = c; reading = p.0; is_live = p.1; is = p.2 }, al.fit)
  begin_part plan line links k J (picture cs) putting p al = p
  begin_part plan line links k J (amendment c w) (checking j) p al = p
  begin_part plan line links k J (picture cs) (checking j) p al =
      let u = p.1 j p.0 in (record { channel = get_or cs j 0; reading = u.0; is_live = u.1; is = u.2 }, let a = al.fit in let b = p.0 in omega arith)

  -- what an operation in force has answered
  said_part : (line : List (Entry R)) (links : ℕ → Link R) (k : ℕ) (a : Operation R) (sd : Said) (o : Order) (s : Stage)
      → Party blank amended line links k (forced a sd) (doing o s) → FitsTask (doing o s) → CanSay o s sd
  said_part line links k a sd o (taking j) p f = subst (TakeSays j (length (listed o))) (sym p.3.0) (p.1, f)
  said_part line links k a taken (amendment c w) putting p f = p.3
  said_part line links k a stored (amendment c w) putting p f = tt
  said_part line links k a missed (amendment c w) putting p f = tt
  said_part line links k a live (amendment c w) putting p f = p.3
  said_part line links k a broken (amendment c w) putting p f = p.3
  said_part line links k a sd (picture cs) putting p f = p
  said_part line links k a sd (amendment c w) (checking j) p f = p
  said_part line links k a taken (picture cs) (checking j) p f = p.2
  said_part line links k a stored (picture cs) (checking j) p f = p.2
  said_part line links k a missed (picture cs) (checking j) p f = p.2
  said_part line links k a live (picture cs) (checking j) p f = (p.0, f)
  said_part line links k a broken (picture cs) (checking j) p f = (p.0, f)

  -- what an operation that comes into force answers
  force_take_says : (m : Shelf R) (p j d n : ℕ) {f : Option ℕ} {sd : Said} {r : ℕ → R} {l : ℕ → ℕ → Link R} → Forces m p (take j d) f sd r l → (j < n) × (n ≤ 4) → TakeSays j n sd
  force_take_says m p j d n (force_take i c) u = u

  force_put_says : (m : Shelf R) (p : ℕ) (v : R) {f : Option ℕ} {sd : Said} {r : ℕ → R} {l : ℕ → ℕ → Link R} → Forces m p (put 0 v) f sd r l → PutSays sd
  force_put_says m p v (force_put i c v' r e) = tt
  force_put_says m p v (force_miss i c v' r e) = tt

  force_check_says : (m : Shelf R) (p j n : ℕ) {f : Option ℕ} {sd : Said} {r : ℕ → R} {l : ℕ → ℕ → Link R} → Forces m p (check j) f sd r l → (j < n) × (n ≤ 4) → CheckSays j n sd
  force_check_says m p j n (force_live i c r e) u = u
  force_check_says m p j n (force_broken i c r e) u = u

  force_part : (line : List (Entry R)) (k : ℕ) (m : Shelf R) (p : ℕ) (a : Operation R) (o : Order) (s : Stage) {f : Option ℕ} {sd : Said} {r : ℕ → R} {l : ℕ → ℕ → Link R}
      → Party blank amended line (m.link p) k (awaits a) (doing o s) → FitsTask (doing o s) → Forces m p a f sd r l → CanSay o s sd
  force_part line k m p a o (taking j) {f} {sd} {r} {l} pt fi F =
      force_take_says m p j (get_or (listed o) j 0) (length (listed o)) (subst (λ (x : Operation R). Forces m p x f sd r l) pt.3 F) (pt.1, fi)
  force_part line k m p a (amendment c w) putting {f} {sd} {r} {l} pt fi F =
      force_put_says m p (amended pt.0 w) (subst (λ (x : Operation R). Forces m p x f sd r l) pt.3.1 F)
  force_part line k m p a (picture cs) putting pt fi F = pt
  force_part line k m p a (amendment c w) (checking j) pt fi F = pt
  force_part line k m p a (picture cs) (checking j) {f} {sd} {r} {l} pt fi F =
      force_check_says m p j (length cs) (subst (λ (x : Operation R). Forces m p x f sd r l) pt.2 F) (pt.0, fi)

  turn_part : (line : List (Entry R)) (w : ℕ) (m : Shelf R) (task : ℕ → Task) (cur : ℕ → ℕ) (p : ℕ) (o : Order) (s : Stage) {f : Option ℕ} {sd : Said} {n : Shelf R}
      → task p ≡ doing o s → State blank amended line m.reading m.link m.job task cur → FitsTask (doing o s) → Turn w m p f (some sd) n → CanSay o s sd
  turn_part line w m task cur p o s e_t st fi (turn_end a sd e_j) =
      said_part line (m.link p) (cur p) a sd o s (party_of_lem blank amended line {l = m.link p} {k = cur p} refl refl (sym e_j) (sym e_t) (st.party p)) fi
  turn_part line w m task cur p o s e_t st fi (turn_both a f sd reading' link' left' e_j F l ot) =
      force_part line (cur p) m p a o s (party_of_lem blank amended line {l = m.link p} {k = cur p} refl refl (sym e_j) (sym e_t) (st.party p)) fi F

  -- a put that comes into force on a live link is an amendment's, on its channel
  take_stores_nothing : (m : Shelf R) (p j d : ℕ) {f : Option ℕ} {sd : Said} {r : ℕ → R} {l : ℕ → ℕ → Link R} → Forces m p (take j d) f sd r l → f ≡ none
  take_stores_nothing m p j d (force_take i c) = refl

  check_stores_nothing : (m : Shelf R) (p j : ℕ) {f : Option ℕ} {sd : Said} {r : ℕ → R} {l : ℕ → ℕ → Link R} → Forces m p (check j) f sd r l → f ≡ none
  check_stores_nothing m p j (force_live i c r e) = refl
  check_stores_nothing m p j (force_broken i c r e) = refl

  put_stores : (m : Shelf R) (p i : ℕ) (v : R) (c : ℕ) {f : Option ℕ} {sd : Said} {r : ℕ → R} {l : ℕ → ℕ → Link R} → Forces m p (put i v) f sd r l → f ≡ some c
      → (x : R) × (m.link p i ≡ holds c x true)
  put_stores m p i v c (force_put i' d v' x e) eq = (x, let z : d ≡ c = (let q = eq in cc) in e ∙ ap (λ (n : ℕ). holds n x true) z)
  put_stores m p i v c (force_miss i' d v' x e) eq = absurd (never (let q = eq in cc))

  force_amends : (line : List (Entry R)) (k : ℕ) (m : Shelf R) (p : ℕ) (a : Operation R) (o : Order) (s : Stage) (c : ℕ) {sd : Said} {r : ℕ → R} {l : ℕ → ℕ → Link R}
      → Party blank amended line (m.link p) k (awaits a) (doing o s) → Forces m p a (some c) sd r l → (w : ℕ) × (o ≡ amendment c w) × (s ≡ putting)
  force_amends line k m p a o (taking j) c {sd} {r} {l} pt F =
      absurd (never (let e = take_stores_nothing m p j (get_or (listed o) j 0) (subst (λ (x : Operation R). Forces m p x (some c) sd r l) pt.3 F) in cc))
  force_amends line k m p a (amendment d w) putting c {sd} {r} {l} pt F =
      let h = put_stores m p 0 (amended pt.0 w) c (subst (λ (x : Operation R). Forces m p x (some c) sd r l) pt.3.1 F) refl in
      (w, ap (λ (n : ℕ). amendment n w) (same pt.2 h.1), refl)
    where
      same : {x y : R} {b : Bool} → m.link p 0 ≡ holds d x b → m.link p 0 ≡ holds c y true → d ≡ c
      same e f = cc
  force_amends line k m p a (picture cs) putting c pt F = absurd pt
  force_amends line k m p a (amendment d w) (checking j) c pt F = absurd pt
  force_amends line k m p a (picture cs) (checking j) c {sd} {r} {l} pt F =
      absurd (never (let e = check_stores_nothing m p j (subst (λ (x : Operation R). Forces m p x (some c) sd r l) pt.2 F) in cc))

  turn_amends : (line : List (Entry R)) (w : ℕ) (m : Shelf R) (task : ℕ → Task) (cur : ℕ → ℕ) (p : ℕ) (o : Order) (s : Stage) (c : ℕ) {f : Option ℕ} {x : Option Said} {n : Shelf R}
      → task p ≡ doing o s → State blank amended line m.reading m.link m.job task cur → Turn w m p f x n → f ≡ some c → (v : ℕ) × (o ≡ amendment c v) × (s ≡ putting)
  turn_amends line w m task cur p o s c e_t st (turn_still n l h) ef = absurd (never (let e = ef in cc))
  turn_amends line w m task cur p o s c e_t st (turn_force a f sd reading' link' left' e_j F l ot) ef =
      force_amends line (cur p) m p a o s c (party_of_lem blank amended line {l = m.link p} {k = cur p} refl refl (sym e_j) (sym e_t) (st.party p)) (subst (λ (x : Option ℕ). Forces m p a x sd reading' link') ef F)
  turn_amends line w m task cur p o s c e_t st (turn_end a sd e_j) ef = absurd (never (let e = ef in cc))
  turn_amends line w m task cur p o s c e_t st (turn_both a f sd reading' link' left' e_j F l ot) ef =
      force_amends line (cur p) m p a o s c (party_of_lem blank amended line {l = m.link p} {k = cur p} refl refl (sym e_j) (sym e_t) (st.party p)) (subst (λ (x : Option ℕ). Forces m p a x sd reading' link') ef F)

  -- when an operation is done, none of its links is empty
  done_ready : (line : List (Entry R)) (links : ℕ → Link R) (k : ℕ) (J : Job R) {o : Order} {s : Stage} {sd : Said} → Next o s sd none
      → Party blank amended line links k J (doing o s) → (i : ℕ) → i < length (listed o) → Ready (links i)
  done_ready line links k J (stored_done c w) p i l =
      subst (λ (n : ℕ). Ready (links n)) (let e : 0 ≡ i = omega arith in e) (record { channel = c; reading = p.0; is_live = p.1; is = p.2 })
  done_ready line links k J (live_done cs j e) p i l = let u = p.1 i l in record { channel = get_or cs i 0; reading = u.0; is_live = u.1; is = u.2 }

  done_says : {o : Order} {s : Stage} {sd : Said} → Next o s sd none → sd ≢ taken
  done_says (stored_done c w) e = never (let f = e in cc)
  done_says (live_done cs j h) e = never (let f = e in cc)

  force_ready : (m : Shelf R) (p q i : ℕ) (a : Operation R) {f : Option ℕ} {sd : Said} {r : ℕ → R} {l : ℕ → ℕ → Link R} → Forces m p a f sd r l → sd ≢ taken → Ready (m.link q i) → Ready (l q i)
  force_ready m p q i a (force_take j c) ne r = absurd (ne refl)
  force_ready m p q i a (force_put j c v x e) ne r = break_ready c (m.link q i) r
  force_ready m p q i a (force_miss j c v x e) ne r = r
  force_ready m p q i a (force_live j c x e) ne r = r
  force_ready m p q i a (force_broken j c x e) ne r = r

  turn_ready : (w : ℕ) (m : Shelf R) (p i : ℕ) {f : Option ℕ} {sd : Said} {n : Shelf R} → Turn w m p f (some sd) n → sd ≢ taken → Ready (m.link p i) → Ready (n.link p i)
  turn_ready w m p i (turn_end a sd e_j) ne r = r
  turn_ready w m p i (turn_both a f sd reading' link' left' e_j F l ot) ne r = force_ready m p p i a F ne r

  -- a turn that hands over an answer leaves its party idle
  pub turn_idle : (w : ℕ) (m : Shelf R) (p : ℕ) {f : Option ℕ} {sd : Said} {n : Shelf R} → Turn w m p f (some sd) n → n.job p ≡ rests
  turn_idle w m p (turn_end a sd e_j) = updated_same m.job p rests
  turn_idle w m p (turn_both a f sd reading' link' left' e_j F l ot) = updated_same m.job p rests

  module _ (plan : Plan) (log : List (Event R)) (h : Hub R) (past : Past blank amended plan log h) where
    kept : Kept blank amended plan (trace_of blank amended plan past).event (length log) h
    unfolding trace_of
    kept =
        subst (Kept blank amended plan (trace_of blank amended plan past).event (length log)) (hub_end blank amended plan past)
        (always blank amended plan (trace_of blank amended plan past) (length log) (omega arith))

    sized_now : Sized plan h
    unfolding trace_of
    sized_now = subst (Sized plan) (hub_end blank amended plan past) (sized blank amended plan (trace_of blank amended plan past) (length log) (omega arith))

    pub past_begins : (p : ℕ) (o : Order) (s : Stage) → h.task p ≡ doing o s → CanBegin plan (h.shelf.link p) o s
    past_begins p o s e_t =
        begin_part plan kept.line (h.shelf.link p) (kept.cur p) (h.shelf.job p) o s
        (party_of_lem blank amended kept.line {l = h.shelf.link p} {k = kept.cur p} {J = h.shelf.job p} refl refl refl (sym e_t) (kept.state.party p))
        (subst (AllowedTask plan) e_t (sized_now.allowed p))

    pub past_says : (p : ℕ) (o : Order) (s : Stage) {m n : Shelf R} {f : Option ℕ} {sd : Said} → h.task p ≡ doing o s
        → Begun amended plan.patience h.shelf p o s m → Turn plan.patience m p f (some sd) n → CanSay o s sd
    past_says p o s {m} e_t B T =
        turn_part kept.line plan.patience m h.task kept.cur p o s e_t
        (begun_state blank amended kept.line plan.patience h.shelf h.task kept.cur p e_t B kept.state) (subst FitsTask e_t (sized_now.fits p)) T

    pub past_amends : (p : ℕ) (o : Order) (s : Stage) (c : ℕ) {m n : Shelf R} {f : Option ℕ} {x : Option Said} → h.task p ≡ doing o s
        → Begun amended plan.patience h.shelf p o s m → Turn plan.patience m p f x n → f ≡ some c → (v : ℕ) × (o ≡ amendment c v) × (s ≡ putting)
    past_amends p o s c {m} e_t B T ef =
        turn_amends kept.line plan.patience m h.task kept.cur p o s c e_t
        (begun_state blank amended kept.line plan.patience h.shelf h.task kept.cur p e_t B kept.state) T ef

    pub past_ready : (p : ℕ) (o : Order) (s : Stage) {m n : Shelf R} {f : Option ℕ} {sd : Said} → h.task p ≡ doing o s
        → Begun amended plan.patience h.shelf p o s m → Turn plan.patience m p f (some sd) n → Next o s sd none → (i : ℕ) → i < length (listed o) → Ready (n.link p i)
    past_ready p o s {m} e_t B T Nx i l =
        let st = begun_state blank amended kept.line plan.patience h.shelf h.task kept.cur p e_t B kept.state in
        turn_ready plan.patience m p i T (done_says Nx)
        (done_ready kept.line (m.link p) (kept.cur p) (m.job p) Nx
        (party_of_lem blank amended kept.line {l = m.link p} {k = kept.cur p} {J = m.job p} refl refl refl (sym e_t) (st.party p)) i l)

    -- an order that runs is allowed
    pub past_allowed : (p : ℕ) (o : Order) (s : Stage) → h.task p ≡ doing o s → Allowed plan o
    past_allowed p o s e_t = subst (AllowedTask plan) e_t (sized_now.allowed p)
