-- Of so many successive turns one gets on.
use mathlib.Core.Path.{◌≡◌, refl, sym, subst}
use mathlib.Core.List.{List}
use mathlib.Core.Logic.{◌≢◌, ◌⊎◌, inl, inr}
use mathlib.Core.Option.{Option, none, some}
use Prim.Native.Nat.{ℕ, zero, suc, ◌+◌, ◌*◌, ◌-◌, ◌≤◌, ◌<◌}
use native.Mathlib.Nat.{mul-le-mul_right}
use native.Mathlib.Omega.{arith}
use lib.ListN.{length}
use Rattle.history.specs.Board.{updated, Order, amendment, picture, listed, Entry}
use Rattle.shelf.specs.Meaning.{Link, vacant}
use Rattle.history.proofs.Shelf.{Said, Job, rests, awaits, forced, Shelf, Turn, turn_still, turn_force, turn_end, turn_both}
use Rattle.history.proofs.Hub.{Stage, taking, putting, checking, Task, free, doing, Hub, Plan, Event, run, Begun, begun_before, begun_now, Next, Step, step_order, step_run, step_next, step_done, step_release, step_nothing, is_some}
use Rattle.history.proofs.Claim.{turns_in, turns_from, GetsOn, TurnsGetOn}
use Rattle.history.proofs.Trace.{Trace}
use Rattle.history.proofs.Basics.{never, updated_same, updated_other, at_party}
use Rattle.history.proofs.Kept.{Party, State}
use Rattle.history.proofs.Starting.{party_of_lem, begun_state}
use Rattle.history.proofs.Time.{Kept, always}
use Rattle.history.proofs.Sums.{sum, sum_const, sum_falls}
use Rattle.history.proofs.Sized.{FitsTask, AllowedTask, Sized, step_sized}
use Rattle.history.proofs.Owing.{pend, Owed, owed_of, start_owed, start_others, forces_others, force_owed, spend_busy, end_owed}

module _ {R : Type 0} where
  -- every party's credit suffices
  abbrev Paid : ℕ → Shelf R → (ℕ → Task) → (ℕ → ℕ) → Type 0
  Paid S m task credit = (q : ℕ) → Owed S (m.link q) (m.job q) (m.left q) (task q) (credit q)

  -- a change at party p alone
  paid_at : (S : ℕ) (m m' : Shelf R) (task task' : ℕ → Task) (credit : ℕ → ℕ) (p c : ℕ)
      → Owed S (m'.link p) (m'.job p) (m'.left p) (task' p) c
      → ((q : ℕ) → q ≢ p → m'.link q ≡ m.link q) → ((q : ℕ) → q ≢ p → m'.job q ≡ m.job q) → ((q : ℕ) → q ≢ p → m'.left q ≡ m.left q)
      → ((q : ℕ) → q ≢ p → task' q ≡ task q) → Paid S m task credit → Paid S m' task' (updated credit p c)
  paid_at S m m' task task' credit p c here l j n t pd =
      at_party p (λ q. Owed S (m'.link q) (m'.job q) (m'.left q) (task' q) (updated credit p c q))
      (subst (Owed S (m'.link p) (m'.job p) (m'.left p) (task' p)) (sym (updated_same credit p c)) here)
      (λ q h. subst (Owed S (m'.link q) (m'.job q) (m'.left q) (task' q)) (sym (updated_other credit p c q h))
      (owed_of S {T = task' q} (credit q) (l q h) (j q h) (n q h) (t q h) (pd q)))

  begun_paid : (amended : R → ℕ → R) (w : ℕ) (m : Shelf R) (task : ℕ → Task) (credit : ℕ → ℕ) (p : ℕ) {o : Order} {s : Stage} {m' : Shelf R} → task p ≡ doing o s
      → Begun amended w m p o s m' → Paid (suc w) m task credit → Paid (suc w) m' task credit
  begun_paid amended w m task credit p e_t (begun_before h) pd = pd
  begun_paid amended w m task credit p {o} {s} e_t (begun_now a n link' e_j W St le) pd =
      at_party p (λ q. Owed (suc w) (link' q) (updated m.job p (awaits a) q) (updated m.left p n q) (task q) (credit q))
      (owed_of (suc w) {l = link' p} (credit p) refl (updated_same m.job p (awaits a)) (updated_same m.left p n) e_t
      (start_owed amended (suc w) m.link p (m.left p) n (credit p) (omega arith) W St (owed_of (suc w) {n = m.left p} (credit p) refl (sym e_j) refl (sym e_t) (pd p))))
      (λ q h. owed_of (suc w) {T = task q} (credit q) (start_others amended m.link p W St q h) (updated_other m.job p (awaits a) q h) (updated_other m.left p n q h) refl (pd q))

  -- a turn that does not get on costs one
  abbrev Less : ℕ → Shelf R → (ℕ → Task) → (ℕ → ℕ) → ℕ → Type 0
  Less S m task credit p = (c : ℕ) × (suc c ≤ credit p) × Paid S m task (updated credit p c)

  none_paid : (blank : R) (amended : R → ℕ → R) (line : List (Entry R)) (cur : ℕ → ℕ) (w : ℕ) (m : Shelf R) (task : ℕ → Task) (credit : ℕ → ℕ) (p : ℕ) (o : Order)
      (s : Stage) {n : Shelf R} → task p ≡ doing o s → State blank amended line m.reading m.link m.job task cur → Turn w m p none none n
      → Paid (suc w) m task credit → Less (suc w) n task credit p
  none_paid blank amended line cur w m task credit p o s e_t st (turn_still k l h) pd =
      let was = owed_of (suc w) {l = m.link p} {J = m.job p} {n = m.left p} (credit p) refl refl refl (sym e_t) (pd p) in
      let sp = spend_busy (suc w) (m.link p) (m.job p) (m.left p) k (credit p) o s h l was in (
        sp.0,
        sp.1,
        paid_at (suc w) m (record { reading = m.reading; link = m.link; job = m.job; left = updated m.left p k }) task task credit p sp.0
            (owed_of (suc w) {l = m.link p} {J = m.job p} sp.0 refl refl (updated_same m.left p k) e_t sp.2)
            (λ q h. refl) (λ q h. refl) (λ q h. updated_other m.left p k q h) (λ q h. refl) pd,
      )
  none_paid blank amended line cur w m task credit p o s e_t st (turn_force a f sd reading' link' left' e_j F l ot) pd =
      let was = owed_of (suc w) {l = m.link p} {n = m.left p} (credit p) refl (sym e_j) refl (sym e_t) (pd p) in
      let pt = party_of_lem blank amended line {l = m.link p} {k = cur p} refl refl (sym e_j) (sym e_t) (st.party p) in
      let fo = force_owed blank amended line (cur p) (suc w) m p (m.left p) (credit p) o s a pt F was in
      let sp = spend_busy (suc w) (link' p) (forced a sd) (m.left p) (left' p) (credit p) o s (λ e. never (cc)) l fo in (
        sp.0,
        sp.1,
        paid_at (suc w) m (record { reading = reading'; link = link'; job = updated m.job p (forced a sd); left = left' }) task task credit p sp.0
            (owed_of (suc w) {l = link' p} {n = left' p} sp.0 refl (updated_same m.job p (forced a sd)) refl e_t sp.2)
            (forces_others m p F) (λ q h. updated_other m.job p (forced a sd) q h) ot (λ q h. refl) pd,
      )

  some_paid : (blank : R) (amended : R → ℕ → R) (line : List (Entry R)) (cur : ℕ → ℕ) (w : ℕ) (m : Shelf R) (task : ℕ → Task) (credit : ℕ → ℕ) (p : ℕ) (o : Order)
      (s s' : Stage) {said : Said} {n : Shelf R} → task p ≡ doing o s → State blank amended line m.reading m.link m.job task cur
      → Turn w m p none (some said) n → Next o s said (some s') → Paid (suc w) m task credit → Less (suc w) n (updated task p (doing o s')) credit p
  some_paid blank amended line cur w m task credit p o s s' e_t st (turn_end a sd e_j) N pd =
      let was = owed_of (suc w) {l = m.link p} {n = m.left p} (credit p) refl (sym e_j) refl (sym e_t) (pd p) in
      let sp = end_owed (suc w) (m.link p) (m.left p) (m.left p) (credit p) a s' refl N was in (
        sp.0,
        sp.1,
        paid_at (suc w) m (record { reading = m.reading; link = m.link; job = updated m.job p rests; left = m.left }) task (updated task p (doing o s')) credit p sp.0
            (owed_of (suc w) {l = m.link p} {n = m.left p} sp.0 refl (updated_same m.job p rests) refl (updated_same task p (doing o s')) sp.2)
            (λ q h. refl) (λ q h. updated_other m.job p rests q h) (λ q h. refl) (λ q h. updated_other task p (doing o s') q h) pd,
      )
  some_paid blank amended line cur w m task credit p o s s' e_t st (turn_both a f sd reading' link' left' e_j F l ot) N pd =
      let was = owed_of (suc w) {l = m.link p} {n = m.left p} (credit p) refl (sym e_j) refl (sym e_t) (pd p) in
      let pt = party_of_lem blank amended line {l = m.link p} {k = cur p} refl refl (sym e_j) (sym e_t) (st.party p) in
      let fo = force_owed blank amended line (cur p) (suc w) m p (m.left p) (credit p) o s a pt F was in
      let sp = end_owed (suc w) (link' p) (m.left p) (left' p) (credit p) a s' refl N fo in (
        sp.0,
        sp.1,
        paid_at (suc w) m (record { reading = reading'; link = link'; job = updated m.job p rests; left = left' }) task (updated task p (doing o s')) credit p sp.0
            (owed_of (suc w) {l = link' p} {n = left' p} sp.0 refl (updated_same m.job p rests) refl (updated_same task p (doing o s')) sp.2)
            (forces_others m p F) (λ q h. updated_other m.job p rests q h) ot (λ q h. updated_other task p (doing o s') q h) pd,
      )

  -- sixteen operations' turns suffice from any state
  owed_max : (blank : R) (amended : R → ℕ → R) (line : List (Entry R)) (cur w : ℕ) (links : ℕ → Link R) (J : Job R) (left : ℕ) (T : Task)
      → Party blank amended line links cur J T → FitsTask T → left ≤ w → Owed (suc w) links J left T (16 * suc w)
  owed_max blank amended line cur w links J left free pt fi l = omega arith
  owed_max blank amended line cur w links J left (doing o (taking j)) pt fi l =
      (length (listed o) + length (listed o) - suc j, let h = pt.1 in omega arith, inr (bound J))
    where
      k : ℕ
      k = length (listed o) + length (listed o) - suc j

      more : (suc k + 2 * length (listed o)) * suc w ≤ 16 * suc w
      more = mul-le-mul_right (suc w) (let h = pt.1 in omega arith)

      bound : (J : Job R) → pend (suc w) J left + (k + 2 * length (listed o)) * suc w ≤ 16 * suc w
      bound rests = let m = more in omega arith
      bound (awaits a) = let m = more in omega arith
      bound (forced a s) = let m = more in omega arith
  owed_max blank amended line cur w links J left (doing (amendment c v) putting) pt fi l = (0, refl, inr (bound J))
    where
      bound : (J : Job R) → pend (suc w) J left + (0 + 2 * 1) * suc w ≤ 16 * suc w
      bound rests = omega arith
      bound (awaits a) = omega arith
      bound (forced a s) = omega arith
  owed_max blank amended line cur w links J left (doing (picture cs) putting) pt fi l = absurd pt
  owed_max blank amended line cur w links J left (doing (amendment c v) (checking j)) pt fi l = absurd pt
  owed_max blank amended line cur w links J left (doing (picture cs) (checking j)) pt fi l =
      (length cs - suc j, let h = pt.0 in omega arith, inr (bound J))
    where
      k : ℕ
      k = length cs - suc j

      more : (suc k + 2 * length cs) * suc w ≤ 16 * suc w
      more = mul-le-mul_right (suc w) (let h = pt.0 in omega arith)

      bound : (J : Job R) → pend (suc w) J left + (k + 2 * length cs) * suc w ≤ 16 * suc w
      bound rests = let m = more in omega arith
      bound (awaits a) = let m = more in omega arith
      bound (forced a s) = let m = more in omega arith

  -- an accepted order costs nothing
  order_owed : (S : ℕ) (links links' : ℕ → Link R) (left c : ℕ) (J : Job R) (o : Order) → J ≡ rests → 0 < length (listed o) → length (listed o) ≤ 4
      → Owed S links J left free c → Owed S links' J left (doing o (taking 0)) c
  order_owed S links links' left c J o e_j pos few ow =
      owed_of S {l = links'} {n = left} {T = doing o (taking 0)} c refl e_j refl refl (
        length (listed o) + length (listed o) - 1,
        omega arith,
        inl (((λ i h. absurd (omega arith)), tt), let m = mul-le-mul_right S more in omega arith),
      )
    where
      more : suc (length (listed o) + length (listed o) - 1) ≤ 16
      more = omega arith

  pub idle_of : (blank : R) (amended : R → ℕ → R) (line : List (Entry R)) (links : ℕ → Link R) (cur : ℕ) (J : Job R) → Party blank amended line links cur J free → J ≡ rests
  idle_of blank amended line links cur rests p = refl
  idle_of blank amended line links cur (awaits a) p = absurd p
  idle_of blank amended line links cur (forced a s) p = absurd p

  -- one call: it gets on, or the credit pays for it
  abbrev Pays : Plan → Event R → Hub R → (ℕ → ℕ) → Type 0
  Pays plan c h' credit =
      GetsOn c ⊎ ((credit' : ℕ → ℕ) × Paid (suc plan.patience) h'.shelf h'.task credit' × (turns_in c + sum plan.parties credit' ≤ sum plan.parties credit))

  quiet_run : (blank : R) (amended : R → ℕ → R) (plan : Plan) (event : ℕ → Event R) (t : ℕ) (h : Hub R) (credit : ℕ → ℕ) (p : ℕ) (o : Order) (s : Stage) (m n : Shelf R) (f : Option ℕ)
      → p < plan.parties → h.task p ≡ doing o s → Begun amended plan.patience h.shelf p o s m → Turn plan.patience m p f none n
      → Kept blank amended plan event t h → Paid (suc plan.patience) h.shelf h.task credit
      → Pays plan (run p (is_some f)) (record { shelf = n; task = h.task }) credit
  quiet_run blank amended plan event t h credit p o s m n (some c) l e_t B T ke pd = inl refl
  quiet_run blank amended plan event t h credit p o s m n none l e_t B T ke pd =
      let st = begun_state blank amended ke.line plan.patience h.shelf h.task ke.cur p e_t B ke.state in
      let le = none_paid blank amended ke.line ke.cur plan.patience m h.task credit p o s e_t st T (begun_paid amended plan.patience h.shelf h.task credit p e_t B pd) in
      let fa = sum_falls plan.parties p le.0 credit l le.1 in
      inr (updated credit p le.0, le.2, omega arith)

  quiet_next : (blank : R) (amended : R → ℕ → R) (plan : Plan) (event : ℕ → Event R) (t : ℕ) (h : Hub R) (credit : ℕ → ℕ) (p : ℕ) (o : Order) (s s' : Stage) (m n : Shelf R) (f : Option ℕ) (sd : Said)
      → p < plan.parties → h.task p ≡ doing o s → Begun amended plan.patience h.shelf p o s m → Turn plan.patience m p f (some sd) n → Next o s sd (some s')
      → Kept blank amended plan event t h → Paid (suc plan.patience) h.shelf h.task credit
      → Pays plan (run p (is_some f)) (record { shelf = n; task = updated h.task p (doing o s') }) credit
  quiet_next blank amended plan event t h credit p o s s' m n (some c) sd l e_t B T N ke pd = inl refl
  quiet_next blank amended plan event t h credit p o s s' m n none sd l e_t B T N ke pd =
      let st = begun_state blank amended ke.line plan.patience h.shelf h.task ke.cur p e_t B ke.state in
      let le =
      some_paid blank amended ke.line ke.cur plan.patience m h.task credit p o s s' e_t st T N
      (begun_paid amended plan.patience h.shelf h.task credit p e_t B pd) in
      let fa = sum_falls plan.parties p le.0 credit l le.1 in
      inr (updated credit p le.0, le.2, omega arith)

  quiet_step : (blank : R) (amended : R → ℕ → R) (plan : Plan) (event : ℕ → Event R) (t : ℕ) {h h' : Hub R} {c : Event R} → Step blank amended plan h c h'
      → Kept blank amended plan event t h → (credit : ℕ → ℕ) → Paid (suc plan.patience) h.shelf h.task credit → Pays plan c h' credit
  quiet_step blank amended plan event t {h} (step_order p o l e_t al) ke credit pd =
      inr (
        credit,
        at_party p (λ q. Owed (suc plan.patience) (updated h.shelf.link p (λ i. vacant) q) (h.shelf.job q) (h.shelf.left q) (updated h.task p (doing o (taking 0)) q) (credit q))
            (owed_of (suc plan.patience) {l = updated h.shelf.link p (λ i. vacant) p} {J = h.shelf.job p} {n = h.shelf.left p} (credit p) refl refl refl (updated_same h.task p (doing o (taking 0)))
            (order_owed (suc plan.patience) (h.shelf.link p) (updated h.shelf.link p (λ i. vacant) p) (h.shelf.left p) (credit p) (h.shelf.job p) o
            (idle_of blank amended ke.line (h.shelf.link p) (ke.cur p) (h.shelf.job p)
            (party_of_lem blank amended ke.line {l = h.shelf.link p} {k = ke.cur p} {J = h.shelf.job p} refl refl refl (sym e_t) (ke.state.party p)))
            al.some_listed (let a = al.fit in let b = plan.few in omega arith)
            (owed_of (suc plan.patience) {l = h.shelf.link p} {J = h.shelf.job p} {n = h.shelf.left p} (credit p) refl refl refl (sym e_t) (pd p))))
            (λ q n. owed_of (suc plan.patience) {J = h.shelf.job q} {n = h.shelf.left q} (credit q) (updated_other h.shelf.link p (λ i. vacant) q n) refl refl
            (updated_other h.task p (doing o (taking 0)) q n) (pd q)),
        omega arith,
      )
  quiet_step blank amended plan event t {h} (step_run p o s m n f l e_t B T) ke credit pd = quiet_run blank amended plan event t h credit p o s m n f l e_t B T ke pd
  quiet_step blank amended plan event t {h} (step_next p o s s' m n f sd l e_t B T N) ke credit pd =
      quiet_next blank amended plan event t h credit p o s s' m n f sd l e_t B T N ke pd
  quiet_step blank amended plan event t (step_done p o s m n f sd l e_t B T N) ke credit pd = inl tt
  quiet_step blank amended plan event t {h} (step_release p l e_t) ke credit pd =
      inr (
        credit,
        at_party p (λ q. Owed (suc plan.patience) (updated h.shelf.link p (λ i. vacant) q) (h.shelf.job q) (h.shelf.left q) (h.task q) (credit q))
            (owed_of (suc plan.patience) {l = updated h.shelf.link p (λ i. vacant) p} {J = h.shelf.job p} {n = h.shelf.left p} (credit p) refl refl refl e_t
            (owed_of (suc plan.patience) {l = h.shelf.link p} {J = h.shelf.job p} {n = h.shelf.left p} (credit p) refl refl refl (sym e_t) (pd p)))
            (λ q n. owed_of (suc plan.patience) {J = h.shelf.job q} {n = h.shelf.left q} {T = h.task q} (credit q) (updated_other h.shelf.link p (λ i. vacant) q n) refl refl refl (pd q)),
        omega arith,
      )
  quiet_step blank amended plan event t step_nothing ke credit pd = inr (credit, pd, omega arith)

  module _ (blank : R) (amended : R → ℕ → R) (plan : Plan) (past : Trace blank amended plan) where
    pub sized : (t : ℕ) → t ≤ past.events → Sized plan (past.hub t)
    sized zero l = record { patient = past.made_fresh.patient; fits = λ q. subst FitsTask (sym (past.made_fresh.free_tasks q)) tt; allowed = λ q. subst (AllowedTask plan) (sym (past.made_fresh.free_tasks q)) tt }
    sized (suc t) l = step_sized blank amended plan (past.each t l) (sized t (omega arith))

    -- a call of the window gets on, or the credit that is left and the turns so far come to no more than the bound
    Window : ℕ → ℕ → Type 0
    Window t n =
        ((u : ℕ) × (t ≤ u) × (u < t + n) × GetsOn (past.event u))
        ⊎ ((credit : ℕ → ℕ) × Paid (suc plan.patience) (past.hub (t + n)).shelf (past.hub (t + n)).task credit
        × (turns_from past.event t n + sum plan.parties credit ≤ 16 * (plan.parties * suc plan.patience)))

    window : (t n : ℕ) → t + n ≤ past.events → Window t n
    unfolding Window
    window t zero l =
        let e : t + 0 ≡ t = omega arith in
        let ke = always blank amended plan past (t + 0) l in
        let sz = sized (t + 0) l in
        let su = sum_const plan.parties (16 * suc plan.patience) in
        inr (
          (λ q. 16 * suc plan.patience),
          (λ q. owed_max blank amended ke.line (ke.cur q) plan.patience ((past.hub (t + 0)).shelf.link q) ((past.hub (t + 0)).shelf.job q) ((past.hub (t + 0)).shelf.left q)
              ((past.hub (t + 0)).task q) (ke.state.party q) (sz.fits q) (sz.patient q)),
          omega arith,
        )
    window t (suc n) l = go (window t n (omega arith))
      where
        next : suc (t + n) ≡ t + suc n
        next = omega arith

        one : (credit : ℕ → ℕ) → turns_from past.event t n + sum plan.parties credit ≤ 16 * (plan.parties * suc plan.patience)
            → Pays plan (past.event (t + n)) (past.hub (suc (t + n))) credit → Window t (suc n)
        one credit le (inl g) = inl (t + n, omega arith, omega arith, g)
        one credit le (inr (credit', pd, le')) =
            inr (credit', subst (λ (x : ℕ). Paid (suc plan.patience) (past.hub x).shelf (past.hub x).task credit') next pd, omega arith)

        go : Window t n → Window t (suc n)
        go (inl (u, a, b, g)) = inl (u, a, omega arith, g)
        go (inr (credit, pd, le)) =
            one credit le
            (quiet_step blank amended plan past.event (t + n) (past.each (t + n) (omega arith)) (always blank amended plan past (t + n) (omega arith)) credit pd)

    pub turns_get_on : TurnsGetOn past.event past.events (1 + 16 * (plan.parties * suc plan.patience))
    unfolding Window
    turns_get_on t n l b = go (window t n l)
      where
        go : Window t n → (u : ℕ) × (t ≤ u) × (u < t + n) × GetsOn (past.event u)
        go (inl u) = u
        go (inr (credit, pd, le)) = absurd (omega arith)
