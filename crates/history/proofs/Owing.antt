-- The turns that a party may still need while nobody gets on.
use mathlib.Core.Path.{◌≡◌, refl, sym, ap, ◌∙◌, subst}
use mathlib.Core.List.{List}
use mathlib.Core.Bool.{true}
use mathlib.Core.Logic.{◌≢◌, ◌⊎◌, inl, inr}
use mathlib.Core.Option.{Option, none, some}
use Prim.Native.Nat.{ℕ, suc, ◌+◌, ◌*◌, ◌-◌, ◌≤◌, ◌<◌}
use native.Mathlib.Omega.{arith}
use lib.ListN.{length, get_or}
use Rattle.history.specs.Board.{updated, Order, amendment, picture, listed, Entry}
use Rattle.shelf.specs.Meaning.{Link, vacant, holds, Operation, take, put, check}
use Rattle.history.proofs.Shelf.{Said, taken, stored, missed, live, broken, Job, rests, awaits, forced, Shelf, Starts, start_take, start_put, start_check, Forces, force_take, force_miss, force_live, force_broken}
use Rattle.history.proofs.Hub.{Stage, taking, putting, checking, Task, free, doing, Wants, want_take, want_put, want_check, Next, next_take, next_put, next_check, stored_done, missed_again, live_next, live_done, broken_again}
use Rattle.history.proofs.Basics.{never, updated_same, updated_other, at_party}
use Rattle.history.proofs.Kept.{Party}

-- how many shelf operations a pass has behind the one that it is at
abbrev pub Behind : Order → Stage → ℕ → Type 0
Behind o (taking j) k = k + suc j ≡ length (listed o) + length (listed o)
Behind o putting k = k ≡ 0
Behind o (checking j) k = k + suc j ≡ length (listed o)

module _ {R : Type 0} where
  -- how many turns the present shelf operation may take
  abbrev pub pend : ℕ → Job R → ℕ → ℕ
  pend S rests left = S
  pend S (awaits a) left = suc left
  pend S (forced a s) left = suc left

  abbrev pub Live : (ℕ → Link R) → ℕ → Type 0
  Live links i = (c : ℕ) × (r : R) × (links i ≡ holds c r true)

  abbrev pub Took : (ℕ → Link R) → ℕ → Job R → Type 0
  Took links j rests = Unit {0}
  Took links j (awaits a) = Unit {0}
  Took links j (forced a s) = Live links j

  abbrev pub Well : Job R → Type 0
  Well rests = Unit {0}
  Well (awaits a) = Unit {0}
  Well (forced a taken) = Unit {0}
  Well (forced a stored) = Unit {0}
  Well (forced a missed) = ⊥
  Well (forced a live) = Unit {0}
  Well (forced a broken) = ⊥

  -- nothing that the pass has taken is broken
  abbrev pub Clean : (ℕ → Link R) → Job R → Order → Stage → Type 0
  Clean links job o (taking j) = ((i : ℕ) → i < j → Live links i) × Took links j job
  Clean links job o putting = Live links 0 × Well job
  Clean links job o (checking j) = ((i : ℕ) → j ≤ i → i < length (listed o) → Live links i) × Well job

  -- c turns of the party suffice while nobody gets on: the rest of this pass, and one whole pass more if this one may fail
  abbrev pub Owed : ℕ → (ℕ → Link R) → Job R → ℕ → Task → ℕ → Type 0
  Owed S links job left free c = 16 * S ≤ c
  Owed S links job left (doing o s) c =
      (k : ℕ) × Behind o s k
      × ((Clean links job o s × (pend S job left + k * S ≤ c)) ⊎ (pend S job left + (k + 2 * length (listed o)) * S ≤ c))

  pub owed_of : (S : ℕ) {l l' : ℕ → Link R} {J J' : Job R} {n n' : ℕ} {T T' : Task} (c : ℕ) → l ≡ l' → J ≡ J' → n ≡ n' → T ≡ T' → Owed S l' J' n' T' c → Owed S l J n T c
  owed_of S {l} {l'} {J} {J'} {n} {n'} {T} {T'} c a b d e p =
      subst (λ (x : ℕ → Link R). Owed S x J n T c) (sym a)
      (subst (λ (x : Job R). Owed S l' x n T c) (sym b)
      (subst (λ (x : ℕ). Owed S l' J' x T c) (sym d)
      (subst (λ (x : Task). Owed S l' J' n' x c) (sym e) p)))

  pub live_updated : (links : ℕ → Link R) (j i : ℕ) (l : Link R) → i < j → Live links i → Live (updated links j l) i
  live_updated links j i l h u = let ne : i ≢ j = omega arith in (u.0, u.1, updated_other links j l i ne ∙ u.2)

  -- a shelf operation starts
  pub start_owed : (amended : R → ℕ → R) (S : ℕ) (link : ℕ → ℕ → Link R) (p left left' c : ℕ) {o : Order} {s : Stage} {a : Operation R} {link' : ℕ → ℕ → Link R} → suc left' ≤ S
      → Wants amended (link p) o s a → Starts link p a link' → Owed S (link p) rests left (doing o s) c → Owed S (link' p) (awaits a) left' (doing o s) c
  start_owed amended S link p left left' c le (want_take o j) (start_take i d) (k, b, inr u) =
      owed_of S {J = awaits (take j (get_or (listed o) j 0))} {n = left'} {T = doing o (taking j)} c (updated_same link p (updated (link p) j vacant)) refl refl refl (k, b, inr (omega arith))
  start_owed amended S link p left left' c le (want_take o j) (start_take i d) (k, b, inl (cl, u)) =
      owed_of S {J = awaits (take j (get_or (listed o) j 0))} {n = left'} {T = doing o (taking j)} c (updated_same link p (updated (link p) j vacant)) refl refl refl
      (k, b, inl (((λ i h. live_updated (link p) j i vacant h (cl.0 i h)), tt), omega arith))
  start_owed amended S link p left left' c le (want_put d w d' r b e) (start_put i v c' r' b' e') (k, bh, inr u) = (k, bh, inr (omega arith))
  start_owed amended S link p left left' c le (want_put d w d' r b e) (start_put i v c' r' b' e') (k, bh, inl (cl, u)) = (k, bh, inl ((cl.0, tt), omega arith))
  start_owed amended S link p left left' c le (want_check cs j) (start_check i d r b e) (k, bh, inr u) = (k, bh, inr (omega arith))
  start_owed amended S link p left left' c le (want_check cs j) (start_check i d r b e) (k, bh, inl (cl, u)) = (k, bh, inl ((cl.0, tt), omega arith))

  pub start_others : (amended : R → ℕ → R) (link : ℕ → ℕ → Link R) (p : ℕ) {o : Order} {s : Stage} {a : Operation R} {link' : ℕ → ℕ → Link R}
      → Wants amended (link p) o s a → Starts link p a link' → (q : ℕ) → q ≢ p → link' q ≡ link q
  start_others amended link p (want_take o j) (start_take i d) q h = updated_other link p (updated (link p) j vacant) q h
  start_others amended link p (want_put d w d' r b e) (start_put i v c' r' b' e') q h = refl
  start_others amended link p (want_check cs j) (start_check i d r b e) q h = refl

  pub forces_others : (m : Shelf R) (p : ℕ) {a : Operation R} {s : Said} {reading' : ℕ → R} {link' : ℕ → ℕ → Link R}
      → Forces m p a none s reading' link' → (q : ℕ) → q ≢ p → link' q ≡ m.link q
  forces_others m p (force_take i c) q h = updated_other m.link p _ q h
  forces_others m p (force_miss i c v r e) q h = refl
  forces_others m p (force_live i c r e) q h = refl
  forces_others m p (force_broken i c r e) q h = refl

  -- a shelf operation comes into force, and no put on a live link
  pub force_owed_take : (S : ℕ) (m : Shelf R) (p left c : ℕ) (o : Order) (j d : ℕ) (a : Operation R) {s : Said} {reading' : ℕ → R} {link' : ℕ → ℕ → Link R}
      → Forces m p (take j d) none s reading' link' → Owed S (m.link p) (awaits a) left (doing o (taking j)) c
      → Owed S (link' p) (forced a s) left (doing o (taking j)) c
  force_owed_take S m p left c o j d a (force_take i d') (k, b, inr u) =
      owed_of S {J = forced a taken} {n = left} {T = doing o (taking j)} c (updated_same m.link p _) refl refl refl (k, b, inr u)
  force_owed_take S m p left c o j d a (force_take i d') (k, b, inl (cl, u)) =
      owed_of S {J = forced a taken} {n = left} {T = doing o (taking j)} c (updated_same m.link p _) refl refl refl
      (k, b, inl (((λ i h. live_updated (m.link p) j i _ h (cl.0 i h)), (d, m.reading d, updated_same (m.link p) j _)), u))

  pub force_owed_put : (S : ℕ) (m : Shelf R) (p left c d w : ℕ) (v : R) (a : Operation R) {s : Said} {reading' : ℕ → R} {link' : ℕ → ℕ → Link R}
      → Forces m p (put 0 v) none s reading' link' → Owed S (m.link p) (awaits a) left (doing (amendment d w) putting) c
      → Owed S (link' p) (forced a s) left (doing (amendment d w) putting) c
  force_owed_put S m p left c d w v a (force_miss i d' v' r e) (k, b, inr u) = (k, b, inr u)
  force_owed_put S m p left c d w v a (force_miss i d' v' r e) (k, b, inl (((c', r', e'), well), u)) = absurd (never (cc (e, e')))

  pub force_owed_check : (S : ℕ) (m : Shelf R) (p left c : ℕ) (cs : List ℕ) (j : ℕ) (a : Operation R) {s : Said} {reading' : ℕ → R} {link' : ℕ → ℕ → Link R}
      → Forces m p (check j) none s reading' link' → Owed S (m.link p) (awaits a) left (doing (picture cs) (checking j)) c
      → Owed S (link' p) (forced a s) left (doing (picture cs) (checking j)) c
  force_owed_check S m p left c cs j a (force_live i d r e) (k, b, inr u) = (k, b, inr u)
  force_owed_check S m p left c cs j a (force_live i d r e) (k, b, inl (cl, u)) = (k, b, inl ((cl.0, tt), u))
  force_owed_check S m p left c cs j a (force_broken i d r e) (k, b, inr u) = (k, b, inr u)
  force_owed_check S m p left c cs j a (force_broken i d r e) (k, b, inl (cl, u)) =
      let l = cl.0 j (omega arith) (omega arith) in
      let e' : m.link p j ≡ holds l.0 l.1 true = l.2 in
      absurd (never (cc (e, e')))

  pub force_owed : (blank : R) (amended : R → ℕ → R) (line : List (Entry R)) (cur : ℕ) (S : ℕ) (m : Shelf R) (p left c : ℕ) (o : Order) (s : Stage) (a : Operation R)
      {said : Said} {reading' : ℕ → R} {link' : ℕ → ℕ → Link R} → Party blank amended line (m.link p) cur (awaits a) (doing o s)
      → Forces m p a none said reading' link' → Owed S (m.link p) (awaits a) left (doing o s) c → Owed S (link' p) (forced a said) left (doing o s) c
  force_owed blank amended line cur S m p left c o (taking j) a {said} {reading'} {link'} pt F ow =
      force_owed_take S m p left c o j (get_or (listed o) j 0) a (subst (λ (x : Operation R). Forces m p x none said reading' link') pt.3 F) ow
  force_owed blank amended line cur S m p left c (amendment d w) putting a {said} {reading'} {link'} pt F ow =
      force_owed_put S m p left c d w (amended pt.0 w) a (subst (λ (x : Operation R). Forces m p x none said reading' link') pt.3.1 F) ow
  force_owed blank amended line cur S m p left c (picture cs) putting a pt F ow = absurd pt
  force_owed blank amended line cur S m p left c (amendment d w) (checking j) a pt F ow = absurd pt
  force_owed blank amended line cur S m p left c (picture cs) (checking j) a {said} {reading'} {link'} pt F ow =
      force_owed_check S m p left c cs j a (subst (λ (x : Operation R). Forces m p x none said reading' link') pt.2 F) ow

  -- one turn is spent in an operation that goes on
  pub spend_busy : (S : ℕ) (links : ℕ → Link R) (J : Job R) (left left' c : ℕ) (o : Order) (s : Stage) → J ≢ rests → left' < left → Owed S links J left (doing o s) c
      → (c' : ℕ) × (suc c' ≤ c) × Owed S links J left' (doing o s) c'
  spend_busy S links rests left left' c o s h l ow = absurd (h refl)
  spend_busy S links (awaits a) left left' c o s h l (k, b, inl (cl, u)) = (c - 1, omega arith, (k, b, inl (cl, omega arith)))
  spend_busy S links (awaits a) left left' c o s h l (k, b, inr u) = (c - 1, omega arith, (k, b, inr (omega arith)))
  spend_busy S links (forced a sd) left left' c o s h l (k, b, inl (cl, u)) = (c - 1, omega arith, (k, b, inl (cl, omega arith)))
  spend_busy S links (forced a sd) left left' c o s h l (k, b, inr u) = (c - 1, omega arith, (k, b, inr (omega arith)))

  -- one turn is spent in ending an operation
  abbrev pub Spent : ℕ → (ℕ → Link R) → ℕ → Task → ℕ → Type 0
  Spent S links left T c = (c' : ℕ) × (suc c' ≤ c) × Owed S links rests left T c'

  pub spend_clean : (S : ℕ) (links : ℕ → Link R) (left left' c : ℕ) (o : Order) (s : Stage) (k k' : ℕ) → k ≡ suc k' → Behind o s k' → Clean links rests o s
      → suc left + k * S ≤ c → Spent S links left' (doing o s) c
  spend_clean S links left left' c o s k k' e b cl u =
      let f : k * S ≡ suc k' * S = ap (λ (x : ℕ). x * S) e in
      (c - 1, omega arith, (k', b, inl (cl, omega arith)))

  pub spend_unclean : (S : ℕ) (links : ℕ → Link R) (left left' c : ℕ) (o : Order) (s : Stage) (k k' : ℕ) → k ≡ suc k' → Behind o s k'
      → suc left + (k + 2 * length (listed o)) * S ≤ c → Spent S links left' (doing o s) c
  spend_unclean S links left left' c o s k k' e b u =
      let f : k * S ≡ suc k' * S = ap (λ (x : ℕ). x * S) e in
      (c - 1, omega arith, (k', b, inr (omega arith)))

  -- a pass begins again
  pub spend_again : (S : ℕ) (links : ℕ → Link R) (left left' c : ℕ) (o : Order) (k k' : ℕ) → suc k' ≡ length (listed o) + length (listed o)
      → suc left + (k + 2 * length (listed o)) * S ≤ c → Spent S links left' (doing o (taking 0)) c
  spend_again S links left left' c o k k' e u =
      let f : suc k' * S ≡ (length (listed o) + length (listed o)) * S = ap (λ (x : ℕ). x * S) e in
      (c - 1, omega arith, (k', omega arith, inl (((λ i h. absurd (omega arith)), tt), omega arith)))

  pub end_owed : (S : ℕ) (links : ℕ → Link R) (left left' c : ℕ) (a : Operation R) {o : Order} {s : Stage} {said : Said} {s' : Option Stage} (s'' : Stage) → s' ≡ some s''
      → Next o s said s' → Owed S links (forced a said) left (doing o s) c → Spent S links left' (doing o s'') c
  end_owed S links left left' c a s'' es (next_take o j l) (k, b, ow) =
      subst (λ (x : Stage). Spent S links left' (doing o x) c) {x = taking (suc j)} (let e = es in cc) (go ow)
    where
      go : (Clean links (forced a taken) o (taking j) × (suc left + k * S ≤ c)) ⊎ (suc left + (k + 2 * length (listed o)) * S ≤ c)
          → Spent S links left' (doing o (taking (suc j))) c
      go (inl (cl, u)) =
          spend_clean S links left left' c o (taking (suc j)) k (k - 1) (omega arith) (omega arith)
          (at_party j (λ i. i < suc j → Live links i) (λ h. cl.1) (λ i ne h. cl.0 i (omega arith)), tt) u
      go (inr u) = spend_unclean S links left left' c o (taking (suc j)) k (k - 1) (omega arith) (omega arith) u
  end_owed S links left left' c a s'' es (next_put d w) (k, b, ow) =
      subst (λ (x : Stage). Spent S links left' (doing (amendment d w) x) c) {x = putting} (let e = es in cc) (go ow)
    where
      go : (Clean links (forced a taken) (amendment d w) (taking 0) × (suc left + k * S ≤ c)) ⊎ (suc left + (k + 2 * 1) * S ≤ c)
          → Spent S links left' (doing (amendment d w) putting) c
      go (inl (cl, u)) = spend_clean S links left left' c (amendment d w) putting k 0 (omega arith) refl (cl.1, tt) u
      go (inr u) = spend_unclean S links left left' c (amendment d w) putting k 0 (omega arith) refl u
  end_owed S links left left' c a s'' es (next_check cs j l) (k, b, ow) =
      subst (λ (x : Stage). Spent S links left' (doing (picture cs) x) c) {x = checking 0} (let e = es in cc) (go ow)
    where
      go : (Clean links (forced a taken) (picture cs) (taking j) × (suc left + k * S ≤ c)) ⊎ (suc left + (k + 2 * length cs) * S ≤ c)
          → Spent S links left' (doing (picture cs) (checking 0)) c
      go (inl (cl, u)) =
          spend_clean S links left left' c (picture cs) (checking 0) k (k - 1) (omega arith) (omega arith)
          ((λ i h h'. at_party j (λ i. i < suc j → Live links i) (λ h. cl.1) (λ i ne h. cl.0 i (omega arith)) i (omega arith)), tt) u
      go (inr u) = spend_unclean S links left left' c (picture cs) (checking 0) k (k - 1) (omega arith) (omega arith) u
  end_owed S links left left' c a s'' es (stored_done d w) ow = absurd (never (cc))
  end_owed S links left left' c a s'' es (missed_again d w) (k, b, inl (cl, u)) = absurd cl.1
  end_owed S links left left' c a s'' es (missed_again d w) (k, b, inr u) =
      subst (λ (x : Stage). Spent S links left' (doing (amendment d w) x) c) {x = taking 0} (let e = es in cc)
      (spend_again S links left left' c (amendment d w) k 1 (omega arith) u)
  end_owed S links left left' c a s'' es (live_next cs j l) (k, b, inl (cl, u)) =
      subst (λ (x : Stage). Spent S links left' (doing (picture cs) x) c) {x = checking (suc j)} (let e = es in cc)
      (spend_clean S links left left' c (picture cs) (checking (suc j)) k (k - 1) (omega arith) (omega arith) ((λ i h h'. cl.0 i (omega arith) h'), tt) u)
  end_owed S links left left' c a s'' es (live_next cs j l) (k, b, inr u) =
      subst (λ (x : Stage). Spent S links left' (doing (picture cs) x) c) {x = checking (suc j)} (let e = es in cc)
      (spend_unclean S links left left' c (picture cs) (checking (suc j)) k (k - 1) (omega arith) (omega arith) u)
  end_owed S links left left' c a s'' es (live_done cs j l) ow = absurd (never (cc))
  end_owed S links left left' c a s'' es (broken_again cs j) (k, b, inl (cl, u)) = absurd cl.1
  end_owed S links left left' c a s'' es (broken_again cs j) (k, b, inr u) =
      subst (λ (x : Stage). Spent S links left' (doing (picture cs) x) c) {x = taking 0} (let e = es in cc)
      (spend_again S links left left' c (picture cs) k (length cs + length cs - 1) (omega arith) u)
