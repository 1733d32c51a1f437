-- Starting a shelf operation keeps the state.
use mathlib.Core.Path.{◌≡◌, refl, sym, ap, ◌∙◌, subst}
use mathlib.Core.List.{List}
use mathlib.Core.Bool.{Bool, true}
use mathlib.Core.Logic.{◌≢◌}
use Prim.Native.Nat.{ℕ, suc, ◌<◌}
use native.Mathlib.Omega.{arith}
use lib.ListN.{get_or}
use Rattle.history.specs.Board.{updated, Order, listed, Entry}
use Rattle.shelf.specs.Meaning.{Link, vacant, holds, Operation, take, put, check}
use Rattle.history.proofs.Shelf.{Job, rests, awaits, forced, Shelf, set_link, Starts, start_take, start_put, start_check}
use Rattle.history.proofs.Hub.{Stage, Task, free, doing, Wants, want_take, want_put, want_check, Begun, begun_before, begun_now}
use Rattle.history.proofs.Basics.{never, updated_same, updated_other, at_party}
use Rattle.history.proofs.Kept.{Filled, Party, State}

module _ {R : Type 0} (blank : R) (amended : R → ℕ → R) where
  pub party_of_lem : (line : List (Entry R)) {l l' : ℕ → Link R} {k k' : ℕ} {J J' : Job R} {T T' : Task} → l ≡ l' → k ≡ k' → J ≡ J' → T ≡ T'
      → Party blank amended line l' k' J' T' → Party blank amended line l k J T
  party_of_lem line {l} {l'} {k} {k'} {J} {J'} {T} {T'} a b c d p =
      subst (λ (x : ℕ → Link R). Party blank amended line x k J T) (sym a)
      (subst (λ (x : ℕ). Party blank amended line l' x J T) (sym b)
      (subst (λ (x : Job R). Party blank amended line l' k' x T) (sym c)
      (subst (λ (x : Task). Party blank amended line l' k' J' x) (sym d) p)))

  -- a party that is free
  pub party_free : (line line' : List (Entry R)) (l l' : ℕ → Link R) (k k' : ℕ) (J : Job R)
      → Party blank amended line l k J free → Party blank amended line' l' k' J free
  party_free line line' l l' k k' rests p = tt
  party_free line line' l l' k k' (awaits a) p = absurd p
  party_free line line' l l' k k' (forced a s) p = absurd p

  -- a link set: what a live link shows stays true
  pub set_true : (reading : ℕ → R) (link : ℕ → ℕ → Link R) (p i : ℕ) (l : Link R)
      → ((c : ℕ) (r : R) → l ≡ holds c r true → r ≡ reading c)
      → ((q i c : ℕ) (r : R) → link q i ≡ holds c r true → r ≡ reading c)
      → (q j c : ℕ) (r : R) → set_link link p i l q j ≡ holds c r true → r ≡ reading c
  set_true reading link p i l new old =
      at_party p (λ q. (j c : ℕ) (r : R) → set_link link p i l q j ≡ holds c r true → r ≡ reading c)
      (subst (λ (f : ℕ → Link R). (j c : ℕ) (r : R) → f j ≡ holds c r true → r ≡ reading c) (sym (updated_same link p (updated (link p) i l)))
      (at_party i (λ j. (c : ℕ) (r : R) → updated (link p) i l j ≡ holds c r true → r ≡ reading c)
      (λ c r e. new c r (sym (updated_same (link p) i l) ∙ e))
      (λ j h c r e. old p j c r (sym (updated_other (link p) i l j h) ∙ e))))
      (λ q h j c r e. old q j c r (sym (ap (λ (f : ℕ → Link R). f j) (updated_other link p (updated (link p) i l) q h)) ∙ e))

  pub filled_updated : (links : ℕ → Link R) (cs : List ℕ) (j : ℕ) (l : Link R) → Filled links cs j → Filled (updated links j l) cs j
  filled_updated links cs j l h i lt =
      let u = h i lt in
      let ne : i ≢ j = omega arith in
      (u.0, u.1, updated_other links j l i ne ∙ u.2)

  pub filled_more : (links : ℕ → Link R) (cs : List ℕ) (j : ℕ) (r : R) (b : Bool) → Filled links cs j
      → Filled (updated links j (holds (get_or cs j 0) r b)) cs (suc j)
  filled_more links cs j r b h =
      at_party j (λ i. i < suc j → (r : R) × (b : Bool) × (updated links j l i ≡ holds (get_or cs i 0) r b))
      (λ lt. (r, b, updated_same links j l))
      (λ i ne lt. filled_updated links cs j l h i (omega arith))
    where
      l : Link R
      l = holds (get_or cs j 0) r b

  -- starting a shelf operation
  pub start_state : (line : List (Entry R)) (reading : ℕ → R) (link : ℕ → ℕ → Link R) (job : ℕ → Job R) (task : ℕ → Task) (cur : ℕ → ℕ)
      (p : ℕ) {o : Order} {s : Stage} {a : Operation R} {link' : ℕ → ℕ → Link R} → task p ≡ doing o s → job p ≡ rests
      → Wants amended (link p) o s a → Starts link p a link' → State blank amended line reading link job task cur
      → State blank amended line reading link' (updated job p (awaits a)) task cur
  start_state line reading link job task cur p e_t e_j (want_take o j) (start_take i c) st =
      record {
        played = st.played;
        true_links = set_true reading link p j vacant (λ c r e. absurd (never (cc))) st.true_links;
        party =
            at_party p (λ q. Party blank amended line (set_link link p j vacant q) (cur q) (updated job p (awaits (take j (get_or (listed o) j 0))) q) (task q))
            (let was = party_of_lem line refl refl (sym e_j) (sym e_t) (st.party p) in
            party_of_lem line (updated_same link p (updated (link p) j vacant)) refl (updated_same job p (awaits (take j (get_or (listed o) j 0)))) e_t
            (was.0, was.1, filled_updated (link p) (listed o) j vacant was.2, refl))
            (λ q h. party_of_lem line {k = cur q} {T = task q} (updated_other link p (updated (link p) j vacant) q h) refl (updated_other job p (awaits (take j (get_or (listed o) j 0))) q h) refl (st.party q));
      }
  start_state line reading link job task cur p e_t e_j (want_put c w d r b e) (start_put i v c' r' b' e') st =
      record {
        played = st.played;
        true_links = st.true_links;
        party =
            at_party p (λ q. Party blank amended line (link q) (cur q) (updated job p (awaits (put 0 (amended r w))) q) (task q))
            (let was = party_of_lem line refl refl (sym e_j) (sym e_t) (st.party p) in
            let same : r ≡ was.0 = cc (e, was.2) in
            party_of_lem line refl refl (updated_same job p (awaits (put 0 (amended r w)))) e_t
            (was.0, was.1, was.2, (was.3, ap (λ (x : R). put 0 (amended x w)) same)))
            (λ q h. party_of_lem line {l = link q} {k = cur q} {T = task q} refl refl (updated_other job p (awaits (put 0 (amended r w))) q h) refl (st.party q));
      }
  start_state line reading link job task cur p e_t e_j (want_check cs j) (start_check i c r b e) st =
      record {
        played = st.played;
        true_links = st.true_links;
        party =
            at_party p (λ q. Party blank amended line (link q) (cur q) (updated job p (awaits (check j)) q) (task q))
            (let was = party_of_lem line refl refl (sym e_j) (sym e_t) (st.party p) in
            party_of_lem line refl refl (updated_same job p (awaits (check j))) e_t (was.0, was.1, refl, was.3))
            (λ q h. party_of_lem line {l = link q} {k = cur q} {T = task q} refl refl (updated_other job p (awaits (check j)) q h) refl (st.party q));
      }

  pub begun_state : (line : List (Entry R)) (w : ℕ) (m : Shelf R) (task : ℕ → Task) (cur : ℕ → ℕ) (p : ℕ) {o : Order} {s : Stage} {m' : Shelf R}
      → task p ≡ doing o s → Begun amended w m p o s m' → State blank amended line m.reading m.link m.job task cur
      → State blank amended line m'.reading m'.link m'.job task cur
  begun_state line w m task cur p e_t (begun_before h) st = st
  begun_state line w m task cur p e_t (begun_now a n link' e_j W S l) st = start_state line m.reading m.link m.job task cur p e_t e_j W S st
