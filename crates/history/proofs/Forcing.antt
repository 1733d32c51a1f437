-- A shelf operation that comes into force keeps the state.
use mathlib.Core.Path.{◌≡◌, refl, sym, ap, ◌∙◌, subst}
use mathlib.Core.List.{List, [], ◌∷◌, ◌++◌}
use mathlib.Core.Bool.{Bool, true, false, cond}
use mathlib.Core.Logic.{inl, inr}
use mathlib.Core.Option.{Option}
use Prim.Native.Nat.{ℕ, ◌<◌}
use native.Mathlib.Omega.{arith}
use native.Mathlib.Decide.{ℕ_discrete}
use lib.Dec.{eqb}
use lib.ListN.{get_or}
use borrow.Author.Tests.{eq-eqb, ne_eqb}
use Rattle.history.specs.Board.{updated, Order, amendment, picture, listed, Entry}
use Rattle.shelf.specs.Meaning.{Link, vacant, holds, Operation, take, put, check, break_on}
use Rattle.history.proofs.Shelf.{Said, taken, stored, missed, live, broken, awaits, forced, Shelf, set_link, Forces, force_take, force_put, force_miss, force_live, force_broken}
use Rattle.history.proofs.Hub.{Stage, taking, putting, checking, Task, doing, Event}
use Rattle.history.proofs.Basics.{never, updated_same, updated_other, at_party, mem_last, plays_snoc}
use Rattle.history.proofs.Kept.{Standing, Party, State, Lined, Runs, party_break}
use Rattle.history.proofs.Starting.{party_of_lem, set_true, filled_updated, filled_more}
use Rattle.history.proofs.Lines.{Result, other_line, alike_snoc, lined_snoc}

module _ {R : Type 0} (blank : R) (amended : R → ℕ → R) (event : ℕ → Event R) (t : ℕ)
    (line : List (Entry R)) (li : Lined event t line) (task : ℕ → Task) (cur : ℕ → ℕ) (ru : (q : ℕ) → Runs event t q (cur q) (task q)) (p : ℕ) where
  -- a take comes into force
  force_taking : (m : Shelf R) (o : Order) (j : ℕ) (a : Operation R) {f : Option ℕ} {s : Said} {reading' : ℕ → R} {link' : ℕ → ℕ → Link R}
      → task p ≡ doing o (taking j) → Party blank amended line (m.link p) (cur p) (awaits a) (doing o (taking j))
      → Forces m p (take j (get_or (listed o) j 0)) f s reading' link'
      → State blank amended line m.reading m.link m.job task cur
      → Result blank amended event t reading' link' (updated m.job p (forced a s)) task cur
  force_taking m o j a e_t was (force_take i c) st =
      record {
        line = line;
        lined = li;
        state =
            record {
              played = st.played;
              true_links = set_true blank amended m.reading m.link p j new (λ c r e. cc) st.true_links;
              party =
                  at_party p
                  (λ q. Party blank amended line (set_link m.link p j new q) (cur q) (updated m.job p (forced a taken) q) (task q))
                  (party_of_lem blank amended line (updated_same m.link p (updated (m.link p) j new)) refl (updated_same m.job p (forced a taken)) e_t (
                    was.0,
                    was.1,
                    filled_updated blank amended (m.link p) (listed o) j new was.2,
                    (refl, filled_more blank amended (m.link p) (listed o) j (m.reading (get_or (listed o) j 0)) true was.2),
                  ))
                  (λ q h. party_of_lem blank amended line {k = cur q} {T = task q} (updated_other m.link p (updated (m.link p) j new) q h) refl
                  (updated_other m.job p (forced a taken) q h) refl (st.party q));
            };
      }
    where
      new : Link R
      new = holds (get_or (listed o) j 0) (m.reading (get_or (listed o) j 0)) true

  -- the true links after a put on c
  put_true : (reading : ℕ → R) (link : ℕ → ℕ → Link R) (c : ℕ) (v : R) → ((q i d : ℕ) (r : R) → link q i ≡ holds d r true → r ≡ reading d)
      → (q i d : ℕ) (r : R) → break_on c (link q i) ≡ holds d r true → r ≡ updated reading c v d
  put_true reading link c v old q i d r e = go (link q i) refl e
    where
      go : (l : Link R) → link q i ≡ l → break_on c l ≡ holds d r true → r ≡ updated reading c v d
      go vacant el el' = absurd (never (cc))
      go (holds d' r' b') el el' = by (ℕ_discrete d c)
        where
          d_is : d' ≡ d
          d_is = cc

          r_is : r' ≡ r
          r_is = cc

          b_is : cond (eqb d' c) false b' ≡ true
          b_is = cc

          by : Dec (d ≡ c) → r ≡ updated reading c v d
          by (yes f) = absurd (never (let g : eqb d' c ≡ true = eq-eqb d' c (d_is ∙ f) in let k : false ≡ true = ap (λ (b : Bool). cond b false b') (sym g) ∙ b_is in cc))
          by (no n) =
              let g : eqb d' c ≡ false = ne_eqb d' c (λ k. n (sym d_is ∙ k)) in
              let b_true : b' ≡ true = ap (λ (b : Bool). cond b false b') (sym g) ∙ b_is in
              let was : link q i ≡ holds d r true = cc (el, d_is, r_is, b_true) in
              old q i d r was ∙ sym (updated_other reading c v d n)

  -- a put comes into force
  force_putting : (m : Shelf R) (c w : ℕ) (a : Operation R) → task p ≡ doing (amendment c w) putting
      → (was : Party blank amended line (m.link p) (cur p) (awaits a) (doing (amendment c w) putting))
      → {f : Option ℕ} {s : Said} {reading' : ℕ → R} {link' : ℕ → ℕ → Link R} → Forces m p (put 0 (amended was.0 w)) f s reading' link'
      → State blank amended line m.reading m.link m.job task cur
      → Result blank amended event t reading' link' (updated m.job p (forced a s)) task cur
  force_putting m c w a e_t was (force_put i c₀ v r₀ e) st =
      record {
        line = line ++ (z ∷ []);
        lined = lined_snoc blank amended event t line p (cur p) (amendment c w) putting (r ∷ []) run was.3.0 li;
        state =
            record {
              played =
                  plays_snoc amended (λ c. blank) z line m.reading (updated m.reading c₀ (amended r w)) st.played
                  (ap (λ (x : R). x ∷ []) r_now)
                  (λ d. cc (r_now, c_is));
              true_links = put_true m.reading m.link c₀ (amended r w) st.true_links;
              party =
                  at_party p
                  (λ q. Party blank amended (line ++ (z ∷ [])) (λ j. break_on c₀ (m.link q j)) (cur q) (updated m.job p (forced a stored) q) (task q))
                  (party_of_lem blank amended (line ++ (z ∷ [])) {l = λ j. break_on c₀ (m.link p j)} refl refl (updated_same m.job p (forced a stored)) e_t
                  (r, cond (eqb c c₀) false was.1, ap (break_on c₀) was.2, mem_last z line))
                  (λ q h. party_of_lem blank amended (line ++ (z ∷ [])) {l = λ j. break_on c₀ (m.link q j)} {k = cur q} {T = task q} refl refl
                  (updated_other m.job p (forced a stored) q h) refl
                  (party_break blank amended (line ++ (z ∷ [])) c₀ (m.link q) (cur q) (m.job q) (task q)
                  (other_line blank amended event t line (line ++ (z ∷ [])) p (cur p) (amendment c w) run.1 (λ k n. alike_snoc blank amended event t line z k n) q h (m.link q) (cur q) (m.job q) (task q) (ru q)
                  (st.party q))));
            };
      }
    where
      run : Runs event t p (cur p) (doing (amendment c w) putting)
      run = subst (Runs event t p (cur p)) e_t (ru p)

      r : R
      r = was.0

      z : Entry R
      z = record { op = cur p; order = amendment c w; answer = was.0 ∷ [] }

      c_is : c₀ ≡ c
      c_is = cc (e, was.2)

      r_is : r₀ ≡ was.0
      r_is = cc (e, was.2)

      r_now : was.0 ≡ m.reading c
      r_now = sym r_is ∙ st.true_links p 0 c₀ r₀ e ∙ ap m.reading c_is
  force_putting m c w a e_t was (force_miss i c₀ v r₀ e) st =
      record {
        line = line;
        lined = li;
        state =
            record {
              played = st.played;
              true_links = st.true_links;
              party =
                  at_party p
                  (λ q. Party blank amended line (m.link q) (cur q) (updated m.job p (forced a missed) q) (task q))
                  (party_of_lem blank amended line {l = m.link p} {k = cur p} refl refl (updated_same m.job p (forced a missed)) e_t
                  (was.0, was.1, was.2, was.3.0))
                  (λ q h. party_of_lem blank amended line {l = m.link q} {k = cur q} {T = task q} refl refl (updated_other m.job p (forced a missed) q h) refl (st.party q));
            };
      }

  -- a check comes into force
  force_checking : (m : Shelf R) (cs : List ℕ) (j : ℕ) (a : Operation R) {f : Option ℕ} {s : Said} {reading' : ℕ → R} {link' : ℕ → ℕ → Link R}
      → task p ≡ doing (picture cs) (checking j)
      → Party blank amended line (m.link p) (cur p) (awaits a) (doing (picture cs) (checking j))
      → Forces m p (check j) f s reading' link'
      → State blank amended line m.reading m.link m.job task cur
      → Result blank amended event t reading' link' (updated m.job p (forced a s)) task cur
  force_checking m cs j a e_t was (force_live i c r e) st =
      record {
        line = line;
        lined = li;
        state =
            record {
              played = st.played;
              true_links = st.true_links;
              party =
                  at_party p
                  (λ q. Party blank amended line (m.link q) (cur q) (updated m.job p (forced a live) q) (task q))
                  (party_of_lem blank amended line {l = m.link p} {k = cur p} refl refl (updated_same m.job p (forced a live)) e_t
                  (was.0, was.1, tt, go was.3))
                  (λ q h. party_of_lem blank amended line {l = m.link q} {k = cur q} {T = task q} refl refl (updated_other m.job p (forced a live) q h) refl (st.party q));
            };
      }
    where
      go : Standing blank line (m.link p) (cur p) cs j (awaits a) → Standing blank line (m.link p) (cur p) cs j (forced a live)
      go (inl u) = inl u
      go (inr (ab, (i, ge, lt, un, b))) = inr (ab, (i, ge, lt, later (ℕ_discrete i j), b))
        where
          later : Dec (i ≡ j) → j < i
          later (yes same) =
              absurd (never (let u : m.link p i ≡ holds c r true = ap (m.link p) same ∙ e in let v : m.link p i ≡ holds b.0 b.1 false = b.2 in cc))
          later (no n) = omega arith
  force_checking m cs j a e_t was (force_broken i c r e) st =
      record {
        line = line;
        lined = li;
        state =
            record {
              played = st.played;
              true_links = st.true_links;
              party =
                  at_party p
                  (λ q. Party blank amended line (m.link q) (cur q) (updated m.job p (forced a broken) q) (task q))
                  (party_of_lem blank amended line {l = m.link p} {k = cur p} refl refl (updated_same m.job p (forced a broken)) e_t
                  (was.0, was.1, tt, was.3))
                  (λ q h. party_of_lem blank amended line {l = m.link q} {k = cur q} {T = task q} refl refl (updated_other m.job p (forced a broken) q h) refl (st.party q));
            };
      }

  -- the waiting operation comes into force
  pub force_state : (m : Shelf R) (o : Order) (s : Stage) (a : Operation R) {f : Option ℕ} {said : Said} {reading' : ℕ → R} {link' : ℕ → ℕ → Link R}
      → task p ≡ doing o s → m.job p ≡ awaits a → Forces m p a f said reading' link'
      → State blank amended line m.reading m.link m.job task cur
      → Result blank amended event t reading' link' (updated m.job p (forced a said)) task cur
  force_state m o (taking j) a {f} {said} {reading'} {link'} e_t e_j F st =
      let was = party_of_lem blank amended line refl refl (sym e_j) (sym e_t) (st.party p) in
      force_taking m o j a e_t was (subst (λ (x : Operation R). Forces m p x f said reading' link') was.3 F) st
  force_state m (amendment c w) putting a {f} {said} {reading'} {link'} e_t e_j F st =
      let was = party_of_lem blank amended line refl refl (sym e_j) (sym e_t) (st.party p) in
      force_putting m c w a e_t was (subst (λ (x : Operation R). Forces m p x f said reading' link') was.3.1 F) st
  force_state m (picture cs) putting a e_t e_j F st = absurd (party_of_lem blank amended line refl refl (sym e_j) (sym e_t) (st.party p))
  force_state m (amendment c w) (checking j) a e_t e_j F st = absurd (party_of_lem blank amended line refl refl (sym e_j) (sym e_t) (st.party p))
  force_state m (picture cs) (checking j) a {f} {said} {reading'} {link'} e_t e_j F st =
      let was = party_of_lem blank amended line refl refl (sym e_j) (sym e_t) (st.party p) in
      force_checking m cs j a e_t was (subst (λ (x : Operation R). Forces m p x f said reading' link') was.2 F) st
