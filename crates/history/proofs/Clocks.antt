-- What time does to the line of operations and to those that run.
use mathlib.Core.Path.{◌≡◌, sym, ap, ◌∙◌, subst}
use mathlib.Core.List.{List}
use mathlib.Core.Bool.{Bool}
use mathlib.Core.Logic.{◌≢◌, ◌⊎◌, inl, inr}
use Prim.Native.Nat.{ℕ, suc, ◌<◌}
use native.Mathlib.Omega.{arith}
use native.Mathlib.Decide.{ℕ_discrete}
use Rattle.history.specs.Board.{updated, Order, Entry, StandsIn}
use Rattle.history.proofs.Hub.{Stage, Task, free, doing, Event, ordered, done}
use Rattle.history.proofs.Claim.{Ends}
use Rattle.history.proofs.Basics.{never, updated_same, updated_other, at_party}
use Rattle.history.proofs.Kept.{Lined, Runs, Clock, Ended, Busy}

module _ {R : Type 0} (event : ℕ → Event R) (t : ℕ) where
  -- time goes on for a party whose operation does not end now
  pub runs_on : (q k : ℕ) (T : Task) → ((f : Bool) (a : List R) → event t ≢ done q f a) → Runs event t q k T → Runs event (suc t) q k T
  runs_on q k free h ru = tt
  runs_on q k (doing o s) h ru = (omega (arith, ru.0), ru.1, go)
    where
      go : (u : ℕ) → k < u → u < suc t → (f : Bool) (a : List R) → event u ≢ done q f a
      go u l l' f a e = by (ℕ_discrete u t)
        where
          by : Dec (u ≡ t) → ⊥
          by (yes same) = h f a (sym (ap event same) ∙ e)
          by (no n) = ru.2 u l (omega arith) f a e

  -- an operation that had ended has ended
  pub ended_on : (q k : ℕ) → Ended event t q k → Ended event (suc t) q k
  ended_on q k e = (e.0, e.1, omega (arith, e.2), e.3)

  -- a call that orders nothing and ends nothing
  pub clock_on : (task : ℕ → Task) (cur : ℕ → ℕ) → ((q : ℕ) (o : Order) → event t ≢ ordered q o)
      → ((q : ℕ) (f : Bool) (a : List R) → event t ≢ done q f a) → Clock event t task cur → Clock event (suc t) task cur
  clock_on task cur no_order no_done ck =
      record {
        running = λ q. runs_on q (cur q) (task q) (no_done q) (ck.running q);
        known = λ q k o l e. old q k o e (ℕ_discrete k t) l;
      }
    where
      old : (q k : ℕ) (o : Order) → event k ≡ ordered q o → Dec (k ≡ t) → k < suc t → Ended event (suc t) q k ⊎ ((k ≡ cur q) × Busy (task q))
      old q k o e (yes same) l = absurd (no_order q o (sym (ap event same) ∙ e))
      old q k o e (no n) l = elim (ck.known q k o (omega arith) e) [ inl u ↦ inl (ended_on q k u) | inr u ↦ inr u ]

  pub lined_on : (line : List (Entry R)) → ((q : ℕ) (f : Bool) (a : List R) → event t ≢ done q f a) → Lined event t line → Lined event (suc t) line
  lined_on line no_done li =
      record {
        accepted = λ x m. (omega (arith, (li.accepted x m).0), (li.accepted x m).1);
        finished = λ p k e o a c en l. go p k e o a c en (ℕ_discrete e t) l;
        in_turn = li.in_turn;
      }
    where
      go : (p k e : ℕ) (o : Order) (a : List R) → event k ≡ ordered p o → Ends event p k e a → Dec (e ≡ t) → e < suc t
          → StandsIn (record { op = k; order = o; answer = a }) line
      go p k e o a c en (yes same) l = absurd (no_done p en.brings a (sym (ap event same) ∙ en.is_done))
      go p k e o a c en (no n) l = li.finished p k e o a c en (omega arith)

  -- a stage changes
  pub clock_stage : (task : ℕ → Task) (cur : ℕ → ℕ) (p : ℕ) (o : Order) (s s' : Stage) → task p ≡ doing o s → Clock event t task cur
      → Clock event t (updated task p (doing o s')) cur
  clock_stage task cur p o s s' e_t ck =
      record {
        running =
            at_party p (λ q. Runs event t q (cur q) (updated task p (doing o s') q))
            (subst (Runs event t p (cur p)) (sym (updated_same task p (doing o s'))) (subst (Runs event t p (cur p)) e_t (ck.running p)))
            (λ q h. subst (Runs event t q (cur q)) (sym (updated_other task p (doing o s') q h)) (ck.running q));
        known = λ q k o l e. elim (ck.known q k o l e) [ inl u ↦ inl u | inr u ↦ inr (u.0, busy q u.1) ];
      }
    where
      busy : (q : ℕ) → Busy (task q) → Busy (updated task p (doing o s') q)
      busy =
          at_party p (λ q. Busy (task q) → Busy (updated task p (doing o s') q))
          (λ b. subst Busy (sym (updated_same task p (doing o s'))) tt)
          (λ q h b. subst Busy (sym (updated_other task p (doing o s') q h)) b)

  -- party p's operation ends now
  module _ (task : ℕ → Task) (cur : ℕ → ℕ) (p : ℕ) (o : Order) (s : Stage) (f : Bool) (a : List R) (ec : event t ≡ done p f a) (e_t : task p ≡ doing o s)
      (ck : Clock event t task cur) where
    run_p : Runs event t p (cur p) (doing o s)
    run_p = subst (Runs event t p (cur p)) e_t (ck.running p)

    lined_done' : (line : List (Entry R)) → StandsIn (record { op = cur p; order = o; answer = a }) line → Lined event t line → Lined event (suc t) line
    lined_done' line m li =
        record {
          accepted = λ x m. (omega (arith, (li.accepted x m).0), (li.accepted x m).1);
          finished = λ p k e o a c en l. go p k e o a c en (ℕ_discrete e t) l;
          in_turn = li.in_turn;
        }
      where
        now : (p' k e : ℕ) (o' : Order) (a' : List R) → event k ≡ ordered p' o' → (en : Ends event p' k e a') → e ≡ t
            → Ended event t p' k ⊎ ((k ≡ cur p') × Busy (task p')) → StandsIn (record { op = k; order = o'; answer = a' }) line
        now p' k e o' a' c en same (inl u) =
            absurd (en.first u.0 u.1 (omega (arith, u.2)) u.3.0 u.3.1 u.3.2)
        now p' k e o' a' c en same (inr u) =
            let b : ◌≡◌ {A = Event R} (done p' en.brings a') (done p f a) = sym en.is_done ∙ ap event same ∙ ec in
            let p_is : p' ≡ p = cc in
            let a_is : a' ≡ a = cc in
            let k_is : k ≡ cur p = u.0 ∙ ap cur p_is in
            let o_is : o' ≡ o = (let g : ◌≡◌ {A = Event R} (ordered p' o') (ordered p o) = sym c ∙ ap event k_is ∙ run_p.1 in cc) in
            let z_is : ◌≡◌ {A = Entry R} (record { op = k; order = o'; answer = a' }) (record { op = cur p; order = o; answer = a }) =
            λ i. record { op = k_is i; order = o_is i; answer = a_is i } in
            subst (λ (z : Entry R). StandsIn z line) (sym z_is) m

        go : (p k e : ℕ) (o : Order) (a : List R) → event k ≡ ordered p o → Ends event p k e a → Dec (e ≡ t) → e < suc t
            → StandsIn (record { op = k; order = o; answer = a }) line
        go p' k e o' a' c en (yes same) l = now p' k e o' a' c en same (ck.known p' k o' (let g = en.later in omega arith) c)
        go p' k e o' a' c en (no n) l = li.finished p' k e o' a' c en (omega arith)

    clock_done' : Clock event (suc t) (updated task p free) cur
    clock_done' =
        record {
          running =
              at_party p (λ q. Runs event (suc t) q (cur q) (updated task p free q))
              (subst (Runs event (suc t) p (cur p)) (sym (updated_same task p free)) tt)
              (λ q n. subst (Runs event (suc t) q (cur q)) (sym (updated_other task p free q n))
              (runs_on q (cur q) (task q) (λ g b e. n (let k : ◌≡◌ {A = Event R} (done p f a) (done q g b) = sym ec ∙ e in cc)) (ck.running q)));
          known = λ q k o l e. by q k o e (ℕ_discrete k t) l;
        }
      where
        at_q : (q k : ℕ) → Dec (q ≡ p) → (k ≡ cur q) × Busy (task q) → Ended event (suc t) q k ⊎ ((k ≡ cur q) × Busy (updated task p free q))
        at_q q k (yes same) u =
            let k_is : k ≡ cur p = u.0 ∙ ap cur same in
            inl (t, omega (arith, run_p.0), omega arith, (f, a, ec ∙ ap (λ (x : ℕ). done x f a) (sym same)))
        at_q q k (no n) u = inr (u.0, subst Busy (sym (updated_other task p free q n)) u.1)

        by : (q k : ℕ) (o : Order) → event k ≡ ordered q o → Dec (k ≡ t) → k < suc t → Ended event (suc t) q k ⊎ ((k ≡ cur q) × Busy (updated task p free q))
        by q k o' e (yes same) l = absurd (never (let g : ◌≡◌ {A = Event R} (ordered q o') (done p f a) = sym e ∙ ap event same ∙ ec in cc))
        by q k o' e (no n) l =
            elim (ck.known q k o' (omega arith) e) [ inl u ↦ inl (ended_on q k u) | inr u ↦ at_q q k (ℕ_discrete q p) u ]

  pub lined_done : (line : List (Entry R)) (task : ℕ → Task) (cur : ℕ → ℕ) (p : ℕ) (o : Order) (s : Stage) (f : Bool) (a : List R) → event t ≡ done p f a
      → task p ≡ doing o s → Clock event t task cur → StandsIn (record { op = cur p; order = o; answer = a }) line → Lined event t line → Lined event (suc t) line
  lined_done line task cur p o s f a ec e_t ck m li = lined_done' task cur p o s f a ec e_t ck line m li

  pub clock_done : (task : ℕ → Task) (cur : ℕ → ℕ) (p : ℕ) (o : Order) (s : Stage) (f : Bool) (a : List R) → event t ≡ done p f a → task p ≡ doing o s
      → Clock event t task cur → Clock event (suc t) (updated task p free) cur
  clock_done task cur p o s f a ec e_t ck = clock_done' task cur p o s f a ec e_t ck
