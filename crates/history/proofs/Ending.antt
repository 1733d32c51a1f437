-- Handing over the answer of a shelf operation keeps the state.
use mathlib.Core.Path.{◌≡◌, refl, sym, ap, ◌∙◌, subst}
use mathlib.Core.List.{List, [], ◌∷◌, ◌++◌, map}
use mathlib.Core.Bool.{Bool, true, false}
use mathlib.Core.Logic.{◌≢◌, ◌⊎◌, inl, inr}
use mathlib.Core.Option.{Option, none, some}
use Prim.Native.Nat.{ℕ, zero, suc, ◌+◌, ◌<◌}
use native.Mathlib.Omega.{arith}
use lib.ListN.{length, get_or}
use Rattle.history.specs.Board.{updated, Order, amendment, picture, listed, Entry, StandsIn}
use Rattle.shelf.specs.Meaning.{Link, holds, Operation}
use Rattle.history.proofs.Shelf.{Said, live, Job, rests, forced}
use Rattle.shelf.specs.Calls.{reading_on}
use Rattle.history.proofs.Hub.{Stage, taking, putting, checking, Task, free, doing, Event, ordered, looks, Next, next_take, next_put, next_check, stored_done, missed_again, live_next, live_done, broken_again}
use Rattle.history.proofs.Basics.{never, updated_same, updated_other, at_party, mem_last, plays_snoc, rem, mem_of_rem, plays_rem}
use Rattle.history.proofs.Kept.{Filled, Standing, Party, State, Lined, Runs}
use Rattle.history.proofs.Starting.{party_of_lem}
use Rattle.history.proofs.Lines.{Result, other_line, alike_snoc, alike_rem, lined_snoc, lined_rem}

module _ {R : Type 0} (blank : R) (amended : R → ℕ → R) (event : ℕ → Event R) (t : ℕ)
    (line : List (Entry R)) (li : Lined event t line) (task : ℕ → Task) (cur : ℕ → ℕ) (ru : (q : ℕ) → Runs event t q (cur q) (task q)) (p : ℕ) where
  -- every filled link is live, or one is broken
  all_live : (links : ℕ → Link R) (cs : List ℕ) (n : ℕ) → Filled links cs n
      → ((i : ℕ) → i < n → (r : R) × (links i ≡ holds (get_or cs i 0) r true)) ⊎ ((i : ℕ) × (i < n) × ((c : ℕ) × (r : R) × (links i ≡ holds c r false)))
  all_live links cs zero h = inl (λ i l. absurd (omega arith))
  all_live links cs (suc n) h = go (all_live links cs n (λ i l. h i (omega arith))) (h n (omega arith)).1 (h n (omega arith)).2
    where
      go : ((i : ℕ) → i < n → (r : R) × (links i ≡ holds (get_or cs i 0) r true)) ⊎ ((i : ℕ) × (i < n) × ((c : ℕ) × (r : R) × (links i ≡ holds c r false)))
          → (b : Bool) → links n ≡ holds (get_or cs n 0) (h n (omega arith)).0 b
          → ((i : ℕ) → i < suc n → (r : R) × (links i ≡ holds (get_or cs i 0) r true)) ⊎ ((i : ℕ) × (i < suc n) × ((c : ℕ) × (r : R) × (links i ≡ holds c r false)))
      go (inr (i, l, u)) b e = inr (i, omega arith, u)
      go (inl f) false e = inr (n, omega arith, (get_or cs n 0, _, e))
      go (inl f) true e =
          inl (at_party n (λ i. i < suc n → (r : R) × (links i ≡ holds (get_or cs i 0) r true)) (λ l. (_, e)) (λ i ne l. f i (omega arith)))

  looks_true : (reading : ℕ → R) (links : ℕ → Link R) (s : ℕ) (ds : List ℕ)
      → ((i : ℕ) → i < length ds → reading_on blank (links (s + i)) ≡ reading (get_or ds i 0))
      → looks blank links s ds ≡ map reading ds
  looks_true reading links s [] h = refl
  looks_true reading links s (d ∷ ds) h =
      let e : s + 0 ≡ s = omega arith in
      let head : reading_on blank (links s) ≡ reading d = sym (ap (λ (n : ℕ). reading_on blank (links n)) e) ∙ h 0 (omega arith) in
      let tail =
      looks_true reading links (suc s) ds
      (λ i l. let f : suc s + i ≡ s + suc i = omega arith in ap (λ (n : ℕ). reading_on blank (links n)) f ∙ h (suc i) (omega arith)) in
      cc (head, tail)

  -- the parties' parts where only party p's job and task change
  parts : (line' : List (Entry R)) (link : ℕ → ℕ → Link R) (job : ℕ → Job R) (T : Task)
      → Party blank amended line' (link p) (cur p) rests T
      → ((q : ℕ) → q ≢ p → Party blank amended line' (link q) (cur q) (job q) (task q))
      → (q : ℕ) → Party blank amended line' (link q) (cur q) (updated job p rests q) (updated task p T q)
  parts line' link job T here there =
      at_party p (λ q. Party blank amended line' (link q) (cur q) (updated job p rests q) (updated task p T q))
      (party_of_lem blank amended line' {l = link p} {k = cur p} refl refl (updated_same job p rests) (updated_same task p T) here)
      (λ q h. party_of_lem blank amended line' {l = link q} {k = cur q} refl refl (updated_other job p rests q h) (updated_other task p T q h) (there q h))

  abbrev EndedIn : (ℕ → R) → (ℕ → ℕ → Link R) → (ℕ → Job R) → Task → Type 0
  EndedIn reading link job T = Result blank amended event t reading link (updated job p rests) (updated task p T) cur

  -- nothing changes but party p's job and task
  same_line : (reading : ℕ → R) (link : ℕ → ℕ → Link R) (job : ℕ → Job R) (T : Task) → State blank amended line reading link job task cur
      → Party blank amended line (link p) (cur p) rests T → EndedIn reading link job T
  same_line reading link job T st here =
      record {
        line = line;
        lined = li;
        state = record { played = st.played; true_links = st.true_links; party = parts line link job T here (λ q h. st.party q) };
      }

  -- the answer is handed over and the operation goes on
  go_on : (reading : ℕ → R) (link : ℕ → ℕ → Link R) (job : ℕ → Job R) (a : Operation R) {o : Order} {s : Stage} {said : Said} {s' : Option Stage} (s'' : Stage)
      → s' ≡ some s'' → task p ≡ doing o s → Party blank amended line (link p) (cur p) (forced a said) (doing o s)
      → Next o s said s' → State blank amended line reading link job task cur → EndedIn reading link job (doing o s'')
  go_on reading link job a s'' es e_t was (next_take o j l) st =
      subst (λ (x : Stage). EndedIn reading link job (doing o x)) (let k = es in cc)
      (same_line reading link job (doing o (taking (suc j))) st (was.0, l, was.3.1, tt))
  go_on reading link job a s'' es e_t was (next_put c w) st =
      let u = was.3.1 0 (omega arith) in
      subst (λ (x : Stage). EndedIn reading link job (doing (amendment c w) x)) (let k = es in cc)
      (same_line reading link job (doing (amendment c w) putting) st (u.0, u.1, u.2, was.0))
  go_on reading link job a s'' es e_t was (next_check cs j l) st =
      subst (λ (x : Stage). EndedIn reading link job (doing (picture cs) x)) (let k = es in cc) (go (all_live (link p) cs (length cs) full))
    where
      full : Filled (link p) cs (length cs)
      full i h = was.3.1 i (omega arith)

      run : Runs event t p (cur p) (doing (picture cs) (taking j))
      run = subst (Runs event t p (cur p)) e_t (ru p)

      z : Entry R
      z = record { op = cur p; order = picture cs; answer = looks blank (link p) 0 cs }

      go : ((i : ℕ) → i < length cs → (r : R) × (link p i ≡ holds (get_or cs i 0) r true))
          ⊎ ((i : ℕ) × (i < length cs) × ((c : ℕ) × (r : R) × (link p i ≡ holds c r false)))
          → EndedIn reading link job (doing (picture cs) (checking 0))
      go (inr (i, h, b)) = same_line reading link job (doing (picture cs) (checking 0)) st (omega arith, full, tt, inr (was.0, (i, omega arith, h, tt, b)))
      go (inl f) =
          record {
            line = line ++ (z ∷ []);
            lined = lined_snoc blank amended event t line p (cur p) (picture cs) (taking j) (looks blank (link p) 0 cs) run was.0 li;
            state =
                record {
                  played = plays_snoc amended (λ c. blank) z line reading reading st.played (looks_true reading (link p) 0 cs shown) (λ c. refl);
                  true_links = st.true_links;
                  party =
                      parts (line ++ (z ∷ [])) link job (doing (picture cs) (checking 0)) (omega arith, full, tt, inl (mem_last z line))
                      (λ q h.
                      other_line blank amended event t line (line ++ (z ∷ [])) p (cur p) (picture cs) run.1 (λ k n. alike_snoc blank amended event t line z k n) q h (link q) (cur q) (job q) (task q) (ru q)
                      (st.party q));
                };
          }
        where
          shown : (i : ℕ) → i < length cs → reading_on blank (link p (0 + i)) ≡ reading (get_or cs i 0)
          shown i h =
              let u = f i h in
              let e : 0 + i ≡ i = omega arith in
              ap (λ (n : ℕ). reading_on blank (link p n)) e ∙ ap (reading_on blank) u.1 ∙ st.true_links p i (get_or cs i 0) u.0 u.1
  go_on reading link job a s'' es e_t was (stored_done c w) st = absurd (never (cc))
  go_on reading link job a s'' es e_t was (missed_again c w) st =
      subst (λ (x : Stage). EndedIn reading link job (doing (amendment c w) x)) (let k = es in cc)
      (same_line reading link job (doing (amendment c w) (taking 0)) st (was.3, omega arith, (λ i l. absurd (omega arith)), tt))
  go_on reading link job a s'' es e_t was (live_next cs j l) st =
      subst (λ (x : Stage). EndedIn reading link job (doing (picture cs) x)) (let k = es in cc)
      (same_line reading link job (doing (picture cs) (checking (suc j))) st (l, was.1, tt, go was.3))
    where
      go : Standing blank line (link p) (cur p) cs j (forced a live) → Standing blank line (link p) (cur p) cs (suc j) rests
      go (inl u) = inl u
      go (inr (ab, (i, ge, lt, un, b))) = inr (ab, (i, un, lt, tt, b))
  go_on reading link job a s'' es e_t was (live_done cs j l) st = absurd (never (cc))
  go_on reading link job a s'' es e_t was (broken_again cs j) st =
      subst (λ (x : Stage). EndedIn reading link job (doing (picture cs) x)) (let k = es in cc) again
    where
      run : Runs event t p (cur p) (doing (picture cs) (checking j))
      run = subst (Runs event t p (cur p)) e_t (ru p)

      pictures : (y : Entry R) → StandsIn y line → y.op ≡ cur p → (ds : List ℕ) × (y.order ≡ picture ds)
      pictures y m e =
          let u = (li.accepted y m).1 in
          (cs, let b : ◌≡◌ {A = Event R} (ordered u.0 y.order) (ordered p (picture cs)) = sym u.1 ∙ ap event e ∙ run.1 in cc)

      again : EndedIn reading link job (doing (picture cs) (taking 0))
      again =
          record {
            line = rem (cur p) line;
            lined = lined_rem blank amended event t line p (cur p) (picture cs) (checking j) run li;
            state =
                record {
                  played = plays_rem amended (λ c. blank) (cur p) line reading pictures st.played;
                  true_links = st.true_links;
                  party =
                      parts (rem (cur p) line) link job (doing (picture cs) (taking 0))
                      ((λ x m. (mem_of_rem (cur p) x line m).1), omega arith, (λ i l. absurd (omega arith)), tt)
                      (λ q h.
                      other_line blank amended event t line (rem (cur p) line) p (cur p) (picture cs) run.1 (λ k n. alike_rem blank amended event t line (cur p) k n) q h (link q) (cur q) (job q) (task q) (ru q)
                      (st.party q));
                };
          }

  -- the answer is handed over and the operation is done: it stands in the line with what looks then show
  finish : (link : ℕ → ℕ → Link R) (a : Operation R) {o : Order} {s : Stage} {said : Said} {s' : Option Stage}
      → s' ≡ none → Party blank amended line (link p) (cur p) (forced a said) (doing o s)
      → Next o s said s' → StandsIn (record { op = cur p; order = o; answer = looks blank (link p) 0 (listed o) }) line
  finish link a es was (next_take o j l) = absurd (never (cc))
  finish link a es was (next_put c w) = absurd (never (cc))
  finish link a es was (next_check cs j l) = absurd (never (cc))
  finish link a es was (stored_done c w) =
      subst (λ (x : R). StandsIn (record { op = cur p; order = amendment c w; answer = x ∷ [] }) line) (sym (ap (reading_on blank) was.2)) was.3
  finish link a es was (missed_again c w) = absurd (never (cc))
  finish link a es was (live_next cs j l) = absurd (never (cc))
  finish link a es was (live_done cs j l) = go was.3
    where
      go : Standing blank line (link p) (cur p) cs j (forced a live)
          → StandsIn (record { op = cur p; order = picture cs; answer = looks blank (link p) 0 cs }) line
      go (inl u) = u
      go (inr (ab, (i, ge, lt, un, b))) = absurd (omega arith)
  finish link a es was (broken_again cs j) = absurd (never (cc))

  pub end_state : (reading : ℕ → R) (link : ℕ → ℕ → Link R) (job : ℕ → Job R) (a : Operation R) {o : Order} {s s' : Stage} {said : Said} → job p ≡ forced a said
      → task p ≡ doing o s → Next o s said (some s') → State blank amended line reading link job task cur
      → Result blank amended event t reading link (updated job p rests) (updated task p (doing o s')) cur
  end_state reading link job a {s'} e_j e_t N st = go_on reading link job a s' refl e_t (party_of_lem blank amended line refl refl (sym e_j) (sym e_t) (st.party p)) N st

  pub done_state : (reading : ℕ → R) (link : ℕ → ℕ → Link R) (job : ℕ → Job R) (a : Operation R) {o : Order} {s : Stage} {said : Said} → job p ≡ forced a said
      → task p ≡ doing o s → Next o s said none → State blank amended line reading link job task cur
      → StandsIn (record { op = cur p; order = o; answer = looks blank (link p) 0 (listed o) }) line
      × State blank amended line reading link (updated job p rests) (updated task p free) cur
  done_state reading link job a e_j e_t N st = (
    finish link a refl (party_of_lem blank amended line refl refl (sym e_j) (sym e_t) (st.party p)) N,
    record { played = st.played; true_links = st.true_links; party = parts line link job free tt (λ q h. st.party q) },
  )
