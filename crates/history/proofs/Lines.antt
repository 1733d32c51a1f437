-- The line of operations, where one is appended or taken out again.
use mathlib.Core.Path.{◌≡◌, sym, ap, ◌∙◌, subst}
use mathlib.Core.List.{List, [], ◌∷◌, ◌++◌}
use mathlib.Core.Logic.{◌≢◌, inl, inr}
use Prim.Native.Nat.{ℕ, ◌<◌}
use native.Mathlib.Omega.{arith}
use native.Mathlib.Decide.{dec_lt}
use Rattle.history.specs.Board.{Order, Entry, StandsIn}
use Rattle.shelf.specs.Meaning.{Link}
use Rattle.history.proofs.Shelf.{Job}
use Rattle.history.proofs.Hub.{Stage, Task, free, doing, Event, ordered, done}
use Rattle.history.proofs.Claim.{Ends, Before}
use Rattle.history.proofs.Basics.{mem_left, mem_snoc, along_snoc, rem, mem_rem, mem_of_rem, along_rem}
use Rattle.history.proofs.Kept.{Absent, Party, State, Lined, Runs, Alike, party_alike}
use Rattle.history.proofs.Starting.{party_free}

module _ {R : Type 0} (blank : R) (amended : R → ℕ → R) (event : ℕ → Event R) (t : ℕ) where
  -- a line with its state
  pub record Result (reading : ℕ → R) (link : ℕ → ℕ → Link R) (job : ℕ → Job R) (task : ℕ → Task) (cur : ℕ → ℕ) : Type 0 where
    pub line : List (Entry R)
    pub lined : Lined event t line
    pub state : State blank amended line reading link job task cur

  -- another party's part, where the line changes only in party p's operation k₀
  pub other_line : (line line' : List (Entry R)) (p k₀ : ℕ) (o₀ : Order) → event k₀ ≡ ordered p o₀ → ((k : ℕ) → k ≢ k₀ → Alike k line line')
      → (q : ℕ) → q ≢ p → (links : ℕ → Link R) (k : ℕ) (J : Job R) (T : Task) → Runs event t q k T
      → Party blank amended line links k J T → Party blank amended line' links k J T
  other_line line line' p k₀ o₀ e al q h links k J free ru pt = party_free blank amended line line' links links k k J pt
  other_line line line' p k₀ o₀ e al q h links k J (doing o s) ru pt = party_alike blank amended line line' links k J (doing o s) (al k ne) pt
    where
      ne : k ≢ k₀
      ne same = h (let a : event k ≡ ordered q o = ru.1 in let b : ◌≡◌ {A = Event R} (ordered q o) (ordered p o₀) = sym a ∙ ap event same ∙ e in cc)

  pub alike_snoc : (line : List (Entry R)) (z : Entry R) (k : ℕ) → k ≢ z.op → Alike k line (line ++ (z ∷ []))
  alike_snoc line z k h =
      record {
        to = λ x m e. mem_left x line (z ∷ []) m;
        from = λ x m e. elim (mem_snoc x z line m) [ inl u ↦ u | inr f ↦ absurd (h (sym e ∙ ap (λ (y : Entry R). y.op) f)) ];
      }

  pub alike_rem : (line : List (Entry R)) (k₀ k : ℕ) → k ≢ k₀ → Alike k line (rem k₀ line)
  alike_rem line k₀ k h =
      record {
        to = λ x m e. mem_rem k₀ x line m (λ f. h (sym e ∙ f));
        from = λ x m e. (mem_of_rem k₀ x line m).0;
      }

  -- the running operation k of party p goes to the end of the line
  pub lined_snoc : (line : List (Entry R)) (p k : ℕ) (o : Order) (s : Stage) (answer : List R) → Runs event t p k (doing o s) → Absent line k
      → Lined event t line → Lined event t (line ++ (record { op = k; order = o; answer = answer } ∷ []))
  lined_snoc line p k o s answer ru ab li =
      record {
        accepted = λ x m. elim (mem_snoc x z line m) [ inl u ↦ li.accepted x u | inr f ↦ new x f ];
        finished = λ p' k' e o' a' c en l. mem_left _ line (z ∷ []) (li.finished p' k' e o' a' c en l);
        in_turn = along_snoc (Before event) z line li.in_turn (λ x m. (ab x m, before x m));
      }
    where
      z : Entry R
      z = record { op = k; order = o; answer = answer }

      new : (x : Entry R) → x ≡ z → (x.op < t) × ((p : ℕ) × (event x.op ≡ ordered p x.order))
      new x f = subst (λ (y : Entry R). (y.op < t) × ((p : ℕ) × (event y.op ≡ ordered p y.order))) (sym f) (ru.0, (p, ru.1))

      before : (x : Entry R) → StandsIn x line → (p' e : ℕ) (a : List R) → event k ≡ ordered p' o → Ends event p' k e a → x.op < e
      before x m p' e a c en = go (dec_lt e t)
        where
          same : p' ≡ p
          same = let b : ◌≡◌ {A = Event R} (ordered p' o) (ordered p o) = sym c ∙ ru.1 in cc

          go : Dec (e < t) → x.op < e
          go (yes l) = absurd (ru.2 e en.later l en.brings a (en.is_done ∙ ap (λ (n : ℕ). done n en.brings a) same))
          go (no g) = let h = (li.accepted x m).0 in omega arith

  -- the running operation k of party p goes out of the line
  pub lined_rem : (line : List (Entry R)) (p k : ℕ) (o : Order) (s : Stage) → Runs event t p k (doing o s) → Lined event t line → Lined event t (rem k line)
  lined_rem line p k o s ru li =
      record {
        accepted = λ x m. li.accepted x (mem_of_rem k x line m).0;
        finished = λ p' k' e o' a' c en l. mem_rem k _ line (li.finished p' k' e o' a' c en l) (other p' k' e o' a' c en l);
        in_turn = along_rem (Before event) k line li.in_turn;
      }
    where
      other : (p' k' e : ℕ) (o' : Order) (a : List R) → event k' ≡ ordered p' o' → Ends event p' k' e a → e < t → k' ≢ k
      other p' k' e o' a c en l f = ru.2 e (let g = en.later in omega arith) l en.brings a (en.is_done ∙ ap (λ (n : ℕ). done n en.brings a) same)
        where
          same : p' ≡ p
          same = let b : ◌≡◌ {A = Event R} (ordered p' o') (ordered p o) = sym c ∙ ap event f ∙ ru.1 in cc
