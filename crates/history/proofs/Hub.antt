-- A hub on a shelf of the model: its calls as relations between its states, and its pasts.
use mathlib.Core.Path.{◌≡◌}
use mathlib.Core.Logic.{◌≢◌}
use mathlib.Core.List.{List, [], ◌∷◌, ◌++◌}
use mathlib.Core.Bool.{Bool, true, false}
use mathlib.Core.Option.{Option, none, some}
use Prim.Native.Nat.{ℕ, suc, ◌≤◌, ◌<◌}
use lib.ListN.{length, get_or}
use Rattle.history.specs.Board.{updated, Order, amendment, picture, listed}
use Rattle.shelf.specs.Meaning.{Link, vacant, holds, Operation, take, put, check}
use Rattle.shelf.specs.Calls.{reading_on}
use Rattle.history.proofs.Shelf.{Said, taken, stored, missed, live, broken, rests, awaits, Shelf, Starts, Turn}

-- what a running operation is at: taking link j, putting, or checking link j
pub data Stage : Type 0 where
  taking : ℕ → Stage
  putting : Stage
  checking : ℕ → Stage

-- a party's record: free, or an order with its stage
pub data Task : Type 0 where
  free : Task
  doing : Order → Stage → Task

pub record Hub (R : Type 0) : Type 0 where
  pub shelf : Shelf R
  pub task : ℕ → Task

pub record Plan : Type 0 where
  pub parties : ℕ
  pub links : ℕ
  pub channels : ℕ
  pub patience : ℕ
  pub some_links : 0 < links
  pub few : links ≤ 4
  pub some_parties : parties ≤ 24

-- what a call did: an accepted order; a turn answered "run" or "done" with the operation's answer, each with whether it
-- brought an amendment into force; a release; nothing, as a look or a refused call
pub data Event (R : Type 0) : Type 0 where
  ordered : ℕ → Order → Event R
  run : ℕ → Bool → Event R
  done : ℕ → Bool → List R → Event R
  released : ℕ → Event R
  nothing : Event R

-- an order that the plan allows: channels that there are, none listed twice, from one up to as many as there are links
pub record Allowed (plan : Plan) (o : Order) : Type 0 where
  pub some_listed : 0 < length (listed o)
  pub fit : length (listed o) ≤ plan.links
  pub there : (i : ℕ) → i < length (listed o) → get_or (listed o) i 0 < plan.channels
  pub once : (i j : ℕ) → i < j → j < length (listed o) → get_or (listed o) i 0 ≢ get_or (listed o) j 0

abbrev pub is_some : {A : Type 0} → Option A → Bool
is_some none = false
is_some (some a) = true

-- what a stage and the shelf's answer lead to: the next stage, or none where the operation is done
pub data Next : Order → Stage → Said → Option Stage → Type 0 where
  next_take : (o : Order) (j : ℕ) → suc j < length (listed o) → Next o (taking j) taken (some (taking (suc j)))
  next_put : (c w : ℕ) → Next (amendment c w) (taking 0) taken (some putting)
  next_check : (cs : List ℕ) (j : ℕ) → suc j ≡ length cs → Next (picture cs) (taking j) taken (some (checking 0))
  stored_done : (c w : ℕ) → Next (amendment c w) putting stored none
  missed_again : (c w : ℕ) → Next (amendment c w) putting missed (some (taking 0))
  live_next : (cs : List ℕ) (j : ℕ) → suc j < length cs → Next (picture cs) (checking j) live (some (checking (suc j)))
  live_done : (cs : List ℕ) (j : ℕ) → suc j ≡ length cs → Next (picture cs) (checking j) live none
  broken_again : (cs : List ℕ) (j : ℕ) → Next (picture cs) (checking j) broken (some (taking 0))

module _ {R : Type 0} where
  -- what looks show of the links from i up, one for each channel listed
  abbrev pub looks : R → (ℕ → Link R) → ℕ → List ℕ → List R
  looks blank links i [] = []
  looks blank links i (c ∷ cs) = reading_on blank (links i) ∷ looks blank links (suc i) cs

  -- the shelf operation that a stage asks for
  pub data Wants (amended : R → ℕ → R) (links : ℕ → Link R) : Order → Stage → Operation R → Type 0 where
    want_take : (o : Order) (j : ℕ) → Wants amended links o (taking j) (take j (get_or (listed o) j 0))
    want_put : (c w : ℕ) (d : ℕ) (r : R) (b : Bool) → links 0 ≡ holds d r b
        → Wants amended links (amendment c w) putting (put 0 (amended r w))
    want_check : (cs : List ℕ) (j : ℕ) → Wants amended links (picture cs) (checking j) (check j)

  -- the shelf when the hub's turn has started the next shelf operation, if none was running
  pub data Begun (amended : R → ℕ → R) (w : ℕ) (m : Shelf R) (p : ℕ) (o : Order) (s : Stage) : Shelf R → Type 0 where
    begun_before : m.job p ≢ rests → Begun amended w m p o s m
    begun_now : (a : Operation R) (n : ℕ) (links' : ℕ → ℕ → Link R) → m.job p ≡ rests → Wants amended (m.link p) o s a
        → Starts m.link p a links' → n ≤ w
        → Begun amended w m p o s (record { reading = m.reading; link = links'; job = updated m.job p (awaits a); left = updated m.left p n })

  -- all links of party p empty
  abbrev pub cleared : Shelf R → ℕ → Shelf R
  cleared m p = record { reading = m.reading; link = updated m.link p (λ i. vacant); job = m.job; left = m.left }

  -- one call, from a hub to a hub
  pub data Step (blank : R) (amended : R → ℕ → R) (plan : Plan) (h : Hub R) : Event R → Hub R → Type 0 where
    step_order : (p : ℕ) (o : Order) → p < plan.parties → h.task p ≡ free → Allowed plan o
        → Step blank amended plan h (ordered p o) (record { shelf = cleared h.shelf p; task = updated h.task p (doing o (taking 0)) })
    step_run : (p : ℕ) (o : Order) (s : Stage) (m n : Shelf R) (f : Option ℕ) → p < plan.parties → h.task p ≡ doing o s
        → Begun amended plan.patience h.shelf p o s m → Turn plan.patience m p f none n
        → Step blank amended plan h (run p (is_some f)) (record { shelf = n; task = h.task })
    step_next : (p : ℕ) (o : Order) (s s' : Stage) (m n : Shelf R) (f : Option ℕ) (said : Said) → p < plan.parties → h.task p ≡ doing o s
        → Begun amended plan.patience h.shelf p o s m → Turn plan.patience m p f (some said) n → Next o s said (some s')
        → Step blank amended plan h (run p (is_some f)) (record { shelf = n; task = updated h.task p (doing o s') })
    step_done : (p : ℕ) (o : Order) (s : Stage) (m n : Shelf R) (f : Option ℕ) (said : Said) → p < plan.parties → h.task p ≡ doing o s
        → Begun amended plan.patience h.shelf p o s m → Turn plan.patience m p f (some said) n → Next o s said none
        → Step blank amended plan h (done p (is_some f) (looks blank (n.link p) 0 (listed o)))
        (record { shelf = n; task = updated h.task p free })
    step_release : (p : ℕ) → p < plan.parties → h.task p ≡ free
        → Step blank amended plan h (released p) (record { shelf = cleared h.shelf p; task = h.task })
    step_nothing : Step blank amended plan h nothing h

  -- a hub just made on a fresh shelf
  pub record Fresh (blank : R) (plan : Plan) (h : Hub R) : Type 0 where
    pub blank_readings : (c : ℕ) → h.shelf.reading c ≡ blank
    pub empty_links : (p i : ℕ) → h.shelf.link p i ≡ vacant
    pub idle_jobs : (p : ℕ) → h.shelf.job p ≡ rests
    pub free_tasks : (p : ℕ) → h.task p ≡ free
    pub patient : (p : ℕ) → h.shelf.left p ≤ plan.patience

  -- a past: the calls since the making on a fresh shelf, oldest first, that led to the hub
  pub data Past (blank : R) (amended : R → ℕ → R) (plan : Plan) : List (Event R) → Hub R → Type 0 where
    made : (h : Hub R) → Fresh blank plan h → Past blank amended plan [] h
    after_that : {log : List (Event R)} {h : Hub R} (c : Event R) (h' : Hub R) → Past blank amended plan log h → Step blank amended plan h c h'
        → Past blank amended plan (log ++ (c ∷ [])) h'
