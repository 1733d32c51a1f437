-- What a past keeps: the line of operations so far, and each party's part in it.
use mathlib.Core.Path.{◌≡◌, refl, sym, ap, ◌∙◌, subst}
use mathlib.Core.List.{List, [], ◌∷◌}
use mathlib.Core.Bool.{Bool, true, false, cond}
use mathlib.Core.Logic.{◌≢◌, ◌⊎◌, inl, inr}
use Prim.Native.Nat.{ℕ, suc, ◌≤◌, ◌<◌}
use lib.Dec.{eqb}
use lib.ListN.{length, get_or}
use Rattle.history.specs.Board.{Order, amendment, picture, listed, Entry, StandsIn, Along}
use Rattle.history.proofs.Basics.{Plays}
use Rattle.shelf.specs.Meaning.{Link, vacant, holds, take, put, check, break_on}
use Rattle.history.proofs.Shelf.{Said, taken, stored, missed, live, broken, Job, rests, awaits, forced}
use Rattle.shelf.specs.Calls.{reading_on}
use Rattle.history.proofs.Hub.{taking, putting, checking, Task, free, doing, Event, ordered, done, looks}
use Rattle.history.proofs.Claim.{Ends, Before}

abbrev pub Busy : Task → Type 0
Busy free = ⊥
Busy (doing o s) = Unit {0}

-- a check says live or broken
abbrev pub CheckSaid : Said → Type 0
CheckSaid taken = ⊥
CheckSaid stored = ⊥
CheckSaid missed = ⊥
CheckSaid live = Unit {0}
CheckSaid broken = Unit {0}

module _ {R : Type 0} where
  -- no entry of the line is the operation k
  abbrev pub Absent : List (Entry R) → ℕ → Type 0
  Absent line k = (x : Entry R) → StandsIn x line → x.op ≢ k

  -- the links below j hold the listed channels
  abbrev pub Filled : (ℕ → Link R) → List ℕ → ℕ → Type 0
  Filled links cs j = (i : ℕ) → i < j → (r : R) × (b : Bool) × (links i ≡ holds (get_or cs i 0) r b)

  abbrev pub TakeJob : (ℕ → Link R) → List ℕ → ℕ → Job R → Type 0
  TakeJob links cs j rests = Unit {0}
  TakeJob links cs j (awaits a) = a ≡ take j (get_or cs j 0)
  TakeJob links cs j (forced a s) = (s ≡ taken) × Filled links cs (suc j)

  abbrev pub PutSaid : List (Entry R) → ℕ → Order → R → Said → Type 0
  PutSaid line k o r taken = ⊥
  PutSaid line k o r stored = StandsIn (record { op = k; order = o; answer = r ∷ [] }) line
  PutSaid line k o r missed = Absent line k
  PutSaid line k o r live = ⊥
  PutSaid line k o r broken = ⊥

  abbrev pub PutJob : (R → ℕ → R) → List (Entry R) → ℕ → ℕ → ℕ → R → Job R → Type 0
  PutJob amended line k c w r rests = Absent line k
  PutJob amended line k c w r (awaits a) = Absent line k × (a ≡ put 0 (amended r w))
  PutJob amended line k c w r (forced a s) = PutSaid line k (amendment c w) r s

  abbrev pub CheckJob : ℕ → Job R → Type 0
  CheckJob j rests = Unit {0}
  CheckJob j (awaits a) = a ≡ check j
  CheckJob j (forced a s) = CheckSaid s

  -- link i is not one that a check in force has found live
  abbrev pub Unpassed : ℕ → ℕ → Job R → Type 0
  Unpassed i j rests = Unit {0}
  Unpassed i j (awaits a) = Unit {0}
  Unpassed i j (forced a taken) = Unit {0}
  Unpassed i j (forced a stored) = Unit {0}
  Unpassed i j (forced a missed) = Unit {0}
  Unpassed i j (forced a live) = j < i
  Unpassed i j (forced a broken) = Unit {0}

  -- a link that is still to be checked is broken
  abbrev pub Doomed : (ℕ → Link R) → ℕ → ℕ → Job R → Type 0
  Doomed links j n job = (i : ℕ) × (j ≤ i) × (i < n) × Unpassed i j job × ((c : ℕ) × (r : R) × (links i ≡ holds c r false))

  -- the picture stands in the line with what its links show, or its pass will fail
  abbrev pub Standing : R → List (Entry R) → (ℕ → Link R) → ℕ → List ℕ → ℕ → Job R → Type 0
  Standing blank line links k cs j job =
      StandsIn (record { op = k; order = picture cs; answer = looks blank links 0 cs }) line
      ⊎ (Absent line k × Doomed links j (length cs) job)

  -- a party's part
  abbrev pub Party : R → (R → ℕ → R) → List (Entry R) → (ℕ → Link R) → ℕ → Job R → Task → Type 0
  Party blank amended line links k rests free = Unit {0}
  Party blank amended line links k (awaits a) free = ⊥
  Party blank amended line links k (forced a s) free = ⊥
  Party blank amended line links k job (doing o (taking j)) =
      Absent line k × (j < length (listed o)) × Filled links (listed o) j × TakeJob links (listed o) j job
  Party blank amended line links k job (doing (amendment c w) putting) =
      (r : R) × (b : Bool) × (links 0 ≡ holds c r b) × PutJob amended line k c w r job
  Party blank amended line links k job (doing (picture cs) putting) = ⊥
  Party blank amended line links k job (doing (amendment c w) (checking j)) = ⊥
  Party blank amended line links k job (doing (picture cs) (checking j)) =
      (j < length cs) × Filled links cs (length cs) × CheckJob j job × Standing blank line links k cs j job

  -- the state with its line
  pub record State (blank : R) (amended : R → ℕ → R) (line : List (Entry R)) (reading : ℕ → R) (link : ℕ → ℕ → Link R) (job : ℕ → Job R)
      (task : ℕ → Task) (cur : ℕ → ℕ) : Type 0 where
    pub played : Plays amended (λ c. blank) line reading
    pub true_links : (q i c : ℕ) (r : R) → link q i ≡ holds c r true → r ≡ reading c
    pub party : (q : ℕ) → Party blank amended line (link q) (cur q) (job q) (task q)

  -- the line with the past up to time t
  pub record Lined (event : ℕ → Event R) (t : ℕ) (line : List (Entry R)) : Type 0 where
    pub accepted : (x : Entry R) → StandsIn x line → (x.op < t) × ((p : ℕ) × (event x.op ≡ ordered p x.order))
    pub finished : (p k e : ℕ) (o : Order) (answer : List R) → event k ≡ ordered p o → Ends event p k e answer → e < t
        → StandsIn (record { op = k; order = o; answer = answer }) line
    pub in_turn : Along (Before event) line

  -- the running operation of party q is k, ordered before t and not ended
  abbrev pub Runs : (ℕ → Event R) → ℕ → ℕ → ℕ → Task → Type 0
  Runs event t q k free = Unit {0}
  Runs event t q k (doing o s) =
      (k < t) × (event k ≡ ordered q o) × ((u : ℕ) → k < u → u < t → (f : Bool) (a : List R) → event u ≢ done q f a)

  abbrev pub Ended : (ℕ → Event R) → ℕ → ℕ → ℕ → Type 0
  Ended event t q k = (e : ℕ) × (k < e) × (e < t) × ((f : Bool) × (a : List R) × (event e ≡ done q f a))

  pub record Clock (event : ℕ → Event R) (t : ℕ) (task : ℕ → Task) (cur : ℕ → ℕ) : Type 0 where
    pub running : (q : ℕ) → Runs event t q (cur q) (task q)
    pub known : (q k : ℕ) (o : Order) → k < t → event k ≡ ordered q o → Ended event t q k ⊎ ((k ≡ cur q) × Busy (task q))

  -- two lines with the same entries for the operation k
  pub record Alike (k : ℕ) (line line' : List (Entry R)) : Type 0 where
    pub to : (x : Entry R) → StandsIn x line → x.op ≡ k → StandsIn x line'
    pub from : (x : Entry R) → StandsIn x line' → x.op ≡ k → StandsIn x line

  absent_alike : (k : ℕ) (line line' : List (Entry R)) → Alike k line line' → Absent line k → Absent line' k
  absent_alike k line line' al h x m e = h x (al.from x m e) e

  -- a party's part looks only at its own operation's entries
  pub party_alike : (blank : R) (amended : R → ℕ → R) (line line' : List (Entry R)) (links : ℕ → Link R) (k : ℕ) (job : Job R) (task : Task)
      → Alike k line line' → Party blank amended line links k job task → Party blank amended line' links k job task
  party_alike blank amended line line' links k rests free al p = tt
  party_alike blank amended line line' links k (awaits a) free al p = p
  party_alike blank amended line line' links k (forced a s) free al p = p
  party_alike blank amended line line' links k job (doing o (taking j)) al p = (absent_alike k line line' al p.0, p.1, p.2, p.3)
  party_alike blank amended line line' links k job (doing (amendment c w) putting) al p = (p.0, p.1, p.2, go job p.3)
    where
      said : (s : Said) → PutSaid line k (amendment c w) p.0 s → PutSaid line' k (amendment c w) p.0 s
      said taken u = u
      said stored u = al.to _ u refl
      said missed u = absent_alike k line line' al u
      said live u = u
      said broken u = u

      go : (job : Job R) → PutJob amended line k c w p.0 job → PutJob amended line' k c w p.0 job
      go rests u = absent_alike k line line' al u
      go (awaits a) u = (absent_alike k line line' al u.0, u.1)
      go (forced a s) u = said s u
  party_alike blank amended line line' links k job (doing (picture cs) putting) al p = p
  party_alike blank amended line line' links k job (doing (amendment c w) (checking j)) al p = p
  party_alike blank amended line line' links k job (doing (picture cs) (checking j)) al p = (p.0, p.1, p.2, go p.3)
    where
      go : Standing blank line links k cs j job → Standing blank line' links k cs j job
      go (inl m) = inl (al.to _ m refl)
      go (inr d) = inr (absent_alike k line line' al d.0, d.1)

  break_held : (c d : ℕ) (r : R) (b : Bool) (l : Link R) → l ≡ holds d r b → (b' : Bool) × (break_on c l ≡ holds d r b')
  break_held c d r b l e = (cond (eqb d c) false b, ap (break_on c) e)

  break_broken : (c d : ℕ) (r : R) (l : Link R) → l ≡ holds d r false → break_on c l ≡ holds d r false
  break_broken c d r l e = ap (break_on c) e ∙ ap (holds d r) (go (eqb d c))
    where
      go : (t : Bool) → cond t false false ≡ false
      go true = refl
      go false = refl

  reading_break : (blank : R) (c : ℕ) (l : Link R) → reading_on blank (break_on c l) ≡ reading_on blank l
  reading_break blank c vacant = refl
  reading_break blank c (holds d r b) = refl

  pub looks_break : (blank : R) (c : ℕ) (links : ℕ → Link R) (i : ℕ) (cs : List ℕ)
      → looks blank (λ j. break_on c (links j)) i cs ≡ looks blank links i cs
  looks_break blank c links i [] = refl
  looks_break blank c links i (d ∷ cs) = cc (reading_break blank c (links i), looks_break blank c links (suc i) cs)

  filled_break : (c : ℕ) (links : ℕ → Link R) (cs : List ℕ) (n : ℕ) → Filled links cs n → Filled (λ j. break_on c (links j)) cs n
  filled_break c links cs n h i l =
      let u = h i l in
      let v = break_held c (get_or cs i 0) u.0 u.1 (links i) u.2 in
      (u.0, v.0, v.1)

  -- a party's part stands a break of links
  pub party_break : (blank : R) (amended : R → ℕ → R) (line : List (Entry R)) (c₀ : ℕ) (links : ℕ → Link R) (k : ℕ) (job : Job R) (task : Task)
      → Party blank amended line links k job task → Party blank amended line (λ j. break_on c₀ (links j)) k job task
  party_break blank amended line c₀ links k rests free p = tt
  party_break blank amended line c₀ links k (awaits a) free p = p
  party_break blank amended line c₀ links k (forced a s) free p = p
  party_break blank amended line c₀ links k job (doing o (taking j)) p = (p.0, p.1, filled_break c₀ links (listed o) j p.2, go job p.3)
    where
      go : (job : Job R) → TakeJob links (listed o) j job → TakeJob (λ i. break_on c₀ (links i)) (listed o) j job
      go rests u = u
      go (awaits a) u = u
      go (forced a s) u = (u.0, filled_break c₀ links (listed o) (suc j) u.1)
  party_break blank amended line c₀ links k job (doing (amendment c w) putting) p =
      let v = break_held c₀ c p.0 p.1 (links 0) p.2 in
      (p.0, v.0, v.1, p.3)
  party_break blank amended line c₀ links k job (doing (picture cs) putting) p = p
  party_break blank amended line c₀ links k job (doing (amendment c w) (checking j)) p = p
  party_break blank amended line c₀ links k job (doing (picture cs) (checking j)) p = (p.0, filled_break c₀ links cs (length cs) p.1, p.2, go p.3)
    where
      go : Standing blank line links k cs j job → Standing blank line (λ i. break_on c₀ (links i)) k cs j job
      go (inl m) =
          inl (subst (λ (a : List R). StandsIn (record { op = k; order = picture cs; answer = a }) line) (sym (looks_break blank c₀ links 0 cs)) m)
      go (inr d) =
          let b = d.1.4 in
          inr (d.0, (d.1.0, d.1.1, d.1.2, d.1.3, (b.0, b.1, break_broken c₀ b.0 b.1 (links d.1.0) b.2)))
