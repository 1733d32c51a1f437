-- Over every run from a fresh shelf, links are ideal.
use Rattle.std.proofs.Common.{◌≡◌, ℕ, zero, suc, ◌+◌, ◌-◌, ◌<◌, ◌≤◌, Bool, true, false, cond, not, ◌≢◌, ◌⊎◌, List, [], ◌∷◌, ◌++◌, length, get_or, take, set, replicate, sym, refl, ap, ◌∙◌, subst, inl, inr, ⊎_elim, arith, take-suc}
use Rattle.std.proofs.lemmas.List.{get_or-set_same, get_or-set_other, get_or_past}
use Rattle.std.proofs.lemmas.Bool.{cases_eq, cases_lt, lt-ltb, eq-eqb, ne_eqb, both_ways}
use Rattle.plan.specs.Refusals.{accepted}
use Rattle.plan.specs.Plans.{width}
use Rattle.plan.specs.declared.check.Plan.{Plan}
use Rattle.shelf.specs.declared.answer.Answer.{Answer}
use Rattle.shelf.specs.declared.answer.Answer.TheVariants as answers
use Rattle.shelf.specs.Meaning.{Own, Link, vacant, holds, Operation, take as take_op, put, check, Activity, idle, waits, in_force, Meaning, link_at, activity_of, does, linking, break_on, brought, Turned, Stores}
use Rattle.shelf.specs.Rules.{Rules, Fresh}
use Rattle.shelf.specs.Calls.{Call, Turn, Look, is_idle, tests_of, leaves, after, turn_answer}
use Rattle.shelf.proofs.Passing.{Passed, passes}
use Rattle.std.specs.List.{AllByRecursion}
use Rattle.shelf.specs.Laws.{after_all, caller_of, shown_by, state_at, call_at, ComesAt, StoresAt, NoneBetween, HeldSince, SinceTake, HasAnswer, IdealLinks}
use Rattle.shelf.proofs.Basics.{own_apart, own_below}
use Rattle.shelf.proofs.After.{sound_after}
use Rattle.shelf.proofs.Did.{Did, nothing, starts_take, starts_put, starts_check, drops, turns, did, same_plan}
use Rattle.shelf.proofs.Moves.{Moved, kept, broke, came, turn_moves, turn_other, still_waits, stores_break, takes_link, Rewritten, same_reading, stored_reading, turn_rewrites, stores_reading, forced_answers, put_forced, check_forced, put_verdict, check_verdict}

module _ {R : Type 0} (rules : Rules R) where
  abbrev empty_link : Link R
  empty_link = vacant

  -- the link of a waiting take is the party's own, and empty
  abbrev Tidy : rules.State → Type 0
  Tidy s = (p j c : ℕ) → activity_of (rules.means s) p ≡ waits (take_op j c) → (p < (rules.plan s).parties) × Own (rules.plan s) p j × (link_at (rules.means s) j ≡ vacant)

  waits_not_idle : (o : Operation R) → ◌≡◌ {A = Activity R} (waits o) idle → ⊥
  waits_not_idle o q = let z : ◌≡◌ {A = ℕ} 0 1 = cc in omega arith

  take_not_put : (j c i : ℕ) (r : R) → waits (put i r) ≡ waits (take_op j c) → ⊥
  take_not_put j c i r q = let z : ◌≡◌ {A = ℕ} 0 1 = cc in omega arith

  take_not_check : (j c i : ℕ) → ◌≡◌ {A = Activity R} (waits (check i)) (waits (take_op j c)) → ⊥
  take_not_check j c i q = let z : ◌≡◌ {A = ℕ} 0 1 = cc in omega arith

  same_link : (i j c e : ℕ) → ◌≡◌ {A = Activity R} (waits (take_op i c)) (waits (take_op j e)) → i ≡ j
  same_link i j c e q = cc

  set_vacant : (xs : List (Link R)) (n : ℕ) → get_or (set xs n vacant) n vacant ≡ vacant
  set_vacant [] n = refl
  set_vacant (x ∷ xs) zero = refl
  set_vacant (x ∷ xs) (suc n) = set_vacant xs n

  -- an empty link stays so where a link is emptied
  stays_vacant : (ls : List (Link R)) (j i : ℕ) → get_or ls i vacant ≡ vacant → get_or (set ls j vacant) i vacant ≡ vacant
  stays_vacant ls j i e = ⊎_elim
      (λ (q : i ≡ j). at_same q) (λ (n : i ≡ j → ⊥). get_or-set_other ls j i vacant vacant n ∙ e) (cases_eq i j)
    where
      at_same : i ≡ j → get_or (set ls j vacant) i vacant ≡ vacant
      at_same q = ap (λ (x : ℕ). get_or (set ls j vacant) x vacant) q ∙ set_vacant ls j

  module _ (s : rules.State) (ok : rules.sound s) (tidy : Tidy s) where
    abbrev m : Meaning R
    m = rules.means s

    acts_long : (p : ℕ) → p < (rules.plan s).parties → p < length m.activities
    acts_long p h = omega (arith, (rules.sizes s ok).activities)

    -- the three facts of a waiting take
    abbrev Tidied : Meaning R → ℕ → ℕ → Type 0
    Tidied m' q i = (q < (rules.plan s).parties) × Own (rules.plan s) q i × (link_at m' i ≡ vacant)

    take_tidy : (p j c : ℕ) → p < (rules.plan s).parties → Own (rules.plan s) p j → (q i e : ℕ)
        → activity_of (does (linking m j vacant) p (waits (take_op j c))) q ≡ waits (take_op i e) → Tidied (does (linking m j vacant) p (waits (take_op j c))) q i
    take_tidy p j c h own q i e w = ⊎_elim same other (cases_eq q p)
      where
        same : q ≡ p → Tidied (does (linking m j vacant) p (waits (take_op j c))) q i
        same z =
            let is : waits (take_op j c) ≡ waits (take_op i e) =
            sym (get_or-set_same m.activities p (waits (take_op j c)) idle (acts_long p h)) ∙ (ap (λ (x : ℕ). get_or (set m.activities p (waits (take_op j c))) x idle) (sym z) ∙ w) in
            let l : i ≡ j = sym (same_link j i c e is) in (
              subst (λ (x : ℕ). x < (rules.plan s).parties) (sym z) h,
              subst (λ (x : ℕ). Own (rules.plan s) x i) (sym z) (subst (λ (x : ℕ). Own (rules.plan s) p x) (sym l) own),
              ap (λ (x : ℕ). get_or (set m.links j vacant) x vacant) l ∙ get_or-set_same m.links j vacant vacant (omega (arith, (rules.sizes s ok).links, own_below (rules.plan s) p j h own)),
            )

        other : (q ≡ p → ⊥) → Tidied (does (linking m j vacant) p (waits (take_op j c))) q i
        other n =
            let t = tidy q i e (sym (get_or-set_other m.activities p q (waits (take_op j c)) idle n) ∙ w) in
            (t.0, t.1, stays_vacant m.links j i t.2)

    -- a start of another operation
    start_tidy : (p : ℕ) (o : Operation R) → p < (rules.plan s).parties → ((i e : ℕ) → waits o ≡ waits (take_op i e) → ⊥) → (q i e : ℕ)
        → activity_of (does m p (waits o)) q ≡ waits (take_op i e) → Tidied (does m p (waits o)) q i
    start_tidy p o h not_take q i e w = ⊎_elim
        (λ (z : q ≡ p). absurd (not_take i e (sym (get_or-set_same m.activities p (waits o) idle (acts_long p h)) ∙ (ap (λ (x : ℕ). get_or (set m.activities p (waits o)) x idle) (sym z) ∙ w))))
        (λ (n : q ≡ p → ⊥). tidy q i e (sym (get_or-set_other m.activities p q (waits o) idle n) ∙ w)) (cases_eq q p)

    drop_tidy : (j q i e : ℕ) → activity_of (linking m j vacant) q ≡ waits (take_op i e) → Tidied (linking m j vacant) q i
    drop_tidy j q i e w = let t = tidy q i e w in (t.0, t.1, stays_vacant m.links j i t.2)

    turn_tidy : (p : ℕ) → p < (rules.plan s).parties → (a : Answer) (m' : Meaning R) → Turned rules.blank m p a m' → (q i e : ℕ)
        → activity_of m' q ≡ waits (take_op i e) → Tidied m' q i
    turn_tidy p h a m' t q i e w = ⊎_elim same other (cases_eq q p)
      where
        same : q ≡ p → Tidied m' q i
        same z =
            let y = still_waits rules.blank m p (acts_long p h) a m' (take_op i e) t (ap (activity_of m') (sym z) ∙ w) in
            let k = tidy q i e (ap (activity_of m) z ∙ y.waited) in
            (k.0, k.1, y.links i ∙ k.2)

        other : (q ≡ p → ⊥) → Tidied m' q i
        other n =
            let k = tidy q i e (sym (turn_other rules.blank m p (acts_long p h) q n a m' t) ∙ w) in
            (k.0, k.1, by_move k (turn_moves rules.blank m p (acts_long p h) a m' i t))
          where
            by_move : (q < (rules.plan s).parties) × Own (rules.plan s) q i × (link_at m i ≡ vacant) → Moved rules.blank m p (acts_long p h) m' i → link_at m' i ≡ vacant
            by_move k (kept f) = f ∙ k.2
            by_move k (broke c b f) = f ∙ ap (break_on c) k.2
            by_move k (came c f) = absurd (own_apart (rules.plan s) q p i k.1 (tidy p i c f).1 n)

    pub tidy_after : (k : Call R) → Tidy (after rules s k)
    tidy_after k p j c w =
        let t = by_did (did rules s ok k) p j c w in
        (subst (λ (x : Plan). p < x.parties) (sym (same_plan rules s ok k)) t.0, subst (λ (x : Plan). Own x p j) (sym (same_plan rules s ok k)) t.1, t.2)
      where
        over : (m' : Meaning R) → rules.means (after rules s k) ≡ m' → ((q i e : ℕ) → activity_of m' q ≡ waits (take_op i e) → Tidied m' q i)
            → (q i e : ℕ) → activity_of (rules.means (after rules s k)) q ≡ waits (take_op i e) → Tidied (rules.means (after rules s k)) q i
        over m' e f = subst (λ (x : Meaning R). (q i e : ℕ) → activity_of x q ≡ waits (take_op i e) → Tidied x q i) (sym e) f

        by_did : Did rules s k → (q i e : ℕ) → activity_of (rules.means (after rules s k)) q ≡ waits (take_op i e) → Tidied (rules.means (after rules s k)) q i
        by_did (nothing e) = over m (ap rules.means e) tidy
        by_did (starts_take p j c b) = over _ b.meant (take_tidy p j c b.known b.own)
        by_did (starts_put p j r b) = over _ b.meant (start_tidy p (put j r) b.known (λ i e z. take_not_put i e j r z))
        by_did (starts_check p j b) = over _ b.meant (start_tidy p (check j) b.known (λ i e z. take_not_check i e j z))
        by_did (drops p j b) = over _ b.meant (drop_tidy j)
        by_did (turns p e h n q) = over _ (ap rules.means q) (turn_tidy p h (rules.answer s p) (rules.means (rules.turned s p)) (rules.turns s p ok h n).3)

  -- ** runs

  after_push : (s : rules.State) (ks : List (Call R)) (k : Call R) → after_all rules s (ks ++ (k ∷ [])) ≡ after rules (after_all rules s ks) k
  after_push s [] k = refl
  after_push s (x ∷ ks) k = after_push (after rules s x) ks k

  all_same : (x : Activity R) (n p : ℕ) → get_or (replicate n x) p x ≡ x
  all_same x zero p = refl
  all_same x (suc n) zero = refl
  all_same x (suc n) (suc p) = all_same x n p

  fresh_tidy : (s : rules.State) → Fresh rules s → Tidy s
  fresh_tidy s f p j c w =
      absurd (waits_not_idle (take_op j c) (sym w ∙ (ap (λ (x : Meaning R). activity_of x p) f.is_blank ∙ all_same idle (rules.plan s).parties p)))

  pub record Good (plan : Plan) (s : rules.State) : Type 0 where
    pub is_sound : rules.sound s
    pub is_tidy : Tidy s
    pub same : rules.plan s ≡ plan

  good_all : (plan : Plan) (s : rules.State) → Good plan s → (ks : List (Call R)) → Good plan (after_all rules s ks)
  good_all plan s g [] = g
  good_all plan s g (k ∷ ks) =
      good_all plan (after rules s k)
      (record { is_sound = sound_after rules s g.is_sound k; is_tidy = tidy_after s g.is_sound g.is_tidy k; same = same_plan rules s g.is_sound k ∙ g.same }) ks

  module _ (start : rules.State) (fresh : Fresh rules start) (calls : List (Call R)) where
    abbrev at : ℕ → rules.State
    at t = state_at rules start calls t

    good : (t : ℕ) → Good (rules.plan start) (at t)
    good t = good_all (rules.plan start) start (record { is_sound = fresh.is_sound; is_tidy = fresh_tidy start fresh; same = refl }) (take t calls)

    next : (t : ℕ) → t < length calls → at (suc t) ≡ after rules (at t) (call_at rules start calls t)
    next t h = ap (after_all rules start) (take-suc calls t (Look 0 0) h) ∙ after_push start (take t calls) (call_at rules start calls t)

    -- the turn of a busy party that is call t
    pub record TurnsAt (t p : ℕ) : Type 0 where
      pub known : p < (rules.plan (at t)).parties
      pub long : p < length (rules.means (at t)).activities
      pub turned : Turned rules.blank (rules.means (at t)) p (rules.answer (at t) p) (rules.means (at (suc t)))
      pub answered : turn_answer rules (at t) p ≡ accepted (rules.answer (at t) p)

    turn_same : (p q : ℕ) → ◌≡◌ {A = Call R} (Turn p) (Turn q) → p ≡ q
    turn_same p q e = cc

    -- the turn of a busy party
    turned_at : (t p : ℕ) → t < length calls → p < (rules.plan (at t)).parties → activity_of (rules.means (at t)) p ≢ idle → after rules (at t) (call_at rules start calls t) ≡ rules.turned (at t) p
        → Turned rules.blank (rules.means (at t)) p (rules.answer (at t) p) (rules.means (at (suc t)))
    turned_at t p h known n e =
        subst (λ (y : rules.State). Turned rules.blank (rules.means (at t)) p (rules.answer (at t) p) (rules.means y)) (sym (next t h ∙ e)) (rules.turns (at t) p (good t).is_sound known n).3

    busy_known : (t p : ℕ) (o : Operation R) → activity_of (rules.means (at t)) p ≡ waits o → p < (rules.plan (at t)).parties
    busy_known t p o w = ⊎_elim (λ (h : p < (rules.plan (at t)).parties). h)
        (λ (h : (rules.plan (at t)).parties ≤ p). absurd (waits_not_idle o (sym w ∙ get_or_past (rules.means (at t)).activities p idle (omega (arith, (rules.sizes (at t) (good t).is_sound).activities)))))
        (cases_lt p (rules.plan (at t)).parties)

    turns_at : (t p : ℕ) (o : Operation R) → t < length calls → call_at rules start calls t ≡ Turn p → activity_of (rules.means (at t)) p ≡ waits o → TurnsAt t p
    turns_at t p o h e w =
        let s : rules.State = at t in
        let ok = (good t).is_sound in
        let known = busy_known t p o w in
        let n : activity_of (rules.means s) p ≢ idle = λ z. waits_not_idle o (sym w ∙ z) in
        let passed : AllByRecursion Passed (tests_of (rules.plan s) (rules.means s) (Turn p)) =
        (lt-ltb p (rules.plan s).parties known, (ap (λ (x : Activity R). not (is_idle x)) w, tt)) in
        let went : at (suc t) ≡ rules.turned s p =
        next t h ∙ (ap (after rules s) e ∙ ap (leaves s) (passes (tests_of (rules.plan s) (rules.means s) (Turn p)) (rules.turned s p) passed)) in
        record {
          known = known;
          long = omega (arith, known, (rules.sizes s ok).activities);
          turned = subst (λ (x : rules.State). Turned rules.blank (rules.means s) p (rules.answer s p) (rules.means x)) (sym went) (rules.turns s p ok known n).3;
          answered = passes (tests_of (rules.plan s) (rules.means s) (Turn p)) (rules.answer s p) passed;
        }

    -- a take that comes into force
    taken_link : (t p j c : ℕ) → ComesAt rules start calls t p (take_op j c) → link_at (rules.means (at (suc t))) j ≡ holds c (get_or (rules.means (at t)).readings c rules.blank) true
    taken_link t p j c x =
        let w = x.comes.waited in
        let y = turns_at t p (take_op j c) x.in_past x.is_turn w in
        let own = ((good t).is_tidy p j c w).1 in
        takes_link rules.blank (rules.means (at t)) p y.long (rules.answer (at t) p) (rules.means (at (suc t))) j c
        (omega (arith, (rules.sizes (at t) (good t).is_sound).links, own_below (rules.plan (at t)) p j y.known own)) y.turned x.comes

    -- a put on the channel breaks the link
    stored_link : (u c : ℕ) → StoresAt rules start calls u c → (j : ℕ) → link_at (rules.means (at (suc u))) j ≡ break_on c (link_at (rules.means (at u)) j)
    stored_link u c x j =
        let y = turns_at u x.party (put x.stores.link x.stores.reading) x.in_past x.is_turn x.stores.comes.waited in
        stores_break rules.blank (rules.means (at u)) x.party y.long (rules.answer (at u) x.party) (rules.means (at (suc u))) c y.turned x.stores j

    break_here : (c : ℕ) (x : R) (live : Bool) → break_on c (holds c x live) ≡ holds c x false
    break_here c x live = ap (λ (b : Bool). holds c x (cond b false live)) (eq-eqb c c refl)

    break_there : (e c : ℕ) (x : R) (live : Bool) → (c ≡ e → ⊥) → break_on e (holds c x live) ≡ holds c x live
    break_there e c x live n = ap (λ (b : Bool). holds c x (cond b false live)) (ne_eqb c e n)

    vacant_not : (c : ℕ) (x : R) (live : Bool) → vacant ≡ holds c x live → ⊥
    vacant_not c x live q = let z : ◌≡◌ {A = ℕ} 0 1 = cc in omega arith

    -- one call on: a link that is held stays as it is, or a put on its channel breaks it
    pub data Onward (u j c : ℕ) (x : R) (live : Bool) : Type 0 where
      stays_so : link_at (rules.means (at (suc u))) j ≡ holds c x live → Onward u j c x live
      breaks : StoresAt rules start calls u c → link_at (rules.means (at (suc u))) j ≡ holds c x false → Onward u j c x live

    module _ (u j c : ℕ) (x : R) (live : Bool) (h : u < length calls) (l : link_at (rules.means (at u)) j ≡ holds c x live) (full : link_at (rules.means (at (suc u))) j ≢ vacant) where
      abbrev k : Call R
      k = call_at rules start calls u

      -- the link in the meaning that the call leaves
      went : (m' : Meaning R) → rules.means (after rules (at u) k) ≡ m' → link_at (rules.means (at (suc u))) j ≡ link_at m' j
      went m' e = ap (λ (y : rules.State). link_at (rules.means y) j) (next u h) ∙ ap (λ (y : Meaning R). link_at y j) e

      emptied : (i : ℕ) (acts : List (Activity R)) → rules.means (after rules (at u) k) ≡ record { readings = (rules.means (at u)).readings; links = set (rules.means (at u)).links i vacant; activities = acts } → Onward u j c x live
      emptied i acts e = ⊎_elim
          (λ (q : j ≡ i). absurd (full (went _ e ∙ (ap (λ (y : ℕ). get_or (set (rules.means (at u)).links i vacant) y vacant) q ∙ set_vacant (rules.means (at u)).links i))))
          (λ (n : j ≡ i → ⊥). stays_so (went _ e ∙ (get_or-set_other (rules.means (at u)).links i j vacant vacant n ∙ l))) (cases_eq j i)

      stored_here : (p e : ℕ) → k ≡ Turn p → Stores (rules.means (at u)) (rules.means (at (suc u))) p e → link_at (rules.means (at (suc u))) j ≡ break_on e (link_at (rules.means (at u)) j) → Onward u j c x live
      stored_here p e is st f = ⊎_elim
          (λ (q : c ≡ e). breaks (record { in_past = h; party = p; is_turn = is; stores = subst (λ (y : ℕ). Stores (rules.means (at u)) (rules.means (at (suc u))) p y) (sym q) st })
          (f ∙ (ap (break_on e) l ∙ (ap (λ (y : ℕ). break_on y (holds c x live)) (sym q) ∙ break_here c x live))))
          (λ (n : c ≡ e → ⊥). stays_so (f ∙ (ap (break_on e) l ∙ break_there e c x live n))) (cases_eq c e)

      turned_on : (p : ℕ) → k ≡ Turn p → p < (rules.plan (at u)).parties → activity_of (rules.means (at u)) p ≢ idle → after rules (at u) k ≡ rules.turned (at u) p → Onward u j c x live
      turned_on p is known n e =
          let s : rules.State = at u in
          let ok = (good u).is_sound in
          let long : p < length (rules.means s).activities = omega (arith, known, (rules.sizes s ok).activities) in
          let t : Turned rules.blank (rules.means s) p (rules.answer s p) (rules.means (at (suc u))) =
          subst (λ (y : rules.State). Turned rules.blank (rules.means s) p (rules.answer s p) (rules.means y)) (sym (next u h ∙ e)) (rules.turns s p ok known n).3 in
          by_move long (turn_moves rules.blank (rules.means s) p long (rules.answer s p) (rules.means (at (suc u))) j t)
        where
          by_move : (long : p < length (rules.means (at u)).activities) → Moved rules.blank (rules.means (at u)) p long (rules.means (at (suc u))) j → Onward u j c x live
          by_move long (kept f) = stays_so (f ∙ l)
          by_move long (broke e st f) = stored_here p e is st f
          by_move long (came e w) = absurd (vacant_not c x live (sym ((good u).is_tidy p j e w).2 ∙ l))

      pub onward : Onward u j c x live
      onward = by_did (did rules (at u) (good u).is_sound k)
        where
          by_did : Did rules (at u) k → Onward u j c x live
          by_did (nothing e) = stays_so (went _ (ap rules.means e) ∙ l)
          by_did (starts_take p i e b) = emptied i _ b.meant
          by_did (starts_put p i r b) = stays_so (went _ b.meant ∙ l)
          by_did (starts_check p i b) = stays_so (went _ b.meant ∙ l)
          by_did (drops p i b) = emptied i _ b.meant
          by_did (turns p is known n e) = turned_on p is known n e

    live_same : (c e : ℕ) (x y : R) (t u : Bool) → holds c x t ≡ holds e y u → t ≡ u
    live_same c e x y t u q = cc

    -- a held link since its take
    since : (t p j c : ℕ) → ComesAt rules start calls t p (take_op j c) → (n u : ℕ) → u ≡ suc t + n → u ≤ length calls → HeldSince rules start calls t u j → SinceTake rules start calls t u j c
    since t p j c x zero u e h held =
        let is : u ≡ suc t = omega arith in
        record {
          live = true;
          shows = ap (λ (v : ℕ). link_at (rules.means (at v)) j) is ∙ taken_link t p j c x;
          live_if_none = λ none. refl;
          none_if_live = λ q v a b s. absurd (let z : ⊥ = omega (arith, is) in z);
        }
    since t p j c x (suc n) u e h held =
        let v : ℕ = suc t + n in
        let is : u ≡ suc v = omega arith in
        let before = since t p j c x n v refl (omega arith) (λ w a b. held w a (omega arith)) in
        let in_past : v < length calls = omega arith in
        let full : link_at (rules.means (at (suc v))) j ≢ vacant = λ z. held u (omega arith) (omega arith) (ap (λ (w : ℕ). link_at (rules.means (at w)) j) is ∙ z) in
        subst (λ (w : ℕ). SinceTake rules start calls t w j c) (sym is)
        (further t v j c (omega arith) before (onward v j c (get_or (rules.means (at t)).readings c rules.blank) before.live in_past before.shows full))
      where
        further : (t v j c : ℕ) → t < v → (before : SinceTake rules start calls t v j c) → Onward v j c (get_or (rules.means (at t)).readings c rules.blank) before.live → SinceTake rules start calls t (suc v) j c
        further t v j c a before (stays_so l) = record {
          live = before.live;
          shows = l;
          live_if_none = λ none. before.live_if_none (λ w b d s. none w b (omega arith) s);
          none_if_live = λ q w b d s. ⊎_elim
              (λ (z : w ≡ v). both_ways before.live
              (live_same c c _ _ before.live false (sym l ∙ (stored_link v c (subst (λ (y : ℕ). StoresAt rules start calls y c) z s) j ∙ (ap (break_on c) before.shows ∙ break_here c _ before.live)))) q)
              (λ (z : w ≡ v → ⊥). before.none_if_live q w b (omega arith) s) (cases_eq w v);
        }
        further t v j c a before (breaks s l) = record {
          live = false;
          shows = l;
          live_if_none = λ none. absurd (none v a (omega arith) s);
          none_if_live = λ q. absurd (both_ways false refl q);
        }

    linked : (t u p j c : ℕ) → ComesAt rules start calls t p (take_op j c) → t < u → u ≤ length calls → HeldSince rules start calls t u j → SinceTake rules start calls t u j c
    linked t u p j c x a b held = since t p j c x (u - suc t) u (omega arith) b held

    stored_live : (live : Bool) → put_verdict live ≡ answers.Stored → live ≡ true
    stored_live true e = refl
    stored_live false e = let z : ◌≡◌ {A = ℕ} 0 1 = cc in absurd (omega arith)

    checked_live : (live : Bool) → check_verdict live ≡ answers.Live → live ≡ true
    checked_live true e = refl
    checked_live false e = let z : ◌≡◌ {A = ℕ} 0 1 = cc in absurd (omega arith)

    put_either : (live : Bool) → (put_verdict live ≡ answers.Stored) ⊎ (put_verdict live ≡ answers.Missed)
    put_either true = inl refl
    put_either false = inr refl

    check_either : (live : Bool) → (check_verdict live ≡ answers.Live) ⊎ (check_verdict live ≡ answers.Broken)
    check_either true = inl refl
    check_either false = inr refl

    same_answer : (a b : Answer) → accepted a ≡ accepted b → a ≡ b
    same_answer a b e = cc

    -- the answer of an operation in force, where it is known what it is in force with
    answer_is : (u q : ℕ) (o : Operation R) (v a : Answer) → ComesAt rules start calls u q o → HasAnswer rules start calls u q a
        → activity_of (brought rules.blank (rules.means (at u)) q o) q ≡ in_force v → a ≡ v
    answer_is u q o v a y w f =
        let z = turns_at u q o y.in_past y.is_turn y.comes.waited in
        forced_answers rules.blank (rules.means (at u)) q z.long (rules.answer (at u) q) (rules.means (at (suc u))) o v f z.turned y.comes a
        (⊎_elim (λ (g : activity_of (rules.means (at (suc u))) q ≡ in_force a). inl g)
        (λ (g : (activity_of (rules.means (at (suc u))) q ≡ idle) × (turn_answer rules (at u) q ≡ accepted a)). inr (g.0, same_answer (rules.answer (at u) q) a (sym z.answered ∙ g.1))) w)

    put_law : (t u p q j c : ℕ) (r : R) (a : Answer) → ComesAt rules start calls t p (take_op j c) → t < u → HeldSince rules start calls t u j → ComesAt rules start calls u q (put j r) → HasAnswer rules start calls u q a
        → (NoneBetween rules start calls t u c → a ≡ answers.Stored) × (a ≡ answers.Stored → NoneBetween rules start calls t u c) × ((a ≡ answers.Stored) ⊎ (a ≡ answers.Missed))
    put_law t u p q j c r a x h held y w =
        let k = linked t u p j c x h (omega (arith, y.in_past)) held in
        let z = turns_at u q (put j r) y.in_past y.is_turn y.comes.waited in
        let is : a ≡ put_verdict k.live = answer_is u q (put j r) (put_verdict k.live) a y w (put_forced rules.blank (rules.means (at u)) q z.long j r c _ k.live k.shows) in (
          λ none. is ∙ ap put_verdict (k.live_if_none none),
          λ e. k.none_if_live (stored_live k.live (sym is ∙ e)),
          ⊎_elim (λ (e : put_verdict k.live ≡ answers.Stored). inl (is ∙ e)) (λ (e : put_verdict k.live ≡ answers.Missed). inr (is ∙ e)) (put_either k.live),
        )

    check_law : (t u p q j c : ℕ) (a : Answer) → ComesAt rules start calls t p (take_op j c) → t < u → HeldSince rules start calls t u j → ComesAt rules start calls u q (check j) → HasAnswer rules start calls u q a
        → (NoneBetween rules start calls t u c → a ≡ answers.Live) × (a ≡ answers.Live → NoneBetween rules start calls t u c) × ((a ≡ answers.Live) ⊎ (a ≡ answers.Broken))
    check_law t u p q j c a x h held y w =
        let k = linked t u p j c x h (omega (arith, y.in_past)) held in
        let z = turns_at u q (check j) y.in_past y.is_turn y.comes.waited in
        let is : a ≡ check_verdict k.live = answer_is u q (check j) (check_verdict k.live) a y w (check_forced rules.blank (rules.means (at u)) q z.long j c _ k.live k.shows) in (
          λ none. is ∙ ap check_verdict (k.live_if_none none),
          λ e. k.none_if_live (checked_live k.live (sym is ∙ e)),
          ⊎_elim (λ (e : check_verdict k.live ≡ answers.Live). inl (is ∙ e)) (λ (e : check_verdict k.live ≡ answers.Broken). inr (is ∙ e)) (check_either k.live),
        )

    broken_law : (t v u p j c : ℕ) → ComesAt rules start calls t p (take_op j c) → t < v → v < u → u ≤ length calls → StoresAt rules start calls v c → HeldSince rules start calls t u j
        → (x : R) × (link_at (rules.means (at u)) j ≡ holds c x false)
    broken_law t v u p j c x a b h s held =
        let k = linked t u p j c x (omega arith) h held in
        by_live k.live k.shows (λ q. k.none_if_live q v a b s)
      where
        by_live : (live : Bool) → link_at (rules.means (at u)) j ≡ holds c (get_or (rules.means (at t)).readings c rules.blank) live → (live ≡ true → ⊥) → (x : R) × (link_at (rules.means (at u)) j ≡ holds c x false)
        by_live true l n = absurd (n refl)
        by_live false l n = (get_or (rules.means (at t)).readings c rules.blank, l)

    -- ** readings

    unchanged_law : (t c : ℕ) → t < length calls → (StoresAt rules start calls t c → ⊥)
        → get_or (rules.means (at (suc t))).readings c rules.blank ≡ get_or (rules.means (at t)).readings c rules.blank
    unchanged_law t c h none = by_did (did rules (at t) (good t).is_sound (call_at rules start calls t))
      where
        over : (m' : Meaning R) → rules.means (after rules (at t) (call_at rules start calls t)) ≡ m' → get_or m'.readings c rules.blank ≡ get_or (rules.means (at t)).readings c rules.blank
            → get_or (rules.means (at (suc t))).readings c rules.blank ≡ get_or (rules.means (at t)).readings c rules.blank
        over m' e q = ap (λ (y : rules.State). get_or (rules.means y).readings c rules.blank) (next t h) ∙ (ap (λ (y : Meaning R). get_or y.readings c rules.blank) e ∙ q)

        by_turn : (p : ℕ) → call_at rules start calls t ≡ Turn p → (long : p < length (rules.means (at t)).activities) → Rewritten rules.blank (rules.means (at t)) p long (rules.means (at (suc t))) c
            → get_or (rules.means (at (suc t))).readings c rules.blank ≡ get_or (rules.means (at t)).readings c rules.blank
        by_turn p is long (same_reading f) = f
        by_turn p is long (stored_reading st) = absurd (none (record { in_past = h; party = p; is_turn = is; stores = st }))

        by_did : Did rules (at t) (call_at rules start calls t) → get_or (rules.means (at (suc t))).readings c rules.blank ≡ get_or (rules.means (at t)).readings c rules.blank
        by_did (nothing e) = over (rules.means (at t)) (ap rules.means e) refl
        by_did (starts_take p i x b) = over _ b.meant refl
        by_did (starts_put p i r b) = over _ b.meant refl
        by_did (starts_check p i b) = over _ b.meant refl
        by_did (drops p i b) = over _ b.meant refl
        by_did (turns p is known n e) =
            let long : p < length (rules.means (at t)).activities = omega (arith, known, (rules.sizes (at t) (good t).is_sound).activities) in
            by_turn p is long (turn_rewrites rules.blank (rules.means (at t)) p long (rules.answer (at t) p) (rules.means (at (suc t))) c (turned_at t p h known n e))

    changed_law : (t c : ℕ) → c < (rules.plan start).channels → (x : StoresAt rules start calls t c) → get_or (rules.means (at (suc t))).readings c rules.blank ≡ x.stores.reading
    changed_law t c h x =
        let y = turns_at t x.party (put x.stores.link x.stores.reading) x.in_past x.is_turn x.stores.comes.waited in
        stores_reading rules.blank (rules.means (at t)) x.party y.long (rules.answer (at t) x.party) (rules.means (at (suc t))) c y.turned x.stores
        (omega (arith, (rules.sizes (at t) (good t).is_sound).readings, ap (λ (pl : Plan). pl.channels) (good t).same))

    -- ** where a held link comes from

    pub record From (u j : ℕ) : Type 0 where
      pub when : ℕ
      pub who : ℕ
      pub which : ℕ
      pub comes : ComesAt rules start calls when who (take_op j which)
      pub before : when < u
      pub held : HeldSince rules start calls when u j

    -- a link that is not empty now and was before is held on
    held_on : (u j : ℕ) → From u j → link_at (rules.means (at (suc u))) j ≢ vacant → From (suc u) j
    held_on u j f n = record {
      when = f.when;
      who = f.who;
      which = f.which;
      comes = f.comes;
      before = omega (arith, f.before);
      held = λ v a b z. ⊎_elim
          (λ (e : v ≡ suc u). n (ap (λ (w : ℕ). link_at (rules.means (at w)) j) (sym e) ∙ z))
          (λ (e : v ≡ suc u → ⊥). f.held v a (omega arith) z) (cases_eq v (suc u));
    }

    -- a link that was empty before the call and is not now was taken in it
    new_link : (u j : ℕ) → u < length calls → link_at (rules.means (at u)) j ≡ vacant → link_at (rules.means (at (suc u))) j ≢ vacant → From (suc u) j
    new_link u j h l full = by_did (did rules (at u) (good u).is_sound (call_at rules start calls u))
      where
        still : (m' : Meaning R) → rules.means (after rules (at u) (call_at rules start calls u)) ≡ m' → link_at m' j ≡ vacant → From (suc u) j
        still m' e q = absurd (full (ap (λ (y : rules.State). link_at (rules.means y) j) (next u h) ∙ (ap (λ (y : Meaning R). link_at y j) e ∙ q)))

        by_move : (p : ℕ) → call_at rules start calls u ≡ Turn p → (long : p < length (rules.means (at u)).activities) → Turned rules.blank (rules.means (at u)) p (rules.answer (at u) p) (rules.means (at (suc u)))
            → Moved rules.blank (rules.means (at u)) p long (rules.means (at (suc u))) j → From (suc u) j
        by_move p is long t (kept f) = absurd (full (f ∙ l))
        by_move p is long t (broke c st f) = absurd (full (f ∙ ap (break_on c) l))
        by_move p is long t (came c w) = record {
          when = u;
          who = p;
          which = c;
          comes = record {
            in_past = h;
            is_turn = is;
            comes = record {
              waited = w;
              waits_no_more = λ z. full ((still_waits rules.blank (rules.means (at u)) p long (rules.answer (at u) p) (rules.means (at (suc u))) (take_op j c) t z).links j ∙ l);
            };
          };
          before = omega arith;
          held = λ v a b z. full (ap (λ (w : ℕ). link_at (rules.means (at w)) j) (let e : suc u ≡ v = omega arith in e) ∙ z);
        }

        by_did : Did rules (at u) (call_at rules start calls u) → From (suc u) j
        by_did (nothing e) = still (rules.means (at u)) (ap rules.means e) l
        by_did (starts_take p i x b) = still _ b.meant (stays_vacant (rules.means (at u)).links i j l)
        by_did (starts_put p i r b) = still _ b.meant l
        by_did (starts_check p i b) = still _ b.meant l
        by_did (drops p i b) = still _ b.meant (stays_vacant (rules.means (at u)).links i j l)
        by_did (turns p is known n e) =
            let long : p < length (rules.means (at u)).activities = omega (arith, known, (rules.sizes (at u) (good u).is_sound).activities) in
            let t = turned_at u p h known n e in
            by_move p is long t (turn_moves rules.blank (rules.means (at u)) p long (rules.answer (at u) p) (rules.means (at (suc u))) j t)

    is_vacant_lem : (l : Link R) → (l ≡ vacant) ⊎ (l ≡ vacant → ⊥)
    is_vacant_lem vacant = inl refl
    is_vacant_lem (holds c x t) = inr (λ e. vacant_not c x t (sym e))

    from : (u j : ℕ) → u ≤ length calls → link_at (rules.means (at u)) j ≢ vacant → From u j
    from zero j h n = absurd (n (ap (λ (m : Meaning R). link_at m j) fresh.is_blank ∙ no_links (width (rules.plan start)) j))
      where
        no_links : (n i : ℕ) → get_or (replicate n empty_link) i vacant ≡ vacant
        no_links zero i = refl
        no_links (suc n) zero = refl
        no_links (suc n) (suc i) = no_links n i
    from (suc u) j h n = ⊎_elim
        (λ (e : link_at (rules.means (at u)) j ≡ vacant). new_link u j (omega arith) e n)
        (λ (e : link_at (rules.means (at u)) j ≡ vacant → ⊥). held_on u j (from u j (omega arith) e) n) (is_vacant_lem (link_at (rules.means (at u)) j))

    taken_law : (u j : ℕ) → u ≤ length calls → link_at (rules.means (at u)) j ≢ vacant
        → (t : ℕ) × (p : ℕ) × (c : ℕ) × ComesAt rules start calls t p (take_op j c) × (t < u) × HeldSince rules start calls t u j
    taken_law u j h n = let f = from u j h n in (f.when, f.who, f.which, f.comes, f.before, f.held)

    shown_broken : (c : ℕ) (l : Link R) → shown_by (break_on c l) ≡ shown_by l
    shown_broken c vacant = refl
    shown_broken c (holds e x t) = refl

    module _ (t p j : ℕ) (h : t < length calls) (own : Own (rules.plan start) p j) (other : caller_of (call_at rules start calls t) ≢ p) where
      owned : Own (rules.plan (at t)) p j
      owned = subst (λ (x : Plan). Own x p j) (sym (good t).same) own

      shown_in : (m' : Meaning R) → rules.means (after rules (at t) (call_at rules start calls t)) ≡ m' → shown_by (link_at m' j) ≡ shown_by (link_at (rules.means (at t)) j)
          → shown_by (link_at (rules.means (at (suc t))) j) ≡ shown_by (link_at (rules.means (at t)) j)
      shown_in m' e q = ap (λ (y : rules.State). shown_by (link_at (rules.means y) j)) (next t h) ∙ (ap (λ (y : Meaning R). shown_by (link_at y j)) e ∙ q)

      -- another party's own link is not this one
      elsewhere : (q i : ℕ) → caller_of (call_at rules start calls t) ≡ q → Own (rules.plan (at t)) q i → j ≡ i → ⊥
      elsewhere q i e o z = own_apart (rules.plan (at t)) p q j owned (subst (λ (y : ℕ). Own (rules.plan (at t)) q y) (sym z) o) (λ w. other (e ∙ sym w))

      emptied_elsewhere : (q i : ℕ) → caller_of (call_at rules start calls t) ≡ q → Own (rules.plan (at t)) q i → get_or (set (rules.means (at t)).links i vacant) j vacant ≡ link_at (rules.means (at t)) j
      emptied_elsewhere q i e o = get_or-set_other (rules.means (at t)).links i j vacant vacant (elsewhere q i e o)

      turned_elsewhere : (q : ℕ) → call_at rules start calls t ≡ Turn q → q < (rules.plan (at t)).parties → activity_of (rules.means (at t)) q ≢ idle
          → shown_by (link_at (rules.means (rules.turned (at t) q)) j) ≡ shown_by (link_at (rules.means (at t)) j)
      turned_elsewhere q is known n =
          let ok = (good t).is_sound in
          let long : q < length (rules.means (at t)).activities = omega (arith, known, (rules.sizes (at t) ok).activities) in
          by_move long (turn_moves rules.blank (rules.means (at t)) q long (rules.answer (at t) q) (rules.means (rules.turned (at t) q)) j (rules.turns (at t) q ok known n).3)
        where
          by_move : (long : q < length (rules.means (at t)).activities) → Moved rules.blank (rules.means (at t)) q long (rules.means (rules.turned (at t) q)) j
              → shown_by (link_at (rules.means (rules.turned (at t) q)) j) ≡ shown_by (link_at (rules.means (at t)) j)
          by_move long (kept f) = ap shown_by f
          by_move long (broke e st f) = ap shown_by f ∙ shown_broken e (link_at (rules.means (at t)) j)
          by_move long (came e w) = absurd (elsewhere q j (ap caller_of is) ((good t).is_tidy q j e w).1 refl)

      alone_law : shown_by (link_at (rules.means (at (suc t))) j) ≡ shown_by (link_at (rules.means (at t)) j)
      alone_law = by_did (did rules (at t) (good t).is_sound (call_at rules start calls t))
        where
          by_did : Did rules (at t) (call_at rules start calls t) → shown_by (link_at (rules.means (at (suc t))) j) ≡ shown_by (link_at (rules.means (at t)) j)
          by_did (nothing e) = shown_in (rules.means (at t)) (ap rules.means e) refl
          by_did (starts_take q i c b) = shown_in _ b.meant (ap shown_by (emptied_elsewhere q i b.caller b.own))
          by_did (starts_put q i r b) = shown_in _ b.meant refl
          by_did (starts_check q i b) = shown_in _ b.meant refl
          by_did (drops q i b) = shown_in _ b.meant (ap shown_by (emptied_elsewhere q i b.caller b.own))
          by_did (turns q is known n e) = shown_in _ (ap rules.means e) (turned_elsewhere q is known n)

  pub ideal_links : IdealLinks rules
  ideal_links s fresh calls = record {
    unchanged = unchanged_law s fresh calls;
    changed = changed_law s fresh calls;
    taken = taken_law s fresh calls;
    links = linked s fresh calls;
    puts = put_law s fresh calls;
    checks = check_law s fresh calls;
    broken = broken_law s fresh calls;
    alone = alone_law s fresh calls;
  }
