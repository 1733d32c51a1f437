-- A waiting operation comes into force in the meaning as in the model.
use Rattle.std.proofs.Common.{◌≡◌, ℕ, ◌<◌, Bool, true, false, ◌≢◌, List, length, get_or, set, sym, refl, ap, ◌∙◌, arith, length-set, get_or-set_other, get_or-set_same}
use mathlib.Core.Option.{Option, none, some}
use Rattle.std.proofs.lemmas.List.{length-map, get_or-map}
use Rattle.plan.specs.declared.check.Plan.{Plan}
use Rattle.shelf.specs.Meaning.{flat, Link, vacant, holds, Operation, take, put, check, Activity, idle, waits, in_force, Meaning, link_at, activity_of, does, break_on, brought, Sizes}
use Rattle.history.specs.Board.{updated}
use Rattle.history.proofs.Shelf.{Said, taken, stored, missed, live, broken, Job, rests, awaits, forced, Shelf, set_link, Forces, force_take, force_put, force_miss, force_live, force_broken}
use Rattle.history.proofs.Fitting.{Ready, break_ready}
use Rattle.history.proofs.Basics.{updated_same, updated_other, at_party}
use Rattle.hub_rules.proofs.Links.{flat_below, flat_apart, flat_other}
use Rattle.hub_rules.proofs.Match.{answer_of, flat_operation, CanWait, DoesAs, Fits, does_at}

-- party p's waiting put is on a live link of channel c
pub record WaitsToStore {R : Type 0} (M : Meaning R) (p c : ℕ) : Type 0 where
  pub link : ℕ
  pub reading : R
  pub seen : R
  pub puts : activity_of M p ≡ waits (put link reading)
  pub alive : link_at M link ≡ holds c seen true

module _ {R : Type 0} (blank : R) (pl : Plan) where
  -- party p does something else; its links may have changed, those of the others not
  pub redo : (link link' : ℕ → ℕ → Link R) (job : ℕ → Job R) (p : ℕ) (d : Activity R) (J : Job R) (ds : List (Activity R))
      → p < pl.parties → length ds ≡ pl.parties
      → ((q : ℕ) → q ≢ p → q < pl.parties → DoesAs pl q (link q) (get_or ds q idle) (job q)) → ((q : ℕ) → q ≢ p → (i : ℕ) → Ready (link q i) → Ready (link' q i))
      → DoesAs pl p (link' p) d J
      → (q : ℕ) → q < pl.parties → DoesAs pl q (link' q) (get_or (set ds p d) q idle) (updated job p J q)
  redo link link' job p d J ds in_p size others ready here =
      at_party p (λ q. q < pl.parties → DoesAs pl q (link' q) (get_or (set ds p d) q idle) (updated job p J q))
      (λ h. rw (updated_same job p J, get_or-set_same ds p d idle (omega arith)) here)
      (λ q ne h. rw (updated_other job p J q ne, get_or-set_other ds p q d idle ne) (kept q ne (get_or ds q idle) (job q) (others q ne h)))
    where
      act_kept : (q : ℕ) → q ≢ p → (a : Operation R) → CanWait pl (link q) a → CanWait pl (link' q) a
      act_kept q ne (take i c) ok = ok
      act_kept q ne (put i v) ok = (ok.0, ready q ne i ok.1)
      act_kept q ne (check i) ok = (ok.0, ready q ne i ok.1)

      kept : (q : ℕ) → q ≢ p → (x : Activity R) (J : Job R) → DoesAs pl q (link q) x J → DoesAs pl q (link' q) x J
      kept q ne x rests h = h
      kept q ne x (awaits a) h = (h.0, act_kept q ne a h.1)
      kept q ne x (forced a sd) h = h

  -- link i of party p is set, in the meaning and in the model
  pub relink : (M : Meaning R) (link : ℕ → ℕ → Link R) (p i : ℕ) (l : Link R) → Sizes pl M → p < pl.parties → i < pl.links
      → ((q j : ℕ) → q < pl.parties → j < pl.links → link_at M (flat pl q j) ≡ link q j)
      → (q j : ℕ) → q < pl.parties → j < pl.links → get_or (set M.links (flat pl p i) l) (flat pl q j) vacant ≡ set_link link p i l q j
  relink M link p i l sz in_p in_i h =
      at_party p (λ q. (j : ℕ) → q < pl.parties → j < pl.links → get_or (set M.links (flat pl p i) l) (flat pl q j) vacant ≡ set_link link p i l q j)
      (at_party i (λ j. p < pl.parties → j < pl.links → get_or (set M.links (flat pl p i) l) (flat pl p j) vacant ≡ set_link link p i l p j)
      (λ a b. rw (updated_same, updated_same) (get_or-set_same M.links (flat pl p i) l vacant (let e = sz.links in let k = flat_below pl p i in_p in_i in omega arith)))
      (λ j ne a b. rw (updated_same, updated_other (link p) i l j ne, get_or-set_other M.links (flat pl p i) (flat pl p j) l vacant (flat_other pl p i j ne)) (h p j a b)))
      (λ q ne j a b. rw (updated_other link p (updated (link p) i l) q ne, get_or-set_other M.links (flat pl p i) (flat pl q j) l vacant (flat_apart pl p q i j ne in_i b)) (h q j a b))

  -- other parties' links are as they were
  pub relink_ready : (link : ℕ → ℕ → Link R) (p i : ℕ) (l : Link R) (q : ℕ) → q ≢ p → (j : ℕ) → Ready (link q j) → Ready (set_link link p i l q j)
  relink_ready link p i l q ne j r = rw (updated_other link p (updated (link p) i l) q ne) r

  -- whether the operation is a put on a live link, and then of which channel
  abbrev pub StoresOn : Meaning R → ℕ → Option ℕ → Type 0
  StoresOn M p none = (c : ℕ) → WaitsToStore M p c → ⊥
  StoresOn M p (some c) = WaitsToStore M p c

  -- the operation a of party p in force, in the model and in the meaning
  pub record Forced (M : Meaning R) (m : Shelf R) (p : ℕ) (a : Operation R) : Type 0 where
    pub channel : Option ℕ
    pub said : Said
    pub reading' : ℕ → R
    pub link' : ℕ → ℕ → Link R
    pub forces : Forces m p a channel said reading' link'
    pub fits : Fits blank pl (brought blank M p (flat_operation pl p a)) reading' link' (updated m.job p (forced a said))
    pub stored_on : StoresOn M p channel

  module _ (M : Meaning R) (m : Shelf R) (F : Fits blank pl M m.reading m.link m.job) (p : ℕ) (in_p : p < pl.parties) where
    -- the doings of a meaning in which only party p's was changed
    redone : (link' : ℕ → ℕ → Link R) (d : Activity R) (J : Job R) → ((q : ℕ) → q ≢ p → (i : ℕ) → Ready (m.link q i) → Ready (link' q i)) → DoesAs pl p (link' p) d J
        → (q : ℕ) → q < pl.parties → DoesAs pl q (link' q) (get_or (set M.activities p d) q idle) (updated m.job p J q)
    redone link' d J ready here = redo m.link link' m.job p d J M.activities in_p F.sizes.activities (λ q ne h. F.activities q h) ready here

    size_activities : (d : Activity R) → length (set M.activities p d) ≡ pl.parties
    size_activities d = length-set M.activities p d ∙ F.sizes.activities

    take_force : (i c : ℕ) → activity_of M p ≡ waits (take (flat pl p i) c) → i < pl.links → c < pl.channels → Forced M m p (take i c)
    take_force i c e_d in_i in_c =
        record {
          channel = none;
          said = taken;
          reading' = m.reading;
          link' = set_link m.link p i (holds c (m.reading c) true);
          forces = force_take i c;
          fits = record {
            sizes = record { readings = F.sizes.readings; links = length-set M.links (flat pl p i) _ ∙ F.sizes.links; activities = size_activities (in_force (answer_of taken)) };
            readings = F.readings;
            links = λ q j a b. rw (F.readings c in_c) (relink M m.link p i (holds c (m.reading c) true) F.sizes in_p in_i F.links q j a b);
            activities = redone (set_link m.link p i (holds c (m.reading c) true)) (in_force (answer_of taken)) (forced (take i c) taken) (relink_ready m.link p i _) refl;
          };
          stored_on = λ c' z. cc;
        }

    -- the meaning stays but for party p's doing
    told : (a : Operation R) (sd : Said) → Fits blank pl (does M p (in_force (answer_of sd))) m.reading m.link (updated m.job p (forced a sd))
    told a sd = record {
      sizes = record { readings = F.sizes.readings; links = F.sizes.links; activities = size_activities (in_force (answer_of sd)) };
      readings = F.readings;
      links = F.links;
      activities = redone m.link (in_force (answer_of sd)) (forced a sd) (λ q ne i r. r) refl;
    }

    put_force : (i : ℕ) (v : R) → activity_of M p ≡ waits (put (flat pl p i) v) → i < pl.links → (c : ℕ) (r : R) (b : Bool) → m.link p i ≡ holds c r b → Forced M m p (put i v)
    put_force i v e_d in_i c r true e =
        let e_l : link_at M (flat pl p i) ≡ holds c r true = F.links p i in_p in_i ∙ e in
        record {
          channel = some c;
          said = stored;
          reading' = updated m.reading c v;
          link' = λ q j. break_on c (m.link q j);
          forces = force_put i c v r e;
          fits = rw e_l
              (record {
                sizes = record { readings = length-set M.readings c v ∙ F.sizes.readings; links = length-map M.links (break_on c) ∙ F.sizes.links; activities = size_activities (in_force (answer_of stored)) };
                readings = at_party c (λ d. d < pl.channels → get_or (set M.readings c v) d blank ≡ updated m.reading c v d)
                    (λ h. get_or-set_same M.readings c v blank (let z = F.sizes.readings in omega arith) ∙ sym (updated_same m.reading c v))
                    (λ d ne h. get_or-set_other M.readings c d v blank ne ∙ (F.readings d h ∙ sym (updated_other m.reading c v d ne)));
                links = λ q j a k. get_or-map (break_on c) M.links (flat pl q j) vacant vacant (let z = F.sizes.links in let y = flat_below pl q j a k in omega arith)
                    ∙ (ap (break_on c) (F.links q j a k));
                activities = redone (λ q j. break_on c (m.link q j)) (in_force (answer_of stored)) (forced (put i v) stored) (λ q ne j r. break_ready c (m.link q j) r) refl;
              });
          stored_on = record { link = flat pl p i; reading = v; seen = r; puts = e_d; alive = e_l };
        }
    put_force i v e_d in_i c r false e =
        let e_l : link_at M (flat pl p i) ≡ holds c r false = F.links p i in_p in_i ∙ e in
        record {
          channel = none;
          said = missed;
          reading' = m.reading;
          link' = m.link;
          forces = force_miss i c v r e;
          fits = rw e_l (told (put i v) missed);
          stored_on = λ c' z. broken_put c' z e_l;
        }
      where
        broken_put : (c' : ℕ) → WaitsToStore M p c' → link_at M (flat pl p i) ≡ holds c r false → ⊥
        broken_put c' z e_l = cc

    check_force : (i : ℕ) → activity_of M p ≡ waits (check (flat pl p i)) → i < pl.links → (c : ℕ) (r : R) (b : Bool) → m.link p i ≡ holds c r b → Forced M m p (check i)
    check_force i e_d in_i c r true e =
        let e_l : link_at M (flat pl p i) ≡ holds c r true = F.links p i in_p in_i ∙ e in
        record {
          channel = none;
          said = live;
          reading' = m.reading;
          link' = m.link;
          forces = force_live i c r e;
          fits = rw e_l (told (check i) live);
          stored_on = λ c' z. cc;
        }
    check_force i e_d in_i c r false e =
        let e_l : link_at M (flat pl p i) ≡ holds c r false = F.links p i in_p in_i ∙ e in
        record {
          channel = none;
          said = broken;
          reading' = m.reading;
          link' = m.link;
          forces = force_broken i c r e;
          fits = rw e_l (told (check i) broken);
          stored_on = λ c' z. cc;
        }

    pub force : (a : Operation R) → m.job p ≡ awaits a → Forced M m p a
    force a e_j = go a (does_at F p (awaits a) in_p e_j)
      where
        go : (a : Operation R) → DoesAs pl p (m.link p) (activity_of M p) (awaits a) → Forced M m p a
        go (take i c) d = take_force i c d.0 d.1.0 d.1.1
        go (put i v) d = let r = d.1.1 in put_force i v d.0 d.1.0 r.channel r.reading r.is_live r.is
        go (check i) d = let r = d.1.1 in check_force i d.0 d.1.0 r.channel r.reading r.is_live r.is

  -- the answer is handed over
  pub rest_again : (M : Meaning R) (reading : ℕ → R) (link : ℕ → ℕ → Link R) (job : ℕ → Job R) (p : ℕ) → p < pl.parties
      → Fits blank pl M reading link job → Fits blank pl (does M p idle) reading link (updated job p rests)
  rest_again M reading link job p in_p F = record {
    sizes = record { readings = F.sizes.readings; links = F.sizes.links; activities = length-set M.activities p idle ∙ F.sizes.activities };
    readings = F.readings;
    links = F.links;
    activities = redo link link job p idle rests M.activities in_p F.sizes.activities (λ q ne h. F.activities q h) (λ q ne i r. r) refl;
  }
