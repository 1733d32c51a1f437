-- Every list of calls from a fresh shelf is a past of the model.
use Rattle.std.proofs.Common.{◌≡◌, ℕ, zero, suc, ◌<◌, List, [], ◌∷◌, ◌++◌, length, get_or, take, replicate, sym, refl, ap, append_assoc, append-nil, arith}
use Rattle.std.proofs.lemmas.List.{length-replicate}
use Rattle.reading.specs.Kinds.{KindOf}
use Rattle.plan.specs.declared.check.Plan.{Plan}
use Rattle.plan.specs.Plans.{width, InRange}
use Rattle.shelf.specs.Meaning.{flat, vacant, idle, activity_of}
use Rattle.shelf.specs.Rules.{Rules, Fresh}
use Rattle.history.proofs.Shelf.{rests}
use Rattle.history.proofs.Hub as N
use Rattle.history.proofs.Hub.{free, Past, made, after_that}
use Rattle.hub_rules.specs.declared.parts.Party.TheVariants.{Idle}
use Rattle.hub_rules.specs.Hub.{Call, Look, Hub, after, after_all, made_on}
use Rattle.hub_rules.proofs.Match.{task_of, Matches}
use Rattle.hub_rules.proofs.Hearing.{Told}
use Rattle.hub_rules.proofs.Stepping.{stepped}

module _ {R : Type 0} (kind : KindOf R) (rules : Rules R) where
  -- what the model hears of each call of a list
  abbrev pub Heard : Hub rules → List Call → List (N.Event R) → Type 0
  Heard x [] [] = Unit {0}
  Heard x [] (n ∷ ns) = ⊥
  Heard x (k ∷ ks) [] = ⊥
  Heard x (k ∷ ks) (n ∷ ns) = Told kind rules x k (after kind rules x k) n × Heard (after kind rules x k) ks ns

  pub heard_length : (x : Hub rules) (ks : List Call) (ns : List (N.Event R)) → Heard x ks ns → length ns ≡ length ks
  heard_length x [] [] h = refl
  heard_length x [] (n ∷ ns) h = absurd h
  heard_length x (k ∷ ks) [] h = absurd h
  heard_length x (k ∷ ks) (n ∷ ns) h = ap suc (heard_length (after kind rules x k) ks ns h.1)

  -- by place
  pub heard_at : (x : Hub rules) (ks : List Call) (ns : List (N.Event R)) → Heard x ks ns → (t : ℕ) → t < length ks →
      Told kind rules (after_all kind rules x (take t ks)) (get_or ks t (Look 0 0)) (after_all kind rules x (take (suc t) ks)) (get_or ns t N.nothing)
  heard_at x [] ns h t l = absurd (omega arith)
  heard_at x (k ∷ ks) [] h t l = absurd h
  heard_at x (k ∷ ks) (n ∷ ns) h zero l = h.0
  heard_at x (k ∷ ks) (n ∷ ns) h (suc t) l = heard_at (after kind rules x k) ks ns h.1 t (omega arith)

  module _ (plan : N.Plan) (pl : Plan) (w : ℕ) (range : InRange pl) (same_parties : plan.parties ≡ pl.parties) (same_links : plan.links ≡ pl.links)
      (same_channels : plan.channels ≡ pl.channels) (same_patience : w ≡ plan.patience) where
    pub record Ran (x : Hub rules) (ks : List Call) (before : List (N.Event R)) : Type 0 where
      pub log : List (N.Event R)
      pub hub : N.Hub R
      pub heard : Heard x ks log
      pub past : Past rules.blank kind.amended plan (before ++ log) hub
      pub matches : Matches rules pl w (after_all kind rules x ks) hub

    pub ran : (x : Hub rules) (h : N.Hub R) (before : List (N.Event R)) → Past rules.blank kind.amended plan before h → Matches rules pl w x h → (ks : List Call) → Ran x ks before
    ran x h before past mt [] = record { log = []; hub = h; heard = tt; past = rw (append-nil before) past; matches = mt }
    ran x h before past mt (k ∷ ks) =
        let z = stepped kind rules plan pl w range same_parties same_links same_channels same_patience x h mt before past k in
        let y = ran (after kind rules x k) z.then (before ++ (z.heard ∷ [])) (after_that z.heard z.then past z.step) z.matches ks in
        record {
          log = z.heard ∷ y.log;
          hub = y.hub;
          heard = (z.told, y.heard);
          past = rw (← append_assoc before (z.heard ∷ []) y.log) y.past;
          matches = y.matches;
        }

  -- ** from a fresh shelf

  module _ (s : rules.State) (fresh : Fresh rules s) where
    abbrev pl : Plan
    pl = rules.plan s

    pub range : InRange pl
    range = fresh.in_range

    abbrev pub plan : N.Plan
    plan = record { parties = pl.parties; links = pl.links; channels = pl.channels; patience = rules.patience s; some_links = fresh.in_range.some_links; few = fresh.in_range.most_links; some_parties = fresh.in_range.most_parties }

    abbrev blank_hub : N.Hub R
    blank_hub = record { shelf = record { reading = λ c. rules.blank; link = λ p i. vacant; job = λ p. rests; left = λ p. rules.patience s }; task = λ p. free }

    get_d_blank : {A : Type 0} (n i : ℕ) (a : A) → get_or (replicate n a) i a ≡ a
    get_d_blank zero i a = refl
    get_d_blank (suc n) zero a = refl
    get_d_blank (suc n) (suc i) a = get_d_blank n i a

    fresh_matches : Matches rules pl (rules.patience s) (made_on rules s) blank_hub
    fresh_matches =
        let b = fresh in
        let e = b.is_blank in
        let resting_all : (p : ℕ) → activity_of (rules.means s) p ≡ idle = λ p. rw e (get_d_blank pl.parties p idle) in
        record {
          shelved = record {
            sound = b.is_sound;
            plan = refl;
            patience = refl;
            fits = record {
              sizes = rules.sizes s b.is_sound;
              readings = λ c h. rw e (get_d_blank pl.channels c rules.blank);
              links = λ p i a c. rw e (get_d_blank (width pl) (flat pl p i) vacant);
              activities = λ p h. resting_all p;
            };
            left = λ p h n. absurd (n (resting_all p));
          };
          size = length-replicate pl.parties Idle;
          tasks = λ p. ap task_of (sym (get_d_blank pl.parties p Idle));
        }

    fresh_past : Past rules.blank kind.amended plan [] blank_hub
    fresh_past = made blank_hub (record { blank_readings = λ c. refl; empty_links = λ p i. refl; idle_jobs = λ p. refl; free_tasks = λ p. refl; patient = λ p. omega arith })

    pub runs : (ks : List Call) → Ran plan pl (rules.patience s) range refl refl refl refl (made_on rules s) ks []
    runs ks = ran plan pl (rules.patience s) range refl refl refl refl (made_on rules s) blank_hub [] fresh_past fresh_matches ks
