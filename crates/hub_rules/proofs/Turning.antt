-- A turn of an exact shelf is a turn of the model.
use Rattle.std.proofs.Common.{◌≡◌, ℕ, suc, ◌+◌, ◌-◌, ◌<◌, ◌≤◌, ◌≢◌, ◌⊎◌, sym, refl, ap, ◌∙◌, subst, inl, inr, arith}
use mathlib.Core.Option.{Option, none, some}
use native.Mathlib.Decide.{ℕ_discrete}
use Rattle.std.proofs.lemmas.Bool.{cases_lt}
use Rattle.shelf.specs.declared.answer.Answer.{Answer}
use Rattle.shelf.specs.declared.answer.Answer.TheVariants.{Run, Taken, Stored, Missed, Live, Broken}
use Rattle.plan.specs.declared.check.Plan.{Plan}
use Rattle.shelf.specs.Meaning.{flat, Link, Operation, take, put, check, Activity, idle, waits, in_force, Meaning, link_at, activity_of, does, brought, Turned, alters_nothing, comes, ends, comes_and_ends, Stores, is_on}
use Rattle.shelf.specs.Rules.{Rules}
use Rattle.history.specs.Board.{updated}
use Rattle.history.proofs.Shelf.{Said, taken, stored, missed, live, broken, Job, rests, awaits, forced, Shelf, OperationOn, On, Others, Turn, turn_still, turn_force, turn_end, turn_both}
use Rattle.history.proofs.Basics.{updated_same, updated_other, updated_twice, at_party}
use Rattle.hub_rules.proofs.Match.{answer_of, flat_operation, CanWait, DoesAs, Fits, Shelved, does_at}
use Rattle.hub_rules.proofs.Force.{WaitsToStore, Forced, StoresOn, force, rest_again}

-- the answer that a turn hands over
abbrev pub said_of : Answer → Option Said
said_of Run = none
said_of Taken = some taken
said_of Stored = some stored
said_of Missed = some missed
said_of Live = some live
said_of Broken = some broken

pub said_back : (sd : Said) → said_of (answer_of sd) ≡ some sd
said_back taken = refl
said_back stored = refl
said_back missed = refl
said_back live = refl
said_back broken = refl

module _ {R : Type 0} (pl : Plan) where
  -- which job it is, from what the party does
  pub job_waits : (p : ℕ) (l : ℕ → Link R) (d : Activity R) (o : Operation R) (J : Job R) → DoesAs pl p l d J → d ≡ waits o → (a : Operation R) × (J ≡ awaits a) × (o ≡ flat_operation pl p a)
  job_waits p l d o rests h e = absurd cc
  job_waits p l d o (awaits a) h e = (a, refl, cc h.0)
  job_waits p l d o (forced a sd) h e = absurd cc

  pub job_forced : (p : ℕ) (l : ℕ → Link R) (d : Activity R) (x : Answer) (J : Job R) → DoesAs pl p l d J → d ≡ in_force x → (a : Operation R) × (sd : Said) × (J ≡ forced a sd) × (x ≡ answer_of sd)
  job_forced p l d x rests h e = absurd cc
  job_forced p l d x (awaits a) h e = absurd (cc h.0)
  job_forced p l d x (forced a sd) h e = (a, sd, refl, cc (h, e))

  pub job_idle : (p : ℕ) (l : ℕ → Link R) (d : Activity R) (J : Job R) → DoesAs pl p l d J → d ≡ idle → J ≡ rests
  job_idle p l d rests h e = refl
  job_idle p l d (awaits a) h e = absurd (cc h.0)
  job_idle p l d (forced a sd) h e = absurd cc

  pub busy_back : (p : ℕ) (l l' : ℕ → Link R) (d d' : Activity R) (J : Job R) → DoesAs pl p l d J → DoesAs pl p l' d' J → d' ≢ idle → d ≢ idle
  busy_back p l l' d d' rests h h' n e = n h'
  busy_back p l l' d d' (awaits a) h h' n e = cc h.0
  busy_back p l l' d d' (forced a sd) h h' n e = cc

  -- the channel of a waiting operation
  act_on : (p : ℕ) (M : Meaning R) (l : ℕ → Link R) (a : Operation R) (c : ℕ) → ((i : ℕ) → i < pl.links → link_at M (flat pl p i) ≡ l i) → CanWait pl l a → is_on M (waits (flat_operation pl p a)) c → OperationOn l a c
  act_on p M l (take i d) c h ok o = o
  act_on p M l (put i v) c h ok o = (o.0, o.1, sym (h i ok.0) ∙ o.2)
  act_on p M l (check i) c h ok o = (o.0, o.1, sym (h i ok.0) ∙ o.2)

  on_channel : (p : ℕ) (M : Meaning R) (l : ℕ → Link R) (d : Activity R) (J : Job R) (c : ℕ) → ((i : ℕ) → i < pl.links → link_at M (flat pl p i) ≡ l i) → DoesAs pl p l d J → is_on M d c → On l J c
  on_channel p M l d rests c h D o = rw D at o
  on_channel p M l d (awaits a) c h D o = act_on p M l a c h D.1 (rw D.0 at o)
  on_channel p M l d (forced a sd) c h D o = absurd (rw D at o)

module _ {R : Type 0} (rules : Rules R) (pl : Plan) (w : ℕ) where
  -- a turn of party p, in the model and exactly
  pub record TurnMatched (s : rules.State) (m : Shelf R) (p : ℕ) : Type 0 where
    pub channel : Option ℕ
    pub then : Shelf R
    pub turn : Turn w m p channel (said_of (rules.answer s p)) then
    pub shelved : Shelved rules pl w (rules.turned s p) then
    pub puts : (c : ℕ) → channel ≡ some c → Stores (rules.means s) (rules.means (rules.turned s p)) p c

  module _ (s : rules.State) (m : Shelf R) (ok : Shelved rules pl w s m) (p : ℕ) (in_p : p < pl.parties) (busy : activity_of (rules.means s) p ≢ idle) where
    abbrev t : rules.State
    t = rules.turned s p

    abbrev M : Meaning R
    M = rules.means s

    in_plan : (q : ℕ) → q < pl.parties → q < (rules.plan s).parties
    in_plan q h = rw ok.plan h

    in_plan' : (q : ℕ) → q < pl.parties → q < (rules.plan t).parties
    in_plan' q h = rw ((rules.turns s p ok.sound (in_plan p in_p) busy).1, ok.plan) h

    sound' : rules.sound t
    sound' = (rules.turns s p ok.sound (in_plan p in_p) busy).0

    most' : (q : ℕ) → q < pl.parties → rules.left t q ≤ w + 1
    most' q h = rw (← ok.patience, ← (rules.turns s p ok.sound (in_plan p in_p) busy).2) (rules.most t q sound' (in_plan' q h))

    -- the party's own turns left fall where it goes on
    own_left : activity_of (rules.means t) p ≢ idle → rules.left t p - 1 < m.left p
    own_left on = go (rules.falls s p ok.sound (in_plan p in_p) busy)
      where
        go : (activity_of (rules.means t) p ≡ idle) ⊎ (rules.left t p < rules.left s p) → rules.left t p - 1 < m.left p
        go (inl e) = absurd (on e)
        go (inr l) = let a = rules.least t p sound' (in_plan' p in_p) on in let b = ok.left p in_p busy in omega arith

    waiting : (c : ℕ) → Stores M (rules.means t) p c → WaitsToStore M p c
    waiting c z = record { link = z.link; reading = z.reading; seen = z.seen; puts = z.comes.waited; alive = z.alive }

    -- turns left of the other parties
    record Lefts (f : Option ℕ) : Type 0 where
      left' : ℕ → ℕ
      others : Others w m p f left'
      bound : (q : ℕ) → q ≢ p → q < pl.parties → activity_of M q ≢ idle → rules.left t q ≤ suc (left' q)

    abbrev Pick : ℕ → ℕ → Type 0
    Pick c q = (n : ℕ) × (q ≢ p → (n ≡ m.left q) ⊎ ((n ≤ w) × On (m.link q) (m.job q) c)) × (q ≢ p → q < pl.parties → activity_of M q ≢ idle → rules.left t q ≤ suc n)

    -- where nothing is stored, their turns left do not rise
    kept_left : ((c : ℕ) → Stores M (rules.means t) p c → ⊥) → (q : ℕ) → q ≢ p → q < pl.parties → activity_of M q ≢ idle → rules.left t q ≤ suc (m.left q)
    kept_left nothing q ne h b = go (rules.stays s p q ok.sound (in_plan p in_p) (in_plan q h) ne busy)
      where
        go : (rules.left t q ≤ rules.left s q) ⊎ ((c : ℕ) × Stores M (rules.means t) p c × is_on M (activity_of M q) c) → rules.left t q ≤ suc (m.left q)
        go (inl l) = let k = ok.left q h b in omega arith
        go (inr z) = absurd (nothing z.0 z.1)

    lefts : (f : Option ℕ) → StoresOn rules.blank pl M p f → Lefts f
    lefts none no_put = record { left' = m.left; others = λ q ne. refl; bound = kept_left (λ c z. no_put c (waiting c z)) }
    lefts (some c) put_on = record { left' = λ q. (pick q).0; others = λ q ne. (pick q).1 ne; bound = λ q ne h b. (pick q).2 ne h b }
      where
        same_channel : (c' : ℕ) → WaitsToStore M p c' → c' ≡ c
        same_channel c' z = cc

        by_stays : (q : ℕ) → q < pl.parties → (rules.left t q ≤ rules.left s q) ⊎ ((c' : ℕ) × Stores M (rules.means t) p c' × is_on M (activity_of M q) c')
            → Pick c q
        by_stays q h (inl l) = (m.left q, (λ ne. inl refl), λ ne h' b. let k = ok.left q h b in omega arith)
        by_stays q h (inr z) = (
          rules.left t q - 1,
          (λ ne. inr (
            let k = most' q h in omega arith,
            on_channel pl q M (m.link q) (activity_of M q) (m.job q) c (λ i l. ok.fits.links q i h l) (ok.fits.activities q h)
                (rw (← same_channel z.0 (waiting z.0 z.1)) z.2),
          )),
          λ ne h' b. omega arith,
        )

        pick : (q : ℕ) → Pick c q
        pick q = go (ℕ_discrete q p)
          where
            inside : q ≢ p → (q < pl.parties) ⊎ (pl.parties ≤ q) → Pick c q
            inside ne (inl h) = by_stays q h (rules.stays s p q ok.sound (in_plan p in_p) (in_plan q h) ne busy)
            inside ne (inr h) = (m.left q, (λ n. inl refl), λ n h' b. absurd (omega arith))

            go : Dec (q ≡ p) → Pick c q
            go (yes e) = (m.left q, (λ n. absurd (n e)), λ n h b. absurd (n e))
            go (no ne) = inside ne (cases_lt q pl.parties)

    -- the shelf of the model then
    close : (m' : Shelf R) → Fits rules.blank pl (rules.means t) m'.reading m'.link m'.job → ((q : ℕ) → q ≢ p → m'.job q ≡ m.job q)
        → ((q : ℕ) → q ≢ p → q < pl.parties → activity_of M q ≢ idle → rules.left t q ≤ suc (m'.left q))
        → (activity_of (rules.means t) p ≢ idle → rules.left t p ≤ suc (m'.left p))
        → Shelved rules pl w t m'
    close m' F same others own = record {
      sound = sound';
      plan = (rules.turns s p ok.sound (in_plan p in_p) busy).1 ∙ ok.plan;
      patience = (rules.turns s p ok.sound (in_plan p in_p) busy).2 ∙ ok.patience;
      fits = F;
      left = at_party p (λ q. q < pl.parties → activity_of (rules.means t) q ≢ idle → rules.left t q ≤ suc (m'.left q)) (λ h. own)
          (λ q ne h b. others q ne h (busy_back pl q (m.link q) (m'.link q) (activity_of M q) (activity_of (rules.means t) q) (m.job q) (ok.fits.activities q h)
          (does_at F q (m.job q) h (same q ne)) b));
    }

    moved : (c : ℕ) (x : Activity R) → activity_of (rules.means t) p ≡ x → ((o : Operation R) → x ≡ waits o → ⊥) → WaitsToStore M p c → Stores M (rules.means t) p c
    moved c x e n z = record {
      link = z.link;
      reading = z.reading;
      seen = z.seen;
      alive = z.alive;
      comes = record { waited = z.puts; waits_no_more = λ k. n (put z.link z.reading) (sym e ∙ k) };
    }

    comes_to_store : (x : Activity R) → activity_of (rules.means t) p ≡ x → ((o : Operation R) → x ≡ waits o → ⊥) → (f : Option ℕ) → StoresOn rules.blank pl M p f → (c : ℕ) → f ≡ some c → Stores M (rules.means t) p c
    comes_to_store x e n none so c k = absurd cc
    comes_to_store x e n (some d) so c k = let q : d ≡ c = cc in moved c x e n (rw (← q) so)

    still : rules.answer s p ≡ Run → rules.means t ≡ M → TurnMatched s m p
    still e_a e_m =
        let on : activity_of (rules.means t) p ≢ idle = λ e. busy (rw e_m at e) in
        let n = rules.left t p - 1 in
        record {
          channel = none;
          then = record { reading = m.reading; link = m.link; job = m.job; left = updated m.left p n };
          turn = rw e_a
              (turn_still n (own_left on) (λ e. busy (idle_rests e)));
          shelved = close (record { reading = m.reading; link = m.link; job = m.job; left = updated m.left p n })
              (rw e_m ok.fits) (λ q ne. refl)
              (λ q ne h b. let e = updated_other m.left p n q ne in let k = others q ne h b in omega arith)
              (λ b. let e = updated_same m.left p n in omega arith);
          puts = λ c e. absurd cc;
        }
      where
        idle_rests : m.job p ≡ rests → activity_of M p ≡ idle
        idle_rests e = does_at ok.fits p rests in_p e

        others : (q : ℕ) → q ≢ p → q < pl.parties → activity_of M q ≢ idle → rules.left t q ≤ suc (m.left q)
        others = kept_left (λ c z. z.comes.waits_no_more (rw e_m z.comes.waited))

    others_updated : (f : Option ℕ) (l : ℕ → ℕ) (n : ℕ) → Others w m p f l → Others w m p f (updated l p n)
    others_updated none l n o = λ q ne. rw (updated_other l p n q ne) (o q ne)
    others_updated (some c) l n o = λ q ne. rw (updated_other l p n q ne) (o q ne)

    -- the operation in force
    module _ (o : Operation R) (e_d : activity_of M p ≡ waits o) where
      act : (a : Operation R) × (m.job p ≡ awaits a) × (o ≡ flat_operation pl p a)
      act = job_waits pl p (m.link p) (activity_of M p) o (m.job p) (ok.fits.activities p in_p) e_d

      G : Forced rules.blank pl M m p act.0
      G = force rules.blank pl M m ok.fits p in_p act.0 act.1

      brought_fits : Fits rules.blank pl (brought rules.blank M p o) G.reading' G.link' (updated m.job p (forced act.0 G.said))
      brought_fits = subst (λ (x : Operation R). Fits rules.blank pl (brought rules.blank M p x) G.reading' G.link' (updated m.job p (forced act.0 G.said))) (sym act.2) G.fits

      forced_now : activity_of (brought rules.blank M p o) p ≡ in_force (answer_of G.said)
      forced_now = does_at brought_fits p (forced act.0 G.said) in_p (updated_same m.job p (forced act.0 G.said))

      come : rules.answer s p ≡ Run → rules.means t ≡ brought rules.blank M p o → TurnMatched s m p
      come e_a e_m =
          let ls = lefts G.channel G.stored_on in
          let e_now : activity_of (rules.means t) p ≡ in_force (answer_of G.said) = rw e_m forced_now in
          let on : activity_of (rules.means t) p ≢ idle = λ e. cc in
          let n = rules.left t p - 1 in
          let left'' = updated ls.left' p n in
          let m' : Shelf R = record { reading = G.reading'; link = G.link'; job = updated m.job p (forced act.0 G.said); left = left'' } in
          record {
            channel = G.channel;
            then = m';
            turn = rw e_a
                (turn_force act.0 G.channel G.said G.reading' G.link' left'' act.1 G.forces (let e = updated_same ls.left' p n in let k = own_left on in omega arith)
                (others_updated G.channel ls.left' n ls.others));
            shelved = close m' (rw e_m brought_fits)
                (λ q ne. updated_other m.job p _ q ne)
                (λ q ne h b. let e = updated_other ls.left' p n q ne in let k = ls.bound q ne h b in omega arith)
                (λ b. let e = updated_same ls.left' p n in omega arith);
            puts = comes_to_store (in_force (answer_of G.said)) e_now (λ o' k. cc) G.channel G.stored_on;
          }

      come_end : (a : Answer) → rules.answer s p ≡ a → activity_of (brought rules.blank M p o) p ≡ in_force a → rules.means t ≡ does (brought rules.blank M p o) p idle → TurnMatched s m p
      come_end a e_a e_f e_m =
          let ls = lefts G.channel G.stored_on in
          let left'' = updated ls.left' p 0 in
          let m' : Shelf R = record { reading = G.reading'; link = G.link'; job = updated m.job p rests; left = left'' } in
          let F' : Fits rules.blank pl (rules.means t) G.reading' G.link' (updated m.job p rests) =
          rw e_m
          (rw (← updated_twice m.job p (forced act.0 G.said) rests)
          (rest_again rules.blank pl (brought rules.blank M p o) G.reading' G.link' (updated m.job p (forced act.0 G.said)) p in_p brought_fits)) in
          let rest : activity_of (rules.means t) p ≡ idle = does_at F' p rests in_p (updated_same m.job p rests) in
          let e_s : said_of (rules.answer s p) ≡ some G.said = ap said_of (e_a ∙ (let f = forced_now in cc (e_f, f))) ∙ said_back G.said in
          record {
            channel = G.channel;
            then = m';
            turn = rw e_s
                (turn_both act.0 G.channel G.said G.reading' G.link' left'' act.1 G.forces (let e = updated_same ls.left' p 0 in omega arith)
                (others_updated G.channel ls.left' 0 ls.others));
            shelved = close m' F' (λ q ne. updated_other m.job p _ q ne)
                (λ q ne h b. let e = updated_other ls.left' p 0 q ne in let k = ls.bound q ne h b in omega arith)
                (λ b. absurd (b rest));
            puts = comes_to_store idle rest (λ o' k. cc) G.channel G.stored_on;
          }

    -- the answer handed over
    end : (a : Answer) → rules.answer s p ≡ a → activity_of M p ≡ in_force a → rules.means t ≡ does M p idle → TurnMatched s m p
    end a e_a e_d e_m =
        let j = job_forced pl p (m.link p) (activity_of M p) a (m.job p) (ok.fits.activities p in_p) e_d in
        let m' : Shelf R = record { reading = m.reading; link = m.link; job = updated m.job p rests; left = m.left } in
        let F' : Fits rules.blank pl (rules.means t) m.reading m.link (updated m.job p rests) =
        rw e_m (rest_again rules.blank pl M m.reading m.link m.job p in_p ok.fits) in
        let rest : activity_of (rules.means t) p ≡ idle = does_at F' p rests in_p (updated_same m.job p rests) in
        let e_s : said_of (rules.answer s p) ≡ some j.1 = ap said_of (e_a ∙ j.3) ∙ said_back j.1 in
        record {
          channel = none;
          then = m';
          turn = rw e_s (turn_end j.0 j.1 j.2);
          shelved = close m' F' (λ q ne. updated_other m.job p _ q ne) (kept_left (λ c z. let e = z.comes.waited in cc)) (λ b. absurd (b rest));
          puts = λ c e. absurd cc;
        }

    by_turn : (a : Answer) (M' : Meaning R) → Turned rules.blank M p a M' → rules.answer s p ≡ a → rules.means t ≡ M' → TurnMatched s m p
    by_turn a M' (alters_nothing) e_a e_m = still e_a e_m
    by_turn a M' (comes o e_d) e_a e_m = come o e_d e_a e_m
    by_turn a M' (ends x e_d) e_a e_m = end x e_a e_d e_m
    by_turn a M' (comes_and_ends o x e_d e_f) e_a e_m = come_end o e_d x e_a e_f e_m

    pub turn_matched : TurnMatched s m p
    turn_matched = by_turn (rules.answer s p) (rules.means t) (rules.turns s p ok.sound (in_plan p in_p) busy).3 refl refl
