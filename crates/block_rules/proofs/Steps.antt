-- Every step keeps what `Sound` says.
use Rattle.std.proofs.Common.{◌≡◌, ℕ, ◌+◌, ◌<◌, ◌≤◌, Bool, true, false, eqb, ltb, ◌⊎◌, List, [], ◌∷◌, not, reverse, length, get_or, set, Some, None, Option, sym, refl, ap, ◌∙◌, subst, inl, inr, ⊎_elim, arith}
use Rattle.std.proofs.lemmas.List.{length-set, get_or-set_same, get_or-set_other, length-append, length-reverse, length_push, set-get_or}
use Rattle.std.proofs.lemmas.List.Filters.{length-filter_both}
use Rattle.std.proofs.lemmas.Bool.{eqb-true, cases_eq, cases_lt, ltb-true, ltb-false}
use Rattle.plan.specs.Plans.{width, need}
use Rattle.plan.specs.declared.check.ShelfType.TheVariants.{Block}
use Rattle.shelf.specs.Meaning.{Own}
use Rattle.shelf.proofs.Basics.{own_below}
use Rattle.block_rules.specs.declared.parts.LinkState.{LinkState}
use Rattle.block_rules.specs.declared.parts.Access.{Access}
use Rattle.block_rules.specs.declared.parts.Access.TheVariants.{ReadCurrent, SetGuard, Compare, ReadBlock}
use Rattle.block_rules.specs.declared.parts.Job.{Job}
use Rattle.block_rules.specs.declared.parts.Job.TheVariants.{Idle, Taking, Putting, Scanning, Checking}
use Rattle.block_rules.specs.Blocks.{share, Party, in_hand, State, unused, nobody, link, party, current_of, with_job, emptied, seeing, guarding, holding, channel_held, is_live, start_take, taken_up, put_from, start_put, start_check, dropped, compared, turn_take, after_put, retiring, missing, turn_put, among, noted, noting, unread, freeing, turn_scan, turn_job, turned}
use Rattle.block_rules.specs.Counting.{same, times, stands_with, free_with, standings}
use Rattle.block_rules.specs.Sound.{LinkOk, JobOk, PartyOk, Sound}
use Rattle.block_rules.proofs.Counts.{same_self, times_nil, times_cons, times_one, times_append, times_push, times_reverse, times_set, times_at, freed_parts, freed_none, few_held}
use Rattle.block_rules.proofs.Frame.{current_not_free, once_with, sound_once, changed, free_after, keeps}

pub none_not_some : (c : ℕ) → None ≡ Some c → ⊥
none_not_some c e = cc

pub some_same : (c d : ℕ) → Some c ≡ Some d → c ≡ d
some_same c d e = cc

pub some_itself : (st : Option ℕ) (c : ℕ) → st ≡ Some c → st ≡ Some (channel_held st)
some_itself st c e = e ∙ ap Some (sym (ap channel_held e))

module _ {R : Type 0} (s : State R) (ok : Sound s) (p : ℕ) (in_p : p < s.plan.parties) where
  pub task_at : (job : Job) → (party s p).job ≡ job → JobOk s p (party s p) job
  task_at job e = subst (JobOk s p (party s p)) e (ok.jobs p in_p).task

  pub size_at : (job : Job) → (party s p).job ≡ job → length (party s p).ready + length (party s p).retired + length (in_hand job) ≡ share s.plan
  size_at job e = omega (arith, ap (λ x. length (in_hand x)) e, (ok.jobs p in_p).size)

  -- only the seat changes, and perhaps the row
  quiet : (row' : List R) (q' : Party) → length row' ≡ length s.row → ((b : ℕ) → stands_with b q' ≡ stands_with b (party s p)) → ((b : ℕ) → free_with b q' ≤ free_with b (party s p)) →
      PartyOk (changed s row' s.current s.links p q') p q' → Sound (changed s row' s.current s.links p q')
  quiet row' q' rows moves frees job = keeps s ok p in_p row' s.current s.links q' (record {
    rows = rows;
    currents = refl;
    links = refl;
    moves = λ b. omega (arith, moves b);
    others = λ i _. refl;
    held = λ i h c e. let o = ok.held i h c e in record {
      channel = o.channel;
      guarded = o.guarded;
      known = o.known;
      not_free = omega (arith, free_after s ok p in_p row' s.current s.links q' (link s i).seen, frees (link s i).seen, o.not_free);
    };
    stays = λ i c h e. inl (e, refl);
    job = job;
  })

  -- a link of the party changes, and its job
  relinked : (j : ℕ) (l' : LinkState) (q' : Party) → Own s.plan p j → ((b : ℕ) → stands_with b q' ≡ stands_with b (party s p)) → ((b : ℕ) → free_with b q' ≡ free_with b (party s p)) →
      LinkOk s l' → ((c : ℕ) → l'.hold ≡ Some c → (((link s j).hold ≡ Some c) × ((link s j).seen ≡ l'.seen)) ⊎ (1 ≤ times l'.seen s.current)) →
      PartyOk (changed s s.row s.current (set s.links j l') p q') p q' → Sound (changed s s.row s.current (set s.links j l') p q')
  relinked j l' q' own moves frees ok' stays job = keeps s ok p in_p s.row s.current (set s.links j l') q' (record {
    rows = refl;
    currents = refl;
    links = length-set s.links j l';
    moves = λ b. omega (arith, moves b);
    others = λ i no. get_or-set_other s.links j i l' unused (λ e. no (subst (Own s.plan p) (sym e) own));
    held = λ i h. ⊎_elim
        (λ (e : i ≡ j). subst (LinkOk t) (sym (ap (λ x. get_or (set s.links j l') x unused) e ∙ at_j)) (over l' ok'))
        (λ (ne : i ≡ j → ⊥). subst (LinkOk t) (sym (get_or-set_other s.links j i l' unused ne)) (over (link s i) (ok.held i h)))
        (cases_eq i j);
    stays = λ i c h. ⊎_elim
        (λ (e : i ≡ j). subst (Stays c i) (sym (ap (λ x. get_or (set s.links j l') x unused) e ∙ at_j)) (subst (λ x. Stays c x l') (sym e) (stays c)))
        (λ (ne : i ≡ j → ⊥). subst (Stays c i) (sym (get_or-set_other s.links j i l' unused ne)) (λ e. inl (e, refl)))
        (cases_eq i j);
    job = job;
  })
    where
      t : State R
      t = changed s s.row s.current (set s.links j l') p q'

      Stays : ℕ → ℕ → LinkState → Type 0
      Stays c i l = l.hold ≡ Some c → (((link s i).hold ≡ Some c) × ((link s i).seen ≡ l.seen)) ⊎ (1 ≤ times l.seen s.current)

      at_j : get_or (set s.links j l') j unused ≡ l'
      at_j = get_or-set_same s.links j l' unused (omega (arith, own_below s.plan p j in_p own, ok.links))

      over : (l : LinkState) → LinkOk s l → LinkOk t l
      over l o c e = let k = o c e in record {
        channel = k.channel;
        guarded = k.guarded;
        known = k.known;
        not_free = omega (arith, free_after s ok p in_p s.row s.current (set s.links j l') q' l.seen, frees l.seen, k.not_free);
      }

  tied_at : (j : ℕ) (l' : LinkState) → Own s.plan p j → get_or (set s.links j l') j unused ≡ l'
  tied_at j l' own = get_or-set_same s.links j l' unused (omega (arith, own_below s.plan p j in_p own, ok.links))

  -- a job with nothing in hand after one with nothing in hand
  same_stands : (job job' : Job) → (party s p).job ≡ job → ((b : ℕ) → times b (in_hand job) ≡ times b (in_hand job')) → (b : ℕ) → stands_with b (with_job (party s p) job') ≡ stands_with b (party s p)
  same_stands job job' e h b = omega (arith, h b, ap (λ x. times b (in_hand x)) e)

  same_frees : (job job' : Job) → (party s p).job ≡ job → ((b : ℕ) → times b (in_hand job) ≡ times b (in_hand job')) → (b : ℕ) → free_with b (with_job (party s p) job') ≡ free_with b (party s p)
  same_frees job job' e h b = omega (arith, h b, ap (λ x. times b (in_hand x)) e)

  -- ** starts

  pub sound_take : (j c : ℕ) → (party s p).job ≡ Idle → Own s.plan p j → c < s.plan.channels → Sound (start_take s p j c)
  sound_take j c e own h = relinked j (emptied (link s j)) (with_job (party s p) (Taking j c ReadCurrent)) own
      (same_stands Idle (Taking j c ReadCurrent) e (λ b. refl)) (same_frees Idle (Taking j c ReadCurrent) e (λ b. refl))
      (λ d k. absurd (none_not_some d k)) (λ d k. absurd (none_not_some d k))
      (record { size = size_at Idle e; task = record { spare = task_at Idle e; own = own; channel = h; stage = ap (λ l. l.hold) (tied_at j (emptied (link s j)) own) } })

  pub sound_check : (j c : ℕ) → (party s p).job ≡ Idle → Own s.plan p j → (link s j).hold ≡ Some c → Sound (start_check s p j)
  sound_check j c e own h = quiet s.row (with_job (party s p) (Checking j)) refl
      (same_stands Idle (Checking j) e (λ b. refl)) (λ b. omega (arith, same_frees Idle (Checking j) e (λ x. refl) b))
      (record { size = size_at Idle e; task = record { spare = task_at Idle e; own = own; held = some_itself (link s j).hold c h } })

  sound_put_from : (j c : ℕ) (r : R) → (party s p).job ≡ Idle → Own s.plan p j → (link s j).hold ≡ Some c → (xs : List ℕ) → (party s p).ready ≡ xs → Sound (put_from s p j r xs)
  sound_put_from j c r e own h [] x = ok
  sound_put_from j c r e own h (b ∷ rest) x = quiet (set s.row b r) (taken_up (party s p) j b rest) (length-set s.row b r)
      (λ a. omega (arith, ap (times a) x, times_cons a b rest, times_one a b, times_nil a, ap (λ y. times a (in_hand y)) e))
      (λ a. omega (arith, ap (times a) x, times_cons a b rest, times_one a b, times_nil a, ap (λ y. times a (in_hand y)) e))
      (record { size = omega (arith, size_at Idle e, ap length x); task = record { own = own; held = some_itself (link s j).hold c h } })

  pub sound_put : (j c : ℕ) (r : R) → (party s p).job ≡ Idle → Own s.plan p j → (link s j).hold ≡ Some c → Sound (start_put s p j r)
  sound_put j c r e own h = sound_put_from j c r e own h (party s p).ready refl

  pub sound_drop : (j : ℕ) → (party s p).job ≡ Idle → Own s.plan p j → Sound (dropped s j)
  sound_drop j e own = subst (λ (x : List Party). Sound (record { plan = s.plan; row = s.row; current = s.current; links = set s.links j (emptied (link s j)); parties = x })) (set-get_or s.parties p nobody)
      (relinked j (emptied (link s j)) (party s p) own (λ b. refl) (λ b. refl)
      (λ d k. absurd (none_not_some d k)) (λ d k. absurd (none_not_some d k))
      (record { size = (ok.jobs p in_p).size; task = subst (JobOk (changed s s.row s.current (set s.links j (emptied (link s j))) p (party s p)) p (party s p)) (sym e) (task_at Idle e) }))

  -- ** turns of a take

  pub current_at : (c : ℕ) → c < s.plan.channels → 1 ≤ times (current_of s c) s.current
  current_at c h = times_at s.current c (omega (arith, ok.currents))

  pub current_known : (b : ℕ) → 1 ≤ times b s.current → b < need Block s.plan
  unfolding standings
  current_known b h = grind (arith, ok.once b, h, Rattle.std.proofs.lemmas.Bool.Decides.nat_tests)

  sound_compared : (j c : ℕ) → (party s p).job ≡ Taking j c Compare → (t : Bool) → eqb (current_of s c) (link s j).seen ≡ t → Sound (compared s p j c t)
  sound_compared j c e true k =
      let o = task_at (Taking j c Compare) e in
      let b = (link s j).seen in
      let l' : LinkState = holding (link s j) c in
      let now : 1 ≤ times b s.current = subst (λ x. 1 ≤ times x s.current) (eqb-true (current_of s c) b k) (current_at c o.channel) in
      relinked j l' (with_job (party s p) (Taking j c ReadBlock)) o.own
      (same_stands (Taking j c Compare) (Taking j c ReadBlock) e (λ x. refl)) (same_frees (Taking j c Compare) (Taking j c ReadBlock) e (λ x. refl))
      (λ d h. record { channel = subst (λ x. x < s.plan.channels) (some_same c d h) o.channel; guarded = o.stage.1; not_free = current_not_free s b (sound_once s ok b) now; known = current_known b now })
      (λ d h. inr now)
      (record { size = size_at (Taking j c Compare) e; task = record { spare = o.spare; own = o.own; channel = o.channel; stage = ap (λ l. l.hold) (tied_at j l' o.own) } })
  sound_compared j c e false k =
      let o = task_at (Taking j c Compare) e in
      quiet s.row (with_job (party s p) (Taking j c ReadCurrent)) refl
      (same_stands (Taking j c Compare) (Taking j c ReadCurrent) e (λ x. refl)) (λ b. omega (arith, same_frees (Taking j c Compare) (Taking j c ReadCurrent) e (λ x. refl) b))
      (record { size = size_at (Taking j c Compare) e; task = record { spare = o.spare; own = o.own; channel = o.channel; stage = o.stage.0 } })

  sound_turn_take : (j c : ℕ) (a : Access) → (party s p).job ≡ Taking j c a → Sound (turn_take s p j c a)
  sound_turn_take j c ReadCurrent e =
      let o = task_at (Taking j c ReadCurrent) e in
      let l' : LinkState = seeing (link s j) (current_of s c) in
      relinked j l' (with_job (party s p) (Taking j c SetGuard)) o.own
      (same_stands (Taking j c ReadCurrent) (Taking j c SetGuard) e (λ x. refl)) (same_frees (Taking j c ReadCurrent) (Taking j c SetGuard) e (λ x. refl))
      (λ d k. absurd (none_not_some d (sym o.stage ∙ k))) (λ d k. absurd (none_not_some d (sym o.stage ∙ k)))
      (record { size = size_at (Taking j c ReadCurrent) e; task = record { spare = o.spare; own = o.own; channel = o.channel; stage = ap (λ l. l.hold) (tied_at j l' o.own) ∙ o.stage } })
  sound_turn_take j c SetGuard e =
      let o = task_at (Taking j c SetGuard) e in
      let l' : LinkState = guarding (link s j) in
      relinked j l' (with_job (party s p) (Taking j c Compare)) o.own
      (same_stands (Taking j c SetGuard) (Taking j c Compare) e (λ x. refl)) (same_frees (Taking j c SetGuard) (Taking j c Compare) e (λ x. refl))
      (λ d k. absurd (none_not_some d (sym o.stage ∙ k))) (λ d k. absurd (none_not_some d (sym o.stage ∙ k)))
      (record { size = size_at (Taking j c SetGuard) e; task = record { spare = o.spare; own = o.own; channel = o.channel; stage = subst (λ l. (l.hold ≡ None) × (l.guard ≡ Some l.seen)) (sym (tied_at j l' o.own)) (o.stage, refl) } })
  sound_turn_take j c Compare e = sound_compared j c e (eqb (current_of s c) (link s j).seen) refl
  sound_turn_take j c ReadBlock e =
      let o = task_at (Taking j c ReadBlock) e in
      quiet s.row (with_job (party s p) Idle) refl
      (same_stands (Taking j c ReadBlock) Idle e (λ x. refl)) (λ b. omega (arith, same_frees (Taking j c ReadBlock) Idle e (λ x. refl) b))
      (record { size = size_at (Taking j c ReadBlock) e; task = o.spare })

  -- ** turns of a put

  after_put_hand : (j : ℕ) (xs : List ℕ) → in_hand (after_put j xs) ≡ []
  after_put_hand j [] = refl
  after_put_hand j (x ∷ xs) = refl

  after_put_job : (t : State R) (q : Party) (j : ℕ) → Own t.plan p j → j < width t.plan → (xs : List ℕ) → q.ready ≡ xs → length q.read ≡ 0 → JobOk t p q (after_put j xs)
  after_put_job t q j own h [] e z = record { own = own; within = omega (arith, h); none = ap length e; few = omega arith; met = λ i c k _ _. absurd (omega (arith, k)) }
  after_put_job t q j own h (x ∷ xs) e z = omega (arith, ap length e)

  sound_turn_put : (j h : ℕ) → (party s p).job ≡ Putting j h → (t : Bool) → is_live s j ≡ t → Sound (turn_put s p j h t)
  sound_turn_put j h e true k =
      let o = task_at (Putting j h) e in
      let c = channel_held (link s j).hold in
      let b = (link s j).seen in
      let in_j = own_below s.plan p j in_p o.own in
      let in_c : c < length s.current = omega (arith, (ok.held j in_j c o.held).channel, ok.currents) in
      let is : current_of s c ≡ b = eqb-true (current_of s c) b k in
      let q' : Party = retiring (party s p) j b in
      let cur' = set s.current c h in
      keeps s ok p in_p s.row cur' s.links q' (record {
        rows = refl;
        currents = length-set s.current c h;
        links = refl;
        moves = λ a. omega (arith, times_set a s.current c h in_c, ap (same a) is, times_push a (party s p).retired b, ap (times a) (after_put_hand j (party s p).ready), times_nil a, ap (λ y. times a (in_hand y)) e, times_one a h);
        others = λ i _. refl;
        held = λ i hi d ei. let u = ok.held i hi d ei in record {
          channel = u.channel;
          guarded = u.guarded;
          known = u.known;
          not_free = omega (arith, free_after s ok p in_p s.row cur' s.links q' (link s i).seen, u.not_free, ap (times (link s i).seen) (after_put_hand j (party s p).ready), times_nil (link s i).seen);
        };
        stays = λ i d hi ei. inl (ei, refl);
        job = record {
          size = omega (arith, size_at (Putting j h) e, length_push (party s p).retired b, ap length (after_put_hand j (party s p).ready));
          task = after_put_job (changed s s.row cur' s.links p q') q' j o.own in_j (party s p).ready refl refl;
        };
      })
  sound_turn_put j h e false k = quiet s.row (missing (party s p) h) refl
      (λ a. omega (arith, times_cons a h (party s p).ready, times_one a h, times_nil a, ap (λ y. times a (in_hand y)) e))
      (λ a. omega (arith, times_cons a h (party s p).ready, times_one a h, times_nil a, ap (λ y. times a (in_hand y)) e))
      (record { size = omega (arith, size_at (Putting j h) e); task = omega arith })

  -- ** turns of a scan

  noted_more : (b : ℕ) (g : Option ℕ) (read : List ℕ) → times b read ≤ times b (noted g read)
  noted_more b None read = omega arith
  noted_more b (Some x) read = omega (arith, times_push b read x)

  noted_length : (g : Option ℕ) (read : List ℕ) → length (noted g read) ≤ length read + 1
  noted_length None read = omega arith
  noted_length (Some x) read = omega (arith, length_push read x)

  noted_it : (b : ℕ) (g : Option ℕ) (read : List ℕ) → g ≡ Some b → 1 ≤ times b (noted g read)
  noted_it b g read e = subst (λ x. 1 ≤ times b (noted x read)) (sym e) (omega (arith, times_push b read b, same_self b))

  module _ (j k : ℕ) (e : (party s p).job ≡ Scanning j k) where
    read' : List ℕ
    read' = noted (link s k).guard (party s p).read

    met' : (i c : ℕ) → i < k + 1 → (link s i).hold ≡ Some c → 1 ≤ times (link s i).seen (party s p).retired → 1 ≤ times (link s i).seen read'
    unfolding read'
    met' i c h on_c m =
        let o = task_at (Scanning j k) e in
        ⊎_elim
        (λ (is : i ≡ k). noted_it (link s i).seen (link s k).guard (party s p).read (ap (λ x. (link s x).guard) (sym is) ∙ (ok.held i (omega (arith, is, o.within)) c on_c).guarded))
        (λ (ne : i ≡ k → ⊥). omega (arith, noted_more (link s i).seen (link s k).guard (party s p).read, o.met i c (omega (arith, ne)) on_c m))
        (cases_eq i k)

    sound_turn_scan : (t : Bool) → ltb (k + 1) (width s.plan) ≡ t → Sound (turn_scan s p j k (link s k).guard t)
    unfolding read'
    sound_turn_scan true more =
        let o = task_at (Scanning j k) e in
        quiet s.row (noting (party s p) j k (link s k).guard) refl
        (same_stands (Scanning j k) (Scanning j (k + 1)) e (λ x. refl)) (λ b. omega (arith, same_frees (Scanning j k) (Scanning j (k + 1)) e (λ x. refl) b))
        (record {
          size = size_at (Scanning j k) e;
          task = record {
            own = o.own;
            within = ltb-true (k + 1) (width s.plan) more;
            none = o.none;
            few = omega (arith, noted_length (link s k).guard (party s p).read, o.few);
            met = met';
          };
        })
    sound_turn_scan false more =
        let o = task_at (Scanning j k) e in
        let rd = noted (link s k).guard (party s p).read in
        let old = (party s p).retired in
        let q' : Party = freeing (party s p) rd in
        let last : width s.plan ≤ k + 1 = ltb-false (k + 1) (width s.plan) more in
        keeps s ok p in_p s.row s.current s.links q' (record {
          rows = refl;
          currents = refl;
          links = refl;
          moves = λ a. omega (arith, freed_parts a (λ x. among x rd) old, times_append a (reverse (unread rd old)) (party s p).ready, times_reverse a (unread rd old), ap (λ y. times a (in_hand y)) e);
          others = λ i _. refl;
          held = λ i hi d ei. let u = ok.held i hi d ei in let a = (link s i).seen in
              let nothing : times a (unread rd old) ≡ 0 = ⊎_elim
              (λ (z : times a old < 1). omega (arith, freed_parts a (λ x. among x rd) old, z))
              (λ (z : 1 ≤ times a old). freed_none a rd old (met' i d (omega (arith, hi, last)) ei z))
              (cases_lt (times a old) 1) in
              record {
                channel = u.channel;
                guarded = u.guarded;
                known = u.known;
                not_free = omega (arith, free_after s ok p in_p s.row s.current s.links q' a, u.not_free, nothing, times_append a (reverse (unread rd old)) (party s p).ready, times_reverse a (unread rd old), ap (λ y. times a (in_hand y)) e);
              };
          stays = λ i d hi ei. inl (ei, refl);
          job = record {
            size = omega (arith, size_at (Scanning j k) e, length-filter_both (λ x. among x rd) (λ x. not (among x rd)) (λ _. refl) old, length-append (reverse (unread rd old)) (party s p).ready, length-reverse (unread rd old));
            task = omega (arith, size_at (Scanning j k) e, o.none, o.few, o.within, noted_length (link s k).guard (party s p).read, few_held rd old (λ b. omega (arith, once_with s b (sound_once s ok b) p (omega (arith, in_p, ok.parties)))), length-filter_both (λ x. among x rd) (λ x. not (among x rd)) (λ _. refl) old, length-append (reverse (unread rd old)) (party s p).ready, length-reverse (unread rd old));
          };
        })

  sound_turn_job : (job : Job) → (party s p).job ≡ job → Sound (turn_job s p job)
  sound_turn_job Idle e = ok
  sound_turn_job (Taking j c a) e = sound_turn_take j c a e
  sound_turn_job (Putting j h) e = sound_turn_put j h e (is_live s j) refl
  sound_turn_job (Scanning j k) e = sound_turn_scan j k e (ltb (k + 1) (width s.plan)) refl
  sound_turn_job (Checking j) e =
      let o = task_at (Checking j) e in
      quiet s.row (with_job (party s p) Idle) refl
      (same_stands (Checking j) Idle e (λ x. refl)) (λ b. omega (arith, same_frees (Checking j) Idle e (λ x. refl) b))
      (record { size = size_at (Checking j) e; task = o.spare })

  pub sound_turn : Sound (turned s p)
  sound_turn = sound_turn_job (party s p).job refl
