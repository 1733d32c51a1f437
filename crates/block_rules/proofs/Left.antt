-- The turns left.
use Rattle.std.proofs.Common.{◌≡◌, ℕ, ◌+◌, ◌-◌, ◌<◌, ◌≤◌, Bool, true, false, eqb, ltb, ◌≢◌, ◌⊎◌, List, [], ◌∷◌, length, get_or, set, Option, sym, refl, ap, ◌∙◌, subst, inl, inr, ⊎_elim, arith, Some}
use Rattle.std.proofs.lemmas.List.{get_or-set_same, get_or-set_other, set-get_or}
use Rattle.std.proofs.lemmas.Bool.{eqb-true, eq-eqb, cases_eq, both_ways}
use Rattle.plan.specs.Plans.{width, patience}
use Rattle.plan.specs.declared.check.ShelfType.TheVariants.{Block}
use Rattle.shelf.specs.Meaning.{Own}
use Rattle.shelf.proofs.Basics.{own_apart, own_below}
use Rattle.block_rules.specs.declared.parts.LinkState.{LinkState}
use Rattle.block_rules.specs.declared.parts.Access.{Access}
use Rattle.block_rules.specs.declared.parts.Access.TheVariants.{ReadCurrent, SetGuard, Compare, ReadBlock}
use Rattle.block_rules.specs.declared.parts.Job.{Job}
use Rattle.block_rules.specs.declared.parts.Job.TheVariants.{Idle, Taking, Putting, Scanning, Checking}
use Rattle.block_rules.specs.Blocks.{Party, State, unused, nobody, link, party, current_of, with_job, emptied, seeing, guarding, holding, channel_held, is_live, taken_up, put_from, dropped, compared, turn_take, after_put, retiring, missing, turn_put, noted, noting, freeing, turn_scan, turn_job}
use Rattle.block_rules.specs.Sound.{PutOk, Sound}
use Rattle.block_rules.specs.Means.{take_left, put_left, job_left, turns_left}
use Rattle.block_rules.proofs.Frame.{changed}
use Rattle.block_rules.proofs.Steps.{task_at}

-- the channel of a waiting operation, by its job
abbrev pub channel_in : {R : Type 0} → State R → Job → ℕ → Type 0
channel_in s Idle c = ⊥
channel_in s (Taking j e ReadCurrent) c = e ≡ c
channel_in s (Taking j e SetGuard) c = e ≡ c
channel_in s (Taking j e Compare) c = e ≡ c
channel_in s (Taking j e ReadBlock) c = ⊥
channel_in s (Putting j h) c = (link s j).hold ≡ Some c
channel_in s (Scanning j k) c = ⊥
channel_in s (Checking j) c = (link s j).hold ≡ Some c

-- party p's turn brings a put into force on a live link of channel c
pub record PutsLive {R : Type 0} (s : State R) (p c : ℕ) : Type 0 where
  pub on_link : ℕ
  pub block : ℕ
  pub putting : (party s p).job ≡ Putting on_link block
  pub held : (link s on_link).hold ≡ Some c
  pub alive : current_of s c ≡ (link s on_link).seen

take_most : (a : Access) (t : Bool) → take_left a t ≤ 6
take_most ReadCurrent t = omega arith
take_most SetGuard true = omega arith
take_most SetGuard false = omega arith
take_most Compare true = omega arith
take_most Compare false = omega arith
take_most ReadBlock t = omega arith

take_least : (a : Access) (t : Bool) → 1 ≤ take_left a t
take_least ReadCurrent t = omega arith
take_least SetGuard true = omega arith
take_least SetGuard false = omega arith
take_least Compare true = omega arith
take_least Compare false = omega arith
take_least ReadBlock t = omega arith

put_most : (h : ℕ) (xs : List ℕ) → put_left h xs ≤ h + 1
put_most h [] = omega arith
put_most h (x ∷ xs) = omega arith

put_least : (h : ℕ) (xs : List ℕ) → 1 ≤ put_left h xs
put_least h [] = omega arith
put_least h (x ∷ xs) = omega arith

guards_more : (t : Bool) → take_left Compare t < take_left SetGuard t
guards_more true = omega arith
guards_more false = omega arith

abbrev is_taking : Job → Bool
is_taking Idle = false
is_taking (Taking j c a) = true
is_taking (Putting j h) = false
is_taking (Scanning j k) = false
is_taking (Checking j) = false

no_taking : (u v : ℕ) (a : Access) (job : Job) → is_taking job ≡ false → job ≡ Taking u v a → ⊥
no_taking u v a job f e = both_ways (is_taking job) f (ap is_taking e)

same_access : (i e : ℕ) (a : Access) (u v : ℕ) (b : Access) → Taking i e a ≡ Taking u v b → a ≡ b
same_access i e a u v b k = cc

same_channel : (i e : ℕ) (a : Access) (u v : ℕ) (b : Access) → Taking i e a ≡ Taking u v b → e ≡ v
same_channel i e a u v b k = cc

module _ {R : Type 0} (s : State R) (ok : Sound s) (p : ℕ) (in_p : p < s.plan.parties) where
  in_parties : p < length s.parties
  in_parties = omega (arith, ok.parties)

  pub most : (job : Job) → job_left s (party s p) job ≤ patience Block s.plan + 1
  most Idle = omega arith
  most (Taking j c a) = omega (arith, take_most a (eqb (current_of s c) (link s j).seen))
  most (Putting j h) = omega (arith, put_most (width s.plan) (party s p).ready)
  most (Scanning j k) = omega arith
  most (Checking j) = omega arith

  pub least : (job : Job) → (party s p).job ≡ job → job ≢ Idle → 1 ≤ job_left s (party s p) job
  least Idle e runs = absurd (runs refl)
  least (Taking j c a) e runs = take_least a (eqb (current_of s c) (link s j).seen)
  least (Putting j h) e runs = put_least (width s.plan) (party s p).ready
  least (Scanning j k) e runs = omega (arith, (task_at s ok p in_p (Scanning j k) e).within)
  least (Checking j) e runs = omega arith

  -- p's own turn
  module _ (row' : List R) (current' : List ℕ) (links' : List LinkState) (q' : Party) where
    ended : q'.job ≡ Idle → (get_or (set s.parties p q') p nobody).job ≡ Idle
    ended e = ap (λ q. q.job) (get_or-set_same s.parties p q' nobody in_parties) ∙ e

    fell : (n : ℕ) → job_left (changed s row' current' links' p q') q' q'.job < n → turns_left (changed s row' current' links' p q') p < n
    fell n h = subst (λ q. job_left (changed s row' current' links' p q') q q.job < n) (sym (get_or-set_same s.parties p q' nobody in_parties)) h

    -- another party's turns left
    pub left_other : (q : ℕ) → q ≢ p → q < s.plan.parties → ((i : ℕ) → (Own s.plan p i → ⊥) → get_or links' i unused ≡ link s i) →
        ((j e : ℕ) (a : Access) → (party s q).job ≡ Taking j e a → (get_or current' e 0 ≡ current_of s e) ⊎ (a ≡ ReadBlock)) → turns_left (changed s row' current' links' p q') q ≡ turns_left s q
    left_other q ne in_q same_links same_current =
        ap (λ x. job_left (changed s row' current' links' p q') x x.job) (get_or-set_other s.parties p q q' nobody ne) ∙ go (party s q).job refl
      where
        go : (job : Job) → (party s q).job ≡ job → job_left (changed s row' current' links' p q') (party s q) job ≡ job_left s (party s q) job
        go Idle e = refl
        go (Taking j c a) e =
            let o = task_at s ok q in_q (Taking j c a) e in
            ⊎_elim
            (λ (is : get_or current' c 0 ≡ current_of s c). ap (λ x. take_left a (eqb x (get_or links' j unused).seen)) is)
            (λ (is : a ≡ ReadBlock). subst (λ b. take_left b (eqb (get_or current' c 0) (get_or links' j unused).seen) ≡ take_left b (eqb (current_of s c) (get_or links' j unused).seen)) (sym is) refl)
            (same_current j c a e) ∙ ap (λ l. take_left a (eqb (current_of s c) l.seen)) (same_links j (λ u. own_apart s.plan q p j o.own u ne))
        go (Putting j h) e = refl
        go (Scanning j k) e = refl
        go (Checking j) e = refl

  linked_at : (j : ℕ) (l' : LinkState) → Own s.plan p j → get_or (set s.links j l') j unused ≡ l'
  linked_at j l' own = get_or-set_same s.links j l' unused (omega (arith, own_below s.plan p j in_p own, ok.links))

  abbrev pub Falls : Job → Type 0
  Falls job = ((party (turn_job s p job) p).job ≡ Idle) ⊎ (turns_left (turn_job s p job) p < job_left s (party s p) job)

  falls_compared : (j c : ℕ) (t : Bool) → ((party (compared s p j c t) p).job ≡ Idle) ⊎ (turns_left (compared s p j c t) p < take_left Compare t)
  falls_compared j c true = inr (fell s.row s.current (set s.links j (holding (link s j) c)) (with_job (party s p) (Taking j c ReadBlock)) 2 (omega arith))
  falls_compared j c false = inr (fell s.row s.current s.links (with_job (party s p) (Taking j c ReadCurrent)) 5 (omega arith))

  falls_put : (j h : ℕ) (t : Bool) (xs : List ℕ) → (party s p).ready ≡ xs → ((party (turn_put s p j h t) p).job ≡ Idle) ⊎ (turns_left (turn_put s p j h t) p < put_left (width s.plan) xs)
  falls_put j h true [] e =
      let q' : Party = retiring (party s p) j (link s j).seen in
      let cur' = set s.current (channel_held (link s j).hold) h in
      inr (fell s.row cur' s.links q' (width s.plan + 1) (subst (λ y. job_left (changed s s.row cur' s.links p q') q' (after_put j y) < width s.plan + 1) (sym e) (omega arith)))
  falls_put j h true (x ∷ xs) e =
      let q' : Party = retiring (party s p) j (link s j).seen in
      inl (ended s.row s.current s.links q' (ap (after_put j) e))
  falls_put j h false xs e = inl (ended s.row s.current s.links (missing (party s p) h) refl)

  falls_scan : (j k : ℕ) (g : Option ℕ) → (party s p).job ≡ Scanning j k → (t : Bool) → ((party (turn_scan s p j k g t) p).job ≡ Idle) ⊎ (turns_left (turn_scan s p j k g t) p < width s.plan - k)
  falls_scan j k g e true = inr (fell s.row s.current s.links (noting (party s p) j k g) (width s.plan - k) (omega (arith, (task_at s ok p in_p (Scanning j k) e).within)))
  falls_scan j k g e false = inl (ended s.row s.current s.links (freeing (party s p) (noted g (party s p).read)) refl)

  pub falls : (job : Job) → (party s p).job ≡ job → job ≢ Idle → Falls job
  falls Idle e runs = absurd (runs refl)
  falls (Taking j c ReadCurrent) e runs =
      let o = task_at s ok p in_p (Taking j c ReadCurrent) e in
      let l' : LinkState = seeing (link s j) (current_of s c) in
      inr (fell s.row s.current (set s.links j l') (with_job (party s p) (Taking j c SetGuard)) 4
      (subst (λ l. take_left SetGuard (eqb (current_of s c) l.seen) < 4) (sym (linked_at j l' o.own)) (subst (λ t. take_left SetGuard t < 4) (sym (eq-eqb (current_of s c) (current_of s c) refl)) (omega arith))))
  falls (Taking j c SetGuard) e runs =
      let o = task_at s ok p in_p (Taking j c SetGuard) e in
      let l' : LinkState = guarding (link s j) in
      inr (fell s.row s.current (set s.links j l') (with_job (party s p) (Taking j c Compare)) (take_left SetGuard (eqb (current_of s c) (link s j).seen))
      (subst (λ l. take_left Compare (eqb (current_of s c) l.seen) < take_left SetGuard (eqb (current_of s c) (link s j).seen)) (sym (linked_at j l' o.own)) (guards_more (eqb (current_of s c) (link s j).seen))))
  falls (Taking j c Compare) e runs = falls_compared j c (eqb (current_of s c) (link s j).seen)
  falls (Taking j c ReadBlock) e runs = inl (ended s.row s.current s.links (with_job (party s p) Idle) refl)
  falls (Putting j h) e runs = falls_put j h (is_live s j) (party s p).ready refl
  falls (Scanning j k) e runs = falls_scan j k (link s k).guard e (ltb (k + 1) (width s.plan))
  falls (Checking j) e runs = inl (ended s.row s.current s.links (with_job (party s p) Idle) refl)

  -- ** the other parties

  module _ (q : ℕ) (ne : q ≢ p) (in_q : q < s.plan.parties) where
    abbrev pub Kept : State R → Type 0
    Kept t = (turns_left t q ≤ turns_left s q) ⊎ ((c : ℕ) × PutsLive s p c × channel_in s (party s q).job c)

    pub party_left : (row' : List R) (q' : Party) → turns_left (changed s row' s.current s.links p q') q ≤ turns_left s q
    party_left row' q' = omega (arith, left_other row' s.current s.links q' q ne in_q (λ i _. refl) (λ j e a _. inl refl))

    pub link_left : (j : ℕ) (l' : LinkState) (q' : Party) → Own s.plan p j → turns_left (changed s s.row s.current (set s.links j l') p q') q ≤ turns_left s q
    link_left j l' q' own = omega (arith, left_other s.row s.current (set s.links j l') q' q ne in_q (λ i none. get_or-set_other s.links j i l' unused (λ e. none (subst (Own s.plan p) (sym e) own))) (λ j e a _. inl refl))

    pub put_left_lem : (j : ℕ) (r : R) (xs : List ℕ) → turns_left (put_from s p j r xs) q ≤ turns_left s q
    put_left_lem j r [] = omega arith
    put_left_lem j r (h ∷ rest) = party_left (set s.row h r) (taken_up (party s p) j h rest)

    pub drop_left : (j : ℕ) → Own s.plan p j → turns_left (dropped s j) q ≤ turns_left s q
    drop_left j own = subst (λ (x : List Party). turns_left (record { plan = s.plan; row = s.row; current = s.current; links = set s.links j (emptied (link s j)); parties = x }) q ≤ turns_left s q) (set-get_or s.parties p nobody)
        (link_left j (emptied (link s j)) (party s p) own)

    kept_party : (q' : Party) → Kept (changed s s.row s.current s.links p q')
    kept_party q' = inl (party_left s.row q')

    kept_link : (j : ℕ) (l' : LinkState) (q' : Party) → Own s.plan p j → Kept (changed s s.row s.current (set s.links j l') p q')
    kept_link j l' q' own = inl (link_left j l' q' own)

    kept_compared : (j c : ℕ) → Own s.plan p j → (t : Bool) → Kept (compared s p j c t)
    kept_compared j c own true = kept_link j (holding (link s j) c) (with_job (party s p) (Taking j c ReadBlock)) own
    kept_compared j c own false = kept_party (with_job (party s p) (Taking j c ReadCurrent))

    kept_take : (j c : ℕ) (a : Access) → (party s p).job ≡ Taking j c a → Kept (turn_take s p j c a)
    kept_take j c ReadCurrent e = kept_link j (seeing (link s j) (current_of s c)) (with_job (party s p) (Taking j c SetGuard)) (task_at s ok p in_p (Taking j c ReadCurrent) e).own
    kept_take j c SetGuard e = kept_link j (guarding (link s j)) (with_job (party s p) (Taking j c Compare)) (task_at s ok p in_p (Taking j c SetGuard) e).own
    kept_take j c Compare e = kept_compared j c (task_at s ok p in_p (Taking j c Compare) e).own (eqb (current_of s c) (link s j).seen)
    kept_take j c ReadBlock e = kept_party (with_job (party s p) Idle)

    kept_put : (j h : ℕ) → (party s p).job ≡ Putting j h → (t : Bool) → is_live s j ≡ t → Kept (turn_put s p j h t)
    kept_put j h e true k = go (party s q).job refl
      where
        o : PutOk s p j
        o = task_at s ok p in_p (Putting j h) e

        c : ℕ
        c = channel_held (link s j).hold

        q' : Party
        q' = retiring (party s p) j (link s j).seen

        on_c : (link s j).hold ≡ Some c
        on_c = o.held

        elsewhere : ((i e' : ℕ) (a : Access) → (party s q).job ≡ Taking i e' a → (e' ≡ c → ⊥) ⊎ (a ≡ ReadBlock)) → turns_left (changed s s.row (set s.current c h) s.links p q') q ≤ turns_left s q
        elsewhere apart = omega (
          arith,
          left_other s.row (set s.current c h) s.links q' q ne in_q (λ i _. refl)
              (λ i e' a f. ⊎_elim (λ (o : e' ≡ c → ⊥). inl (get_or-set_other s.current c e' h 0 o)) (λ (o : a ≡ ReadBlock). inr o) (apart i e' a f)),
        )

        waiting : (i e' : ℕ) (a : Access) → (party s q).job ≡ Taking i e' a → (e' ≡ c → channel_in s (Taking i e' a) c) →
            (turns_left (changed s s.row (set s.current c h) s.links p q') q ≤ turns_left s q) ⊎ ((c : ℕ) × PutsLive s p c × channel_in s (party s q).job c)
        waiting i e' a f chan = ⊎_elim
            (λ (is : e' ≡ c). inr (c, record { on_link = j; block = h; putting = e; held = on_c; alive = eqb-true (current_of s c) (link s j).seen k }, subst (λ x. channel_in s x c) (sym f) (chan is)))
            (λ (apart : e' ≡ c → ⊥). inl (elsewhere (λ u v b w. inl (λ is. apart (same_channel i e' a u v b (sym f ∙ w) ∙ is)))))
            (cases_eq e' c)

        go : (job : Job) → (party s q).job ≡ job → (turns_left (changed s s.row (set s.current c h) s.links p q') q ≤ turns_left s q) ⊎ ((c : ℕ) × PutsLive s p c × channel_in s (party s q).job c)
        go Idle f = inl (elsewhere (λ u v a w. absurd (no_taking u v a Idle refl (sym f ∙ w))))
        go (Taking i e' ReadCurrent) f = waiting i e' ReadCurrent f (λ is. is)
        go (Taking i e' SetGuard) f = waiting i e' SetGuard f (λ is. is)
        go (Taking i e' Compare) f = waiting i e' Compare f (λ is. is)
        go (Taking i e' ReadBlock) f = inl (elsewhere (λ u v b w. inr (sym (same_access i e' ReadBlock u v b (sym f ∙ w)))))
        go (Putting i g) f = inl (elsewhere (λ u v a w. absurd (no_taking u v a (Putting i g) refl (sym f ∙ w))))
        go (Scanning i n) f = inl (elsewhere (λ u v a w. absurd (no_taking u v a (Scanning i n) refl (sym f ∙ w))))
        go (Checking i) f = inl (elsewhere (λ u v a w. absurd (no_taking u v a (Checking i) refl (sym f ∙ w))))
    kept_put j h e false k = kept_party (missing (party s p) h)

    kept_scan : (j k : ℕ) (g : Option ℕ) (t : Bool) → Kept (turn_scan s p j k g t)
    kept_scan j k g true = kept_party (noting (party s p) j k g)
    kept_scan j k g false = kept_party (freeing (party s p) (noted g (party s p).read))

    pub kept : (job : Job) → (party s p).job ≡ job → Kept (turn_job s p job)
    kept Idle e = inl (omega arith)
    kept (Taking j c a) e = kept_take j c a e
    kept (Putting j h) e = kept_put j h e (is_live s j) refl
    kept (Scanning j k) e = kept_scan j k (link s k).guard (ltb (k + 1) (width s.plan))
    kept (Checking j) e = kept_party (with_job (party s p) Idle)
