-- A block shelf's fields fit each other, and go on to, on the lists that they hold.
use Rattle.std.proofs.Common.{◌≡◌, ℕ, ◌+◌, ◌<◌, ◌≤◌, Bool, true, false, eqb, ltb, List, [], ◌∷◌, map, length, get_or, set, Some, None, Option, sym, refl, ap, ◌∙◌, subst, arith}
use Rattle.std.proofs.lemmas.List.{set-get_or, set_past, length-map, map-set, get_or-map, get_or_past}
use Rattle.std.proofs.lemmas.Bool.{eq-eqb, ne_eqb, ltb-true, ltb-false, true≢false, lt-ltb, le-ltb}
use Rattle.std.proofs.lemmas.Nat.{mul-le}
use Rattle.std.specs.Borrow.{MutBor}
use Rattle.std.specs.List.{IsItemAtMut}
use Rattle.plan.specs.Plans.{width}
use Rattle.plan.specs.declared.check.Plan.{Plan}
use Rattle.shelf.proofs.Basics.{own_below}
use Rattle.block_parts.specs.declared.seat.Seat.{Seat}
use Rattle.block_shelf.specs.declared.block.BlockShelf.{BlockShelf}
use Rattle.block_shelf.specs.States.{block_state}
use Rattle.block_parts.specs.Seats.{party_of, top_of, took_up, going_on}
use Rattle.block_rules.specs.declared.parts.LinkState.{LinkState}
use Rattle.block_rules.specs.declared.parts.Access.{Access}
use Rattle.block_rules.specs.declared.parts.Access.TheVariants.{ReadCurrent, SetGuard, Compare, ReadBlock}
use Rattle.block_rules.specs.declared.parts.Job.{Job}
use Rattle.block_rules.specs.declared.parts.Job.TheVariants.{Taking, Putting, Scanning}
use Rattle.block_rules.specs.Blocks.{Party, in_hand, State, state_of, nobody, link, party, current_of, with_job, with_party, with_both, seeing, guarding, holding, channel_held, is_live, taken_up, put_from, start_put, compared, retiring, missing, turn_put, noted, freeing, turn_scan, turn_job, rests}
use Rattle.block_rules.specs.Counting.{same}
use Rattle.block_rules.specs.Sound.{Sound}
use Rattle.block_rules.proofs.Steps.{task_at, sound_turn}
use Rattle.block_rules.proofs.Unique.{sound_out}

-- the party of a seat that was read
pub seat_is : (seats : List Seat) (p : ℕ) (q : Seat) → q ≡ get_or seats p q → p < length seats → party_of q ≡ get_or (map party_of seats) p nobody
seat_is seats p q e h = ap party_of e ∙ sym (get_or-map party_of seats p q nobody h)

-- a step f of a party, made on its seat
pub seated : {R : Type 0} (pl : Plan) (row : List R) (current : List ℕ) (links : List LinkState) (seats : List Seat) (p : ℕ) (q q' : Seat) (f : Party → Party)
    → q ≡ get_or seats p q → p < length seats → party_of q' ≡ f (party_of q)
    → state_of pl row current links (map party_of (set seats p q')) ≡ state_of pl row current links (set (map party_of seats) p (f (get_or (map party_of seats) p nobody)))
seated pl row current links seats p q q' f e h k =
    ap (λ (qs : List Party). state_of pl row current links qs)
    (map-set party_of seats p q' ∙ ap (set (map party_of seats) p) (k ∙ ap f (seat_is seats p q e h)))

-- a write of a link that is not there changes nothing
pub unlinked : {R : Type 0} (pl : Plan) (row : List R) (current : List ℕ) (links : List LinkState) (parties : List Party) (j : ℕ) (l : LinkState) → length links ≤ j
    → state_of pl row current links parties ≡ state_of pl row current (set links j l) parties
unlinked pl row current links parties j l none = ap (λ (ls : List LinkState). state_of pl row current ls parties) (sym (set_past links j l none))

-- what `get_mut` found is there, and what it did not find is not
pub found_there : {X : Type 0} (xs : List X) (i : ℕ) (x : MutBor X) → IsItemAtMut xs i (Some x) → i < length xs
found_there xs i x h = h.3.0

pub not_found : {X : Type 0} (xs : List X) (i : ℕ) → IsItemAtMut xs i None → length xs ≤ i
not_found xs i h = h.3

pub allowed_then : {R : Type 0} (s t : State R) → s ≡ t → Sound t → ∥ Sound s ∥₁
allowed_then s t e ok = ∣ subst Sound (sym e) ok ∣₁

-- a shelf before a step
module _ {R : Type 0} (v : BlockShelf R) where
  abbrev pl : Plan
  pl = v.plan

  abbrev row : List R
  row = v.row.blocks.now

  abbrev current : List ℕ
  current = v.current.items

  abbrev links : List LinkState
  links = v.links.items

  abbrev seats : List Seat
  seats = v.seats.items

  abbrev now : State R
  now = block_state v

  pub now_sound : Sound now
  now_sound = sound_out now v.sound

  pub seat_there : (p : ℕ) → p < pl.parties → p < length seats
  seat_there p h = omega (arith, now_sound.parties, length-map seats party_of)

  pub party_there : (p : ℕ) → p < length seats → p < pl.parties
  party_there p h = omega (arith, now_sound.parties, length-map seats party_of)

  -- the seat that a walk over the seats has come to
  pub seat_in : (p : ℕ) (q : Seat) (items : List Seat) → items ≡ seats → q ≡ get_or items p q → p < length items → (p < pl.parties) × (party_of q ≡ party now p)
  seat_in p q items e k h =
      let within : p < length seats = omega (arith, h, ap length e) in
      (party_there p within, seat_is seats p q (k ∙ ap (λ (qs : List Seat). get_or qs p q) e) within)

  pub link_there : (j : ℕ) → j < width pl → j < length links
  link_there j h = omega (arith, now_sound.links)

  -- a turn of a party that is at something, by its job
  module _ (p : ℕ) (job : Job) (e : (party now p).job ≡ job) (busy : rests job ≡ false) where
    -- so it is there
    pub at_work : p < pl.parties
    at_work = go (ltb p pl.parties) refl
      where
        go : (t : Bool) → ltb p pl.parties ≡ t → p < pl.parties
        go true h = ltb-true p pl.parties h
        go false h =
            let nobody_there = get_or_past (map party_of seats) p nobody (omega (arith, ltb-false p pl.parties h, now_sound.parties)) in
            absurd (true≢false (ap (λ (q : Party). rests q.job) (sym nobody_there) ∙ (ap rests e ∙ busy)))

    pub turn_sound : Sound (turn_job now p job)
    turn_sound = subst (λ (x : Job). Sound (turn_job now p x)) e (sound_turn now now_sound p at_work)

    fits_share : length (party now p).ready + length (party now p).retired + length (in_hand job) ≤ 97
    fits_share =
        omega (arith, ap (λ (x : Job). length (in_hand x)) e, (now_sound.jobs p at_work).size, mul-le pl.parties pl.links 24 4 now_sound.small.parties now_sound.small.links)

  -- ** a take: old is the link that the code read, b the block that it read in the channel, l the link that it made

  module _ (p j c : ℕ) (a : Access) (e : (party now p).job ≡ Taking j c a) (old : LinkState) (is : old ≡ link now j) (l : LinkState) where
    taking : {x : Access} → a ≡ x → (party now p).job ≡ Taking j c x
    taking at = e ∙ ap (Taking j c) at

    pub guarded_sound : a ≡ SetGuard → l ≡ guarding old → Sound (with_both now j l p (with_job (party now p) (Taking j c Compare)))
    guarded_sound at k =
        subst (λ (x : LinkState). Sound (with_both now j x p (with_job (party now p) (Taking j c Compare)))) (sym (k ∙ ap guarding is)) (turn_sound p (Taking j c SetGuard) (taking at) refl)

    module _ (b : ℕ) (read : b ≡ current_of now c) where
      pub saw_sound : a ≡ ReadCurrent → l ≡ seeing old b → Sound (with_both now j l p (with_job (party now p) (Taking j c SetGuard)))
      saw_sound at k =
          subst (λ (x : LinkState). Sound (with_both now j x p (with_job (party now p) (Taking j c SetGuard)))) (sym (k ∙ (ap (λ (x : LinkState). seeing x b) is ∙ ap (seeing (link now j)) read)))
          (turn_sound p (Taking j c ReadCurrent) (taking at) refl)

      compared_sound : a ≡ Compare → (t : Bool) → eqb (current_of now c) (link now j).seen ≡ t → Sound (compared now p j c t)
      compared_sound at t k = subst (λ (x : Bool). Sound (compared now p j c x)) k (turn_sound p (Taking j c Compare) (taking at) refl)

      seen_is : old.seen ≡ (link now j).seen
      seen_is = ap (λ (x : LinkState). x.seen) is

      pub held_sound : a ≡ Compare → b ≡ old.seen → l ≡ holding old c → Sound (with_both now j l p (with_job (party now p) (Taking j c ReadBlock)))
      held_sound at same k =
          subst (λ (x : LinkState). Sound (with_both now j x p (with_job (party now p) (Taking j c ReadBlock)))) (sym (k ∙ ap (λ (x : LinkState). holding x c) is))
          (compared_sound at true (eq-eqb (current_of now c) (link now j).seen (sym read ∙ (same ∙ seen_is))))

      pub again_sound : a ≡ Compare → (b ≡ old.seen → ⊥) → Sound (with_party now p (with_job (party now p) (Taking j c ReadCurrent)))
      again_sound at apart = compared_sound at false (ne_eqb (current_of now c) (link now j).seen (λ same. apart (read ∙ (same ∙ sym seen_is))))

  -- ** a step of a party made by its seat: q before, q' after

  module _ (p : ℕ) (q q' : Seat) (is : q ≡ get_or seats p q) where
    here : p < length seats → party_of q ≡ party now p
    here in_seats = seat_is seats p q is in_seats

    -- the top ready block b went into hand, and the reading was written there; or there was none
    went_up : (j b : ℕ) (r : R) (xs : List ℕ) → Some b ≡ top_of xs → state_of pl (set row b r) current links (set (map party_of seats) p (took_up (party now p) j xs)) ≡ put_from now p j r xs
    went_up j b r [] e = let z : ◌≡◌ {A = ℕ} 0 1 = cc in absurd (omega arith)
    went_up j b r (h ∷ rest) e =
        let same : b ≡ h = cc in
        ap (λ (x : ℕ). state_of pl (set row x r) current links (set (map party_of seats) p (taken_up (party now p) j h rest))) same

    none_went_up : (j : ℕ) (r : R) (xs : List ℕ) → None ≡ top_of xs → state_of pl row current links (set (map party_of seats) p (took_up (party now p) j xs)) ≡ put_from now p j r xs
    none_went_up j r [] e = ap (λ (qs : List Party). state_of pl row current links qs) (set-get_or (map party_of seats) p nobody)
    none_went_up j r (h ∷ rest) e = let z : ◌≡◌ {A = ℕ} 0 1 = cc in absurd (omega arith)

    module _ (in_seats : p < length seats) (j : ℕ) (took : party_of q' ≡ took_up (party_of q) j (party_of q).ready) where
      set_up : (row' : List R) → state_of pl row' current links (map party_of (set seats p q')) ≡ state_of pl row' current links (set (map party_of seats) p (took_up (party now p) j (party now p).ready))
      set_up row' = seated pl row' current links seats p q q' (λ (x : Party). took_up x j x.ready) is in_seats took

      pub put_started : (b : ℕ) (r : R) (row' : List R) → Some b ≡ top_of (party_of q).ready → row' ≡ set row b r → state_of pl row' current links (map party_of (set seats p q')) ≡ start_put now p j r
      put_started b r row' top e =
          ap (λ (xs : List R). state_of pl xs current links (map party_of (set seats p q'))) e
          ∙ (set_up (set row b r) ∙ went_up j b r (party now p).ready (top ∙ ap (λ (x : Party). top_of x.ready) (here in_seats)))

      pub put_not_started : (r : R) → None ≡ top_of (party_of q).ready → state_of pl row current links (map party_of (set seats p q')) ≡ start_put now p j r
      put_not_started r top = set_up row ∙ none_went_up j r (party now p).ready (top ∙ ap (λ (x : Party). top_of x.ready) (here in_seats))

    -- a put that missed, and one that stored
    module _ (j h : ℕ) (e : (party now p).job ≡ Putting j h) where
      put_there : p < length seats
      put_there = seat_there p (at_work p (Putting j h) e refl)

      pub missed_is : (length (party_of q).ready < 97 → party_of q' ≡ missing (party_of q) h) → false ≡ is_live now j
          → state_of pl row current links (map party_of (set seats p q')) ≡ turn_put now p j h (is_live now j)
      missed_is step live =
          seated pl row current links seats p q q' (λ (x : Party). missing x h) is put_there
          (step (omega (arith, ap (λ (x : Party). length x.ready) (here put_there), fits_share p (Putting j h) e refl)))
          ∙ ap (turn_put now p j h) live

      pub missed_sound : (length (party_of q).ready < 97 → party_of q' ≡ missing (party_of q) h) → false ≡ is_live now j → ∥ Sound (state_of pl row current links (map party_of (set seats p q'))) ∥₁
      missed_sound step live = allowed_then _ _ (missed_is step live) (turn_sound p (Putting j h) e refl)

      pub stored_is : (c b : ℕ) → c ≡ channel_held (link now j).hold → b ≡ (link now j).seen → (length (party_of q).retired < 97 → party_of q' ≡ retiring (party_of q) j b) → true ≡ is_live now j
          → state_of pl row (set current c h) links (map party_of (set seats p q')) ≡ turn_put now p j h (is_live now j)
      stored_is c b channel seen step live =
          seated pl row (set current c h) links seats p q q' (λ (x : Party). retiring x j b) is put_there
          (step (omega (arith, ap (λ (x : Party). length x.retired) (here put_there), fits_share p (Putting j h) e refl)))
          ∙ (ap (λ (x : ℕ). state_of pl row (set current x h) links (set (map party_of seats) p (retiring (party now p) j b))) channel
          ∙ (ap (λ (x : ℕ). state_of pl row (set current (channel_held (link now j).hold) h) links (set (map party_of seats) p (retiring (party now p) j x))) seen
          ∙ ap (turn_put now p j h) live))

      pub stored_sound : (c b : ℕ) → c ≡ channel_held (link now j).hold → b ≡ (link now j).seen → (length (party_of q).retired < 97 → party_of q' ≡ retiring (party_of q) j b) → true ≡ is_live now j
          → ∥ Sound (state_of pl row (set current c h) links (map party_of (set seats p q'))) ∥₁
      stored_sound c b channel seen step live = allowed_then _ _ (stored_is c b channel seen step live) (turn_sound p (Putting j h) e refl)

    -- a scan that goes on, and one that ends
    module _ (j k : ℕ) (e : (party now p).job ≡ Scanning j k) (guard : Option ℕ) (read : guard ≡ (link now k).guard) where
      scan_there : p < length seats
      scan_there = seat_there p (at_work p (Scanning j k) e refl)

      few_read : length (party_of q).read < 97
      few_read =
          omega (
            arith,
            ap (λ (x : Party). length x.read) (here scan_there),
            (task_at now now_sound p (at_work p (Scanning j k) e refl) (Scanning j k) e).few,
            (task_at now now_sound p (at_work p (Scanning j k) e refl) (Scanning j k) e).within,
            mul-le pl.parties pl.links 24 4 now_sound.small.parties now_sound.small.links,
          )

      pub went_on : (length (party_of q).read < 97 → party_of q' ≡ going_on (party_of q) guard (Scanning j (k + 1))) → k + 1 < width pl
          → state_of pl row current links (map party_of (set seats p q')) ≡ turn_scan now p j k (link now k).guard (ltb (k + 1) (width pl))
      went_on step more =
          seated pl row current links seats p q q' (λ (x : Party). going_on x guard (Scanning j (k + 1))) is scan_there (step few_read)
          ∙ (ap (λ (x : Option ℕ). turn_scan now p j k x true) read ∙ ap (turn_scan now p j k (link now k).guard) (sym (lt-ltb (k + 1) (width pl) more)))

      pub went_on_sound : (length (party_of q).read < 97 → party_of q' ≡ going_on (party_of q) guard (Scanning j (k + 1))) → k + 1 < width pl → ∥ Sound (state_of pl row current links (map party_of (set seats p q'))) ∥₁
      went_on_sound step more = allowed_then _ _ (went_on step more) (turn_sound p (Scanning j k) e refl)

      pub finished_is : (length (party_of q).read < 97 → length (party_of q).ready + length (party_of q).retired ≤ 97 → party_of q' ≡ freeing (party_of q) (noted guard (party_of q).read))
          → width pl ≤ k + 1 → state_of pl row current links (map party_of (set seats p q')) ≡ turn_scan now p j k (link now k).guard (ltb (k + 1) (width pl))
      finished_is step last =
          seated pl row current links seats p q q' (λ (x : Party). freeing x (noted guard x.read)) is scan_there
          (step few_read (omega (arith, ap (λ (x : Party). length x.ready + length x.retired) (here scan_there), fits_share p (Scanning j k) e refl)))
          ∙ (ap (λ (x : Option ℕ). turn_scan now p j k x false) read ∙ ap (turn_scan now p j k (link now k).guard) (sym (le-ltb (k + 1) (width pl) last)))

      pub finished_sound : (length (party_of q).read < 97 → length (party_of q).ready + length (party_of q).retired ≤ 97 → party_of q' ≡ freeing (party_of q) (noted guard (party_of q).read))
          → width pl ≤ k + 1 → ∥ Sound (state_of pl row current links (map party_of (set seats p q'))) ∥₁
      finished_sound step last = allowed_then _ _ (finished_is step last) (turn_sound p (Scanning j k) e refl)

  -- the channel of a put's link
  pub put_channel : (p j h : ℕ) → (party now p).job ≡ Putting j h → channel_held (link now j).hold < length current
  put_channel p j h e =
      let in_p = at_work p (Putting j h) e refl in
      let o = task_at now now_sound p in_p (Putting j h) e in
      omega (arith, (now_sound.held j (own_below pl p j in_p o.own) (channel_held (link now j).hold) o.held).channel, now_sound.currents)
