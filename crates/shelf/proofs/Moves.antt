-- What a turn does to links and activities, from the relation of a turn alone.
use Rattle.std.proofs.Common.{◌≡◌, ℕ, ◌<◌, ◌≤◌, Bool, true, false, ◌≢◌, ◌⊎◌, List, length, get_or, set, sym, refl, ap, ◌∙◌, ⊎_elim, arith}
use Rattle.std.proofs.lemmas.List.{length-set, get_or-set_same, get_or-set_other, get_or_past, set_past}
use Rattle.std.proofs.lemmas.Bool.{cases_eq, cases_lt}
use Rattle.shelf.specs.declared.answer.Answer.{Answer}
use Rattle.shelf.specs.declared.answer.Answer.TheVariants as answers
use Rattle.shelf.proofs.Basics.{get_d_mapped}
use Rattle.shelf.specs.Meaning.{Link, vacant, holds, Operation, take, put, check, Activity, idle, waits, in_force, Meaning, link_at, activity_of, does, break_on, put_on, verdict, brought, Turned, alters_nothing, comes, ends, comes_and_ends, Comes, Stores}

-- a put's answer, by whether its link is live
abbrev pub put_verdict : Bool → Answer
put_verdict true = answers.Stored
put_verdict false = answers.Missed

-- and a check's
abbrev pub check_verdict : Bool → Answer
check_verdict true = answers.Live
check_verdict false = answers.Broken

module _ {R : Type 0} where
  pub waits_same : (o e : Operation R) → waits o ≡ waits e → o ≡ e
  waits_same o e q = cc

  pub waits_not_force : (o : Operation R) (a : Answer) → ◌≡◌ {A = Activity R} (waits o) (in_force a) → ⊥
  waits_not_force o a q = let z : ◌≡◌ {A = ℕ} 0 1 = cc in omega arith

  waits_not_idle : (o : Operation R) → ◌≡◌ {A = Activity R} (waits o) idle → ⊥
  waits_not_idle o q = let z : ◌≡◌ {A = ℕ} 0 1 = cc in omega arith

  force_not_idle : (a : Answer) → ◌≡◌ {A = Activity R} (in_force a) idle → ⊥
  force_not_idle a q = let z : ◌≡◌ {A = ℕ} 0 1 = cc in omega arith

  force_same : (a b : Answer) → ◌≡◌ {A = Activity R} (in_force a) (in_force b) → a ≡ b
  force_same a b q = cc

  put_parts : (i j : ℕ) (r x : R) → put i r ≡ put j x → i ≡ j
  put_parts i j r x q = cc

  take_parts : (i j c e : ℕ) → ◌≡◌ {A = Operation R} (take i c) (take j e) → (i ≡ j) × (c ≡ e)
  take_parts i j c e q = (cc, cc)

  take_not_put : (j c i : ℕ) (r : R) → take j c ≡ put i r → ⊥
  take_not_put j c i r q = let z : ◌≡◌ {A = ℕ} 0 1 = cc in omega arith

  check_not_take : (j i c : ℕ) → ◌≡◌ {A = Operation R} (check j) (take i c) → ⊥
  check_not_take j i c q = let z : ◌≡◌ {A = ℕ} 0 1 = cc in omega arith

  module _ (d : R) (m : Meaning R) (p : ℕ) (in_p : p < length m.activities) where
    -- what coming into force does to link j
    pub data Moved (m' : Meaning R) (j : ℕ) : Type 0 where
      kept : link_at m' j ≡ link_at m j → Moved m' j
      broke : (c : ℕ) → Stores m m' p c → link_at m' j ≡ break_on c (link_at m j) → Moved m' j
      came : (c : ℕ) → activity_of m p ≡ waits (take j c) → Moved m' j

    forced_at : (a : Answer) → get_or (set m.activities p (in_force a)) p idle ≡ in_force a
    forced_at a = get_or-set_same m.activities p (in_force a) idle in_p

    module _ (m' : Meaning R) (j : ℕ) where
      take_moves : (i c : ℕ) → activity_of m p ≡ waits (take i c) → m'.links ≡ set m.links i (holds c (get_or m.readings c d) true) → Moved m' j
      take_moves i c e l = ⊎_elim same other (cases_eq j i)
        where
          same : j ≡ i → Moved m' j
          same q = came c (e ∙ ap (λ (x : ℕ). waits (take x c)) (sym q))

          other : (j ≡ i → ⊥) → Moved m' j
          other n = kept (ap (λ (ls : List (Link R)). get_or ls j vacant) l ∙ get_or-set_other m.links i j (holds c (get_or m.readings c d) true) vacant n)

      -- m' has the links of the put in force, and the put waits no more if it is on a live link
      put_moves : (i : ℕ) (r : R) → activity_of m p ≡ waits (put i r) → (l : Link R) → link_at m i ≡ l → m'.links ≡ (put_on m p r l).links
          → ((c : ℕ) (x : R) → l ≡ holds c x true → activity_of m' p ≢ waits (put i r)) → Moved m' j
      put_moves i r e vacant q l n = kept (ap (λ (ls : List (Link R)). get_or ls j vacant) l)
      put_moves i r e (holds c x true) q l n =
          broke c (record { link = i; reading = r; seen = x; comes = record { waited = e; waits_no_more = n c x refl }; alive = q })
          (ap (λ (ls : List (Link R)). get_or ls j vacant) l ∙ get_d_mapped (break_on c) m.links j vacant)
      put_moves i r e (holds c x false) q l n = kept (ap (λ (ls : List (Link R)). get_or ls j vacant) l)

    stored_acts : (r : R) (l : Link R) (c : ℕ) (x : R) → l ≡ holds c x true → (put_on m p r l).activities ≡ set m.activities p (in_force answers.Stored)
    stored_acts r l c x e = ap (λ (y : Link R). (put_on m p r y).activities) e

    -- a put on a live link waits no more
    brought_no_more : (i : ℕ) (r : R) (c : ℕ) (x : R) → link_at m i ≡ holds c x true → activity_of (brought d m p (put i r)) p ≢ waits (put i r)
    brought_no_more i r c x q z = waits_not_force (put i r) answers.Stored
        (sym z ∙ (ap (λ (xs : List (Activity R)). get_or xs p idle) (stored_acts r (link_at m i) c x q) ∙ forced_at answers.Stored))

    ended_no_more : (i : ℕ) (r : R) (c : ℕ) (x : R) → link_at m i ≡ holds c x true → activity_of (does (brought d m p (put i r)) p idle) p ≢ waits (put i r)
    ended_no_more i r c x q z = waits_not_idle (put i r)
        (sym z ∙ (ap (λ (xs : List (Activity R)). get_or (set xs p idle) p idle) (stored_acts r (link_at m i) c x q)
        ∙ get_or-set_same (set m.activities p (in_force answers.Stored)) p idle idle (omega (arith, length-set m.activities p (in_force answers.Stored)))))

    brought_moves : (j : ℕ) (o : Operation R) → activity_of m p ≡ waits o → Moved (brought d m p o) j
    brought_moves j (take i c) e = take_moves (brought d m p (take i c)) j i c e refl
    brought_moves j (put i r) e = put_moves (brought d m p (put i r)) j i r e (link_at m i) refl refl (brought_no_more i r)
    brought_moves j (check i) e = kept refl

    ended_moves : (j : ℕ) (o : Operation R) (a : Answer) → activity_of m p ≡ waits o → activity_of (brought d m p o) p ≡ in_force a → Moved (does (brought d m p o) p idle) j
    ended_moves j (take i c) a e f = take_moves (does (brought d m p (take i c)) p idle) j i c e refl
    ended_moves j (put i r) a e f = put_moves (does (brought d m p (put i r)) p idle) j i r e (link_at m i) refl refl (ended_no_more i r)
    ended_moves j (check i) a e f = kept refl

    pub turn_moves : (a : Answer) (m' : Meaning R) (j : ℕ) → Turned d m p a m' → Moved m' j
    turn_moves a m' j alters_nothing = kept refl
    turn_moves a m' j (comes o e) = brought_moves j o e
    turn_moves a m' j (ends b e) = kept refl
    turn_moves a m' j (comes_and_ends o b e f) = ended_moves j o b e f

    -- the activities of others stay
    put_other : (q : ℕ) → q ≢ p → (r : R) (l : Link R) → get_or (put_on m p r l).activities q idle ≡ activity_of m q
    put_other q n r vacant = refl
    put_other q n r (holds c x true) = get_or-set_other m.activities p q (in_force answers.Stored) idle n
    put_other q n r (holds c x false) = get_or-set_other m.activities p q (in_force answers.Missed) idle n

    brought_other : (q : ℕ) → q ≢ p → (o : Operation R) → activity_of (brought d m p o) q ≡ activity_of m q
    brought_other q n (take i c) = get_or-set_other m.activities p q (in_force answers.Taken) idle n
    brought_other q n (put i r) = put_other q n r (link_at m i)
    brought_other q n (check i) = get_or-set_other m.activities p q (in_force (verdict (link_at m i))) idle n

    pub turn_other : (q : ℕ) → q ≢ p → (a : Answer) (m' : Meaning R) → Turned d m p a m' → activity_of m' q ≡ activity_of m q
    turn_other q n a m' alters_nothing = refl
    turn_other q n a m' (comes o e) = brought_other q n o
    turn_other q n a m' (ends b e) = get_or-set_other m.activities p q idle idle n
    turn_other q n a m' (comes_and_ends o b e f) = get_or-set_other (brought d m p o).activities p q idle idle n ∙ brought_other q n o

    -- a party that waits after its turn waited for the same before, and no link moved
    pub record StillWaits (m' : Meaning R) (o : Operation R) : Type 0 where
      pub waited : activity_of m p ≡ waits o
      pub links : (j : ℕ) → link_at m' j ≡ link_at m j

    idle_there : (acts : List (Activity R)) → get_or (set acts p idle) p idle ≡ idle
    idle_there acts = ⊎_elim
        (λ (h : p < length acts). get_or-set_same acts p idle idle h)
        (λ (h : length acts ≤ p). ap (λ (xs : List (Activity R)). get_or xs p idle) (set_past acts p idle h) ∙ get_or_past acts p idle h)
        (cases_lt p (length acts))

    put_waits : (i : ℕ) (r : R) (o : Operation R) (l : Link R) → activity_of m p ≡ waits (put i r) → activity_of (put_on m p r l) p ≡ waits o → StillWaits (put_on m p r l) o
    put_waits i r o vacant e w = record { waited = w; links = λ j. refl }
    put_waits i r o (holds c x true) e w = absurd (waits_not_force o answers.Stored (sym w ∙ forced_at answers.Stored))
    put_waits i r o (holds c x false) e w = absurd (waits_not_force o answers.Missed (sym w ∙ forced_at answers.Missed))

    brought_waits : (u o : Operation R) → activity_of m p ≡ waits u → activity_of (brought d m p u) p ≡ waits o → StillWaits (brought d m p u) o
    brought_waits (take i c) o e w = absurd (waits_not_force o answers.Taken (sym w ∙ forced_at answers.Taken))
    brought_waits (put i r) o e w = put_waits i r o (link_at m i) e w
    brought_waits (check i) o e w = absurd (waits_not_force o (verdict (link_at m i)) (sym w ∙ forced_at (verdict (link_at m i))))

    pub still_waits : (a : Answer) (m' : Meaning R) (o : Operation R) → Turned d m p a m' → activity_of m' p ≡ waits o → StillWaits m' o
    still_waits a m' o alters_nothing w = record { waited = w; links = λ j. refl }
    still_waits a m' o (comes u e) w = brought_waits u o e w
    still_waits a m' o (ends b e) w = absurd (waits_not_idle o (sym w ∙ idle_there m.activities))
    still_waits a m' o (comes_and_ends u b e f) w = absurd (waits_not_idle o (sym w ∙ idle_there (brought d m p u).activities))

    -- a put in force on a live link breaks every link on the channel
    stored_links : (c : ℕ) (seen : R) (i : ℕ) (r : R) → link_at m i ≡ holds c seen true → (j : ℕ) → get_or (brought d m p (put i r)).links j vacant ≡ break_on c (link_at m j)
    stored_links c seen i r l j = ap (λ (x : Link R). get_or (put_on m p r x).links j vacant) l ∙ get_d_mapped (break_on c) m.links j vacant

    pub stores_break : (a : Answer) (m' : Meaning R) (c : ℕ) → Turned d m p a m' → Stores m m' p c → (j : ℕ) → link_at m' j ≡ break_on c (link_at m j)
    stores_break a m' c alters_nothing s j = absurd (s.comes.waits_no_more s.comes.waited)
    stores_break a m' c (comes o e) s j =
        ap (λ (x : Operation R). get_or (brought d m p x).links j vacant) (waits_same o (put s.link s.reading) (sym e ∙ s.comes.waited))
        ∙ stored_links c s.seen s.link s.reading s.alive j
    stores_break a m' c (ends b e) s j = absurd (waits_not_force (put s.link s.reading) b (sym s.comes.waited ∙ e))
    stores_break a m' c (comes_and_ends o b e f) s j =
        ap (λ (x : Operation R). get_or (brought d m p x).links j vacant) (waits_same o (put s.link s.reading) (sym e ∙ s.comes.waited))
        ∙ stored_links c s.seen s.link s.reading s.alive j

    -- and the channel reads what the put gave
    stored_readings : (c : ℕ) (seen : R) (i : ℕ) (r : R) → link_at m i ≡ holds c seen true → c < length m.readings → get_or (brought d m p (put i r)).readings c d ≡ r
    stored_readings c seen i r l h = ap (λ (x : Link R). get_or (put_on m p r x).readings c d) l ∙ get_or-set_same m.readings c r d h

    pub stores_reading : (a : Answer) (m' : Meaning R) (c : ℕ) → Turned d m p a m' → (s : Stores m m' p c) → c < length m.readings → get_or m'.readings c d ≡ s.reading
    stores_reading a m' c alters_nothing s h = absurd (s.comes.waits_no_more s.comes.waited)
    stores_reading a m' c (comes o e) s h =
        ap (λ (x : Operation R). get_or (brought d m p x).readings c d) (waits_same o (put s.link s.reading) (sym e ∙ s.comes.waited))
        ∙ stored_readings c s.seen s.link s.reading s.alive h
    stores_reading a m' c (ends b e) s h = absurd (waits_not_force (put s.link s.reading) b (sym s.comes.waited ∙ e))
    stores_reading a m' c (comes_and_ends o b e f) s h =
        ap (λ (x : Operation R). get_or (brought d m p x).readings c d) (waits_same o (put s.link s.reading) (sym e ∙ s.comes.waited))
        ∙ stored_readings c s.seen s.link s.reading s.alive h

    -- a take in force gives the link the channel and its reading
    pub takes_link : (a : Answer) (m' : Meaning R) (j c : ℕ) → j < length m.links → Turned d m p a m' → Comes m m' p (take j c)
        → link_at m' j ≡ holds c (get_or m.readings c d) true
    takes_link a m' j c h alters_nothing t = absurd (t.waits_no_more t.waited)
    takes_link a m' j c h (comes o e) t =
        ap (λ (x : Operation R). get_or (brought d m p x).links j vacant) (waits_same o (take j c) (sym e ∙ t.waited))
        ∙ get_or-set_same m.links j (holds c (get_or m.readings c d) true) vacant h
    takes_link a m' j c h (ends b e) t = absurd (waits_not_force (take j c) b (sym t.waited ∙ e))
    takes_link a m' j c h (comes_and_ends o b e f) t =
        ap (λ (x : Operation R). get_or (brought d m p x).links j vacant) (waits_same o (take j c) (sym e ∙ t.waited))
        ∙ get_or-set_same m.links j (holds c (get_or m.readings c d) true) vacant h

    pub put_forced : (i : ℕ) (r : R) (c : ℕ) (x : R) (live : Bool) → link_at m i ≡ holds c x live → activity_of (brought d m p (put i r)) p ≡ in_force (put_verdict live)
    put_forced i r c x live l = ap (λ (y : Link R). get_or (put_on m p r y).activities p idle) l ∙ by_live live
      where
        by_live : (b : Bool) → get_or (put_on m p r (holds c x b)).activities p idle ≡ in_force (put_verdict b)
        by_live true = forced_at answers.Stored
        by_live false = forced_at answers.Missed

    -- the answer of an operation that came into force, where it is known what it is in force with
    pub forced_answers : (a : Answer) (m' : Meaning R) (o : Operation R) (v : Answer) → activity_of (brought d m p o) p ≡ in_force v → Turned d m p a m' → Comes m m' p o
        → (b : Answer) → (activity_of m' p ≡ in_force b) ⊎ ((activity_of m' p ≡ idle) × (a ≡ b)) → b ≡ v
    forced_answers a m' o v g alters_nothing t b w = absurd (t.waits_no_more t.waited)
    forced_answers a m' o v g (comes u e) t b w =
        let f : activity_of (brought d m p u) p ≡ in_force v = ap (λ (y : Operation R). activity_of (brought d m p y) p) (waits_same u o (sym e ∙ t.waited)) ∙ g in
        ⊎_elim (λ (q : activity_of (brought d m p u) p ≡ in_force b). force_same b v (sym q ∙ f))
        (λ (q : (activity_of (brought d m p u) p ≡ idle) × (a ≡ b)). absurd (force_not_idle v (sym f ∙ q.0))) w
    forced_answers a m' o v g (ends k e) t b w = absurd (waits_not_force o k (sym t.waited ∙ e))
    forced_answers a m' o v g (comes_and_ends u k e f) t b w =
        let same : activity_of (brought d m p u) p ≡ in_force v = ap (λ (y : Operation R). activity_of (brought d m p y) p) (waits_same u o (sym e ∙ t.waited)) ∙ g in
        let is : k ≡ v = force_same k v (sym f ∙ same) in
        ⊎_elim (λ (q : activity_of (does (brought d m p u) p idle) p ≡ in_force b). absurd (force_not_idle b (sym q ∙ idle_there (brought d m p u).activities)))
        (λ (q : (activity_of (does (brought d m p u) p idle) p ≡ idle) × (a ≡ b)). sym q.1 ∙ is) w

    -- ** readings of channels

    -- a turn leaves a channel's reading, or its put stores there
    pub data Rewritten (m' : Meaning R) (c : ℕ) : Type 0 where
      same_reading : get_or m'.readings c d ≡ get_or m.readings c d → Rewritten m' c
      stored_reading : Stores m m' p c → Rewritten m' c

    put_rewrites : (m' : Meaning R) (c i : ℕ) (r : R) → activity_of m p ≡ waits (put i r) → (l : Link R) → link_at m i ≡ l → m'.readings ≡ (put_on m p r l).readings
        → ((c : ℕ) (x : R) → l ≡ holds c x true → activity_of m' p ≢ waits (put i r)) → Rewritten m' c
    put_rewrites m' c i r e vacant q l n = same_reading (ap (λ (xs : List R). get_or xs c d) l)
    put_rewrites m' c i r e (holds k x true) q l n = ⊎_elim
        (λ (z : c ≡ k). stored_reading
        (record { link = i; reading = r; seen = x; comes = record { waited = e; waits_no_more = n k x refl }; alive = q ∙ ap (λ (y : ℕ). holds y x true) (sym z) }))
        (λ (z : c ≡ k → ⊥). same_reading (ap (λ (xs : List R). get_or xs c d) l ∙ get_or-set_other m.readings k c r d z)) (cases_eq c k)
    put_rewrites m' c i r e (holds k x false) q l n = same_reading (ap (λ (xs : List R). get_or xs c d) l)

    brought_rewrites : (c : ℕ) (o : Operation R) → activity_of m p ≡ waits o → Rewritten (brought d m p o) c
    brought_rewrites c (take i e) w = same_reading refl
    brought_rewrites c (put i r) w = put_rewrites (brought d m p (put i r)) c i r w (link_at m i) refl refl (brought_no_more i r)
    brought_rewrites c (check i) w = same_reading refl

    ended_rewrites : (c : ℕ) (o : Operation R) (a : Answer) → activity_of m p ≡ waits o → activity_of (brought d m p o) p ≡ in_force a → Rewritten (does (brought d m p o) p idle) c
    ended_rewrites c (take i e) a w f = same_reading refl
    ended_rewrites c (put i r) a w f = put_rewrites (does (brought d m p (put i r)) p idle) c i r w (link_at m i) refl refl (ended_no_more i r)
    ended_rewrites c (check i) a w f = same_reading refl

    pub turn_rewrites : (a : Answer) (m' : Meaning R) (c : ℕ) → Turned d m p a m' → Rewritten m' c
    turn_rewrites a m' c alters_nothing = same_reading refl
    turn_rewrites a m' c (comes o e) = brought_rewrites c o e
    turn_rewrites a m' c (ends b e) = same_reading refl
    turn_rewrites a m' c (comes_and_ends o b e f) = ended_rewrites c o b e f

    -- a check's answer, by its link
    pub check_forced : (i c : ℕ) (x : R) (live : Bool) → link_at m i ≡ holds c x live → activity_of (brought d m p (check i)) p ≡ in_force (check_verdict live)
    check_forced i c x live l = forced_at (verdict (link_at m i)) ∙ ap in_force (ap verdict l ∙ by_live live)
      where
        by_live : (b : Bool) → verdict (holds c x b) ≡ check_verdict b
        by_live true = refl
        by_live false = refl
