-- A turn changes the meaning only as ideal LL, SC and VL allow.
use Rattle.std.proofs.Common.{◌≡◌, ℕ, suc, ◌+◌, ◌<◌, Bool, true, false, cond, eqb, ltb, ◌≢◌, List, [], ◌∷◌, map, length, get_or, set, Option, sym, refl, ap, ◌∙◌, subst, ⊎_elim, arith, Some, None}
use Rattle.std.proofs.lemmas.List.{get_or-set_same, get_or-set_other, set-get_or, length-map, map-set, get_or-map, set-set}
use Rattle.std.proofs.lemmas.Bool.{eqb-true, eq-eqb, ne_eqb, cases_eq}
use Rattle.plan.specs.Plans.{width}
use Rattle.shelf.specs.declared.answer.Answer.TheVariants.{Run, Taken, Stored, Missed, Live, Broken}
use Rattle.shelf.specs.Meaning.{Own, Link, vacant, holds, put, check, Activity, idle, in_force, Meaning, link_at, activity_of, does, break_on, put_on, verdict, brought, Turned, alters_nothing, comes, ends, comes_and_ends, take as take_op}
use Rattle.shelf.proofs.Basics.{own_below}
use Rattle.block_rules.specs.declared.parts.LinkState.{LinkState}
use Rattle.block_rules.specs.declared.parts.Access.{Access}
use Rattle.block_rules.specs.declared.parts.Access.TheVariants.{ReadCurrent, SetGuard, Compare, ReadBlock}
use Rattle.block_rules.specs.declared.parts.Job.{Job}
use Rattle.block_rules.specs.declared.parts.Job.TheVariants.{Idle, Taking, Putting, Scanning, Checking}
use Rattle.block_rules.specs.Blocks.{Party, in_hand, State, unused, nobody, link, party, current_of, with_job, seeing, guarding, holding, channel_held, is_live, compared, turn_take, after_put, retiring, missing, turn_put, noted, noting, freeing, turn_scan, turn_job, turned, take_answer, after_put_answer, answer_job, answer}
use Rattle.block_rules.specs.Counting.{same, times}
use Rattle.block_rules.specs.Sound.{Sound}
use Rattle.block_rules.specs.Means.{link_of, link_from, activity_in, activity_from, reading_in, means}
use Rattle.block_rules.proofs.Counts.{same_self, times_one}
use Rattle.block_rules.proofs.Frame.{free_with_lem, sound_once}
use Rattle.block_rules.proofs.Steps.{task_at}

pub set_same : {X : Type 0} (xs : List X) (i : ℕ) (d y : X) → get_or xs i d ≡ y → set xs i y ≡ xs
set_same xs i d y e = subst (λ z. set xs i z ≡ xs) e (set-get_or xs i d)

pub map_like : {X Y : Type 0} (f g : X → Y) (d : X) (xs : List X) → ((i : ℕ) → i < length xs → f (get_or xs i d) ≡ g (get_or xs i d)) → map f xs ≡ map g xs
map_like f g d [] h = refl
map_like f g d (x ∷ xs) h = λ i. h 0 (omega arith) i ∷ map_like f g d xs (λ k l. h (suc k) (omega arith)) i

pub map_after : {X Y Z : Type 0} (f : Y → Z) (g : X → Y) (xs : List X) → map f (map g xs) ≡ map (λ x. f (g x)) xs
map_after f g [] = refl
map_after f g (x ∷ xs) = ap (λ ys. f (g x) ∷ ys) (map_after f g xs)

-- a map over a list set at i with a value that maps to the same
pub map_set_same : {X Y : Type 0} (f : X → Y) (xs : List X) (i : ℕ) (a d : X) → i < length xs → f a ≡ f (get_or xs i d) → map f (set xs i a) ≡ map f xs
map_set_same f xs i a d h e = map-set f xs i a ∙ set_same (map f xs) i (f d) (f a) (get_or-map f xs i d (f d) h ∙ sym e)

pub same_meaning : {R : Type 0} (r r' : List R) (l l' : List (Link R)) (x x' : List (Activity R)) → r ≡ r' → l ≡ l' → x ≡ x' →
    ◌≡◌ {A = Meaning R} (record { readings = r; links = l; activities = x }) (record { readings = r'; links = l'; activities = x' })
same_meaning r r' l l' x x' a b c = λ i. record { readings = a i; links = b i; activities = c i }

module _ {R : Type 0} (d : R) (s : State R) (ok : Sound s) (p : ℕ) (in_p : p < s.plan.parties) where
  m : Meaning R
  m = means d s

  in_parties : p < length s.parties
  in_parties = omega (arith, ok.parties)

  in_links : (j : ℕ) → Own s.plan p j → j < length s.links
  in_links j own = omega (arith, own_below s.plan p j in_p own, ok.links)

  activity_at : (job : Job) → (party s p).job ≡ job → activity_of (means d s) p ≡ activity_in d s.row job
  activity_at job e = get_or-map (activity_from d s.row) s.parties p nobody idle in_parties ∙ ap (activity_in d s.row) e

  link_at_lem : (j : ℕ) → j < length s.links → (st : Option ℕ) → (link s j).hold ≡ st → link_at (means d s) j ≡ link_of d s.row s.current (link s j).seen st
  link_at_lem j h st e = get_or-map (link_from d s.row s.current) s.links j unused vacant h ∙ ap (link_of d s.row s.current (link s j).seen) e

  -- the activities after a change of the party
  activities_to : (q' : Party) → map (activity_from d s.row) (set s.parties p q') ≡ set (map (activity_from d s.row) s.parties) p (activity_in d s.row q'.job)
  activities_to q' = map-set (activity_from d s.row) s.parties p q'

  activities_same : (job : Job) (q' : Party) → (party s p).job ≡ job → activity_in d s.row q'.job ≡ activity_in d s.row job → map (activity_from d s.row) (set s.parties p q') ≡ map (activity_from d s.row) s.parties
  activities_same job q' e h = map_set_same (activity_from d s.row) s.parties p q' nobody in_parties (h ∙ sym (ap (activity_in d s.row) e))

  -- a link that is empty before and after
  links_same : (j : ℕ) (l' : LinkState) → j < length s.links → (link s j).hold ≡ None → l'.hold ≡ None → map (link_from d s.row s.current) (set s.links j l') ≡ map (link_from d s.row s.current) s.links
  links_same j l' h e e' = map_set_same (link_from d s.row s.current) s.links j l' unused h (ap (link_of d s.row s.current l'.seen) e' ∙ sym (ap (link_of d s.row s.current (link s j).seen) e))

  set_twice : {X : Type 0} (xs : List X) (i : ℕ) (a b : X) → set (set xs i a) i b ≡ set xs i b
  set_twice xs i a b = set-set xs i a b

  in_activities : p < length (map (activity_from d s.row) s.parties)
  in_activities = omega (arith, length-map s.parties (activity_from d s.row), in_parties)

  -- ** a take

  compares_law : (j c : ℕ) → (party s p).job ≡ Taking j c Compare → (t : Bool) → eqb (current_of s c) (link s j).seen ≡ t → Turned d (means d s) p Run (means d (compared s p j c t))
  compares_law j c e true k =
      let o = task_at s ok p in_p (Taking j c Compare) e in
      let l' : LinkState = holding (link s j) c in
      let is : current_of s c ≡ (link s j).seen = eqb-true (current_of s c) (link s j).seen k in
      let read : get_or s.row (link s j).seen d ≡ get_or (means d s).readings c d = sym (get_or-map (reading_in d s.row) s.current c 0 d (omega (arith, ok.currents, o.channel)) ∙ ap (reading_in d s.row) is) in
      subst (Turned d (means d s) p Run)
      (sym (same_meaning _ _ _ _ _ _ refl
      (map-set (link_from d s.row s.current) s.links j l' ∙ ap (set (map (link_from d s.row s.current) s.links) j) (λ i. holds c (read i) (k i)))
      (activities_to (with_job (party s p) (Taking j c ReadBlock)))))
      (comes (take_op j c) (activity_at (Taking j c Compare) e))
  compares_law j c e false k = subst (Turned d (means d s) p Run) (sym (same_meaning _ _ _ _ _ _ refl refl (activities_same (Taking j c Compare) (with_job (party s p) (Taking j c ReadCurrent)) e refl))) alters_nothing

  take_law : (j c : ℕ) (a : Access) → (party s p).job ≡ Taking j c a → Turned d (means d s) p (take_answer a) (means d (turn_take s p j c a))
  take_law j c ReadCurrent e =
      let o = task_at s ok p in_p (Taking j c ReadCurrent) e in
      subst (Turned d (means d s) p Run)
      (sym (same_meaning _ _ _ _ _ _ refl (links_same j (seeing (link s j) (current_of s c)) (in_links j o.own) o.stage o.stage) (activities_same (Taking j c ReadCurrent) (with_job (party s p) (Taking j c SetGuard)) e refl)))
      alters_nothing
  take_law j c SetGuard e =
      let o = task_at s ok p in_p (Taking j c SetGuard) e in
      subst (Turned d (means d s) p Run)
      (sym (same_meaning _ _ _ _ _ _ refl (links_same j (guarding (link s j)) (in_links j o.own) o.stage o.stage) (activities_same (Taking j c SetGuard) (with_job (party s p) (Taking j c Compare)) e refl)))
      alters_nothing
  take_law j c Compare e = compares_law j c e (eqb (current_of s c) (link s j).seen) refl
  take_law j c ReadBlock e = subst (Turned d (means d s) p Taken) (sym (same_meaning _ _ _ _ _ _ refl refl (activities_to (with_job (party s p) Idle)))) (ends Taken (activity_at (Taking j c ReadBlock) e))

  -- ** a put

  -- the block in hand is no link's
  hand_apart : (j h : ℕ) → (party s p).job ≡ Putting j h → (i c : ℕ) → i < width s.plan → (link s i).hold ≡ Some c → h ≢ (link s i).seen
  hand_apart j h e i c hi on_c is =
      let o = ok.held i hi c on_c in
      let b = (link s i).seen in
      omega (arith, o.not_free, free_with_lem s b (sound_once s ok b) p in_parties, ap (λ y. times b (in_hand y)) e, times_one b h, ap (same b) is, same_self b)

  -- the links after a put in force on channel c
  broken_links : (j h c : ℕ) → (party s p).job ≡ Putting j h → c < length s.current →
      map (link_from d s.row (set s.current c h)) s.links ≡ map (break_on c) (map (link_from d s.row s.current) s.links)
  broken_links j h c e in_c = map_like (link_from d s.row (set s.current c h)) (λ l. break_on c (link_from d s.row s.current l)) unused s.links
      (λ i hi. each i (omega (arith, hi, ok.links)) (link s i).hold refl)
      ∙ sym (map_after (break_on c) (link_from d s.row s.current) s.links)
    where
      each : (i : ℕ) → i < width s.plan → (st : Option ℕ) → (link s i).hold ≡ st → link_of d s.row (set s.current c h) (link s i).seen st ≡ break_on c (link_of d s.row s.current (link s i).seen st)
      each i hi None k = refl
      each i hi (Some a) k = ⊎_elim
          (λ (is : a ≡ c). ap (holds a (get_or s.row (link s i).seen d))
          ((ap (λ x. eqb (get_or (set s.current c h) x 0) (link s i).seen) is ∙ ap (λ x. eqb x (link s i).seen) (get_or-set_same s.current c h 0 in_c) ∙ ne_eqb h (link s i).seen (hand_apart j h e i a hi k))
          ∙ sym (ap (λ x. cond x false (eqb (get_or s.current a 0) (link s i).seen)) (eq-eqb a c is))))
          (λ (ne : a ≡ c → ⊥). ap (holds a (get_or s.row (link s i).seen d))
          (ap (λ x. eqb x (link s i).seen) (get_or-set_other s.current c a h 0 ne) ∙ sym (ap (λ x. cond x false (eqb (get_or s.current a 0) (link s i).seen)) (ne_eqb a c ne))))
          (cases_eq a c)

  -- the meaning of a put in force, whatever the answer
  put_brought : (j h c : ℕ) → (party s p).job ≡ Putting j h → (link s j).hold ≡ Some c → j < length s.links → (t : Bool) → eqb (current_of s c) (link s j).seen ≡ t →
      brought d (means d s) p (put j (get_or s.row h d)) ≡ put_on (means d s) p (get_or s.row h d) (holds c (get_or s.row (link s j).seen d) t)
  put_brought j h c e on_c in_j t k = ap (put_on (means d s) p (get_or s.row h d)) (link_at_lem j in_j (Some c) on_c ∙ ap (holds c (get_or s.row (link s j).seen d)) k)

  put_law : (j h : ℕ) → (party s p).job ≡ Putting j h → (t : Bool) → is_live s j ≡ t → (xs : List ℕ) → (party s p).ready ≡ xs →
      Turned d (means d s) p (cond t (after_put_answer xs) Missed) (means d (turn_put s p j h t))
  put_law j h e true k [] x =
      let o = task_at s ok p in_p (Putting j h) e in
      let c = channel_held (link s j).hold in
      let on_c : (link s j).hold ≡ Some c = o.held in
      let in_j = in_links j o.own in
      let in_c : c < length s.current = omega (arith, (ok.held j (own_below s.plan p j in_p o.own) c on_c).channel, ok.currents) in
      let r = get_or s.row h d in
      subst (Turned d (means d s) p Run)
      (put_brought j h c e on_c in_j true k ∙ sym (same_meaning _ _ _ _ _ _
      (map-set (reading_in d s.row) s.current c h)
      (broken_links j h c e in_c)
      (activities_to (retiring (party s p) j (link s j).seen) ∙ ap (λ y. set (map (activity_from d s.row) s.parties) p (activity_in d s.row (after_put j y))) x)))
      (comes (put j r) (activity_at (Putting j h) e))
  put_law j h e true k (b ∷ bs) x =
      let o = task_at s ok p in_p (Putting j h) e in
      let c = channel_held (link s j).hold in
      let on_c : (link s j).hold ≡ Some c = o.held in
      let in_j = in_links j o.own in
      let in_c : c < length s.current = omega (arith, (ok.held j (own_below s.plan p j in_p o.own) c on_c).channel, ok.currents) in
      let r = get_or s.row h d in
      let ds = map (activity_from d s.row) s.parties in
      subst (Turned d (means d s) p Stored)
      (ap (λ z. does z p idle) (put_brought j h c e on_c in_j true k) ∙ sym (same_meaning _ _ _ _ _ _
      (map-set (reading_in d s.row) s.current c h)
      (broken_links j h c e in_c)
      (activities_to (retiring (party s p) j (link s j).seen) ∙ (ap (λ y. set ds p (activity_in d s.row (after_put j y))) x ∙ sym (set_twice ds p (in_force Stored) idle)))))
      (comes_and_ends (put j r) Stored (activity_at (Putting j h) e) (ap (λ z. activity_of z p) (put_brought j h c e on_c in_j true k) ∙ get_or-set_same ds p (in_force Stored) idle in_activities))
  put_law j h e false k xs x =
      let o = task_at s ok p in_p (Putting j h) e in
      let c = channel_held (link s j).hold in
      let on_c : (link s j).hold ≡ Some c = o.held in
      let in_j = in_links j o.own in
      let r = get_or s.row h d in
      let ds = map (activity_from d s.row) s.parties in
      subst (Turned d (means d s) p Missed)
      (ap (λ z. does z p idle) (put_brought j h c e on_c in_j false k) ∙ sym (same_meaning _ _ _ _ _ _ refl refl
      (activities_to (missing (party s p) h) ∙ sym (set_twice ds p (in_force Missed) idle))))
      (comes_and_ends (put j r) Missed (activity_at (Putting j h) e) (ap (λ z. activity_of z p) (put_brought j h c e on_c in_j false k) ∙ get_or-set_same ds p (in_force Missed) idle in_activities))

  scan_law : (j k : ℕ) (g : Option ℕ) → (party s p).job ≡ Scanning j k → (t : Bool) → Turned d (means d s) p (cond t Run Stored) (means d (turn_scan s p j k g t))
  scan_law j k g e true = subst (Turned d (means d s) p Run) (sym (same_meaning _ _ _ _ _ _ refl refl (activities_same (Scanning j k) (noting (party s p) j k g) e refl))) alters_nothing
  scan_law j k g e false = subst (Turned d (means d s) p Stored) (sym (same_meaning _ _ _ _ _ _ refl refl (activities_to (freeing (party s p) (noted g (party s p).read))))) (ends Stored (activity_at (Scanning j k) e))

  check_law : (j : ℕ) → (party s p).job ≡ Checking j → (t : Bool) → is_live s j ≡ t → Turned d (means d s) p (cond t Live Broken) (means d (turn_job s p (Checking j)))
  check_law j e t k =
      let o = task_at s ok p in_p (Checking j) e in
      let c = channel_held (link s j).hold in
      let on_c : (link s j).hold ≡ Some c = o.held in
      let in_j = in_links j o.own in
      let ds = map (activity_from d s.row) s.parties in
      let l = link_at (means d s) j in
      let is : l ≡ holds c (get_or s.row (link s j).seen d) t = link_at_lem j in_j (Some c) on_c ∙ ap (holds c (get_or s.row (link s j).seen d)) k in
      subst (Turned d (means d s) p (cond t Live Broken))
      (sym (same_meaning _ _ _ _ _ _ refl refl (activities_to (with_job (party s p) Idle) ∙ sym (set_twice ds p (in_force (verdict l)) idle))))
      (comes_and_ends (check j) (cond t Live Broken) (activity_at (Checking j) e) (get_or-set_same ds p (in_force (verdict l)) idle in_activities ∙ ap in_force (ap verdict is ∙ verdict_is t (get_or s.row (link s j).seen d) c)))
    where
      verdict_is : (u : Bool) (x : R) (c : ℕ) → verdict (holds c x u) ≡ cond u Live Broken
      verdict_is true x c = refl
      verdict_is false x c = refl

  turn_law : (job : Job) → (party s p).job ≡ job → Turned d (means d s) p (answer_job s p job) (means d (turn_job s p job))
  turn_law Idle e = alters_nothing
  turn_law (Taking j c a) e = take_law j c a e
  turn_law (Putting j h) e = put_law j h e (is_live s j) refl (party s p).ready refl
  turn_law (Scanning j k) e = scan_law j k (link s k).guard e (ltb (k + 1) (width s.plan))
  turn_law (Checking j) e = check_law j e (is_live s j) refl

pub turns : {R : Type 0} (d : R) (s : State R) → Sound s → (p : ℕ) → p < s.plan.parties → Turned d (means d s) p (answer s p) (means d (turned s p))
turns d s ok p in_p = turn_law d s ok p in_p (party s p).job refl
