-- What a flag shelf's fields tell: that they fit each other, and the states to which the code leads.
use Rattle.std.proofs.Common.{◌≡◌, ℕ, ◌+◌, ◌^◌, ◌<◌, false, ◌≢◌, List, [], ◌∷◌, map, length, get_or, drop, set, sym, refl, ap, ◌∙◌, subst, arith}
use Rattle.std.proofs.lemmas.List.{get_or-drop, get_or_past}
use Rattle.std.proofs.lemmas.Bool.{true≢false}
use Rattle.std.proofs.lemmas.Nat.{mul-le}
use Rattle.plan.specs.Refusals.{Test, accepted, unless_refused}
use Rattle.plan.specs.declared.check.Plan.{Plan}
use Rattle.shelf.specs.Meaning.{flat, Own, Meaning, link_at}
use Rattle.shelf.specs.Calls.{known, free, has_link, full, reading_on, is_idle, looked}
use Rattle.shelf.proofs.Basics.{own_below}
use Rattle.shelf.proofs.Passing.{passes}
use Rattle.shelf.proofs.Granted.{free_passed, number_is, party_in, idle_there, link_own, link_full}
use Rattle.flag_rules.specs.declared.parts.Mark.{Mark}
use Rattle.flag_rules.specs.declared.parts.Mark.TheVariants.{Empty, Live, Broken}
use Rattle.flag_rules.specs.declared.parts.Job.{Job}
use Rattle.flag_rules.specs.declared.parts.Job.TheVariants.{Idle, Taking}
use Rattle.flag_rules.specs.Flags.{State, state_of, mark_at, job_of, with_job, break_mark, taken, put_by, turn_by, Full, JobFits, Sound}
use Rattle.flag_rules.specs.Means.{means, link_of, activity_in}
use Rattle.flag_rules.proofs.Meant.{link_is, idle_from, full_from}
use Rattle.flag_rules.proofs.Steps.{sound_out, sound_job, sound_take, sound_drop, sound_turn}
use Rattle.flag_rules.proofs.AsShelf.{flag_shelf_rules}
use Rattle.flag_shelf.specs.declared.flag.FlagShelf.{FlagShelf}
use Rattle.flag_shelf.specs.States.{flag_state}

module _ {R : Type 0} (d : R) (v : FlagShelf R) where
  abbrev pl : Plan
  pl = v.plan

  abbrev row : List R
  row = v.row.blocks.now

  abbrev marks : List Mark
  marks = v.marks.items

  abbrev jobs : List (Job R)
  jobs = v.jobs.items

  abbrev s : State R
  s = flag_state v

  abbrev m : Meaning R
  m = means d s

  ok : Sound s
  ok = sound_out s v.sound

  pub job_there : (p : ℕ) → p < pl.parties → p < length jobs
  job_there p h = omega (arith, ok.jobs)

  -- a party that waits for something is there
  pub party_there : (p : ℕ) (job : Job R) → job_of s p ≡ job → is_idle (activity_in job) ≡ false → p < pl.parties
  party_there p job e w =
      let n : job_of s p ≢ Idle = λ q. true≢false (sym (ap (λ (x : Job R). is_idle (activity_in x)) (sym e ∙ q)) ∙ w) in
      grind (arith, get_or_past jobs p Idle, ok.jobs, n)

  -- a link of a party that is there
  module _ (p j : ℕ) (in_p : p < pl.parties) (own : Own pl p j) where
    pub mark_there : j < length marks
    mark_there = omega (arith, ok.marks, own_below pl p j in_p own)

    pub block_small : pl.channels + j < 2 ^ 64
    block_small =
        omega (arith, own_below pl p j in_p own, mul-le pl.parties pl.links 24 4 ok.small.parties ok.small.links, ok.small.channels)

  -- what a free link's tests tell
  module _ (p i at : ℕ) (us : List Test) (e : accepted at ≡ unless_refused (known pl m p ∷ free pl m p ∷ has_link pl m i ∷ us) (flat pl p i)) where
    pub there : p < pl.parties
    there = party_in pl m p i at us e

    pub own : Own pl p at
    own = link_own pl m p i at us e

    pub take_kept : (c : ℕ) → c < pl.channels → ∥ Sound (state_of pl row (set marks at Empty) (set jobs p (Taking at c))) ∥₁
    take_kept c in_c = ∣ sound_take s ok p there at c own in_c ∣₁

    pub drop_kept : ∥ Sound (state_of pl row (set marks at Empty) jobs) ∥₁
    drop_kept = ∣ sound_drop s ok p there at (idle_from d s p (idle_there pl m p i at us e)) own ∣₁

  -- and those of a held one
  module _ (p i at : ℕ) (e : accepted at ≡ unless_refused (known pl m p ∷ free pl m p ∷ has_link pl m i ∷ full pl m p i ∷ []) (flat pl p i)) where
    held : Full (mark_at s at)
    held = full_from d s at (link_full pl m p i at e)

    pub held_kept : (job : Job R) → (Own pl p at × Full (mark_at s at) → JobFits (with_job s p job) p job) → ∥ Sound (state_of pl row marks (set jobs p job)) ∥₁
    held_kept job f =
        let us : List Test = full pl m p i ∷ [] in
        ∣ sound_job s ok p (there p i at us e) job (f (own p i at us e, held)) ∣₁

    pub look_is : (x : R) → x ≡ get_or row (pl.channels + at) d → accepted x ≡ looked (flag_shelf_rules d) s p i
    look_is x q =
        let us : List Test = full pl m p i ∷ [] in
        let shown : x ≡ reading_on d (link_at m at) =
        q ∙ (sym (get_or-drop pl.channels row at d) ∙ (shown_by (mark_at s at) (get_or (drop pl.channels row) at d) held ∙ ap (reading_on d) (sym (link_is d s at)))) in
        ap accepted (shown ∙ ap (λ (j : ℕ). reading_on d (link_at m j)) (number_is pl m p i at us e))
        ∙ sym (passes (known pl m p ∷ free pl m p ∷ has_link pl m i ∷ us) (reading_on d (link_at m (flat pl p i))) (free_passed pl m p i at us e))
      where
        shown_by : (k : Mark) (y : R) → Full k → y ≡ reading_on d (link_of k y)
        shown_by Empty y f = absurd f
        shown_by (Live c) y f = refl
        shown_by (Broken c) y f = refl

  -- ** turns

  module _ (p : ℕ) (in_p : p < pl.parties) where
    pub job_fits : (job : Job R) → job_of s p ≡ job → JobFits s p job
    job_fits job e = subst (λ (x : Job R). JobFits s p x) e (ok.jobs_fit p in_p)

    pub turn_kept : (job : Job R) → job_of s p ≡ job → (t : State R) → t ≡ turn_by d s p job → ∥ Sound t ∥₁
    turn_kept job e t q = ∣ subst Sound (ap (turn_by d s p) e ∙ sym q) (sound_turn s ok p in_p d) ∣₁

  -- the state that the code builds in each turn
  module _ (p : ℕ) where
    pub taken_is : (at c : ℕ) (x : R) (row' : List R) → row' ≡ set row (pl.channels + at) x → x ≡ get_or row c d
        → state_of pl row' (set marks at (Live c)) (set jobs p Idle) ≡ taken d s p at c
    taken_is at c x row' e q = ap (λ (xs : List R). state_of pl xs (set marks at (Live c)) (set jobs p Idle)) (e ∙ ap (set row (pl.channels + at)) q)

    pub missed_is : (at : ℕ) (r : R) (k : Mark) → ((c : ℕ) → k ≡ Live c → ⊥) → k ≡ get_or marks at Empty → state_of pl row marks (set jobs p Idle) ≡ put_by s p r (get_or marks at Empty)
    missed_is at r Empty n e = ap (put_by s p r) e
    missed_is at r (Live c) n e = absurd (n c refl)
    missed_is at r (Broken c) n e = ap (put_by s p r) e

    pub stored_is : (at c : ℕ) (r : R) (row' : List R) (marks' : List Mark) → row' ≡ set row c r → marks' ≡ map (break_mark c) marks → Live c ≡ get_or marks at Empty
        → state_of pl row' marks' (set jobs p Idle) ≡ put_by s p r (get_or marks at Empty)
    stored_is at c r row' marks' e q k =
        ap (λ (xs : List R). state_of pl xs marks' (set jobs p Idle)) e
        ∙ (ap (λ (ms : List Mark). state_of pl (set row c r) ms (set jobs p Idle)) q ∙ ap (put_by s p r) k)
