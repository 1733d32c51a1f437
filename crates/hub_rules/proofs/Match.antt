-- When an exact hub is a hub of the model in which the law of runs is proved.
use Rattle.std.proofs.Common.{◌≡◌, ℕ, suc, ◌<◌, ◌≤◌, ◌≢◌, [], length, get_or}
use Rattle.shelf.specs.declared.answer.Answer.{Answer}
use Rattle.shelf.specs.declared.answer.Answer.TheVariants.{Taken, Stored, Missed, Live, Broken}
use Rattle.plan.specs.declared.check.Plan.{Plan}
use Rattle.shelf.specs.Meaning.{flat, Link, Operation, take, put, check, Activity, idle, waits, in_force, Meaning, link_at, activity_of, Sizes}
use Rattle.shelf.specs.Rules.{Rules}
use Rattle.history.proofs.Shelf.{Said, taken, stored, missed, live, broken, Job, rests, awaits, forced, Shelf}
use Rattle.history.proofs.Hub as N
use Rattle.history.specs.Board.{Order, amendment, picture}
use Rattle.history.proofs.Hub.{Stage, taking, putting, checking, Task, free, doing}
use Rattle.history.proofs.Fitting.{Ready}
use Rattle.hub_rules.specs.declared.parts.Party.{Party}
use Rattle.hub_rules.specs.declared.parts.Party.TheVariants.{Idle, AmendmentTake, AmendmentPut, PictureTake, PictureCheck}
use Rattle.hub_rules.specs.Hub.{Hub, channels_of}

abbrev pub answer_of : Said → Answer
answer_of taken = Taken
answer_of stored = Stored
answer_of missed = Missed
answer_of live = Live
answer_of broken = Broken

-- a party's record as the model has it
abbrev pub task_of : Party → Task
task_of Idle = free
task_of (AmendmentTake c w) = doing (amendment c w) (taking 0)
task_of (AmendmentPut c w) = doing (amendment c w) putting
task_of (PictureTake l i) = doing (picture (channels_of l)) (taking i)
task_of (PictureCheck l i) = doing (picture (channels_of l)) (checking i)

-- the order and the stage of an operation that runs
abbrev pub order_of : Party → Order
order_of Idle = picture []
order_of (AmendmentTake c w) = amendment c w
order_of (AmendmentPut c w) = amendment c w
order_of (PictureTake l i) = picture (channels_of l)
order_of (PictureCheck l i) = picture (channels_of l)

abbrev pub stage_of : Party → Stage
stage_of Idle = putting
stage_of (AmendmentTake c w) = taking 0
stage_of (AmendmentPut c w) = putting
stage_of (PictureTake l i) = taking i
stage_of (PictureCheck l i) = checking i

module _ {R : Type 0} where
  -- an operation on a link of party p, by the number among the links of all parties
  abbrev pub flat_operation : Plan → ℕ → Operation R → Operation R
  flat_operation pl p (take i c) = take (flat pl p i) c
  flat_operation pl p (put i v) = put (flat pl p i) v
  flat_operation pl p (check i) = check (flat pl p i)

  -- a waiting operation is on a link of its party, a take on a channel, the others on a link that is not empty
  abbrev pub CanWait : Plan → (ℕ → Link R) → Operation R → Type 0
  CanWait pl links (take i c) = (i < pl.links) × (c < pl.channels)
  CanWait pl links (put i v) = (i < pl.links) × Ready (links i)
  CanWait pl links (check i) = (i < pl.links) × Ready (links i)

  abbrev pub DoesAs : Plan → ℕ → (ℕ → Link R) → Activity R → Job R → Type 0
  DoesAs pl p links d rests = d ≡ idle
  DoesAs pl p links d (awaits a) = (d ≡ waits (flat_operation pl p a)) × CanWait pl links a
  DoesAs pl p links d (forced a sd) = d ≡ in_force (answer_of sd)

  -- a meaning, and readings, links and jobs of the model
  pub record Fits (blank : R) (pl : Plan) (M : Meaning R) (reading : ℕ → R) (link : ℕ → ℕ → Link R) (job : ℕ → Job R) : Type 0 where
    pub sizes : Sizes pl M
    pub readings : (c : ℕ) → c < pl.channels → get_or M.readings c blank ≡ reading c
    pub links : (p i : ℕ) → p < pl.parties → i < pl.links → link_at M (flat pl p i) ≡ link p i
    pub activities : (p : ℕ) → p < pl.parties → DoesAs pl p (link p) (activity_of M p) (job p)

  -- an exact shelf state and a shelf of the model, at a plan and a patience
  pub record Shelved (rules : Rules R) (pl : Plan) (w : ℕ) (s : rules.State) (m : Shelf R) : Type 0 where
    pub sound : rules.sound s
    pub plan : rules.plan s ≡ pl
    pub patience : rules.patience s ≡ w
    pub fits : Fits rules.blank pl (rules.means s) m.reading m.link m.job
    pub left : (p : ℕ) → p < pl.parties → activity_of (rules.means s) p ≢ idle → rules.left s p ≤ suc (m.left p)

  -- what a party does, by its job
  pub does_at : {blank : R} {pl : Plan} {M : Meaning R} {reading : ℕ → R} {link : ℕ → ℕ → Link R} {job : ℕ → Job R} → Fits blank pl M reading link job
      → (p : ℕ) (J : Job R) → p < pl.parties → job p ≡ J → DoesAs pl p (link p) (activity_of M p) J
  does_at F p J in_p e = rw (← e) (F.activities p in_p)

  pub link_is : {rules : Rules R} {pl : Plan} {w : ℕ} {s : rules.State} {m : Shelf R} → Shelved rules pl w s m
      → (p i : ℕ) → p < pl.parties → i < pl.links → link_at (rules.means s) (flat (rules.plan s) p i) ≡ m.link p i
  link_is ok p i in_p in_i = rw ok.plan (ok.fits.links p i in_p in_i)

  -- an exact hub and a hub of the model
  pub record Matches (rules : Rules R) (pl : Plan) (w : ℕ) (x : Hub rules) (h : N.Hub R) : Type 0 where
    pub shelved : Shelved rules pl w x.shelf h.shelf
    pub size : length x.table ≡ pl.parties
    pub tasks : (p : ℕ) → h.task p ≡ task_of (get_or x.table p Idle)
