-- The exact rules of the flag shelf: channel c's reading in block c, that of link j in block C + j, and a mark for each link.
-- Each operation comes into force and ends in one turn. A link is given by its number among the links of all parties.
use Rattle.std.specs.Prelude.{◌≡◌, ℕ, ◌+◌, ◌<◌, ◌≤◌, Bool, true, false, cond, List, [], ◌++◌, map, length, drop, replicate, ◌==◌, slice_index_or, slice_set}
use Rattle.plan.specs.Plans.{width, need, plan_verdict, no_plan, Small}
use Rattle.plan.specs.Refusals.{Outcome, accepted, refused}
use Rattle.plan.specs.declared.check.Plan.{Plan}
use Rattle.plan.specs.declared.check.ShelfType.TheVariants.{Flag}
use Rattle.shelf.specs.declared.answer.Answer.{Answer}
use Rattle.shelf.specs.declared.answer.Answer.TheVariants as answers
use Rattle.shelf.specs.Meaning.{Own}
use Rattle.flag_rules.specs.declared.parts.Mark.{Mark}
use Rattle.flag_rules.specs.declared.parts.Mark.TheVariants.{Empty, Live, Broken}
use Rattle.flag_rules.specs.declared.parts.Job.{Job}
use Rattle.flag_rules.specs.declared.parts.Job.TheVariants.{Idle, Taking, Putting, Checking}

pub record State (R : Type 0) : Type 0 where
  pub plan : Plan
  pub row : List R
  pub marks : List Mark
  pub jobs : List (Job R)

abbrev pub mark_at : {R : Type 0} → State R → ℕ → Mark
mark_at s j = slice_index_or s.marks j Empty

abbrev pub job_of : {R : Type 0} → State R → ℕ → Job R
job_of s p = slice_index_or s.jobs p Idle

abbrev pub with_job : {R : Type 0} → State R → ℕ → Job R → State R
with_job s p job = record { plan = s.plan; row = s.row; marks = s.marks; jobs = slice_set s.jobs p job }

-- ** starting and dropping

abbrev pub start_take : {R : Type 0} → State R → ℕ → ℕ → ℕ → State R
start_take s p j c = record { plan = s.plan; row = s.row; marks = slice_set s.marks j Empty; jobs = slice_set s.jobs p (Taking j c) }

abbrev pub start_put : {R : Type 0} → State R → ℕ → ℕ → R → State R
start_put s p j r = with_job s p (Putting j r)

abbrev pub start_check : {R : Type 0} → State R → ℕ → ℕ → State R
start_check s p j = with_job s p (Checking j)

abbrev pub dropped : {R : Type 0} → State R → ℕ → State R
dropped s j = record { plan = s.plan; row = s.row; marks = slice_set s.marks j Empty; jobs = s.jobs }

-- ** a turn

abbrev pub break_mark : ℕ → Mark → Mark
break_mark c Empty = Empty
break_mark c (Live e) = cond (e == c) (Broken e) (Live e)
break_mark c (Broken e) = Broken e

-- the channel's reading is copied to the link's block
abbrev pub taken : {R : Type 0} → R → State R → ℕ → ℕ → ℕ → State R
taken d s p j c = record {
  plan = s.plan;
  row = slice_set s.row (s.plan.channels + j) (slice_index_or s.row c d);
  marks = slice_set s.marks j (Live c);
  jobs = slice_set s.jobs p Idle;
}

-- a put on a live link stores, and breaks every link on the channel
abbrev pub put_by : {R : Type 0} → State R → ℕ → R → Mark → State R
put_by s p r Empty = with_job s p Idle
put_by s p r (Live c) = record { plan = s.plan; row = slice_set s.row c r; marks = map (break_mark c) s.marks; jobs = slice_set s.jobs p Idle }
put_by s p r (Broken c) = with_job s p Idle

abbrev pub turn_by : {R : Type 0} → R → State R → ℕ → Job R → State R
turn_by d s p Idle = s
turn_by d s p (Taking j c) = taken d s p j c
turn_by d s p (Putting j r) = put_by s p r (mark_at s j)
turn_by d s p (Checking j) = with_job s p Idle

abbrev pub turned : {R : Type 0} → R → State R → ℕ → State R
turned d s p = turn_by d s p (job_of s p)

abbrev pub put_answer : Mark → Answer
put_answer Empty = answers.Missed
put_answer (Live c) = answers.Stored
put_answer (Broken c) = answers.Missed

abbrev pub answer_of_check : Mark → Answer
answer_of_check Empty = answers.Broken
answer_of_check (Live c) = answers.Live
answer_of_check (Broken c) = answers.Broken

abbrev pub answer_by : {R : Type 0} → State R → Job R → Answer
answer_by s Idle = answers.Run
answer_by s (Taking j c) = answers.Taken
answer_by s (Putting j r) = put_answer (mark_at s j)
answer_by s (Checking j) = answer_of_check (mark_at s j)

abbrev pub answer : {R : Type 0} → State R → ℕ → Answer
answer s p = answer_by s (job_of s p)

-- ** the states that a flag shelf can be in

abbrev pub is_full : Mark → Bool
is_full Empty = false
is_full (Live c) = true
is_full (Broken c) = true

abbrev pub Full : Mark → Type 0
Full Empty = ⊥
Full (Live c) = Unit {0}
Full (Broken c) = Unit {0}

abbrev pub MarkFits : ℕ → Mark → Type 0
MarkFits channels Empty = Unit {0}
MarkFits channels (Live c) = c < channels
MarkFits channels (Broken c) = c < channels

abbrev pub JobFits : {R : Type 0} → State R → ℕ → Job R → Type 0
JobFits s p Idle = Unit {0}
JobFits s p (Taking j c) = Own s.plan p j × (c < s.plan.channels)
JobFits s p (Putting j r) = Own s.plan p j × Full (mark_at s j)
JobFits s p (Checking j) = Own s.plan p j × Full (mark_at s j)

pub record Sound {R : Type 0} (s : State R) : Type 0 where
  pub small : Small s.plan
  pub rows : need Flag s.plan ≤ length s.row
  pub marks : length s.marks ≡ width s.plan
  pub jobs : length s.jobs ≡ s.plan.parties
  pub marks_fit : (j : ℕ) → j < width s.plan → MarkFits s.plan.channels (mark_at s j)
  pub jobs_fit : (p : ℕ) → p < s.plan.parties → JobFits s p (job_of s p)

-- the state that a shelf's parts stand for
abbrev pub state_of : {R : Type 0} → Plan → List R → List Mark → List (Job R) → State R
state_of plan row marks jobs = record { plan = plan; row = row; marks = marks; jobs = jobs }

-- ** the making

-- an accepted plan blanks the blocks of its need and no others; a refused one gives a shelf without parties or need, and touches no block
abbrev pub made_by : {R : Type 0} → R → List R → Outcome Plan → State R
made_by d row (accepted pl) = state_of pl (replicate (need Flag pl) d ++ drop (need Flag pl) row) (replicate (width pl) Empty) (replicate pl.parties Idle)
made_by d row (refused n) = state_of no_plan row [] []

abbrev pub made : {R : Type 0} → R → Plan → List R → State R
made d pl row = made_by d row (plan_verdict pl Flag (length row))
