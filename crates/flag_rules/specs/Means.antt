-- What a state of the flag shelf means.
use Rattle.std.specs.Prelude.{ℕ, true, false, List, [], ◌∷◌, map, take, drop}
use Rattle.shelf.specs.Meaning.{Link, vacant, holds, Activity, idle, waits, take as take_op, put, check, Meaning}
use Rattle.flag_rules.specs.declared.parts.Mark.{Mark}
use Rattle.flag_rules.specs.declared.parts.Mark.TheVariants.{Empty, Live, Broken}
use Rattle.flag_rules.specs.declared.parts.Job.{Job}
use Rattle.flag_rules.specs.declared.parts.Job.TheVariants.{Idle, Taking, Putting, Checking}
use Rattle.flag_rules.specs.Flags.{State}

abbrev pub link_of : {R : Type 0} → Mark → R → Link R
link_of Empty x = vacant
link_of (Live c) x = holds c x true
link_of (Broken c) x = holds c x false

-- the links, each by its mark and its block; d stands for a block that is not there
abbrev pub links_of : {R : Type 0} → R → List R → List Mark → List (Link R)
links_of d xs [] = []
links_of d [] (m ∷ ms) = link_of m d ∷ links_of d [] ms
links_of d (x ∷ xs) (m ∷ ms) = link_of m x ∷ links_of d xs ms

abbrev pub activity_in : {R : Type 0} → Job R → Activity R
activity_in Idle = idle
activity_in (Taking j c) = waits (take_op j c)
activity_in (Putting j r) = waits (put j r)
activity_in (Checking j) = waits (check j)

abbrev pub means : {R : Type 0} → R → State R → Meaning R
means d s = record {
  readings = take s.plan.channels s.row;
  links = links_of d (drop s.plan.channels s.row) s.marks;
  activities = map activity_in s.jobs;
}

-- the turns that a running operation may still spend: one
abbrev pub job_left : {R : Type 0} → Job R → ℕ
job_left Idle = 0
job_left (Taking j c) = 1
job_left (Putting j r) = 1
job_left (Checking j) = 1
