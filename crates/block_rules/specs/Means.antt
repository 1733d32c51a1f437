-- What a state of the block shelf means, and the turns that a running operation may still spend.
use Rattle.std.specs.Prelude.{ℕ, ◌+◌, ◌-◌, Bool, true, false, List, [], ◌∷◌, map, ◌==◌, slice_index, slice_index_or, Some, None, Option}
use Rattle.plan.specs.Plans.{width}
use Rattle.shelf.specs.declared.answer.Answer.TheVariants as answers
use Rattle.shelf.specs.Meaning.{Link, vacant, holds, Activity, idle, waits, in_force, take as take_op, put, check, Meaning}
use Rattle.block_rules.specs.declared.parts.LinkState.{LinkState}
use Rattle.block_rules.specs.declared.parts.Access.{Access}
use Rattle.block_rules.specs.declared.parts.Access.TheVariants.{ReadCurrent, SetGuard, Compare, ReadBlock}
use Rattle.block_rules.specs.declared.parts.Job.{Job}
use Rattle.block_rules.specs.declared.parts.Job.TheVariants.{Idle, Taking, Putting, Scanning, Checking}
use Rattle.block_rules.specs.Blocks.{Party, State, link, party, current_of}

module _ {R : Type 0} (d : R) where
  -- a link's reading is what its seen block holds; it is live while that block is its channel's current one
  abbrev pub link_of : List R → List ℕ → ℕ → Option ℕ → Link R
  link_of row current b None = vacant
  link_of row current b (Some c) = holds c (slice_index_or row b d) (slice_index current c == b)

  abbrev pub link_from : List R → List ℕ → LinkState → Link R
  link_from row current l = link_of row current l.seen l.hold

  -- a take is in force from its comparison on, a put while its party scans
  abbrev pub activity_in : List R → Job → Activity R
  activity_in row Idle = idle
  activity_in row (Taking j c ReadCurrent) = waits (take_op j c)
  activity_in row (Taking j c SetGuard) = waits (take_op j c)
  activity_in row (Taking j c Compare) = waits (take_op j c)
  activity_in row (Taking j c ReadBlock) = in_force answers.Taken
  activity_in row (Putting j h) = waits (put j (slice_index_or row h d))
  activity_in row (Scanning j k) = in_force answers.Stored
  activity_in row (Checking j) = waits (check j)

  abbrev pub activity_from : List R → Party → Activity R
  activity_from row q = activity_in row q.job

  abbrev pub reading_in : List R → ℕ → R
  reading_in row b = slice_index_or row b d

  abbrev pub means : State R → Meaning R
  means s = record {
    readings = map (reading_in s.row) s.current;
    links = map (link_from s.row s.current) s.links;
    activities = map (activity_from s.row) s.parties;
  }

-- ** turns left

-- of a take, by its next access and whether the current block is the one that it saw
abbrev pub take_left : Access → Bool → ℕ
take_left ReadCurrent t = 4
take_left SetGuard true = 3
take_left SetGuard false = 6
take_left Compare true = 2
take_left Compare false = 5
take_left ReadBlock t = 1

-- of a put that waits: with nothing ready it may have to scan
abbrev pub put_left : ℕ → List ℕ → ℕ
put_left h [] = h + 1
put_left h (b ∷ bs) = 1

abbrev pub job_left : {R : Type 0} → State R → Party → Job → ℕ
job_left s q Idle = 0
job_left s q (Taking j c a) = take_left a (current_of s c == (link s j).seen)
job_left s q (Putting j h) = put_left (width s.plan) q.ready
job_left s q (Scanning j k) = width s.plan - k
job_left s q (Checking j) = 1

abbrev pub turns_left : {R : Type 0} → State R → ℕ → ℕ
turns_left s p = job_left s (party s p) (party s p).job
