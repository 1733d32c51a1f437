-- The exact rules of the block shelf: its state, and what each accepted call makes of it.
-- A link is given by its number among the links of all parties; the guards in the order of a scan are the links in list order.
use Rattle.std.specs.Prelude.{ℕ, zero, suc, ◌+◌, Bool, true, false, if◌then◌else◌, not, List, [], ◌∷◌, ◌++◌, reverse, length, drop, replicate, Some, None, filter, Option, ◌==◌, nat_lt, slice_index, slice_index_or, slice_set, unwrap_or}
use Rattle.std.specs.List.{range_with_len, list_any}
use Rattle.plan.specs.Plans.{width, need, plan_verdict, no_plan}
use Rattle.plan.specs.Refusals.{Outcome, accepted, refused}
use Rattle.plan.specs.declared.check.Plan.{Plan}
use Rattle.plan.specs.declared.check.ShelfType.TheVariants.{Block}
use Rattle.shelf.specs.declared.answer.Answer.{Answer}
use Rattle.shelf.specs.declared.answer.Answer.TheVariants as answers
use Rattle.block_rules.specs.declared.parts.LinkState.{LinkState}
use Rattle.block_rules.specs.declared.parts.Access.{Access}
use Rattle.block_rules.specs.declared.parts.Access.TheVariants.{ReadCurrent, SetGuard, Compare, ReadBlock}
use Rattle.block_rules.specs.declared.parts.Job.{Job}
use Rattle.block_rules.specs.declared.parts.Job.TheVariants.{Idle, Taking, Putting, Scanning, Checking}

-- H + 1, the blocks of each party
abbrev pub share : Plan → ℕ
share pl = width pl + 1

-- a party's ready blocks, the top first; its retired ones, the oldest first; the blocks that its scan read in guards; its job
pub record Party : Type 0 where
  pub ready : List ℕ
  pub retired : List ℕ
  pub read : List ℕ
  pub job : Job

-- the block in hand is part of the waiting put
abbrev pub in_hand : Job → List ℕ
in_hand Idle = []
in_hand (Taking j c a) = []
in_hand (Putting j h) = h ∷ []
in_hand (Scanning j k) = []
in_hand (Checking j) = []

pub record State (R : Type 0) : Type 0 where
  pub plan : Plan
  pub row : List R
  pub current : List ℕ
  pub links : List LinkState
  pub parties : List Party

abbrev pub state_of : {R : Type 0} → Plan → List R → List ℕ → List LinkState → List Party → State R
state_of plan row current links parties = record { plan = plan; row = row; current = current; links = links; parties = parties }

abbrev pub unused : LinkState
unused = record { seen = 0; guard = None; hold = None }

abbrev pub nobody : Party
nobody = record { ready = []; retired = []; read = []; job = Idle }

abbrev pub link : {R : Type 0} → State R → ℕ → LinkState
link s j = slice_index_or s.links j unused

abbrev pub party : {R : Type 0} → State R → ℕ → Party
party s p = slice_index_or s.parties p nobody

abbrev pub current_of : {R : Type 0} → State R → ℕ → ℕ
current_of s c = slice_index s.current c

-- ** the making

-- the n blocks from a on
abbrev pub blocks_from : ℕ → ℕ → List ℕ
blocks_from a n = range_with_len a n

-- a party that owns the m blocks from a on, all ready, the lowest on top
abbrev pub fresh_party : ℕ → ℕ → Party
fresh_party a m = record { ready = blocks_from a m; retired = []; read = []; job = Idle }

abbrev pub fresh_parties : ℕ → ℕ → ℕ → List Party
fresh_parties a m zero = []
fresh_parties a m (suc n) = fresh_party a m ∷ fresh_parties (a + m) m n

abbrev pub fresh : {R : Type 0} → Plan → List R → State R
fresh pl row = state_of pl row (blocks_from 0 pl.channels) (replicate (width pl) unused) (fresh_parties pl.channels (share pl) pl.parties)

-- an accepted plan blanks the blocks of its need and no others; a refused one gives a shelf without parties or need, and touches no block
abbrev pub made_by : {R : Type 0} → R → List R → Outcome Plan → State R
made_by d row (accepted pl) = fresh pl (replicate (need Block pl) d ++ drop (need Block pl) row)
made_by d row (refused n) = state_of no_plan row [] [] []

abbrev pub made : {R : Type 0} → R → Plan → List R → State R
made d pl row = made_by d row (plan_verdict pl Block (length row))

-- ** the parts of a step

abbrev pub with_job : Party → Job → Party
with_job q job = record { ready = q.ready; retired = q.retired; read = q.read; job = job }

abbrev pub with_party : {R : Type 0} → State R → ℕ → Party → State R
with_party s p q = state_of s.plan s.row s.current s.links (slice_set s.parties p q)

abbrev pub with_both : {R : Type 0} → State R → ℕ → LinkState → ℕ → Party → State R
with_both s j l p q = state_of s.plan s.row s.current (slice_set s.links j l) (slice_set s.parties p q)

abbrev pub emptied : LinkState → LinkState
emptied l = record { seen = l.seen; guard = None; hold = None }

abbrev pub seeing : LinkState → ℕ → LinkState
seeing l b = record { seen = b; guard = l.guard; hold = l.hold }

abbrev pub guarding : LinkState → LinkState
guarding l = record { seen = l.seen; guard = Some l.seen; hold = l.hold }

abbrev pub holding : LinkState → ℕ → LinkState
holding l c = record { seen = l.seen; guard = l.guard; hold = Some c }

abbrev pub channel_held : Option ℕ → ℕ
channel_held hold = unwrap_or hold 0

abbrev pub rests : Job → Bool
rests Idle = true
rests (Taking j c a) = false
rests (Putting j h) = false
rests (Scanning j k) = false
rests (Checking j) = false

-- whether the current block of the link's channel is the one that the link saw
abbrev pub is_live : {R : Type 0} → State R → ℕ → Bool
is_live s j = current_of s (channel_held (link s j).hold) == (link s j).seen

-- ** starting and dropping: j is a link of party p

abbrev pub start_take : {R : Type 0} → State R → ℕ → ℕ → ℕ → State R
start_take s p j c = with_both s j (emptied (link s j)) p (with_job (party s p) (Taking j c ReadCurrent))

-- the top ready block goes into hand
abbrev pub taken_up : Party → ℕ → ℕ → List ℕ → Party
taken_up q j h rest = record { ready = rest; retired = q.retired; read = q.read; job = Putting j h }

-- and the reading is written there
abbrev pub put_from : {R : Type 0} → State R → ℕ → ℕ → R → List ℕ → State R
put_from s p j r [] = s
put_from s p j r (h ∷ rest) = state_of s.plan (slice_set s.row h r) s.current s.links (slice_set s.parties p (taken_up (party s p) j h rest))

abbrev pub start_put : {R : Type 0} → State R → ℕ → ℕ → R → State R
start_put s p j r = put_from s p j r (party s p).ready

abbrev pub start_check : {R : Type 0} → State R → ℕ → ℕ → State R
start_check s p j = with_party s p (with_job (party s p) (Checking j))

abbrev pub dropped : {R : Type 0} → State R → ℕ → State R
dropped s j = state_of s.plan s.row s.current (slice_set s.links j (emptied (link s j))) s.parties

-- ** a turn of a take

-- same: the comparison holds
abbrev pub compared : {R : Type 0} → State R → ℕ → ℕ → ℕ → Bool → State R
compared s p j c true = with_both s j (holding (link s j) c) p (with_job (party s p) (Taking j c ReadBlock))
compared s p j c false = with_party s p (with_job (party s p) (Taking j c ReadCurrent))

abbrev pub turn_take : {R : Type 0} → State R → ℕ → ℕ → ℕ → Access → State R
turn_take s p j c ReadCurrent = with_both s j (seeing (link s j) (current_of s c)) p (with_job (party s p) (Taking j c SetGuard))
turn_take s p j c SetGuard = with_both s j (guarding (link s j)) p (with_job (party s p) (Taking j c Compare))
turn_take s p j c Compare = compared s p j c (current_of s c == (link s j).seen)
turn_take s p j c ReadBlock = with_party s p (with_job (party s p) Idle)

-- ** a turn of a put that waits

-- what follows a put that stored: a scan if nothing is ready
abbrev pub after_put : ℕ → List ℕ → Job
after_put j [] = Scanning j 0
after_put j (b ∷ bs) = Idle

-- the put stored, and the seen block b is retired
abbrev pub retiring : Party → ℕ → ℕ → Party
retiring q j b = record { ready = q.ready; retired = q.retired ++ (b ∷ []); read = []; job = after_put j q.ready }

-- the put missed, and its block h is on top of ready again
abbrev pub missing : Party → ℕ → Party
missing q h = record { ready = h ∷ q.ready; retired = q.retired; read = q.read; job = Idle }

abbrev pub turn_put : {R : Type 0} → State R → ℕ → ℕ → ℕ → Bool → State R
turn_put s p j h true = state_of s.plan s.row (slice_set s.current (channel_held (link s j).hold) h) s.links (slice_set s.parties p (retiring (party s p) j (link s j).seen))
turn_put s p j h false = with_party s p (missing (party s p) h)

-- ** a turn of a scan

abbrev pub among : ℕ → List ℕ → Bool
among b xs = list_any (λ x. x == b) xs

abbrev pub noted : Option ℕ → List ℕ → List ℕ
noted None read = read
noted (Some b) read = read ++ (b ∷ [])

-- a guard was read, and the scan goes on
abbrev pub noting : Party → ℕ → ℕ → Option ℕ → Party
noting q j k g = record { ready = q.ready; retired = q.retired; read = noted g q.read; job = Scanning j (k + 1) }

-- of the retired blocks: those that were not read in a guard, and those that were
abbrev pub unread : List ℕ → List ℕ → List ℕ
unread read retired = filter (λ b. not (among b read)) retired

abbrev pub still_held : List ℕ → List ℕ → List ℕ
still_held read retired = filter (λ b. among b read) retired

-- the last guard was read: each retired block that was read in none goes on top of ready, in the order of retiring
abbrev pub freeing : Party → List ℕ → Party
freeing q read = record { ready = reverse (unread read q.retired) ++ q.ready; retired = still_held read q.retired; read = read; job = Idle }

-- more: a guard is left to read after this one
abbrev pub turn_scan : {R : Type 0} → State R → ℕ → ℕ → ℕ → Option ℕ → Bool → State R
turn_scan s p j k g true = with_party s p (noting (party s p) j k g)
turn_scan s p j k g false = with_party s p (freeing (party s p) (noted g (party s p).read))

-- ** a turn

abbrev pub turn_job : {R : Type 0} → State R → ℕ → Job → State R
turn_job s p Idle = s
turn_job s p (Taking j c a) = turn_take s p j c a
turn_job s p (Putting j h) = turn_put s p j h (is_live s j)
turn_job s p (Scanning j k) = turn_scan s p j k (link s k).guard (nat_lt (k + 1) (width s.plan))
turn_job s p (Checking j) = with_party s p (with_job (party s p) Idle)

abbrev pub turned : {R : Type 0} → State R → ℕ → State R
turned s p = turn_job s p (party s p).job

abbrev pub take_answer : Access → Answer
take_answer ReadCurrent = answers.Run
take_answer SetGuard = answers.Run
take_answer Compare = answers.Run
take_answer ReadBlock = answers.Taken

abbrev pub after_put_answer : List ℕ → Answer
after_put_answer [] = answers.Run
after_put_answer (b ∷ bs) = answers.Stored

abbrev pub answer_job : {R : Type 0} → State R → ℕ → Job → Answer
answer_job s p Idle = answers.Run
answer_job s p (Taking j c a) = take_answer a
answer_job s p (Putting j h) = if is_live s j then after_put_answer (party s p).ready else answers.Missed
answer_job s p (Scanning j k) = if nat_lt (k + 1) (width s.plan) then answers.Run else answers.Stored
answer_job s p (Checking j) = if is_live s j then answers.Live else answers.Broken

abbrev pub answer : {R : Type 0} → State R → ℕ → Answer
answer s p = answer_job s p (party s p).job
