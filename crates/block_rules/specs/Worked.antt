-- Worked runs of the block shelf: two parties, one link each, one channel, tallies as plain numbers.
use Rattle.std.specs.Prelude.{◌≡◌, ℕ, zero, suc, [], ◌∷◌, replicate, slice_index_or}
use Rattle.plan.specs.Plans.{plan_verdict}
use Rattle.plan.specs.Refusals.{accepted, refused}
use Rattle.plan.specs.declared.check.Plan.{Plan}
use Rattle.plan.specs.declared.check.ShelfType.TheVariants.{Block}
use Rattle.block_rules.specs.declared.parts.Job.TheVariants.{Idle, Scanning}
use Rattle.block_rules.specs.Blocks.{State, link, party, current_of, made, start_take, start_put, dropped, turned}

abbrev pub small : Plan
small = record { parties = 2; links = 1; channels = 1 }

abbrev pub turns_for : ℕ → State ℕ → ℕ → State ℕ
turns_for zero s p = s
turns_for (suc n) s p = turns_for n (turned s p) p

-- party p takes the channel on its link, which has number p, in four turns
abbrev pub taking : State ℕ → ℕ → State ℕ
taking s p = turns_for 4 (start_take s p p 0) p

-- it takes the channel, starts a put of r, and has n turns
abbrev pub pair : State ℕ → ℕ → ℕ → ℕ → State ℕ
pair s p r n = turns_for n (start_put (taking s p) p p r) p

-- party 0's third such pair, after two whose puts took one turn each; its own put has had n turns
abbrev pub third : State ℕ → ℕ → State ℕ
third s n = pair (pair (pair s 0 5 1) 0 10 1) 0 15 n

abbrev pub start : State ℕ
start = made 0 small (replicate 7 9999)

pub record WorkedRuns : Type 0 where
  -- seven blocks suffice, six do not
  pub suffice : plan_verdict small Block 7 ≡ accepted small
  pub too_few : plan_verdict small Block 6 ≡ refused 14
  -- the first put ends in one turn, and the third goes on with a scan of two turns more
  pub first_ends : (party (pair start 0 5 1) 0).job ≡ Idle
  pub scan_starts : (party (third start 1) 0).job ≡ Scanning 0 0
  pub scan_goes_on : (party (third start 2) 0).job ≡ Scanning 0 1
  pub scan_ends : (party (third start 3) 0).job ≡ Idle
  -- block 3 is current; 1 is on top of ready and 0 below it; 2, which the link still guards, is retired
  pub current : current_of (third start 3) 0 ≡ 3
  pub ready : (party (third start 3) 0).ready ≡ 1 ∷ 0 ∷ []
  pub retired : (party (third start 3) 0).retired ≡ 2 ∷ []
  -- while party 1 holds block 0, only block 1 becomes ready, and party 1 still sees what block 0 held
  pub held_ready : (party (third (taking start 1) 3) 0).ready ≡ 1 ∷ []
  pub held_retired : (party (third (taking start 1) 3) 0).retired ≡ 0 ∷ 2 ∷ []
  pub held_seen : slice_index_or (third (taking start 1) 3).row (link (third (taking start 1) 3) 1).seen 0 ≡ 0
  -- had party 1 dropped its link before, block 0 would be ready too
  pub let_go : (party (third (dropped (taking start 1) 1) 3) 0).ready ≡ 1 ∷ 0 ∷ []
  -- the channel meanwhile reads what the third put gave
  pub reads : slice_index_or (third (taking start 1) 3).row (current_of (third (taking start 1) 3) 0) 0 ≡ 15
