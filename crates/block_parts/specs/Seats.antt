-- The party of the rules that a seat stands for, and what its steps make of it.
use Rattle.std.specs.Prelude.{ℕ, if◌then◌else◌, List, [], ◌∷◌, reverse, Some, None, Option}
use Rattle.block_rules.specs.declared.parts.Job.{Job}
use Rattle.block_rules.specs.declared.parts.Place.{Place}
use Rattle.block_rules.specs.declared.parts.Place.TheVariants.{Ready, Retired, InHand}
use Rattle.block_rules.specs.Blocks.{Party, in_hand, taken_up, among, noted}
use Rattle.block_parts.specs.declared.seat.Seat.{Seat}
use Rattle.block_parts.specs.Lists.{blocks_in}

-- the top of the ready stack is the last of its list
abbrev pub party_of : Seat → Party
party_of q = record { ready = reverse (blocks_in q.ready); retired = blocks_in q.retired; read = blocks_in q.read; job = q.job }

-- the top of a stack, and the party after it went into hand for a put on link j
abbrev pub top_of : List ℕ → Option ℕ
top_of [] = None
top_of (h ∷ rest) = Some h

abbrev pub took_up : Party → ℕ → List ℕ → Party
took_up q j [] = q
took_up q j (h ∷ rest) = taken_up q j h rest

-- the party after its scan read a guard and goes on
abbrev pub going_on : Party → Option ℕ → Job → Party
going_on q g job = record { ready = q.ready; retired = q.retired; read = noted g q.read; job = job }

-- where block b stands with party p, if it does
abbrev pub place_with : Party → ℕ → ℕ → Option Place
place_with q p b = if among b q.ready then Some (Ready p) else if among b q.retired then Some (Retired p) else if among b (in_hand q.job) then Some (InHand p) else None
