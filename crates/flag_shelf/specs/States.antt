-- The rules' state that a flag shelf's fields stand for.
use Rattle.std.specs.Prelude.{vec_items}
use Rattle.flag_rules.specs.Flags.{State, state_of}
use Rattle.flag_shelf.specs.declared.flag.FlagShelf.{FlagShelf}

abbrev pub flag_state : {R : Type 0} → FlagShelf R → State R
flag_state s = state_of s.plan s.row.blocks.now (vec_items s.marks) (vec_items s.jobs)
