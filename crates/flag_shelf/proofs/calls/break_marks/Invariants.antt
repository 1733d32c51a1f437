use Rattle.std.proofs.Common.{◌≡◌, ◌++◌, map, take, drop}
use Rattle.flag_rules.specs.Flags.{break_mark}
use Rattle.flag_shelf.proofs.calls.break_marks.Given as goal

abbrev pub invariant-loop-mark : goal.invariant-loop-mark
invariant-loop-mark l = l.mark-items ≡ map (break_mark l.channel) (take l.mark-index l.initial.mark-items) ++ drop l.mark-index l.initial.mark-items
