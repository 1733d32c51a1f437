use Rattle.std.proofs.Common.{◌≡◌, ℕ, ◌+◌, ◌<◌, List, ◌++◌, map, length, get_or, take, drop, set, ap, ◌∙◌, arith}
use Rattle.std.proofs.lemmas.List.Edits.{map_over_more}
use Rattle.std.proofs.lemmas.List.{get_or_default}
use Rattle.flag_rules.specs.declared.parts.Mark.{Mark}
use Rattle.flag_rules.specs.declared.parts.Mark.TheVariants.{Empty}
use Rattle.flag_rules.specs.Flags.{break_mark}
use Rattle.flag_shelf.proofs.calls.break_marks.Goals as goal

-- one mark more
more : (c : ℕ) (old marks : List Mark) (i : ℕ) (m : Mark) → i < length old → length marks ≡ length old
    → marks ≡ map (break_mark c) (take i old) ++ drop i old → m ≡ break_mark c (get_or marks i Empty)
    → set marks i m ≡ map (break_mark c) (take (i + 1) old) ++ drop (i + 1) old
more c old marks i m h l e q =
    ap (set marks i) q ∙ map_over_more (break_mark c) old marks i (get_or marks i Empty) h e (get_or_default marks i Empty (get_or marks i Empty) (omega arith))

pub loop-mark-preserved : goal.loop-mark-preserved
loop-mark-preserved c =
    more c.args.channel c.args.marks.now c.loop-mark.mark-items c.loop-mark.mark-index c.broken.result c.loop-mark-test.true
    c.loop-mark.auto.mark-items c.loop-mark.invariant c.broken.ensures
