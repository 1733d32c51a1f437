use Rattle.std.proofs.Common.{◌≡◌, true, not, ap, ◌≢◌, ◌∙◌, refl, sym}
use Rattle.flag_rules.specs.declared.parts.Mark.{Mark}
use Rattle.flag_rules.specs.declared.parts.Mark.TheVariants.{Empty, Live, Broken}
use Rattle.flag_rules.specs.Flags.{is_full}
use Rattle.flag_rules.proofs.Meant.{is_full_lem}
use Rattle.flag_shelf.specs.States.{flag_state}
use Rattle.flag_shelf.proofs.calls.FlagShelfStanding.is_held.Goals as goal
use Rattle.flag_shelf.proofs.calls.FlagShelfStanding.is_held.Goals.{in-Empty, in_default}

full_unless : (m : Mark) → m ≢ Empty → is_full m ≡ true
full_unless Empty n = absurd (n refl)
full_unless (Live c) n = refl
full_unless (Broken c) n = refl

pub returns : goal.returns
returns g c =
    elim c.match-matches.branch [
      | in-Empty w ↦ ap not w.matches-is ∙ sym (ap is_full w.in-Empty.is)
      | in_default w ↦ ap not w.matches-is ∙ sym (full_unless c.mark.result w.in_default.not-Empty)
    ]
    ∙ (ap is_full c.mark.ensures ∙ is_full_lem g.R.Reading.kind.blank (flag_state c.args.self.now) c.args.at)
