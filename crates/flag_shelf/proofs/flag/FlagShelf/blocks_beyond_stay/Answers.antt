use Rattle.flag_rules.proofs.Steps.{sound_out}
use Rattle.flag_shelf.proofs.Outside.{beyond_stays}
use Rattle.flag_shelf.specs.States.{flag_state}
use Rattle.flag_shelf.proofs.flag.FlagShelf.blocks_beyond_stay.Goals as goal

pub returns : goal.returns
returns g c =
    let s = flag_state c.args.self.now in
    beyond_stays g.R.Reading.kind.blank s (sound_out s c.args.self.now.sound)
