use Rattle.std.proofs.Common.{[], arith}
use Rattle.flag_shelf.specs.States.{flag_state}
use Rattle.flag_shelf.proofs.Fit.{mark_there, there, own, drop_kept}
use Rattle.flag_shelf.proofs.flag_shelf.FlagShelfShelf.drop_link.Goals as goal

pub index_mut-requires : goal.index_mut-requires
index_mut-requires g c =
    let d = g.R.Reading.kind.blank in
    let v = c.args.self.now in
    let s = flag_state v in
    omega (arith, mark_there d v c.args.party c.in_ok-which.which (there d v c.args.party c.args.link c.in_ok-which.which [] c.in_ok-which.ensures) (own d v c.args.party c.args.link c.in_ok-which.which [] c.in_ok-which.ensures), v.marks.ok.0)

pub invariant_of-self : goal.invariant_of-self
invariant_of-self g c =
    let d = g.R.Reading.kind.blank in
    let v = c.args.self.now in
    let s = flag_state v in
    record { sound = drop_kept d v c.args.party c.args.link c.in_ok-which.which [] c.in_ok-which.ensures }
