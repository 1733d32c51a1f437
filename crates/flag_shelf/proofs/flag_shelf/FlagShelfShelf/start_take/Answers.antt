use Rattle.std.proofs.Common.{[], arith}
use Rattle.flag_shelf.specs.States.{flag_state}
use Rattle.flag_shelf.proofs.Fit.{job_there, mark_there, there, own, take_kept}
use Rattle.flag_shelf.proofs.flag_shelf.FlagShelfShelf.start_take.Goals as goal

pub index_mut-requires : goal.index_mut-requires
index_mut-requires g c =
    let d = g.R.Reading.kind.blank in
    let v = c.args.self.now in
    let s = flag_state v in
    omega (arith, mark_there d v c.args.party c.in_ok-at.at (there d v c.args.party c.args.link c.in_ok-at.at [] c.in_ok-at.ensures) (own d v c.args.party c.args.link c.in_ok-at.at [] c.in_ok-at.ensures), v.marks.ok.0)

pub index_mut-requires-2 : goal.index_mut-requires-2
index_mut-requires-2 g c =
    let d = g.R.Reading.kind.blank in
    let v = c.args.self.now in
    let s = flag_state v in
    omega (arith, job_there d v c.args.party (there d v c.args.party c.args.link c.in_ok-at.at [] c.in_ok-at.ensures), v.jobs.ok.0)

pub invariant_of-self : goal.invariant_of-self
invariant_of-self g c =
    let d = g.R.Reading.kind.blank in
    let v = c.args.self.now in
    let s = flag_state v in
    record { sound = take_kept d v c.args.party c.args.link c.in_ok-at.at [] c.in_ok-at.ensures c.args.channel c.if-channel-self.false }
