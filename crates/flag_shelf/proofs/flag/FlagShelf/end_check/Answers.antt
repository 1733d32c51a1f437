use Rattle.std.proofs.Common.{refl, arith}
use Rattle.flag_rules.specs.declared.parts.Job.TheVariants.{Checking}
use Rattle.flag_shelf.proofs.Fit.{party_there, job_there, turn_kept}
use Rattle.flag_shelf.proofs.flag.FlagShelf.end_check.Goals as goal

pub index_mut-requires : goal.index_mut-requires
index_mut-requires g c =
    let d = g.R.Reading.kind.blank in
    let v = c.args.self.now in
    omega (arith, job_there d v c.args.party (party_there d v c.args.party (Checking c.args.at) c.requires refl), v.jobs.ok.0)

pub invariant_of-self : goal.invariant_of-self
invariant_of-self g c =
    let d = g.R.Reading.kind.blank in
    let v = c.args.self.now in
    record { sound = turn_kept d v c.args.party (party_there d v c.args.party (Checking c.args.at) c.requires refl) (Checking c.args.at) c.requires _ refl }
