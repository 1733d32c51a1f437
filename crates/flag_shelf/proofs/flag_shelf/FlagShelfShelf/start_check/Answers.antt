use Rattle.std.proofs.Common.{[], ◌∷◌, arith}
use Rattle.shelf.specs.Calls.{full}
use Rattle.flag_rules.specs.declared.parts.Job.TheVariants.{Checking}
use Rattle.flag_rules.specs.Means.{means}
use Rattle.flag_shelf.specs.States.{flag_state}
use Rattle.flag_shelf.proofs.Fit.{job_there, there, held_kept}
use Rattle.flag_shelf.proofs.flag_shelf.FlagShelfShelf.start_check.Goals as goal

pub index_mut-requires : goal.index_mut-requires
index_mut-requires g c =
    let d = g.R.Reading.kind.blank in
    let v = c.args.self.now in
    let s = flag_state v in
    omega (arith, job_there d v c.args.party (there d v c.args.party c.args.link c.in_ok-at.at (full v.plan (means d s) c.args.party c.args.link ∷ []) c.in_ok-at.ensures), v.jobs.ok.0)

pub invariant_of-self : goal.invariant_of-self
invariant_of-self g c =
    let d = g.R.Reading.kind.blank in
    let v = c.args.self.now in
    let s = flag_state v in
    record { sound = held_kept d v c.args.party c.args.link c.in_ok-at.at c.in_ok-at.ensures (Checking c.in_ok-at.at) (λ f. f) }
