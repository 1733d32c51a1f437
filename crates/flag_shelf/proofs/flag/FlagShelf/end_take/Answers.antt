use Rattle.std.proofs.Common.{get_or, refl, ap, ◌∙◌, arith}
use Rattle.flag_rules.specs.declared.parts.Job.TheVariants.{Taking}
use Rattle.flag_shelf.proofs.Fit.{party_there, job_there, mark_there, block_small, job_fits, turn_kept, taken_is}
use Rattle.flag_shelf.proofs.flag.FlagShelf.end_take.Goals as goal

pub overflow_add-self : goal.overflow_add-self
overflow_add-self g c =
    let d = g.R.Reading.kind.blank in
    let v = c.args.self.now in
    omega (arith, block_small d v c.args.party c.args.at (party_there d v c.args.party (Taking c.args.at c.args.channel) c.requires refl) (job_fits d v c.args.party (party_there d v c.args.party (Taking c.args.at c.args.channel) c.requires refl) (Taking c.args.at c.args.channel) c.requires).0)

pub index_mut-requires : goal.index_mut-requires
index_mut-requires g c =
    let d = g.R.Reading.kind.blank in
    let v = c.args.self.now in
    omega (arith, mark_there d v c.args.party c.args.at (party_there d v c.args.party (Taking c.args.at c.args.channel) c.requires refl) (job_fits d v c.args.party (party_there d v c.args.party (Taking c.args.at c.args.channel) c.requires refl) (Taking c.args.at c.args.channel) c.requires).0, v.marks.ok.0)

pub index_mut-requires-2 : goal.index_mut-requires-2
index_mut-requires-2 g c =
    let d = g.R.Reading.kind.blank in
    let v = c.args.self.now in
    omega (arith, job_there d v c.args.party (party_there d v c.args.party (Taking c.args.at c.args.channel) c.requires refl), v.jobs.ok.0)

pub invariant_of-self : goal.invariant_of-self
invariant_of-self g c =
    let d = g.R.Reading.kind.blank in
    let v = c.args.self.now in
    record { sound = turn_kept d v c.args.party (party_there d v c.args.party (Taking c.args.at c.args.channel) c.requires refl) (Taking c.args.at c.args.channel) c.requires _ (taken_is d v c.args.party c.args.at c.args.channel c.read-reading.result c.write.new.self.blocks.now c.write.ensures.blocks (c.read-reading.ensures ∙ ap (get_or v.row.blocks.now c.args.channel) c.blank.ensures)) }

pub returns : goal.returns
returns g c =
    let d = g.R.Reading.kind.blank in
    let v = c.args.self.now in
    record { answer = refl; shelf = taken_is d v c.args.party c.args.at c.args.channel c.read-reading.result c.write.new.self.blocks.now c.write.ensures.blocks (c.read-reading.ensures ∙ ap (get_or v.row.blocks.now c.args.channel) c.blank.ensures) }
