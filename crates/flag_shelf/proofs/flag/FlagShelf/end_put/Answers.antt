use Rattle.std.proofs.Common.{map, refl, ap, ◌∙◌, arith}
use Rattle.std.proofs.lemmas.List.{with_items_is}
use Rattle.flag_rules.specs.declared.parts.Job.TheVariants.{Putting}
use Rattle.flag_rules.specs.Flags.{break_mark}
use Rattle.flag_shelf.proofs.Fit.{party_there, job_there, turn_kept, missed_is, stored_is}
use Rattle.flag_shelf.proofs.flag.FlagShelf.end_put.Goals as goal

pub index_mut-requires : goal.index_mut-requires
index_mut-requires g c =
    let d = g.R.Reading.kind.blank in
    let v = c.args.self.now in
    omega (arith, job_there d v c.args.party (party_there d v c.args.party (Putting c.args.at c.args.reading) c.requires refl), v.jobs.ok.0)

pub invariant_of-self : goal.invariant_of-self
invariant_of-self g c =
    let d = g.R.Reading.kind.blank in
    let v = c.args.self.now in
    record { sound = turn_kept d v c.args.party (party_there d v c.args.party (Putting c.args.at c.args.reading) c.requires refl) (Putting c.args.at c.args.reading) c.requires _ (missed_is d v c.args.party c.args.at c.args.reading c.mark-mark.result c.in_default.not-Live c.mark-mark.ensures) }

pub invariant_of-self-2 : goal.invariant_of-self-2
invariant_of-self-2 g c =
    let d = g.R.Reading.kind.blank in
    let v = c.args.self.now in
    record { sound = turn_kept d v c.args.party (party_there d v c.args.party (Putting c.args.at c.args.reading) c.requires refl) (Putting c.args.at c.args.reading) c.requires _ (stored_is d v c.args.party c.args.at c.in-Live.channel c.args.reading c.write.new.self.blocks.now _ c.write.ensures.blocks (with_items_is v.marks c.break_marks.new.marks (omega (arith, c.break_marks.auto.marks, c.deref_mut.ensures.len)) ∙ (c.break_marks.ensures ∙ ap (map (break_mark c.in-Live.channel)) c.deref_mut.ensures.value)) c.in-Live.ensures) }
