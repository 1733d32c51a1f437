use Rattle.std.proofs.Common.{◌≡◌, ℕ, min, ◌++◌, length, drop, replicate, vec_items, ap, ◌∙◌, subst}
use Rattle.plan.specs.declared.check.ShelfType.TheVariants.{Flag}
use Rattle.shelf.proofs.Ranges.{Chosen, plan_or_none}
use Rattle.flag_rules.specs.declared.parts.Mark.TheVariants.{Empty}
use Rattle.flag_rules.specs.Flags.{state_of, made}
use Rattle.flag_shelf.proofs.Built.{built_is, built_sound, built_fresh}
use Rattle.flag_shelf.proofs.flag.FlagShelf.make.Given.{Over}
use Rattle.flag_shelf.proofs.flag.FlagShelf.make.Goals as goal

module _ (g : Over) (c : goal.After-blank_first g) where
  chosen : Chosen c.args.plan Flag (length c.args.row.blocks.now) c.unwrap_or-plan.result
  chosen =
      subst (λ (n : ℕ). Chosen c.args.plan Flag n c.unwrap_or-plan.result) c.len.ensures
      (plan_or_none c.args.plan Flag c.len.result c.check_plan.result c.unwrap_or-plan.result c.check_plan.ensures c.unwrap_or-plan.ensures)

  built : state_of c.unwrap_or-plan.result c.blank_first.new.self.blocks.now (vec_items c.in_ok-marks.marks) (vec_items c.in_ok-jobs.jobs) ≡ made g.R.Reading.kind.blank c.args.plan c.args.row.blocks.now
  built =
      let row = c.args.row.blocks.now in
      built_is g.R.Reading.kind.blank c.args.plan row c.unwrap_or-plan.result chosen c.blank_first.new.self.blocks.now (vec_items c.in_ok-marks.marks) (vec_items c.in_ok-jobs.jobs)
      (c.blank_first.ensures.blocks ∙ ap (λ (n : ℕ). replicate (min n (length row)) g.R.Reading.kind.blank ++ drop (min n (length row)) row) c.blocks_needed.ensures)
      (c.in_ok-marks.ensures.list ∙ ap (λ (n : ℕ). replicate n Empty) c.all_links.ensures) c.in_ok-jobs.ensures.list

pub invariant_of-result : goal.invariant_of-result
invariant_of-result g c = record { sound = built_sound g.R.Reading.kind.blank c.args.plan c.args.row.blocks.now c.unwrap_or-plan.result (chosen g c) _ (built g c) }

pub returns-clause-state : goal.returns-clause-state
returns-clause-state g c = built g c.before

pub returns-clause-fresh : goal.returns-clause-fresh
returns-clause-fresh g c = built_fresh g.R.Reading.kind.blank c.args.plan c.args.row.blocks.now _ (built g c.before)
