use Rattle.std.proofs.Common.{◌≡◌, ℕ, min, ◌++◌, map, length, drop, replicate, vec_items, ap, ◌∙◌, subst}
use Rattle.plan.specs.declared.check.ShelfType.TheVariants.{Block}
use Rattle.shelf.proofs.Ranges.{Chosen, plan_chosen}
use Rattle.block_parts.specs.Seats.{party_of}
use Rattle.block_rules.specs.Blocks.{state_of, made}
use Rattle.block_shelf.proofs.Built.{made_state, made_sound, fresh_made}
use Rattle.block_shelf.proofs.block.BlockShelf.make.Given.{Over}
use Rattle.block_shelf.proofs.block.BlockShelf.make.Goals as goal

module _ (g : Over) (c : goal.After-blank_first g) where
  chosen : Chosen c.args.plan Block (length c.args.row.blocks.now) c.unwrap_or_default-plan.result
  chosen =
      subst (λ (n : ℕ). Chosen c.args.plan Block n c.unwrap_or_default-plan.result) c.len.ensures
      (plan_chosen c.args.plan Block c.len.result c.check_plan.result c.unwrap_or_default-plan.result c.check_plan.ensures c.unwrap_or_default-plan.ensures)

  built : state_of c.unwrap_or_default-plan.result c.blank_first.new.self.blocks.now (vec_items c.in_ok-current.current) (vec_items c.in_ok-links.links) (map party_of (vec_items c.in_ok-seats.seats)) ≡ made g.R.Reading.kind.blank c.args.plan c.args.row.blocks.now
  built =
      let row = c.args.row.blocks.now in
      made_state g.R.Reading.kind.blank c.args.plan row c.unwrap_or_default-plan.result chosen _ _ c.default.result _ _
      (c.blank_first.ensures.blocks ∙ ap (λ (n : ℕ). replicate (min n (length row)) g.R.Reading.kind.blank ++ drop (min n (length row)) row) c.blocks_needed.ensures)
      c.in_ok-current.ensures.blocks c.default.ensures
      (c.in_ok-links.ensures.list ∙ ap (λ (n : ℕ). replicate n c.default.result) c.all_links.ensures) c.in_ok-seats.ensures.seats

pub invariant_of-result : goal.invariant_of-result
invariant_of-result g c = record { sound = made_sound g.R.Reading.kind.blank c.args.plan c.args.row.blocks.now _ (built g c) }

pub returns-clause-state : goal.returns-clause-state
returns-clause-state g c = built g c.before

pub returns-clause-fresh : goal.returns-clause-fresh
returns-clause-fresh g c = fresh_made g.R.Reading.kind.blank c.args.plan c.args.row.blocks.now _ (built g c.before)
