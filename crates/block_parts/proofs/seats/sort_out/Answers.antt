use Rattle.std.proofs.Common.{ℕ, ◌≤◌, List, ◌++◌, length, sym, ap, ◌∙◌, subst, arith}
use Rattle.std.proofs.lemmas.List.{take_all}
use Rattle.block_rules.specs.Blocks.{unread, still_held}
use Rattle.block_parts.specs.Lists.{blocks_in}
use Rattle.block_parts.proofs.Stacks.{next_read, next_unread, list_small}
use Rattle.block_parts.proofs.seats.sort_out.Goals as goal
use Rattle.block_parts.proofs.seats.sort_out.Goals.{then-contains, else-contains}

pub loop-block-preserved : goal.loop-block-preserved
loop-block-preserved c =
    let items = c.as_slice-block-items.result.now in
    let read = blocks_in c.args.read.now in
    let before = blocks_in c.args.ready.now in
    let i = c.loop-block.block-index in
    let small : length items ≤ 97 = subst (λ (xs : List ℕ). length xs ≤ 97) (sym c.as_slice-block-items.ensures) (list_small c.args.retired.now) in
    elim c.if-contains.branch [
      | then-contains w ↦ (
        λ fits. ap blocks_in w.ready-is ∙ (next_read read items before i c.loop-block-test.true small (blocks_in c.loop-block.ready) (blocks_in c.loop-block.held) c.loop-block.invariant
            (sym w.if-contains.ensures) (blocks_in w.push.new.self) w.push.result w.push.ensures.room w.push.ensures.list).0 fits,
        ap blocks_in w.held-is ∙ (next_read read items before i c.loop-block-test.true small (blocks_in c.loop-block.ready) (blocks_in c.loop-block.held) c.loop-block.invariant
            (sym w.if-contains.ensures) (blocks_in w.push.new.self) w.push.result w.push.ensures.room w.push.ensures.list).1,
      )
      | else-contains w ↦ (
        λ fits. ap blocks_in w.ready-is ∙ (next_unread read items before i c.loop-block-test.true small (blocks_in c.loop-block.ready) (blocks_in c.loop-block.held) c.loop-block.invariant
            (sym w.if-contains.ensures) (blocks_in w.push-else-contains.new.self) w.push-else-contains.result w.push-else-contains.ensures.room w.push-else-contains.ensures.list).0 fits,
        ap blocks_in w.held-is ∙ (next_unread read items before i c.loop-block-test.true small (blocks_in c.loop-block.ready) (blocks_in c.loop-block.held) c.loop-block.invariant
            (sym w.if-contains.ensures) (blocks_in w.push-else-contains.new.self) w.push-else-contains.result w.push-else-contains.ensures.room w.push-else-contains.ensures.list).1,
      )
    ]

pub returns : goal.returns
returns c =
    let items = c.as_slice-block-items.result.now in
    let read = blocks_in c.args.read.now in
    let before = blocks_in c.args.ready.now in
    let all = take_all c.loop-block.block-index items c.loop-block-test.false ∙ c.as_slice-block-items.ensures in
    record {
      freed = λ fits. c.loop-block.invariant.0 (omega (arith, fits, ap length c.as_slice-block-items.ensures)) ∙ ap (λ (xs : List ℕ). before ++ unread read xs) all;
      kept = c.loop-block.invariant.1 ∙ ap (still_held read) all;
    }
