use Rattle.std.proofs.Common.{◌+◌, ◌-◌, arith}
use Rattle.block_rules.specs.declared.parts.Job.TheVariants.{Idle}
use Rattle.block_parts.specs.Lists.{blocks_in}
use Rattle.block_parts.proofs.Stacks.{appended}
use Rattle.block_shelf.proofs.Built.{ready_more, ready_length, all_ready}
use Rattle.block_shelf.proofs.making.fresh_seat.Goals as goal

pub loop-block-preserved : goal.loop-block-preserved
loop-block-preserved c =
    let before = blocks_in c.loop-block.ready in
    let room = ready_length c.loop-block.block (c.args.first + c.args.count - c.loop-block.block) before c.loop-block.invariant.1 in (
      omega arith,
      ready_more _ _ _ _ (omega arith) (omega arith) c.loop-block.invariant.1
          (appended before (blocks_in c.push.new.self) _ c.push.result c.push.ensures.room c.push.ensures.list (omega (arith, room))),
    )

pub returns : goal.returns
returns c = λ i. record { ready = all_ready c.args.first c.args.count c.loop-block.block (blocks_in c.loop-block.ready) c.loop-block.invariant c.loop-block-test.false i; retired = c.new.ensures i; read = c.new-2.ensures i; job = Idle }
