use Rattle.std.proofs.Common.{◌∙◌, length-set, arith}
use Rattle.sheet.proofs.Records.{channel_stored}
use Rattle.sheet.proofs.record.read_channels.Goals as goal

pub loop-i-preserved : goal.loop-i-preserved
loop-i-preserved c = record {
  room = length-set c.loop-i.channels c.loop-i.i c.in-Some.channel ∙ c.loop-i.invariant.room;
  same = channel_stored c.args.count c.loop-i.i c.loop-i-test.true c.loop-i.channels (omega (arith, c.loop-i.invariant.room))
      c.loop-i.bits c.take.new.self c.in-Some.channel c.in-Some.ensures.result c.in-Some.ensures.moves
      ∙ c.loop-i.invariant.same;
}
