use Rattle.std.proofs.Common.{pow-suc, add-one, arith}
use Rattle.std.proofs.lemmas.Int.Digits.{number_more}
use Rattle.sheet.proofs.bit_reader.BitReader.field.Goals as goal

pub loop-i-preserved : goal.loop-i-preserved
loop-i-preserved c = record {
  number = omega (arith, number_more 2 c.args.self.now.bits c.loop-i.i (omega arith));
  small = rw (add-one, pow-suc) (omega arith);
}
