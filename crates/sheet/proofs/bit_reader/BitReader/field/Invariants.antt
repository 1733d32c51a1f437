use Rattle.std.proofs.Common.{◌≡◌, ◌^◌, ◌<◌, take}
use Rattle.std.specs.Int.Digits.{number_from_digits}
use Rattle.sheet.proofs.bit_reader.BitReader.field.Given as goal

abbrev pub invariant-loop-i : goal.invariant-loop-i
invariant-loop-i l = record {
  number : l.value ≡ number_from_digits 2 (take l.i l.self.bits);
  small : l.value < 2 ^ l.i;
}
