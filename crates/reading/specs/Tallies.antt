-- The tally: a 64-bit number to which every word is added.
use Rattle.std.specs.Prelude.{◌+◌, ◌%◌, ◌^◌, true}
use Rattle.reading.specs.Kinds.{KindOf}
use Rattle.reading.specs.declared.tally.Tally.{Tally}

abbrev pub tally_kind : KindOf Tally
tally_kind = record {
  blank = record { count = 0 };
  admits = λ w. true;
  amended = λ t w. record { count = (t.count + w) % 2 ^ 64 };
  shown = λ t. t.count;
}
