use Rattle.std.proofs.Common.{◌≡◌, ◌-◌, [], length, take}
use Rattle.sheet_rules.specs.Formats.{read_as, channels_format}
use Rattle.sheet.proofs.record.read_channels.Given as goal

-- what is left to read gives the whole
abbrev pub invariant-loop-i : goal.invariant-loop-i
invariant-loop-i l = record {
  room : length l.channels ≡ 7;
  same : read_as (channels_format (l.count - l.i) (take l.i l.channels)) l.bits.bits l.bits.place
      ≡ read_as (channels_format l.count []) l.initial.bits.bits l.initial.bits.place;
}
