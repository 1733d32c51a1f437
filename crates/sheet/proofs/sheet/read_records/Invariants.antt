use Rattle.std.proofs.Common.{◌≤◌, map, length, vec_items, vec_capacity}
use Rattle.sheet_rules.proofs.Following.{Leads}
use Rattle.sheet.specs.Told.{record_told}
use Rattle.sheet.proofs.sheet.read_records.Given as goal

-- the records so far lead to the bits that are left; the list keeps its room
abbrev pub invariant-loop-record : goal.invariant-loop-record
invariant-loop-record l = record {
  leads : Leads l.initial.bits.bits l.initial.bits.place (map record_told (vec_items l.records)) l.bits.bits l.bits.place;
  room : vec_capacity l.initial.records ≤ vec_capacity l.records;
}

abbrev pub decreases-loop-record : goal.decreases-loop-record
decreases-loop-record l = length l.bits.bits
