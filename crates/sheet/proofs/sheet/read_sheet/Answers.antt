use Rattle.std.proofs.Common.{map, vec_items}
use Rattle.sheet.specs.Told.{record_told, header_told, fault_told, option_told}
use Rattle.sheet.proofs.Whole.{sheet_too_long, sheet_headed, sheet_headless}
use Rattle.sheet.proofs.sheet.read_sheet.Goals as goal

pub returns-then-bytes-gt-MOST_BYTES-clause-said : goal.returns-then-bytes-gt-MOST_BYTES-clause-said
returns-then-bytes-gt-MOST_BYTES-clause-said c =
    rw (c.clear.ensures.items, c.nothing_but.ensures.header, c.nothing_but.ensures.fault, c.at.ensures) (sheet_too_long c.args.bytes.now c.if-bytes-gt-MOST_BYTES.true)

pub returns-clause-said : goal.returns-clause-said
returns-clause-said c =
    sheet_headed c.args.bytes.now c.if-bytes-gt-MOST_BYTES.false (header_told c.in-Ok.header) _ _
    (map record_told (vec_items c.read_records.new.records)) (option_told fault_told c.in_ok-fault.fault)
    (rw (c.new-bits.ensures.bits, c.new-bits.ensures.place) at c.in-Ok.ensures) c.in_ok-fault.ensures.said

pub returns-in-Err-clause-said : goal.returns-in-Err-clause-said
returns-in-Err-clause-said c =
    rw (c.clear.ensures.items, c.nothing_but-in-Err.ensures.header, c.nothing_but-in-Err.ensures.fault)
    (sheet_headless c.args.bytes.now c.if-bytes-gt-MOST_BYTES.false (fault_told c.in-Err.fault)
    (rw (c.new-bits.ensures.bits, c.new-bits.ensures.place) at c.in-Err.ensures))
