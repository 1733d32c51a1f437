use Rattle.std.proofs.Common.{arith}
use Rattle.sheet.proofs.Whole.{fault_ends, end_ends, record_shortens, record_leads, record_fits}
use Rattle.sheet.proofs.sheet.read_records.Goals as goal

pub loop-record-smaller : goal.loop-record-smaller
loop-record-smaller c =
    record_shortens _ c.loop-record.invariant.leads c.read_record.ensures.left c.in-Ok-Some.record (rw c.in-Ok-Some.field-0-is at c.in-Ok-Some.ensures.entry)

pub loop-record-preserved : goal.loop-record-preserved
loop-record-preserved c = record {
  leads =
      record_leads _ c.loop-record.invariant.leads c.read_record.ensures.left c.in-Ok-Some.record (rw c.in-Ok-Some.field-0-is at c.in-Ok-Some.ensures.entry)
      _ c.in_ok-push-in-Ok-Some.ensures.items;
  room = omega (arith, c.loop-record.invariant.room, c.in_ok-push-in-Ok-Some.ensures.capacity);
}

-- a list with room for 65,536 records is never full when one more is read
pub returns-in_err-push-in-Ok-Some-clause-succeeds : goal.returns-in_err-push-in-Ok-Some-clause-succeeds
returns-in_err-push-in-Ok-Some-clause-succeeds c =
    let few =
    record_fits _ c.loop-record.invariant.leads c.read_record.ensures.left c.in-Ok-Some.record (rw c.in-Ok-Some.field-0-is at c.in-Ok-Some.ensures.entry)
    in
    λ room. absurd (omega (arith, few, c.loop-record.invariant.room, c.in_err-push-in-Ok-Some.ensures.full, c.loop-record.records.ok.0))

pub returns-in-Ok-None-clause-said : goal.returns-in-Ok-None-clause-said
returns-in-Ok-None-clause-said c =
    rw c.fault_after_end.ensures
    (end_ends _ c.loop-record.invariant.leads c.read_record.ensures.left (rw c.in-Ok-None.field-0-is at c.in-Ok-None.ensures.entry))

pub returns-in-Err-clause-said : goal.returns-in-Err-clause-said
returns-in-Err-clause-said c = fault_ends _ c.loop-record.invariant.leads c.read_record.ensures.left c.in-Err.ensures.entry
