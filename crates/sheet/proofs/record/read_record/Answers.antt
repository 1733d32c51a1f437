use Rattle.std.proofs.lemmas.Result.{err_from_is_err_and}
use Rattle.sheet.proofs.Records.{picture_entry}
use Rattle.sheet.proofs.record.read_record.Goals as goal

pub returns-in_err-read_picture-in-2-clause-entry : goal.returns-in_err-read_picture-in-2-clause-entry
returns-in_err-read_picture-in-2-clause-entry c =
    let p = err_from_is_err_and c.from_residual-in_err-read_picture-in-2.result c.from_residual-in_err-read_picture-in-2.ensures.1 in
    let a = c.in-Some.ensures in
    rw (p.1, p.2)
    (picture_entry c.args.bits.now c.take.new.self c.in-Some.code a.result a.moves c.in-2.is _ c.in_err-read_picture-in-2.ensures)

pub returns-in_ok-read_picture-in-2-clause-entry : goal.returns-in_ok-read_picture-in-2-clause-entry
returns-in_ok-read_picture-in-2-clause-entry c =
    let a = c.in-Some.ensures in
    picture_entry c.args.bits.now c.take.new.self c.in-Some.code a.result a.moves c.in-2.is _ c.in_ok-read_picture-in-2.ensures
