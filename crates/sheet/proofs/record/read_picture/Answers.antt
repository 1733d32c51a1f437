use Rattle.std.proofs.lemmas.Result.{err_from_is_err_and}
use Rattle.sheet.proofs.Records.{picture_read}
use Rattle.sheet.proofs.record.read_picture.Goals as goal

pub returns-in_err-channels : goal.returns-in_err-channels
returns-in_err-channels c =
    let p = err_from_is_err_and c.from_residual.result c.from_residual.ensures.1 in
    let a = c.in-Some.ensures in
    let b = c.in-Some-take.ensures in
    rw (p.1, p.2)
    (picture_read c.args.bits.now c.take.new.self c.take-2.new.self c.in-Some.party c.in-Some-take.count a.result a.moves b.result b.moves _ c.in_err-channels.ensures)

pub returns : goal.returns
returns c =
    let a = c.in-Some.ensures in
    let b = c.in-Some-take.ensures in
    picture_read c.args.bits.now c.take.new.self c.take-2.new.self c.in-Some.party c.in-Some-take.count a.result a.moves b.result b.moves _ c.in_ok-channels.ensures
