-- Each exit gives what the format's reading gives: the fields before it were read, and its own failed or was the last.
use Rattle.std.proofs.Common.{refl}
use Rattle.std.proofs.lemmas.Result.{err_from_is_err_and}
use Rattle.sheet_rules.specs.Formats.{header_format}
use Rattle.sheet.specs.Told.{kind_number, shelf_number}
use Rattle.sheet.proofs.Chain.{at_front, ◌▸◌, field_fails}
use Rattle.sheet.proofs.header.read_header.Goals as goal

pub returns-in_err-kind : goal.returns-in_err-kind
returns-in_err-kind c =
    let p = err_from_is_err_and c.from_residual-in_err-kind.result c.from_residual-in_err-kind.ensures.1 in
    rw (p.1, p.2)
    (field_fails
    (at_front header_format c.args.bits.now ▸ c.in_ok-read_fixed.ensures)
    (c.in_err-kind.ensures kind_number refl))

pub returns-in_err-shelf : goal.returns-in_err-shelf
returns-in_err-shelf c =
    let p = err_from_is_err_and c.from_residual-in_err-shelf.result c.from_residual-in_err-shelf.ensures.1 in
    rw (p.1, p.2)
    (field_fails
    (at_front header_format c.args.bits.now ▸ c.in_ok-read_fixed.ensures ▸ c.in_ok-kind.ensures kind_number refl)
    (c.in_err-shelf.ensures shelf_number refl))

pub returns-in_err-parties : goal.returns-in_err-parties
returns-in_err-parties c =
    let p = err_from_is_err_and c.from_residual-in_err-parties.result c.from_residual-in_err-parties.ensures.1 in
    rw (p.1, p.2)
    (field_fails
    (at_front header_format c.args.bits.now ▸ c.in_ok-read_fixed.ensures ▸ c.in_ok-kind.ensures kind_number refl ▸ c.in_ok-shelf.ensures shelf_number refl)
    c.in_err-parties.ensures)

pub returns-in_err-links : goal.returns-in_err-links
returns-in_err-links c =
    let p = err_from_is_err_and c.from_residual-in_err-links.result c.from_residual-in_err-links.ensures.1 in
    rw (p.1, p.2)
    (field_fails
    (at_front header_format c.args.bits.now ▸ c.in_ok-read_fixed.ensures ▸ c.in_ok-kind.ensures kind_number refl ▸ c.in_ok-shelf.ensures shelf_number refl ▸ c.in_ok-parties.ensures)
    c.in_err-links.ensures)

pub returns-in_err-channels : goal.returns-in_err-channels
returns-in_err-channels c =
    let p = err_from_is_err_and c.from_residual-in_err-channels.result c.from_residual-in_err-channels.ensures.1 in
    rw (p.1, p.2)
    (field_fails
    (at_front header_format c.args.bits.now ▸ c.in_ok-read_fixed.ensures ▸ c.in_ok-kind.ensures kind_number refl ▸ c.in_ok-shelf.ensures shelf_number refl ▸ c.in_ok-parties.ensures ▸ c.in_ok-links.ensures)
    c.in_err-channels.ensures)

pub returns-in_err-read_fixed-2 : goal.returns-in_err-read_fixed-2
returns-in_err-read_fixed-2 c =
    let p = err_from_is_err_and c.from_residual-in_err-read_fixed-2.result c.from_residual-in_err-read_fixed-2.ensures.1 in
    rw (p.1, p.2)
    (field_fails
    (at_front header_format c.args.bits.now ▸ c.in_ok-read_fixed.ensures ▸ c.in_ok-kind.ensures kind_number refl ▸ c.in_ok-shelf.ensures shelf_number refl ▸ c.in_ok-parties.ensures ▸ c.in_ok-links.ensures ▸ c.in_ok-channels.ensures)
    c.in_err-read_fixed-2.ensures)

pub returns : goal.returns
returns c =
    let r = at_front header_format c.args.bits.now ▸ c.in_ok-read_fixed.ensures ▸ c.in_ok-kind.ensures kind_number refl ▸ c.in_ok-shelf.ensures shelf_number refl ▸ c.in_ok-parties.ensures ▸ c.in_ok-links.ensures ▸ c.in_ok-channels.ensures ▸ c.in_ok-read_fixed-2.ensures in
    r.same
