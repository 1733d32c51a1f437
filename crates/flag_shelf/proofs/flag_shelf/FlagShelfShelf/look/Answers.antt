use Rattle.std.proofs.Common.{◌+◌, [], ◌∷◌, get_or, ap, ◌∙◌, arith}
use Rattle.shelf.specs.Calls.{full}
use Rattle.flag_rules.specs.Means.{means}
use Rattle.flag_shelf.specs.States.{flag_state}
use Rattle.flag_shelf.proofs.Fit.{block_small, there, own, look_is}
use Rattle.flag_shelf.proofs.flag_shelf.FlagShelfShelf.look.Goals as goal

pub overflow_add-self : goal.overflow_add-self
overflow_add-self g c =
    let d = g.R.Reading.kind.blank in
    let v = c.args.self.now in
    let s = flag_state v in
    omega (arith, block_small d v c.args.party c.in_ok-at.at (there d v c.args.party c.args.link c.in_ok-at.at (full v.plan (means d s) c.args.party c.args.link ∷ []) c.in_ok-at.ensures) (own d v c.args.party c.args.link c.in_ok-at.at (full v.plan (means d s) c.args.party c.args.link ∷ []) c.in_ok-at.ensures))

pub returns : goal.returns
returns g c =
    let d = g.R.Reading.kind.blank in
    let v = c.args.self.now in
    let s = flag_state v in
    look_is d v c.args.party c.args.link c.in_ok-at.at c.in_ok-at.ensures c.read.result (c.read.ensures ∙ ap (λ (x : g.row.R.Denot). get_or v.row.blocks.now (v.plan.channels + c.in_ok-at.at) x) c.blank.ensures)
