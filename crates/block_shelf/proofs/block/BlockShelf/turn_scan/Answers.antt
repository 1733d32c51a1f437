use Rattle.std.proofs.Common.{ap, arith}
use Rattle.block_rules.specs.declared.parts.LinkState.{LinkState}
use Rattle.block_shelf.proofs.Fit.{went_on, went_on_sound, finished_is, finished_sound}
use Rattle.block_shelf.proofs.block.BlockShelf.turn_scan.Goals as goal

pub invariant_of-self : goal.invariant_of-self
invariant_of-self g c =
    let read = ap (λ (l : LinkState). l.guard) c.link-guard.ensures in record {
      sound = went_on_sound c.args.self.now c.args.party c.index_mut.result.now c.go_on.new.self c.index_mut.ensures.value c.args.at c.args.next c.requires _ read c.go_on.ensures
          (omega (arith, c.if-next-all_links.true, c.all_links.ensures));
    }

pub returns-then-next-all_links-clause-shelf : goal.returns-then-next-all_links-clause-shelf
returns-then-next-all_links-clause-shelf g c =
    let read = ap (λ (l : LinkState). l.guard) c.link-guard.ensures in
    went_on c.args.self.now c.args.party c.index_mut.result.now c.go_on.new.self c.index_mut.ensures.value c.args.at c.args.next c.requires _ read c.go_on.ensures
    (omega (arith, c.if-next-all_links.true, c.all_links.ensures))

pub invariant_of-self-2 : goal.invariant_of-self-2
invariant_of-self-2 g c =
    let read = ap (λ (l : LinkState). l.guard) c.link-guard.ensures in record {
      sound = finished_sound c.args.self.now c.args.party c.index_mut-2.result.now c.finish.new.self c.index_mut-2.ensures.value c.args.at c.args.next c.requires _ read c.finish.ensures
          (omega (arith, c.if-next-all_links.false, c.all_links.ensures));
    }

pub returns-clause-shelf : goal.returns-clause-shelf
returns-clause-shelf g c =
    let read = ap (λ (l : LinkState). l.guard) c.link-guard.ensures in
    finished_is c.args.self.now c.args.party c.index_mut-2.result.now c.finish.new.self c.index_mut-2.ensures.value c.args.at c.args.next c.requires _ read c.finish.ensures
    (omega (arith, c.if-next-all_links.false, c.all_links.ensures))
