use Rattle.std.proofs.Common.{ap, ◌∙◌, arith}
use Rattle.block_rules.specs.declared.parts.LinkState.{LinkState}
use Rattle.block_rules.specs.Blocks.{channel_held}
use Rattle.block_shelf.proofs.Fit.{missed_is, missed_sound, stored_is, stored_sound, put_channel}
use Rattle.block_shelf.proofs.block.BlockShelf.turn_put.Goals as goal

pub invariant_of-self : goal.invariant_of-self
invariant_of-self g c = record {
  sound = missed_sound c.args.self.now c.args.party c.index_mut.result.now c.miss.new.self c.index_mut.ensures.value c.args.at c.args.block c.requires c.miss.ensures c.if-not-is_live.ensures;
}

pub returns-then-not-is_live-clause-shelf : goal.returns-then-not-is_live-clause-shelf
returns-then-not-is_live-clause-shelf g c =
    missed_is c.args.self.now c.args.party c.index_mut.result.now c.miss.new.self c.index_mut.ensures.value c.args.at c.args.block c.requires c.miss.ensures c.if-not-is_live.ensures

pub index_mut-requires-2 : goal.index_mut-requires-2
index_mut-requires-2 g c =
    let v = c.args.self.now in
    omega (arith, put_channel v c.args.party c.args.at c.args.block c.requires, c.channel_of.ensures ∙ ap (λ (l : LinkState). channel_held l.hold) c.link-link.ensures, v.current.ok.0)

pub invariant_of-self-2 : goal.invariant_of-self-2
invariant_of-self-2 g c =
    let channel = c.channel_of.ensures ∙ ap (λ (l : LinkState). channel_held l.hold) c.link-link.ensures in
    let seen = ap (λ (l : LinkState). l.seen) c.link-link.ensures in record {
      sound = stored_sound c.args.self.now c.args.party c.index_mut-3.result.now c.retire.new.self c.index_mut-3.ensures.value c.args.at c.args.block c.requires _ _ channel seen c.retire.ensures.party c.if-not-is_live.ensures;
    }

pub returns-clause-shelf : goal.returns-clause-shelf
returns-clause-shelf g c =
    let channel = c.channel_of.ensures ∙ ap (λ (l : LinkState). channel_held l.hold) c.link-link.ensures in
    let seen = ap (λ (l : LinkState). l.seen) c.link-link.ensures in
    stored_is c.args.self.now c.args.party c.index_mut-3.result.now c.retire.new.self c.index_mut-3.ensures.value c.args.at c.args.block c.requires _ _ channel seen c.retire.ensures.party c.if-not-is_live.ensures
