use Rattle.plan.proofs.Numbers.{own_numbers}
use Rattle.plan.proofs.refusal.Refusal.numbers_differ.Goals as goal

pub returns : goal.returns
returns c = own_numbers
