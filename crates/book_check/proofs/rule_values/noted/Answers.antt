-- One number more that is absorbed.
use Rattle.book_check.proofs.BlockLemmas.{absorbed_pushed}
use Rattle.book_check.proofs.rule_values.noted.Goals as goal

pub returns : goal.returns
returns c = λ V v from.
    let are = from c.if-not-is_absorbed.false in
    absorbed_pushed V v c.args.absorbed.items c.push.new.self.items c.args.number c.in_ok-push.ensures.items are.0 are.1
