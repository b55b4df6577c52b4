use Rattle.std.proofs.Common.{arith}
use Rattle.std.specs.Option.{option_copied}
use Rattle.explain.proofs.NameLemmas.{passed_from}
use Rattle.explain.proofs.names.passed_expr.Goals as goal

pub returns : goal.returns
returns c = passed_from c.args.receiver.now c.args.args.now c.args.slot (option_copied c.argument.result) (omega (arith, c.if-slot-eq0.false)) c.argument.ensures
