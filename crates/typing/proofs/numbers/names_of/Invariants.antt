use Rattle.classes.specs.Views.{method_data}
use Rattle.typing.proofs.NameSets.{HasFirst}
use Rattle.typing.proofs.numbers.names_of.Given as goal

abbrev pub invariant-loop-method : goal.invariant-loop-method
invariant-loop-method l = HasFirst method_data l.methods l.names l.method-index
