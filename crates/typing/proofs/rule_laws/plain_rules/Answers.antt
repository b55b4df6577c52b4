use Rattle.std.proofs.Common.{ap}
use Rattle.core_program.specs.Types.{fits, binary_type}
use Rattle.typing.proofs.Plain.{plain_fields, plain_kinds}
use Rattle.typing.proofs.rule_laws.plain_rules.Goals as goal

pub returns-clause-fields : goal.returns-clause-fields
returns-clause-fields c = plain_fields

pub returns-clause-fits : goal.returns-clause-fits
returns-clause-fits c = λ t none a b. ap (λ kind. fits kind a b) (plain_kinds t none)

pub returns-clause-operators : goal.returns-clause-operators
returns-clause-operators c = λ t none op a b. ap (λ kind. binary_type kind op a b) (plain_kinds t none)
