use Rattle.std.proofs.Common.{ap}
use Rattle.std.specs.Prelude.{slice_get}
use Rattle.state.specs.Memory.{field_value}
use Rattle.replay.specs.Evaluation.{value_found}
use Rattle.core_examples.specs.Seen.{four_fields}
use Rattle.text_examples.specs.Plain.{quiet}
use Rattle.text_examples.proofs.Found.{object_is}
use Rattle.text_examples.proofs.evaluation.what_expressions_give.Goals as goal

pub returns-clause-field : goal.returns-clause-field
returns-clause-field c = ap (λ o. value_found (field_value four_fields 2 o (slice_get four_fields.fields 2)) quiet) object_is
