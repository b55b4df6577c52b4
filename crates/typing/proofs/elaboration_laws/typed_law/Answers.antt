use Rattle.typing.proofs.TypedPrograms.{core_is_typed}
use Rattle.typing.proofs.elaboration_laws.typed_law.Goals as goal

pub returns : goal.returns
returns c = core_is_typed
