use Rattle.typing.proofs.Alone.{alone_classes, none_inherited}
use Rattle.typing.proofs.elaboration_laws.alone_laws.Goals as goal

pub returns-clause-classes : goal.returns-clause-classes
returns-clause-classes c = alone_classes

pub returns-clause-indices : goal.returns-clause-indices
returns-clause-indices c = none_inherited
