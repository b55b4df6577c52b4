use Rattle.std.proofs.Common.{refl}
use Rattle.std.specs.Fmt.{digits}
use Rattle.front_examples.proofs.faults.how_many_there_may_be.Goals as goal

pub returns-clause-fields : goal.returns-clause-fields
unfolding digits
returns-clause-fields c = refl

pub returns-clause-one_field_more : goal.returns-clause-one_field_more
unfolding digits
returns-clause-one_field_more c = refl

pub returns-clause-inherited_fields : goal.returns-clause-inherited_fields
unfolding digits
returns-clause-inherited_fields c = refl

pub returns-clause-parameters : goal.returns-clause-parameters
unfolding digits
returns-clause-parameters c = refl

pub returns-clause-one_parameter_more : goal.returns-clause-one_parameter_more
unfolding digits
returns-clause-one_parameter_more c = refl

pub returns-clause-of_a_constructor : goal.returns-clause-of_a_constructor
unfolding digits
returns-clause-of_a_constructor c = refl
