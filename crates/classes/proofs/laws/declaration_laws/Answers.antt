use Rattle.classes.proofs.Declaring.{class_declared, field_declared, method_declared, slot_declared, this_declared}
use Rattle.classes.proofs.laws.declaration_laws.Goals as goal

pub returns-clause-classes : goal.returns-clause-classes
returns-clause-classes c = λ source ts tree h g. class_declared source tree (c.name_laws.ensures.slices source tree ts h g)

pub returns-clause-fields : goal.returns-clause-fields
returns-clause-fields c = λ source ts tree h g. field_declared source tree (c.name_laws.ensures.slices source tree ts h g)

pub returns-clause-methods : goal.returns-clause-methods
returns-clause-methods c = λ source ts tree h g. method_declared source tree (c.name_laws.ensures.slices source tree ts h g)

pub returns-clause-slots : goal.returns-clause-slots
returns-clause-slots c = λ source ts tree h g. slot_declared source tree (c.name_laws.ensures.slices source tree ts h g)

pub returns-clause-this : goal.returns-clause-this
returns-clause-this c = this_declared
