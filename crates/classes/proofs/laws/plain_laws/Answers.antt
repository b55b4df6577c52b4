use Rattle.classes.specs.Table.{own_field, own_method}
use Rattle.classes.proofs.Higher.{plain_found, plain_kind}
use Rattle.classes.proofs.laws.plain_laws.Goals as goal

pub returns-clause-fields : goal.returns-clause-fields
returns-clause-fields c = λ t k name. plain_found (own_field t name) t k

pub returns-clause-methods : goal.returns-clause-methods
returns-clause-methods c = λ t k name. plain_found (own_method t name) t k

pub returns-clause-kinds : goal.returns-clause-kinds
returns-clause-kinds c = plain_kind
