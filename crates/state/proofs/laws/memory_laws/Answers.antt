use Rattle.state.proofs.MemoryLemmas.{value_in-with_field_same, value_in-with_field_at, value_in-with_field_other, value_in-insert_other}
use Rattle.state.proofs.laws.memory_laws.Goals as goal

pub returns-clause-written : goal.returns-clause-written
returns-clause-written c P heap a f field old v is has = value_in-with_field_same P heap f field is a old v has

pub returns-clause-other_field : goal.returns-clause-other_field
returns-clause-other_field c P heap a b index v f field is other = value_in-with_field_at P heap f field is a b index v other

pub returns-clause-other_object : goal.returns-clause-other_object
returns-clause-other_object c P heap a b index v f other = value_in-with_field_other P heap a b index v f other

pub returns-clause-new_object : goal.returns-clause-new_object
returns-clause-new_object c P heap a b o f other = value_in-insert_other P heap a b o f other
