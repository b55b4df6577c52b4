-- One required path more.
use Rattle.conditions.specs.Conditions.{cond_of, value_of}
use Rattle.book_check.proofs.NameLemmas.{value_as, required_more}
use Rattle.book_check.proofs.names.+where_held.Goals as goal

pub returns-clause-value : goal.returns-clause-value
returns-clause-value t c =
    value_as c.held_or.result _ _
    (λ H. required_more H c.in-Some.path.now c.in-Some.rest.now c.args.required.now (value_of (cond_of c.args.value) H) (value_of (cond_of c.in_ok-later.later) H) (value_of (cond_of c.leaf-error.result) H)
    c.in-Some.ensures.cases.0 (c.in_ok-later.ensures.value H) (c.leaf-error.ensures.value H))
    c.held_or.ensures.value
