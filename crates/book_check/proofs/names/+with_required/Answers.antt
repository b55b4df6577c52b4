-- One required path more, under its name.
use Rattle.std.proofs.Common.{ap, ◌∙◌, if◌then◌else◌}
use Rattle.std.specs.Option.{option_copied}
use Rattle.algebra.specs.HeldPaths.{holds_at}
use Rattle.conditions.specs.Conditions.{cond_of, value_of}
use Rattle.book_check.specs.Judges.{call_name, named_set}
use Rattle.book_check.proofs.NameLemmas.{value_as, required_more}
use Rattle.book_check.proofs.names.+with_required.Goals as goal

pub returns-clause-value : goal.returns-clause-value
returns-clause-value t c =
    value_as c.held_or.result _ _
    (λ H. ap (λ o. if holds_at o H then value_of (cond_of c.in_ok-later.later) H else value_of (cond_of c.leaf-error.result) H) (c.as_ref.ensures.value ∙ c.call_name-name.ensures)
    ∙ required_more (named_set (call_name c.args.names.now.rel.now (option_copied c.args.names.now.receiver) c.args.names.now.args.now) H) c.in-Some.path.now c.in-Some.rest.now c.args.required.now
    (value_of (cond_of c.args.value) H) (value_of (cond_of c.in_ok-later.later) H) (value_of (cond_of c.leaf-error.result) H)
    c.in-Some.ensures.cases.0 (c.in_ok-later.ensures.value H) (c.leaf-error.ensures.value H))
    c.held_or.ensures.value
