-- The status and the text for what was found.
use Rattle.std.proofs.Common.{IfOk, refl, ap, sym, subst, ◌∙◌}
use Rattle.witness_commands.specs.Answers.{IsSoughtSaid}
use Rattle.witness_commands.proofs.searching.sought_answer.Goals as goal

pub returns-in-Witness : goal.returns-in-Witness
returns-in-Witness c = subst (λ s. IfOk c.found_answer.result (λ said. IsSoughtSaid s said.status said.text.items)) (sym c.in-Witness.is) c.found_answer.ensures

pub returns-in_ok-none_found_line-in-Nothing : goal.returns-in_ok-none_found_line-in-Nothing
returns-in_ok-none_found_line-in-Nothing c =
    subst (λ s. IsSoughtSaid s 16 c.into_bytes.result.items) (sym c.in-Nothing.is) (refl, ap (λ v. v.items) c.into_bytes.ensures.value ∙ c.in_ok-none_found_line-in-Nothing.ensures)
