use Rattle.std.proofs.Common.{◌∙◌, ℕ, IfOk, IsErrOf, subst}
use Rattle.std.specs.List.{All, Contains}
use Rattle.syntax.specs.Faults.{IsUnexpected}
use Rattle.syntax.specs.Names.{names_of_program}
use Rattle.syntax.specs.Tokens.{name_token}
use Rattle.syntax.specs.Views.{program_tree}
use Rattle.parser.specs.declared.faults.ParseFault.TheVariants as ParseFault
use Rattle.parser.proofs.parser.parse.Goals as goal

pub returns-in-Ok-clause-names : goal.returns-in-Ok-clause-names
returns-in-Ok-clause-names c =
    subst (λ ts. IfOk c.read.result (λ program. All (λ n. Contains ts (name_token n)) (names_of_program (program_tree program))))
    (c.as_slice.ensures.value ∙ c.in-Ok.ensures) c.read.ensures.names

pub returns-in-Ok-clause-unexpected : goal.returns-in-Ok-clause-unexpected
returns-in-Ok-clause-unexpected c =
    subst (λ ts. (place : ℕ) → IsErrOf c.read.result (ParseFault.Unexpected place) → IsUnexpected ts place) (c.as_slice.ensures.value ∙ c.in-Ok.ensures) c.read.ensures.unexpected
