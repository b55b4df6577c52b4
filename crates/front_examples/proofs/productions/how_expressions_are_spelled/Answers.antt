use Rattle.std.proofs.Common.{◌≡◌, refl, arith, true, false, [], ◌∷◌}
use Rattle.std.specs.Prelude.{codes}
use Rattle.syntax.specs.declared.terminal.Terminal.TheVariants as T
use Rattle.syntax.specs.Tokens.{token}
use Rattle.front_examples.specs.Spelled.{x_token, seven_token}
use Rattle.front_examples.proofs.productions.how_expressions_are_spelled.Goals as goal

pub returns-clause-number : goal.returns-clause-number
returns-clause-number c = (codes "7", omega arith, refl)

pub returns-clause-too_large : goal.returns-clause-too_large
returns-clause-too_large c ts s = omega (arith, s.1)

pub returns-clause-least : goal.returns-clause-least
returns-clause-least c = (codes "2147483648", 4, refl)

pub returns-clause-parentheses : goal.returns-clause-parentheses
returns-clause-parentheses c = ((x_token ∷ []), 10, refl, refl)

pub returns-clause-opposite : goal.returns-clause-opposite
returns-clause-opposite c = ((x_token ∷ []), refl, refl, refl)

pub returns-clause-negated : goal.returns-clause-negated
returns-clause-negated c = ((x_token ∷ []), refl, refl, refl)

pub returns-clause-negated_twice : goal.returns-clause-negated_twice
returns-clause-negated_twice c = ((token T.Bang 8 ∷ x_token ∷ []), ((x_token ∷ []), refl, refl, refl), refl, refl)

pub returns-clause-no_opposite_of_a_sum : goal.returns-clause-no_opposite_of_a_sum
returns-clause-no_opposite_of_a_sum c ts s = omega (arith, s.2)

pub returns-clause-no_negated_sum : goal.returns-clause-no_negated_sum
returns-clause-no_negated_sum c ts s = omega (arith, s.2)

pub returns-clause-field : goal.returns-clause-field
returns-clause-field c = ((x_token ∷ []), 10, refl, refl, refl)

pub returns-clause-no_field_of_a_sum : goal.returns-clause-no_field_of_a_sum
returns-clause-no_field_of_a_sum c ts s = let e : false ≡ true = s.3 in absurd cc

pub returns-clause-no_field_of_a_negated_one : goal.returns-clause-no_field_of_a_negated_one
returns-clause-no_field_of_a_negated_one c ts s = let e : false ≡ true = s.3 in absurd cc

pub returns-clause-call : goal.returns-clause-call
returns-clause-call c = ((x_token ∷ []), [], 10, 12, 13, refl, refl, refl, refl)

pub returns-clause-call_with_two : goal.returns-clause-call_with_two
returns-clause-call_with_two c = ((x_token ∷ []), (x_token ∷ token T.Comma 14 ∷ seven_token ∷ []), 10, 12, 16, refl, refl, ((x_token ∷ []), (token T.Comma 14 ∷ seven_token ∷ []), refl, ((seven_token ∷ []), [], 14, (codes "7", omega arith, refl), refl, refl), refl), refl)

pub returns-clause-no_call_of_a_sum : goal.returns-clause-no_call_of_a_sum
returns-clause-no_call_of_a_sum c ts s = let e : false ≡ true = s.6 in absurd cc

pub returns-clause-new_object : goal.returns-clause-new_object
returns-clause-new_object c = ((x_token ∷ []), 12, 13, ((x_token ∷ []), [], refl, refl, refl), refl)
