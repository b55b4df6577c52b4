use Rattle.std.proofs.Common.{◌≡◌, refl, arith, true, false, [], ◌∷◌}
use Rattle.std.specs.Prelude.{codes}
use Rattle.syntax.specs.declared.terminal.Terminal.TheVariants as T
use Rattle.syntax.specs.Tokens.{token}
use Rattle.front_examples.specs.Spelled.{x_token, seven_token, f_token, empty_token}
use Rattle.front_examples.proofs.productions.how_statements_are_spelled.Goals as goal

pub returns-clause-this : goal.returns-clause-this
returns-clause-this c = (token T.This 5, [], refl, refl, refl)

pub returns-clause-lock : goal.returns-clause-lock
returns-clause-lock c = (x_token, (token T.Dot 10 ∷ f_token ∷ token T.Dot 12 ∷ f_token ∷ []), (refl, refl), ((token T.Dot 12 ∷ f_token ∷ []), 10, ([], 12, refl, refl), refl), refl)

pub returns-clause-block : goal.returns-clause-block
returns-clause-block c = ((empty_token ∷ empty_token ∷ []), 9, ((empty_token ∷ []), (empty_token ∷ []), refl, ((empty_token ∷ []), [], refl, refl, refl), refl), refl)

pub returns-clause-local : goal.returns-clause-local
returns-clause-local c = ([], (seven_token ∷ []), token T.Int 3, 12, 14, refl, refl, (codes "7", omega arith, refl), refl, refl)

pub returns-clause-final_local : goal.returns-clause-final_local
returns-clause-final_local c = ((token T.Final 3 ∷ []), (seven_token ∷ []), x_token, 12, 14, (3, refl), refl, (codes "7", omega arith, refl), refl, refl)

pub returns-clause-truth_local : goal.returns-clause-truth_local
returns-clause-truth_local c = ([], (seven_token ∷ []), token T.Boolean 3, 12, 14, refl, refl, (codes "7", omega arith, refl), refl, refl)

pub returns-clause-local_elsewhere : goal.returns-clause-local_elsewhere
returns-clause-local_elsewhere c s = omega (arith, s.8)

pub returns-clause-assigned : goal.returns-clause-assigned
returns-clause-assigned c = ((seven_token ∷ []), 14, (codes "7", omega arith, refl), refl)

pub returns-clause-written : goal.returns-clause-written
returns-clause-written c = ((x_token ∷ []), (seven_token ∷ []), 10, 14, refl, refl, (codes "7", omega arith, refl), refl)

pub returns-clause-no_written_field_of_a_sum : goal.returns-clause-no_written_field_of_a_sum
returns-clause-no_written_field_of_a_sum c ts s = let e : false ≡ true = s.5 in absurd cc

pub returns-clause-done : goal.returns-clause-done
returns-clause-done c = ((x_token ∷ token T.Dot 10 ∷ f_token ∷ token T.OpenParen 12 ∷ token T.CloseParen 13 ∷ []), 14, ((x_token ∷ []), [], 10, 12, 13, refl, refl, refl, refl), refl, refl, refl)

pub returns-clause-no_expression_alone : goal.returns-clause-no_expression_alone
returns-clause-no_expression_alone c ts s = let e : false ≡ true = s.3 in absurd cc

pub returns-clause-branch : goal.returns-clause-branch
returns-clause-branch c = ((x_token ∷ []), (empty_token ∷ []), 5, 10, refl, refl, refl, refl)

pub returns-clause-no_local_in_a_branch : goal.returns-clause-no_local_in_a_branch
returns-clause-no_local_in_a_branch c ts s = let e : true ≡ false = s.6 in absurd cc

pub returns-clause-branches : goal.returns-clause-branches
returns-clause-branches c = ((x_token ∷ []), (empty_token ∷ []), (empty_token ∷ []), 5, 10, 13, refl, refl, refl, refl, refl, refl, refl)

pub returns-clause-nearest_if : goal.returns-clause-nearest_if
returns-clause-nearest_if c = ((x_token ∷ []), (token T.If 12 ∷ token T.OpenParen 13 ∷ x_token ∷ token T.CloseParen 14 ∷ empty_token ∷ token T.Else 15 ∷ empty_token ∷ []), 5, 10, refl, ((x_token ∷ []), (empty_token ∷ []), (empty_token ∷ []), 13, 14, 15, refl, refl, refl, refl, refl, refl, refl), refl, refl)

pub returns-clause-no_further_if : goal.returns-clause-no_further_if
returns-clause-no_further_if c ts s = let e : true ≡ false = s.11 in absurd cc

pub returns-clause-no_local_in_branches : goal.returns-clause-no_local_in_branches
returns-clause-no_local_in_branches c ts s = let e : true ≡ false = s.10 in absurd cc

pub returns-clause-repeated : goal.returns-clause-repeated
returns-clause-repeated c = ((x_token ∷ []), (empty_token ∷ []), 5, 10, refl, refl, refl, refl)

pub returns-clause-no_repeated_local : goal.returns-clause-no_repeated_local
returns-clause-no_repeated_local c ts s = let e : true ≡ false = s.6 in absurd cc

pub returns-clause-locked : goal.returns-clause-locked
returns-clause-locked c = ((token T.This 5 ∷ []), (empty_token ∷ []), 4, 6, 7, 9, (token T.This 5, [], refl, refl, refl), ((empty_token ∷ []), [], refl, refl, refl), refl)

pub returns-clause-returned : goal.returns-clause-returned
returns-clause-returned c = (9, refl)

pub returns-clause-value_returned : goal.returns-clause-value_returned
returns-clause-value_returned c = ((x_token ∷ []), 10, refl, refl)

pub returns-clause-printed : goal.returns-clause-printed
returns-clause-printed c = ((x_token ∷ []), 4, 5, 6, 7, 8, 10, 11, refl, refl)

pub returns-clause-started : goal.returns-clause-started
returns-clause-started c = ((x_token ∷ []), 4, 5, 10, 11, 12, 13, 14, 15, refl, refl)
