use Rattle.std.proofs.Common.{refl, arith, [], ◌∷◌}
use Rattle.std.specs.Prelude.{codes}
use Rattle.syntax.specs.declared.terminal.Terminal.TheVariants as T
use Rattle.syntax.specs.Tokens.{token}
use Rattle.front_examples.specs.Spelled.{x_token, seven_token}
use Rattle.front_examples.proofs.productions.how_operations_are_spelled.Goals as goal

pub returns-clause-to_the_left : goal.returns-clause-to_the_left
returns-clause-to_the_left c = ((x_token ∷ token T.Minus 10 ∷ x_token ∷ []), (seven_token ∷ []), ((x_token ∷ []), (x_token ∷ []), refl, refl, omega arith, omega arith, refl), (codes "7", omega arith, refl), omega arith, omega arith, refl)

pub returns-clause-not_to_the_right : goal.returns-clause-not_to_the_right
returns-clause-not_to_the_right c ts s = omega (arith, s.5)

pub returns-clause-tighter_on_the_right : goal.returns-clause-tighter_on_the_right
returns-clause-tighter_on_the_right c = ((x_token ∷ []), (x_token ∷ token T.Star 12 ∷ seven_token ∷ []), refl, ((x_token ∷ []), (seven_token ∷ []), refl, (codes "7", omega arith, refl), omega arith, omega arith, refl), omega arith, omega arith, refl)

pub returns-clause-looser_on_the_left : goal.returns-clause-looser_on_the_left
returns-clause-looser_on_the_left c ts s = omega (arith, s.4)

pub returns-clause-looser_on_the_right : goal.returns-clause-looser_on_the_right
returns-clause-looser_on_the_right c ts s = omega (arith, s.5)

pub returns-clause-all_levels : goal.returns-clause-all_levels
returns-clause-all_levels c = ((x_token ∷ []), (x_token ∷ token T.AndAnd 1 ∷ x_token ∷ token T.EqualTo 2 ∷ x_token ∷ token T.Less 3 ∷ x_token ∷ token T.Plus 4 ∷ x_token ∷ token T.Percent 5 ∷ token T.Bang 6 ∷ x_token ∷ []), refl, ((x_token ∷ []), (x_token ∷ token T.EqualTo 2 ∷ x_token ∷ token T.Less 3 ∷ x_token ∷ token T.Plus 4 ∷ x_token ∷ token T.Percent 5 ∷ token T.Bang 6 ∷ x_token ∷ []), refl, ((x_token ∷ []), (x_token ∷ token T.Less 3 ∷ x_token ∷ token T.Plus 4 ∷ x_token ∷ token T.Percent 5 ∷ token T.Bang 6 ∷ x_token ∷ []), refl, ((x_token ∷ []), (x_token ∷ token T.Plus 4 ∷ x_token ∷ token T.Percent 5 ∷ token T.Bang 6 ∷ x_token ∷ []), refl, ((x_token ∷ []), (x_token ∷ token T.Percent 5 ∷ token T.Bang 6 ∷ x_token ∷ []), refl, ((x_token ∷ []), (token T.Bang 6 ∷ x_token ∷ []), refl, ((x_token ∷ []), refl, refl, refl), omega arith, omega arith, refl), omega arith, omega arith, refl), omega arith, omega arith, refl), omega arith, omega arith, refl), omega arith, omega arith, refl), omega arith, omega arith, refl)
