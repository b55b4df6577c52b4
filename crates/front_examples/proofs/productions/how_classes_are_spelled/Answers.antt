use Rattle.std.proofs.Common.{◌≡◌, refl, arith, true, false, [], ◌∷◌, inl, inr}
use Rattle.syntax.specs.declared.terminal.Terminal.TheVariants as T
use Rattle.syntax.specs.Tokens.{token}
use Rattle.front_examples.specs.Spelled.{x_token, f_token, empty_token}
use Rattle.front_examples.proofs.productions.how_classes_are_spelled.Goals as goal

pub returns-clause-final_field : goal.returns-clause-final_field
returns-clause-final_field c = (token T.Int 4, 3, 12, refl, refl, refl, refl)

pub returns-clause-plain_field : goal.returns-clause-plain_field
returns-clause-plain_field c = (token T.Int 4, [], 12, refl, (refl, refl), refl)

pub returns-clause-guarded_field : goal.returns-clause-guarded_field
returns-clause-guarded_field c = (token T.Int 4, (token T.GuardedBy 12 ∷ token T.This 5 ∷ []), 14, refl, ((token T.This 5 ∷ []), 12, (token T.This 5, [], refl, refl, refl), refl), refl)

pub returns-clause-write_guarded_field : goal.returns-clause-write_guarded_field
returns-clause-write_guarded_field c = (token T.Int 4, (token T.WriteGuardedBy 12 ∷ token T.This 5 ∷ []), 14, refl, ((token T.This 5 ∷ []), 12, (token T.This 5, [], refl, refl, refl), refl), refl)

pub returns-clause-no_guarded_final_field : goal.returns-clause-no_guarded_final_field
returns-clause-no_guarded_final_field c ts s = absurd (let e = s.4 in cc)

pub returns-clause-no_writes_without_guard : goal.returns-clause-no_writes_without_guard
returns-clause-no_writes_without_guard c ts s = let e : true ≡ false = s.4.0 in absurd cc

pub returns-clause-constructor : goal.returns-clause-constructor
returns-clause-constructor c = ((token T.Int 11 ∷ f_token ∷ token T.Comma 12 ∷ token T.Final 13 ∷ token T.Boolean 14 ∷ f_token ∷ []), (token T.This 17 ∷ token T.Dot 18 ∷ f_token ∷ token T.Assign 19 ∷ x_token ∷ token T.Semicolon 20 ∷ []), 10, 15, 16, 21, ((token T.Int 11 ∷ f_token ∷ []), (token T.Comma 12 ∷ token T.Final 13 ∷ token T.Boolean 14 ∷ f_token ∷ []), ([], token T.Int 11, refl, inl refl, refl, refl), ((token T.Final 13 ∷ token T.Boolean 14 ∷ f_token ∷ []), [], 12, ((token T.Final 13 ∷ []), token T.Boolean 14, refl, inr (13, refl), refl, refl), refl, refl), refl), ((token T.This 17 ∷ token T.Dot 18 ∷ f_token ∷ token T.Assign 19 ∷ x_token ∷ token T.Semicolon 20 ∷ []), [], (17, 18, 19, 20, refl), refl, refl), refl)

pub returns-clause-no_final_parameter_of_a_constructor : goal.returns-clause-no_final_parameter_of_a_constructor
returns-clause-no_final_parameter_of_a_constructor c ts s = let e : true ≡ false = s.2 in absurd cc

pub returns-clause-final_parameter : goal.returns-clause-final_parameter
returns-clause-final_parameter c = ((token T.Final 3 ∷ []), token T.Int 4, (3, refl), refl, refl)

pub returns-clause-plain_parameter : goal.returns-clause-plain_parameter
returns-clause-plain_parameter c = ([], token T.Int 4, refl, refl, refl)

pub returns-clause-void_method : goal.returns-clause-void_method
returns-clause-void_method c = ([], [], [], [], token T.Void 3, 12, 13, 14, refl, refl, refl, refl, refl, refl)

pub returns-clause-method : goal.returns-clause-method
returns-clause-method c = ((token T.Atomic 2 ∷ []), (token T.Final 13 ∷ token T.Int 14 ∷ x_token ∷ []), (token T.Requires 16 ∷ token T.This 5 ∷ token T.Comma 17 ∷ x_token ∷ []), (empty_token ∷ []), token T.Int 3, 12, 15, 18, (2, refl), refl, ((token T.Final 13 ∷ token T.Int 14 ∷ x_token ∷ []), [], ((token T.Final 13 ∷ []), token T.Int 14, (13, refl), refl, refl), refl, refl), ((token T.This 5 ∷ token T.Comma 17 ∷ x_token ∷ []), 16, ((token T.This 5 ∷ []), (token T.Comma 17 ∷ x_token ∷ []), (token T.This 5, [], refl, refl, refl), ((x_token ∷ []), [], 17, (x_token, [], (refl, refl), refl, refl), refl, refl), refl), refl), ((empty_token ∷ []), [], refl, refl, refl), refl)

pub returns-clause-public_member : goal.returns-clause-public_member
returns-clause-public_member c = ((token T.Public 2 ∷ []), (token T.Int 4 ∷ f_token ∷ token T.Semicolon 12 ∷ []), inr (2, refl), (token T.Int 4, [], 12, refl, (refl, refl), refl), refl)

pub returns-clause-plain_member : goal.returns-clause-plain_member
returns-clause-plain_member c = ([], (token T.Int 4 ∷ f_token ∷ token T.Semicolon 12 ∷ []), inl refl, (token T.Int 4, [], 12, refl, (refl, refl), refl), refl)

pub returns-clause-class : goal.returns-clause-class
returns-clause-class c = ([], [], [], [], 3, 10, 11, inl refl, refl, refl, refl, refl)

pub returns-clause-class_below : goal.returns-clause-class_below
returns-clause-class_below c = ((token T.Public 2 ∷ []), (token T.Extends 10 ∷ f_token ∷ []), (token T.Implements 12 ∷ token T.Runnable 13 ∷ []), (token T.Int 15 ∷ f_token ∷ token T.Semicolon 16 ∷ []), 3, 14, 17, inr (2, refl), (10, refl), (12, 13, refl), ((token T.Int 15 ∷ f_token ∷ token T.Semicolon 16 ∷ []), [], ([], (token T.Int 15 ∷ f_token ∷ token T.Semicolon 16 ∷ []), inl refl, (token T.Int 15, [], 16, refl, (refl, refl), refl), refl), refl, refl), refl)

pub returns-clause-no_class : goal.returns-clause-no_class
returns-clause-no_class c = (refl, omega arith)

pub returns-clause-two_classes : goal.returns-clause-two_classes
returns-clause-two_classes c = (((token T.Class 3 ∷ x_token ∷ token T.OpenBrace 10 ∷ token T.CloseBrace 11 ∷ []), (token T.Class 12 ∷ f_token ∷ token T.OpenBrace 13 ∷ token T.CloseBrace 14 ∷ []), ([], [], [], [], 3, 10, 11, inl refl, refl, refl, refl, refl), ((token T.Class 12 ∷ f_token ∷ token T.OpenBrace 13 ∷ token T.CloseBrace 14 ∷ []), [], ([], [], [], [], 12, 13, 14, inl refl, refl, refl, refl, refl), refl, refl), refl), omega arith)
