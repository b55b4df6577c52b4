use Rattle.std.proofs.Common.{refl}
use Rattle.std.specs.Prelude.{codes, replicate}
use Rattle.front_examples.proofs.Lexed.{lexed_is}
use Rattle.front_examples.proofs.tokens.which_tokens_texts_have.Goals as goal

pub returns-clause-nothing : goal.returns-clause-nothing
returns-clause-nothing c = lexed_is 12 (codes "") 0 _ refl

pub returns-clause-blanks : goal.returns-clause-blanks
returns-clause-blanks c = lexed_is 12 (codes " \t\n /**/ //") 0 _ refl

pub returns-clause-local : goal.returns-clause-local
returns-clause-local c = lexed_is 12 (codes "int a9=10; // x") 0 _ refl

pub returns-clause-zeros : goal.returns-clause-zeros
returns-clause-zeros c = lexed_is 12 (codes "007") 0 _ refl

pub returns-clause-minuses : goal.returns-clause-minuses
returns-clause-minuses c = lexed_is 12 (codes "a---b") 0 _ refl

pub returns-clause-equals : goal.returns-clause-equals
returns-clause-equals c = lexed_is 12 (codes "<===") 0 _ refl

pub returns-clause-word_in_a_name : goal.returns-clause-word_in_a_name
returns-clause-word_in_a_name c = lexed_is 12 (codes "ifx/*/ */if") 0 _ refl

pub returns-clause-line_comment : goal.returns-clause-line_comment
returns-clause-line_comment c = lexed_is 12 (codes "a//b\nc") 0 _ refl

pub returns-clause-number_before_a_name : goal.returns-clause-number_before_a_name
returns-clause-number_before_a_name c = lexed_is 12 (codes "1a") 0 _ refl

pub returns-clause-quotient : goal.returns-clause-quotient
returns-clause-quotient c = lexed_is 12 (codes "a/b") 0 _ refl

pub returns-clause-longest_name : goal.returns-clause-longest_name
returns-clause-longest_name c = lexed_is 12 (replicate 64 97) 0 _ refl
