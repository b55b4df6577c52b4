use Rattle.std.proofs.Common.{refl, ◌++◌, [], ◌∷◌}
use Rattle.std.specs.Prelude.{codes, replicate}
use Rattle.lexer.specs.declared.tokens.TokenKind.TheVariants as kind
use Rattle.lexer.proofs.Unique.{never_both}
use Rattle.front_examples.specs.Cut.{token_cut}
use Rattle.front_examples.proofs.Lexed.{lexed_is, faulty_is}
use Rattle.front_examples.proofs.tokens.which_fault_comes_first.Goals as goal

pub returns-clause-character : goal.returns-clause-character
returns-clause-character c = faulty_is 12 (codes "a $") 0 _ refl

pub returns-clause-half_a_sign : goal.returns-clause-half_a_sign
returns-clause-half_a_sign c = faulty_is 12 (codes "&&&") 0 _ refl

pub returns-clause-open_comment : goal.returns-clause-open_comment
returns-clause-open_comment c = faulty_is 12 (codes "a /* b*") 0 _ refl

pub returns-clause-closed_too_early : goal.returns-clause-closed_too_early
returns-clause-closed_too_early c = faulty_is 12 (codes "/*/") 0 _ refl

pub returns-clause-number : goal.returns-clause-number
returns-clause-number c = faulty_is 12 (codes "1 2147483649") 0 _ refl

pub returns-clause-name : goal.returns-clause-name
returns-clause-name c = faulty_is 12 (codes ";" ++ replicate 65 97) 0 _ refl

pub returns-clause-leftmost : goal.returns-clause-leftmost
returns-clause-leftmost c = faulty_is 12 (codes "# /*") 0 _ refl

pub returns-clause-none : goal.returns-clause-none
returns-clause-none c fault = never_both (lexed_is 12 (codes "a") 0 (token_cut kind.Name (codes "a") 0 ∷ []) refl) fault
