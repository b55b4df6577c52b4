use Rattle.lexer.proofs.Unique.{exact_tokens, exact_fault}
use Rattle.lexer.proofs.lexer.lex.Goals as goal

pub returns-clause-tokens_given : goal.returns-clause-tokens_given
returns-clause-tokens_given c = exact_tokens (λ v. v.items) c.args.text.now c.cut_all.result c.cut_all.ensures.tokens c.cut_all.ensures.fault

pub returns-clause-fault_told : goal.returns-clause-fault_told
returns-clause-fault_told c = exact_fault (λ v. v.items) c.args.text.now c.cut_all.result c.cut_all.ensures.tokens c.cut_all.ensures.fault
