use Rattle.lexer.proofs.Numbers.{too_large}
use Rattle.lexer.proofs.lexer.literal.Goals as goal

pub returns-in-Err : goal.returns-in-Err
returns-in-Err c = too_large c.args.digits.now c.parse.result c.in-Err.field-0 c.requires c.in-Err.is c.parse.ensures.value.0
