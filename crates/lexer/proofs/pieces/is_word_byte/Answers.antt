use Rattle.lexer.proofs.Tables.{word_byte_is}
use Rattle.lexer.proofs.pieces.is_word_byte.Goals as goal

pub returns : goal.returns
returns c = word_byte_is c.args.byte c.ranges.byte.fits
