use Rattle.core_program.specs.Views.{program_of}
use Rattle.compile.proofs.Methods.{all_three}
use Rattle.compile.proofs.compiler.compile.Goals as goal

pub returns : goal.returns
returns c = all_three (program_of c.args.program.now) c.compiled.result c.compiled.ensures.code c.compiled.ensures.entry c.compiled.ensures.room
