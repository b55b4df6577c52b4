-- Programs whose evaluation ends in each way.
use Rattle.std.specs.Prelude.{true, false}
use Rattle.core_program.specs.Core.{Program, Stmt, TruthE, ThisE, CallE, no_exprs, EmptyS, DoS, WhileS}
use Rattle.core_program.specs.Examples.{guarded_main, block_of}

-- `void main() { while (true) ; }`
abbrev pub loops : Program
loops = guarded_main false 41 false (block_of (WhileS (TruthE true) EmptyS))

-- `{ this.main(); }`
abbrev pub calls_main : Stmt
calls_main = block_of (DoS (CallE ThisE 0 no_exprs) false)

-- `void main() { this.main(); }`
abbrev pub calls_itself : Program
calls_itself = guarded_main false 41 false calls_main
