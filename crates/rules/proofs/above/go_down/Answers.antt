-- Above the class the line ends, after fewer classes than there are.
use Rattle.std.proofs.Common.{arith}
use Rattle.std.proofs.lemmas.List.{length-map}
use Rattle.core_program.specs.Kept.{kept_class}
use Rattle.rules.proofs.AboveLemmas.{passes_on}
use Rattle.rules.proofs.above.go_down.Goals as goal

pub put_own-requires-clause-passes : goal.put_own-requires-clause-passes
put_own-requires-clause-passes c =
    let p = c.args.program.now in
    passes_on p c.args.class c.args.depth c.requires.ends (omega (arith, c.if-depth-len.false, c.len.ensures, p.classes.ok.0, length-map p.classes.items kept_class))
