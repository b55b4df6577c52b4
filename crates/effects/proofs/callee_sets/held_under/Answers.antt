use Rattle.core_program.specs.Locks.{path_of}
use Rattle.core_program.specs.Views.{program_of, expr_of, exprs_from}
use Rattle.rules.specs.Mentions.{paths_of}
use Rattle.rules.specs.Near.{rel_of}
use Rattle.effects.proofs.ListedSets.{known_from}
use Rattle.effects.proofs.callee_sets.held_under.Goals as goal

pub returns : goal.returns
returns c =
    known_from (λ v. v.items) c.held_pairs.result (path_of (program_of c.args.program.now) (expr_of c.args.call.now.receiver.now)) (paths_of (program_of c.args.program.now) (exprs_from c.args.call.now.args.now))
    (rel_of c.args.sets.now c.args.call.now.callee) c.args.held.now c.in_ok-renaming.renaming c.held_pairs.ensures c.in_ok-renaming.ensures
