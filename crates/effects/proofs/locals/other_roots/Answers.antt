use Rattle.std.proofs.Common.{refl, ap, ◌∙◌}
use Rattle.algebra.specs.HeldPaths.{has_path}
use Rattle.effects.specs.HeldLists.{other_roots}
use Rattle.effects.proofs.ListedSets.{all_found, others_are}
use Rattle.effects.proofs.locals.other_roots.Goals as goal

pub returns-clause-set : goal.returns-clause-set
returns-clause-set c =
    ap has_path (all_found (other_roots c.args.slot) c.args.held.now c.loop-path.left.items (other_roots c.args.slot c.args.held.now) c.loop-path.path-index refl c.loop-path-test.false c.loop-path.invariant)
    ∙ others_are c.args.slot c.args.held.now
