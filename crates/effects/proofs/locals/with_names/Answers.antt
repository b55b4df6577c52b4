use Rattle.std.proofs.Common.{◌++◌, refl, ap, ◌∙◌}
use Rattle.algebra.specs.HeldPaths.{has_path}
use Rattle.effects.specs.HeldLists.{local_names, other_roots}
use Rattle.effects.proofs.ListedSets.{all_found, left_is}
use Rattle.effects.proofs.locals.with_names.Goals as goal

pub returns-clause-set : goal.returns-clause-set
returns-clause-set c =
    ap has_path
    (all_found (local_names c.args.slot c.args.start.now) c.args.held.now c.loop-path.left.items (other_roots c.args.slot c.args.held.now ++ local_names c.args.slot c.args.start.now c.args.held.now)
    c.loop-path.path-index refl c.loop-path-test.false c.loop-path.invariant)
    ∙ left_is c.args.slot c.args.start.now c.args.held.now
