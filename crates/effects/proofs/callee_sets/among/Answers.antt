use Rattle.std.proofs.Common.{refl, ap, ◌∙◌}
use Rattle.std.specs.Prelude.{filter}
use Rattle.algebra.specs.HeldPaths.{has_path}
use Rattle.effects.proofs.ListedSets.{all_found, known_in}
use Rattle.effects.proofs.callee_sets.among.Goals as goal

pub returns-clause-set : goal.returns-clause-set
returns-clause-set c =
    ap has_path (all_found (filter (has_path c.args.held.now)) c.args.rel.now c.loop-path.known.items (filter (has_path c.args.held.now) c.args.rel.now) c.loop-path.path-index refl c.loop-path-test.false c.loop-path.invariant)
    ∙ known_in (has_path c.args.held.now) c.args.rel.now
