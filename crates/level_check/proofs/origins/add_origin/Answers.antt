-- None yet, one path more, and all of them.
use Rattle.std.proofs.Common.{◌≡◌, ◌∷◌, [], true, sym, subst}
use Rattle.algebra.specs.HeldPaths.{has_path}
use Rattle.rules.specs.Near.{rel_of}
use Rattle.level_check.specs.Told.{origin_in}
use Rattle.level_check.specs.Origins.{AddsPaths}
use Rattle.level_check.proofs.Beginnings.{paths_none, paths_step, paths_all}
use Rattle.level_check.proofs.origins.add_origin.Goals as goal

pub loop-path-init : goal.loop-path-init
loop-path-init c = paths_none (rel_of c.args.sets.now) c.args.method (origin_in c.args.origins.now.entries)

pub loop-path-preserved : goal.loop-path-preserved
loop-path-preserved c =
    paths_step (rel_of c.args.sets.now) c.args.method c.rel-path-items.result.now c.loop-path.path-index c.path-item.result (origin_in c.args.origins.now.entries) (origin_in c.loop-path.origins.entries) (origin_in c.add_path.new.origins.entries)
    c.loop-path-test.true c.path-item.is c.loop-path.invariant
    (subst (λ l. has_path l c.path-item.result ≡ true → AddsPaths (rel_of c.args.sets.now) c.args.method (c.path-item.result ∷ []) (origin_in c.loop-path.origins.entries) (origin_in c.add_path.new.origins.entries)) (sym c.rel-path-items.ensures) c.in_ok-add_path.ensures)

pub returns : goal.returns
returns c =
    subst (λ l. AddsPaths (rel_of c.args.sets.now) c.args.method l (origin_in c.args.origins.now.entries) (origin_in c.loop-path.origins.entries)) c.rel-path-items.ensures
    (paths_all (rel_of c.args.sets.now) c.args.method c.rel-path-items.result.now c.loop-path.path-index (origin_in c.args.origins.now.entries) (origin_in c.loop-path.origins.entries) c.loop-path-test.false c.loop-path.invariant)
