-- A path of the method itself, and one that gets an origin.
use Rattle.std.proofs.Common.{Some, cond, sym, ap, ◌∙◌}
use Rattle.paths.specs.Paths.{path_eq}
use Rattle.algebra.specs.HeldPaths.{has_path}
use Rattle.rules.specs.Near.{rel_of}
use Rattle.level_check.specs.Told.{origin_in}
use Rattle.level_check.proofs.Beginnings.{path_own, path_put}
use Rattle.level_check.proofs.origins.add_path.Goals as goal

pub returns-then-has : goal.returns-then-has
returns-then-has c = λ known. path_own (rel_of c.args.sets.now) c.args.method c.args.path.now (origin_in c.args.origins.now.entries) (ap (λ l. has_path l c.args.path.now) (sym c.rel.ensures) ∙ sym c.has.ensures ∙ c.if-has.true)

pub returns : goal.returns
returns c = λ known.
    path_put (rel_of c.args.sets.now) c.args.method c.args.next c.args.path.now (origin_in c.args.origins.now.entries) (origin_in c.insert.new.self.entries) known
    (λ p. c.in_ok-insert.ensures.updates.0 p ∙ ap (λ z. cond (path_eq z p) (Some c.args.next) (origin_in c.args.origins.now.entries p)) c.copy.ensures)
