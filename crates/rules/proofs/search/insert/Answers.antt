use Rattle.std.proofs.Common.{sym, ◌∙◌, ap, not}
use Rattle.algebra.specs.HeldPaths.{has_path}
use Rattle.rules.proofs.PathLists.{found_has, has_already, missing_ascends, missing_has, missing_is}
use Rattle.rules.proofs.search.insert.Goals as goal

pub returns-then-has-clause-is_new : goal.returns-then-has-clause-is_new
returns-then-has-clause-is_new c = ap not (sym (ap (λ l. has_path l c.args.path.now) (sym c.as_slice.ensures.value) ∙ sym c.has.ensures ∙ c.if-has.true))

pub returns-then-has-clause-paths : goal.returns-then-has-clause-paths
returns-then-has-clause-paths c = has_already c.args.path.now c.args.paths.now.items (ap (λ l. has_path l c.args.path.now) (sym c.as_slice.ensures.value) ∙ sym c.has.ensures ∙ c.if-has.true)

pub returns-in-Ok-clause-is_new : goal.returns-in-Ok-clause-is_new
returns-in-Ok-clause-is_new c = ap not (sym (found_has c.args.path.now c.deref.result.now c.args.paths.now.items c.in-Ok.field-0 c.deref.ensures.value c.in-Ok.ensures.bound c.in-Ok.ensures.ok))

pub returns-in-Ok-clause-paths : goal.returns-in-Ok-clause-paths
returns-in-Ok-clause-paths c = has_already c.args.path.now c.args.paths.now.items (found_has c.args.path.now c.deref.result.now c.args.paths.now.items c.in-Ok.field-0 c.deref.ensures.value c.in-Ok.ensures.bound c.in-Ok.ensures.ok)

pub returns-in_ok-insert-in-Err-clause-ascends : goal.returns-in_ok-insert-in-Err-clause-ascends
returns-in_ok-insert-in-Err-clause-ascends c = missing_ascends c.args.path.now c.copy.result c.deref.result.now c.args.paths.now.items c.insert.new.self.items c.in-Err.at c.deref.ensures.value c.copy.ensures c.in_ok-insert-in-Err.ensures.items c.requires c.in-Err.ensures.bound c.in-Err.ensures.position

pub returns-in_ok-insert-in-Err-clause-is_new : goal.returns-in_ok-insert-in-Err-clause-is_new
returns-in_ok-insert-in-Err-clause-is_new c = ap not (sym (missing_is c.args.path.now c.deref.result.now c.args.paths.now.items c.in-Err.at c.deref.ensures.value c.requires c.in-Err.ensures.position))

pub returns-in_ok-insert-in-Err-clause-paths : goal.returns-in_ok-insert-in-Err-clause-paths
returns-in_ok-insert-in-Err-clause-paths c = missing_has c.args.path.now c.copy.result c.args.paths.now.items c.insert.new.self.items c.in-Err.at c.copy.ensures c.in_ok-insert-in-Err.ensures.items
