use Rattle.std.proofs.Common.{◌++◌, ◌∷◌, [], ◌∙◌, ap}
use Rattle.rules.specs.declared.clauses.NearPath.{NearPath}
use Rattle.rules.proofs.SearchLemmas.{had_ascends, put_new, put_known}
use Rattle.rules.proofs.search.Family.put.Goals as goal

pub insert-requires : goal.insert-requires
insert-requires c = had_ascends c.args.self.now.near.items c.grow.new.rows.items c.index_mut.result.now c.number-method.result c.args.place.now.method c.args.self.now.queue.items c.number-method.ensures.is c.in_ok-grow.ensures.long c.in_ok-grow.ensures.same c.index_mut.ensures.value c.requires

pub returns-in_ok-push : goal.returns-in_ok-push
returns-in_ok-push c = put_new c.args.self.now.near.items c.grow.new.rows.items c.index_mut.result.now c.insert.new.paths c.number-method.result c.args.self.now.queue.items c.args.place.now c.number-method.ensures.is c.in_ok-grow.ensures.long c.in_ok-grow.ensures.same c.index_mut.ensures.value c.requires c.in_ok-insert.ensures.ascends c.in_ok-insert.ensures.paths _ (c.in_ok-push.ensures.items ∙ ap (λ (place : NearPath). c.args.self.now.queue.items ++ place ∷ []) c.copy.ensures)

pub returns-else-branch : goal.returns-else-branch
returns-else-branch c = put_known c.args.self.now.near.items c.grow.new.rows.items c.index_mut.result.now c.insert.new.paths c.number-method.result c.args.self.now.queue.items c.args.place.now c.number-method.ensures.is c.in_ok-grow.ensures.long c.in_ok-grow.ensures.same c.index_mut.ensures.value c.requires c.in_ok-insert.ensures.ascends c.in_ok-insert.ensures.paths c.in_ok-insert.field-0 c.in_ok-insert.ensures.is_new c.if-branch.false
