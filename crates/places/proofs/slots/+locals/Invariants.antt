use Rattle.std.proofs.Common.{◌≡◌, ◌++◌, drop, map}
use Rattle.syntax.specs.Views.{stmt_of, stmts_from}
use Rattle.places.specs.Slots.{block_locals}
use Rattle.places.proofs.slots.+locals.Given as goal

-- the names so far, and then those of the rest, are all
abbrev pub invariant-add_each-loop-s : goal.invariant-add_each-loop-s
invariant-add_each-loop-s l =
    map (λ name. name.now) l.names.items ++ block_locals (stmts_from (map stmt_of (drop l.s-index l.body)))
    ≡ map (λ name. name.now) l.fn.names.items ++ block_locals (stmts_from (map stmt_of l.body))
