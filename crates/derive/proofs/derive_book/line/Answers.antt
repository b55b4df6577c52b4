-- A line from its parts.
use Rattle.std.proofs.Common.{◌<◌, length, refl, sym, ap, subst, ◌∙◌}
use Rattle.std.proofs.lemmas.List.{length-map}
use Rattle.conditions.specs.Conditions.{cond_of, IsCanonical}
use Rattle.core_program.specs.Views.{method_of, program_of}
use Rattle.conditions.specs.Shown.{trees_at}
use Rattle.conditions.proofs.Tables.{grows_chain}
use Rattle.books.specs.Books.{IsNumbered}
use Rattle.books.specs.Memory.{node_of}
use Rattle.effects.specs.Parts.{StmtP}
use Rattle.derive.specs.Bases.{own_trees, trees_assign}
use Rattle.derive.specs.Moved.{IsMoved}
use Rattle.derive.specs.Pools.{pool_table, IsNumberIn}
use Rattle.derive.proofs.ConcludeLemmas.{numbered}
use Rattle.derive.proofs.LineLemmas.{line_made}
use Rattle.derive.proofs.MoveLemmas.{tree_there}
use Rattle.derive.proofs.PoolLemmas.{pool_on}
use Rattle.rules.specs.Near.{rel_of}
use Rattle.derive.proofs.derive_book.line.Goals as goal

pub own_node-requires : goal.own_node-requires
own_node-requires c =
    let g = c.args.basis.now in
    let within : c.args.m < length (own_trees g) = subst (λ n. c.args.m < n) (sym (length-map g.own.now cond_of)) c.requires.place in
    subst (λ t. IsCanonical (cond_of t)) c.index-basis-m.is
    (c.requires.canonical c.args.m (cond_of c.index-basis-m.result) (tree_there g.own.now c.args.m c.index-basis-m.result within c.index-basis-m.is))

pub number_of-requires-clause-pool : goal.number_of-requires-clause-pool
number_of-requires-clause-pool c =
    pool_on c.args.table.now c.concluded.new.table c.args.pool.now
    (grows_chain c.args.table.now c.own_node.new.table c.concluded.new.table c.in_ok-own.ensures.grows c.in_ok-derivation.ensures.grows) c.requires.pool

pub moved-requires-clause-numbered : goal.moved-requires-clause-numbered
moved-requires-clause-numbered c =
    let g = c.args.basis.now in
    let is = c.concluded.new.table in
    subst (λ ns. IsNumbered (length (trees_at is ns)) (node_of c.in_ok-derivation.derivation)) (sym c.as_slice.ensures.value)
    (numbered (program_of g.program.now) (rel_of g.sets.now) (trees_assign (own_trees g)) (trees_at is c.concluded.new.nodes.items) (StmtP (method_of c.args.method.now).body) (node_of c.in_ok-derivation.derivation)
    c.in_ok-derivation.ensures.concludes)

pub returns-clause-line : goal.returns-clause-line
returns-clause-line c =
    let g = c.args.basis.now in
    let is = c.concluded.new.table in
    let within : c.args.m < length (own_trees g) = subst (λ n. c.args.m < n) (sym (length-map g.own.now cond_of)) c.requires.place in
    let tree = c.in_ok-derivation.ensures.grows.same c.in_ok-own.own.0 c.in_ok-own.ensures.known ∙ c.in_ok-own.ensures.tree ∙ ap cond_of (sym c.index-basis-m.is) in
    line_made (program_of g.program.now) (rel_of g.sets.now) (own_trees g) c.args.m (method_of c.args.method.now) (trees_at is c.concluded.new.nodes.items) (pool_table c.args.pool.now) (pool_table c.number_of.new.self) (pool_table c.moved.new.pool)
    c.args.m c.in_ok-number.number (cond_of c.index-basis-m.result) (node_of c.in_ok-derivation.derivation) (node_of c.in_ok-body.body) refl
    (tree_there g.own.now c.args.m c.index-basis-m.result within c.index-basis-m.is)
    (subst (λ t. IsNumberIn (pool_table c.args.pool.now) t c.in_ok-number.number (pool_table c.number_of.new.self)) tree c.in_ok-number.ensures.number)
    c.in_ok-derivation.ensures.concludes
    (subst (λ ns. IsMoved (trees_at is ns) (pool_table c.number_of.new.self) (pool_table c.moved.new.pool) (node_of c.in_ok-derivation.derivation) (node_of c.in_ok-body.body)) c.as_slice.ensures.value c.in_ok-body.ensures.moved)
