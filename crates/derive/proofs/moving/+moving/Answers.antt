-- One node more, and its premises.
use Rattle.std.proofs.Common.{append-nil, [], ◌∷◌, length, get_or, arith, sym, ap, subst}
use Rattle.conditions.specs.declared.table.Node.{Node as TableNode}
use Rattle.conditions.specs.Shown.{node_tree, trees_at}
use Rattle.books.specs.Books.{IsNumbered, AreNumbered, nodes_high}
use Rattle.books.specs.Derivations.{node}
use Rattle.books.specs.Memory.{node_of, nodes_at}
use Rattle.derive.specs.Moved.{IsMoved, AreMoved}
use Rattle.derive.specs.Pools.{pool_table}
use Rattle.derive.proofs.Rows.{pushed_more}
use Rattle.derive.proofs.MoveLemmas.{moved_node, moved_both, moved_end}
use Rattle.derive.proofs.CalledLemmas.{there_at}
use Rattle.derive.proofs.Tables.{below_length, tree_got}
use Rattle.derive.proofs.moving.+moving.Goals as goal

pub all_moved-premises-preserved : goal.all_moved-premises-preserved
all_moved-premises-preserved t c =
    let from = trees_at c.args.table.now c.args.nodes.now in
    let i = c.premises.invariant in
    let d = c.in_ok-derivation.derivation in
    let first = c.in-Some.first.now in
    let others = c.in-Some.others.now in
    let split = c.in-Some.ensures.cases.0 in
    record {
      pool = c.in_ok-derivation.ensures.pool;
      smaller = omega (arith, ap (λ ds. nodes_high (nodes_at ds)) split, i.smaller);
      numbered = (subst (λ ds. AreNumbered (length from) (nodes_at ds)) split i.numbered).1;
      goes = λ later new rest.
          subst (λ ds. AreMoved from (pool_table c.args.pool.now) new (nodes_at c.args.derivations.now) (nodes_at ds)) (sym (pushed_more c.premises.moved_so_far.items c.push.new.self.items d later c.in_ok-push.ensures.items))
          (i.goes (d ∷ later) new (subst (λ ds. AreMoved from (pool_table c.premises.pool) new (nodes_at ds) (nodes_at (d ∷ later))) (sym split)
          (moved_both from (pool_table c.premises.pool) (pool_table c.moved.new.pool) new (node_of first) (node_of d) (nodes_at others) (nodes_at later) c.in_ok-derivation.ensures.moved rest)));
    }

pub all_moved-returns-clause-moved : goal.all_moved-returns-clause-moved
all_moved-returns-clause-moved t c =
    let from = trees_at c.args.table.now c.args.nodes.now in
    let to = pool_table c.premises.pool in
    subst (λ ds. AreMoved from (pool_table c.args.pool.now) to (nodes_at c.args.derivations.now) (nodes_at ds)) (append-nil c.premises.moved_so_far.items)
    (c.premises.invariant.goes [] to (moved_end from to c.premises.rest.now c.in_default.ensures.cases))

pub moved-number_of-requires-clause-known : goal.moved-number_of-requires-clause-known
moved-number_of-requires-clause-known t c =
    let is = c.args.table.now in
    let ns = c.args.nodes.now in
    let numbered = subst (IsNumbered (length (trees_at is ns))) c.lent-lent.ensures c.requires.numbered in
    there_at (length is) ns c.lent-lent.result.number (record { 0 = 0 }) (below_length is ns c.lent-lent.result.number numbered.0) c.requires.there

pub moved-returns-clause-moved : goal.moved-returns-clause-moved
moved-returns-clause-moved t c =
    let is = c.args.table.now in
    let ns = c.args.nodes.now in
    let from = trees_at is ns in
    let old = pool_table c.args.pool.now in
    let mid = pool_table c.number_of.new.self in
    let new = pool_table c.all_moved.new.pool in
    let l = c.lent-lent.result in
    let d : TableNode = record { 0 = 0 } in
    let numbered = subst (IsNumbered (length from)) c.lent-lent.ensures c.requires.numbered in
    let there = tree_got is ns l.number d (below_length is ns l.number numbered.0) in
    subst (λ d. IsMoved from old new d (node_of c.new.result)) (sym c.lent-lent.ensures)
    (subst (λ e. IsMoved from old new (node l.word l.number (nodes_at l.premises.now)) e) (sym c.new.ensures)
    (moved_node from old mid new l.word l.number c.in_ok-number.number (node_tree is (get_or ns l.number d)) (nodes_at l.premises.now) (nodes_at c.in_ok-premises.premises.items)
    there c.in_ok-number.ensures.number c.in_ok-premises.ensures.moved))
