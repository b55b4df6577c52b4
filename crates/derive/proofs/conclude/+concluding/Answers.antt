-- One part more, and the node over them.
use Rattle.std.proofs.Common.{append-nil, ◌≡◌, [], ◌∷◌, ◌++◌, length, arith, sym, ap, subst, ◌∙◌}
use Rattle.std.proofs.lemmas.List.{length-map}
use Rattle.core_program.specs.Views.{program_of}
use Rattle.rules.specs.Near.{rel_of}
use Rattle.conditions.specs.Shown.{AreAmongFirst, node_tree, trees_at}
use Rattle.conditions.proofs.Tables.{grows_itself, grows_chain}
use Rattle.books.specs.Memory.{nodes_at}
use Rattle.book_check.specs.Conclusions.{conclusions, table_value}
use Rattle.effects.specs.Rules.{rule_of}
use Rattle.effects.specs.Bodies.{list_of, part_of}
use Rattle.derive.specs.Concluded.{ConcludesOn, ConcludeAllOn}
use Rattle.derive.specs.Bases.{own_trees, trees_assign}
use Rattle.derive.proofs.Rows.{pushed_more, begins_itself, begins_chain, begins_one}
use Rattle.effects.proofs.Sizes.{size_parts, parts_smaller}
use Rattle.derive.proofs.Tables.{there_on, there_pushed, trees_pushed}
use Rattle.derive.proofs.ConcludeLemmas.{all_more, all_none, concluded_node}
use Rattle.derive.proofs.conclude.+concluding.Goals as goal

pub all_concluded-premises-init : goal.all_concluded-premises-init
all_concluded-premises-init t c = record {
  smaller = omega arith;
  there = c.requires.there;
  grows = grows_itself c.args.table.now c.requires.table;
  more = begins_itself (trees_at c.args.table.now c.args.nodes.now.items);
  goes = λ later table begins all. subst (λ ps. ConcludeAllOn c.args.basis.now table (list_of c.args.parts) (nodes_at (ps ++ later))) (sym c.new-premises.ensures.items) all;
}

pub all_concluded-premises-smaller : goal.all_concluded-premises-smaller
all_concluded-premises-smaller t c = omega (arith, ap size_parts c.in-Some.ensures.some, parts_smaller (part_of c.in-Some.part))

pub all_concluded-premises-preserved : goal.all_concluded-premises-preserved
all_concluded-premises-preserved t c =
    let i = c.premises.invariant in
    let k = c.in_ok-premise.ensures in
    let g = c.args.basis.now in
    let before = trees_at c.premises.table c.premises.nodes.items in
    let after = trees_at c.concluded.new.table c.concluded.new.nodes.items in
    record {
      smaller = omega (arith, ap size_parts c.in-Some.ensures.some, i.smaller);
      there = k.there;
      grows = grows_chain c.args.table.now c.premises.table c.concluded.new.table i.grows k.grows;
      more = begins_chain (trees_at c.args.table.now c.args.nodes.now.items) before after i.more k.more;
      goes = λ later table begins all.
          subst (λ ds. ConcludeAllOn g table (list_of c.args.parts) (nodes_at ds)) (sym (pushed_more c.premises.premises.items c.push.new.self.items c.in_ok-premise.premise later c.in_ok-push.ensures.items))
          (i.goes (c.in_ok-premise.premise ∷ later) table (begins_chain before after table k.more begins)
          (all_more (program_of g.program.now) (rel_of g.sets.now) (trees_assign (own_trees g)) after table (list_of c.premises.rest) (part_of c.in-Some.part) (list_of c.in-Some.others) c.in_ok-premise.premise later
          c.in-Some.ensures.some begins k.concludes all));
    }

pub all_concluded-returns-clause-conclude : goal.all_concluded-returns-clause-conclude
all_concluded-returns-clause-conclude t c =
    let g = c.args.basis.now in
    let table = trees_at c.premises.table c.premises.nodes.items in
    subst (λ ds. ConcludeAllOn g table (list_of c.args.parts) (nodes_at ds)) (append-nil c.premises.premises.items)
    (c.premises.invariant.goes [] table (begins_itself table) (all_none (program_of g.program.now) (rel_of g.sets.now) (trees_assign (own_trees g)) table (list_of c.premises.rest) c.in_default.ensures.none))

pub concluded-all_concluded-requires : goal.concluded-all_concluded-requires
concluded-all_concluded-requires t c = (omega (arith, c.decreases, parts_smaller (part_of c.args.part), ap size_parts c.inner_parts.ensures), (c.requires.there, c.requires.table))

pub concluded-returns-clause-grows : goal.concluded-returns-clause-grows
concluded-returns-clause-grows t c = grows_chain c.args.table.now c.all_concluded.new.table c.value.new.table c.in_ok-premises.ensures.grows c.in_ok-node.ensures.grows

pub concluded-returns-clause-there : goal.concluded-returns-clause-there
concluded-returns-clause-there t c =
    let ns = c.all_concluded.new.nodes.items in
    subst (AreAmongFirst (length c.value.new.table)) (sym c.in_ok-push.ensures.items)
    (there_pushed (length c.value.new.table) ns c.in_ok-node.node (there_on c.all_concluded.new.table c.value.new.table ns c.in_ok-node.ensures.grows c.in_ok-premises.ensures.there) c.in_ok-node.ensures.known)

pub concluded-returns-clause-more : goal.concluded-returns-clause-more
concluded-returns-clause-more t c =
    let mid = c.all_concluded.new.table in
    let new = c.value.new.table in
    let ns = c.all_concluded.new.nodes.items in
    begins_chain (trees_at c.args.table.now c.args.nodes.now.items) (trees_at mid ns) (trees_at new c.push.new.self.items) c.in_ok-premises.ensures.more
    (begins_one (trees_at mid ns) (trees_at new c.push.new.self.items) (node_tree new c.in_ok-node.node)
    (trees_pushed mid new ns c.push.new.self.items c.in_ok-node.node c.in_ok-node.ensures.grows c.in_ok-premises.ensures.there c.in_ok-push.ensures.items))

pub concluded-returns-clause-concludes : goal.concluded-returns-clause-concludes
concluded-returns-clause-concludes t c =
    let g = c.args.basis.now in
    let mid = c.all_concluded.new.table in
    let new = c.value.new.table in
    let ns = c.all_concluded.new.nodes.items in
    let table = trees_at mid ns in
    let all = trees_at new c.push.new.self.items in
    let longer = trees_pushed mid new ns c.push.new.self.items c.in_ok-node.node c.in_ok-node.ensures.grows c.in_ok-premises.ensures.there c.in_ok-push.ensures.items in
    let last : c.in_ok-number.number ≡ length table = c.in_ok-number.ensures ∙ ap length c.as_slice-3.ensures.value ∙ sym (length-map ns (node_tree mid)) in
    subst (λ d. ConcludesOn g all (part_of c.args.part) d) (sym c.new.ensures)
    (concluded_node (program_of g.program.now) (rel_of g.sets.now) (trees_assign (own_trees g)) table all (part_of c.args.part) c.part_word.result c.in_ok-number.number
    (nodes_at c.in_ok-premises.premises.items) (node_tree new c.in_ok-node.node)
    (subst (λ xs. ConcludeAllOn g table xs (nodes_at c.in_ok-premises.premises.items)) c.inner_parts.ensures c.in_ok-premises.ensures.conclude)
    longer last c.part_word.ensures
    (λ H. c.in_ok-node.ensures.value H ∙ (λ i. rule_of (program_of g.program.now) (rel_of g.sets.now) (trees_assign (own_trees g)) (part_of c.args.part)
    (conclusions (table_value (trees_at mid (c.as_slice.ensures.value i))) (nodes_at (c.as_slice-2.ensures.value i))) H)))
