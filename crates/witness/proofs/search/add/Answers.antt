-- Where a node like this is known, where there is no room, and where there is.
use Rattle.std.proofs.Common.{◌≡◌, ℕ, Some, true, false, refl, subst}
use Rattle.std.specs.Prelude.{slice_get}
use Rattle.witness.specs.declared.node.Node.{Node}
use Rattle.witness.specs.Nodes.{IsTwin}
use Rattle.witness.proofs.SearchLemmas.{known_added, full_added, new_added}
use Rattle.witness.proofs.search.add.Goals as goal

pub returns-then-is_known-clause-added : goal.returns-then-is_known-clause-added
returns-then-is_known-clause-added c =
    known_added c.args.search.now c.args.nodes.now.items c.args.node true c.requires.nodes c.requires.node.node
    (subst (λ xs. (k : ℕ) × (n : Node) × (slice_get xs k ≡ Some n) × IsTwin n c.args.node) c.as_slice.ensures.value (c.is_known.ensures c.if-is_known.true))

pub returns-then-len-search-clause-added : goal.returns-then-len-search-clause-added
returns-then-len-search-clause-added c = full_added c.args.search.now c.args.nodes.now.items c.args.node false c.requires.nodes refl

pub returns-clause-added : goal.returns-clause-added
returns-clause-added c = new_added c.args.search.now c.args.nodes.now.items c.push.new.self.items c.args.node true c.in_ok-push.ensures.items c.requires.nodes c.requires.node (c.can_step.ensures c.if-not-can_step.false)
