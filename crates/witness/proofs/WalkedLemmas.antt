-- A node to which its own steps walk from the start.
use Rattle.std.proofs.Common.{◌≡◌, ℕ, true, sym, subst}
use Rattle.witness.specs.declared.node.Node.{Node}
use Rattle.witness.specs.declared.search.Search.{Search}
use Rattle.witness.specs.Walks.{may_step, allows}
use Rattle.witness.specs.Nodes.{left_at, IsStart, IsAdvanced}
use Rattle.witness.specs.Searching.{WalksTo, IsWalked}
use Rattle.witness.proofs.NodeLemmas.{leads_node, leads_comes, start_node, start_comes}

pub walked_start : (s : Search) (n : Node) → IsStart s.program.now s.code.now s.left.now n → IsWalked s n
walked_start s n start = record {
  node = start_node s n start;
  comes = subst (λ xs. WalksTo s xs n) (sym start.steps) (start_comes s n start);
}

pub walked_on : (s : Search) (n next : Node) (t : ℕ) → IsWalked s n → allows s.counted (left_at n) t ≡ true → may_step n.busy t ≡ true → IsAdvanced n t next true → IsWalked s next
walked_on s n next t walked allowed may to = record {
  node = leads_node s n next t walked.node to.0;
  comes = subst (λ xs. WalksTo s xs next) (sym to.2) (leads_comes s n next t walked.node to.0 n.steps.items walked.comes allowed may);
}
