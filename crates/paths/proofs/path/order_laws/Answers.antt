use Rattle.paths.proofs.PathOrder.{equal_is, is_equal, greater_turned, less_turned, less_chain, prefix_is_less}
use Rattle.paths.proofs.path.order_laws.Goals as goal

pub returns-clause-equal : goal.returns-clause-equal
returns-clause-equal c p q = (equal_is p q, is_equal p q)

pub returns-clause-turned : goal.returns-clause-turned
returns-clause-turned c p q = (greater_turned p q, less_turned q p)

pub returns-clause-chain : goal.returns-clause-chain
returns-clause-chain c = less_chain

pub returns-clause-prefix_first : goal.returns-clause-prefix_first
returns-clause-prefix_first c = prefix_is_less
