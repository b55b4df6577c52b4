-- A number behind the basics is a decision's.
use Rattle.std.proofs.Common.{arith}
use Rattle.conditions.proofs.Decisions.{no_basic}
use Rattle.conditions.proofs.rows.Rows.basic_of.Goals as goal

pub returns-in_default-clause-exact : goal.returns-in_default-clause-exact
returns-in_default-clause-exact c = no_basic c.self.inside.decisions.keys c.args.self.now c.args.n c.self.view_is (omega (arith, c.in_default))
