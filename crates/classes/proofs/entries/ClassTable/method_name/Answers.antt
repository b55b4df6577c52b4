use Rattle.classes.proofs.Titles.{method_found}
use Rattle.classes.proofs.entries.ClassTable.method_name.Goals as goal

pub returns-clause-found : goal.returns-clause-found
returns-clause-found c = method_found (λ n. (n.0.now, n.1.now)) c.args.self.now c.args.id c.title.result c.title.ensures
