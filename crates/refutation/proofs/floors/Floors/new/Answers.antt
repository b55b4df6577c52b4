-- Nothing is said.
use Rattle.rules.specs.Near.{rel_of}
use Rattle.refutation.proofs.TableLemmas.{says_none}
use Rattle.refutation.proofs.floors.Floors.new.Goals as goal

pub returns-clause-says : goal.returns-clause-says
returns-clause-says c = says_none (rel_of c.args.sets.now) c.in_ok-tables.tables.items c.in_ok-tables.ensures.none
