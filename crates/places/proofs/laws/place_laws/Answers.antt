use Rattle.places.proofs.InPrograms.{method_made, visited_told}
use Rattle.places.proofs.laws.place_laws.Goals as goal

pub returns-clause-methods : goal.returns-clause-methods
returns-clause-methods c = method_made

pub returns-clause-visited : goal.returns-clause-visited
returns-clause-visited c = visited_told
