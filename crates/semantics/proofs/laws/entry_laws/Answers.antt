use Rattle.semantics.proofs.MoreEntries.{more_entries}
use Rattle.semantics.proofs.laws.entry_laws.Goals as goal

pub returns : goal.returns
returns c = record { more = more_entries }
