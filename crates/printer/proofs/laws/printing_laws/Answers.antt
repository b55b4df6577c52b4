use Rattle.std.proofs.Common.{[], false, refl}
use Rattle.printer.specs.declared.page.NextPlace.TheVariants as P
use Rattle.printer.specs.Printing.{program_lexemes}
use Rattle.printer.proofs.Cutting.{cut}
use Rattle.printer.proofs.Parting.{program_parted}
use Rattle.printer.proofs.ReadingBack.{reads_back}
use Rattle.printer.proofs.laws.printing_laws.Goals as goal

pub returns-clause-cut : goal.returns-clause-cut
returns-clause-cut c = λ t k. cut (program_lexemes t) P.LineStart 0 0 false [] refl k (program_parted t)

pub returns-clause-reads_back : goal.returns-clause-reads_back
returns-clause-reads_back c = reads_back
