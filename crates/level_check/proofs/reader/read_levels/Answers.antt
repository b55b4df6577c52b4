use Rattle.classes.specs.Views.{table_data}
use Rattle.core_program.specs.Views.{program_of}
use Rattle.level_check.proofs.Single.{only_levels, only_fault}
use Rattle.level_check.proofs.reader.read_levels.Goals as goal

pub returns-clause-only_levels : goal.returns-clause-only_levels
returns-clause-only_levels c = λ found are. only_levels (table_data c.args.table.now) (program_of c.args.program.now) c.args.bytes.now found c.read.result c.read.ensures are

pub returns-clause-only_fault : goal.returns-clause-only_fault
returns-clause-only_fault c = λ found is. only_fault (table_data c.args.table.now) (program_of c.args.program.now) c.args.bytes.now found c.read.result c.read.ensures is
