-- Faults of the lines, and a class that differs.
use Rattle.std.proofs.Common.{inr}
use Rattle.std.proofs.lemmas.Result.{err_from_is_err_and}
use Rattle.classes.specs.Views.{table_data}
use Rattle.core_program.specs.Views.{program_of}
use Rattle.level_check.proofs.Keeping.{told_fault, unequal_at}
use Rattle.level_check.proofs.reader.read.Goals as goal

pub returns-in_err-of : goal.returns-in_err-of
returns-in_err-of c =
    let p = err_from_is_err_and c.from_residual.result c.from_residual.ensures.1 in
    told_fault (table_data c.args.table.now) (program_of c.args.program.now) c.args.bytes.now c.from_residual.result p.0 c.in_err-of.field-0.0 p.1 p.2 c.in_err-of.ensures

pub returns-in-Some : goal.returns-in-Some
returns-in-Some c =
    inr (unequal_at (table_data c.args.table.now) (program_of c.args.program.now) c.args.bytes.now c.in_ok-of.of.items c.as_slice.result.now c.in-Some.class c.in_ok-of.ensures c.as_slice.ensures.value
    c.in-Some.ensures.differs c.in-Some.ensures.earlier)
