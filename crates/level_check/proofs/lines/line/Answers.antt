-- A line that was read, and one whose level wasn't.
use Rattle.std.proofs.Common.{sym, subst, arith}
use Rattle.classes.specs.Views.{table_data}
use Rattle.level_check.specs.declared.lines.Flaw.TheVariants.{Form}
use Rattle.level_check.specs.Faults.{Stops, no_level}
use Rattle.level_check.specs.Kept.{KeepsLevels}
use Rattle.level_check.proofs.Keeping.{line_read}
use Rattle.level_check.proofs.lines.line.Goals as goal

pub returns-in-Err-level : goal.returns-in-Err-level
returns-in-Err-level c = λ before keeps.
    let t = table_data c.args.table.now in
    let h = c.in-Ok.ensures before (subst (KeepsLevels t before) (sym c.as_slice.ensures.value) keeps) in
    subst (λ k. Stops t before c.args.text.now k c.form.result.rest.now) (sym c.form.ensures.flaw)
    (subst (Stops t before c.args.text.now Form) (sym c.form.ensures.rest) (no_level h.0 c.in-Ok.found.1.now c.in-Err-level.stop.kind c.in-Err-level.stop.rest.now h.1 h.3 c.in-Err-level.ensures))

pub returns : goal.returns
returns c = λ before keeps.
    let t = table_data c.args.table.now in
    let h = c.in-Ok.ensures before (subst (KeepsLevels t before) (sym c.as_slice.ensures.value) keeps) in
    line_read t before c.args.levels.now.items c.args.text.now h.0 c.in-Ok.found.1.now c.in-Ok.found.0 c.class.inside.0 c.in-Ok-level.found.0 c.in-Ok-level.found.1.now keeps h.1 h.2 h.3 c.in-Ok-level.ensures
    (omega (arith, c.class.view_is))
