-- What was found of a name.
use Rattle.std.proofs.Common.{sym, subst}
use Rattle.classes.specs.Views.{table_data}
use Rattle.level_check.specs.declared.lines.Flaw.TheVariants.{Form}
use Rattle.level_check.specs.Faults.{Stops, no_name, unknown, twice}
use Rattle.level_check.proofs.Keeping.{stood, is_new}
use Rattle.level_check.proofs.Parts.{sound_name}
use Rattle.level_check.proofs.lines.head.Goals as goal

pub returns-in-Err : goal.returns-in-Err
returns-in-Err c = λ before keeps.
    let t = table_data c.args.table.now in
    subst (λ k. Stops t before c.args.text.now k c.form.result.rest.now) (sym c.form.ensures.flaw)
    (subst (Stops t before c.args.text.now Form) (sym c.form.ensures.rest) (no_name c.in-Err.stop.kind c.in-Err.stop.rest.now c.in-Err.ensures))

pub class_of-requires : goal.class_of-requires
class_of-requires c = (sound_name c.args.text.now c.in-Ok.found.0.now c.in-Ok.found.1.now c.in-Ok.ensures).word

pub returns-in_default : goal.returns-in_default
returns-in_default c = λ before keeps. unknown c.in-Ok.found.0.now c.in-Ok.found.1.now c.in-Ok.ensures (sym c.in_default.ensures)

pub returns-then-level_of-gt0 : goal.returns-then-level_of-gt0
returns-then-level_of-gt0 c = λ before keeps.
    twice c.in-Ok.found.0.now c.in-Ok.found.1.now c.in-Some.class c.in-Ok.ensures (sym c.in-Some.ensures)
    (stood (table_data c.args.table.now) before c.args.levels.now c.in-Ok.found.0.now c.in-Some.class c.level_of.result keeps (sym c.in-Some.ensures) c.level_of.ensures c.if-level_of-gt0.true)

pub returns : goal.returns
returns c = λ before keeps. (
  c.in-Ok.found.0.now,
  c.in-Ok.ensures,
  sym c.in-Some.ensures,
  is_new (table_data c.args.table.now) before c.args.levels.now c.in-Ok.found.0.now c.in-Some.class c.level_of.result keeps (sym c.in-Some.ensures) c.level_of.ensures c.if-level_of-gt0.false,
)
