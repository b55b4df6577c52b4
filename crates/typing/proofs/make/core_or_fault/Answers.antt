use Rattle.std.proofs.Common.{Some, None, inr, map, ap, sym, ◌∙◌}
use Rattle.classes.specs.Views.{table_data}
use Rattle.core_program.specs.Views as core
use Rattle.syntax.specs.Views.{class_of, program_tree}
use Rattle.typing.specs.Noted.{type_noted}
use Rattle.typing.specs.Programs.{type_faults_from}
use Rattle.typing.specs.BodyViews.{fields_data, methods_data}
use Rattle.typing.proofs.Answering.{found_in, told, made, all_are_there, all_owned}
use Rattle.typing.proofs.TableEntries.{entries_as}
use Rattle.typing.proofs.TreeLines.{lined_as, many_as}
use Rattle.typing.proofs.make.core_or_fault.Goals as goal

pub returns-in-Some : goal.returns-in-Some
returns-in-Some c =
    let tree = program_tree c.args.program.now in
    let classes = map class_of c.as_slice-classes.result.now in
    let t = table_data c.args.table.now in
    inr (told tree c.in-Some.fault (fields_data c.in_ok-parts.parts) (methods_data c.in_ok-parts.parts)
    (found_in tree classes t (Some c.in-Some.fault) (fields_data c.in_ok-parts.parts) (methods_data c.in_ok-parts.parts)
    (ap (map class_of) c.as_slice-classes.ensures.value) c.requires.table
    (sym c.in-Some.is ∙ c.first.view_is ∙ c.in_ok-parts.ensures.fault ∙ ap (λ z. type_noted z (type_faults_from t 0 classes)) c.new-first.ensures)
    c.in_ok-parts.ensures.fields c.in_ok-parts.ensures.methods))

pub returns : goal.returns
returns c =
    let tree = program_tree c.args.program.now in
    let classes = map class_of c.as_slice-classes.result.now in
    let t = table_data c.args.table.now in
    made tree classes t (fields_data c.in_ok-parts.parts) (methods_data c.in_ok-parts.parts) (core.program_of c.in_ok-assembled-in-None.field-0)
    (ap (map class_of) c.as_slice-classes.ensures.value) c.requires.table
    (found_in tree classes t None (fields_data c.in_ok-parts.parts) (methods_data c.in_ok-parts.parts)
    (ap (map class_of) c.as_slice-classes.ensures.value) c.requires.table
    (sym c.in-None.is ∙ c.first.view_is ∙ c.in_ok-parts.ensures.fault ∙ ap (λ z. type_noted z (type_faults_from t 0 classes)) c.new-first.ensures)
    c.in_ok-parts.ensures.fields c.in_ok-parts.ensures.methods)
    c.in_ok-assembled-in-None.ensures

pub assembled-requires-clause-whole : goal.assembled-requires-clause-whole
assembled-requires-clause-whole c =
    let tree = program_tree c.args.program.now in
    let classes = map class_of c.as_slice-classes.result.now in
    let t = table_data c.args.table.now in
    all_are_there tree classes t (fields_data c.in_ok-parts.parts) (methods_data c.in_ok-parts.parts)
    (ap (map class_of) c.as_slice-classes.ensures.value) c.requires.table
    (found_in tree classes t None (fields_data c.in_ok-parts.parts) (methods_data c.in_ok-parts.parts)
    (ap (map class_of) c.as_slice-classes.ensures.value) c.requires.table
    (sym c.in-None.is ∙ c.first.view_is ∙ c.in_ok-parts.ensures.fault ∙ ap (λ z. type_noted z (type_faults_from t 0 classes)) c.new-first.ensures)
    c.in_ok-parts.ensures.fields c.in_ok-parts.ensures.methods)

pub assembled-requires-clause-owned : goal.assembled-requires-clause-owned
assembled-requires-clause-owned c =
    let tree = program_tree c.args.program.now in
    let classes = map class_of c.as_slice-classes.result.now in
    let t = table_data c.args.table.now in
    all_owned tree classes t (fields_data c.in_ok-parts.parts) (methods_data c.in_ok-parts.parts)
    (ap (map class_of) c.as_slice-classes.ensures.value) c.requires.table
    (found_in tree classes t None (fields_data c.in_ok-parts.parts) (methods_data c.in_ok-parts.parts)
    (ap (map class_of) c.as_slice-classes.ensures.value) c.requires.table
    (sym c.in-None.is ∙ c.first.view_is ∙ c.in_ok-parts.ensures.fault ∙ ap (λ z. type_noted z (type_faults_from t 0 classes)) c.new-first.ensures)
    c.in_ok-parts.ensures.fields c.in_ok-parts.ensures.methods)

pub from_above-requires : goal.from_above-requires
from_above-requires c =
    record { lined = lined_as (program_tree c.args.program.now) (table_data c.args.table.now) c.requires.no_class_faults c.requires.table }

pub lineages-requires-clause-lined : goal.lineages-requires-clause-lined
lineages-requires-clause-lined c = lined_as (program_tree c.args.program.now) (table_data c.args.table.now) c.requires.no_class_faults c.requires.table

pub parts_of-requires-clause-many : goal.parts_of-requires-clause-many
parts_of-requires-clause-many c =
    many_as (program_tree c.args.program.now) (table_data c.args.table.now) class_of c.as_slice-classes.result.now c.requires.table (ap (map class_of) c.as_slice-classes.ensures.value)

pub assembled-requires-clause-lined : goal.assembled-requires-clause-lined
assembled-requires-clause-lined c = lined_as (program_tree c.args.program.now) (table_data c.args.table.now) c.requires.no_class_faults c.requires.table

pub parts_of-requires-clause-entries : goal.parts_of-requires-clause-entries
parts_of-requires-clause-entries c =
    entries_as (program_tree c.args.program.now) (table_data c.args.table.now) (map class_of c.as_slice-classes.result.now) c.requires.table (ap (map class_of) c.as_slice-classes.ensures.value)
