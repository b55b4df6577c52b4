-- The table tells the body at each set at which the method is asked.
use Rattle.std.proofs.Common.{rules, ◌≡◌, true, subst}
use Rattle.core_program.specs.Views.{program_of, method_of}
use Rattle.rules.specs.Near.{rel_of}
use Rattle.refutation.specs.Bodies.{TellsBetween}
use Rattle.refutation.specs.Tables.{said_by}
use Rattle.refutation.specs.Overs.{below_each}
use Rattle.rules.specs.Search.{row_at}
use Rattle.refutation.proofs.BodyTables.{kept_falls, known_table}
use Rattle.refutation.proofs.bodies.bodies_of.Goals as goal

pub body_table-requires : goal.body_table-requires
body_table-requires c =
    let floors = c.args.said.now.floors in
    record { falls = kept_falls (program_of c.args.judged.now.program.now) c.args.judged.now.sets.now floors.sets.now floors.tables.items c.args.said.now.lines.items c.requires.agrees c.args.id }

pub returns : goal.returns
returns c =
    let floors = c.args.said.now.floors in
    let stays : c.args.mark.stays ≡ true = search rules in
    let said : c.are_below-is_said.result ≡ below_each c.in_ok-table.table (row_at floors.tables.items c.args.id) = search rules in
    let tells = subst (λ required. TellsBetween (program_of c.args.judged.now.program.now) (rel_of c.args.judged.now.sets.now) (said_by (rel_of floors.sets.now) floors.tables.items) c.args.id (rel_of floors.sets.now c.args.id) required c.in_ok-table.table) c.as_slice.ensures.value c.in_ok-table.ensures in
    known_table (program_of c.args.judged.now.program.now) c.args.judged.now.sets.now floors.sets.now floors.tables.items c.args.said.now.lines.items c.requires.agrees c.args.id
    (method_of c.args.method.now).requires_ c.in_ok-table.table c.are_below-is_said.result (c.requires.stays stays) tells said
