-- A table of them all.
use Rattle.std.proofs.Common.{◌≡◌, length, ap, sym, subst, ◌∙◌, Vec, Global}
use Rattle.std.specs.Prelude.{IfSome}
use Rattle.algebra.specs.HeldPaths.{Held, has_path}
use Rattle.core_program.specs.Views.{program_of}
use Rattle.rules.specs.Near.{rel_of}
use Rattle.rules.specs.Rules.{IsSubset}
use Rattle.refutation.specs.Lines.{overriding, joined_over}
use Rattle.refutation.specs.Tables.{said_by, table_entry}
use Rattle.refutation.specs.Overs.{said_in_groups}
use Rattle.refutation.specs.declared.groups.Group.{Group}
use Rattle.refutation.proofs.OverTables.{tells_all}
use Rattle.refutation.proofs.RowLemmas.{whole_written}
use Rattle.refutation.proofs.TableLemmas.{consts_length}
use Rattle.refutation.proofs.overs.over_table.Goals as goal

pub join_groups-whole-requires : goal.join_groups-whole-requires
join_groups-whole-requires c = ap length (c.as_mut_slice.ensures.value ∙ c.in_ok-basics.ensures) ∙ consts_length c.rel-rel.result.now

pub returns-clause-tells : goal.returns-clause-tells
returns-clause-tells c = λ whole.
    let P = program_of c.args.judged.now.program.now in
    let rel = rel_of c.args.floors.now.sets.now in
    let tables = c.args.floors.now.tables.items in
    let basics = c.in_ok-basics.basics in
    let table = c.join_groups-whole.new.table in
    let its = c.rel-rel.result.now in
    let grouped = subst (λ told. IfSome told (λ (gs : Vec Group Global). (H : Held) → IsSubset H (has_path its) → said_in_groups its gs.items H ≡ joined_over rel (said_by rel tables) c.of.result.now H)) c.in-Some.is c.in_ok-groups.ensures in
    let tells = tells_all P rel tables c.args.judged.now.over.now c.args.method c.of.result.now its c.as_mut_slice.result.now table c.as_slice.result.now
    c.requires.over c.of.ensures c.rel-rel.ensures (c.as_mut_slice.ensures.value ∙ c.in_ok-basics.ensures)
    (λ H part. ap (λ gs. said_in_groups its gs H) c.as_slice.ensures.value ∙ grouped H part) (c.join_groups-whole.ensures whole) in
    let size : length table ≡ length basics.items = c.join_groups-whole.auto.table ∙ ap length c.as_mut_slice.ensures.value in
    subst (λ t. (H : Held) → IsSubset H (has_path (rel c.args.method)) → table_entry (rel c.args.method) t H ≡ joined_over rel (said_by rel tables) (overriding P c.args.method) H) (sym (whole_written basics.len table basics.items basics.ok.0 size)) tells
