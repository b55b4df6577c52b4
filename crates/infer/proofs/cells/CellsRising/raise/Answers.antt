use Rattle.std.proofs.Common.{◌≡◌, not, slice_get, sym, ap, ◌∙◌, arith}
use Rattle.core_program.specs.Views.{program_of}
use Rattle.rules.specs.Near.{rel_of}
use Rattle.rules.specs.Search.{row_at as overs_at}
use Rattle.infer.specs.Tables.{table_or_empty, table_assignment}
use Rattle.infer.specs.Cells.{demands_at}
use Rattle.infer.proofs.RiseLemmas.{test_by, numbers_met, rises_now}
use Rattle.infer.proofs.cells.CellsRising.raise.Goals as goal

pub returns-then-are_below-clause-exact : goal.returns-then-are_below-clause-exact
returns-then-are_below-clause-exact g c =
    let s = c.args.self.now in
    let P = program_of s.judged.0 in
    let rel = rel_of s.judged.1 in
    let overs = overs_at s.over in
    let ds : c.as_slice-row.result.now ≡ demands_at P overs rel (table_assignment rel s.tables.items) c.args.cell =
    c.as_slice-row.ensures.value ∙ c.in_ok-demands.ensures.row ∙ ap (λ ts. demands_at P overs rel (table_assignment rel ts) c.args.cell) c.as_slice-tables.ensures.value in
    let own : c.table_at-own.result.now ≡ table_or_empty (slice_get s.tables.items c.args.cell) =
    c.table_at-own.ensures ∙ ap (λ ts. table_or_empty (slice_get ts c.args.cell)) c.as_slice-tables.ensures.value in
    let met = test_by P overs rel s.tables.items c.args.cell c.as_slice-row.result.now c.table_at-own.result.now ds own s.sound.each c.are_below.result c.are_below.ensures in
    ap not (sym c.if-are_below.true ∙ met ∙ numbers_met P overs rel s.tables.items c.args.cell)

pub overflow_sub-self : goal.overflow_sub-self
overflow_sub-self g c =
    let s = c.args.self.now in
    let P = program_of s.judged.0 in
    let rel = rel_of s.judged.1 in
    let overs = overs_at s.over in
    let ds : c.as_slice-row.result.now ≡ demands_at P overs rel (table_assignment rel s.tables.items) c.args.cell =
    c.as_slice-row.ensures.value ∙ c.in_ok-demands.ensures.row ∙ ap (λ ts. demands_at P overs rel (table_assignment rel ts) c.args.cell) c.as_slice-tables.ensures.value in
    let own : c.table_at-own.result.now ≡ table_or_empty (slice_get s.tables.items c.args.cell) =
    c.table_at-own.ensures ∙ ap (λ ts. table_or_empty (slice_get ts c.args.cell)) c.as_slice-tables.ensures.value in
    let rise = rises_now P overs rel s.tables.items c.args.cell c.as_slice-row.result.now c.table_at-own.result.now ds own c.in_ok-risen.risen.items s.room s.callers.items s.sound c.requires
    (sym c.are_below.ensures ∙ c.if-are_below.false) c.in_ok-risen.ensures in
    rise.some

pub invariant_of-self-2 : goal.invariant_of-self-2
invariant_of-self-2 g c =
    let s = c.args.self.now in
    let P = program_of s.judged.0 in
    let rel = rel_of s.judged.1 in
    let overs = overs_at s.over in
    let ds : c.as_slice-row.result.now ≡ demands_at P overs rel (table_assignment rel s.tables.items) c.args.cell =
    c.as_slice-row.ensures.value ∙ c.in_ok-demands.ensures.row ∙ ap (λ ts. demands_at P overs rel (table_assignment rel ts) c.args.cell) c.as_slice-tables.ensures.value in
    let own : c.table_at-own.result.now ≡ table_or_empty (slice_get s.tables.items c.args.cell) =
    c.table_at-own.ensures ∙ ap (λ ts. table_or_empty (slice_get ts c.args.cell)) c.as_slice-tables.ensures.value in
    let rise = rises_now P overs rel s.tables.items c.args.cell c.as_slice-row.result.now c.table_at-own.result.now ds own c.in_ok-risen.risen.items s.room s.callers.items s.sound c.requires
    (sym c.are_below.ensures ∙ c.if-are_below.false) c.in_ok-risen.ensures in
    record { sound = rise.cells }

pub returns-clause-exact : goal.returns-clause-exact
returns-clause-exact g c =
    let s = c.args.self.now in
    let P = program_of s.judged.0 in
    let rel = rel_of s.judged.1 in
    let overs = overs_at s.over in
    let ds : c.as_slice-row.result.now ≡ demands_at P overs rel (table_assignment rel s.tables.items) c.args.cell =
    c.as_slice-row.ensures.value ∙ c.in_ok-demands.ensures.row ∙ ap (λ ts. demands_at P overs rel (table_assignment rel ts) c.args.cell) c.as_slice-tables.ensures.value in
    let own : c.table_at-own.result.now ≡ table_or_empty (slice_get s.tables.items c.args.cell) =
    c.table_at-own.ensures ∙ ap (λ ts. table_or_empty (slice_get ts c.args.cell)) c.as_slice-tables.ensures.value in
    let met = test_by P overs rel s.tables.items c.args.cell c.as_slice-row.result.now c.table_at-own.result.now ds own s.sound.each c.are_below.result c.are_below.ensures in
    ap not (sym c.if-are_below.false ∙ met ∙ numbers_met P overs rel s.tables.items c.args.cell)

pub returns-clause-rises : goal.returns-clause-rises
returns-clause-rises g c =
    let s = c.args.self.now in
    let P = program_of s.judged.0 in
    let rel = rel_of s.judged.1 in
    let overs = overs_at s.over in
    let ds : c.as_slice-row.result.now ≡ demands_at P overs rel (table_assignment rel s.tables.items) c.args.cell =
    c.as_slice-row.ensures.value ∙ c.in_ok-demands.ensures.row ∙ ap (λ ts. demands_at P overs rel (table_assignment rel ts) c.args.cell) c.as_slice-tables.ensures.value in
    let own : c.table_at-own.result.now ≡ table_or_empty (slice_get s.tables.items c.args.cell) =
    c.table_at-own.ensures ∙ ap (λ ts. table_or_empty (slice_get ts c.args.cell)) c.as_slice-tables.ensures.value in
    let rise = rises_now P overs rel s.tables.items c.args.cell c.as_slice-row.result.now c.table_at-own.result.now ds own c.in_ok-risen.risen.items s.room s.callers.items s.sound c.requires
    (sym c.are_below.ensures ∙ c.if-are_below.false) c.in_ok-risen.ensures in
    λ raised. rise.rises

pub returns-clause-under : goal.returns-clause-under
returns-clause-under g c =
    let s = c.args.self.now in
    let P = program_of s.judged.0 in
    let rel = rel_of s.judged.1 in
    let overs = overs_at s.over in
    let ds : c.as_slice-row.result.now ≡ demands_at P overs rel (table_assignment rel s.tables.items) c.args.cell =
    c.as_slice-row.ensures.value ∙ c.in_ok-demands.ensures.row ∙ ap (λ ts. demands_at P overs rel (table_assignment rel ts) c.args.cell) c.as_slice-tables.ensures.value in
    let own : c.table_at-own.result.now ≡ table_or_empty (slice_get s.tables.items c.args.cell) =
    c.table_at-own.ensures ∙ ap (λ ts. table_or_empty (slice_get ts c.args.cell)) c.as_slice-tables.ensures.value in
    let rise = rises_now P overs rel s.tables.items c.args.cell c.as_slice-row.result.now c.table_at-own.result.now ds own c.in_ok-risen.risen.items s.room s.callers.items s.sound c.requires
    (sym c.are_below.ensures ∙ c.if-are_below.false) c.in_ok-risen.ensures in
    λ raised x closed up. rise.under x closed up

pub returns-clause-room_falls : goal.returns-clause-room_falls
returns-clause-room_falls g c =
    let s = c.args.self.now in
    let P = program_of s.judged.0 in
    let rel = rel_of s.judged.1 in
    let overs = overs_at s.over in
    let ds : c.as_slice-row.result.now ≡ demands_at P overs rel (table_assignment rel s.tables.items) c.args.cell =
    c.as_slice-row.ensures.value ∙ c.in_ok-demands.ensures.row ∙ ap (λ ts. demands_at P overs rel (table_assignment rel ts) c.args.cell) c.as_slice-tables.ensures.value in
    let own : c.table_at-own.result.now ≡ table_or_empty (slice_get s.tables.items c.args.cell) =
    c.table_at-own.ensures ∙ ap (λ ts. table_or_empty (slice_get ts c.args.cell)) c.as_slice-tables.ensures.value in
    let rise = rises_now P overs rel s.tables.items c.args.cell c.as_slice-row.result.now c.table_at-own.result.now ds own c.in_ok-risen.risen.items s.room s.callers.items s.sound c.requires
    (sym c.are_below.ensures ∙ c.if-are_below.false) c.in_ok-risen.ensures in
    λ raised. let some = rise.some in omega arith

pub returns-clause-others : goal.returns-clause-others
returns-clause-others g c =
    let s = c.args.self.now in
    let P = program_of s.judged.0 in
    let rel = rel_of s.judged.1 in
    let overs = overs_at s.over in
    let ds : c.as_slice-row.result.now ≡ demands_at P overs rel (table_assignment rel s.tables.items) c.args.cell =
    c.as_slice-row.ensures.value ∙ c.in_ok-demands.ensures.row ∙ ap (λ ts. demands_at P overs rel (table_assignment rel ts) c.args.cell) c.as_slice-tables.ensures.value in
    let own : c.table_at-own.result.now ≡ table_or_empty (slice_get s.tables.items c.args.cell) =
    c.table_at-own.ensures ∙ ap (λ ts. table_or_empty (slice_get ts c.args.cell)) c.as_slice-tables.ensures.value in
    let rise = rises_now P overs rel s.tables.items c.args.cell c.as_slice-row.result.now c.table_at-own.result.now ds own c.in_ok-risen.risen.items s.room s.callers.items s.sound c.requires
    (sym c.are_below.ensures ∙ c.if-are_below.false) c.in_ok-risen.ensures in
    λ raised other quiet before. rise.others other quiet before
