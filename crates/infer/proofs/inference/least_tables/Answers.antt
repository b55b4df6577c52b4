use Rattle.std.proofs.Common.{◌≡◌, ◌*◌, length, arith, refl}
use Rattle.core_program.specs.Views.{program_of}
use Rattle.rules.proofs.CallerLookups.{same_count}
use Rattle.infer.proofs.StartLemmas.{start_length, start_cells, least_count, least_is}
use Rattle.infer.proofs.inference.least_tables.Goals as goal

pub overflow_mul-room : goal.overflow_mul-room
overflow_mul-room g c =
    let P = program_of c.args.program.now in
    let all = same_count c.methods.result.now P.methods c.methods.ensures in
    let size = start_length P c.args.sets.now c.in_ok-tables.tables.items (length c.methods.result.now) c.in_ok-tables.ensures all in
    let o = c.in_ok-tables.tables.ok in
    omega (arith, c.requires.count, size, o, c.len-count.ensures)

pub invariant_of-cells-2 : goal.invariant_of-cells-2
invariant_of-cells-2 g c =
    let P = program_of c.args.program.now in
    let tables = c.in_ok-tables.tables.items in
    let all = same_count c.methods.result.now P.methods c.methods.ensures in
    let o = c.in_ok-tables.tables.ok in
    let len : c.len-count.result ≡ length tables = omega (arith, o, c.len-count.ensures) in
    record {
      sound = start_cells P c.args.sets.now tables (length c.methods.result.now) c.in_ok-tables.ensures all c.in_ok-over.over c.requires.count c.few.ensures c.len-count.result (1024 * c.len-count.result) c.in_ok-callers.callers.items len refl c.in_ok-callers.ensures.callers;
    }

pub returns-clause-count : goal.returns-clause-count
returns-clause-count g c =
    let P = program_of c.args.program.now in
    let all = same_count c.methods.result.now P.methods c.methods.ensures in
    least_count P c.args.sets.now c.in_ok-tables.tables.items (length c.methods.result.now) c.in_ok-tables.ensures all c.settle-done.new.cells.tables.items c.in_ok-done.ensures.between.above

pub returns-clause-least : goal.returns-clause-least
returns-clause-least g c =
    let P = program_of c.args.program.now in
    let all = same_count c.methods.result.now P.methods c.methods.ensures in
    λ typed. least_is P c.args.sets.now c.in_ok-tables.tables.items (length c.methods.result.now) c.in_ok-tables.ensures all c.in_ok-over.over typed c.requires.relevant c.in_ok-over.ensures c.settle-done.new.cells.tables.items
    c.in_ok-done.ensures.closed c.in_ok-done.ensures.between
