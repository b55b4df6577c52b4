use Rattle.std.proofs.Common.{◌<◌, arith, length, map, refl, sym, ap, ◌∙◌}
use Rattle.std.specs.Prelude.{slice_get}
use Rattle.std.specs.Option.{option_map}
use Rattle.std.proofs.lemmas.Option.{slice_get-map, slice_get_read}
use Rattle.core_program.specs.Views.{method_of}
use Rattle.machine.proofs.Threads.{first_set}
use Rattle.machine.proofs.RoomLemmas.{set_roomy, one_roomy}
use Rattle.machine.proofs.turn.enters.Goals as goal

pub returns-in-Some-get_mut-clause-ok : goal.returns-in-Some-get_mut-clause-ok
returns-in-Some-get_mut-clause-ok c =
    let found = c.in-Some.found.now in
    let lent = c.deref.result.now in
    let raw = slice_get-map method_of lent c.method.inside.0 ∙ ap (option_map method_of) (slice_get_read lent (length lent) c.method.inside.0 found refl c.in-Some.ensures.lookup.3.0 c.in-Some.ensures.lookup.1) in
    let there = sym (λ j. slice_get (map method_of (c.deref.ensures.value j)) (c.method.view_is j)) ∙ raw in
    first_set c.enters_first.result c.args.threads.now.items c.args.thread c.enters_first.new.cell (map method_of c.args.program.now.methods.items) c.args.entered.method (method_of found) _ _ c.args.entered.entry there c.enters_first.ensures.ok

pub returns-in-Some-get_mut-clause-roomy : goal.returns-in-Some-get_mut-clause-roomy
returns-in-Some-get_mut-clause-roomy c rooms wants all =
    let ts = c.args.threads.now.items in
    let below : c.args.thread < length ts = omega (arith, c.in-Some-get_mut.ensures.variant.0 refl) in
    set_roomy rooms ts c.args.thread c.enters_first.new.cell all (c.enters_first.ensures.roomy rooms wants
    (one_roomy rooms ts c.args.thread c.in-Some-get_mut.cell.now (slice_get_read ts (length ts) c.args.thread c.in-Some-get_mut.cell.now refl below c.in-Some-get_mut.ensures.value) all))
