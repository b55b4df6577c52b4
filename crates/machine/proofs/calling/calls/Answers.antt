use Rattle.std.proofs.Common.{◌≡◌, length, reverse, refl, sym, ap, subst, ◌∙◌, arith}
use Rattle.std.specs.Prelude.{map, slice_get}
use Rattle.std.specs.Option.{option_map}
use Rattle.std.proofs.lemmas.Option.{slice_get-map, slice_get_read, slice_get_past}
use Rattle.core_program.specs.Views.{method_of}
use Rattle.state.specs.Values.{address_of, top, dropped}
use Rattle.machine.specs.CodeMachine.{call_deed, calls_on}
use Rattle.machine.specs.Seen.{program_in, shared_in, entry_in, room_in}
use Rattle.machine.proofs.calling.calls.Goals as goal

pub returns-in-Some : goal.returns-in-Some
returns-in-Some c =
    let found = c.in-Some.found.now in
    let lent = c.deref.result.now in
    let s = c.args.seen.now in
    let operands = reverse c.args.operands.now in
    let raw = slice_get-map method_of lent c.method.inside.0 ∙ ap (option_map method_of) (slice_get_read lent (length lent) c.method.inside.0 found refl c.in-Some.ensures.lookup.3.0 c.in-Some.ensures.lookup.1) in
    let run = ap (λ p. slice_get (map method_of p.methods.items) c.args.method) (sym c.program.ensures) in
    let there = run ∙ sym (λ j. slice_get (map method_of (c.deref.ensures.value j)) (c.method.view_is j)) ∙ raw in
    let many : length found.params.items ≡ c.len-arguments.result = omega (arith, c.len-arguments.ensures) in
    subst (λ o. c.calls_on.result ≡ call_deed (program_in s) (shared_in s) (entry_in s) (room_in s) c.args.depth c.args.next operands c.args.method o) (sym there)
    (c.calls_on.ensures
    ∙ ap (λ n. calls_on (program_in s) (shared_in s) (entry_in s) (room_in s) c.args.depth n c.args.next c.args.method c.address_of-receiver.result) (sym many)
    ∙ ap (calls_on (program_in s) (shared_in s) (entry_in s) (room_in s) c.args.depth (length found.params.items) c.args.next c.args.method)
    (c.address_of-receiver.ensures ∙ ap address_of (c.operand.ensures ∙ ap (λ n. top (dropped n operands)) (sym many))))

pub returns-in-None : goal.returns-in-None
returns-in-None c =
    let s = c.args.seen.now in
    let lent = c.deref.result.now in
    let raw = slice_get-map method_of lent c.method.inside.0 ∙ ap (option_map method_of) (slice_get_past lent c.method.inside.0 c.in-None.ensures.lookup.3) in
    let run = ap (λ p. slice_get (map method_of p.methods.items) c.args.method) (sym c.program.ensures) in
    let gone = run ∙ sym (λ j. slice_get (map method_of (c.deref.ensures.value j)) (c.method.view_is j)) ∙ raw in
    ap (call_deed (program_in s) (shared_in s) (entry_in s) (room_in s) c.args.depth c.args.next (reverse c.args.operands.now) c.args.method) (sym gone)
