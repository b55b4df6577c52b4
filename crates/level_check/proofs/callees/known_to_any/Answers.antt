-- Nothing where nothing is held; else those of the names that are known, in order.
use Rattle.std.proofs.Common.{sym, ap, ◌∙◌}
use Rattle.std.specs.Prelude.{filter}
use Rattle.algebra.specs.HeldPaths.{has_path}
use Rattle.core_program.specs.Locks.{path_of}
use Rattle.core_program.specs.Views.{program_of, expr_of, exprs_from}
use Rattle.rules.specs.Mentions.{paths_of}
use Rattle.rules.specs.Near.{rel_of}
use Rattle.level_check.specs.Told.{origin_in, known_to}
use Rattle.level_check.proofs.Known.{none_known, known_names}
use Rattle.level_check.proofs.callees.known_to_any.Goals as goal

pub returns-then-is_empty : goal.returns-then-is_empty
returns-then-is_empty c =
    let w = c.args.walk.now in
    let P = program_of w.program.now in
    none_known (rel_of w.sets.now) c.args.call.now.callee (origin_in w.origins.now.entries) (path_of P (expr_of c.args.call.now.receiver.now)) (paths_of P (exprs_from c.args.call.now.args.now)) c.args.held.now c.new.result.items
    (sym c.is_empty.ensures ∙ c.if-is_empty.true) c.new.ensures.items

pub returns : goal.returns
returns c =
    let w = c.args.walk.now in
    let P = program_of w.program.now in
    let origin = origin_in w.origins.now.entries in
    known_names (rel_of w.sets.now) c.args.call.now.callee origin (path_of P (expr_of c.args.call.now.receiver.now)) (paths_of P (exprs_from c.args.call.now.args.now)) c.args.held.now c.in_ok-names.names.items c.in_ok-known.known.items
    c.sort_unstable.new.self.items c.in_ok-names.ensures (c.in_ok-known.ensures ∙ ap (filter (known_to c.args.call.now.callee origin (λ k. has_path (rel_of w.sets.now k)))) c.as_slice.ensures.value) c.sort_unstable.ensures.permutation
