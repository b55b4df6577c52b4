-- A call of a method that others override.
use Rattle.std.proofs.Common.{◌≡◌, ◌∷◌, [], ◌++◌, ℕ, sym, subst, ◌∙◌}
use Rattle.std.specs.Prelude.{map, OnOk}
use Rattle.algebra.specs.HeldPaths.{Held, has_path}
use Rattle.core_program.specs.Locks.{path_of}
use Rattle.core_program.specs.Views.{program_of, expr_of, exprs_from}
use Rattle.rules.specs.Effect.{held_under}
use Rattle.rules.specs.Mentions.{paths_of}
use Rattle.rules.specs.Near.{rel_of}
use Rattle.rules.specs.Search.{row_at}
use Rattle.level_check.specs.Told.{origin_in, told_level_of}
use Rattle.level_check.proofs.ToldLemmas.{any_told}
use Rattle.level_check.proofs.expressions.add_call.Goals as goal

pub returns : goal.returns
returns c =
    let w = c.args.walk.now in
    let P = program_of w.program.now in
    let known : ℕ → Held = λ k. held_under (rel_of w.sets.now k) (path_of P (expr_of c.args.receiver.now)) (paths_of P (exprs_from c.args.args.now)) (has_path c.args.carried.now.held.now) in
    subst (λ t. OnOk c.add_callee-2.result (map told_level_of c.add_callee-2.new.seen.items ≡ map told_level_of c.args.seen.now.items ++ t ∷ []))
    (any_told (row_at w.over.now) (origin_in w.origins.now.entries) c.of.result.now c.args.callee known (has_path c.in_ok-held-2.held.items) c.args.carried.now.under c.of.ensures (sym c.is_empty.ensures ∙ c.if-is_empty.false) c.in_ok-held-2.ensures)
    c.add_callee-2.ensures
