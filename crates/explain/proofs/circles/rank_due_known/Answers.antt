-- A method that is there.
use Rattle.std.proofs.Common.{◌∙◌, ap, arith, sym}
use Rattle.std.specs.Prelude.{option_map}
use Rattle.std.specs.Option.{option_copied}
use Rattle.std.proofs.lemmas.Option.{slice_get_within}
use Rattle.core_program.specs.Views.{method_of, program_of}
use Rattle.explain.proofs.circles.rank_due_known.Goals as goal

pub rank_known-requires-clause-place : goal.rank_known-requires-clause-place
rank_known-requires-clause-place g c =
    let there = sym c.method_at.ensures ∙ ap (λ o. option_map method_of (option_copied o)) c.in-Some.is in
    let low = slice_get_within (program_of c.args.walk.now.program.now).methods _ _ there in
    let each = c.requires.each in
    omega (arith, low, each)

pub returns-clause-circling : goal.returns-clause-circling
returns-clause-circling g c =
    let there = sym c.method_at.ensures ∙ ap (λ o. option_map method_of (option_copied o)) c.in-Some.is in
    λ bounds r. c.in_ok-rank_known.ensures.ranked bounds there r
