-- The value at the required paths with each part of the relevant ones.
use Rattle.std.proofs.Common.{◌≡◌, ◌++◌, List, ap, ◌∙◌}
use Rattle.paths.specs.Paths.{PathData}
use Rattle.algebra.specs.declared.basic.Basic.{Basic}
use Rattle.algebra.specs.HeldPaths.{has_path}
use Rattle.core_program.specs.Views.{method_of}
use Rattle.rules.specs.Rules.{IsSubset}
use Rattle.rules.specs.Search.{row_at as overs_at}
use Rattle.infer.specs.Bodies.{program_at, rel_at, known_paths, assigned_at}
use Rattle.infer.specs.Cells.{at_parts, inferred_effect}
use Rattle.infer.proofs.TableParts.{parts_within}
use Rattle.infer.proofs.cells.method_demands.Goals as goal

pub returns-clause-row : goal.returns-clause-row
returns-clause-row g c =
    let walk = c.args.walk.now in
    let method = method_of c.args.method.now in
    let overs = overs_at c.args.over.now walk.method in
    let called : (qs : List PathData) → Basic = λ qs. inferred_effect (program_at walk) (rel_at walk) (assigned_at walk) overs method (has_path qs) in
    let found : (qs : List PathData) → Basic = λ qs. g.G.Algebra.value c.run_value.new.algebra c.in_ok-value.value (has_path qs) in
    let run : (qs : List PathData) → IsSubset (has_path qs) (has_path (known_paths walk method.requires_)) → found qs ≡ called qs =
    λ qs part. c.in_ok-value.ensures.value (has_path qs) part ∙ ap (λ ns. inferred_effect (program_at walk) (rel_at walk) (assigned_at walk) ns method (has_path qs)) c.of.ensures in
    let held = c.in_ok-held.ensures ∙ c.as_slice.ensures.value in
    c.in_ok-put_parts.ensures.row ∙ (λ i. c.new-row.ensures.items i ++ at_parts found (held i) (c.rel.ensures i)) ∙ parts_within found called method.requires_ (rel_at walk walk.method) run
