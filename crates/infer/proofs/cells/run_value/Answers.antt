-- The body's effect with the tables, at sets of known paths.
use Rattle.std.proofs.Common.{ap, ◌∙◌}
use Rattle.algebra.specs.HeldPaths.{has_path}
use Rattle.core_program.specs.Views.{method_of}
use Rattle.infer.specs.Bodies.{program_at, rel_at, known_paths, assigned_at}
use Rattle.infer.proofs.KnownLemmas.{known_whole, value_within}
use Rattle.infer.proofs.cells.run_value.Goals as goal

pub returns-clause-value : goal.returns-clause-value
returns-clause-value g c =
    let walk = c.args.walk.now in
    let method = method_of c.args.method.now in
    let known = known_paths walk c.as_slice.result.now in
    let same = ap (λ ps. has_path (known_paths walk ps)) c.as_slice.ensures.value in
    value_within g.G.Algebra.value c.with_tables.new.algebra c.with_tables.result _ _ (has_path (known_paths walk method.requires_))
    (λ H part. known_whole (program_at walk) (rel_at walk) (assigned_at walk) c.args.overs.now method _ known H (c.in_ok-body.ensures.value H) (λ q has. ap (λ ps. ps q) same ∙ part q has))
    c.with_tables.ensures.value
