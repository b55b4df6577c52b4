-- The marks tell which paths are held.
use Rattle.std.proofs.Common.{◌≡◌, ◌++◌, true, rules, ap, ◌∙◌}
use Rattle.std.specs.Prelude.{map}
use Rattle.algebra.specs.HeldPaths.{has_path}
use Rattle.refutation.proofs.TableLemmas.{raised_marked}
use Rattle.refutation.proofs.floors.raise.Goals as goal

pub returns : goal.returns
returns c =
    let could : c.mark.result ≡ true = search rules in
    c.raise_marked.ensures ∙ raised_marked c.args.rel.now c.args.held.now c.as_slice.result.now c.args.found c.args.table.now (c.as_slice.ensures.value ∙ c.mark.ensures could ∙ ap (λ xs. xs ++ map (has_path c.args.held.now) c.args.rel.now) c.new-marks.ensures)
