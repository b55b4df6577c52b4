use Rattle.std.proofs.Common.{◌≡◌, ◌++◌, drop, map}
use Rattle.syntax.specs.Views.{expr_tree, exprs_from}
use Rattle.places.specs.Sources.{exprs_sources, source_offset}
use Rattle.places.proofs.offsets.+expressions.Given as goal

-- the places so far, and then those of the rest, are all
abbrev pub invariant-add_exprs-loop-e : goal.invariant-add_exprs-loop-e
invariant-add_exprs-loop-e l =
    l.places.items ++ map source_offset (exprs_sources (exprs_from (map expr_tree (drop l.e-index l.es))))
    ≡ l.fn.places.items ++ map source_offset (exprs_sources (exprs_from (map expr_tree l.es)))
