use Rattle.std.proofs.Common.{◌≡◌, ◌++◌, drop, map}
use Rattle.syntax.specs.Views.{stmt_of, stmts_from}
use Rattle.places.specs.Sources.{block_sources, source_offset}
use Rattle.places.proofs.offsets.+statements.Given as goal

-- the places so far, and then those of the rest, are all
abbrev pub invariant-add_block-loop-s : goal.invariant-add_block-loop-s
invariant-add_block-loop-s l =
    l.places.items ++ map source_offset (block_sources (stmts_from (map stmt_of (drop l.s-index l.body))))
    ≡ l.fn.places.items ++ map source_offset (block_sources (stmts_from (map stmt_of l.body)))
