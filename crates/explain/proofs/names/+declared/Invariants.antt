use Rattle.std.proofs.Common.{◌≡◌, drop}
use Rattle.core_program.specs.Views.{program_of, stmts_from}
use Rattle.explain.specs.Names.{aliases_after_each}
use Rattle.explain.proofs.names.+declared.Given as goal

-- the locals so far and those of the rest are those of all
abbrev pub invariant-add_each-loop-s : goal.invariant-add_each-loop-s
invariant-add_each-loop-s l =
    let P = program_of l.program in
    aliases_after_each P l.known.items (stmts_from (drop l.s-index l.body)) ≡ aliases_after_each P l.fn.known.items (stmts_from l.body)
