use Rattle.std.proofs.Common.{map, length, sym, subst, ap, ◌∙◌}
use Rattle.conditions.specs.Conditions.{cond_of}
use Rattle.core_program.specs.Views.{program_of}
use Rattle.conditions.specs.Shown.{AreAmongFirst, trees_at}
use Rattle.sources.proofs.Verdicts.{shown_least}
use Rattle.sources.proofs.accepting.accepted.Goals as goal

pub trees_of-requires : goal.trees_of-requires
trees_of-requires c = subst (AreAmongFirst (length c.judged_in.new.nodes)) (sym c.as_slice.ensures.value) (c.in-Ok.ensures c.requires.0 c.requires.1).known

pub returns-in-Ok : goal.returns-in-Ok
returns-in-Ok c = λ file is.
    shown_least (program_of c.args.source.now.program) c.judged_in.new.nodes c.in-Ok.inferred.methods.items (map cond_of c.in_ok-methods-in-Ok.methods.items) c.in_ok-methods-in-Ok.ensures.table (c.in-Ok.ensures file is)
    (c.in_ok-methods-in-Ok.ensures.trees ∙ ap (trees_at c.judged_in.new.nodes) c.as_slice.ensures.value)
