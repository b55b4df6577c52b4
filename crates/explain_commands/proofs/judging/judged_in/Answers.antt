use Rattle.std.proofs.Common.{ap, map, ◌∙◌}
use Rattle.conditions.specs.Conditions.{cond_of}
use Rattle.conditions.specs.Shown.{trees_at}
use Rattle.core_program.specs.Views.{program_of}
use Rattle.explain_commands.proofs.Leasts.{judged_done, judged_broken}
use Rattle.explain_commands.proofs.judging.judged_in.Goals as goal

pub returns-in-Ok : goal.returns-in-Ok
returns-in-Ok c =
    let made = c.in_ok-inferred.field-0 in
    judged_done (program_of c.args.source.now.program) c.args.source.now.sets c.verdict_on.new.nodes made.inferred.methods.items made.verdict (map cond_of c.in_ok-trees.trees.items)
    (c.in_ok-trees.ensures.trees ∙ ap (trees_at c.verdict_on.new.nodes) c.as_slice.ensures.value) c.in_ok-inferred.ensures _ c.in-Ok.is

pub returns : goal.returns
returns c =
    let made = c.in_ok-inferred.field-0 in
    judged_broken (program_of c.args.source.now.program) c.args.source.now.sets c.verdict_on.new.nodes made.inferred.methods.items made.verdict (map cond_of c.in_ok-trees.trees.items)
    (c.in_ok-trees.ensures.trees ∙ ap (trees_at c.verdict_on.new.nodes) c.as_slice.ensures.value) c.in_ok-inferred.ensures _ c.in-Err.is
