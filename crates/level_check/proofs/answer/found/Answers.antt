-- The levels that were lent.
use Rattle.std.proofs.Common.{subst}
use Rattle.std.specs.Prelude.{IfOk, MatchOption}
use Rattle.core_program.specs.Views.{program_of}
use Rattle.rules.specs.Near.{rel_of}
use Rattle.levels.specs.Walks.{level_in}
use Rattle.levels.specs.Contexts.{IsOrdered, IsFirstBad}
use Rattle.level_check.proofs.answer.found.Goals as goal

pub returns : goal.returns
returns c =
    let P = program_of c.args.program.now in
    let rel = rel_of c.args.sets.now in
    subst (λ levels. IfOk c.found_by.result (λ found. MatchOption found (IsOrdered P rel (level_in levels)) (λ bad. IsFirstBad P rel (level_in levels) bad.method bad.class bad.under))) c.as_slice.ensures.value c.found_by.ensures
