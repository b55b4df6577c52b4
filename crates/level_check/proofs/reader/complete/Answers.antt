-- Whether each class has a level.
use Rattle.std.proofs.Common.{inr}
use Rattle.level_check.proofs.Keeping.{missing_at, none_missing}
use Rattle.level_check.proofs.reader.complete.Goals as goal

pub returns-in-Some : goal.returns-in-Some
returns-in-Some c = λ t bytes h. inr (λ P. missing_at t bytes c.args.levels.items c.as_slice.result.now c.in-Some.class h c.as_slice.ensures.value c.in-Some.ensures)

pub returns-in-None : goal.returns-in-None
returns-in-None c = λ t bytes h. none_missing t bytes c.args.levels.items c.as_slice.result.now h c.as_slice.ensures.value c.in-None.ensures
