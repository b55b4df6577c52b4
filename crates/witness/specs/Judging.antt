-- How ends are compared, and what the judge answers.
use Rattle.std.specs.Prelude.{◌≡◌, ℕ, List}
use Rattle.core_program.specs.Core.{Program}
use Rattle.state.specs.States.{State}
use Rattle.witness.specs.Witness.{Comparison, SameObjects, SameOutput, IsLike, IsOrder, IsKeptAs, IsWay, IsReachedAs}
use Rattle.witness.specs.declared.goal.Compared.{Compared}
use Rattle.witness.specs.declared.goal.Compared.TheVariants as by
use Rattle.witness.specs.declared.goal.Goal.{Goal}
use Rattle.witness.specs.declared.judge.Judged.{Judged}
use Rattle.witness.specs.declared.judge.Judged.TheVariants as answer

-- the comparison of the definition that this one names
abbrev pub comparison_of : Compared → Comparison
comparison_of by.Objects = SameObjects
comparison_of by.Output = SameOutput

-- the second end is like the first, compared so
abbrev pub AreLike : Compared → State → State → Type 0
AreLike by q e = IsLike (comparison_of by) q e

-- the end that others are compared to has the objects and the output of this state
pub record IsGoal (goal : Goal) (q : State) : Type 0 where
  pub objects : goal.heap.now ≡ q.heap
  pub printed : goal.output.now ≡ q.output

-- What is answered of a schedule that ends in this state. An order is one; where the promise is broken there is none; and where
-- neither is told, as many states were seen as may be.
abbrev pub IsJudged : Program → (State → State → Type 0) → (most : ℕ) → List ℕ → State → Judged → Type 0
IsJudged P Like most s q (answer.Kept r) = IsOrder P Like s q r.items
IsJudged P Like most s q answer.Broken = IsKeptAs P Like s q → ⊥
IsJudged P Like most s q (answer.Undecided seen) = seen ≡ most

-- the same of all schedules that interrupt nobody
abbrev pub IsJudgedWhole : Program → (State → State → Type 0) → (most : ℕ) → State → Judged → Type 0
IsJudgedWhole P Like most q (answer.Kept r) = IsWay P Like q r.items
IsJudgedWhole P Like most q answer.Broken = IsReachedAs P Like q → ⊥
IsJudgedWhole P Like most q (answer.Undecided seen) = seen ≡ most
