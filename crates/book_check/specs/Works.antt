-- Work on trees, as far as no clause has to know what a cell holds.
use Rattle.std.specs.Prelude.{◌≡◌}
use Rattle.book_check.specs.declared.work.Work.{Work}
use Rattle.book_check.specs.declared.work.Work.TheVariants.{Unbounded}

-- the work has no bound
abbrev pub IsUnbounded : Work → Type 0
IsUnbounded work = work ≡ Unbounded
