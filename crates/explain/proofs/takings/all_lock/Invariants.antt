use Rattle.std.proofs.Common.{◌≡◌, drop}
use Rattle.std.specs.List.{list_all}
use Rattle.explain.specs.Takings.{locks}
use Rattle.explain.specs.Views.{visits_of}
use Rattle.explain.proofs.takings.all_lock.Given as goal

-- what is said of the parts that are left is said of all
abbrev pub invariant-loop-part : goal.invariant-loop-part
invariant-loop-part l = list_all (λ v. locks l.lock v.part) (visits_of (drop l.part-index l.parts)) ≡ list_all (λ v. locks l.lock v.part) (visits_of l.parts)
