use Rattle.std.proofs.Common.{◌≡◌, ℕ, ◌<◌, Some}
use Rattle.std.specs.Prelude.{slice_get}
use Rattle.core_program.specs.Core.{Method}
use Rattle.core_program.specs.Views.{program_of}
use Rattle.rules.specs.Rules.{HoldsBound}
use Rattle.infer.specs.Verdicts.{assignment_of}
use Rattle.infer.proofs.bounds.verdict.Given as goal

-- the methods before this one hold their bounds
abbrev pub invariant-loop-m : goal.invariant-loop-m
invariant-loop-m G l = (k : ℕ) (earlier : Method) → k < l.m → slice_get (program_of l.program).methods k ≡ Some earlier → HoldsBound (assignment_of G.G.Algebra.value l.algebra l.inferred.methods.items) k earlier
