use Rattle.std.proofs.Common.{ℕ, List, sym, subst, arith}
use Rattle.std.specs.Prelude.{Contains}
use Rattle.core_program.proofs.OverridesLemmas.{none_without_class}
use Rattle.core_program.proofs.program.CoreProgram.overridden.Goals as goal

pub overridden_above-requires : goal.overridden_above-requires
overridden_above-requires c = sym c.in-Some.ensures

pub returns-in-None : goal.returns-in-None
returns-in-None c m = (
  (λ has. let (k, below, is) = subst (λ (xs : List ℕ). Contains xs m) c.new.ensures.items has in absurd (omega (arith, below))),
  (λ over. absurd (none_without_class c.args.self.now c.args.method (sym c.in-None.ensures) m over)),
)
