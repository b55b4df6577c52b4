use Rattle.std.proofs.Common.{◌≡◌, ◌++◌, drop, map}
use Rattle.core_program.specs.declared.program.CoreMethod.{CoreMethod}
use Rattle.explain.proofs.final_fields.all_requiring.Given as goal

-- what the methods so far require, and then the rest, is what all require
abbrev pub invariant-loop-method : goal.invariant-loop-method
invariant-loop-method l =
    map (λ (m : CoreMethod). m.requires_.items) l.made.items ++ map (λ (m : CoreMethod). m.requires_.items) (drop l.method-index l.methods) ≡ map (λ (m : CoreMethod). m.requires_.items) l.methods
