-- The sense that a verdict tells.
use Rattle.std.proofs.Common.{◌≡◌, ℕ, List, Option, Some, None, IfSome, subst}
use Rattle.core_program.specs.Core.{Program}
use Rattle.witness.specs.declared.verdict.Sense.{Sense}
use Rattle.witness.specs.declared.verdict.Verdict.{Verdict}
use Rattle.witness.specs.declared.verdict.Verdict.TheVariants.{Broken}
use Rattle.witness.specs.Verdicts.{IsVerdict, IsBrokenIn}

pub broken_sense : (P : Program) (s : List ℕ) (most : ℕ) (verdict : Verdict) (told : Option Sense) → IsVerdict P most s verdict → IfSome told (λ sense. verdict ≡ Broken sense)
    → IfSome told (IsBrokenIn P s)
broken_sense P s most verdict None is says = tt
broken_sense P s most verdict (Some sense) is says = subst (IsVerdict P most s) says is
