-- What is needed of a program: its bodies are tidy, and a method has a result where the one that runs for it has.
use Rattle.std.proofs.Common.{◌≡◌, ℕ, ◌+◌, Some}
use Rattle.std.specs.Prelude.{length, slice_get}
use Rattle.core_program.specs.Core.{Program, Method}
use Rattle.core_program.specs.Dispatch.{target_of}
use Rattle.core_program.specs.Typed.{IsTyped, parameters}
use Rattle.core_program.proofs.Running.{same_result}
use Rattle.reduction.specs.Fits.{TidyS}
use Rattle.reduction.proofs.Roots.{parameters_scope}
use Rattle.reduction.proofs.Scopes.{stmt_tidy}

-- bodies are tidy, and the method that runs for another has a result where that one has
pub record IsNeat (P : Program) : Type 0 where
  pub bodies : (m : ℕ) (method : Method) → slice_get P.methods m ≡ Some method → TidyS P method.body
  pub results : (c m r : ℕ) (method running : Method) → slice_get P.methods m ≡ Some method → slice_get P.methods r ≡ Some running → target_of P c m ≡ Some r → running.result ≡ method.result

-- a typed program is neat
pub neat_of : (P : Program) → IsTyped P → IsNeat P
neat_of P typed = record {
  bodies = λ m method is. stmt_tidy P typed method.class method.result method.body (parameters method) (1 + length method.params) (typed.methods m method is).body (parameters_scope method);
  results = λ c m r method running is there runs. (same_result P typed c m r runs).same method running is there;
}
