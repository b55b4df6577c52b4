-- Methods in memory and as plain data, by their places.
use Rattle.std.proofs.Common.{◌≡◌, ℕ, ◌≤◌, List, length, map, slice_get, None, subst, arith}
use Rattle.std.proofs.lemmas.List.{length-map}
use Rattle.std.proofs.lemmas.Option.{slice_get_past}
use Rattle.core_program.specs.declared.program.CoreMethod.{CoreMethod}
use Rattle.core_program.specs.Core.{Method}
use Rattle.core_program.specs.Views.{method_of}

pub no_method : (xs : List CoreMethod) (methods : List Method) (k : ℕ) → map method_of xs ≡ methods → length xs ≤ k → slice_get methods k ≡ None
no_method xs methods k all past = subst (λ ms. slice_get ms k ≡ None) all (slice_get_past (map method_of xs) k (omega (arith, length-map xs method_of, past)))
