-- Methods in memory and as plain data, by their places.
use Rattle.std.proofs.Common.{◌≡◌, ℕ, ◌<◌, List, length, map, get_or, slice_get, Some, sym, ap, subst, ◌∙◌}
use Rattle.std.proofs.lemmas.List.{length-map}
use Rattle.std.proofs.lemmas.Option.{slice_get-map, slice_get-get_or}
use Rattle.std.specs.Option.{option_map}
use Rattle.core_program.specs.declared.program.CoreMethod.{CoreMethod}
use Rattle.core_program.specs.Core.{Method}
use Rattle.core_program.specs.Views.{method_of}

pub found_method : (xs : List CoreMethod) (methods : List Method) (k : ℕ) (x : CoreMethod) → map method_of xs ≡ methods → k < length xs → x ≡ get_or xs k x → slice_get methods k ≡ Some (method_of x)
found_method xs methods k x all below is = subst (λ ms. slice_get ms k ≡ Some (method_of x)) all
    (slice_get-map method_of xs k ∙ ap (option_map method_of) (slice_get-get_or xs k x below ∙ ap Some (sym is)))

-- as many as in memory
pub same_count : (xs : List CoreMethod) (methods : List Method) → map method_of xs ≡ methods → length xs ≡ length methods
same_count xs methods all = sym (length-map xs method_of) ∙ ap length all
