-- Classes that extend each other, and the method that the receiver's class chooses.
use Rattle.std.specs.Prelude.{◌≡◌, ◌≢◌, ℕ, Bool, ◌==◌, List, [], ◌∷◌, length, Option, Some, None, slice_get, if◌then◌else◌}
use Rattle.std.specs.List.{list_any}
use Rattle.base.specs.Ancestors.{reaches}
use Rattle.core_program.specs.Core.{Program, Class, Method}

-- the class that a class extends, if it is there and extends one
abbrev pub above_in : Option Class → Option ℕ
above_in None = None
above_in (Some c) = c.above

-- what a class of the program extends
abbrev pub above_of : Program → ℕ → Option ℕ
above_of P c = above_in (slice_get P.classes c)

-- whether the second class is the first or an ancestor of it
abbrev pub is_kind_of : Program → ℕ → ℕ → Bool
is_kind_of P c d = reaches (above_of P) (length P.classes) (Some c) d

-- the fields of a class, if it is there
abbrev pub class_fields : Option Class → List ℕ
class_fields None = []
class_fields (Some c) = c.fields

-- the fields of the class above, if there is one
abbrev pub inherited_fields : Program → Option ℕ → List ℕ
inherited_fields P None = []
inherited_fields P (Some d) = class_fields (slice_get P.classes d)

-- whether a class has a field, its own or from above
abbrev pub has_field : Program → ℕ → ℕ → Bool
has_field P class f = list_any (λ g. g == f) (class_fields (slice_get P.classes class))

-- the partner of a method in these pairs, if it has one
abbrev pub partner : List (ℕ × ℕ) → ℕ → Option ℕ
partner [] m = None
partner (p ∷ ps) m = if p.0 == m then Some p.1 else partner ps m

-- each method that a class has with the one that runs for it, if the class is there
abbrev pub targets_in : Option Class → List (ℕ × ℕ)
targets_in None = []
targets_in (Some c) = c.targets

-- the method that runs for a method and an object of a class, if there is one
abbrev pub target_of : Program → ℕ → ℕ → Option ℕ
target_of P class m = partner (targets_in (slice_get P.classes class)) m

-- the method that runs for a method and the class above, if there are such
abbrev pub inherited_target : Program → Option ℕ → ℕ → Option ℕ
inherited_target P None m = None
inherited_target P (Some d) m = target_of P d m

-- a method of the class itself
abbrev pub IsOwn : Program → ℕ → ℕ → Type 0
IsOwn P c m = (method : Method) × (slice_get P.methods m ≡ Some method) × (method.class ≡ c)

-- the first method overrides the second: it differs from it, and runs for it in its own class
pub record Overrides (P : Program) (over m : ℕ) : Type 0 where
  pub differs : over ≢ m
  pub method : Method
  pub is : slice_get P.methods over ≡ Some method
  pub runs : target_of P method.class m ≡ Some over
