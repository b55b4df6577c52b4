-- Options that hang on others or on tests, and tests that do.
use Rattle.std.proofs.Common.{◌≡◌, Bool, true, false, not, ◌||◌, Option, Some, None, refl}
use Rattle.std.specs.Option.{is_some}
use Rattle.std.specs.Prelude.{option_and_then, option_map, if◌then◌else◌}
use Rattle.std.proofs.lemmas.Option.{none-some, same_Some, option_and_then_some}

-- what is found from an option, and is there
pub then_parts : {A B : Type 0} (f : A → Option B) (o : Option A) (b : B) → option_and_then f o ≡ Some b → (a : A) × (o ≡ Some a) × (f a ≡ Some b)
then_parts f o b e = option_and_then_some f o b e (λ a is to. (a, is, to))

-- what is made of an option, and is there
pub map_parts : {A B : Type 0} (f : A → B) (o : Option A) (b : B) → option_map f o ≡ Some b → (a : A) × (o ≡ Some a) × (f a ≡ b)
map_parts f None b e = absurd (none-some b e)
map_parts f (Some a) b e = (a, refl, same_Some (f a) b e)

-- what is there, where there is something
pub some_there : {A : Type 0} (o : Option A) → is_some o ≡ true → (a : A) × (o ≡ Some a)
some_there None h = absurd (let clash : false ≡ true = h in cc)
some_there (Some a) h = (a, refl)

-- a choice whose first part is another one wherever it is taken
pub choice_same : {B : Type 0} (b : Bool) (x y z : B) → (b ≡ true → x ≡ y) → (if b then x else z) ≡ (if b then y else z)
choice_same true x y z h = h refl
choice_same false x y z h = refl

-- what is there under a test
pub if_taken : {A : Type 0} (b : Bool) (o : Option A) (x : A) → (if b then o else None) ≡ Some x → (b ≡ true) × (o ≡ Some x)
if_taken true o x e = (refl, e)
if_taken false o x e = absurd cc

-- a test that passes unless another one fails
pub unless : (a b : Bool) → (not a || b) ≡ true → a ≡ true → b ≡ true
unless true b h e = h
unless false b h e = absurd cc
