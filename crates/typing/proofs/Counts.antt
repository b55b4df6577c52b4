-- How many fields a class has itself.
use Rattle.std.proofs.Common.{◌≡◌, length, Option, Some, None, refl, sym, option_map, unwrap_or}
use Rattle.std.proofs.lemmas.List.FromFn.{length-range_with_len}
use Rattle.classes.specs.Table.{ClassData}
use Rattle.typing.specs.Classes.{own_field_numbers}

pub fields_counted : (o : Option ClassData) → unwrap_or (option_map (λ c. length c.field_names) o) 0 ≡ length (own_field_numbers o)
fields_counted None = refl
fields_counted (Some c) = sym (length-range_with_len c.first_field (length c.field_names))
