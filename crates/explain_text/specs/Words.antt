-- Names in the lines of a method: paths, fields, held locks, and why an expression has no path.
use Rattle.std.specs.Prelude.{ℕ, Bool, true, false, ◌==◌, List, [], ◌∷◌, ◌++◌, Option, Some, None, option_and_then, codes, slice_get, unwrap_or}
use Rattle.classes.specs.Table.{TableData}
use Rattle.explain.specs.declared.names.Lack.{Lack}
use Rattle.explain.specs.declared.names.Lack.TheVariants as lack
use Rattle.paths.specs.Paths.{PathData}
use Rattle.report.specs.Verdicts.{field_text, fields_text}
use Rattle.explain_text.specs.Pages.{PageData}

-- the name of a slot of the method that is told
abbrev pub slot_in : PageData → ℕ → List ℕ
slot_in page slot = unwrap_or (slice_get page.slots slot) []

-- a path in that method
abbrev pub path_in : PageData → PathData → List ℕ
path_in page p = slot_in page p.root ++ fields_text page.table p.fields

-- a class and a point behind it; nothing where there is no class
abbrev pub class_front : Option (List ℕ) → List ℕ
class_front None = []
class_front (Some name) = name ++ codes "."

-- a field as `Class.field`
abbrev pub field_title : TableData → ℕ → List ℕ
field_title table f = class_front (option_and_then (λ field. slice_get table.names field.class) (slice_get table.fields f)) ++ field_text table f

-- a field of a receiver: behind the receiver's path, or as `Class.field` where that has none
abbrev pub access_text : PageData → Option PathData → ℕ → List ℕ
access_text page None f = field_title page.table f
access_text page (Some p) f = path_in page p ++ codes "." ++ field_text page.table f

-- each of some paths behind a comma
abbrev pub more_held : PageData → List PathData → List ℕ
more_held page [] = []
more_held page (p ∷ ps) = codes ", " ++ path_in page p ++ more_held page ps

-- held paths with commas between, or `nothing`
abbrev pub held_list_text : PageData → List PathData → List ℕ
held_list_text page [] = codes "nothing"
held_list_text page (p ∷ ps) = path_in page p ++ more_held page ps

-- whether this is that variable
abbrev pub is_lacking_variable : Lack → ℕ → Bool
is_lacking_variable (lack.Variable x) slot = x == slot
is_lacking_variable (lack.Field f) slot = false
is_lacking_variable lack.Long slot = false
is_lacking_variable lack.Value slot = false

-- whether this is that field
abbrev pub is_lacking_field : Lack → ℕ → Bool
is_lacking_field (lack.Variable x) f = false
is_lacking_field (lack.Field g) f = g == f
is_lacking_field lack.Long f = false
is_lacking_field lack.Value f = false

-- whether this variable is what helps where it is made final
abbrev pub variable_helps : Option Lack → ℕ → Bool
variable_helps None slot = false
variable_helps (Some fitting) slot = is_lacking_variable fitting slot

-- whether this field is
abbrev pub field_helps : Option Lack → ℕ → Bool
field_helps None f = false
field_helps (Some fitting) f = is_lacking_field fitting f

-- what is said of a variable or a field that isn't final, by whether it helps to make it final
abbrev pub final_words : (helps : Bool) → List ℕ
final_words true = codes " isn't final"
final_words false = codes " names no lock"

-- why an expression has no path
abbrev pub lack_text : PageData → Lack → List ℕ
lack_text page (lack.Variable slot) = slot_in page slot ++ final_words (variable_helps page.fitting slot)
lack_text page (lack.Field f) = field_title page.table f ++ final_words (field_helps page.fitting f)
lack_text page lack.Long = codes "its path would have more than two fields"
lack_text page lack.Value = codes "it isn't reached by a variable and final fields"
