-- The limits of classes and methods.
use Rattle.std.specs.Prelude.{ℕ}
use Rattle.classes.specs.declared.limits.TheConstants.{MOST_FIELDS, MOST_PARAMS}

-- how many parameters a method or a constructor may have
abbrev pub most_method_parameters : ℕ
most_method_parameters = MOST_PARAMS

-- how many fields a class may have
abbrev pub most_class_fields : ℕ
most_class_fields = MOST_FIELDS
