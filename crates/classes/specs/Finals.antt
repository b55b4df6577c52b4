-- What the code keeps of a final field.
use Rattle.syntax.specs.declared.tree.Name.{Name}
use Rattle.syntax.specs.declared.tree.TypeName.{TypeName}
use Rattle.classes.specs.declared.constructors.FinalField.{FinalField}

-- the type and the name of a final field, which a constructor's parameter has to repeat
abbrev pub final_of : FinalField → TypeName × Name
final_of f = (f.ty.now, f.name.now)
