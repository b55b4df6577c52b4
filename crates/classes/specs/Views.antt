-- What a class table, its classes and its methods are as plain data.
use Rattle.std.specs.Prelude.{map}
use Rattle.classes.specs.declared.entries.ClassEntry.{ClassEntry}
use Rattle.classes.specs.declared.entries.MethodEntry.{MethodEntry}
use Rattle.classes.specs.declared.entries.ClassTable.{ClassTable}
use Rattle.classes.specs.Table.{ClassData, MethodData, TableData}

-- a class's entry in the table as plain data
abbrev pub class_data : ClassEntry → ClassData
class_data c = record {
  above = c.above;
  runnable = c.runnable;
  first_field = c.first_field;
  field_names = c.field_names;
  first_method = c.first_method;
  method_names = c.method_names;
}

-- a method's entry in the table as plain data
abbrev pub method_data : MethodEntry → MethodData
method_data m = record { class = m.class; name = m.name.now; params = m.params.items; returns = m.returns }

-- a class table as plain data: the names of its classes, and the entries of classes, fields and methods
abbrev pub table_data : ClassTable → TableData
table_data t = record {
  names = t.names;
  classes = map class_data t.classes.items;
  fields = t.fields.items;
  methods = map method_data t.methods.items;
}
