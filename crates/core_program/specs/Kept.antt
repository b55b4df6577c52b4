-- What a class in memory keeps, as plain data.
use Rattle.core_program.specs.declared.program.CoreClass.{CoreClass}
use Rattle.core_program.specs.Pairs.{KeptClass}

-- a class with its own methods, as plain data
abbrev pub kept_class : CoreClass → KeptClass
kept_class c = record {
  fields = c.fields.items;
  finals = c.finals.items;
  run = c.run;
  above = c.above;
  first_method = c.first_method;
  method_count = c.method_count;
}
