use Rattle.std.proofs.Common.{◌≡◌, drop, map}
use Rattle.classes.specs.Views.{table_data}
use Rattle.syntax.specs.Views.{class_of}
use Rattle.typing.specs.Entries.{AllHaveEntries}
use Rattle.typing.specs.Gathered.{appended}
use Rattle.typing.specs.Noted.{type_noted}
use Rattle.typing.specs.Programs.{all_there, all_core_fields, all_core_methods, type_faults_from}
use Rattle.typing.specs.BodyViews.{fields_data, methods_data}
use Rattle.typing.proofs.members.parts_of.Given as goal

abbrev pub invariant-loop-class : goal.invariant-loop-class
invariant-loop-class l =
    (appended (fields_data l.parts) (all_there (all_core_fields (table_data l.table) l.number (map class_of (drop l.class-index l.classes))))
    ≡ all_there (all_core_fields (table_data l.table) 0 (map class_of l.classes)))
    × (appended (methods_data l.parts) (all_there (all_core_methods (table_data l.table) l.number (map class_of (drop l.class-index l.classes))))
    ≡ all_there (all_core_methods (table_data l.table) 0 (map class_of l.classes)))
    × (type_noted l.first (type_faults_from (table_data l.table) l.number (map class_of (drop l.class-index l.classes)))
    ≡ type_noted l.fn.first (type_faults_from (table_data l.table) 0 (map class_of l.classes)))
    × (l.number ≡ l.class-index)
    × AllHaveEntries (table_data l.table) l.number (map class_of (drop l.class-index l.classes)) l.parts.next_field l.parts.next_method
