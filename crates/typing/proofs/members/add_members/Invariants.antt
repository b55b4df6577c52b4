use Rattle.std.proofs.Common.{◌≡◌, drop, flat_map, map}
use Rattle.classes.specs.Views.{table_data}
use Rattle.syntax.specs.Views.{member_of}
use Rattle.typing.specs.Entries.{HaveEntries, fields_after, methods_after}
use Rattle.typing.specs.Gathered.{appended}
use Rattle.typing.specs.Noted.{type_noted}
use Rattle.typing.specs.Programs.{all_there, fields_core, methods_core, member_type_faults}
use Rattle.typing.specs.BodyViews.{fields_data, methods_data}
use Rattle.typing.proofs.members.add_members.Given as goal

abbrev pub invariant-loop-member : goal.invariant-loop-member
invariant-loop-member l =
    (appended (fields_data l.parts) (all_there (fields_core (table_data l.table) l.class l.index (map member_of (drop l.member-index l.members))))
    ≡ appended (fields_data l.fn.parts) (all_there (fields_core (table_data l.table) l.class l.inherited (map member_of l.members))))
    × (appended (methods_data l.parts) (all_there (methods_core (table_data l.table) l.class (map member_of (drop l.member-index l.members))))
    ≡ appended (methods_data l.fn.parts) (all_there (methods_core (table_data l.table) l.class (map member_of l.members))))
    × (type_noted l.first (flat_map (member_type_faults (table_data l.table) l.class) (map member_of (drop l.member-index l.members)))
    ≡ type_noted l.fn.first (flat_map (member_type_faults (table_data l.table) l.class) (map member_of l.members)))
    × HaveEntries (table_data l.table) l.class (map member_of (drop l.member-index l.members)) l.parts.next_field l.parts.next_method
    × (fields_after (map member_of (drop l.member-index l.members)) l.parts.next_field ≡ fields_after (map member_of l.members) l.fn.parts.next_field)
    × (methods_after (map member_of (drop l.member-index l.members)) l.parts.next_method ≡ methods_after (map member_of l.members) l.fn.parts.next_method)
