-- Names of paths, and what a table of nodes keeps.
use Rattle.std.specs.Prelude.{length, Option, Some}
use Rattle.std.specs.Option.{option_copied}
use Rattle.paths.specs.Paths.{PathData}
use Rattle.algebra.specs.Values.{Keeps}
use Rattle.conditions.specs.Nodes.{Items}
use Rattle.conditions.specs.Shown.{IsAmongFirst, node_value}
use Rattle.book_check.specs.Judges.{name_before_local, call_name}
use Rattle.derive.specs.declared.names.Names.{Names}
use Rattle.derive.specs.declared.names.Names.TheVariants.{Same, Before, At}

-- what a path is called
abbrev pub name_under : Names → PathData → Option PathData
name_under Same q = Some q
name_under (Before slot value) q = name_before_local slot (option_copied value) q
name_under (At rel receiver args) q = call_name rel.now (option_copied receiver) args.now q

-- nodes that were there stay, with their values
abbrev pub Keeping : Items → Items → Type 0
Keeping old new = Keeps (λ s. IsAmongFirst (length s)) node_value old new
