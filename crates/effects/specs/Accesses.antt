-- Values that look at one path at most, as accesses to fields do.
use Rattle.std.specs.Prelude.{if◌then◌else◌}
use Rattle.effects.specs.declared.accesses.Branching.{Branching}
use Rattle.effects.specs.declared.accesses.Branching.TheVariants.{Always, Where}
use Rattle.effects.specs.Rules.{Value}

-- a basic; or one where a path is held, and another where it isn't
abbrev pub branching_value : Branching → Value
branching_value (Always b) H = b
branching_value (Where p held free) H = if H p then held else free
