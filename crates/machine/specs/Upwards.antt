-- What a look up the line of a class tells of the method that runs.
use Rattle.std.specs.Prelude.{ℕ, Option, Some, None}
use Rattle.core_program.specs.Core.{Program}
use Rattle.core_program.specs.Dispatch.{target_of}
use Rattle.machine.specs.declared.upwards.Look.{Look}
use Rattle.machine.specs.declared.upwards.Look.TheVariants.{Ends, GoesOn}

-- what runs below some classes, where this is the nearest method of theirs with its name, if any, and that runs above them
abbrev pub runs_below : Option ℕ → Option ℕ → Option ℕ
runs_below None above = above
runs_below (Some nearest) None = None
runs_below (Some nearest) (Some above) = Some nearest

-- what runs for a method, as a look tells it
abbrev pub look_tells : Program → ℕ → Look → Option ℕ
look_tells P m (Ends runs) = runs
look_tells P m (GoesOn class nearest) = runs_below nearest (target_of P class m)
