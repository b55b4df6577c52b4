-- What a callee's paths are called at the place of a call.
use Rattle.std.specs.Prelude.{ℕ, zero, suc, List, Option, Some, None, slice_get}
use Rattle.paths.specs.Paths.{PathData, extended_some}

-- the path of the argument at a place, where there is one and it has a path
abbrev pub argument_at : Option (Option PathData) → Option PathData
argument_at None = None
argument_at (Some argument) = argument

-- what a root slot of the callee stands for: slot 0 is the receiver, the arguments follow
abbrev pub passed : Option PathData → List (Option PathData) → ℕ → Option PathData
passed receiver args zero = receiver
passed receiver args (suc n) = argument_at (slice_get args n)

-- the callee's path as the caller sees it: what its root stands for, extended by its fields
abbrev pub under_call : Option PathData → List (Option PathData) → PathData → Option PathData
under_call receiver args p = extended_some (passed receiver args p.root) p.fields
