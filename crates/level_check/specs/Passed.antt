-- What held paths are called in a callee, by what is passed for its slots.
use Rattle.std.specs.Prelude.{ℕ, ◌+◌, List, [], ◌∷◌, ◌++◌, Option, Some, None}
use Rattle.paths.specs.Paths.{PathData}
use Rattle.effects.specs.HeldLists.{local_names}

-- the names from a slot, where what is passed for it has this path or none
abbrev pub held_names_from : ℕ → Option PathData → List PathData → List PathData
held_names_from x None held = []
held_names_from x (Some start) held = local_names x start held

-- the names from this slot on, where these are the paths of what is passed
abbrev pub passed_names : ℕ → List (Option PathData) → List PathData → List PathData
passed_names x [] held = []
passed_names x (start ∷ starts) held = held_names_from x start held ++ passed_names (x + 1) starts held
