use Rattle.std.proofs.Common.{◌≡◌, ◌≤◌, ◌+◌, ℕ, List, string_bytes}
use Rattle.explain_commands.proofs.Several.{AreSoFar}
use Rattle.explain_commands.proofs.program.perform_all.Given as goal

-- the folder tells what it told; whatever is found of the rest completes what was found so far; and each file was opened once
abbrev pub invariant-loop-name : goal.invariant-loop-name
invariant-loop-name g l =
    ((other : List ℕ) → g.F.Folder.told l.folder other ≡ g.F.Folder.told l.fn.folder other)
    × AreSoFar l.order (g.F.Folder.told l.fn.folder) l.names l.name-index (g.F.Folder.faults l.fn.folder) (g.F.Folder.faults l.folder) l.status (string_bytes l.text)
    × (g.F.Folder.opened l.folder ≤ g.F.Folder.opened l.fn.folder + l.name-index)
