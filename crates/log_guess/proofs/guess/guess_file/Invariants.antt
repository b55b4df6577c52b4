use Rattle.std.proofs.Common.{◌≡◌, ◌≤◌, ◌+◌, ◌-◌, ℕ, List, IfSome, length}
use Rattle.log_guess.proofs.guess.guess_file.Given as goal

abbrev pub invariant-chunks : goal.invariant-chunks
invariant-chunks g l = record {
  read : IfSome (g.F.Folder.told l.initial.folder l.name) (λ file. l.at ≤ length file);
  told : (other : List ℕ) → g.F.Folder.told l.folder other ≡ g.F.Folder.told l.initial.folder other;
  calm : (other : List ℕ) → g.F.Folder.faults l.folder other ≡ g.F.Folder.faults l.initial.folder other;
}

abbrev pub decreases-chunks : goal.decreases-chunks
decreases-chunks g l = (l.limit + 1) - l.at
