use Rattle.std.proofs.Common.{◌≡◌, ℕ, ◌+◌, ◌<◌, ◌≤◌, ◌-◌, true, List, length, take, IfSome}
use Rattle.edge.proofs.transfer.read_file.Given as goal

abbrev pub invariant-chunks : goal.invariant-chunks
invariant-chunks g l = record {
  front : IfSome (g.F.Folder.told l.initial.folder l.name) (λ file. l.bytes.items ≡ take (length l.bytes.items) file);
  told : (other : List ℕ) → g.F.Folder.told l.folder other ≡ g.F.Folder.told l.initial.folder other;
  calm : (other : List ℕ) → g.F.Folder.faults l.folder other ≡ g.F.Folder.faults l.initial.folder other;
  counted : g.F.Folder.calls l.folder ≤ g.F.Folder.calls l.initial.folder + length l.bytes.items;
  bounded : g.F.Folder.calls l.folder ≤ g.F.Folder.calls l.initial.folder + (l.limit + 1);
  none_opened : length l.bytes.items ≡ 0 → g.F.Folder.opened l.folder ≤ g.F.Folder.opened l.initial.folder;
  one_opened : g.F.Folder.opened l.folder ≤ g.F.Folder.opened l.initial.folder + 1;
  still_open : 0 < length l.bytes.items → g.F.Folder.is_open l.folder l.name (length l.bytes.items) ≡ true;
}

abbrev pub decreases-chunks : goal.decreases-chunks
decreases-chunks g l = (l.limit + 1) - length l.bytes.items
