use Rattle.std.proofs.Common.{◌≡◌, take}
use Rattle.effects.proofs.lists.copied.Given as goal

-- copies of the paths so far
abbrev pub invariant-loop-path : goal.invariant-loop-path
invariant-loop-path l = l.copies.items ≡ take l.path-index l.held
