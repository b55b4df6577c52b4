use Rattle.std.proofs.Common.{◌≡◌, drop}
use Rattle.explain.specs.Names.{meant}
use Rattle.explain.proofs.names.meant.Given as goal

-- what it means where the locals are those that are left is what it means
abbrev pub invariant-loop-alias : goal.invariant-loop-alias
invariant-loop-alias l = meant (drop l.alias-index l.aliases) l.path ≡ meant l.aliases l.path
