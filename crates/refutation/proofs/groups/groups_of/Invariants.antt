use Rattle.std.proofs.Common.{◌≡◌, length}
use Rattle.algebra.specs.Basics.{join_of}
use Rattle.algebra.specs.HeldPaths.{Held, has_path}
use Rattle.rules.specs.Near.{rel_of}
use Rattle.rules.specs.Rules.{IsSubset}
use Rattle.refutation.specs.Lines.{joined_over}
use Rattle.refutation.specs.Tables.{said_by}
use Rattle.refutation.specs.Overs.{said_in_groups}
use Rattle.refutation.proofs.groups.groups_of.Given as goal

-- whatever relevant paths are held, what the groups say so far and what is said of the rest are that of all
abbrev pub invariant-methods : goal.invariant-methods
invariant-methods l =
    let all = rel_of l.sight.floors.now.sets.now in let said = said_by all l.sight.floors.now.tables.items in
    (H : Held) → IsSubset H (has_path l.rel) → join_of (said_in_groups l.rel l.groups.items H) (joined_over all said l.rest H) ≡ joined_over all said l.methods H

abbrev pub decreases-methods : goal.decreases-methods
decreases-methods l = length l.rest
