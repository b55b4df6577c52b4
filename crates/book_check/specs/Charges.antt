-- Trees as values of an algebra.
use Rattle.conditions.specs.Conditions.{cond_of, value_of, IsCanonical}
use Rattle.conditions.specs.declared.tree.Tree.{Tree}
use Rattle.effects.specs.Rules.{Value}
use Rattle.book_check.specs.declared.charged.Charged.{Charged}

-- every canonical tree is known
abbrev pub IsKnownTree : Charged → Tree → Type 0
IsKnownTree s t = IsCanonical (cond_of t)

-- the value of a tree
abbrev pub known_value : Charged → Tree → Value
known_value s t H = value_of (cond_of t) H
