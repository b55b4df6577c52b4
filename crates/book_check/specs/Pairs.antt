-- Parts of a sequence, two by two; and trees by the least path that they test.
use Rattle.std.specs.Prelude.{◌==◌, ◌&&◌, not, ℕ, List, [], ◌∷◌, Bool, true, Option, Some, None, if◌then◌else◌}
use Rattle.paths.specs.Paths.{PathData, path_order, path_eq}
use Rattle.algebra.specs.Basics.{seq_of}
use Rattle.algebra.specs.HeldPaths.{Held}
use Rattle.conditions.specs.Conditions.{Cond, LeafC, TestC}
use Rattle.conditions.specs.Operations.{by_order}
use Rattle.rules.specs.Rules.{AtMost}
use Rattle.effects.specs.Rules.{Value, in_sequence}

-- two values one after the other are at most a third, at every set
abbrev pub IsPairBelow : Value → Value → Value → Type 0
IsPairBelow v w d = (H : Held) → AtMost (seq_of (v H) (w H)) (d H)

-- so is a value before each of these
abbrev pub ArePairsBelow : Value → List Value → Value → Type 0
ArePairsBelow v [] d = Unit {0}
ArePairsBelow v (w ∷ ws) d = IsPairBelow v w d × ArePairsBelow v ws d

-- so are all of these, one after another, before a last one
abbrev pub IsSequenceBelow : List Value → Value → Value → Type 0
IsSequenceBelow vs l d = (H : Held) → AtMost (seq_of (in_sequence vs H) (l H)) (d H)

-- the path that a tree tests first
abbrev pub root_of : Cond → Option PathData
root_of (LeafC b) = None
root_of (TestC p a b) = Some p

-- the lesser of two paths, each of which may be missing
abbrev pub lesser_of : Option PathData → Option PathData → Option PathData
lesser_of None o = o
lesser_of (Some p) None = Some p
lesser_of (Some p) (Some q) = by_order (path_order p q) (Some p) (Some p) (Some q)

-- a tree where the path is held
abbrev pub held_branch : PathData → Cond → Cond
held_branch p (LeafC b) = LeafC b
held_branch p (TestC q a b) = if path_eq q p then a else TestC q a b

-- a tree where the path isn't held
abbrev pub free_branch : PathData → Cond → Cond
free_branch p (LeafC b) = LeafC b
free_branch p (TestC q a b) = if path_eq q p then b else TestC q a b

-- whether a tree tests no path of this slot
abbrev pub avoids : ℕ → Cond → Bool
avoids x (LeafC b) = true
avoids x (TestC p a b) = not (p.root == x) && (avoids x a && avoids x b)
