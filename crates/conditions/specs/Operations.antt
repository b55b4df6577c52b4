-- The operations on plain canonical trees. What each means at a set of held paths is proved from these.
use Rattle.std.specs.Prelude.{◌&&◌, Bool, Option, Some, None, List, [], ◌∷◌, if◌then◌else◌}
use Rattle.std.specs.declared.cmp.Ordering.{Ordering}
use Rattle.std.specs.declared.cmp.Ordering.TheVariants.{Less, Equal, Greater}
use Rattle.paths.specs.Paths.{PathData, path_order, path_eq}
use Rattle.algebra.specs.declared.basic.Basic.{Basic}
use Rattle.algebra.specs.Basics.{lift_of, below_of}
use Rattle.algebra.specs.HeldPaths.{is_named}
use Rattle.conditions.specs.Conditions.{Cond, LeafC, TestC, cond_eq}

-- a test, or the one tree where both branches are equal
abbrev pub node : PathData → Cond → Cond → Cond
node p a b = if cond_eq a b then a else TestC p a b

-- one of three, by an order
abbrev pub by_order : {X : Type 0} → Ordering → X → X → X → X
by_order Less x y z = x
by_order Equal x y z = y
by_order Greater x y z = z

-- each leaf changed
abbrev pub each_leaf : (Basic → Basic) → Cond → Cond
each_leaf f (LeafC b) = LeafC (f b)
each_leaf f (TestC p a b) = node p (each_leaf f a) (each_leaf f b)

-- the leaves of two trees joined by a call, the smaller path first
abbrev pub both_leaves : (Basic → Basic → Basic) → Cond → Cond → Cond
both_leaves f (LeafC x) (LeafC y) = LeafC (f x y)
both_leaves f (LeafC x) (TestC q c d) = node q (both_leaves f (LeafC x) c) (both_leaves f (LeafC x) d)
both_leaves f (TestC p a b) (LeafC y) = node p (both_leaves f a (LeafC y)) (both_leaves f b (LeafC y))
both_leaves f (TestC p a b) (TestC q c d) = by_order (path_order p q)
    (node p (both_leaves f a (TestC q c d)) (both_leaves f b (TestC q c d)))
    (node p (both_leaves f a c) (both_leaves f b d))
    (node q (both_leaves f (TestC p a b) c) (both_leaves f (TestC p a b) d))

-- a synchronized part: the test on its lock is put in at its place, and where the lock isn't held the rest is lifted
abbrev pub sync_tree : PathData → Cond → Cond
sync_tree p (LeafC b) = node p (LeafC b) (LeafC (lift_of b))
sync_tree p (TestC q a b) = by_order (path_order p q)
    (node p (TestC q a b) (each_leaf lift_of (TestC q a b)))
    (node p a (each_leaf lift_of a))
    (node q (sync_tree p a) (sync_tree p b))

-- the first tree where the path is held, else the second, with the test put in at its place
abbrev pub hold : PathData → Cond → Cond → Cond
hold p (LeafC x) (LeafC y) = node p (LeafC x) (LeafC y)
hold p (LeafC x) (TestC r c d) = by_order (path_order p r)
    (node p (LeafC x) (TestC r c d))
    (node p (LeafC x) d)
    (node r (hold p (LeafC x) c) (hold p (LeafC x) d))
hold p (TestC q a b) (LeafC y) = by_order (path_order p q)
    (node p (TestC q a b) (LeafC y))
    (node p a (LeafC y))
    (node q (hold p a (LeafC y)) (hold p b (LeafC y)))
hold p (TestC q a b) (TestC r c d) = by_order (path_order q r)
    (by_order (path_order p q)
    (node p (TestC q a b) (TestC r c d))
    (node p a (TestC r c d))
    (node q (hold p a (TestC r c d)) (hold p b (TestC r c d))))
    (by_order (path_order p q)
    (node p (TestC q a b) (TestC r c d))
    (node p a d)
    (node q (hold p a c) (hold p b d)))
    (by_order (path_order p r)
    (node p (TestC q a b) (TestC r c d))
    (node p (TestC q a b) d)
    (node r (hold p (TestC q a b) c) (hold p (TestC q a b) d)))

-- the first tree where there is a path and it is held, else the second
abbrev pub hold_some : Option PathData → Cond → Cond → Cond
hold_some None t u = u
hold_some (Some p) t u = hold p t u

-- the first tree where a partner of the path is held, else the second
abbrev pub hold_partners : List (PathData × Option PathData) → PathData → Cond → Cond → Cond
hold_partners [] q t u = u
hold_partners (pair ∷ pairs) q t u =
    if path_eq pair.0 q then hold_some pair.1 t (hold_partners pairs q t u) else hold_partners pairs q t u

-- a test on a path, as a renaming tells it
abbrev pub renamed_test : List (PathData × Option PathData) → PathData → Cond → Cond → Cond
renamed_test pairs q t u = if is_named pairs q then hold_partners pairs q t u else hold q t u

-- each test renamed, from the leaves on
abbrev pub rename_tree : List (PathData × Option PathData) → Cond → Cond
rename_tree pairs (LeafC b) = LeafC b
rename_tree pairs (TestC q a b) = renamed_test pairs q (rename_tree pairs a) (rename_tree pairs b)

-- whether the leaves of the first are at most those of the second
abbrev pub below_tree : Cond → Cond → Bool
below_tree (LeafC x) (LeafC y) = below_of x y
below_tree (LeafC x) (TestC q c d) = below_tree (LeafC x) c && below_tree (LeafC x) d
below_tree (TestC p a b) (LeafC y) = below_tree a (LeafC y) && below_tree b (LeafC y)
below_tree (TestC p a b) (TestC q c d) = by_order (path_order p q)
    (below_tree a (TestC q c d) && below_tree b (TestC q c d))
    (below_tree a c && below_tree b d)
    (below_tree (TestC p a b) c && below_tree (TestC p a b) d)
