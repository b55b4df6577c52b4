-- Class tables without circles, and orders in which each class comes after the one that it extends.
use Rattle.std.specs.Prelude.{◌≡◌, ℕ, ◌<◌, ◌==◌, Bool, true, false, List, [], ◌∷◌, ◌++◌, Option, Some, map, length, position, bytes_eq, unwrap_or, slice_get}
use Rattle.std.specs.List.{AllByRecursion, list_any}
use Rattle.base.specs.Ancestors.{AreBelow, IsAncestor}
use Rattle.classes.specs.Table.{TableData, ClassData, MethodData, above_in_table}

-- ---- class tables

-- where the methods of the class with number k stand among all methods; each of them is the first of its name there
pub record IsOwnPart (t : TableData) (k : ℕ) (c : ClassData) : Type 0 where
  pub before : List MethodData
  pub own : List MethodData
  pub after : List MethodData
  pub whole : t.methods ≡ before ++ (own ++ after)
  pub first : length before ≡ c.first_method
  pub names : map (λ m. m.name) own ≡ c.method_names
  pub others_before : AllByRecursion (λ m. (k == m.class) ≡ false) before
  pub mine : AllByRecursion (λ m. m.class ≡ k) own
  pub others_after : AllByRecursion (λ m. (k == m.class) ≡ false) after
  pub once : (i : ℕ) (m : MethodData) → slice_get own i ≡ Some m → position (bytes_eq m.name) c.method_names ≡ Some i

-- the class above a class is there, no class is its own ancestor, and the methods of each class stand together
pub record IsLined (t : TableData) : Type 0 where
  pub below : AreBelow (above_in_table t) (length t.classes)
  pub apart : (c : ℕ) → IsAncestor (above_in_table t) c c → ⊥
  pub methods : (k : ℕ) (c : ClassData) → slice_get t.classes k ≡ Some c → IsOwnPart t k c
  pub owned : (n : ℕ) (m : MethodData) → slice_get t.methods n ≡ Some m → m.class < length t.classes

-- ---- orders

-- whether a number stands in a list
abbrev pub stands_in : List ℕ → ℕ → Bool
stands_in xs c = list_any (λ x. x == c) xs

-- each number of the list comes after the one above it, which may stand before the list
abbrev pub ComeAfter : (ℕ → Option ℕ) → List ℕ → List ℕ → Type 0
ComeAfter above seen [] = Unit {0}
ComeAfter above seen (c ∷ cs) = ((d : ℕ) → above c ≡ Some d → stands_in seen d ≡ true) × ComeAfter above (seen ++ c ∷ []) cs

-- all numbers below the count, and no others, each after the one above it
pub record IsFromAbove (above : ℕ → Option ℕ) (count : ℕ) (order : List ℕ) : Type 0 where
  pub all : (c : ℕ) → c < count → stands_in order c ≡ true
  pub within : (c : ℕ) → stands_in order c ≡ true → c < count
  pub after : ComeAfter above [] order

-- ---- how such an order is made

-- whether a number is marked
abbrev pub is_marked : List Bool → ℕ → Bool
is_marked marks c = unwrap_or (slice_get marks c) false

-- from what may be above, numbers each of which is above the one before it, to what is above the last
abbrev pub Climbs : (ℕ → Option ℕ) → Option ℕ → List ℕ → Option ℕ → Type 0
Climbs above from [] to = from ≡ to
Climbs above from (c ∷ cs) to = (from ≡ Some c) × Climbs above (above c) cs to

-- numbers from this one upwards, up to the top or to one that passes a test
pub record IsClimb (above : ℕ → Option ℕ) (passes : ℕ → Bool) (c : ℕ) (line : List ℕ) : Type 0 where
  pub to : Option ℕ
  pub climbs : Climbs above (Some c) line to
  pub ends : (d : ℕ) → to ≡ Some d → passes d ≡ true

-- numbers that stand after those above them, all numbers that are marked among them
pub record IsAncestorOrder (above : ℕ → Option ℕ) (count : ℕ) (marks : List Bool) (order : List ℕ) : Type 0 where
  pub many : length marks ≡ count
  pub marked : (c : ℕ) → is_marked marks c ≡ true → stands_in order c ≡ true
  pub within : (c : ℕ) → stands_in order c ≡ true → c < count
  pub after : ComeAfter above [] order
