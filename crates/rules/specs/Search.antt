-- What the search for near paths keeps: a list of paths for each method, and the queue of the places found so far.
use Rattle.std.specs.Prelude.{◌≡◌, ◌↔◌, ℕ, ◌<◌, true, ◌==◌, List, [], ◌∷◌, ◌++◌, map, Option, Some, None, if◌then◌else◌, Contains, Vec, slice_get}
use Rattle.std.specs.List.Sorted.{IsStrictlySortedBy}
use Rattle.std.specs.declared.alloc.Global.{Global}
use Rattle.paths.specs.Paths.{PathData, path_order}
use Rattle.core_program.specs.Core.{Program}
use Rattle.algebra.specs.HeldPaths.{has_path}
use Rattle.rules.specs.declared.clauses.NearPath.{NearPath}
use Rattle.rules.specs.declared.clauses.Link.{Link}
use Rattle.rules.specs.declared.clauses.Clause.{Clause}
use Rattle.rules.specs.declared.clauses.Clause.TheVariants as clause
use Rattle.rules.specs.Clauses.{led_by, ReachedPath}

-- a row that may be missing, which then is empty
abbrev pub row_or_none : {A : Type 0} → Option (List A) → List A
row_or_none None = []
row_or_none (Some row) = row

-- the list of a method; empty where it has none
abbrev pub row_at : {A : Type 0} → List (List A) → ℕ → List A
row_at rows m = row_or_none (slice_get rows m)

-- lists in memory as plain data
abbrev pub rows_of : {A : Type 0} → List (Vec A Global) → List (List A)
rows_of rows = map (λ row. row.items) rows

-- the link leads from the first place to the second
pub record LinkLeads (P : Program) (link : Link) (from to : NearPath) : Type 0 where
  pub path : led_by P link.way from.path ≡ Some to.path
  pub method : to.method ≡ link.to

-- one of the links leads from the first place to the second
abbrev pub IsLed : Program → List Link → NearPath → NearPath → Type 0
IsLed P links from to = (link : Link) × Contains links link × LinkLeads P link from to

-- the links of a method, and that of the clause if it is one of this method
abbrev pub with_link : Clause → ℕ → List Link → List Link
with_link (clause.Fact x) m links = links
with_link (clause.Leads link) m links = if m == link.from then links ++ link ∷ [] else links

-- the links of each method are those of the clauses
pub record AreClauseLinks (clauses : List Clause) (links : List (List Link)) : Type 0 where
  pub exact : (m : ℕ) (link : Link) → Contains (row_at links m) link ↔ (Contains clauses (clause.Leads link) × (link.from ≡ m))

-- the lists ascend, and have the paths of the places in the queue
pub record ListsAgree (near : List (List PathData)) (queue : List NearPath) : Type 0 where
  pub ascends : (m : ℕ) → IsStrictlySortedBy path_order (row_at near m)
  pub same : (m : ℕ) (p : PathData) → (has_path (row_at near m) p ≡ true) ↔ Contains queue (record { method = m; path = p })

-- the queue has become longer by some of the next places, and has them all
pub record GrowsByNext (queue : List NearPath) (IsNext : NearPath → Type 0) (near : List (List PathData)) (longer : List NearPath) : Type 0 where
  pub agree : ListsAgree near longer
  pub added : List NearPath
  pub is : longer ≡ queue ++ added
  pub only : (x : NearPath) → Contains added x → IsNext x
  pub each : (x : NearPath) → IsNext x → Contains longer x

-- the queue has the places of the clauses' facts
pub record HasFacts (clauses : List Clause) (near : List (List PathData)) (queue : List NearPath) : Type 0 where
  pub agree : ListsAgree near queue
  pub facts : (x : NearPath) → Contains queue x ↔ Contains clauses (clause.Fact x)

-- the queue has all facts and nothing that isn't reached, and what its first places lead to
pub record HasDone (P : Program) (clauses : List Clause) (links : List (List Link)) (next : ℕ) (near : List (List PathData)) (queue : List NearPath) : Type 0 where
  pub agree : ListsAgree near queue
  pub starts : (x : NearPath) → Contains clauses (clause.Fact x) → Contains queue x
  pub sound : (x : NearPath) → Contains queue x → ReachedPath P clauses x.method x.path
  pub done : (k : ℕ) (x y : NearPath) → k < next → slice_get queue k ≡ Some x → IsLed P (row_at links x.method) x y → Contains queue y

-- the lists ascend, and have exactly the paths that are reached
pub record IsLeastFamily (P : Program) (clauses : List Clause) (near : List (List PathData)) : Type 0 where
  pub ascends : (m : ℕ) → IsStrictlySortedBy path_order (row_at near m)
  pub exact : (m : ℕ) (p : PathData) → (has_path (row_at near m) p ≡ true) ↔ ReachedPath P clauses m p
