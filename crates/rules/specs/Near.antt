-- Relevant paths: the locks that matter for a method, as a least family over all methods.
use Rattle.std.specs.Prelude.{◌≡◌, ◌↔◌, ℕ, zero, suc, ◌<◌, ◌≤◌, Bool, true, List, [], ◌∷◌, length, Option, Some, None, Contains, slice_get}
use Rattle.std.specs.List.Sorted.{IsStrictlySortedBy}
use Rattle.paths.specs.Paths.{PathData, path_order, extended}
use Rattle.paths.specs.Renamings.{under_call}
use Rattle.algebra.specs.HeldPaths.{has_path}
use Rattle.core_program.specs.Core.{Program, Method, Expr, Exprs}
use Rattle.core_program.specs.Dispatch.{has_field, Overrides}
use Rattle.core_program.specs.Locks.{path_of}
use Rattle.rules.specs.Guards.{guard_of, guard_path}
use Rattle.rules.specs.Mentions.{Mention, Accesses, Calls, Locks, Names, mentions, paths_of}

-- the body of the method mentions this
abbrev pub Mentions : Program → ℕ → Mention → Type 0
Mentions P m x = (method : Method) × (slice_get P.methods m ≡ Some method) × Contains (mentions method.body) x

-- the method requires this path
abbrev pub Requires : Program → ℕ → PathData → Type 0
Requires P m p = (method : Method) × (slice_get P.methods m ≡ Some method) × Contains method.requires_ p

-- the path is rooted at the method's `this` or a parameter
abbrev pub IsOuter : Program → ℕ → PathData → Type 0
IsOuter P m p = (method : Method) × (slice_get P.methods m ≡ Some method) × (p.root ≤ length method.params)

-- the path is rooted at a local of the method
abbrev pub IsInner : Program → ℕ → PathData → Type 0
IsInner P m p = (method : Method) × (slice_get P.methods m ≡ Some method) × (length method.params < p.root)

-- a path of `this` begins with a field that the class has; other paths may begin with any
abbrev pub begins_in : Program → ℕ → ℕ → List ℕ → Bool
begins_in P class (suc x) fields = true
begins_in P class zero [] = true
begins_in P class zero (f ∷ fs) = has_field P class f

-- the method knows the first field of the path
abbrev pub IsKnown : Program → ℕ → PathData → Type 0
IsKnown P m p = (method : Method) × (slice_get P.methods m ≡ Some method) × (begins_in P method.class p.root p.fields ≡ true)

module _ (P : Program) where
  -- the paths near a method: the least family with these
  pub data Near : ℕ → PathData → Type 0 where
    -- a required path
    required : {m : ℕ} {p : PathData} → Requires P m p → Near m p
    -- the path of a `synchronized`
    locked : {m : ℕ} {p : PathData} → Mentions P m (Locks p) → Near m p
    -- the guard's path of an access, where it is named; also of a guard of writes only
    guarded : {m : ℕ} {p : PathData} (e : Expr) (f : ℕ) → Mentions P m (Accesses e f) → guard_path (guard_of P f (path_of P e)) ≡ Some p → Near m p
    -- a callee's relevant path as it is called here, where that is defined
    called : {m : ℕ} {p : PathData} (e : Expr) (callee : ℕ) (args : Exprs) (q : PathData) → Mentions P m (Calls e callee args) → Near callee q → IsOuter P callee q → under_call (path_of P e) (paths_of P args) q ≡ Some p → Near m p
    -- a relevant path of a method that overrides this one, where this one's class knows its first field
    overriding : {m : ℕ} {p : PathData} (over : ℕ) → Overrides P over m → Near over p → IsOuter P over p → IsKnown P m p → Near m p
    -- what a path rooted at a final local is from the path of the local's value, where it has at most two fields
    named : {m : ℕ} {p : PathData} (q : PathData) (e : Expr) (start : PathData) → Near m q → Mentions P m (Names q.root e) → path_of P e ≡ Some start → extended start q.fields ≡ Some p → Near m p

  -- the relevant paths of a method: those that its callers can know
  abbrev pub IsRel : ℕ → PathData → Type 0
  IsRel m p = Near m p × IsOuter P m p

  -- the paths near a method that are rooted at its locals
  abbrev pub IsLoc : ℕ → PathData → Type 0
  IsLoc m p = Near m p × IsInner P m p

-- the two sets of a method as lists
pub record MethodPaths : Type 0 where
  pub rel : List PathData
  pub loc : List PathData

-- the lists ascend and have exactly the paths of the method
pub record ArePathsOf (P : Program) (m : ℕ) (paths : MethodPaths) : Type 0 where
  pub rel : (p : PathData) → (has_path paths.rel p ≡ true) ↔ IsRel P m p
  pub loc : (p : PathData) → (has_path paths.loc p ≡ true) ↔ IsLoc P m p
  pub rel_ascends : IsStrictlySortedBy path_order paths.rel
  pub loc_ascends : IsStrictlySortedBy path_order paths.loc

-- the sets of all methods, in order
pub record AreRelevant (P : Program) (sets : List MethodPaths) : Type 0 where
  pub count : length sets ≡ length P.methods
  pub each : (m : ℕ) (paths : MethodPaths) → slice_get sets m ≡ Some paths → ArePathsOf P m paths

-- the relevant paths of a method, where it is there
abbrev pub rel_paths : Option MethodPaths → List PathData
rel_paths None = []
rel_paths (Some paths) = paths.rel

-- the local paths of a method, where it is there
abbrev pub loc_paths : Option MethodPaths → List PathData
loc_paths None = []
loc_paths (Some paths) = paths.loc

-- the relevant paths of a method; none where the method isn't there
abbrev pub rel_of : List MethodPaths → ℕ → List PathData
rel_of sets m = rel_paths (slice_get sets m)

-- the local paths of a method; none where the method isn't there
abbrev pub loc_of : List MethodPaths → ℕ → List PathData
loc_of sets m = loc_paths (slice_get sets m)

-- the most paths of each kind that a method may have
abbrev pub most_locks : ℕ
most_locks = 8

-- each method has few enough
pub record AreFew (sets : List MethodPaths) : Type 0 where
  pub rel : (m : ℕ) → length (rel_of sets m) ≤ most_locks
  pub loc : (m : ℕ) → length (loc_of sets m) ≤ most_locks

-- a core program is well-formed: it has sets of relevant paths, of at most 8 each
abbrev pub IsWellFormed : Program → Type 0
IsWellFormed P = (sets : List MethodPaths) × AreRelevant P sets × AreFew sets
