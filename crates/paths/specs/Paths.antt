-- Lock paths as plain data: a root slot and the numbers of the fields that follow it.
use Rattle.std.specs.Prelude.{ℕ, ◌++◌, ◌∷◌, List, Bool, ◌&&◌, ◌==◌, nat_eq, nat_le, length, Option, Some, None, if◌then◌else◌}
use Rattle.std.specs.declared.cmp.Ordering.{Ordering}
use Rattle.std.specs.Ordering.{nat_cmp}
use Rattle.std.specs.Cmp.Lexicographic.{slice_cmp, pointwise}

-- a path: the slot that it begins at, and the fields that it goes through
pub record PathData : Type 0 where
  pub root : ℕ
  pub fields : List ℕ

-- the order of paths: the smaller root first, then the lists of fields, a prefix first
abbrev pub path_order : PathData → PathData → Ordering
path_order p q = slice_cmp nat_cmp (p.root ∷ p.fields) (q.root ∷ q.fields)

-- whether two paths have the same root and the same fields
abbrev pub path_eq : PathData → PathData → Bool
path_eq p q = p.root == q.root && pointwise nat_eq p.fields q.fields

-- the most fields that a path has
abbrev pub most_fields : ℕ
most_fields = 2

-- the path with more fields at its end, where it has at most two then
abbrev pub extended : PathData → List ℕ → Option PathData
extended p fields =
    if nat_le (length (p.fields ++ fields)) most_fields
    then Some (record { root = p.root; fields = p.fields ++ fields })
    else None

-- the extension of a path that may be missing
abbrev pub extended_some : Option PathData → List ℕ → Option PathData
extended_some None fields = None
extended_some (Some p) fields = extended p fields
