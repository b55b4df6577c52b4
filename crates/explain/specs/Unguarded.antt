-- Fields that are written though nothing guards them.
use Rattle.std.specs.Prelude.{ℕ, ◌+◌, ◌==◌, Bool, List, [], ◌∷◌, ◌++◌, Option, Some, None, option_map, if◌then◌else◌}
use Rattle.std.specs.List.{list_any}
use Rattle.algebra.specs.HeldPaths.{has_path}
use Rattle.core_program.specs.Core.{Program, Method, Stmt, SetFieldS}
use Rattle.core_program.specs.Locks.{path_of}
use Rattle.effects.specs.Parts.{Part, ExprP, StmtP}
use Rattle.rules.specs.declared.guard.Guard.{Guard}
use Rattle.rules.specs.declared.guard.Guard.TheVariants.{Free}
use Rattle.rules.specs.Guards.{guard_of}
use Rattle.explain.specs.declared.unguarded.BareWrite.{BareWrite}
use Rattle.explain.specs.Visits.{Visit, stmt_visits}

-- this field, where nothing guards it
abbrev pub if_free : Guard → ℕ → Option ℕ
if_free Free f = Some f
if_free guard f = None

-- the field that a statement writes by itself, where nothing guards it
abbrev pub bare_in : Program → Stmt → Option ℕ
bare_in P (SetFieldS e f g) = if_free (guard_of P f (path_of P e)) f
bare_in P s = None

-- the same of a part
abbrev pub bare_field : Program → Part → Option ℕ
bare_field P (ExprP e) = None
bare_field P (StmtP s) = bare_in P s

-- the write of a field that nothing guards, by a part that a walk through this method comes to; none where the part is no such write
abbrev pub bare_write : Program → ℕ → Visit → Option BareWrite
bare_write P m v = option_map (λ f. record { method = m; node = v.node; field = f }) (bare_field P v.part)

-- a write, where there is one, and these
abbrev pub with_write : Option BareWrite → List BareWrite → List BareWrite
with_write None ws = ws
with_write (Some w) ws = w ∷ ws

module _ (P : Program) where
  -- all such writes of a method by the parts that a walk through it comes to, in their order
  abbrev pub writes_of : ℕ → List Visit → List BareWrite
  writes_of m [] = []
  writes_of m (v ∷ vs) = with_write (bare_write P m v) (writes_of m vs)

  -- those of a method's body; of an `if` those of both branches
  abbrev pub writes_in : ℕ → Method → List BareWrite
  writes_in m method = writes_of m (stmt_visits P method.body 0 (has_path method.requires_) None)

  -- those of methods that are numbered from here on
  abbrev pub writes_from : ℕ → List Method → List BareWrite
  writes_from m [] = []
  writes_from m (method ∷ methods) = writes_in m method ++ writes_from (m + 1) methods

-- whether one of these writes is of this field
abbrev pub is_written : ℕ → List BareWrite → Bool
is_written f ws = list_any (λ w. w.field == f) ws

-- of writes the first of each field, but for the fields of those before them
abbrev pub first_writes : (before : List BareWrite) → List BareWrite → List BareWrite
first_writes before [] = []
first_writes before (w ∷ ws) = if is_written w.field before then first_writes before ws else w ∷ first_writes (before ++ w ∷ []) ws

-- the first write of each field that nothing guards, in source order
abbrev pub bare_writes : Program → List BareWrite
bare_writes P = first_writes [] (writes_from P 0 P.methods)
