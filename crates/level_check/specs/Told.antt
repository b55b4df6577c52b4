-- What a walk in code tells: for each call what may run there, with the paths that are known.
use Rattle.std.specs.Prelude.{ℕ, ◌==◌, ◌||◌, true, false, List, [], ◌∷◌, length, map, nat_lt, Option, Some, None, if◌then◌else◌}
use Rattle.std.specs.Map.{lookup}
use Rattle.paths.specs.Paths.{PathData, path_eq}
use Rattle.algebra.specs.HeldPaths.{Held, has_path}
use Rattle.core_program.specs.Views.{program_of}
use Rattle.core_program.specs.Core.{Expr, Exprs, Stmt, Stmts}
use Rattle.rules.specs.Near.{rel_of}
use Rattle.rules.specs.Search.{row_at}
use Rattle.levels.specs.Walks.{LevelVisit, Comes, Bad, level_in, expr_visits, exprs_visits, visits, block_visits}
use Rattle.level_check.specs.declared.told.Callee.{Callee}
use Rattle.level_check.specs.declared.told.Seen.{Seen}
use Rattle.level_check.specs.declared.told.Seen.TheVariants as seen
use Rattle.level_check.specs.declared.walk.Walk.{Walk}

-- what may run, with what is known to be held, under a level; or a bad `synchronized` with its place, the lock's class and the level
pub data ToldLevel : Type 0 where
  Calls : Callee → Held → ℕ → ToldLevel
  Wrong : ℕ → ℕ → ℕ → ToldLevel

-- a method itself
abbrev pub itself : ℕ → Callee
itself m = record { method = m; alone = true }

-- any of a method and those that override it
abbrev pub any_of : ℕ → Callee
any_of m = record { method = m; alone = false }

-- the origin of a path: a method that knows it, where there is one
abbrev pub OriginOf : Type 0
OriginOf = PathData → Option ℕ

-- the origin that a table has for a path
abbrev pub origin_in : List (PathData × ℕ) → OriginOf
origin_in entries p = lookup (path_eq p) entries

-- what the origin of a path knows of it
abbrev pub known_to_origin : Option ℕ → (ℕ → Held) → Held
known_to_origin None known p = false
known_to_origin (Some k) known p = known k p

-- what a method knows of a path, or else the path's origin
abbrev pub known_to : ℕ → OriginOf → (ℕ → Held) → Held
known_to m origin known p = known m p || known_to_origin (origin p) known p

-- what a call tells of its callee, of what is known to each method, and of its level
abbrev pub CallTold : Type 0
CallTold = ℕ → (ℕ → Held) → ℕ → ToldLevel

-- where these methods override others next: the callee alone where none overrides it; else any that may run, with each path that the callee or the
-- path's origin knows
abbrev pub tell_call : (over : ℕ → List ℕ) (origin : OriginOf) → CallTold
tell_call over origin m known under = if length (over m) == 0 then Calls (itself m) (known m) under else Calls (any_of m) (known_to m origin known) under

-- what a visit tells
abbrev pub visit_tells : CallTold → LevelVisit → ToldLevel
visit_tells call (Comes m known under) = call m known under
visit_tells call (Bad place class under) = Wrong place class under

-- what visits tell
abbrev pub told : CallTold → List LevelVisit → List ToldLevel
told call vs = map (visit_tells call) vs

-- what a `synchronized` on a path that isn't held tells before its part: that it is bad, where the lock's level isn't above the walk's
abbrev pub told_bad : (place class under level : ℕ) → List ToldLevel
told_bad place class under level = if nat_lt under level then [] else Wrong place class under ∷ []

-- what was seen as plain data
abbrev pub told_level_of : Seen → ToldLevel
told_level_of (seen.Comes callee held under) = Calls callee (has_path held.items) under
told_level_of (seen.Bad place class under) = Wrong place class under

-- what a call tells in this walk
abbrev pub call_in : Walk → CallTold
call_in w = tell_call (row_at w.over.now) (origin_in w.origins.now.entries)

-- what the parts of a body tell in this walk
abbrev pub expr_told : Walk → Expr → Held → ℕ → List ToldLevel
expr_told w e H under = told (call_in w) (expr_visits (program_of w.program.now) (rel_of w.sets.now) e H under)

-- what the arguments of a call or of `new` tell in this walk
abbrev pub exprs_told : Walk → Exprs → Held → ℕ → List ToldLevel
exprs_told w es H under = told (call_in w) (exprs_visits (program_of w.program.now) (rel_of w.sets.now) es H under)

-- what a statement tells, whose first `synchronized` has this place
abbrev pub stmt_told : Walk → Stmt → ℕ → Held → ℕ → List ToldLevel
stmt_told w s place H under = told (call_in w) (visits (program_of w.program.now) (rel_of w.sets.now) (level_in w.levels.now) w.slots.now s place H under)

-- what the statements of a block tell, whose first `synchronized` has this place
abbrev pub block_told : Walk → Stmts → ℕ → Held → ℕ → List ToldLevel
block_told w ss place H under = told (call_in w) (block_visits (program_of w.program.now) (rel_of w.sets.now) (level_in w.levels.now) w.slots.now ss place H under)
