-- What is told of a method alone, by its walk, and of any that may run for it.
use Rattle.std.specs.Prelude.{ℕ, List, [], ◌∷◌, map, Option, Some, None, slice_get, if◌then◌else◌}
use Rattle.paths.specs.Paths.{PathData}
use Rattle.algebra.specs.HeldPaths.{Held}
use Rattle.core_program.specs.Core.{Program, Method}
use Rattle.core_program.specs.Views.{program_of}
use Rattle.rules.specs.Near.{rel_of}
use Rattle.rules.specs.Rules.{held_in}
use Rattle.rules.specs.Search.{row_at}
use Rattle.levels.specs.Walks.{level_in, body_visits}
use Rattle.level_check.specs.declared.told.Callee.{Callee}
use Rattle.level_check.specs.Told.{ToldLevel, Calls, CallTold, OriginOf, origin_in, itself, any_of, tell_call, told}
use Rattle.level_check.specs.declared.judged.Judged.{Judged}

-- what the walk of a method tells at a set and under a level, where the method is there
abbrev pub body_told : Program → (ℕ → List PathData) → (ℕ → ℕ) → CallTold → Option Method → Held → ℕ → List ToldLevel
body_told P rel level call None H under = []
body_told P rel level call (Some method) H under = told call (body_visits P rel level method H under)

-- the same in the program that is judged
abbrev pub told_by : Judged → Option Method → Held → ℕ → List ToldLevel
told_by j method H under = body_told (program_of j.program.now) (rel_of j.sets.now) (level_in j.levels.now) (tell_call (row_at j.over.now) (origin_in j.origins.now.entries)) method H under

-- any that may run for a method: itself with what it knows of the set, and any that may run for those that override it next
abbrev pub spread_told : (ℕ → List PathData) → (ℕ → List ℕ) → ℕ → Held → List ToldLevel
spread_told rel over m H = Calls (itself m) (held_in (rel m) H) 0 ∷ map (λ k. Calls (any_of k) H 0) (over m)

-- what is told of a callee at a set and under a level
abbrev pub callee_told : Program → (ℕ → List PathData) → (ℕ → ℕ) → (over : ℕ → List ℕ) (origin : OriginOf) → Callee → Held → ℕ → List ToldLevel
callee_told P rel level over origin c H under = if c.alone then body_told P rel level (tell_call over origin) (slice_get P.methods c.method) H under else spread_told rel over c.method H

-- the same in the program that is judged
abbrev pub told_from : Judged → Callee → Held → ℕ → List ToldLevel
told_from j = callee_told (program_of j.program.now) (rel_of j.sets.now) (level_in j.levels.now) (row_at j.over.now) (origin_in j.origins.now.entries)
