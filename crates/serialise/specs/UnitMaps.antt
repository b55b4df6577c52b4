-- The units of a run's entries, found from the last entry to the first. A unit is known by its commit place.
use Rattle.std.specs.Prelude.{ℕ, ◌+◌, Bool, true, false, List, [], ◌∷◌, ◌++◌, replicate, Option, Some, None, unwrap_or, if◌then◌else◌}
use Rattle.semantics.specs.Units.{Entry, is_commit}
use Rattle.serialise.specs.declared.step.Step.{Step}
use Rattle.serialise.specs.declared.units.UnitTables.{UnitTables}
use Rattle.serialise.specs.Tables.{value_or, put_at}

-- by commit place how many entries the unit has, and by thread the commit place of its first unit, where there is one
pub record UnitMaps : Type 0 where
  pub sizes : ℕ → ℕ
  pub firsts : ℕ → Option ℕ

-- an entry's unit before the entry joins it: where its thread stands inside after it, the thread's first unit behind it
abbrev pub unit_for : (inside : Bool) → Option ℕ → (place : ℕ) → ℕ
unit_for true first place = unwrap_or first place
unit_for false first place = place

-- the commit place of that unit with the entry
abbrev pub commit_with : Entry → (unit : ℕ) → ℕ
commit_with e unit = if is_commit e.kind then e.place else unit

-- the sizes, where a unit has one entry more and commits here now
abbrev pub with_size : (ℕ → ℕ) → (unit commit : ℕ) → ℕ → ℕ
with_size sizes unit commit = put_at (put_at sizes unit 0) commit (sizes unit + 1)

-- the maps with one entry more, before the others, which joins this unit
abbrev pub with_unit : Entry → UnitMaps → (unit : ℕ) → UnitMaps
with_unit e maps unit = record { sizes = with_size maps.sizes unit (commit_with e unit); firsts = put_at maps.firsts e.thread (Some (commit_with e unit)) }

-- the maps with one entry more, before the others, in the unit that it belongs to
abbrev pub with_entry : Entry → UnitMaps → UnitMaps
with_entry e maps = with_unit e maps (unit_for e.inside (maps.firsts e.thread) e.place)

-- the maps of entries
abbrev pub unit_maps : List Entry → UnitMaps
unit_maps [] = record { sizes = λ place. 0; firsts = λ thread. None }
unit_maps (e ∷ es) = with_entry e (unit_maps es)

-- the maps that tables have
abbrev pub maps_of : UnitTables → UnitMaps
maps_of tables = record { sizes = value_or 0 tables.sizes.items; firsts = value_or None tables.firsts.items }

-- each step's thread, as often as the unit that commits at its place has entries; the first step has this place
abbrev pub spread : (ℕ → ℕ) → (place : ℕ) → List Step → List ℕ
spread sizes place [] = []
spread sizes place (step ∷ steps) = replicate (sizes place) step.thread ++ spread sizes (place + 1) steps
