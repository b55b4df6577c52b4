-- Cells that are reached over calls, each with a level under which it is, and the links between them.
use Rattle.std.specs.Prelude.{◌≡◌, ◌⊎◌, ◌<◌, ◌≤◌, ℕ, false, max, List, [], ◌∷◌, ◌++◌, length, Option, Some, None, Contains, slice_get}
use Rattle.algebra.specs.HeldPaths.{Held, has_path}
use Rattle.core_program.specs.Core.{Class}
use Rattle.level_check.specs.declared.told.Callee.{Callee}
use Rattle.level_check.specs.Told.{ToldLevel, Calls, Wrong, itself}
use Rattle.level_check.specs.declared.link.Link.{Link}
use Rattle.level_check.specs.Greatest.{links_at}
use Rattle.level_check.specs.declared.cells.Cell.{Cell}
use Rattle.level_check.specs.declared.cells.Cells.{Cells}

-- the paths that are held in a cell
abbrev pub set_of : Cell → Held
set_of cell = has_path cell.held.items

-- cells, and a level of each
pub record Queue : Type 0 where
  pub cells : List Cell
  pub levels : List ℕ

-- the cells that the search has found, and their levels, as plain data
abbrev pub queue_of : Cells → Queue
queue_of s = record { cells = s.known.keys; levels = s.levels.items }

-- as many levels as cells
abbrev pub IsEven : Queue → Type 0
IsEven q = length q.levels ≡ length q.cells

-- the cell at a place is of this callee with this set
pub record IsAt (cells : List Cell) (c : ℕ) (m : Callee) (H : Held) : Type 0 where
  pub cell : Cell
  pub there : slice_get cells c ≡ Some cell
  pub of_callee : cell.callee ≡ m
  pub set : set_of cell ≡ H

-- some cell is
abbrev pub HasCell : List Cell → Callee → Held → Type 0
HasCell cells m H = (c : ℕ) × IsAt cells c m H

-- the cell at a place has this level
pub record HasLevel (q : Queue) (c : ℕ) (cell : Cell) (u : ℕ) : Type 0 where
  pub there : slice_get q.cells c ≡ Some cell
  pub under : slice_get q.levels c ≡ Some u

-- the queue is the same, or has one more cell, which is of this callee with this set, with this level
abbrev pub IsMore : Queue → Callee → Held → ℕ → Queue → Type 0
IsMore old m H level new = (new ≡ old) ⊎ ((cell : Cell) × (cell.callee ≡ m) × (set_of cell ≡ H) × (new ≡ record { cells = old.cells ++ cell ∷ []; levels = old.levels ++ level ∷ [] }))

-- a cell was found at this place, or was added there with a level
pub record IsAdded (old : Queue) (m : Callee) (H : Held) (level at : ℕ) (new : Queue) : Type 0 where
  pub found : IsAt new.cells at m H
  pub more : IsMore old m H level new

-- the method of a class that runs first, if it has one
abbrev pub run_in : Option ℕ → List ℕ
run_in None = []
run_in (Some m) = m ∷ []

-- those of classes
abbrev pub runs_of : List Class → List ℕ
runs_of [] = []
runs_of (c ∷ cs) = run_in c.run ++ runs_of cs

-- the cells are those of these methods alone, with nothing held, under level 0
pub record AreFirstCells (ms : List ℕ) (q : Queue) : Type 0 where
  pub even : IsEven q
  pub each : (m : ℕ) → Contains ms m → HasCell q.cells (itself m) (λ p. false)
  pub only : (c u : ℕ) (cell : Cell) → HasLevel q c cell u → (m : ℕ) × Contains ms m × (cell.callee ≡ itself m) × (set_of cell ≡ (λ p. false)) × (u ≡ 0)

-- the links lead to the cells of what is called, and to no others
pub record AreCellLinks (cells : List Cell) (told : List ToldLevel) (links : List Link) : Type 0 where
  pub each : (m : Callee) (H : Held) (w : ℕ) → Contains told (Calls m H w) → (link : Link) × Contains links link × (link.level ≡ w) × IsAt cells link.to m H
  pub only : (link : Link) → Contains links link → (cell : Cell) × (slice_get cells link.to ≡ Some cell) × Contains told (Calls cell.callee (set_of cell) link.level)

-- a call that is told was linked to its cell, which was found, or added with the greater of its level and this one; nothing else changes anything
abbrev pub IsLinked : ToldLevel → ℕ → Queue → Queue → List Link → List Link → Type 0
IsLinked (Calls m H w) from old new links longer = (link : Link) × (longer ≡ links ++ link ∷ []) × (link.level ≡ w) × IsAdded old m H (max from w) link.to new
IsLinked (Wrong p c u) from old new links longer = (new ≡ old) × (longer ≡ links)

-- the cells of what is called were added, each with the greater of its level and this one
pub record AreAdded (told : List ToldLevel) (from : ℕ) (old new : Queue) (links : List Link) : Type 0 where
  pub even : IsEven new
  pub kept : (c : ℕ) (cell : Cell) → slice_get old.cells c ≡ Some cell → slice_get new.cells c ≡ Some cell
  pub linked : AreCellLinks new.cells told links
  pub levels : (c u : ℕ) (cell : Cell) → HasLevel new c cell u → HasLevel old c cell u ⊎ ((w : ℕ) × Contains told (Calls cell.callee (set_of cell) w) × (u ≡ max from w))

-- what is told of a callee, at a set, and under a level
abbrev pub Telling : Type 0
Telling = Callee → Held → ℕ → List ToldLevel

-- the cells that the cell at this place calls were added
abbrev pub AreFollowed : Telling → Queue → ℕ → Queue → List Link → Type 0
AreFollowed tell old at new links = (cell : Cell) (u : ℕ) → HasLevel old at cell u → AreAdded (tell cell.callee (set_of cell) 0) u old new links

-- a callee is called with a set under a level: it is a cell with this level, or another is told to call it, under the greater of its level and the caller's. The
-- least family with these
pub data IsCalled (tell : Telling) (start : Queue) : Callee → Held → ℕ → Type 0 where
  called_first : {c u : ℕ} (cell : Cell) → HasLevel start c cell u → IsCalled tell start cell.callee (set_of cell) u
  called_next : {m : Callee} {u : ℕ} {H : Held} (k : Callee) (K : Held) (w : ℕ) → IsCalled tell start m H u → Contains (tell m H 0) (Calls k K w) → IsCalled tell start k K (max u w)

-- each cell is called under its level; the first ones have links, and were followed
pub record AreCalledUnder (tell : Telling) (start q : Queue) (rows : List (List Link)) : Type 0 where
  pub even : IsEven q
  pub kept : (c : ℕ) (cell : Cell) → slice_get start.cells c ≡ Some cell → slice_get q.cells c ≡ Some cell
  pub levels : (c u : ℕ) (cell : Cell) → HasLevel q c cell u → IsCalled tell start cell.callee (set_of cell) u
  pub within : length rows ≤ length q.levels
  pub links : (c : ℕ) (cell : Cell) → c < length rows → slice_get q.cells c ≡ Some cell → AreCellLinks q.cells (tell cell.callee (set_of cell) 0) (links_at rows c)

-- all were followed
pub record AreAllFollowed (tell : Telling) (start q : Queue) (rows : List (List Link)) : Type 0 where
  pub reached : AreCalledUnder tell start q rows
  pub all : length rows ≡ length q.levels
