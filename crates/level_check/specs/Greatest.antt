-- The greatest levels of cells: each is reached over links, and no link asks for a greater one.
use Rattle.std.specs.Prelude.{◌≡◌, ℕ, ◌≤◌, max, List, [], length, Some, Contains, slice_get, unwrap_or}
use Rattle.level_check.specs.declared.link.Link.{Link}

-- the links of a cell; none where it isn't there
abbrev pub links_at : List (List Link) → ℕ → List Link
links_at rows c = unwrap_or (slice_get rows c) []

-- a cell is reached under a level: that where it starts, or over a link from a cell that is reached, the greater of the two levels. The least family with these
pub data ReachedUnder (rows : List (List Link)) (start : List ℕ) : ℕ → ℕ → Type 0 where
  at_start : {c u : ℕ} → slice_get start c ≡ Some u → ReachedUnder rows start c u
  over_link : {c u : ℕ} (link : Link) → ReachedUnder rows start c u → Contains (links_at rows c) link → ReachedUnder rows start link.to (max u link.level)

-- a level for each cell, which is reached, and is at least what each link asks
pub record AreGreatest (rows : List (List Link)) (start x : List ℕ) : Type 0 where
  pub count : length x ≡ length start
  pub reached : (c u : ℕ) → slice_get x c ≡ Some u → ReachedUnder rows start c u
  pub closed : (c u v : ℕ) (link : Link) → slice_get x c ≡ Some u → Contains (links_at rows c) link → slice_get x link.to ≡ Some v → max u link.level ≤ v
