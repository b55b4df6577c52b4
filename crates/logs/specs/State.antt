-- What a judge knows.
use Rattle.std.specs.Prelude.{ℕ, not, ◌==◌, Option, Some, None}
use Rattle.logs.specs.Judging.{Known}
use Rattle.logs.specs.declared.judge.Judge.{Judge}
use Rattle.logs.specs.declared.judge.Phase.{Phase}
use Rattle.logs.specs.Views.{known_cells}
use Rattle.logs.specs.Tables.{value_in_table}

-- in how many blocks a thread of this phase is; it is in none where nothing is known of it
abbrev pub depth_of : Option Phase → ℕ
depth_of None = 0
depth_of (Some p) = p.depth

-- the line of the first Left or Other step in the outermost of these blocks; 0 where there is none
abbrev pub commit_of : Option Phase → ℕ
commit_of None = 0
commit_of (Some p) = p.commit

abbrev pub known_of : Judge → Known
known_of judge = record {
  cells = known_cells judge.cells;
  depth = λ t. depth_of (value_in_table judge.phases t);
  committed = λ t. not (commit_of (value_in_table judge.phases t) == 0);
}
