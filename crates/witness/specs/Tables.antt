-- Tables of counts by the numbers of threads.
use Rattle.std.specs.Prelude.{ℕ, List, unwrap_or, slice_get}

-- the count of a thread; 0 where the table has none
abbrev pub count_at : List ℕ → ℕ → ℕ
count_at table t = unwrap_or (slice_get table t) 0
