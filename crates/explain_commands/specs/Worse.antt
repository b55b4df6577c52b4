-- Which of two statuses is worse.
use Rattle.std.specs.Prelude.{ℕ, ◌==◌, nat_lt, if◌then◌else◌}

-- how bad the status of a file is: worst is that of one that can't be read, then that of one over its limit, of one that is no well-formed
-- source, of one that is refused, of one that is accepted
abbrev pub badness : ℕ → ℕ
badness status = if status == 6 then 4 else (if status == 10 then 3 else (if status == 1 then 2 else (if status == 0 then 0 else 1)))

-- the worse of two statuses
abbrev pub worse : ℕ → ℕ → ℕ
worse status other = if nat_lt (badness status) (badness other) then other else status
