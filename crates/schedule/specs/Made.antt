-- The rounds as they are made, call by call.
use Rattle.std.specs.Prelude.{ℕ, zero, suc, ◌+◌, ◌-◌, List, [], ◌∷◌, ◌++◌, replicate}

-- two workers step by turns, so many times
abbrev pub by_turns : ℕ → ℕ → ℕ → List ℕ
by_turns zero first second = []
by_turns (suc n) first second = first ∷ second ∷ by_turns n first second

-- the workers from the first to the last of so many
abbrev pub each_once : ℕ → ℕ → List ℕ
each_once first zero = []
each_once first (suc n) = first ∷ each_once (first + 1) n

-- that, so many times
abbrev pub each_times : ℕ → ℕ → List ℕ
each_times zero n = []
each_times (suc k) n = each_once 1 n ++ each_times k n

-- a worker gives the lock back to the next one, and goes on for so many steps while that one does; then the next one goes on alone
abbrev pub handed : (both alone worker : ℕ) → List ℕ
handed both alone worker = by_turns both worker (worker + 1) ++ replicate alone (worker + 1)

-- from this worker on, the lock is handed on so many times
abbrev pub handed_on : (both alone worker n : ℕ) → List ℕ
handed_on both alone worker zero = []
handed_on both alone worker (suc n) = handed both alone worker ++ handed_on both alone (worker + 1) n

-- the last worker gives the lock back to the first one
abbrev pub handed_back : ℕ → List ℕ
handed_back n = n ∷ (by_turns 5 1 n ++ replicate 2 1)

-- so many calls of each worker but the last call, the first worker holding the lock
abbrev pub called : ℕ → ℕ → List ℕ
called zero n = []
called (suc k) n = handed_on 6 1 1 (n - 1) ++ handed_back n ++ called k n

-- the rounds of two workers or more
abbrev pub several_rounds : ℕ → List ℕ
several_rounds n = each_times 5 n ++ replicate 7 1 ++ called 7 n ++ handed_on 3 4 1 (n - 1) ++ replicate 3 n
