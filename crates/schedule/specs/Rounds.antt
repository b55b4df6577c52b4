-- The schedule for a number of workers: the main thread to its end, then the workers in rounds until each is done.
use Rattle.std.specs.Prelude.{◌≡◌, ℕ, ◌+◌, ◌*◌, ◌==◌, ◌&&◌, ◌||◌, not, nat_le, nat_lt, Bool, true, false, List, [], ◌∷◌, ◌++◌, replicate}
use Rattle.std.specs.List.{list_all, list_any}

-- how many steps the main thread takes, which starts so many workers
abbrev pub main_steps : ℕ → ℕ
main_steps n = 4 + 3 * n

-- how many steps each worker takes
abbrev pub worker_steps : ℕ
worker_steps = 106

-- the eight calls of a worker
abbrev pub calls : List ℕ
calls = 0 ∷ 1 ∷ 2 ∷ 3 ∷ 4 ∷ 5 ∷ 6 ∷ 7 ∷ []

-- the steps, counted from 1, by which a worker takes the lock in a call, and gives it back
abbrev pub acquire_of : ℕ → ℕ
acquire_of call = 6 + 13 * call

-- the step by which a worker gives the lock back in a call, seven steps after it took it
abbrev pub release_of : ℕ → ℕ
release_of call = 13 + 13 * call

-- whether a worker that has taken so many steps would take the lock with the next
abbrev pub would_acquire : ℕ → Bool
would_acquire taken = list_any (λ call. acquire_of call == taken + 1) calls

-- whether a worker that has taken so many steps holds the lock
abbrev pub worker_holds : ℕ → Bool
worker_holds taken = list_any (λ call. nat_le (acquire_of call) taken && nat_lt taken (release_of call)) calls

-- whether a worker steps in its turn, where `held` says whether one before it holds the lock, and those behind it have taken so many steps:
-- it isn't done, and doesn't wait for the lock that another holds
abbrev pub goes : Bool → ℕ → List ℕ → Bool
goes held taken behind = nat_lt taken worker_steps && not (would_acquire taken && (held || list_any worker_holds behind))

-- how many steps a worker has taken after its turn
abbrev pub turns_taken : Bool → ℕ → ℕ
turns_taken true taken = taken + 1
turns_taken false taken = taken

-- the worker of this number, where it steps
abbrev pub worker_entry : Bool → ℕ → List ℕ
worker_entry true worker = worker ∷ []
worker_entry false worker = []

-- how many steps each worker has taken after a round
abbrev pub steps_after : Bool → List ℕ → List ℕ
steps_after held [] = []
steps_after held (taken ∷ behind) = let now = turns_taken (goes held taken behind) taken in now ∷ steps_after (held || worker_holds now) behind

-- the workers that step in a round, in ascending order, from this number on
abbrev pub steps_of_round : Bool → ℕ → List ℕ → List ℕ
steps_of_round held worker [] = []
steps_of_round held worker (taken ∷ behind) = worker_entry (goes held taken behind) worker ++ steps_of_round (held || worker_holds (turns_taken (goes held taken behind) taken)) (worker + 1) behind

-- whether each worker is done
abbrev pub are_done : List ℕ → Bool
are_done all = list_all (λ taken. taken == worker_steps) all

-- the rounds of workers that have taken so many steps, until each is done
pub data AreRounds : List ℕ → List ℕ → Type 0 where
  ended : {all : List ℕ} → are_done all ≡ true → AreRounds all []
  round : {all rest : List ℕ} → are_done all ≡ false → AreRounds (steps_after false all) rest → AreRounds all (steps_of_round false 1 all ++ rest)

-- the schedule for so many workers
pub record IsGenerated (n : ℕ) (schedule : List ℕ) : Type 0 where
  pub rounds : List ℕ
  pub are : AreRounds (replicate n 0) rounds
  pub is : schedule ≡ replicate (main_steps n) 0 ++ rounds
