-- What the code's values stand for, where guards are given.
use Rattle.std.specs.Prelude.{◌≡◌, ℕ, List, ◌++◌, Result, Err}
use Rattle.logs.specs.Logs.{Guard, ByLock, ByThread, Unguarded}
use Rattle.logs.specs.Numbers.{number_of_word}
use Rattle.logs.specs.Views.{guards_data}
use Rattle.log_guess.specs.declared.given.Named.{Named}
use Rattle.log_guess.specs.declared.given.Named.TheVariants as named
use Rattle.log_guess.specs.declared.given.Given.{Given}
use Rattle.log_guess.specs.declared.given.Giving.{Giving}
use Rattle.log_guess.specs.declared.given.GivenEnd.{GivenEnd}
use Rattle.log_guess.specs.declared.given.GivenEnd.TheVariants as ends
use Rattle.log_guess.specs.Given.{GivenGuard, first_row, later_rows, guards_in}

abbrev pub named_data : Named → Guard
named_data (named.Lock l) = ByLock (number_of_word l.now)
named_data (named.Thread t) = ByThread (number_of_word t.now)
named_data named.Free = Unguarded

abbrev pub given_data : Given → GivenGuard
given_data g = record { place = g.place.now; guard = named_data g.named }

-- what a text gives of which so much was read, and this is left
abbrev pub guards_from : Giving → List ℕ → Result (ℕ → Guard) ℕ
guards_from giving rest = guards_in giving.line (guards_data giving.guards) (giving.row.items ++ first_row rest) (later_rows rest)

-- a text gives no guards for this reason, or for want of memory
abbrev pub IsTextEnd : Result (ℕ → Guard) ℕ → GivenEnd → Type 0
IsTextEnd r (ends.NoLine n) = r ≡ Err n
IsTextEnd r ends.NoMemory = Unit {0}
