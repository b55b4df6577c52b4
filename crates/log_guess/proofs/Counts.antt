-- How many bytes a file has, of which so many were read.
use Rattle.std.proofs.Common.{◌≡◌, ℕ, ◌+◌, ◌<◌, ◌≤◌, List, length, Option, Some, None, IfSome, subst, arith}
use Rattle.std.proofs.lemmas.Grind.{common_steps}
use Rattle.edge.specs.Pieces.{GivesFrom}

pub none_read : (told : Option (List ℕ)) → IfSome told (λ file. 0 ≤ length file)
none_read None = tt
none_read (Some file) = omega (arith)

module _ (told now : Option (List ℕ)) (at n : ℕ) (chunk : List ℕ) (same : now ≡ told) (gives : IfSome now (GivesFrom at n chunk)) where
  given : IfSome told (GivesFrom at n chunk)
  given = subst (λ o. IfSome o (GivesFrom at n chunk)) same gives

more_in : (told : Option (List ℕ)) (at n : ℕ) (chunk : List ℕ) → IfSome told (GivesFrom at n chunk) → IfSome told (λ file. at ≤ length file) → IfSome told (λ file. at + n ≤ length file)
more_in None at n chunk gives read = tt
more_in (Some file) at n chunk gives read = let within = gives.within in grind (arith, common_steps, within, read)

pub more_read : (told now : Option (List ℕ)) (at n : ℕ) (chunk : List ℕ) → now ≡ told → IfSome now (GivesFrom at n chunk) → IfSome told (λ file. at ≤ length file) → IfSome told (λ file. at + n ≤ length file)
more_read told now at n chunk same gives read = more_in told at n chunk (given told now at n chunk same gives) read

pub over_read : (told : Option (List ℕ)) (limit at : ℕ) → limit < at → IfSome told (λ file. at ≤ length file) → IfSome told (λ file. limit < length file)
over_read None limit at over read = tt
over_read (Some file) limit at over read = omega (arith, over, read)
