-- What is known of the file that is read.
use Rattle.std.specs.Prelude.{◌≡◌, ℕ, ◌≤◌, List, Option, IfSome, length}
use Rattle.lexer.specs.Limits.{longest_source}
use Rattle.sources.specs.Files.{HasSameFaults}

-- the file was read: where the folder tells it, these are its bytes
pub record IsFileRead (told : List ℕ → Option (List ℕ)) (before now : List ℕ → ℕ) (name file : List ℕ) : Type 0 where
  pub its : IfSome (told name) (λ bytes. file ≡ bytes)
  pub within : length file ≤ longest_source
  pub quiet : HasSameFaults before now
