-- What the program does before it writes.
use Rattle.std.specs.Prelude.{◌≡◌, ◌++◌, ℕ, List, Option}
use Rattle.sources.specs.declared.refusal.Ending.{Ending}
use Rattle.commands.specs.declared.files.Unread.{Unread}
use Rattle.commands.specs.declared.files.Unread.TheVariants as unread
use Rattle.commands.specs.declared.status.Status.{Status}
use Rattle.commands.specs.declared.status.Status.TheVariants.{Ended, CannotRead, CannotWrite, NoMemory, Usage, TooLarge}
use Rattle.commands.specs.Rows.{Row, limits_of}
use Rattle.commands.specs.Reading.{AreRead, IsFirstUnread, IsFirstOver}
use Rattle.commands.specs.Answers.{CommandAnswer}
use Rattle.commands.specs.Said.{IsLineOfUnread, IsTooLarge}

-- the named files were read and put behind those of before
pub record HasMore (told : List ℕ → Option (List ℕ)) (before now : List ℕ → ℕ) (limits : List ℕ) (names old new : List (List ℕ)) : Type 0 where
  pub files : List (List ℕ)
  pub put : new ≡ old ++ files
  pub read : AreRead told before now limits names files

-- why the named files weren't read
abbrev pub IsUnreadFor : List ℕ → List (List ℕ) → (List ℕ → Option (List ℕ)) → (List ℕ → ℕ) → (List ℕ → ℕ) → Unread → Type 0
IsUnreadFor limits names told before now (unread.Fault name) = IsFirstUnread told before now limits names name.now
IsUnreadFor limits names told before now (unread.TooLarge name) = IsFirstOver told before now limits names name.now
IsUnreadFor limits names told before now unread.NoMemory = Unit {0}

-- the files of the row were read, and this is what its command answers to them
pub record IsCommandAnswer (row : Row) (told : List ℕ → Option (List ℕ)) (before now : List ℕ → ℕ) (ending : Ending) (text : List ℕ) : Type 0 where
  pub files : List (List ℕ)
  pub read : AreRead told before now (limits_of row.command) row.names files
  pub answer : CommandAnswer row.command files ending text

-- the status and the text that are to be written
abbrev pub IsOutcome : Row → (List ℕ → Option (List ℕ)) → (List ℕ → ℕ) → (List ℕ → ℕ) → Status → List ℕ → Type 0
IsOutcome row told before now (Ended ending) text = IsCommandAnswer row told before now ending text
IsOutcome row told before now TooLarge text = IsTooLarge row told before now text
IsOutcome row told before now CannotRead text = IsLineOfUnread row told before now text
IsOutcome row told before now CannotWrite text = ⊥
IsOutcome row told before now NoMemory text = ⊥
IsOutcome row told before now Usage text = ⊥
