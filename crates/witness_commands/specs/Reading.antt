-- What is known of the files that are read: the source first, and then the text of the schedule, where one is given.
use Rattle.std.specs.Prelude.{◌≡◌, ℕ, ◌≤◌, List, Option, Some, None, IfSome, length}
use Rattle.lexer.specs.Limits.{longest_source}
use Rattle.sources.specs.Limits.{longest_second_file}
use Rattle.sources.specs.Files.{HasSameFaults, IsUnread, IsOver}

-- the files have at most as many bytes as they may have
abbrev pub AreInputsWithin : (file : List ℕ) → (text : Option (List ℕ)) → Type 0
AreInputsWithin file text = (length file ≤ longest_source) × IfSome text (λ bytes. length bytes ≤ longest_second_file)

-- this holds of the name of the schedule and of its bytes; or there is neither
abbrev pub OfSchedule : (List ℕ → List ℕ → Type 0) → (schedule text : Option (List ℕ)) → Type 0
OfSchedule holds (Some name) (Some text) = holds name text
OfSchedule holds (Some name) None = ⊥
OfSchedule holds None (Some text) = ⊥
OfSchedule holds None None = Unit {0}

module _ (told : List ℕ → Option (List ℕ)) where
  -- where the folder tells the file of this name, these are its bytes
  abbrev pub AreBytesOf : (name file : List ℕ) → Type 0
  AreBytesOf name file = IfSome (told name) (λ bytes. file ≡ bytes)

  -- where the folder tells the source, it has at most as many bytes as it may have
  abbrev pub IsSourceWithin : (source : List ℕ) → Type 0
  IsSourceWithin source = IfSome (told source) (λ file. length file ≤ longest_source)

  module _ (before now : List ℕ → ℕ) where
    -- the first of the files that couldn't be read
    pub data IsFirstUnreadInput (source : List ℕ) (schedule : Option (List ℕ)) : List ℕ → Type 0 where
      source_unread : IsUnread told before now source → IsFirstUnreadInput source schedule source
      schedule_unread : (name : List ℕ) → schedule ≡ Some name → IsSourceWithin source → IsUnread told before now name → IsFirstUnreadInput source schedule name

    -- the first of the files that has more bytes than it may have
    pub data IsFirstTooLargeInput (source : List ℕ) (schedule : Option (List ℕ)) : List ℕ → Type 0 where
      source_over : IsOver told before now longest_source source → IsFirstTooLargeInput source schedule source
      schedule_over : (name : List ℕ) → schedule ≡ Some name → IsSourceWithin source → IsOver told before now longest_second_file name → IsFirstTooLargeInput source schedule name

    -- the files were read
    pub record AreInputsRead (source : List ℕ) (schedule : Option (List ℕ)) (file : List ℕ) (text : Option (List ℕ)) : Type 0 where
      pub source_is : AreBytesOf source file
      pub schedule_is : OfSchedule AreBytesOf schedule text
      pub within : AreInputsWithin file text
      pub quiet : HasSameFaults before now
