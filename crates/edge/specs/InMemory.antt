-- A folder and a sink that are kept in memory, and how a call changes them.
use Rattle.std.specs.Prelude.{ℕ, ◌+◌, ◌-◌, ◌^◌, ◌==◌, ◌||◌, ◌&&◌, Bool, List, [], ◌++◌, Option, Some, None, String, Vec, length, drop, min, map, find, position, is_none, nat_lt, slice_index, slice_set, string_bytes, unwrap_or}
use Rattle.std.specs.Global.{Global}
use Rattle.std.specs.Option.{option_map, option_map_or}
use Rattle.std.specs.List.{list_any}
use Rattle.std.specs.Str.{bytes_eq}
use Rattle.edge.specs.Faults.{next_count}

-- a file in memory
pub record StoredFile : Type 0 where
  pub name : List ℕ
  pub bytes : List ℕ

-- the files that a vector of names and contents lists
abbrev pub stored_files : List (String Global × Vec ℕ Global) → List StoredFile
stored_files = map (λ f. record { name = string_bytes f.0; bytes = f.1.items })

-- a folder in memory: its files, what a call may give, which calls fail, and what was counted so far
pub record FolderInMemory : Type 0 where
  pub files : List StoredFile
  pub most : ℕ
  pub failing : List ℕ
  pub calls : ℕ
  pub file_faults : List ℕ
  pub missing_faults : ℕ

-- the place of the first file of a name
abbrev pub stored_place : List StoredFile → List ℕ → Option ℕ
stored_place files name = position (λ f. bytes_eq f.name name) files

-- the bytes of the first file of a name
abbrev pub bytes_of : List StoredFile → List ℕ → Option (List ℕ)
bytes_of files name = option_map (λ f. f.bytes) (find (λ f. bytes_eq f.name name) files)

-- the same where a name without a file counts as an empty file
abbrev pub bytes_or_none : List StoredFile → List ℕ → List ℕ
bytes_or_none files name = unwrap_or (bytes_of files name) []

-- the faults of a name: a count for each file, and one for all names without a file
abbrev pub fault_count : FolderInMemory → List ℕ → ℕ
fault_count s name = option_map_or (λ place. slice_index s.file_faults place) (stored_place s.files name) s.missing_faults

-- the call after this many fails: no number is left for it, or its number is listed
abbrev pub is_failing : List ℕ → ℕ → Bool
is_failing failing calls = (calls == 2 ^ 64 - 1) || list_any (λ number. number == calls + 1) failing

-- the next read of a name fails
abbrev pub read_fails : FolderInMemory → List ℕ → Bool
read_fails s name = is_failing s.failing s.calls || is_none (bytes_of s.files name)

-- how many bytes of a file a read gives into a buffer of this length
abbrev pub given_count : ℕ → ℕ → ℕ → List ℕ → ℕ
given_count most room place file = min (min most room) (length (drop place file))

-- the folder after one fault more of the file at a place, or of the names without a file
abbrev pub after_fault_at : FolderInMemory → Option ℕ → FolderInMemory
after_fault_at s (Some place) =
    record s { file_faults = slice_set s.file_faults place (next_count (slice_index s.file_faults place)) }
after_fault_at s None = record s { missing_faults = next_count s.missing_faults }

-- the folder after a read of a name that failed
abbrev pub after_failed_read : FolderInMemory → List ℕ → FolderInMemory
after_failed_read s name = after_fault_at (record s { calls = next_count s.calls }) (stored_place s.files name)

-- a sink in memory: its bytes, its room, what a call may take, which calls fail, and what was counted so far
pub record SinkInMemory : Type 0 where
  pub bytes : List ℕ
  pub room : ℕ
  pub most : ℕ
  pub failing : List ℕ
  pub calls : ℕ
  pub faults : ℕ

-- the next write of a piece fails
abbrev pub write_fails : SinkInMemory → List ℕ → Bool
write_fails s piece = is_failing s.failing s.calls || (nat_lt 0 (length piece) && (length s.bytes == s.room))

-- how many bytes of a piece a write takes
abbrev pub taken_count : SinkInMemory → List ℕ → ℕ
taken_count s piece = min (min s.most (length piece)) (s.room - length s.bytes)

-- the sink after a write that took these bytes
abbrev pub after_write : SinkInMemory → List ℕ → SinkInMemory
after_write s taken = record s { bytes = s.bytes ++ taken; calls = s.calls + 1 }

-- the sink after a write that failed
abbrev pub after_failed_write : SinkInMemory → SinkInMemory
after_failed_write s = record s { calls = next_count s.calls; faults = next_count s.faults }
