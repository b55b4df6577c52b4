-- Real files, each read from front to back.
use Rattle.std.specs.Prelude.{ℕ, ◌==◌, ◌&&◌, Bool, false, List, Option, None, if◌then◌else◌}
use Rattle.std.specs.Option.{option_map_or, option_and_then}
use Rattle.std.specs.Str.{bytes_eq}

-- the file that is being read: its name, the byte at which the next read goes on, and the bytes from there on, where the open file
-- tells them
pub record OpenFile : Type 0 where
  pub name : List ℕ
  pub at : ℕ
  pub left : Option (List ℕ)

-- a folder of real files: how often reads have failed, how many files were opened, and the one that is being read
pub record RealFolder : Type 0 where
  pub faults : ℕ
  pub opened : ℕ
  pub reading : Option OpenFile

-- a folder of real files tells no bytes
abbrev pub told_bytes : RealFolder → List ℕ → Option (List ℕ)
told_bytes s name = None

-- and it doesn't count its reads
abbrev pub reads_counted : RealFolder → ℕ
reads_counted s = 0

-- whether a read of a name from a byte on goes on in this file
abbrev pub is_next : OpenFile → List ℕ → ℕ → Bool
is_next r name at = (r.at == at) && bytes_eq r.name name

-- whether a read of a name from a byte on goes on in the file that is being read
abbrev pub continues_read : RealFolder → List ℕ → ℕ → Bool
continues_read s name at = option_map_or (λ r. is_next r name at) s.reading false

-- the bytes that are left of the file that is being read, where a read of a name from a byte on goes on in it and it tells them
abbrev pub left_of : RealFolder → List ℕ → ℕ → Option (List ℕ)
left_of s name at = option_and_then (λ r. if is_next r name at then r.left else None) s.reading
