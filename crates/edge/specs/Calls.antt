-- A call of a program as a whole.
use Rattle.std.specs.Prelude.{ℕ, List, Option, Contains}
use Rattle.edge.specs.Faults.{Rose}

-- a call of the program: its words, what the folder tells, the counts of faults of each file and of the sink before and after,
-- what the sink has written before and after, and the exit status
pub record Call : Type 0 where
  pub words : List (List ℕ)
  pub told : List ℕ → Option (List ℕ)
  pub files_before : List ℕ → ℕ
  pub files_after : List ℕ → ℕ
  pub sink_before : ℕ
  pub sink_after : ℕ
  pub written_before : Option (List ℕ)
  pub written_after : Option (List ℕ)
  pub status : ℕ

-- the call with these parts
abbrev pub call_record : List (List ℕ) → (List ℕ → Option (List ℕ)) → (files_before files_after : List ℕ → ℕ) → (sink_before sink_after : ℕ) → (written_before written_after : Option (List ℕ)) → ℕ → Call
call_record words told files_before files_after sink_before sink_after written_before written_after status = record {
  words = words;
  told = told;
  files_before = files_before;
  files_after = files_after;
  sink_before = sink_before;
  sink_after = sink_after;
  written_before = written_before;
  written_after = written_after;
  status = status;
}

-- no count of these files rose or stands at its last value, nor does the sink's
pub record HasNoFault (call : Call) (names : List (List ℕ)) : Type 0 where
  pub files : (name : List ℕ) → Contains names name → Rose (call.files_before name) (call.files_after name) → ⊥
  pub sink : Rose call.sink_before call.sink_after → ⊥
