-- The sentence that the program is for: a log that it calls serial has an order of its lines that is serial.
use Rattle.std.specs.Prelude.{ℕ, ◌≡◌, List, Option, IfSome}
use Rattle.logs.specs.Serial.{IsSerialLog}
use Rattle.logs.specs.Said.{SaidData}
use Rattle.logs.specs.Spelling.{IsLog, log_lines_of}

-- The file has bytes, which are those that are told where the folder tells it. They are the text of a log, and there is an order of that log's
-- lines in which each thread's stand in their own order, each line can happen where it stands, each read seeing the value that it saw, the
-- end is the same, and no block is interrupted.
pub record IsSerialFile (told : Option (List ℕ)) : Type 0 where
  pub bytes : List ℕ
  pub its : IfSome told (λ file. bytes ≡ file)
  pub said : List SaidData
  pub log : IsLog bytes said
  pub serial : IsSerialLog (log_lines_of said)
