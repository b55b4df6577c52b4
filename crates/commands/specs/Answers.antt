-- What the program answers to a row, for the bytes of the files that it names.
use Rattle.std.specs.Prelude.{◌≡◌, ℕ, List, Some, IsSome}
use Rattle.sources.specs.declared.refusal.Ending.{Ending}
use Rattle.sources.specs.Refusals.{code_of}
use Rattle.commands.specs.declared.command.Command.{Command}
use Rattle.commands.specs.declared.command.Command.TheVariants.{Check, Print, Run, Serialise, Derive, Verify, SerialiseOpen, Blame, VerifyBlame, Levels, Replay, Generate}
use Rattle.edge.specs.Lines.{too_large_line}
use Rattle.edge.specs.Said.{Exactly}
use Rattle.commands.specs.Rows.{Row}
use Rattle.commands.specs.Files.{first_too_large, AreWithin, file_at}
use Rattle.sources.specs.Check.{CheckAnswer}
use Rattle.sources.specs.Facts.{CheckFact}
use Rattle.sources.specs.Print.{PrintAnswer, PrintFact}
use Rattle.schedule_commands.specs.Run.{RunAnswer, RunFact}
use Rattle.schedule_commands.specs.Serialise.{SerialiseAnswer, SerialiseFact}
use Rattle.schedule_commands.specs.SerialiseOpen.{SerialiseOpenAnswer, SerialiseOpenFact}
use Rattle.schedule_commands.specs.Generate.{GenerateAnswer, GenerateFact}
use Rattle.evidence_commands.specs.Derive.{DeriveAnswer, DeriveFact}
use Rattle.evidence_commands.specs.Verify.{VerifyAnswer, VerifyFact}
use Rattle.evidence_commands.specs.Blames.{BlameAnswer, BlameFact}
use Rattle.evidence_commands.specs.Verifying.{VerifyBlameAnswer, VerifyBlameFact}
use Rattle.evidence_commands.specs.Levels.{LevelsAnswer, LevelsFact}
use Rattle.schedule_commands.specs.Replay.{ReplayAnswer, ReplayFact}

-- the texts that belong to each ending of a command
abbrev pub CommandAnswer : Command → List (List ℕ) → Ending → List ℕ → Type 0
CommandAnswer Check files = CheckAnswer (file_at files 0)
CommandAnswer Print files = PrintAnswer (file_at files 0)
CommandAnswer Run files = RunAnswer (file_at files 0) (file_at files 1)
CommandAnswer Serialise files = SerialiseAnswer (file_at files 0) (file_at files 1)
CommandAnswer Derive files = DeriveAnswer (file_at files 0)
CommandAnswer Verify files = VerifyAnswer (file_at files 0) (file_at files 1)
CommandAnswer SerialiseOpen files = SerialiseOpenAnswer (file_at files 0) (file_at files 1)
CommandAnswer Blame files = BlameAnswer (file_at files 0)
CommandAnswer VerifyBlame files = VerifyBlameAnswer (file_at files 0) (file_at files 1)
CommandAnswer Levels files = LevelsAnswer (file_at files 0) (file_at files 1)
CommandAnswer Replay files = ReplayAnswer (file_at files 0) (file_at files 1)
CommandAnswer (Generate n) files = GenerateAnswer n

-- when a command ends how
abbrev pub Fact : Command → List (List ℕ) → Ending → Type 0
Fact Check files = CheckFact (file_at files 0)
Fact Print files = PrintFact (file_at files 0)
Fact Run files = RunFact (file_at files 0) (file_at files 1)
Fact Serialise files = SerialiseFact (file_at files 0) (file_at files 1)
Fact Derive files = DeriveFact (file_at files 0)
Fact Verify files = VerifyFact (file_at files 0) (file_at files 1)
Fact SerialiseOpen files = SerialiseOpenFact (file_at files 0) (file_at files 1)
Fact Blame files = BlameFact (file_at files 0)
Fact VerifyBlame files = VerifyBlameFact (file_at files 0) (file_at files 1)
Fact Levels files = LevelsFact (file_at files 0) (file_at files 1)
Fact Replay files = ReplayFact (file_at files 0) (file_at files 1)
Fact (Generate n) files = GenerateFact n

-- the status and the text that belong to a row and the bytes of its files
pub data Belongs (row : Row) (files : List (List ℕ)) : ℕ → List ℕ → Type 0 where
  too_large : (name : List ℕ) → first_too_large row files ≡ Some name → Belongs row files 10 (too_large_line name)
  ended : (ending : Ending) (text : List ℕ) → AreWithin row files → CommandAnswer row.command files ending text → Belongs row files (code_of ending) text

-- which status comes for a row and the bytes of its files
pub record IsExactStatus (row : Row) (files : List (List ℕ)) (result : ℕ) : Type 0 where
  pub too_large : Exactly result 10 (IsSome (first_too_large row files))
  pub ended : (ending : Ending) → Exactly result (code_of ending) (AreWithin row files × Fact row.command files ending)
