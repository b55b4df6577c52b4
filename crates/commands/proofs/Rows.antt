-- Refusals of a source, as the rows tell them.
use Rattle.std.proofs.Common.{◌≡◌, ◌≤◌, List, ℕ, [], ◌∷◌, Result, MatchResult, Vec, Global, length, sym, subst}
use Rattle.sources.specs.declared.refusal.Ending.TheVariants.{Done}
use Rattle.sources.specs.declared.refusal.Refusal.{Refusal}
use Rattle.sources.specs.Refusals.{IsRight}
use Rattle.commands.specs.declared.command.Command.{Command}
use Rattle.commands.specs.declared.command.Command.TheVariants.{Check, Print, Run, Serialise, Derive, Verify, SerialiseOpen, Blame, VerifyBlame, Levels, Replay, Generate}
use Rattle.commands.specs.Files.{AreBounded, file_at}
use Rattle.commands.specs.Answers.{CommandAnswer}
use Rattle.sources.specs.Check.{CheckAnswer}
use Rattle.sources.specs.Print.{PrintAnswer}
use Rattle.schedule_commands.specs.Run.{RunAnswer}
use Rattle.schedule_commands.specs.Serialise.{SerialiseAnswer}
use Rattle.schedule_commands.specs.SerialiseOpen.{SerialiseOpenAnswer}
use Rattle.schedule_commands.specs.Generate.{GenerateAnswer}
use Rattle.evidence_commands.specs.Derive.{DeriveAnswer}
use Rattle.evidence_commands.specs.Verify.{VerifyAnswer}
use Rattle.evidence_commands.specs.Blames.{BlameAnswer}
use Rattle.evidence_commands.specs.Verifying.{VerifyBlameAnswer}
use Rattle.evidence_commands.specs.Levels.{LevelsAnswer}
use Rattle.schedule_commands.specs.Replay.{ReplayAnswer}

-- what a row's function answers is the answer of its command
pub check_answers : (command : Command) (files : List (List ℕ)) (bytes : List ℕ) (r : Result (Vec ℕ Global) Refusal) → command ≡ Check → bytes ≡ file_at files 0
    → MatchResult r (λ text. CheckAnswer bytes Done text.items) (IsRight (CheckAnswer bytes)) → MatchResult r (λ text. CommandAnswer command files Done text.items) (IsRight (CommandAnswer command files))
check_answers command files bytes r e at is = subst (λ c. MatchResult r (λ text. CommandAnswer c files Done text.items) (IsRight (CommandAnswer c files))) (sym e)
    (subst (λ b. MatchResult r (λ text. CheckAnswer b Done text.items) (IsRight (CheckAnswer b))) at is)

pub print_answers : (command : Command) (files : List (List ℕ)) (bytes : List ℕ) (r : Result (Vec ℕ Global) Refusal) → command ≡ Print → bytes ≡ file_at files 0
    → MatchResult r (λ text. PrintAnswer bytes Done text.items) (IsRight (PrintAnswer bytes)) → MatchResult r (λ text. CommandAnswer command files Done text.items) (IsRight (CommandAnswer command files))
print_answers command files bytes r e at is = subst (λ c. MatchResult r (λ text. CommandAnswer c files Done text.items) (IsRight (CommandAnswer c files))) (sym e)
    (subst (λ b. MatchResult r (λ text. PrintAnswer b Done text.items) (IsRight (PrintAnswer b))) at is)

pub run_answers : (command : Command) (files : List (List ℕ)) (file text : List ℕ) (r : Result (Vec ℕ Global) Refusal) → command ≡ Run → file ≡ file_at files 0 → text ≡ file_at files 1
    → MatchResult r (λ out. RunAnswer file text Done out.items) (IsRight (RunAnswer file text)) → MatchResult r (λ out. CommandAnswer command files Done out.items) (IsRight (CommandAnswer command files))
run_answers command files file text r e first second is = subst (λ c. MatchResult r (λ out. CommandAnswer c files Done out.items) (IsRight (CommandAnswer c files))) (sym e)
    (subst (λ b. MatchResult r (λ out. RunAnswer b (file_at files 1) Done out.items) (IsRight (RunAnswer b (file_at files 1)))) first
    (subst (λ b. MatchResult r (λ out. RunAnswer file b Done out.items) (IsRight (RunAnswer file b))) second is))

pub serialise_answers : (command : Command) (files : List (List ℕ)) (file text : List ℕ) (r : Result (Vec ℕ Global) Refusal) → command ≡ Serialise → file ≡ file_at files 0 → text ≡ file_at files 1
    → MatchResult r (λ out. SerialiseAnswer file text Done out.items) (IsRight (SerialiseAnswer file text)) → MatchResult r (λ out. CommandAnswer command files Done out.items) (IsRight (CommandAnswer command files))
serialise_answers command files file text r e first second is = subst (λ c. MatchResult r (λ out. CommandAnswer c files Done out.items) (IsRight (CommandAnswer c files))) (sym e)
    (subst (λ b. MatchResult r (λ out. SerialiseAnswer b (file_at files 1) Done out.items) (IsRight (SerialiseAnswer b (file_at files 1)))) first
    (subst (λ b. MatchResult r (λ out. SerialiseAnswer file b Done out.items) (IsRight (SerialiseAnswer file b))) second is))

pub serialise_open_answers : (command : Command) (files : List (List ℕ)) (file text : List ℕ) (r : Result (Vec ℕ Global) Refusal) → command ≡ SerialiseOpen → file ≡ file_at files 0 → text ≡ file_at files 1
    → MatchResult r (λ out. SerialiseOpenAnswer file text Done out.items) (IsRight (SerialiseOpenAnswer file text)) → MatchResult r (λ out. CommandAnswer command files Done out.items) (IsRight (CommandAnswer command files))
serialise_open_answers command files file text r e first second is = subst (λ c. MatchResult r (λ out. CommandAnswer c files Done out.items) (IsRight (CommandAnswer c files))) (sym e)
    (subst (λ b. MatchResult r (λ out. SerialiseOpenAnswer b (file_at files 1) Done out.items) (IsRight (SerialiseOpenAnswer b (file_at files 1)))) first
    (subst (λ b. MatchResult r (λ out. SerialiseOpenAnswer file b Done out.items) (IsRight (SerialiseOpenAnswer file b))) second is))

pub generate_answers : (command : Command) (files : List (List ℕ)) (n : ℕ) (r : Result (Vec ℕ Global) Refusal) → command ≡ Generate n
    → MatchResult r (λ out. GenerateAnswer n Done out.items) (IsRight (GenerateAnswer n)) → MatchResult r (λ out. CommandAnswer command files Done out.items) (IsRight (CommandAnswer command files))
generate_answers command files n r e is = subst (λ c. MatchResult r (λ out. CommandAnswer c files Done out.items) (IsRight (CommandAnswer c files))) (sym e) is

pub derive_answers : (command : Command) (files : List (List ℕ)) (bytes : List ℕ) (r : Result (Vec ℕ Global) Refusal) → command ≡ Derive → bytes ≡ file_at files 0
    → MatchResult r (λ text. DeriveAnswer bytes Done text.items) (IsRight (DeriveAnswer bytes)) → MatchResult r (λ text. CommandAnswer command files Done text.items) (IsRight (CommandAnswer command files))
derive_answers command files bytes r e at is = subst (λ c. MatchResult r (λ text. CommandAnswer c files Done text.items) (IsRight (CommandAnswer c files))) (sym e)
    (subst (λ b. MatchResult r (λ text. DeriveAnswer b Done text.items) (IsRight (DeriveAnswer b))) at is)

pub verify_answers : (command : Command) (files : List (List ℕ)) (file text : List ℕ) (r : Result (Vec ℕ Global) Refusal) → command ≡ Verify → file ≡ file_at files 0 → text ≡ file_at files 1
    → MatchResult r (λ out. VerifyAnswer file text Done out.items) (IsRight (VerifyAnswer file text)) → MatchResult r (λ out. CommandAnswer command files Done out.items) (IsRight (CommandAnswer command files))
verify_answers command files file text r e first second is = subst (λ c. MatchResult r (λ out. CommandAnswer c files Done out.items) (IsRight (CommandAnswer c files))) (sym e)
    (subst (λ b. MatchResult r (λ out. VerifyAnswer b (file_at files 1) Done out.items) (IsRight (VerifyAnswer b (file_at files 1)))) first
    (subst (λ b. MatchResult r (λ out. VerifyAnswer file b Done out.items) (IsRight (VerifyAnswer file b))) second is))

pub blame_answers : (command : Command) (files : List (List ℕ)) (bytes : List ℕ) (r : Result (Vec ℕ Global) Refusal) → command ≡ Blame → bytes ≡ file_at files 0
    → MatchResult r (λ text. BlameAnswer bytes Done text.items) (IsRight (BlameAnswer bytes)) → MatchResult r (λ text. CommandAnswer command files Done text.items) (IsRight (CommandAnswer command files))
blame_answers command files bytes r e at is = subst (λ c. MatchResult r (λ text. CommandAnswer c files Done text.items) (IsRight (CommandAnswer c files))) (sym e)
    (subst (λ b. MatchResult r (λ text. BlameAnswer b Done text.items) (IsRight (BlameAnswer b))) at is)

pub verify_blame_answers : (command : Command) (files : List (List ℕ)) (file text : List ℕ) (r : Result (Vec ℕ Global) Refusal) → command ≡ VerifyBlame → file ≡ file_at files 0 → text ≡ file_at files 1
    → MatchResult r (λ out. VerifyBlameAnswer file text Done out.items) (IsRight (VerifyBlameAnswer file text)) → MatchResult r (λ out. CommandAnswer command files Done out.items) (IsRight (CommandAnswer command files))
verify_blame_answers command files file text r e first second is = subst (λ c. MatchResult r (λ out. CommandAnswer c files Done out.items) (IsRight (CommandAnswer c files))) (sym e)
    (subst (λ b. MatchResult r (λ out. VerifyBlameAnswer b (file_at files 1) Done out.items) (IsRight (VerifyBlameAnswer b (file_at files 1)))) first
    (subst (λ b. MatchResult r (λ out. VerifyBlameAnswer file b Done out.items) (IsRight (VerifyBlameAnswer file b))) second is))

pub levels_answers : (command : Command) (files : List (List ℕ)) (file text : List ℕ) (r : Result (Vec ℕ Global) Refusal) → command ≡ Levels → file ≡ file_at files 0 → text ≡ file_at files 1
    → MatchResult r (λ out. LevelsAnswer file text Done out.items) (IsRight (LevelsAnswer file text)) → MatchResult r (λ out. CommandAnswer command files Done out.items) (IsRight (CommandAnswer command files))
levels_answers command files file text r e first second is = subst (λ c. MatchResult r (λ out. CommandAnswer c files Done out.items) (IsRight (CommandAnswer c files))) (sym e)
    (subst (λ b. MatchResult r (λ out. LevelsAnswer b (file_at files 1) Done out.items) (IsRight (LevelsAnswer b (file_at files 1)))) first
    (subst (λ b. MatchResult r (λ out. LevelsAnswer file b Done out.items) (IsRight (LevelsAnswer file b))) second is))

pub replay_answers : (command : Command) (files : List (List ℕ)) (file text : List ℕ) (r : Result (Vec ℕ Global) Refusal) → command ≡ Replay → file ≡ file_at files 0 → text ≡ file_at files 1
    → MatchResult r (λ out. ReplayAnswer file text Done out.items) (IsRight (ReplayAnswer file text)) → MatchResult r (λ out. CommandAnswer command files Done out.items) (IsRight (CommandAnswer command files))
replay_answers command files file text r e first second is = subst (λ c. MatchResult r (λ out. CommandAnswer c files Done out.items) (IsRight (CommandAnswer c files))) (sym e)
    (subst (λ b. MatchResult r (λ out. ReplayAnswer b (file_at files 1) Done out.items) (IsRight (ReplayAnswer b (file_at files 1)))) first
    (subst (λ b. MatchResult r (λ out. ReplayAnswer file b Done out.items) (IsRight (ReplayAnswer file b))) second is))

-- the one file of a row is within its limit
pub within_limit : (limit : ℕ) (files : List (List ℕ)) → AreBounded (limit ∷ []) files → length (file_at files 0) ≤ limit
within_limit limit [] b = absurd b
within_limit limit (file ∷ []) b = b.0
within_limit limit (file ∷ other ∷ files) b = absurd b.1
