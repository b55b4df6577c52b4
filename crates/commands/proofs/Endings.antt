-- Which status comes for the answer to a row.
use Rattle.std.proofs.Common.{◌≡◌, ◌-◌, ℕ, ◌≤◌, List, Option, None, IsSome, refl, sym, subst, ap, ◌∙◌, arith, inl, inr, is_some, true, false, zero, suc}
use Rattle.sources.specs.declared.refusal.Ending.{Ending}
use Rattle.sources.specs.declared.refusal.Ending.TheVariants.{Done, Refused, Inadmissible, NoSchedule, Stopped, Open, BookRefused, NothingToBlame, BlameRefused, LevelsRefused, CallTooDeep}
use Rattle.sources.specs.Refusals.{code_of}
use Rattle.sources.specs.Facts.{RefusedAs, CheckFact}
use Rattle.sources.proofs.Apart.{no_program_is_none, no_program_ends, no_accepted_is, accepted_or_none}
use Rattle.commands.specs.declared.command.Command.{Command}
use Rattle.commands.specs.declared.command.Command.TheVariants.{Check, Print, Run, Serialise, Derive, Verify, SerialiseOpen, Blame, VerifyBlame, Levels, Replay, Generate}
use Rattle.commands.specs.Rows.{Row}
use Rattle.commands.specs.Files.{first_too_large, file_at}
use Rattle.sources.specs.Check.{CheckAnswer, not_accepted, judged}
use Rattle.sources.specs.Print.{PrintAnswer, PrintFact, no_program, printed}
use Rattle.evidence_commands.specs.Derive.{DeriveAnswer, DeriveFact, not_accepted as not_accepted_derive, derived}
use Rattle.evidence_commands.proofs.BookEndings.{verify_caused, verify_apart}
use Rattle.schedule_commands.proofs.ScheduleEndings.{run_caused, run_apart, serialise_caused, serialise_apart}
use Rattle.schedule_commands.proofs.OpenEndings.{open_caused, open_apart}
use Rattle.evidence_commands.proofs.Endings.{blame_caused, blame_apart, verify_blame_caused, verify_blame_apart}
use Rattle.evidence_commands.proofs.LevelEndings.{levels_caused, levels_apart}
use Rattle.schedule_commands.proofs.ReplayEndings.{replay_caused, replay_apart}
use Rattle.schedule_commands.proofs.GenerateEndings.{generate_caused, generate_apart}
use Rattle.edge.specs.Said.{IsTroubleStatus}
use Rattle.edge.proofs.Statuses.{yield_range}
use Rattle.commands.specs.Answers.{CommandAnswer, Fact, Belongs, too_large, ended, IsExactStatus}

-- `check`: each ending has its fact, and one alone
refused_fact : (file : List ℕ) (ending : Ending) → RefusedAs file ending → CheckFact file ending
refused_fact file Done is = absurd is
refused_fact file Refused is = is
refused_fact file Inadmissible is = is
refused_fact file NoSchedule is = is
refused_fact file Stopped is = is
refused_fact file Open is = is
refused_fact file NothingToBlame is = is
refused_fact file BlameRefused is = is
refused_fact file LevelsRefused is = is
refused_fact file CallTooDeep is = is
refused_fact file BookRefused is = is

check_caused : (file : List ℕ) (ending : Ending) (text : List ℕ) → CheckAnswer file ending text → CheckFact file ending
check_caused file _ _ (not_accepted {ending = ending} {line = line} is) = refused_fact file ending (no_accepted_is file ending line is)
check_caused file _ _ (judged tree P trees is least) = (tree, P, is, least.accepted)

check_apart : (file : List ℕ) (one other : Ending) → CheckFact file one → CheckFact file other → one ≡ other
check_apart file Done Done f g = refl
check_apart file Refused Refused f g = refl
check_apart file Inadmissible Inadmissible f g = refl
check_apart file Done Refused f g = absurd (g f.0 f.1 f.2)
check_apart file Refused Done f g = absurd (f g.0 g.1 g.2)
check_apart file Done Inadmissible f g = absurd (accepted_or_none file f g)
check_apart file Inadmissible Done f g = absurd (accepted_or_none file g f)
check_apart file Refused Inadmissible f g = absurd (f g.0 g.1 g.2)
check_apart file Inadmissible Refused f g = absurd (g f.0 f.1 f.2)
check_apart file NoSchedule other f g = absurd f
check_apart file Stopped other f g = absurd f
check_apart file Open other f g = absurd f
check_apart file NothingToBlame other f g = absurd f
check_apart file BlameRefused other f g = absurd f
check_apart file LevelsRefused other f g = absurd f
check_apart file CallTooDeep other f g = absurd f
check_apart file Done NoSchedule f g = absurd g
check_apart file Done Stopped f g = absurd g
check_apart file Done Open f g = absurd g
check_apart file Done NothingToBlame f g = absurd g
check_apart file Done BlameRefused f g = absurd g
check_apart file Done LevelsRefused f g = absurd g
check_apart file Done CallTooDeep f g = absurd g
check_apart file Refused NoSchedule f g = absurd g
check_apart file Refused Stopped f g = absurd g
check_apart file Refused Open f g = absurd g
check_apart file Refused NothingToBlame f g = absurd g
check_apart file Refused BlameRefused f g = absurd g
check_apart file Refused LevelsRefused f g = absurd g
check_apart file Refused CallTooDeep f g = absurd g
check_apart file Inadmissible NoSchedule f g = absurd g
check_apart file Inadmissible Stopped f g = absurd g
check_apart file Inadmissible Open f g = absurd g
check_apart file Inadmissible NothingToBlame f g = absurd g
check_apart file Inadmissible BlameRefused f g = absurd g
check_apart file Inadmissible LevelsRefused f g = absurd g
check_apart file Inadmissible CallTooDeep f g = absurd g
check_apart file BookRefused other f g = absurd f
check_apart file Done BookRefused f g = absurd g
check_apart file Refused BookRefused f g = absurd g
check_apart file Inadmissible BookRefused f g = absurd g

-- `print`: the same
print_caused : (file : List ℕ) (ending : Ending) (text : List ℕ) → PrintAnswer file ending text → PrintFact file ending
print_caused file _ _ (no_program {ending = ending} {line = line} is) = subst (PrintFact file) (sym (no_program_ends file ending line is)) (no_program_is_none file ending line is)
print_caused file _ _ (printed tree is again) = (tree, is)

print_apart : (file : List ℕ) (one other : Ending) → PrintFact file one → PrintFact file other → one ≡ other
print_apart file Done Done f g = refl
print_apart file Refused Refused f g = refl
print_apart file Done Refused f g = absurd (g f.0 f.1)
print_apart file Refused Done f g = absurd (f g.0 g.1)
print_apart file Inadmissible other f g = absurd f
print_apart file NoSchedule other f g = absurd f
print_apart file Stopped other f g = absurd f
print_apart file Open other f g = absurd f
print_apart file NothingToBlame other f g = absurd f
print_apart file BlameRefused other f g = absurd f
print_apart file LevelsRefused other f g = absurd f
print_apart file CallTooDeep other f g = absurd f
print_apart file Done Inadmissible f g = absurd g
print_apart file Done NoSchedule f g = absurd g
print_apart file Done Stopped f g = absurd g
print_apart file Done Open f g = absurd g
print_apart file Done NothingToBlame f g = absurd g
print_apart file Done BlameRefused f g = absurd g
print_apart file Done LevelsRefused f g = absurd g
print_apart file Done CallTooDeep f g = absurd g
print_apart file Refused Inadmissible f g = absurd g
print_apart file Refused NoSchedule f g = absurd g
print_apart file Refused Stopped f g = absurd g
print_apart file Refused Open f g = absurd g
print_apart file Refused NothingToBlame f g = absurd g
print_apart file Refused BlameRefused f g = absurd g
print_apart file Refused LevelsRefused f g = absurd g
print_apart file Refused CallTooDeep f g = absurd g
print_apart file BookRefused other f g = absurd f
print_apart file Done BookRefused f g = absurd g
print_apart file Refused BookRefused f g = absurd g

-- `derive`: as `check`
derive_caused : (file : List ℕ) (ending : Ending) (text : List ℕ) → DeriveAnswer file ending text → DeriveFact file ending
derive_caused file _ _ (not_accepted_derive {ending = ending} {line = line} is) = refused_fact file ending (no_accepted_is file ending line is)
derive_caused file _ _ (derived tree P is does) = (tree, P, is, does.least.accepted)

-- all rows
caused : (command : Command) (files : List (List ℕ)) (ending : Ending) (text : List ℕ) → CommandAnswer command files ending text → Fact command files ending
caused Check files ending text is = check_caused (file_at files 0) ending text is
caused Print files ending text is = print_caused (file_at files 0) ending text is
caused Run files ending text is = run_caused (file_at files 0) (file_at files 1) ending text is
caused Serialise files ending text is = serialise_caused (file_at files 0) (file_at files 1) ending text is
caused Derive files ending text is = derive_caused (file_at files 0) ending text is
caused Verify files ending text is = verify_caused (file_at files 0) (file_at files 1) ending text is
caused SerialiseOpen files ending text is = open_caused (file_at files 0) (file_at files 1) ending text is
caused Blame files ending text is = blame_caused (file_at files 0) ending text is
caused VerifyBlame files ending text is = verify_blame_caused (file_at files 0) (file_at files 1) ending text is
caused Levels files ending text is = levels_caused (file_at files 0) (file_at files 1) ending text is
caused Replay files ending text is = replay_caused (file_at files 0) (file_at files 1) ending text is
caused (Generate n) files ending text is = generate_caused n ending text is

apart : (command : Command) (files : List (List ℕ)) (one other : Ending) → Fact command files one → Fact command files other → one ≡ other
apart Check files one other f g = check_apart (file_at files 0) one other f g
apart Print files one other f g = print_apart (file_at files 0) one other f g
apart Run files one other f g = run_apart (file_at files 0) (file_at files 1) one other f g
apart Serialise files one other f g = serialise_apart (file_at files 0) (file_at files 1) one other f g
apart Derive files one other f g = check_apart (file_at files 0) one other f g
apart Verify files one other f g = verify_apart (file_at files 0) (file_at files 1) one other f g
apart SerialiseOpen files one other f g = open_apart (file_at files 0) (file_at files 1) one other f g
apart Blame files one other f g = blame_apart (file_at files 0) one other f g
apart VerifyBlame files one other f g = verify_blame_apart (file_at files 0) (file_at files 1) one other f g
apart Levels files one other f g = levels_apart (file_at files 0) (file_at files 1) one other f g
apart Replay files one other f g = replay_apart (file_at files 0) (file_at files 1) one other f g
apart (Generate n) files one other f g = generate_apart n one other f g

-- an ending's status is none of those that aren't endings
pub no_ending : (ending : Ending) (status : ℕ) → 6 ≤ status → status ≤ 10 → code_of ending ≡ status → ⊥
no_ending Done status low high e = omega arith
no_ending Refused status low high e = omega arith
no_ending Inadmissible status low high e = omega arith
no_ending NoSchedule status low high e = omega arith
no_ending Stopped status low high e = omega arith
no_ending Open status low high e = omega arith
no_ending BookRefused status low high e = omega arith
no_ending NothingToBlame status low high e = omega arith
no_ending BlameRefused status low high e = omega arith
no_ending LevelsRefused status low high e = omega arith
no_ending CallTooDeep status low high e = omega arith

-- the ending with a status: the first are those of 11 and more
late_ending : ℕ → Ending
late_ending zero = BookRefused
late_ending (suc zero) = NothingToBlame
late_ending (suc (suc zero)) = BlameRefused
late_ending (suc (suc (suc zero))) = LevelsRefused
late_ending (suc (suc (suc (suc rest)))) = CallTooDeep

ending_of : ℕ → Ending
ending_of zero = Done
ending_of (suc zero) = Refused
ending_of (suc (suc zero)) = Inadmissible
ending_of (suc (suc (suc zero))) = NoSchedule
ending_of (suc (suc (suc (suc zero)))) = Stopped
ending_of (suc (suc (suc (suc (suc zero))))) = Open
ending_of (suc (suc (suc (suc (suc (suc rest)))))) = late_ending (rest - 5)

ending_back : (ending : Ending) → ending_of (code_of ending) ≡ ending
unfolding ending_of late_ending
ending_back Done = refl
ending_back Refused = refl
ending_back Inadmissible = refl
ending_back NoSchedule = refl
ending_back Stopped = refl
ending_back Open = refl
ending_back BookRefused = refl
ending_back NothingToBlame = refl
ending_back BlameRefused = refl
ending_back LevelsRefused = refl
ending_back CallTooDeep = refl

-- endings with one status are equal
same_ending : (one other : Ending) → code_of one ≡ code_of other → one ≡ other
same_ending one other e = sym (ending_back one) ∙ ap ending_of e ∙ ending_back other

-- a file is over its limit, or none is
never_both : (o : Option (List ℕ)) → IsSome o → o ≡ None → ⊥
never_both o some none = absurd (let e : true ≡ false = sym some ∙ ap is_some none in cc)

pub exact_answer : (row : Row) (files : List (List ℕ)) (status : ℕ) (text : List ℕ) → Belongs row files status text → IsExactStatus row files status
exact_answer row files _ _ (too_large name is) = record {
  too_large = record { only = λ _. ap is_some is; all = λ _. inl refl };
  ended = λ ending. record {
    only = λ e. absurd (no_ending ending 10 (omega arith) (omega arith) (sym e));
    all = λ f. absurd (never_both (first_too_large row files) (ap is_some is) f.0);
  };
}
exact_answer row files _ _ (ended ending text within answer) = record {
  too_large = record {
    only = λ e. absurd (no_ending ending 10 (omega arith) (omega arith) e);
    all = λ some. absurd (never_both (first_too_large row files) some within);
  };
  ended = λ other. record {
    only = λ e. (within, subst (Fact row.command files) (same_ending ending other e) (caused row.command files ending text answer));
    all = λ f. inl (ap code_of (apart row.command files ending other (caused row.command files ending text answer) f.1));
  };
}

pub exact_yield : (row : Row) (files : List (List ℕ)) (status : ℕ) → IsTroubleStatus status → IsExactStatus row files status
exact_yield row files status y =
    let r = yield_range status y in
    record {
      too_large = record { only = λ e. absurd (omega (arith, r.1)); all = λ _. inr y };
      ended = λ ending. record { only = λ e. absurd (no_ending ending status r.0 (omega (arith, r.1)) (sym e)); all = λ _. inr y };
    }
