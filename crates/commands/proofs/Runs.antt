-- What the clauses of the top call say, from what was done and what was said.
use Rattle.std.proofs.Common.{◌≡◌, ℕ, List, Option, refl, sym, subst, ◌∙◌, arith, inl, inr, ◌⊎◌, Contains}
use Rattle.edge.specs.Faults.{Rose}
use Rattle.sources.specs.declared.refusal.Ending.{Ending}
use Rattle.sources.specs.Refusals.{code_of}
use Rattle.sources.specs.Files.{HasSameFaults, WritesText}
use Rattle.commands.specs.declared.status.Status.{Status}
use Rattle.commands.specs.declared.status.Status.TheVariants.{Ended, CannotRead, CannotWrite, NoMemory, Usage, TooLarge}
use Rattle.commands.specs.Rows.{Row, IsRow, limits_of}
use Rattle.commands.proofs.OneRow.{one_row}
use Rattle.commands.specs.Files.{IsAskedRow, AreBounded}
use Rattle.commands.specs.Reading.{AreTheirs}
use Rattle.edge.specs.Said.{IsTroubleStatus, SaysText}
use Rattle.commands.specs.Answers.{CommandAnswer, Belongs, too_large, ended, IsExactStatus}
use Rattle.commands.specs.Said.{IsLineOfUnread, WritesUnread, WritesTooLarge, WritesAnswerToBytes, WritesFront, BelongsToBytes, WritesFrontToBytes}
use Rattle.commands.specs.Commands.{exit_status}
use Rattle.commands.specs.Outcomes.{IsCommandAnswer, IsOutcome}
use Rattle.commands.proofs.Endings.{exact_answer, exact_yield, no_ending}
use Rattle.commands.proofs.FileLemmas.{bounded_within, theirs_told, over_first, over_some, unread_named}

-- no outcome has the status of a sink that fails
other_than_seven : (row : Row) (told : List ℕ → Option (List ℕ)) (before now : List ℕ → ℕ) (status : Status) (text : List ℕ) → IsOutcome row told before now status text → exit_status status ≡ 7 → ⊥
other_than_seven row told before now (Ended ending) text is e = no_ending ending 7 (omega arith) (omega arith) e
other_than_seven row told before now CannotRead text is e = omega arith
other_than_seven row told before now TooLarge text is e = omega arith
other_than_seven row told before now CannotWrite text is e = is
other_than_seven row told before now NoMemory text is e = is
other_than_seven row told before now Usage text is e = is

-- what a command answers to bytes that are those of its files
record IsGiven (row : Row) (told : List ℕ → Option (List ℕ)) (files : List (List ℕ)) (ending : Ending) (text : List ℕ) : Type 0 where
  theirs : AreTheirs told row.names files
  bounded : AreBounded (limits_of row.command) files
  answer : CommandAnswer row.command files ending text

given : (row : Row) (told : List ℕ → Option (List ℕ)) (before now : List ℕ → ℕ) (ending : Ending) (text : List ℕ) (is : IsCommandAnswer row told before now ending text) → IsGiven row told is.files ending text
given row told before now ending text is = record { theirs = is.read.theirs; bounded = is.read.bounded; answer = is.answer }

answer_belongs : {told : List ℕ → Option (List ℕ)} (row : Row) (files : List (List ℕ)) (its : Ending) {text : List ℕ} → IsGiven row told files its text → Belongs row files (code_of its) text
answer_belongs row files its {text} is = ended its text (bounded_within (limits_of row.command) row.names files is.bounded) is.answer

-- a row was done: its status and text, and what was said
pub record IsDone (words : List (List ℕ)) (result : ℕ) (told : List ℕ → Option (List ℕ)) (before now : List ℕ → ℕ) (old new : Option (List ℕ)) (sink_before sink_now : ℕ) : Type 0 where
  pub row : Row
  pub is_row : IsRow words row
  pub status : Status
  pub text : List ℕ
  pub outcome : IsOutcome row told before now status text
  pub said : SaysText result (exit_status status) text old new sink_before sink_now

module _ (words : List (List ℕ)) (result : ℕ) (told : List ℕ → Option (List ℕ)) (before now : List ℕ → ℕ) (old new : Option (List ℕ)) (sink_before sink_now : ℕ)
    (d : IsDone words result told before now old new sink_before sink_now) where
  -- a file that can't be read
  pub unreadable : (row : Row) → IsRow words row → result ≡ 6 → WritesUnread row told before now old new
  unreadable row is six = by d.status (subst (λ r. IsOutcome r told before now d.status d.text) (one_row words d.row row d.is_row is) d.outcome) d.said
    where
      by : (status : Status) → IsOutcome row told before now status d.text → SaysText result (exit_status status) d.text old new sink_before sink_now → WritesUnread row told before now old new
      by status is (inr s) = absurd (omega (arith, s.0))
      by CannotRead is (inl s) = record { line = d.text; unread = is; written = s.1 }
      by (Ended ending) is (inl s) = absurd (no_ending ending 6 (omega arith) (omega arith) (sym s.0 ∙ six))
      by TooLarge is (inl s) = absurd (omega (arith, s.0))
      by CannotWrite is (inl s) = absurd is
      by NoMemory is (inl s) = absurd is
      by Usage is (inl s) = absurd is

  -- a file that is over its limit
  pub over_limit : (row : Row) → IsRow words row → result ≡ 10 → WritesTooLarge row told before now old new
  over_limit row is ten = by d.status (subst (λ r. IsOutcome r told before now d.status d.text) (one_row words d.row row d.is_row is) d.outcome) d.said
    where
      by : (status : Status) → IsOutcome row told before now status d.text → SaysText result (exit_status status) d.text old new sink_before sink_now → WritesTooLarge row told before now old new
      by status is (inr s) = absurd (omega (arith, s.0))
      by TooLarge is (inl s) = record { line = d.text; large = is; written = s.1 }
      by (Ended ending) is (inl s) = absurd (no_ending ending 10 (omega arith) (omega arith) (sym s.0 ∙ ten))
      by CannotRead is (inl s) = absurd (omega (arith, s.0))
      by CannotWrite is (inl s) = absurd is
      by NoMemory is (inl s) = absurd is
      by Usage is (inl s) = absurd is

  -- a fault of a file is answered by the line of a file that can't be read
  pub quiet : IsTroubleStatus result ⊎ HasSameFaults before now
  quiet = by d.status d.outcome d.said
    where
      by : (status : Status) → IsOutcome d.row told before now status d.text → SaysText result (exit_status status) d.text old new sink_before sink_now → IsTroubleStatus result ⊎ HasSameFaults before now
      by status is (inr s) = inl (inr (inl s.0))
      by (Ended ending) is (inl s) = inr is.read.quiet
      by TooLarge is (inl s) = inr is.first.quiet
      by CannotRead is (inl s) = inl (inl s.0)
      by CannotWrite is (inl s) = absurd is
      by NoMemory is (inl s) = absurd is
      by Usage is (inl s) = absurd is

  -- whatever is told, the files have bytes to which this is the answer
  pub to_bytes : (row : Row) → IsRow words row → IsTroubleStatus result ⊎ WritesAnswerToBytes row told result old new
  to_bytes row is = by d.status (subst (λ r. IsOutcome r told before now d.status d.text) (one_row words d.row row d.is_row is) d.outcome) d.said
    where
      by : (status : Status) → IsOutcome row told before now status d.text → SaysText result (exit_status status) d.text old new sink_before sink_now → IsTroubleStatus result ⊎ WritesAnswerToBytes row told result old new
      by status is (inr s) = inl (inr (inl s.0))
      by (Ended ending) is (inl s) = inr (record {
        files = is.files;
        theirs = is.read.theirs;
        answer = record { text = d.text; belongs = subst (λ n. Belongs row is.files n d.text) (sym s.0) (answer_belongs row is.files ending (given row told before now ending d.text is)); written = s.1 };
      })
      by TooLarge is (inl s) =
          let some = over_some told before now (limits_of row.command) row.names is.name is.first in
          inr (record {
            files = some.files;
            theirs = some.theirs;
            answer = record { text = d.text; belongs = subst (λ n. Belongs row some.files n d.text) (sym s.0) (subst (Belongs row some.files 10) (sym is.says) (too_large is.name some.over)); written = s.1 };
          })
      by CannotRead is (inl s) = inl (inl s.0)
      by CannotWrite is (inl s) = absurd is
      by NoMemory is (inl s) = absurd is
      by Usage is (inl s) = absurd is

  -- whatever is told, a front of the line of a file that can't be read, or of the answer to bytes that the files have
  pub cut_short : (row : Row) → IsRow words row → result ≡ 7 → WritesFrontToBytes row told before now old new
  cut_short row is seven = by d.said
    where
      belongs : (status : Status) → IsOutcome row told before now status d.text → IsLineOfUnread row told before now d.text ⊎ BelongsToBytes row told d.text
      belongs CannotRead is = inl is
      belongs (Ended ending) is = inr (record { files = is.files; theirs = is.read.theirs; status = code_of ending; belongs = answer_belongs row is.files ending (given row told before now ending d.text is) })
      belongs TooLarge is =
          let some = over_some told before now (limits_of row.command) row.names is.name is.first in
          inr (record { files = some.files; theirs = some.theirs; status = 10; belongs = subst (Belongs row some.files 10) (sym is.says) (too_large is.name some.over) })
      belongs CannotWrite is = absurd is
      belongs NoMemory is = absurd is
      belongs Usage is = absurd is

      by : SaysText result (exit_status d.status) d.text old new sink_before sink_now → WritesFrontToBytes row told before now old new
      by (inl s) = absurd (other_than_seven d.row told before now d.status d.text d.outcome (sym s.0 ∙ seven))
      by (inr s) = record { text = d.text; belongs = belongs d.status (subst (λ r. IsOutcome r told before now d.status d.text) (one_row words d.row row d.is_row is) d.outcome); written = s.1 }

  module _ (row : Row) (files : List (List ℕ)) (asked : IsAskedRow words told row files) where
    -- the line of a file that can't be read, or what belongs to the files
    its : (IsLineOfUnread row told before now d.text × (exit_status d.status ≡ 6)) ⊎ Belongs row files (exit_status d.status) d.text
    its = by d.status (subst (λ r. IsOutcome r told before now d.status d.text) (one_row words d.row row d.is_row asked.is_row) d.outcome)
      where
        by : (status : Status) → IsOutcome row told before now status d.text → (IsLineOfUnread row told before now d.text × (exit_status status ≡ 6)) ⊎ Belongs row files (exit_status status) d.text
        by CannotRead is = inl (is, refl)
        by (Ended ending) is = inr (answer_belongs row files ending (subst (λ fs. IsGiven row told fs ending d.text) (theirs_told told row.names files is.files asked.are_told is.read.theirs) (given row told before now ending d.text is)))
        by TooLarge is = inr (subst (Belongs row files 10) (sym is.says) (too_large is.name (over_first told before now (limits_of row.command) row.names files is.name asked.are_told is.first)))
        by CannotWrite is = absurd is
        by NoMemory is = absurd is
        by Usage is = absurd is

    pub answered : IsTroubleStatus result ⊎ WritesText (Belongs row files result) old new
    answered = by d.said its
      where
        by : SaysText result (exit_status d.status) d.text old new sink_before sink_now → (IsLineOfUnread row told before now d.text × (exit_status d.status ≡ 6)) ⊎ Belongs row files (exit_status d.status) d.text → IsTroubleStatus result ⊎ WritesText (Belongs row files result) old new
        by (inr s) a = inl (inr (inl s.0))
        by (inl s) (inl six) = inl (inl (s.0 ∙ six.1))
        by (inl s) (inr a) = inr (record { text = d.text; belongs = subst (λ n. Belongs row files n d.text) (sym s.0) a; written = s.1 })

    pub exact : IsExactStatus row files result
    exact = by answered
      where
        by : IsTroubleStatus result ⊎ WritesText (Belongs row files result) old new → IsExactStatus row files result
        by (inl y) = exact_yield row files result y
        by (inr w) = exact_answer row files result w.text w.belongs

    pub front : result ≡ 7 → WritesFront row files told before now old new
    front seven = by d.said its
      where
        belongs : (IsLineOfUnread row told before now d.text × (exit_status d.status ≡ 6)) ⊎ Belongs row files (exit_status d.status) d.text → IsLineOfUnread row told before now d.text ⊎ Belongs row files (exit_status d.status) d.text
        belongs (inl a) = inl a.0
        belongs (inr a) = inr a

        by : SaysText result (exit_status d.status) d.text old new sink_before sink_now → (IsLineOfUnread row told before now d.text × (exit_status d.status ≡ 6)) ⊎ Belongs row files (exit_status d.status) d.text → WritesFront row files told before now old new
        by (inl s) a = absurd (other_than_seven d.row told before now d.status d.text d.outcome (sym s.0 ∙ seven))
        by (inr s) a = record { status = exit_status d.status; text = d.text; belongs = belongs a; written = s.1 }

    pub complete : ((name : List ℕ) → Contains row.names name → Rose (before name) (now name) → ⊥) → (Rose sink_before sink_now → ⊥) → (result ≡ 8) ⊎ WritesText (Belongs row files result) old new
    complete calm sink_calm = by d.said its
      where
        by : SaysText result (exit_status d.status) d.text old new sink_before sink_now → (IsLineOfUnread row told before now d.text × (exit_status d.status ≡ 6)) ⊎ Belongs row files (exit_status d.status) d.text → (result ≡ 8) ⊎ WritesText (Belongs row files result) old new
        by (inr s) a = absurd (sink_calm s.2)
        by (inl s) (inl six) = absurd (calm six.0.name (unread_named told before now (limits_of row.command) row.names six.0.name six.0.first) six.0.first.rose)
        by (inl s) (inr a) = inr (record { text = d.text; belongs = subst (λ n. Belongs row files n d.text) (sym s.0) a; written = s.1 })
