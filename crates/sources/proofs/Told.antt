-- Ends of a source and refusals that are right.
use Rattle.std.proofs.Common.{◌≡◌, List, ℕ, Result, Err, MatchResult, refl, ap, sym, subst, string_bytes, ◌∙◌}
use Rattle.lexer.specs.declared.faults.LexFault.{LexFault}
use Rattle.lexer.specs.declared.faults.LexFault.TheVariants as fault
use Rattle.lexer.specs.Tokens.{FirstFault}
use Rattle.lexer.proofs.Laying.{no_memory_fault}
use Rattle.lexer.specs.Places.{column_of}
use Rattle.report.specs.declared.source_fault.SourceFault.TheVariants as source
use Rattle.report.specs.SourceFaults.{IsToldFault, fault_words, refused_at_place, refused_line}
use Rattle.sources.specs.declared.refusal.Ending.{Ending}
use Rattle.sources.specs.declared.refusal.Ending.TheVariants.{Refused}
use Rattle.sources.specs.declared.refusal.Refusal.{Refusal}
use Rattle.sources.specs.declared.refusal.Refusal.TheVariants.{Line, NoMemory}
use Rattle.sources.specs.declared.refusal.SourceEnd.{SourceEnd}
use Rattle.sources.specs.declared.refusal.SourceEnd.TheVariants as ends
use Rattle.sources.specs.Refusals.{IsRight, Tells, IsRightEnd, TellsAt, TellsEnd}
use Rattle.sources.specs.Programs.{NoProgram}
use Rattle.sources.specs.Checking.{NoSource, no_program}

-- the first fault of the tokens isn't want of memory
pub lex_told : (text : List ℕ) (its : LexFault) → FirstFault text its → IsToldFault (source.Lex its)
lex_told text (fault.BadCharacter at) f = tt
lex_told text (fault.OpenComment at) f = tt
lex_told text (fault.LiteralTooLarge at) f = tt
lex_told text (fault.NameTooLong at) f = tt
lex_told text fault.NoMemory f = no_memory_fault f refl

-- a refusal that tells a right line is right
pub right_refusal : (R : Ending → List ℕ → Type 0) (ending : Ending) (line : List ℕ) (r : Refusal) → R ending line → Tells ending line r → IsRight R r
right_refusal R ending line (Line its text) is tells = subst (λ e. R e (string_bytes text)) (sym tells.0) (subst (R ending) (sym tells.1) is)
right_refusal R ending line NoMemory is tells = tt

-- what is right of some lines is right of more
pub right_of_more : (R S : Ending → List ℕ → Type 0) → ((ending : Ending) (line : List ℕ) → R ending line → S ending line) → (r : Refusal) → IsRight R r → IsRight S r
right_of_more R S more (Line ending line) is = more ending (string_bytes line) is
right_of_more R S more NoMemory is = tt

-- the exit of a refusal, where what is right of it is right of more
pub more_refused : {T : Type 0} (R S : Ending → List ℕ → Type 0) (Q : T → Type 0) (r : Result T Refusal) (e its : Refusal) → r ≡ Err e → e ≡ its
    → ((ended : Ending) (line : List ℕ) → R ended line → S ended line) → IsRight R its → MatchResult r Q (IsRight S)
more_refused R S Q r e its is same more right = subst (λ x. MatchResult x Q (IsRight S)) (sym is) (right_of_more R S more e (subst (IsRight R) (sym same) right))

-- an end that tells a fault whose line is right is right
pub right_fault : (R : Ending → List ℕ → Type 0) (text : List ℕ) (at : ℕ) (kind : List ℕ) (e : SourceEnd) → R Refused (refused_line text at kind) → TellsAt text at kind e → IsRightEnd R e
right_fault R text at kind (ends.Fault place its) is tells = record {
  text = text;
  at = at;
  line = tells.0;
  column = tells.1;
  belongs = subst (λ k. R Refused (refused_line text at k)) (sym tells.2) is;
}
right_fault R text at kind ends.NoMemory is tells = absurd tells

-- what is right of the lines of some ends is right of more
pub end_of_more : (R S : Ending → List ℕ → Type 0) → ((ending : Ending) (line : List ℕ) → R ending line → S ending line) → (e : SourceEnd) → IsRightEnd R e → IsRightEnd S e
end_of_more R S more (ends.Fault place its) is = record {
  text = is.text;
  at = is.at;
  line = is.line;
  column = is.column;
  belongs = more Refused (refused_line is.text is.at (fault_words its)) is.belongs;
}
end_of_more R S more ends.NoMemory is = tt

-- a refusal that tells a right end is right
pub right_end : (R : Ending → List ℕ → Type 0) (e : SourceEnd) (r : Refusal) → IsRightEnd R e → TellsEnd e r → IsRight R r
right_end R (ends.Fault place its) r is tells =
    let kind = fault_words its in
    let same : refused_line is.text is.at kind ≡ refused_at_place place.line place.column kind =
    ap (λ l. refused_at_place l (column_of is.text is.at) kind) (sym is.line) ∙ ap (λ c. refused_at_place place.line c kind) (sym is.column) in
    right_refusal R Refused (refused_at_place place.line place.column kind) r (subst (R Refused) same is.belongs) tells
right_end R ends.NoMemory r is tells = subst (IsRight R) (sym tells) tt

-- what refuses a program of the grammar refuses a well-formed source
pub refused_source : (file : List ℕ) (e : SourceEnd) → IsRightEnd (NoProgram file) e → IsRightEnd (NoSource file) e
refused_source file e is = end_of_more (NoProgram file) (NoSource file) (λ ending line i. no_program i) e is
