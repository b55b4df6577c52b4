-- What was found of a log, from how the reading ended.
use Rattle.std.proofs.Common.{◌≡◌, ℕ, true, ◌==◌, List, ◌++◌, length, Option, Some, None, IfSome, sym, ap, ◌∙◌, refl, subst}
use Rattle.std.proofs.lemmas.Bool.{eqb-false, not-true}
use Rattle.logs.specs.Judging.{Refusal}
use Rattle.logs.specs.Logs.{Guard}
use Rattle.logs.specs.Said.{SaidData}
use Rattle.log_reading.specs.Reading.{HasReadWhole, HasStoppedInFile}
use Rattle.logs.specs.declared.walk.WalkEnd.{WalkEnd}
use Rattle.logs.specs.declared.walk.WalkEnd.TheVariants as ends
use Rattle.logs.specs.Stops.{IsEnd}
use Rattle.logs.specs.Walks.{Stand, WalkedTo, Stands, NoLine, Refused, front, walk_then, walked}
use Rattle.logs.proofs.Walking.{walked_append}
use Rattle.trace_commands.specs.Outcomes.{Answers, IsGivenBy, IsJudgedLog, IsGuessed, is_some_other, IsTraceOutcome}

pub flipped : (told : Option (List ℕ)) (bytes : List ℕ) → IfSome told (λ file. file ≡ bytes) → IfSome told (λ file. bytes ≡ file)
flipped None bytes is = tt
flipped (Some file) bytes is = sym is

-- a log that was read whole
pub whole : (guard : ℕ → Guard) (log : List ℕ) (told : Option (List ℕ)) (limit many : ℕ) (s : Stand) (status : ℕ) (text : List ℕ) → HasReadWhole guard told limit many s
    → ((bytes : List ℕ) → walked guard front bytes ≡ Stands s → Answers guard log bytes status text) → IsJudgedLog guard log told status text
whole guard log told limit many s status text read answers = record { bytes = read.bytes; its = flipped told read.bytes read.its; answers = answers read.bytes read.leads }

-- how far a judge comes, as it ended, by the bytes of a file that is told
record Told (guard : ℕ → Guard) (told : Option (List ℕ)) (s : Stand) (end : WalkEnd) : Type 0 where
  pub bytes : List ℕ
  pub its : IfSome told (λ file. bytes ≡ file)
  pub far : WalkedTo
  pub leads : walked guard front bytes ≡ far
  pub ends : IsEnd s far end

module _ (guard : ℕ → Guard) (s : Stand) where
  no_line_on : (n : ℕ) (bytes rest file : List ℕ) → file ≡ bytes ++ rest → walked guard front bytes ≡ NoLine n → walked guard front file ≡ NoLine n
  no_line_on n bytes rest file is leads = ap (walked guard front) is ∙ walked_append guard front bytes rest ∙ ap (λ w. walk_then w (λ next. walked guard next rest)) leads

  refused_on : (n : ℕ) (said : SaidData) (why : Refusal) (bytes rest file : List ℕ) → file ≡ bytes ++ rest → walked guard front bytes ≡ Refused n said why → walked guard front file ≡ Refused n said why
  refused_on n said why bytes rest file is leads = ap (walked guard front) is ∙ walked_append guard front bytes rest ∙ ap (λ w. walk_then w (λ next. walked guard next rest)) leads

  in_file : (file : List ℕ) (end : WalkEnd) (w : WalkedTo) → IsEnd s w end → (bytes rest : List ℕ) → file ≡ bytes ++ rest → walked guard front bytes ≡ w → Told guard (Some file) s end
  in_file file ends.NoLine w is bytes rest parts leads = record { bytes = file; its = refl; far = NoLine s.line; leads = no_line_on s.line bytes rest file parts (leads ∙ is); ends = refl }
  in_file file (ends.Refused why) w is bytes rest parts leads = record { bytes = file; its = refl; far = w; leads = refused_on s.line is.0 _ bytes rest file parts (leads ∙ is.2) ∙ sym is.2; ends = is }
  in_file file ends.NoMemory w is bytes rest parts leads = record { bytes = file; its = refl; far = walked guard front file; leads = refl; ends = tt }

  told_by : (told : Option (List ℕ)) (end : WalkEnd) (w : WalkedTo) → IsEnd s w end → HasStoppedInFile guard told w → Told guard told s end
  told_by None end w is stopped = record { bytes = stopped.bytes; its = tt; far = w; leads = stopped.leads; ends = is }
  told_by (Some file) end w is stopped = in_file file end w is stopped.bytes stopped.fronts.0 stopped.fronts.1 stopped.leads

  -- a log in which a judge stopped
  pub stopped : (log : List ℕ) (told : Option (List ℕ)) (end : WalkEnd) (w : WalkedTo) (status : ℕ) (text : List ℕ) → IsEnd s w end → HasStoppedInFile guard told w
      → ((bytes : List ℕ) (far : WalkedTo) → walked guard front bytes ≡ far → IsEnd s far end → Answers guard log bytes status text) → IsJudgedLog guard log told status text
  stopped log told end w status text is read answers = let t = told_by told end w is read in
      record { bytes = t.bytes; its = t.its; answers = answers t.bytes t.far t.leads t.ends }

-- what is found by counts and bytes that are as before
pub moved : (log : List ℕ) (guards : Option (List ℕ)) (told told' : List ℕ → Option (List ℕ)) (before before' now : List ℕ → ℕ) (status : ℕ) (text : List ℕ)
    → ((name : List ℕ) → told' name ≡ told name) → ((name : List ℕ) → before' name ≡ before name) → IsTraceOutcome log guards told' before' now status text → IsTraceOutcome log guards told before now status text
moved log guards told told' before before' now status text same calm found =
    let tells : told' ≡ told = λ i. λ name. same name i in
    let counts : before' ≡ before = λ i. λ name. calm name i in
    subst (λ t. IsTraceOutcome log guards t before now status text) tells (subst (λ b. IsTraceOutcome log guards told' b now status text) counts found)

-- guards that are given by bytes that are as before
pub given_then : (guards : Option (List ℕ)) (told told' : List ℕ → Option (List ℕ)) (guard : ℕ → Guard) → ((name : List ℕ) → told' name ≡ told name) → IsGivenBy guards told guard → IsGivenBy guards told' guard
given_then guards told told' guard same given = let tells : told' ≡ told = λ i. λ name. same name i in subst (λ t. IsGivenBy guards t guard) (sym tells) given

-- a log whose bytes are told has as many when it is read once more
pub not_told : (guard : ℕ → Guard) (told : Option (List ℕ)) (limit many : ℕ) (s : Stand) (before : Option ℕ) → HasReadWhole guard told limit many s → IsGuessed told before → is_some_other before many ≡ true → told ≡ None
not_told guard None limit many s before read guessed other = refl
not_told guard (Some file) limit many s None read guessed other = absurd cc
not_told guard (Some file) limit many s (Some n) read guessed other =
    let long : length read.bytes ≡ many = read.long in
    let its : file ≡ read.bytes = read.its in
    let same : n ≡ many = sym guessed ∙ ap length its ∙ long in
    absurd (eqb-false n many (not-true (n == many) other) same)
