-- Which status comes, from what was said.
use Rattle.std.proofs.Common.{◌≡◌, ◌≢◌, ◌⊎◌, inl, inr, ℕ, ◌<◌, ◌≤◌, List, Option, Some, None, IfSome, Result, Ok, Err, length, refl, sym, ap, ◌∙◌, subst, arith}
use Rattle.std.proofs.lemmas.Option.{same_Some}
use Rattle.edge.specs.Said.{Exactly, SaysText}
use Rattle.log_guess.specs.Given.{guards_of}
use Rattle.logs.specs.Judging.{Refusal, HasEnded, NoBlock, Impossible, Cut}
use Rattle.logs.specs.Logs.{Guard, Unguarded}
use Rattle.logs.specs.Numbers.{number_of_word}
use Rattle.logs.specs.Walks.{Stand, WalkedTo, Stands, NoLine, Refused, front, walked}
use Rattle.trace_commands.specs.Answers.{IsAnswer, serial, no_line, cut_off, refused, open_block}
use Rattle.trace_commands.specs.Exact.{IsWalkStatus, IsLogStatus, IsStatusByGiven, IsStatusByText, AreExact, IsAskedByText, IsExactByText, IsAskedAlone, IsExactAlone}
use Rattle.trace_commands.specs.Lines.{refused_status}
use Rattle.trace_commands.specs.Outcomes.{IsTraceOutcome, unread, changed, over, no_guards, judged, longest_file}
use Rattle.trace_commands.specs.Words.{NamesLog}
use Rattle.trace_commands.proofs.Serials.{same_log, same_guards}

-- The status of an answer.
module _ (guard : ℕ → Guard) (name bytes : List ℕ) where
  answer_status : (n : ℕ) (line : List ℕ) → IsAnswer guard name bytes n line → IsLogStatus guard bytes n
  answer_status _ _ (serial s leads done closed) = subst (IsWalkStatus 0) (sym leads) (inr (done, inr (closed, refl)))
  answer_status _ _ (no_line n leads) = subst (IsWalkStatus 1) (sym leads) refl
  answer_status _ _ (cut_off s leads broken) = subst (IsWalkStatus 1) (sym leads) (inl (broken, refl))
  answer_status _ _ (refused n said why leads) = subst (IsWalkStatus (refused_status why)) (sym leads) refl
  answer_status _ _ (open_block s thread leads done within) = subst (IsWalkStatus 4) (sym leads) (inr (done, inl (number_of_word thread, within, refl)))

-- One status belongs to a walk.
one_end : (s : Stand) (n m : ℕ)
    → ((t : ℕ) × (s.known.depth t ≢ 0) × (n ≡ 4)) ⊎ (((t : ℕ) → s.known.depth t ≡ 0) × (n ≡ 0))
    → ((t : ℕ) × (s.known.depth t ≢ 0) × (m ≡ 4)) ⊎ (((t : ℕ) → s.known.depth t ≡ 0) × (m ≡ 0)) → n ≡ m
one_end s n m (inl a) (inl b) = a.2 ∙ sym b.2
one_end s n m (inl a) (inr b) = absurd (a.1 (b.0 a.0))
one_end s n m (inr a) (inl b) = absurd (b.1 (a.0 b.0))
one_end s n m (inr a) (inr b) = a.1 ∙ sym b.1

one_status : (w : WalkedTo) (n m : ℕ) → IsWalkStatus n w → IsWalkStatus m w → n ≡ m
one_status (NoLine line) n m a b = a ∙ sym b
one_status (Refused line said why) n m a b = a ∙ sym b
one_status (Stands s) n m (inl a) (inl b) = a.1 ∙ sym b.1
one_status (Stands s) n m (inl a) (inr b) = absurd (a.0 b.0)
one_status (Stands s) n m (inr a) (inl b) = absurd (b.0 a.0)
one_status (Stands s) n m (inr a) (inr b) = one_end s n m a.1 b.1

one_given : (g : Result (ℕ → Guard) ℕ) (bytes : List ℕ) (n m : ℕ) → IsStatusByGiven g bytes n → IsStatusByGiven g bytes m → n ≡ m
one_given (Ok guard) bytes n m a b = one_status (walked guard front bytes) n m a b
one_given (Err line) bytes n m a b = a ∙ sym b

refused_small : (why : Refusal) → refused_status why < 5
refused_small HasEnded = omega arith
refused_small NoBlock = omega arith
refused_small Impossible = omega arith
refused_small Cut = omega arith

end_small : (s : Stand) (n : ℕ) → ((t : ℕ) × (s.known.depth t ≢ 0) × (n ≡ 4)) ⊎ (((t : ℕ) → s.known.depth t ≡ 0) × (n ≡ 0)) → n < 5
end_small s n (inl a) = let e = a.2 in omega (arith, e)
end_small s n (inr a) = let e = a.1 in omega (arith, e)

small_status : (w : WalkedTo) (n : ℕ) → IsWalkStatus n w → n < 5
small_status (NoLine line) n a = omega (arith, a)
small_status (Refused line said why) n a = subst (λ k. k < 5) (sym a) (refused_small why)
small_status (Stands s) n (inl a) = let e = a.1 in omega (arith, e)
small_status (Stands s) n (inr a) = end_small s n a.1

small_given : (g : Result (ℕ → Guard) ℕ) (bytes : List ℕ) (n : ℕ) → IsStatusByGiven g bytes n → n < 5
small_given (Ok guard) bytes n a = small_status (walked guard front bytes) n a
small_given (Err line) bytes n a = omega (arith, a)

-- Statuses that come exactly where facts hold, of which one holds of one status, and none where something is too large.
module _ (fact : ℕ → Type 0) (large : Type 0) (one : (n m : ℕ) → fact n → fact m → n ≡ m) (small : (n : ℕ) → fact n → n < 5) (never : (n : ℕ) → fact n → large → ⊥) where
  -- what was found: a file couldn't be read, or is too large, or the fact of the status holds
  abbrev IsFound : ℕ → Type 0
  IsFound status = (status ≡ 6) ⊎ (((status ≡ 10) × large) ⊎ fact status)

  module _ (result status : ℕ) (said : (result ≡ status) ⊎ (result ≡ 7)) (found : IsFound status) where
    exactly : (n : ℕ) → n < 5 → Exactly result n (fact n)
    exactly n less = record { only = λ is. said_only said found is; all = λ holds. said_all said found holds }
      where
        said_only : (result ≡ status) ⊎ (result ≡ 7) → IsFound status → result ≡ n → fact n
        said_only (inr seven) f is = absurd (omega (arith, less, seven, is))
        said_only (inl same) (inl six) is = absurd (omega (arith, less, same, six, is))
        said_only (inl same) (inr (inl ten)) is = absurd (let e = ten.0 in omega (arith, less, same, e, is))
        said_only (inl same) (inr (inr holds)) is = subst fact (sym same ∙ is) holds

        said_all : (result ≡ status) ⊎ (result ≡ 7) → IsFound status → fact n → (result ≡ n) ⊎ ((result ≡ 6) ⊎ ((result ≡ 7) ⊎ (result ≡ 8)))
        said_all (inr seven) f holds = inr (inr (inl seven))
        said_all (inl same) (inl six) holds = inr (inl (same ∙ six))
        said_all (inl same) (inr (inl ten)) holds = absurd (never n holds ten.1)
        said_all (inl same) (inr (inr other)) holds = inl (same ∙ one status n other holds)

    exactly_large : Exactly result 10 large
    exactly_large = record { only = λ is. said_only said found is; all = λ holds. said_all said found holds }
      where
        said_only : (result ≡ status) ⊎ (result ≡ 7) → IsFound status → result ≡ 10 → large
        said_only (inr seven) f is = absurd (omega (arith, seven, is))
        said_only (inl same) (inl six) is = absurd (omega (arith, same, six, is))
        said_only (inl same) (inr (inl ten)) is = ten.1
        said_only (inl same) (inr (inr holds)) is = absurd (let less = small status holds in omega (arith, less, same, is))

        said_all : (result ≡ status) ⊎ (result ≡ 7) → IsFound status → large → (result ≡ 10) ⊎ ((result ≡ 6) ⊎ ((result ≡ 7) ⊎ (result ≡ 8)))
        said_all (inr seven) f holds = inr (inr (inl seven))
        said_all (inl same) (inl six) holds = inr (inl (same ∙ six))
        said_all (inl same) (inr (inl ten)) holds = inl (same ∙ ten.0)
        said_all (inl same) (inr (inr other)) holds = absurd (never status other holds)

    are_exact : AreExact fact result
    are_exact = record {
      serial = exactly 0 (omega arith);
      no_line = exactly 1 (omega arith);
      cut = exactly 2 (omega arith);
      impossible = exactly 3 (omega arith);
      open_block = exactly 4 (omega arith);
    }

-- without memory no fact is told
exactly_none : (result n : ℕ) (fact : Type 0) → result ≡ 8 → (n ≡ 8 → ⊥) → Exactly result n fact
exactly_none result n fact none other = record { only = λ is. absurd (other (sym is ∙ none)); all = λ holds. inr (inr (inr none)) }

none_exact : (fact : ℕ → Type 0) (result : ℕ) → result ≡ 8 → AreExact fact result
none_exact fact result none = record {
  serial = exactly_none result 0 (fact 0) none (λ e. omega (arith, e));
  no_line = exactly_none result 1 (fact 1) none (λ e. omega (arith, e));
  cut = exactly_none result 2 (fact 2) none (λ e. omega (arith, e));
  impossible = exactly_none result 3 (fact 3) none (λ e. omega (arith, e));
  open_block = exactly_none result 4 (fact 4) none (λ e. omega (arith, e));
}

pub none_by_text : (text bytes : List ℕ) (result : ℕ) → result ≡ 8 → IsExactByText text bytes result
none_by_text text bytes result none = record { too_large = exactly_none result 10 (longest_file < length text) none (λ e. omega (arith, e)); judged = none_exact (IsStatusByText text bytes) result none }

pub none_alone : (bytes : List ℕ) (result : ℕ) → result ≡ 8 → IsExactAlone bytes result
none_alone bytes result none = record { guard = λ p. Unguarded; judged = none_exact (IsLogStatus (λ p. Unguarded) bytes) result none; small = λ e. omega (arith, e, none) }

-- a file that is told isn't too large
not_large : (told : Option (List ℕ)) (bytes : List ℕ) → told ≡ Some bytes → length bytes ≤ longest_file → IfSome told (λ file. longest_file < length file) → ⊥
not_large told bytes is within large = let more = subst (λ o. IfSome o (λ file. longest_file < length file)) is large in omega (arith, within, more)

-- bytes of a file that is told
bytes_are : (told : Option (List ℕ)) (bytes file : List ℕ) → told ≡ Some file → IfSome told (λ f. bytes ≡ f) → bytes ≡ file
bytes_are told bytes file is its = subst (λ o. IfSome o (λ f. bytes ≡ f)) is its

said_status : (status result : ℕ) (text : List ℕ) (old new : Option (List ℕ)) (before now : ℕ) → SaysText result status text old new before now → (result ≡ status) ⊎ (result ≡ 7)
said_status status result text old new before now (inl says) = inl says.0
said_status status result text old new before now (inr says) = inr says.0

module _ (log : List ℕ) (told : List ℕ → Option (List ℕ)) (before now : List ℕ → ℕ) (bytes : List ℕ) (log_told : told log ≡ Some bytes) (within : length bytes ≤ longest_file) where
  -- what was found with a file of guards
  module _ (name text : List ℕ) (text_told : told name ≡ Some text) where
    given_status : (status : ℕ) (guard : ℕ → Guard) (read line : List ℕ) → read ≡ text → length read ≤ longest_file → guards_of read ≡ Ok guard → IsAnswer guard log bytes status line → IsStatusByText text bytes status
    given_status status guard read line same small gives answer = (
      subst (λ t. length t ≤ longest_file) same small,
      subst (λ g. IsStatusByGiven g bytes status) (sym gives ∙ ap guards_of same) (answer_status guard log bytes status line answer),
    )

    by_text : (status : ℕ) (line : List ℕ) → IsTraceOutcome log (Some name) told before now status line → (status ≡ 6) ⊎ (((status ≡ 10) × (longest_file < length text)) ⊎ IsStatusByText text bytes status)
    by_text _ _ (unread n named rose) = inl refl
    by_text _ _ (changed none) = inl refl
    by_text _ _ (over n (inl same) large) = absurd (not_large (told log) bytes log_told within (subst (λ k. IfSome (told k) (λ file. longest_file < length file)) same large))
    by_text _ _ (over n (inr same) large) =
        inr (inl (refl, subst (λ o. IfSome o (λ file. longest_file < length file)) (ap told (sym (same_Some name n same)) ∙ text_told) large))
    by_text _ _ (no_guards n line same none) =
        let read : none.0 ≡ text = bytes_are (told n) none.0 text (ap told (sym (same_Some name n same)) ∙ text_told) none.1.its in
        inr (inr (subst (λ t. length t ≤ longest_file) read none.1.within, subst (λ g. IsStatusByGiven g bytes 1) (sym none.2 ∙ ap guards_of read) refl))
    by_text status _ (judged _ line guard given j) =
        let read : given.0 ≡ text = bytes_are (told name) given.0 text text_told given.1.its in
        let its : j.bytes ≡ bytes = bytes_are (told log) j.bytes bytes log_told j.its in
        inr (inr (given_status status guard given.0 j.answers.line read given.1.within given.2 (subst (λ b. IsAnswer guard log b status j.answers.line) its j.answers.answer)))

    pub exact_by_text : (result status : ℕ) (line said : List ℕ) (old new : Option (List ℕ)) (sink_before sink_now : ℕ) → IsTraceOutcome log (Some name) told before now status line → SaysText result status said old new sink_before sink_now
        → IsExactByText text bytes result
    exact_by_text result status line said old new sink_before sink_now outcome says =
        let fact = IsStatusByText text bytes in
        let large = longest_file < length text in
        let one : (n m : ℕ) → fact n → fact m → n ≡ m = λ n m a b. one_given (guards_of text) bytes n m a.1 b.1 in
        let small : (n : ℕ) → fact n → n < 5 = λ n a. small_given (guards_of text) bytes n a.1 in
        let never : (n : ℕ) → fact n → large → ⊥ = λ n a l. let low = a.0 in omega (arith, low, l) in
        let ends = said_status status result said old new sink_before sink_now says in
        let found = by_text status line outcome in
        record { too_large = exactly_large fact large one small never result status ends found; judged = are_exact fact large one small never result status ends found }

  -- what was found with guesses
  alone : (status : ℕ) (line : List ℕ) → IsTraceOutcome log None told before now status line → (guard : ℕ → Guard) × ((status ≡ 6) ⊎ (((status ≡ 10) × ⊥) ⊎ IsLogStatus guard bytes status))
  alone _ _ (unread n named rose) = ((λ p. Unguarded), inl refl)
  alone _ _ (changed none) = ((λ p. Unguarded), inl refl)
  alone _ _ (over n (inl same) large) = absurd (not_large (told log) bytes log_told within (subst (λ k. IfSome (told k) (λ file. longest_file < length file)) same large))
  alone _ _ (over n (inr same) large) = absurd cc
  alone _ _ (no_guards n line same none) = absurd cc
  alone status _ (judged _ line guard given j) =
      let its : j.bytes ≡ bytes = bytes_are (told log) j.bytes bytes log_told j.its in
      (guard, inr (inr (answer_status guard log bytes status j.answers.line (subst (λ b. IsAnswer guard log b status j.answers.line) its j.answers.answer))))

  pub exact_alone : (result status : ℕ) (line said : List ℕ) (old new : Option (List ℕ)) (sink_before sink_now : ℕ) → IsTraceOutcome log None told before now status line → SaysText result status said old new sink_before sink_now
      → IsExactAlone bytes result
  exact_alone result status line said old new sink_before sink_now outcome says =
      let found = alone status line outcome in
      let guard = found.0 in
      let fact = IsLogStatus guard bytes in
      let one : (n m : ℕ) → fact n → fact m → n ≡ m = λ n m a b. one_status (walked guard front bytes) n m a b in
      let small : (n : ℕ) → fact n → n < 5 = λ n a. small_status (walked guard front bytes) n a in
      let ends = said_status status result said old new sink_before sink_now says in
      let large = exactly_large fact ⊥ one small (λ n a l. l) result status ends found.1 in
      record { guard = guard; judged = are_exact fact ⊥ one small (λ n a l. l) result status ends found.1; small = large.only }

-- The same by the words.
module _ (words : List (List ℕ)) (told : List ℕ → Option (List ℕ)) (before now : List ℕ → ℕ) (named : List ℕ) (given : Option (List ℕ)) (row : NamesLog words named given) where
  asked_outcome : (log : List ℕ) (guards : Option (List ℕ)) (status : ℕ) (line : List ℕ) → NamesLog words log guards → IsTraceOutcome named given told before now status line → IsTraceOutcome log guards told before now status line
  asked_outcome log guards status line names outcome =
      subst (λ l. IsTraceOutcome l guards told before now status line) (sym (same_log words log named guards given names row))
      (subst (λ g. IsTraceOutcome named g told before now status line) (sym (same_guards words log named guards given names row)) outcome)

  pub run_by_text : (log name bytes text : List ℕ) (result status : ℕ) (line said : List ℕ) (old new : Option (List ℕ)) (sink_before sink_now : ℕ) → IsAskedByText words told log name bytes text
      → IsTraceOutcome named given told before now status line → SaysText result status said old new sink_before sink_now → IsExactByText text bytes result
  run_by_text log name bytes text result status line said old new sink_before sink_now asked outcome says =
      exact_by_text log told before now bytes asked.log_told asked.within name text asked.text_told result status line said old new sink_before sink_now (asked_outcome log (Some name) status line asked.row outcome) says

  pub run_alone : (log bytes : List ℕ) (result status : ℕ) (line said : List ℕ) (old new : Option (List ℕ)) (sink_before sink_now : ℕ) → IsAskedAlone words told log bytes
      → IsTraceOutcome named given told before now status line → SaysText result status said old new sink_before sink_now → IsExactAlone bytes result
  run_alone log bytes result status line said old new sink_before sink_now asked outcome says =
      exact_alone log told before now bytes asked.log_told asked.within result status line said old new sink_before sink_now (asked_outcome log None status line asked.row outcome) says
