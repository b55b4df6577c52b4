-- What the clauses of the top call say, from what was found and what was said.
use Rattle.std.proofs.Common.{◌≡◌, ◌<◌, ◌≤◌, ℕ, suc, List, [], ◌∷◌, Option, Some, None, IfSome, length, replicate, refl, sym, ap, subst, ◌∙◌, arith, inl, inr, ◌⊎◌}
use Rattle.std.proofs.lemmas.List.{length-replicate}
use Rattle.std.proofs.lemmas.Option.{same_Some, none-some}
use Rattle.std.specs.Io.KnownBytes.{Appends}
use Rattle.lexer.specs.Limits.{longest_source}
use Rattle.sources.specs.Limits.{longest_second_file}
use Rattle.sources.specs.Files.{HasSameFaults, WritesText, WritesFrontOf}
use Rattle.sources.proofs.Exact.{told_fact, told_is}
use Rattle.edge.specs.Faults.{Rose}
use Rattle.edge.specs.Lines.{cannot_read_line, too_large_line}
use Rattle.edge.specs.Said.{SaysText, IsTroubleStatus}
use Rattle.witness_commands.specs.Outcomes.{IsWitnessOutcome, unread, over, read}
use Rattle.witness_commands.specs.Reading.{AreBytesOf, OfSchedule, IsFirstUnreadInput, source_unread, schedule_unread, IsFirstTooLargeInput, source_over, schedule_over}
use Rattle.witness_commands.specs.Words.{NamesFiles}
use Rattle.witness_commands.specs.Written.{IsAsked, BelongsToFiles, source_large, schedule_large, answered as belongs_answer, IsExact, WritesAnswerToFiles, IsSomeTextOfFiles, some_unread, some_answer}
use Rattle.witness_commands.proofs.SearchEndings.{exact_answer, exact_yield, not_between}

-- words name files in one way
pub record Same (source : List ℕ) (schedule : Option (List ℕ)) (its : List ℕ) (other : Option (List ℕ)) : Type 0 where
  pub source_is : source ≡ its
  pub schedule_is : schedule ≡ other

one_row : (words : List (List ℕ)) (source : List ℕ) (schedule : Option (List ℕ)) (its : List ℕ) (other : Option (List ℕ)) → NamesFiles words source schedule → NamesFiles words its other → Same source schedule its other
one_row words source (Some schedule) its (Some other) a b = let e : source ∷ schedule ∷ [] ≡ its ∷ other ∷ [] = sym a ∙ b in record { source_is = cc; schedule_is = cc }
one_row words source (Some schedule) its None a b = let e : source ∷ schedule ∷ [] ≡ its ∷ [] = sym a ∙ b in absurd cc
one_row words source None its (Some other) a b = let e : source ∷ [] ≡ its ∷ other ∷ [] = sym a ∙ b in absurd cc
one_row words source None its None a b = let e : source ∷ [] ≡ its ∷ [] = sym a ∙ b in record { source_is = cc; schedule_is = refl }

-- some bytes for which a fact holds, and those that are told where the folder tells them
record HasBytes (o : Option (List ℕ)) (F : List ℕ → Type 0) : Type 0 where
  file : List ℕ
  its : IfSome o (λ bytes. file ≡ bytes)
  fact : F file

some_bytes : (o : Option (List ℕ)) (F : List ℕ → Type 0) → (bytes : List ℕ) → F bytes → IfSome o F → HasBytes o F
some_bytes None F bytes fact is = record { file = bytes; its = tt; fact = fact }
some_bytes (Some file) F bytes fact is = record { file = file; its = refl; fact = is }

many : (n : ℕ) → n < length {A = ℕ} (replicate (suc n) 0)
many n = let e : length {A = ℕ} (replicate (suc n) 0) ≡ suc n = length-replicate {A = ℕ} (suc n) 0 in omega (arith, e)

some_over : (o : Option (List ℕ)) (limit : ℕ) → IfSome o (λ file. limit < length file) → HasBytes o (λ file. limit < length file)
some_over o limit is = some_bytes o (λ file. limit < length file) (replicate (suc limit) 0) (many limit) is

some_within : (o : Option (List ℕ)) (limit : ℕ) → IfSome o (λ file. length file ≤ limit) → HasBytes o (λ file. length file ≤ limit)
some_within o limit is = some_bytes o (λ file. length file ≤ limit) [] (omega arith) is

-- any bytes that are told where the folder tells them
any_bytes : (o : Option (List ℕ)) → HasBytes o (λ file. Unit {0})
any_bytes None = record { file = []; its = tt; fact = tt }
any_bytes (Some file) = record { file = file; its = refl; fact = tt }

-- any bytes of a schedule, where one is named
record HasText (told : List ℕ → Option (List ℕ)) (schedule : Option (List ℕ)) : Type 0 where
  text : Option (List ℕ)
  its : OfSchedule (AreBytesOf told) schedule text

any_text : (told : List ℕ → Option (List ℕ)) (schedule : Option (List ℕ)) → HasText told schedule
any_text told (Some name) = let any = any_bytes (told name) in record { text = Some any.file; its = any.its }
any_text told None = record { text = None; its = tt }

-- the bytes that are told of a schedule that is named
record HasTold (told : List ℕ → Option (List ℕ)) (name : List ℕ) (text : Option (List ℕ)) : Type 0 where
  bytes : List ℕ
  text_is : text ≡ Some bytes
  its : told name ≡ Some bytes

abbrev IsTold : (List ℕ → Option (List ℕ)) → (schedule text : Option (List ℕ)) → Type 0
IsTold told schedule text = OfSchedule (λ name bytes. told name ≡ Some bytes) schedule text

told_text : (told : List ℕ → Option (List ℕ)) (schedule text : Option (List ℕ)) (name : List ℕ) → schedule ≡ Some name → IsTold told schedule text → HasTold told name text
told_text told (Some other) (Some bytes) name is its = record { bytes = bytes; text_is = refl; its = ap told (sym (same_Some other name is)) ∙ its }
told_text told (Some other) None name is its = absurd its
told_text told None (Some bytes) name is its = absurd its
told_text told None None name is its = absurd (none-some name is)

same_text : (told : List ℕ → Option (List ℕ)) (schedule text letters : Option (List ℕ)) → IsTold told schedule text → OfSchedule (AreBytesOf told) schedule letters → letters ≡ text
same_text told (Some name) (Some text) (Some letters) is its = let some : List ℕ → Option (List ℕ) = λ b. Some b in ap some (told_is (told name) text letters is its)
same_text told (Some name) (Some text) None is its = absurd its
same_text told (Some name) None letters is its = absurd is
same_text told None (Some text) letters is its = absurd is
same_text told None None (Some letters) is its = absurd its
same_text told None None None is its = refl

-- the words name files: the status and the text, and what was said
pub record IsDone (words : List (List ℕ)) (result : ℕ) (told : List ℕ → Option (List ℕ)) (before now : List ℕ → ℕ) (old new : Option (List ℕ)) (sink_before sink_now : ℕ) : Type 0 where
  pub source : List ℕ
  pub schedule : Option (List ℕ)
  pub is_row : NamesFiles words source schedule
  pub status : ℕ
  pub out : List ℕ
  pub outcome : IsWitnessOutcome source schedule told before now status out
  pub said : SaysText result status out old new sink_before sink_now

module _ (told : List ℕ → Option (List ℕ)) (before now : List ℕ → ℕ) (source : List ℕ) (schedule : Option (List ℕ)) where
  -- the status of an outcome
  six : (status : ℕ) (out : List ℕ) → IsWitnessOutcome source schedule told before now status out → status ≡ 6
      → (name : List ℕ) × IsFirstUnreadInput told before now source schedule name × (out ≡ cannot_read_line name)
  six _ _ (unread name is) e = (name, is, refl)
  six _ _ (over name is) e = absurd (omega (arith, e))
  six _ _ (read {status = status} {out = out} file text is answer) e = absurd (not_between file text status out answer (omega (arith, e), omega (arith, e)))

  ten : (status : ℕ) (out : List ℕ) → IsWitnessOutcome source schedule told before now status out → status ≡ 10
      → (name : List ℕ) × IsFirstTooLargeInput told before now source schedule name × (out ≡ too_large_line name)
  ten _ _ (unread name is) e = absurd (omega (arith, e))
  ten _ _ (over name is) e = (name, is, refl)
  ten _ _ (read {status = status} {out = out} file text is answer) e = absurd (not_between file text status out answer (omega (arith, e), omega (arith, e)))

  not_seven : (status : ℕ) (out : List ℕ) → IsWitnessOutcome source schedule told before now status out → status ≡ 7 → ⊥
  not_seven _ _ (unread name is) e = omega (arith, e)
  not_seven _ _ (over name is) e = omega (arith, e)
  not_seven _ _ (read {status = status} {out = out} file text is answer) e = not_between file text status out answer (omega (arith, e), omega (arith, e))

  -- an outcome's status is none of those that come where not all is written
  none_between : (status : ℕ) (out : List ℕ) → IsWitnessOutcome source schedule told before now status out → 7 ≤ status → status ≤ 9 → ⊥
  none_between _ _ (unread name is) low high = omega (arith, low)
  none_between _ _ (over name is) low high = omega (arith, high)
  none_between _ _ (read {status = status} {out = out} file text is answer) low high = not_between file text status out answer (omega (arith, low), omega (arith, high))

  over_quiet : (name : List ℕ) → IsFirstTooLargeInput told before now source schedule name → HasSameFaults before now
  over_quiet _ (source_over is) = is.quiet
  over_quiet _ (schedule_over name named small is) = is.quiet

  calm_or_six : (status : ℕ) (out : List ℕ) → IsWitnessOutcome source schedule told before now status out → (status ≡ 6) ⊎ HasSameFaults before now
  calm_or_six _ _ (unread name is) = inl refl
  calm_or_six _ _ (over name is) = inr (over_quiet name is)
  calm_or_six _ _ (read {status = status} {out = out} file text is answer) = inr is.quiet

  -- the bytes to which it is the answer, whatever is told
  record IsToBytes (status : ℕ) (out : List ℕ) : Type 0 where
    file : List ℕ
    text : Option (List ℕ)
    source_is : AreBytesOf told source file
    schedule_is : OfSchedule (AreBytesOf told) schedule text
    belongs : BelongsToFiles source schedule file text status out

  over_bytes : (name : List ℕ) → IsFirstTooLargeInput told before now source schedule name → IsToBytes 10 (too_large_line name)
  over_bytes _ (source_over is) =
      let some = some_over (told source) longest_source is.over in
      let any = any_text told schedule in
      record { file = some.file; text = any.text; source_is = some.its; schedule_is = any.its; belongs = source_large some.fact }
  over_bytes _ (schedule_over name named small is) =
      let first = some_within (told source) longest_source small in
      let some = some_over (told name) longest_second_file is.over in
      let its = subst (λ o. OfSchedule (AreBytesOf told) o (Some some.file)) (sym named) some.its in
      record { file = first.file; text = Some some.file; source_is = first.its; schedule_is = its; belongs = schedule_large name some.file named refl first.fact some.fact }

  to_some : (status : ℕ) (out : List ℕ) → IsWitnessOutcome source schedule told before now status out → (status ≡ 6) ⊎ IsToBytes status out
  to_some _ _ (unread name is) = inl refl
  to_some _ _ (over name is) = inr (over_bytes name is)
  to_some _ _ (read {status = status} {out = out} file text is answer) =
      inr (record { file = file; text = text; source_is = is.source_is; schedule_is = is.schedule_is; belongs = belongs_answer is.within answer })

  -- of files that are told: that one can't be read, or what belongs to their bytes
  module _ (file : List ℕ) (text : Option (List ℕ)) (source_told : told source ≡ Some file) (schedule_told : IsTold told schedule text) where
    abbrev Unreadable : ℕ → List ℕ → Type 0
    Unreadable status out = (name : List ℕ) × IsFirstUnreadInput told before now source schedule name × (status ≡ 6) × (out ≡ cannot_read_line name)

    over_belongs : (name : List ℕ) → IsFirstTooLargeInput told before now source schedule name → BelongsToFiles source schedule file text 10 (too_large_line name)
    over_belongs _ (source_over is) = source_large (told_fact (λ f. longest_source < length f) (told source) file source_told is.over)
    over_belongs _ (schedule_over name named small is) =
        let its = told_text told schedule text name named schedule_told in
        schedule_large name its.bytes named its.text_is (told_fact (λ f. length f ≤ longest_source) (told source) file source_told small) (told_fact (λ f. longest_second_file < length f) (told name) its.bytes its.its is.over)

    to_told : (status : ℕ) (out : List ℕ) → IsWitnessOutcome source schedule told before now status out → Unreadable status out ⊎ BelongsToFiles source schedule file text status out
    to_told _ _ (unread name is) = inl (name, is, refl, refl)
    to_told _ _ (over name is) = inr (over_belongs name is)
    to_told _ _ (read {status = status} {out = out} bytes letters is answer) =
        let one = told_is (told source) file bytes source_told is.source_is in
        let other = same_text told schedule text letters schedule_told is.schedule_is in
        inr (subst (λ f. BelongsToFiles source schedule f text status out) one (subst (λ t. BelongsToFiles source schedule bytes t status out) other (belongs_answer is.within answer)))

module _ (words : List (List ℕ)) (result : ℕ) (told : List ℕ → Option (List ℕ)) (before now : List ℕ → ℕ) (old new : Option (List ℕ)) (sink_before sink_now : ℕ)
    (d : IsDone words result told before now old new sink_before sink_now) where
  abbrev Said : Type 0
  Said = SaysText result d.status d.out old new sink_before sink_now

  -- what was found, for what the words name
  its : (source : List ℕ) (schedule : Option (List ℕ)) → NamesFiles words source schedule → IsWitnessOutcome source schedule told before now d.status d.out
  its source schedule is =
      let same = one_row words d.source d.schedule source schedule d.is_row is in
      subst (λ x. IsWitnessOutcome x schedule told before now d.status d.out) same.source_is (subst (λ x. IsWitnessOutcome d.source x told before now d.status d.out) same.schedule_is d.outcome)

  -- a sink that fails
  pub failing : result ≡ 7 → Rose sink_before sink_now
  failing seven = by d.said
    where
      by : Said → Rose sink_before sink_now
      by (inr s) = s.2
      by (inl s) = absurd (none_between told before now d.source d.schedule d.status d.out d.outcome (omega (arith, s.0, seven)) (omega (arith, s.0, seven)))

  -- the statuses of words that ask for nothing, and of want of memory, don't come
  pub no_nine : result ≡ 9 → ⊥
  no_nine nine = by d.said
    where
      by : Said → ⊥
      by (inr s) = omega (arith, s.0, nine)
      by (inl s) = none_between told before now d.source d.schedule d.status d.out d.outcome (omega (arith, s.0, nine)) (omega (arith, s.0, nine))

  pub no_eight : result ≡ 8 → ⊥
  no_eight eight = by d.said
    where
      by : Said → ⊥
      by (inr s) = omega (arith, s.0, eight)
      by (inl s) = none_between told before now d.source d.schedule d.status d.out d.outcome (omega (arith, s.0, eight)) (omega (arith, s.0, eight))

  -- a file that can't be read
  pub unreadable : (source : List ℕ) (schedule : Option (List ℕ)) → NamesFiles words source schedule → result ≡ 6
      → (name : List ℕ) × IsFirstUnreadInput told before now source schedule name × Appends old new (cannot_read_line name)
  unreadable source schedule is e = by d.said
    where
      by : Said → (name : List ℕ) × IsFirstUnreadInput told before now source schedule name × Appends old new (cannot_read_line name)
      by (inr s) = absurd (omega (arith, s.0, e))
      by (inl s) = let p = six told before now source schedule d.status d.out (its source schedule is) (sym s.0 ∙ e) in (p.0, p.1, subst (Appends old new) p.2 s.1)

  -- a file that is over its limit
  pub over_limit : (source : List ℕ) (schedule : Option (List ℕ)) → NamesFiles words source schedule → result ≡ 10
      → (name : List ℕ) × IsFirstTooLargeInput told before now source schedule name × Appends old new (too_large_line name)
  over_limit source schedule is e = by d.said
    where
      by : Said → (name : List ℕ) × IsFirstTooLargeInput told before now source schedule name × Appends old new (too_large_line name)
      by (inr s) = absurd (omega (arith, s.0, e))
      by (inl s) = let p = ten told before now source schedule d.status d.out (its source schedule is) (sym s.0 ∙ e) in (p.0, p.1, subst (Appends old new) p.2 s.1)

  -- a fault of a file is answered by the line of a file that can't be read
  pub quiet : IsTroubleStatus result ⊎ HasSameFaults before now
  quiet = by d.said (calm_or_six told before now d.source d.schedule d.status d.out d.outcome)
    where
      by : Said → (d.status ≡ 6) ⊎ HasSameFaults before now → IsTroubleStatus result ⊎ HasSameFaults before now
      by (inr s) a = inl (inr (inl s.0))
      by (inl s) (inl e) = inl (inl (s.0 ∙ e))
      by (inl s) (inr calm) = inr calm

  -- whatever is told, the files have bytes to which this is the answer
  pub to_bytes : (source : List ℕ) (schedule : Option (List ℕ)) → NamesFiles words source schedule → IsTroubleStatus result ⊎ WritesAnswerToFiles source schedule told result old new
  to_bytes source schedule is = by d.said (to_some told before now source schedule d.status d.out (its source schedule is))
    where
      by : Said → (d.status ≡ 6) ⊎ IsToBytes told before now source schedule d.status d.out → IsTroubleStatus result ⊎ WritesAnswerToFiles source schedule told result old new
      by (inr s) a = inl (inr (inl s.0))
      by (inl s) (inl e) = inl (inl (s.0 ∙ e))
      by (inl s) (inr b) = inr (record {
        file = b.file;
        text = b.text;
        source_is = b.source_is;
        schedule_is = b.schedule_is;
        answer = record { text = d.out; belongs = subst (λ n. BelongsToFiles source schedule b.file b.text n d.out) (sym s.0) b.belongs; written = s.1 };
      })

  module _ (source : List ℕ) (schedule : Option (List ℕ)) (file : List ℕ) (text : Option (List ℕ)) (asked : IsAsked words told source schedule file text) where
    abbrev Gone : Type 0
    Gone = Unreadable told before now source schedule file text asked.source_told asked.schedule_told d.status d.out

    abbrev Belonging : Type 0
    Belonging = BelongsToFiles source schedule file text d.status d.out

    found : Gone ⊎ Belonging
    found = to_told told before now source schedule file text asked.source_told asked.schedule_told d.status d.out (its source schedule asked.is_row)

    writes : result ≡ d.status → Appends old new d.out → Belonging → WritesText (BelongsToFiles source schedule file text result) old new
    writes is written a = record { text = d.out; belongs = subst (λ n. BelongsToFiles source schedule file text n d.out) (sym is) a; written = written }

    pub answered : IsTroubleStatus result ⊎ WritesText (BelongsToFiles source schedule file text result) old new
    answered = by d.said found
      where
        by : Said → Gone ⊎ Belonging → IsTroubleStatus result ⊎ WritesText (BelongsToFiles source schedule file text result) old new
        by (inr s) a = inl (inr (inl s.0))
        by (inl s) (inl gone) = inl (inl (s.0 ∙ gone.2))
        by (inl s) (inr a) = inr (writes s.0 s.1 a)

    pub exact : IsExact file text result
    exact = by answered
      where
        by : IsTroubleStatus result ⊎ WritesText (BelongsToFiles source schedule file text result) old new → IsExact file text result
        by (inl y) = exact_yield file text result y
        by (inr w) = exact_answer source schedule file text result w.text w.belongs

    pub front : result ≡ 7 → WritesFrontOf (IsSomeTextOfFiles source schedule file text told before now) old new
    front seven = by d.said found
      where
        some : Gone ⊎ Belonging → IsSomeTextOfFiles source schedule file text told before now d.out
        some (inl gone) = subst (IsSomeTextOfFiles source schedule file text told before now) (sym gone.3) (some_unread gone.0 gone.1)
        some (inr a) = some_answer d.status d.out a

        by : Said → Gone ⊎ Belonging → WritesFrontOf (IsSomeTextOfFiles source schedule file text told before now) old new
        by (inl s) a = absurd (not_seven told before now source schedule d.status d.out (its source schedule asked.is_row) (sym s.0 ∙ seven))
        by (inr s) a = record { text = d.out; belongs = some a; written = s.1 }

    unread_rose : (name : List ℕ) → IsFirstUnreadInput told before now source schedule name → (Rose (before source) (now source) → ⊥) → IfSome schedule (λ name. Rose (before name) (now name) → ⊥) → ⊥
    unread_rose _ (source_unread is) one other = one is.rose
    unread_rose _ (schedule_unread name named small is) one other = let calm = subst (λ o. IfSome o (λ n. Rose (before n) (now n) → ⊥)) named other in calm is.rose

    pub complete : (Rose (before source) (now source) → ⊥) → IfSome schedule (λ name. Rose (before name) (now name) → ⊥) → (Rose sink_before sink_now → ⊥)
        → (result ≡ 8) ⊎ WritesText (BelongsToFiles source schedule file text result) old new
    complete one other sink_calm = by d.said found
      where
        by : Said → Gone ⊎ Belonging → (result ≡ 8) ⊎ WritesText (BelongsToFiles source schedule file text result) old new
        by (inr s) a = absurd (sink_calm s.2)
        by (inl s) (inl gone) = absurd (unread_rose gone.0 gone.1 one other)
        by (inl s) (inr a) = inr (writes s.0 s.1 a)
