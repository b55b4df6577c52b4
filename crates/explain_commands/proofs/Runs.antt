-- What the clauses of the top call say, from what was found and what was said.
use Rattle.std.proofs.Common.{◌≡◌, ◌<◌, ℕ, suc, List, [], ◌∷◌, Option, Some, None, IfSome, length, replicate, refl, sym, subst, ◌∙◌, arith, inl, inr, ◌⊎◌}
use Rattle.std.proofs.lemmas.List.{length-replicate}
use Rattle.std.specs.Io.KnownBytes.{Appends}
use Rattle.lexer.specs.Limits.{longest_source}
use Rattle.edge.specs.Faults.{Rose}
use Rattle.edge.specs.Lines.{cannot_read_line, too_large_line}
use Rattle.edge.specs.Said.{SaysText, IsTroubleStatus}
use Rattle.sources.specs.Refusals.{code_of}
use Rattle.sources.specs.Files.{HasSameFaults, IsUnread, IsOver, WritesText, WritesFrontOf}
use Rattle.sources.proofs.Exact.{told_fact, told_is}
use Rattle.explain_commands.specs.declared.words.Order.{Order}
use Rattle.explain_commands.specs.Outcomes.{AreOutcomes, IsExplainOutcome, unread, over, read, no_file, one_file}
use Rattle.explain_commands.specs.Words.{AsksFor, AsksForAll}
use Rattle.explain_commands.specs.Written.{AreAnswers, AreCalm, AreTold, IsTextOfFiles, IsAskedFile, BelongsToFile, too_large, ended, IsExactStatusOfFile, WritesAnswerToFile, IsSomeText, some_unread, some_answer, IsSomeTextToBytes, unread_line, answer_to}
use Rattle.explain_commands.proofs.Endings.{caused, low_code, exact_answer, exact_yield}
use Rattle.explain_commands.proofs.Several.{all_calm_or_six, all_told, alone, of_one, one_row}
use Rattle.explain_commands.proofs.Worst.{one_of_two}

-- some bytes that are too many, and those that are told where the folder tells them
record HasOver (told : Option (List ℕ)) : Type 0 where
  file : List ℕ
  its : IfSome told (λ bytes. file ≡ bytes)
  is_over : longest_source < length file

some_over : (told : Option (List ℕ)) → IfSome told (λ file. longest_source < length file) → HasOver told
some_over None is = record { file = replicate (suc longest_source) 0; its = tt; is_over = let e : length {A = ℕ} (replicate (suc longest_source) 0) ≡ suc longest_source = length-replicate {A = ℕ} (suc longest_source) 0 in omega (arith, e) }
some_over (Some file) is = record { file = file; its = refl; is_over = is }

-- the words ask for something: the status and the text of all files, and what was said
pub record IsDone (words : List (List ℕ)) (result : ℕ) (told : List ℕ → Option (List ℕ)) (before now : List ℕ → ℕ) (old new : Option (List ℕ)) (sink_before sink_now : ℕ) : Type 0 where
  pub order : Order
  pub names : List (List ℕ)
  pub are_names : AsksForAll words order names
  pub status : ℕ
  pub text : List ℕ
  pub outcomes : AreOutcomes order told names before now status text
  pub said : SaysText result status text old new sink_before sink_now

module _ (told : List ℕ → Option (List ℕ)) (before now : List ℕ → ℕ) (order : Order) (name : List ℕ) where
  -- the status of an outcome
  six : (status : ℕ) (text : List ℕ) → IsExplainOutcome order name told before now status text → status ≡ 6 → IsUnread told before now name × (text ≡ cannot_read_line name)
  six _ _ (unread is) e = (is, refl)
  six _ _ (over is) e = absurd (omega (arith, e))
  six _ _ (read file ending text is answer) e = absurd (let low = low_code order file ending (caused order name file ending text answer) in omega (arith, low, e))

  ten : (status : ℕ) (text : List ℕ) → IsExplainOutcome order name told before now status text → status ≡ 10 → IsOver told before now longest_source name × (text ≡ too_large_line name)
  ten _ _ (unread is) e = absurd (omega (arith, e))
  ten _ _ (over is) e = (is, refl)
  ten _ _ (read file ending text is answer) e = absurd (let low = low_code order file ending (caused order name file ending text answer) in omega (arith, low, e))

  -- a status that is none of a file
  none_of : (n : ℕ) → 2 < n → (6 ≡ n → ⊥) → (10 ≡ n → ⊥) → (status : ℕ) (text : List ℕ) → IsExplainOutcome order name told before now status text → status ≡ n → ⊥
  none_of n big six ten _ _ (unread is) e = six e
  none_of n big six ten _ _ (over is) e = ten e
  none_of n big six ten _ _ (read file ending text is answer) e = let low = low_code order file ending (caused order name file ending text answer) in omega (arith, low, big, e)

  not_seven : (status : ℕ) (text : List ℕ) → IsExplainOutcome order name told before now status text → status ≡ 7 → ⊥
  not_seven = none_of 7 (omega arith) (λ e. omega (arith, e)) (λ e. omega (arith, e))

  -- the bytes to which it is the answer, whatever is told
  record IsToBytes (status : ℕ) (text : List ℕ) : Type 0 where
    bytes : List ℕ
    its : IfSome (told name) (λ x. bytes ≡ x)
    belongs : BelongsToFile order name bytes status text

  to_some : (status : ℕ) (text : List ℕ) → IsExplainOutcome order name told before now status text → (status ≡ 6) ⊎ IsToBytes status text
  to_some _ _ (unread is) = inl refl
  to_some _ _ (over is) = let some = some_over (told name) is.over in inr (record { bytes = some.file; its = some.its; belongs = too_large some.is_over })
  to_some _ _ (read file ending text is answer) = inr (record { bytes = file; its = is.its; belongs = ended ending text is.within answer })

  -- what a front was written of, whatever is told
  some_text : (status : ℕ) (text : List ℕ) → IsExplainOutcome order name told before now status text → IsSomeTextToBytes order name told before now text
  some_text _ _ (unread is) = unread_line is
  some_text _ _ (over is) = let some = some_over (told name) is.over in answer_to some.file 10 (too_large_line name) some.its (too_large some.is_over)
  some_text _ _ (read file ending text is answer) = answer_to file (code_of ending) text is.its (ended ending text is.within answer)

  -- of a file that is told: that it can't be read, or what belongs to its bytes
  to_told : (file : List ℕ) → told name ≡ Some file → (status : ℕ) (text : List ℕ) → IsExplainOutcome order name told before now status text
      → (IsUnread told before now name × (status ≡ 6) × (text ≡ cannot_read_line name)) ⊎ BelongsToFile order name file status text
  to_told file is _ _ (unread gone) = inl (gone, refl, refl)
  to_told file is _ _ (over large) = inr (too_large (told_fact (λ its. longest_source < length its) (told name) file is large.over))
  to_told file is _ _ (read bytes ending text has answer) =
      let same = told_is (told name) file bytes is has.its in
      inr (subst (λ b. BelongsToFile order name b (code_of ending) text) same (ended ending text has.within answer))

-- a status that is none of a file is none of several
none_all : (order : Order) (told : List ℕ → Option (List ℕ)) (n : ℕ) → 2 < n → (6 ≡ n → ⊥) → (10 ≡ n → ⊥) → (names : List (List ℕ)) (before now : List ℕ → ℕ) (status : ℕ) (text : List ℕ)
    → AreOutcomes order told names before now status text → status ≡ n → ⊥
none_all order told n big six ten _ _ _ _ _ no_file e = omega (arith, big, e)
none_all order told n big six ten _ before now _ _ (one_file {name = name} {names = names} {between = between} {status = status} {worst = worst} {text = text} {rest = rest} outcome rises others) e =
    one_of_two status worst (λ s. s ≡ n → ⊥) (none_of told before between order name n big six ten status text outcome) (none_all order told n big six ten names between now worst rest others) e

module _ (words : List (List ℕ)) (result : ℕ) (told : List ℕ → Option (List ℕ)) (before now : List ℕ → ℕ) (old new : Option (List ℕ)) (sink_before sink_now : ℕ)
    (d : IsDone words result told before now old new sink_before sink_now) where
  -- what was found, for what the words ask
  all_its : (order : Order) (names : List (List ℕ)) → AsksForAll words order names → AreOutcomes order told names before now d.status d.text
  all_its order names are =
      let same = one_row words d.order order d.names names d.are_names are in
      subst (λ o. AreOutcomes o told names before now d.status d.text) same.order_is (subst (λ ns. AreOutcomes d.order told ns before now d.status d.text) same.names_are d.outcomes)

  its : (order : Order) (name : List ℕ) → AsksFor words order name → IsExplainOutcome order name told before now d.status d.text
  its order name is = of_one order told name before now d.status d.text (all_its order (name ∷ []) (alone words order name is))

  -- statuses that never come, and the one of a sink that fails
  pub never : (n : ℕ) → 2 < n → (6 ≡ n → ⊥) → (10 ≡ n → ⊥) → (7 ≡ n → ⊥) → result ≡ n → ⊥
  never n big six ten seven e = by d.said
    where
      by : SaysText result d.status d.text old new sink_before sink_now → ⊥
      by (inl s) = none_all d.order told n big six ten d.names before now d.status d.text d.outcomes (sym s.0 ∙ e)
      by (inr s) = seven (sym s.0 ∙ e)

  pub cannot_write : result ≡ 7 → Rose sink_before sink_now
  cannot_write e = by d.said
    where
      by : SaysText result d.status d.text old new sink_before sink_now → Rose sink_before sink_now
      by (inl s) = absurd (none_all d.order told 7 (omega arith) (λ k. omega (arith, k)) (λ k. omega (arith, k)) d.names before now d.status d.text d.outcomes (sym s.0 ∙ e))
      by (inr s) = s.2

  -- of one file or several, what was found of all
  pub files : (order : Order) (names : List (List ℕ)) → AsksForAll words order names → (result ≡ 7) ⊎ ((result ≡ 8) ⊎ WritesText (AreOutcomes order told names before now result) old new)
  files order names are = by d.said
    where
      by : SaysText result d.status d.text old new sink_before sink_now → (result ≡ 7) ⊎ ((result ≡ 8) ⊎ WritesText (AreOutcomes order told names before now result) old new)
      by (inl s) = inr (inr (record { text = d.text; belongs = subst (λ n. AreOutcomes order told names before now n d.text) (sym s.0) (all_its order names are); written = s.1 }))
      by (inr s) = inl s.0

  pub files_cut : (order : Order) (names : List (List ℕ)) → AsksForAll words order names → result ≡ 7 → WritesFrontOf (IsTextOfFiles order names told before now) old new
  files_cut order names are seven = by d.said
    where
      found : AreOutcomes order told names before now d.status d.text
      found = all_its order names are

      by : SaysText result d.status d.text old new sink_before sink_now → WritesFrontOf (IsTextOfFiles order names told before now) old new
      by (inl s) = absurd (none_all order told 7 (omega arith) (λ e. omega (arith, e)) (λ e. omega (arith, e)) names before now d.status d.text found (sym s.0 ∙ seven))
      by (inr s) = record { text = d.text; belongs = record { status = d.status; outcomes = found }; written = s.1 }

  pub files_complete : (order : Order) (names : List (List ℕ)) → AsksForAll words order names → AreTold told names → AreCalm before now names → (Rose sink_before sink_now → ⊥)
      → (result ≡ 8) ⊎ WritesText (AreAnswers order told names result) old new
  files_complete order names are some calm sink_calm = by d.said
    where
      by : SaysText result d.status d.text old new sink_before sink_now → (result ≡ 8) ⊎ WritesText (AreAnswers order told names result) old new
      by (inl s) =
          let answers = all_told order told names before now d.status d.text some calm (all_its order names are) in
          inr (record { text = d.text; belongs = subst (λ n. AreAnswers order told names n d.text) (sym s.0) answers; written = s.1 })
      by (inr s) = absurd (sink_calm s.2)

  -- a file that can't be read
  pub unreadable : (order : Order) (name : List ℕ) → AsksFor words order name → result ≡ 6 → IsUnread told before now name × Appends old new (cannot_read_line name)
  unreadable order name is e = by d.said
    where
      by : SaysText result d.status d.text old new sink_before sink_now → IsUnread told before now name × Appends old new (cannot_read_line name)
      by (inr s) = absurd (omega (arith, s.0, e))
      by (inl s) = let p = six told before now order name d.status d.text (its order name is) (sym s.0 ∙ e) in (p.0, subst (Appends old new) p.1 s.1)

  -- a file that is over its limit
  pub over_limit : (order : Order) (name : List ℕ) → AsksFor words order name → result ≡ 10 → IsOver told before now longest_source name × Appends old new (too_large_line name)
  over_limit order name is e = by d.said
    where
      by : SaysText result d.status d.text old new sink_before sink_now → IsOver told before now longest_source name × Appends old new (too_large_line name)
      by (inr s) = absurd (omega (arith, s.0, e))
      by (inl s) = let p = ten told before now order name d.status d.text (its order name is) (sym s.0 ∙ e) in (p.0, subst (Appends old new) p.1 s.1)

  -- a fault of a file is answered by the line of a file that can't be read
  pub quiet : IsTroubleStatus result ⊎ HasSameFaults before now
  quiet = by d.said (all_calm_or_six d.order told d.names before now d.status d.text d.outcomes)
    where
      by : SaysText result d.status d.text old new sink_before sink_now → (d.status ≡ 6) ⊎ HasSameFaults before now → IsTroubleStatus result ⊎ HasSameFaults before now
      by (inr s) a = inl (inr (inl s.0))
      by (inl s) (inl e) = inl (inl (s.0 ∙ e))
      by (inl s) (inr calm) = inr calm

  -- whatever is told, the file has bytes to which this is the answer
  pub to_bytes : (order : Order) (name : List ℕ) → AsksFor words order name → IsTroubleStatus result ⊎ WritesAnswerToFile order name told result old new
  to_bytes order name is = by d.said (to_some told before now order name d.status d.text (its order name is))
    where
      by : SaysText result d.status d.text old new sink_before sink_now → (d.status ≡ 6) ⊎ IsToBytes told before now order name d.status d.text → IsTroubleStatus result ⊎ WritesAnswerToFile order name told result old new
      by (inr s) a = inl (inr (inl s.0))
      by (inl s) (inl e) = inl (inl (s.0 ∙ e))
      by (inl s) (inr b) = inr (record {
        file = b.bytes;
        its = b.its;
        answer = record { text = d.text; belongs = subst (λ n. BelongsToFile order name b.bytes n d.text) (sym s.0) b.belongs; written = s.1 };
      })

  -- whatever is told, a front of the line of a file that can't be read, or of the answer to bytes that the file has
  pub cut_short : (order : Order) (name : List ℕ) → AsksFor words order name → result ≡ 7 → WritesFrontOf (IsSomeTextToBytes order name told before now) old new
  cut_short order name is seven = by d.said
    where
      by : SaysText result d.status d.text old new sink_before sink_now → WritesFrontOf (IsSomeTextToBytes order name told before now) old new
      by (inl s) = absurd (not_seven told before now order name d.status d.text (its order name is) (sym s.0 ∙ seven))
      by (inr s) = record { text = d.text; belongs = some_text told before now order name d.status d.text (its order name is); written = s.1 }

  module _ (order : Order) (name file : List ℕ) (asked : IsAskedFile words told order name file) where
    found : (IsUnread told before now name × (d.status ≡ 6) × (d.text ≡ cannot_read_line name)) ⊎ BelongsToFile order name file d.status d.text
    found = to_told told before now order name file asked.is_told d.status d.text (its order name asked.is_row)

    pub answered : IsTroubleStatus result ⊎ WritesText (BelongsToFile order name file result) old new
    answered = by d.said found
      where
        by : SaysText result d.status d.text old new sink_before sink_now → (IsUnread told before now name × (d.status ≡ 6) × (d.text ≡ cannot_read_line name)) ⊎ BelongsToFile order name file d.status d.text
            → IsTroubleStatus result ⊎ WritesText (BelongsToFile order name file result) old new
        by (inr s) a = inl (inr (inl s.0))
        by (inl s) (inl gone) = inl (inl (s.0 ∙ gone.1))
        by (inl s) (inr a) = inr (record { text = d.text; belongs = subst (λ n. BelongsToFile order name file n d.text) (sym s.0) a; written = s.1 })

    pub exact : IsExactStatusOfFile order file result
    exact = by answered
      where
        by : IsTroubleStatus result ⊎ WritesText (BelongsToFile order name file result) old new → IsExactStatusOfFile order file result
        by (inl y) = exact_yield order file result y
        by (inr w) = exact_answer order name file result w.text w.belongs

    pub front : result ≡ 7 → WritesFrontOf (IsSomeText order name file told before now) old new
    front seven = by d.said found
      where
        some : (IsUnread told before now name × (d.status ≡ 6) × (d.text ≡ cannot_read_line name)) ⊎ BelongsToFile order name file d.status d.text → IsSomeText order name file told before now d.text
        some (inl gone) = subst (IsSomeText order name file told before now) (sym gone.2) (some_unread gone.0)
        some (inr a) = some_answer d.status d.text a

        by : SaysText result d.status d.text old new sink_before sink_now → (IsUnread told before now name × (d.status ≡ 6) × (d.text ≡ cannot_read_line name)) ⊎ BelongsToFile order name file d.status d.text
            → WritesFrontOf (IsSomeText order name file told before now) old new
        by (inl s) a = absurd (not_seven told before now order name d.status d.text (its order name asked.is_row) (sym s.0 ∙ seven))
        by (inr s) a = record { text = d.text; belongs = some a; written = s.1 }

    pub complete : (Rose (before name) (now name) → ⊥) → (Rose sink_before sink_now → ⊥) → (result ≡ 8) ⊎ WritesText (BelongsToFile order name file result) old new
    complete calm sink_calm = by d.said found
      where
        by : SaysText result d.status d.text old new sink_before sink_now → (IsUnread told before now name × (d.status ≡ 6) × (d.text ≡ cannot_read_line name)) ⊎ BelongsToFile order name file d.status d.text
            → (result ≡ 8) ⊎ WritesText (BelongsToFile order name file result) old new
        by (inr s) a = absurd (sink_calm s.2)
        by (inl s) (inl gone) = absurd (calm gone.0.rose)
        by (inl s) (inr a) = inr (record { text = d.text; belongs = subst (λ n. BelongsToFile order name file n d.text) (sym s.0) a; written = s.1 })
