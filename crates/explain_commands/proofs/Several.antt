-- Several files, from what was found of each.
use Rattle.std.proofs.Common.{◌≡◌, ◌≤◌, ◌<◌, ◌+◌, ℕ, List, [], ◌∷◌, ◌++◌, Option, Some, IfSome, IsSome, append-nil, append_assoc, drop, get_or, length, map, String, string_bytes, refl, sym, ap, subst, ◌∙◌, arith, inl, inr, ◌⊎◌}
use Rattle.std.proofs.Math.ListN.{drop_of_length-le}
use Rattle.std.specs.Global.{Global}
use Rattle.base.proofs.Lists.{next_drop}
use Rattle.base.proofs.Options.{some_there}
use Rattle.edge.specs.Faults.{Rose}
use Rattle.lexer.specs.Limits.{longest_source}
use Rattle.sources.specs.Files.{HasSameFaults}
use Rattle.sources.specs.Refusals.{code_of}
use Rattle.explain_commands.specs.declared.words.Order.{Order}
use Rattle.explain_commands.specs.declared.words.Order.TheVariants.{Why, All, Strict}
use Rattle.explain_commands.specs.Outcomes.{AreOutcomes, IsExplainOutcome, unread, over, read, no_file, one_file}
use Rattle.explain_commands.specs.Words.{AsksFor, AsksForAll, HasNoFlag, IsFlagWord, all_word, strict_word}
use Rattle.explain_commands.specs.Worse.{worse}
use Rattle.explain_commands.specs.Written.{AreAnswers, AreCalm, AreTold, BelongsToFile, no_answer, one_answer, too_large, ended}
use Rattle.explain_commands.proofs.Worst.{worse_each, worse_first, worse_last, six_first, six_last}

-- ---- what words ask for

-- words that ask for one file ask for it as the only one
pub alone : (words : List (List ℕ)) (order : Order) (name : List ℕ) → AsksFor words order name → AsksForAll words order (name ∷ [])
alone words Why name is = (is.0, λ e. cc, (is.1, tt))
alone words All name is = (is, λ e. cc)
alone words Strict name is = (is, λ e. cc)

-- a flag at a place
pub flag_at : (words : List (String Global)) (i : ℕ) (x : String Global) → i < length words → x ≡ get_or words i x → IsFlagWord (string_bytes x) → HasNoFlag (map string_bytes (drop i words)) → ⊥
flag_at words i x below is flag none = (subst (λ ys. HasNoFlag (map string_bytes ys)) (next_drop words i x below is) none).0 flag

-- words ask for one thing at most
pub record Same (order other : Order) (names its : List (List ℕ)) : Type 0 where
  pub order_is : order ≡ other
  pub names_are : names ≡ its

flagged : (word : List ℕ) (names rest : List (List ℕ)) → IsFlagWord word → names ≡ word ∷ rest → HasNoFlag names → ⊥
flagged word names rest flag is none = (subst HasNoFlag is none).0 flag

behind : (x y : List ℕ) (xs ys : List (List ℕ)) → x ∷ xs ≡ y ∷ ys → xs ≡ ys
behind x y xs ys e = cc

before : (x y : List ℕ) (xs ys : List (List ℕ)) → x ∷ xs ≡ y ∷ ys → x ≡ y
before x y xs ys e = cc

-- the two flags differ
apart : all_word ≡ strict_word → ⊥
apart e = let longer : 5 ≡ 8 = ap length e in omega (arith, longer)

pub one_row : (words : List (List ℕ)) (order other : Order) (names its : List (List ℕ)) → AsksForAll words order names → AsksForAll words other its → Same order other names its
one_row words Why Why names its a b = record { order_is = refl; names_are = sym a.0 ∙ b.0 }
one_row words Why All names its a b = absurd (flagged all_word names its (inl refl) (sym a.0 ∙ b.0) a.2)
one_row words Why Strict names its a b = absurd (flagged strict_word names its (inr refl) (sym a.0 ∙ b.0) a.2)
one_row words All Why names its a b = absurd (flagged all_word its names (inl refl) (sym b.0 ∙ a.0) b.2)
one_row words All All names its a b = record { order_is = refl; names_are = behind all_word all_word names its (sym a.0 ∙ b.0) }
one_row words All Strict names its a b = absurd (apart (before all_word strict_word names its (sym a.0 ∙ b.0)))
one_row words Strict Why names its a b = absurd (flagged strict_word its names (inr refl) (sym b.0 ∙ a.0) b.2)
one_row words Strict All names its a b = absurd (apart (before all_word strict_word its names (sym b.0 ∙ a.0)))
one_row words Strict Strict names its a b = record { order_is = refl; names_are = behind strict_word strict_word names its (sym a.0 ∙ b.0) }

-- ---- what was found

-- a folder that tells the same
pub same_told : (a b : List ℕ → Option (List ℕ)) → ((other : List ℕ) → a other ≡ b other) → (order : Order) (name : List ℕ) (before now : List ℕ → ℕ) (status : ℕ) (text : List ℕ)
    → IsExplainOutcome order name a before now status text → IsExplainOutcome order name b before now status text
same_told a b same order name before now _ _ (unread is) = unread (record { rose = is.rose; others = λ other apart some. is.others other apart (subst IsSome (sym (same other)) some) })
same_told a b same order name before now _ _ (over is) = over (record { over = subst (λ o. IfSome o (λ file. longest_source < length file)) (same name) is.over; quiet = is.quiet })
same_told a b same order name before now _ _ (read file ending text is answer) =
    read file ending text (record { its = subst (λ o. IfSome o (λ bytes. file ≡ bytes)) (same name) is.its; within = is.within; quiet = is.quiet }) answer

module _ (order : Order) (told : List ℕ → Option (List ℕ)) where
  -- whatever is found of the rest completes what was found so far
  abbrev pub AreSoFar : (all : List (String Global)) (i : ℕ) (before now : List ℕ → ℕ) (status : ℕ) (text : List ℕ) → Type 0
  AreSoFar all i before now status text =
      (later : List ℕ → ℕ) (worst : ℕ) (rest : List ℕ) → AreOutcomes order told (map string_bytes (drop i all)) now later worst rest
      → AreOutcomes order told (map string_bytes all) before later (worse status worst) (text ++ rest)

  pub none_so_far : (all : List (String Global)) (before : List ℕ → ℕ) (text : List ℕ) → text ≡ [] → AreSoFar all 0 before before 0 text
  none_so_far all before text is later worst rest found =
      subst (λ s. AreOutcomes order told (map string_bytes all) before later s (text ++ rest)) (sym (worse_first worst))
      (subst (λ t. AreOutcomes order told (map string_bytes all) before later worst (t ++ rest)) (sym is) found)

  pub more_so_far : (all : List (String Global)) (i : ℕ) (x : String Global) (before mid now : List ℕ → ℕ) (status its next : ℕ) (old new lines : List ℕ) → i < length all → x ≡ get_or all i x
      → IsExplainOutcome order (string_bytes x) told mid now its lines → ((other : List ℕ) → mid other ≤ now other) → new ≡ old ++ lines → next ≡ worse status its
      → AreSoFar all i before mid status old → AreSoFar all (i + 1) before now next new
  more_so_far all i x before mid now status its next old new lines below is outcome rises added worse_is so_far later worst rest found =
      let whole = map string_bytes all in
      let here = subst (λ ys. AreOutcomes order told (map string_bytes ys) mid later (worse its worst) (lines ++ rest)) (sym (next_drop all i x below is)) (one_file outcome rises found) in
      subst (λ s. AreOutcomes order told whole before later s (new ++ rest)) (sym (worse_each status its worst) ∙ ap (λ s. worse s worst) (sym worse_is))
      (subst (λ t. AreOutcomes order told whole before later (worse status (worse its worst)) t) (sym (append_assoc old lines rest) ∙ ap (λ t. t ++ rest) (sym added)) (so_far later (worse its worst) (lines ++ rest) here))

  pub all_so_far : (all : List (String Global)) (i : ℕ) (before now : List ℕ → ℕ) (status : ℕ) (text : List ℕ) → length all ≤ i → AreSoFar all i before now status text
      → AreOutcomes order told (map string_bytes all) before now status text
  all_so_far all i before now status text past so_far =
      let last = subst (λ ys. AreOutcomes order told (map string_bytes ys) now now 0 []) (sym (drop_of_length-le all past)) no_file in
      subst (λ s. AreOutcomes order told (map string_bytes all) before now s text) (worse_last status)
      (subst (λ t. AreOutcomes order told (map string_bytes all) before now (worse status 0) t) (append-nil text) (so_far now 0 [] last))

  -- what was found of the only file
  pub of_one : (name : List ℕ) (before now : List ℕ → ℕ) (status : ℕ) (text : List ℕ) → AreOutcomes order told (name ∷ []) before now status text → IsExplainOutcome order name told before now status text
  of_one name before now _ _ (one_file {status = status} {text = text} outcome rises no_file) =
      subst (λ s. IsExplainOutcome order name told before now s (text ++ [])) (sym (worse_last status))
      (subst (λ t. IsExplainOutcome order name told before now status t) (sym (append-nil text)) outcome)

  -- a file that can't be read is told by the status; else no count changed
  calm_or_six : (name : List ℕ) (before now : List ℕ → ℕ) (status : ℕ) (text : List ℕ) → IsExplainOutcome order name told before now status text → (status ≡ 6) ⊎ HasSameFaults before now
  calm_or_six name before now _ _ (unread is) = inl refl
  calm_or_six name before now _ _ (over is) = inr is.quiet
  calm_or_six name before now _ _ (read file ending text is answer) = inr is.quiet

  pub all_calm_or_six : (names : List (List ℕ)) (before now : List ℕ → ℕ) (status : ℕ) (text : List ℕ) → AreOutcomes order told names before now status text → (status ≡ 6) ⊎ HasSameFaults before now
  all_calm_or_six _ before _ _ _ no_file = inr (λ other. refl)
  all_calm_or_six _ before now _ _ (one_file {name = name} {names = names} {between = between} {status = status} {worst = worst} {text = text} {rest = rest} outcome rises others) =
      by (calm_or_six name before between status text outcome) (all_calm_or_six names between now worst rest others)
    where
      by : (status ≡ 6) ⊎ HasSameFaults before between → (worst ≡ 6) ⊎ HasSameFaults between now → (worse status worst ≡ 6) ⊎ HasSameFaults before now
      by (inl six) more = inl (ap (λ s. worse s worst) six ∙ six_first worst)
      by (inr calm) (inl six) = inl (ap (worse status) six ∙ six_last status)
      by (inr calm) (inr same) = inr (λ other. same other ∙ calm other)

  -- ---- where each is told, and nothing failed

  pub rises_all : (names : List (List ℕ)) (before now : List ℕ → ℕ) (status : ℕ) (text : List ℕ) → AreOutcomes order told names before now status text → (other : List ℕ) → before other ≤ now other
  rises_all _ before _ _ _ no_file other = omega arith
  rises_all _ before now _ _ (one_file {names = names} {between = between} {worst = worst} {rest = rest} outcome rises others) other =
      let one = rises other in
      let more = rises_all names between now worst rest others other in
      omega (arith, one, more)

  -- a count that didn't rise over all files didn't over fewer
  pub calm_within : (names : List (List ℕ)) (before mid between now : List ℕ → ℕ) → ((other : List ℕ) → before other ≤ mid other) → ((other : List ℕ) → between other ≤ now other)
      → AreCalm before now names → AreCalm mid between names
  calm_within [] before mid between now up down calm = tt
  calm_within (name ∷ names) before mid between now up down calm =
      (λ rose. calm.0 (let low = up name in let high = down name in omega (arith, low, high, rose)), calm_within names before mid between now up down calm.1)

  one_told : (name file : List ℕ) (before now : List ℕ → ℕ) (status : ℕ) (text : List ℕ) → told name ≡ Some file → (Rose (before name) (now name) → ⊥) → IsExplainOutcome order name told before now status text
      → BelongsToFile order name file status text
  one_told name file before now _ _ is calm (unread gone) = absurd (calm gone.rose)
  one_told name file before now _ _ is calm (over large) = too_large (subst (λ o. IfSome o (λ its. longest_source < length its)) is large.over)
  one_told name file before now _ _ is calm (read bytes ending text has answer) =
      let same : bytes ≡ file = subst (λ o. IfSome o (λ its. bytes ≡ its)) is has.its in
      subst (λ b. BelongsToFile order name b (code_of ending) text) same (ended ending text has.within answer)

  pub all_told : (names : List (List ℕ)) (before now : List ℕ → ℕ) (status : ℕ) (text : List ℕ) → AreTold told names → AreCalm before now names → AreOutcomes order told names before now status text
      → AreAnswers order told names status text
  all_told _ before _ _ _ some calm no_file = no_answer
  all_told _ before now _ _ some calm (one_file {name = name} {names = names} {between = between} {status = status} {worst = worst} {text = text} {rest = rest} outcome rises others) =
      let file = some_there (told name) some.0 in
      let later = rises_all names between now worst rest others in
      let first = calm_within (name ∷ []) before before between now (λ other. omega arith) later (calm.0, tt) in
      let behind_it = calm_within names before between now now rises (λ other. omega arith) calm.1 in
      one_answer file.0 file.1 (one_told name file.0 before between status text file.1 first.0 outcome) (all_told names between now worst rest some.1 behind_it others)
