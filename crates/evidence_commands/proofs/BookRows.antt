-- Refusals and answers of the rows on books.
use Rattle.std.proofs.Common.{◌≡◌, ◌&&◌, ◌<◌, ◌≤◌, ◌⊎◌, ℕ, List, Option, Some, None, Result, Ok, Err, MatchResult, Vec, Global, length, slice_get, get_or, refl, sym, subst, ap, ◌∙◌, arith, inl, inr}
use Rattle.std.proofs.lemmas.Option.{slice_get_within, slice_get_cases}
use Rattle.algebra.specs.declared.basic.Basic.{Basic}
use Rattle.algebra.specs.declared.basic.Basic.TheVariants.{Const}
use Rattle.algebra.specs.Basics.{below_of}
use Rattle.algebra.specs.HeldPaths.{Held, has_path}
use Rattle.conditions.specs.Conditions.{Cond}
use Rattle.core_program.specs.Core.{Program, Method}
use Rattle.core_program.specs.Typed.{IsTyped}
use Rattle.core_program.specs.declared.program.CoreProgram.{CoreProgram}
use Rattle.core_program.specs.Views.{program_of}
use Rattle.books.specs.Books.{Book}
use Rattle.books.specs.Texts.{IsBookText}
use Rattle.books.specs.declared.stop.BookFault.TheVariants as faults
use Rattle.book_check.specs.Checks.{IsJudgedText, IsTextUnjudged}
use Rattle.book_check.specs.Conclusions.{tree_value}
use Rattle.book_check.specs.Good.{IsGoodBook}
use Rattle.book_check.specs.declared.wrong.TextWrong.{TextWrong}
use Rattle.book_check.specs.declared.wrong.TextWrong.TheVariants as text
use Rattle.derive.specs.Derived.{IsDerived, KeepsRules}
use Rattle.derive.specs.Bases.{trees_assign}
use Rattle.infer.proofs.LeastLemmas.{least_accepts}
use Rattle.rules.specs.Effect.{effect}
use Rattle.rules.specs.Near.{MethodPaths, AreRelevant, rel_of}
use Rattle.rules.specs.Rules.{IsSubset, AtMost, IsAccepted, declared_bound, held_in}
use Rattle.rules.proofs.BasicLemmas.{each, below_itself, below_chain}
use Rattle.rules.proofs.EffectRises.{stmt_rises}
use Rattle.rules.proofs.UniqueSets.{unique_sets}
use Rattle.sources.specs.declared.checking.Source.{Source}
use Rattle.sources.specs.declared.refusal.Ending.{Ending}
use Rattle.sources.specs.declared.refusal.Ending.TheVariants as ending
use Rattle.sources.specs.declared.refusal.Refusal.{Refusal}
use Rattle.sources.specs.declared.refusal.Refusal.TheVariants.{NoMemory}
use Rattle.sources.specs.Refusals.{IsRight}
use Rattle.sources.specs.Checking.{NoSource, IsSourceOf}
use Rattle.sources.specs.Verdicts.{NoAccepted, no_source as no_source_accepted, IsShownLeast}
use Rattle.sources.proofs.Told.{right_of_more}
use Rattle.sources.proofs.Verdicts.{well_formed_source}
use Rattle.evidence_commands.specs.Derive.{DeriveAnswer, not_accepted, derived}
use Rattle.evidence_commands.specs.RefusedBooks.{IsLineFor, Refuses}
use Rattle.evidence_commands.specs.Verify.{verified_book_line, VerifyAnswer, HasGoodBook, NoBook, no_book, verified, form, too_deep, wrong_first}

pub derive_source_refused : (file : List ℕ) (r : Refusal) → IsRight (NoSource file) r → IsRight (DeriveAnswer file) r
derive_source_refused file r is = right_of_more (NoSource file) (DeriveAnswer file) (λ ended line i. not_accepted (no_source_accepted i)) r is

pub not_accepted_derive : (file : List ℕ) (ended : Ending) (line : List ℕ) → NoAccepted file ended line → DeriveAnswer file ended line
not_accepted_derive file ended line told = not_accepted told

const_below : (b : Basic) → AtMost Const b
const_below b = each (λ x. below_of Const x) refl b

-- what the trees of the least closed assignment assign keeps the rules
module _ (P : Program) (trees : List Cond) (is : IsShownLeast P trees) (typed : IsTyped P) where
  -- a tree has the values that are assigned
  value : (m : ℕ) (tree : Cond) → slice_get trees m ≡ Some tree → (H : Held) → trees_assign trees m H ≡ is.assignment m H
  value m tree e H = ap (λ o. tree_value o H) e ∙ is.shown.values m tree e H

  const : (m : ℕ) → slice_get trees m ≡ None → (H : Held) → trees_assign trees m H ≡ Const
  const m e H = ap (λ o. tree_value o H) e

  below : (m : ℕ) (o : Option Cond) → slice_get trees m ≡ o → (H : Held) → AtMost (trees_assign trees m H) (is.assignment m H)
  below m None e H = subst (λ z. AtMost z (is.assignment m H)) (sym (const m e H)) (const_below (is.assignment m H))
  below m (Some tree) e H = subst (λ z. AtMost z (is.assignment m H)) (sym (value m tree e H)) (below_itself (is.assignment m H))

  falls : (m : ℕ) (o : Option Cond) → slice_get trees m ≡ o → (H K : Held) → IsSubset K (has_path (rel_of is.sets m)) → IsSubset H K → AtMost (trees_assign trees m K) (trees_assign trees m H)
  falls m None e H K within part = subst (λ z. AtMost z (trees_assign trees m H)) (sym (const m e K)) (const_below (trees_assign trees m H))
  falls m (Some tree) e H K within part =
      subst (λ z. AtMost z (trees_assign trees m H)) (sym (value m tree e K))
      (subst (λ z. AtMost (is.assignment m K) z) (sym (value m tree e H)) (is.least.least.falling m H K within part))

  counts : (m : ℕ) (o : Option Cond) → slice_get trees m ≡ o → (H : Held) → trees_assign trees m H ≡ trees_assign trees m (λ q. has_path (rel_of is.sets m) q && H q)
  counts m None e H = const m e H ∙ sym (const m e (λ q. has_path (rel_of is.sets m) q && H q))
  counts m (Some tree) e H = value m tree e H ∙ is.least.least.relevant m H ∙ sym (value m tree e (λ q. has_path (rel_of is.sets m) q && H q))

  -- a method has a tree
  tree_of : (m : ℕ) (method : Method) → slice_get P.methods m ≡ Some method → (tree : Cond) × (slice_get trees m ≡ Some tree)
  tree_of m method at = found (slice_get_cases trees m).1
    where
      found : ((x : Cond) × (m < length trees) × (slice_get trees m ≡ Some x) × (get_or trees m x ≡ x)) ⊎ ((length trees ≤ m) × (slice_get trees m ≡ None)) →
          (tree : Cond) × (slice_get trees m ≡ Some tree)
      found (inl f) = (f.0, f.2)
      found (inr past) = absurd (omega (arith, past.0, is.shown.count, slice_get_within P.methods m method at))

  keeps_rules : KeepsRules P (rel_of is.sets) (trees_assign trees)
  keeps_rules = record {
    falling = λ m H K within part. falls m (slice_get trees m) refl H K within part;
    closed = record {
      bodies = λ m method at H within required.
          let t = tree_of m method at in
          below_chain (effect P (rel_of is.sets) (trees_assign trees) method.body H) (effect P (rel_of is.sets) is.assignment method.body H) (trees_assign trees m H)
          (stmt_rises P (rel_of is.sets) (trees_assign trees) is.assignment (λ k K part. below k (slice_get trees k) refl K) method.body H)
          (subst (λ z. AtMost (effect P (rel_of is.sets) is.assignment method.body H) z) (sym (value m t.0 t.1 H)) (is.least.least.closed.bodies m method at H within required));
      overrides = λ m over method at overrides H within required.
          let t = tree_of m method at in
          let K = held_in (rel_of is.sets over) H in
          below_chain (trees_assign trees over K) (is.assignment over K) (trees_assign trees m H)
          (below over (slice_get trees over) refl K)
          (subst (λ z. AtMost (is.assignment over K) z) (sym (value m t.0 t.1 H)) (is.least.least.closed.overrides m over method at overrides H within required));
    };
    relevant = λ m H. counts m (slice_get trees m) refl H;
    bounds = λ m method at.
        let t = tree_of m method at in
        subst (λ z. AtMost z (declared_bound method.annotated)) (sym (value m t.0 t.1 (has_path method.requires_)))
        ((least_accepts P is.sets is.assignment typed is.least.relevant is.least.few is.least.least).1 is.accepted m method at);
  }

-- the same over the relevant sets of a source
pub source_keeps : (P : Program) (sets : List MethodPaths) (trees : List Cond) → IsTyped P → AreRelevant P sets → IsShownLeast P trees → KeepsRules P (rel_of sets) (trees_assign trees)
source_keeps P sets trees typed relevant is =
    subst (λ s. KeepsRules P (rel_of s) (trees_assign trees)) (unique_sets P is.sets sets is.least.relevant relevant) (keeps_rules P trees is typed)

-- the text of a derived book is what `derive` writes
pub derived_text : (file : List ℕ) (source : Source) (trees : List Cond) (book : Book) (out : List ℕ) → IsSourceOf file source → IsShownLeast (program_of source.program) trees
    → IsDerived (program_of source.program) (rel_of source.sets) trees book → IsGoodBook (program_of source.program) (rel_of source.sets) book → IsBookText out book → DeriveAnswer file ending.Done out
derived_text file source trees book out is least does good wrote =
    let P = program_of source.program in
    let same : source.sets ≡ least.sets = unique_sets P source.sets least.sets is.1.relevant least.least.relevant in
    derived is.0 P (well_formed_source file is.0 source is.1) (record {
      trees = trees;
      least = least;
      book = book;
      derived = subst (λ s. IsDerived P (rel_of s) trees book) same does;
      text = wrote;
      good = subst (λ s. IsGoodBook P (rel_of s) book) same good;
    })

-- a text that was taken
pub verified_text : (file bytes : List ℕ) (source : Source) (out : List ℕ) → IsSourceOf file source → IsJudgedText (program_of source.program) (rel_of source.sets) bytes (Ok (tt {0}))
    → IsAccepted (program_of source.program) → out ≡ verified_book_line → VerifyAnswer file bytes ending.Done out
verified_text file bytes source out is judged accepted e =
    subst (VerifyAnswer file bytes ending.Done) (sym e)
    (verified is.0 (program_of source.program) (well_formed_source file is.0 source is.1) accepted
    (record { sets = source.sets; relevant = is.1.relevant; book = judged.0; text = judged.1; good = judged.2 }))

-- the line of a text that was refused
told_book : (P : Program) (sets : List MethodPaths) (bytes : List ℕ) (why : TextWrong) (line : List ℕ) → AreRelevant P sets → IsJudgedText P (rel_of sets) bytes (Err why) → IsLineFor why line
    → NoBook P bytes ending.BookRefused line
told_book P sets bytes (text.Book (faults.Form place)) line relevant is told = subst (NoBook P bytes ending.BookRefused) (sym told.1) (form place is)
told_book P sets bytes (text.Book (faults.TooDeep place)) line relevant is told = subst (NoBook P bytes ending.BookRefused) (sym told.1) (too_deep place is)
told_book P sets bytes (text.Book faults.NoMemory) line relevant is told = absurd (told.0 refl)
told_book P sets bytes (text.Wrong fault) line relevant is told = subst (NoBook P bytes ending.BookRefused) (sym told.1) (wrong_first sets is.0 fault relevant is.1 is.2 told.0)

-- where there is such a line, the book was judged
was_judged : (why : TextWrong) (line : List ℕ) → IsLineFor why line → IsTextUnjudged why → ⊥
was_judged (text.Book fault) line told unjudged = unjudged
was_judged (text.Wrong fault) line told unjudged = told.0 unjudged

-- where a good book is refused only if it isn't judged, a text that is refused for another cause is no good book's
none_good : (P : Program) (sets : List MethodPaths) (bytes : List ℕ) (why : TextWrong) (line : List ℕ) → AreRelevant P sets → IsLineFor why line
    → ((book : Book) → IsBookText bytes book → IsGoodBook P (rel_of sets) book → IsTextUnjudged why) → HasGoodBook P bytes → ⊥
none_good P sets bytes why line relevant told only has =
    was_judged why line told (only has.book has.text (subst (λ s. IsGoodBook P (rel_of s) has.book) (unique_sets P has.sets sets has.relevant relevant) has.good))

pub book_refusal : (file bytes : List ℕ) (source : Source) (why : TextWrong) (r : Refusal) → IsSourceOf file source → IsJudgedText (program_of source.program) (rel_of source.sets) bytes (Err why)
    → ((book : Book) → IsBookText bytes book → IsGoodBook (program_of source.program) (rel_of source.sets) book → IsTextUnjudged why) → IsRight (Refuses why) r → IsRight (VerifyAnswer file bytes) r
book_refusal file bytes source why r is judged only right =
    let P = program_of source.program in
    right_of_more (Refuses why) (VerifyAnswer file bytes)
    (λ ended line told. no_book is.0 P (well_formed_source file is.0 source is.1) (none_good P source.sets bytes why line is.1.relevant told.1 only)
    (subst (λ e. NoBook P bytes e line) (sym told.0) (told_book P source.sets bytes why line is.1.relevant judged told.1)))
    r right

-- the exit where the text was taken, with what the checked program was made of
pub verified_result : (file bytes : List ℕ) (source : Source) (r : Result (Vec ℕ Global) Refusal) (checked : CoreProgram × List MethodPaths) → IsSourceOf file source
    → IsJudgedText (program_of source.program) (rel_of source.sets) bytes (Ok (tt {0})) → checked ≡ (source.program, source.sets)
    → MatchResult r (λ out. (out.items ≡ verified_book_line) × IsAccepted (program_of checked.0)) (λ refusal. refusal ≡ NoMemory) → MatchResult r (λ out. VerifyAnswer file bytes ending.Done out.items) (IsRight (VerifyAnswer file bytes))
verified_result file bytes source (Ok out) checked is judged e done = verified_text file bytes source out.items is judged (subst (λ c. IsAccepted (program_of c.0)) e done.1) done.0
verified_result file bytes source (Err refusal) checked is judged e same = subst (IsRight (VerifyAnswer file bytes)) (sym same) tt
