-- The checker's steps: the first line that fails a test, and lines that follow from what is said so far.
use Rattle.std.proofs.Common.{◌≡◌, ℕ, ◌+◌, ◌-◌, ◌<◌, ◌≤◌, Bool, true, false, List, [], ◌∷◌, ◌++◌, length, get_or, take, Some, None, sym, ap, subst, ◌∙◌, arith, inl, inr}
use Rattle.std.specs.Prelude.{Option, slice_get, MatchOption}
use Rattle.std.proofs.lemmas.List.{take_more}
use Rattle.std.proofs.lemmas.Option.{slice_get_within, slice_get-get_or, same_Some}
use Rattle.paths.specs.Paths.{PathData}
use Rattle.algebra.specs.declared.basic.Basic.{Basic}
use Rattle.algebra.specs.Basics.{below_of}
use Rattle.algebra.specs.HeldPaths.{Held, has_path}
use Rattle.core_program.specs.Core.{Program}
use Rattle.rules.specs.Near.{MethodPaths, rel_of}
use Rattle.refutation.specs.Lines.{LineData, certified_effect}
use Rattle.refutation.specs.Certificates.{is_placed, is_justified, AreCertificateLines, IsCertificate, breaks}
use Rattle.refutation.specs.Tables.{said_by, TablesSay}
use Rattle.refutation.specs.Wrongs.{placed_at, justified_at, PassBefore, AllPass, IsFirstFailing}
use Rattle.refutation.proofs.Below.{placed_is}
use Rattle.rules.specs.Rules.{AtMost}
use Rattle.refutation.proofs.Known.{known_follows}
use Rattle.refutation.proofs.RowLemmas.{last_or}
use Rattle.refutation.proofs.TableLemmas.{says_known}

-- the line at a place
line_at : (lines : List LineData) (k : ℕ) (l : LineData) → k < length lines → l ≡ get_or lines k l → slice_get lines k ≡ Some l
line_at lines k l below is = slice_get-get_or lines k l below ∙ ap Some (sym is)

pub pass_none : (test : ℕ → LineData → Bool) (lines : List LineData) → PassBefore test lines 0
pass_none test lines k l below at = absurd (omega (arith, below))

pub pass_more : (test : ℕ → LineData → Bool) (lines : List LineData) (k : ℕ) (l : LineData) → k < length lines → l ≡ get_or lines k l → test k l ≡ true → PassBefore test lines k → PassBefore test lines (k + 1)
pass_more test lines k l below is passes before j x less at = elim (last_or j k less) as (λ _. test j x ≡ true) [
  | inl earlier ↦ before j x earlier at
  | inr same ↦
      let that : l ≡ x = same_Some l x (sym (line_at lines k l below is) ∙ ap (slice_get lines) (sym same) ∙ at) in
      (λ i. test (same i) (sym that i)) ∙ passes
]

pub pass_all : (test : ℕ → LineData → Bool) (lines : List LineData) (k : ℕ) → length lines ≤ k → PassBefore test lines k → AllPass test lines
pass_all test lines k past before j x at = before j x (omega (arith, slice_get_within lines j x at, past)) at

pub first_failing : (test : ℕ → LineData → Bool) (lines : List LineData) (k : ℕ) (l : LineData) → k < length lines → l ≡ get_or lines k l → test k l ≡ false → PassBefore test lines k → IsFirstFailing test lines k
first_failing test lines k l below is fails before = record { line = l; is = line_at lines k l below is; fails = fails; before = before }

pub placed_line : (P : Program) (rel : ℕ → List PathData) (lines : List LineData) (k : ℕ) (l : LineData) → AllPass (placed_at P rel) lines → k < length lines → l ≡ get_or lines k l → is_placed P rel l ≡ true
placed_line P rel lines k l all below is = all k l (line_at lines k l below is)

-- a line with its place has a method of the program
pub placed_within : (P : Program) (rel : ℕ → List PathData) (lines : List LineData) (k : ℕ) (l : LineData) → AllPass (placed_at P rel) lines → k < length lines → l ≡ get_or lines k l → l.method < length P.methods
placed_within P rel lines k l all below is = let at = placed_is P rel l (all k l (line_at lines k l below is)) in slice_get_within P.methods l.method at.method at.is

-- Whether a line follows, as the calls tell it.

module _ (P : Program) (sets kept : List MethodPaths) (tables : List (List Basic)) (l : LineData) (found there : Basic) (found_is : found ≡ l.found) where
  justified : {test : Bool} → there ≡ certified_effect P (rel_of sets) (said_by (rel_of kept) tables) l.method (has_path l.held) → test ≡ below_of found there
      → (before : List LineData) → kept ≡ sets → TablesSay (rel_of sets) tables before → is_justified P (rel_of sets) before l ≡ test
  justified {test} there_is asked before same says =
      sym (asked ∙ (λ i. below_of (found_is i) (there_is i))
      ∙ ap (λ (A : ℕ → Held → Basic). below_of l.found (certified_effect P (rel_of sets) A l.method (has_path l.held))) (ap (λ s. said_by (rel_of s) tables) same ∙ says.says))

  -- a line that is said already
  pub follows_known : (test : Bool) → there ≡ said_by (rel_of kept) tables l.method (has_path l.held) → test ≡ below_of found there → test ≡ true
      → (before : List LineData) → kept ≡ sets → TablesSay (rel_of sets) tables before → AreCertificateLines P (rel_of sets) before → is_placed P (rel_of sets) l ≡ true
      → (true ≡ is_justified P (rel_of sets) before l) × (true ≡ true → TablesSay (rel_of sets) tables (before ++ l ∷ []))
  follows_known test there_is asked low before same says lines placed =
      let said : AtMost l.found (said_by (rel_of sets) tables l.method (has_path l.held)) =
      (λ i. below_of (sym found_is i) (ap (λ s. said_by (rel_of s) tables l.method (has_path l.held)) (sym same) i)) ∙ (λ i. below_of found (sym there_is i)) ∙ sym asked ∙ low in (
        sym (known_follows P (rel_of sets) before l lines placed (subst (λ (A : ℕ → Held → Basic). AtMost l.found (A l.method (has_path l.held))) says.says said)),
        λ e. says_known (rel_of sets) tables l before says said,
      )

  -- a line that doesn't follow
  pub follows_not : (now : List (List Basic)) (test : Bool) → there ≡ certified_effect P (rel_of sets) (said_by (rel_of kept) tables) l.method (has_path l.held) → test ≡ below_of found there → test ≡ false
      → (before : List LineData) → kept ≡ sets → TablesSay (rel_of sets) tables before → AreCertificateLines P (rel_of sets) before → is_placed P (rel_of sets) l ≡ true
      → (false ≡ is_justified P (rel_of sets) before l) × (false ≡ true → TablesSay (rel_of sets) now (before ++ l ∷ []))
  follows_not now test there_is asked fails before same says lines placed =
      (sym (justified there_is asked before same says ∙ fails), λ e. absurd (let f : false ≡ true = e in cc))

  -- a line that follows, and is said then
  pub follows_new : (next : List MethodPaths) (now : List (List Basic)) (test : Bool) → there ≡ certified_effect P (rel_of sets) (said_by (rel_of kept) tables) l.method (has_path l.held) → test ≡ below_of found there → test ≡ true
      → next ≡ kept → ((ls : List LineData) → TablesSay (rel_of kept) tables ls → TablesSay (rel_of next) now (ls ++ l ∷ []))
      → (before : List LineData) → kept ≡ sets → TablesSay (rel_of sets) tables before → AreCertificateLines P (rel_of sets) before → is_placed P (rel_of sets) l ≡ true
      → (true ≡ is_justified P (rel_of sets) before l) × (true ≡ true → TablesSay (rel_of sets) now (before ++ l ∷ []))
  follows_new next now test there_is asked passes kept_same add before same says lines placed = (
    sym (justified there_is asked before same says ∙ passes),
    λ e. subst (λ s. TablesSay (rel_of s) now (before ++ l ∷ [])) (kept_same ∙ same) (add before (subst (λ s. TablesSay (rel_of s) tables before) (sym same) says)),
  )

-- the lines up to a place, with one more behind them
pub says_next : (rel : ℕ → List PathData) (tables : List (List Basic)) (lines : List LineData) (k : ℕ) (l : LineData) → k < length lines → l ≡ get_or lines k l → TablesSay rel tables (take k lines ++ l ∷ []) → TablesSay rel tables (take (k + 1) lines)
says_next rel tables lines k l below is = subst (TablesSay rel tables) (sym (take_more lines k l below ∙ ap (λ x. take k lines ++ x ∷ []) (sym is)))

pub is_certificate : (P : Program) (rel : ℕ → List PathData) (lines : List LineData) → AllPass (placed_at P rel) lines → AllPass (justified_at P rel lines) lines → breaks P (slice_get lines (length lines - 1)) ≡ true → IsCertificate P rel lines
is_certificate P rel lines placed steps broken = record { each = record { placed = placed; steps = steps }; broken = broken }

-- what is told of a copy of the lines holds of the lines

pub placed_all : (P : Program) (rel : ℕ → List PathData) (o : Option ℕ) (lines now : List LineData) → lines ≡ now → o ≡ None → MatchOption o (AllPass (placed_at P rel) lines) (λ k. IsFirstFailing (placed_at P rel) lines k) → AllPass (placed_at P rel) now
placed_all P rel None lines now same e first = subst (λ xs. AllPass (placed_at P rel) xs) same first
placed_all P rel (Some k) lines now same e first = absurd cc

pub steps_all : (P : Program) (rel : ℕ → List PathData) (o : Option ℕ) (lines now : List LineData) → lines ≡ now → o ≡ None → MatchOption o (AllPass (justified_at P rel lines) lines) (λ k. IsFirstFailing (justified_at P rel lines) lines k) → AllPass (justified_at P rel now) now
steps_all P rel None lines now same e first = subst (λ xs. AllPass (justified_at P rel xs) xs) same first
steps_all P rel (Some k) lines now same e first = absurd cc

pub breaks_is : (P : Program) (lines now : List LineData) (r b : Bool) → lines ≡ now → r ≡ breaks P (slice_get lines (length lines - 1)) → r ≡ b → breaks P (slice_get now (length now - 1)) ≡ b
breaks_is P lines now r b same is e = subst (λ xs. breaks P (slice_get xs (length xs - 1)) ≡ b) same (sym is ∙ e)
