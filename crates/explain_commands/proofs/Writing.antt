-- The lines of methods, one behind the other.
use Rattle.std.proofs.Common.{◌≡◌, ℕ, zero, suc, ◌+◌, ◌<◌, ◌≤◌, List, [], ◌∷◌, ◌++◌, map, drop, get_or, length, slice_get, sym, ap, subst, ◌∙◌, append_assoc, append-nil, arith, None, Some, Bor, option_map}
use Rattle.syntax.specs.Views.{member_of}
use Rattle.syntax.specs.declared.tree.Member.{Member}
use Rattle.std.proofs.lemmas.Option.{slice_get-map, slice_get-get_or}
use Rattle.places.specs.Sources.{member_places}
use Rattle.places.specs.Slots.{member_slots}
use Rattle.syntax.specs.Trees.{MemberTree}
use Rattle.classes.specs.Table.{TableData}
use Rattle.std.proofs.Math.ListN.{drop_of_length-le}
use Rattle.base.proofs.Lists.{next_drop}
use Rattle.core_program.specs.Core.{Program}
use Rattle.core_program.specs.declared.program.CoreMethod.{CoreMethod}
use Rattle.core_program.specs.Views.{method_of}
use Rattle.explain_text.specs.Pages.{PageData}
use Rattle.paths.specs.Paths.{PathData}
use Rattle.rules.specs.Effect.{Assignment}
use Rattle.explain_text.specs.declared.arranging.Arranged.{Arranged}
use Rattle.explain_text.specs.Arrangements.{ArrangedData}
use Rattle.explain_text.specs.ArrangementViews.{arranged_data}
use Rattle.explain_commands.specs.Explained.{AreTexts, AreAmongMethods, IsMethodText, more, none, told_of, page_of, slots_at, places_at}
use Rattle.explain_commands.specs.Listed.{all_lines, lines_from}

-- ---- the listing

module _ (P : Program) (rel : ℕ → List PathData) (A : Assignment) (pages : ℕ → PageData) where
  -- at the end the lines so far are those of all
  pub all_listed : (methods : List CoreMethod) (k : ℕ) (text : List ℕ) → length methods ≤ k → map method_of methods ≡ P.methods
      → text ++ lines_from P rel A pages k (map method_of (drop k methods)) ≡ lines_from P rel A pages 0 (map method_of methods) → text ≡ all_lines P rel A pages
  all_listed methods k text past are so_far =
      sym (append-nil text) ∙ ap (λ ms. text ++ lines_from P rel A pages k (map method_of ms)) (sym (drop_of_length-le methods past)) ∙ so_far ∙ ap (lines_from P rel A pages 0) are

-- ---- explanations

-- the member at a place
pub member_at : (xs : List (Bor Member)) (k : ℕ) (x : Bor Member) → k < length xs → x ≡ get_or xs k x → slice_get (map (λ m. member_of m.now) xs) k ≡ Some (member_of x.now)
member_at xs k x below is = slice_get-map (λ m. member_of m.now) xs k ∙ ap (option_map (λ m. member_of m.now)) (slice_get-get_or xs k x below ∙ ap Some (sym is))

-- what the lines of a method are written with, from the names and the offsets of the member that it is
pub page_is : (name text : List ℕ) (table : TableData) (methods : List MemberTree) (m : ℕ) (member : MemberTree) (slots : List (List ℕ)) (offsets : List ℕ) → slice_get methods m ≡ Some member
    → slots ≡ member_slots member → offsets ≡ member_places member → record { file = name; text = text; table = table; slots = slots; offsets = offsets; fitting = None } ≡ page_of name text table methods m
page_is name text table methods m member slots offsets at s o = λ i. record { file = name; text = text; table = table; slots = (s ∙ ap slots_at (sym at)) i; offsets = (o ∙ ap places_at (sym at)) i; fitting = None }

-- what was found, seen in another list that is the same
pub arranged_in : (xs ys : List Arranged) (all : List ArrangedData) → xs ≡ ys → map arranged_data ys ≡ all → map arranged_data xs ≡ all
arranged_in xs ys all same are = ap (map arranged_data) same ∙ are

-- each of them is one of so many methods
pub within_at : (n : ℕ) (xs : List Arranged) (i : ℕ) (x : Arranged) → i < length xs → x ≡ get_or xs i x → AreAmongMethods n (told_of (map arranged_data xs)) → (arranged_data x).told.method < n
within_at n [] i x below is w = absurd (omega (arith, below))
within_at n (y ∷ ys) zero x below is w = subst (λ z. (arranged_data z).told.method < n) (sym is) w.0
within_at n (y ∷ ys) (suc i) x below is w = within_at n ys i x (omega (arith, below)) is w.1

module _ (P : Program) (rel : ℕ → List PathData) (A : Assignment) (pages : ℕ → PageData) (overs : ℕ → List ℕ) where
  -- whatever lines of the rest complete the lines so far to those of all
  abbrev pub AreSoFar : List Arranged → ℕ → List ℕ → Type 0
  AreSoFar all i text = (rest : List ℕ) → AreTexts P rel A pages overs (map arranged_data (drop i all)) rest → AreTexts P rel A pages overs (map arranged_data all) (text ++ rest)

  pub none_so_far : (all : List Arranged) (text : List ℕ) → text ≡ [] → AreSoFar all 0 text
  none_so_far all text is rest texts = subst (λ t. AreTexts P rel A pages overs (map arranged_data all) (t ++ rest)) (sym is) texts

  pub more_so_far : (all : List Arranged) (i : ℕ) (x : Arranged) (old new lines : List ℕ) → i < length all → x ≡ get_or all i x
      → new ≡ old ++ lines → IsMethodText P rel A pages overs (arranged_data x) lines
      → AreSoFar all i old → AreSoFar all (i + 1) new
  more_so_far all i x old new lines below is added text so_far rest texts =
      let here = subst (λ ys. AreTexts P rel A pages overs (map arranged_data ys) (lines ++ rest)) (sym (next_drop all i x below is))
      (more (arranged_data x) (map arranged_data (drop (i + 1) all)) lines rest text texts) in
      subst (AreTexts P rel A pages overs (map arranged_data all)) (sym (append_assoc old lines rest) ∙ ap (λ t. t ++ rest) (sym added)) (so_far (lines ++ rest) here)

  pub all_so_far : (all : List Arranged) (i : ℕ) (text : List ℕ) → length all ≤ i → AreSoFar all i text → AreTexts P rel A pages overs (map arranged_data all) text
  all_so_far all i text past so_far =
      let last = subst (λ ys. AreTexts P rel A pages overs (map arranged_data ys) []) (sym (drop_of_length-le all past)) none in
      subst (AreTexts P rel A pages overs (map arranged_data all)) (append-nil text) (so_far [] last)
