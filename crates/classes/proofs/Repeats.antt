-- Which names stand again depends only on which texts stood before.
use Rattle.std.proofs.Common.{◌≡◌, ℕ, Bool, true, false, List, [], ◌∷◌, ◌++◌, map, Option, refl, ap, sym, ◌∙◌, ◌||◌, bytes_eq, if◌then◌else◌}
use Rattle.std.specs.Prelude.{Result, Ok, Err, IfOk}
use Rattle.std.proofs.Math.Path.{fun_ext}
use Rattle.std.proofs.lemmas.List.Folds.{list_any-append}
use Rattle.syntax.specs.declared.tree.Name.{Name}
use Rattle.syntax.specs.Trees.{MemberTree}
use Rattle.classes.specs.declared.fault.ClassFault.{ClassFault}
use Rattle.classes.specs.declared.fault.ClassFault.TheVariants.{Twice}
use Rattle.classes.specs.Names.{has_text, texts_of, repeats_after, distinct}
use Rattle.classes.specs.Members.{field_names}
use Rattle.classes.specs.Faults.{field_faults}
use Rattle.classes.specs.Noted.{noted}
use Rattle.classes.proofs.Leasts.{same_tests}

same_repeats : (a b : List (List ℕ)) (ns : List Name) → has_text a ≡ has_text b → repeats_after a ns ≡ repeats_after b ns
same_repeats a b [] same = refl
same_repeats a b (n ∷ ns) same = by_tests (has_text a n.text) (has_text b n.text) (ap (λ f. f n.text) same) (same_repeats a b ns same) (same_repeats (a ++ n.text ∷ []) (b ++ n.text ∷ []) ns longer)
  where
    longer : has_text (a ++ n.text ∷ []) ≡ has_text (b ++ n.text ∷ [])
    longer = fun_ext (λ t. list_any-append (bytes_eq t) a (n.text ∷ []) ∙ ap (λ f. f t || (bytes_eq t n.text || false)) same ∙ sym (list_any-append (bytes_eq t) b (n.text ∷ [])))

    by_tests : (x y : Bool) → x ≡ y → repeats_after a ns ≡ repeats_after b ns → repeats_after (a ++ n.text ∷ []) ns ≡ repeats_after (b ++ n.text ∷ []) ns
        → (if x then n.at ∷ repeats_after a ns else repeats_after (a ++ n.text ∷ []) ns) ≡ (if y then n.at ∷ repeats_after b ns else repeats_after (b ++ n.text ∷ []) ns)
    by_tests true true e one two = ap (λ z. n.at ∷ z) one
    by_tests false false e one two = two
    by_tests true false e one two = absurd cc
    by_tests false true e one two = absurd cc

pub fields_told : (inherited own : List MemberTree) (names : List (List ℕ)) (first found : Option ClassFault) → names ≡ distinct (field_names inherited)
    → found ≡ noted first (map Twice (repeats_after names (field_names own))) → found ≡ noted first (field_faults inherited own)
fields_told inherited own names first found is told =
    told
    ∙ ap (λ z. noted first (map Twice z)) (same_repeats names (texts_of (field_names inherited)) (field_names own) (ap has_text is ∙ same_tests (field_names inherited)))

pub fields_result : {E : Type 0} (inherited own : List MemberTree) (names : List (List ℕ)) (first : Option ClassFault) (result : Result (Option ClassFault) E) → names ≡ distinct (field_names inherited)
    → IfOk result (λ f. f ≡ noted first (map Twice (repeats_after names (field_names own)))) → IfOk result (λ f. f ≡ noted first (field_faults inherited own))
fields_result inherited own names first (Ok f) is told = fields_told inherited own names first f is told
fields_result inherited own names first (Err e) is told = tt
