-- Own names of classes: where there are as many as were written none stands again, and which names of fields classes declare.
use Rattle.std.proofs.Common.{◌≡◌, ℕ, suc, ◌+◌, ◌<◌, ◌≤◌, Bool, true, false, ◌||◌, List, [], ◌∷◌, ◌++◌, map, drop, get_or, length, Option, Some, None, slice_get, bytes_eq, if◌then◌else◌, refl, ap, sym, ◌∙◌, arith, append_assoc, append-nil, length-append}
use Rattle.std.specs.List.{list_any}
use Rattle.std.specs.Option.{option_map}
use Rattle.std.proofs.lemmas.Bool.{or_parts}
use Rattle.std.proofs.lemmas.List.{map-append}
use Rattle.std.proofs.lemmas.List.Folds.{list_any-append}
use Rattle.std.proofs.lemmas.Option.{none-some, same_Some, slice_get-get_or, slice_get-map}
use Rattle.syntax.specs.declared.tree.Class.{Class}
use Rattle.syntax.specs.declared.tree.Name.{Name}
use Rattle.syntax.specs.Trees.{MemberTree, ClassTree, ProgramTree}
use Rattle.syntax.specs.Views.{class_of}
use Rattle.classes.specs.declared.fault.ClassFault.{ClassFault}
use Rattle.classes.specs.declared.fault.ClassFault.TheVariants.{Twice}
use Rattle.classes.specs.declared.own.OwnNames.{OwnNames}
use Rattle.classes.specs.Names.{texts_of, has_text, with_text, distinct, distinct_after, repeats, repeats_after}
use Rattle.classes.specs.Members.{field_names, method_names}
use Rattle.classes.specs.Lines.{members_in, members_at}
use Rattle.classes.specs.Faults.{twice_faults, field_faults}
use Rattle.classes.specs.Families.{members_along}
use Rattle.classes.specs.Noted.{noted}
use Rattle.classes.specs.Own.{own_names, all_own_names}
use Rattle.classes.proofs.Faultless.{field_names_append}
use Rattle.classes.proofs.Leasts.{same_tests}
use Rattle.classes.proofs.Parted.{parts_from}

-- ---- how many names there are

one_more : (seen : List (List ℕ)) (text : List ℕ) (b : Bool) → length (if b then seen else seen ++ text ∷ []) ≤ length seen + 1
one_more seen text true = omega arith
one_more seen text false = let longer = length-append seen (text ∷ []) in omega arith

pub few_after : (seen : List (List ℕ)) (names : List Name) → length (distinct_after seen names) ≤ length seen + length names
few_after seen [] = omega arith
few_after seen (n ∷ ns) =
    let later = few_after (with_text seen n.text) ns in
    let first = one_more seen n.text (has_text seen n.text) in
    omega arith

-- where as many are left as were written, none stands again
none_again : (seen : List (List ℕ)) (names : List Name) → length (distinct_after seen names) ≡ length seen + length names → repeats_after seen names ≡ []
none_again seen [] many = refl
none_again seen (n ∷ ns) many = by_test (has_text seen n.text) refl (none_again (seen ++ n.text ∷ []) ns)
  where
    with_one : Bool → List (List ℕ)
    with_one b = if b then seen else seen ++ n.text ∷ []

    by_test : (b : Bool) → has_text seen n.text ≡ b
        → (length (distinct_after (seen ++ n.text ∷ []) ns) ≡ length (seen ++ n.text ∷ []) + length ns → repeats_after (seen ++ n.text ∷ []) ns ≡ [])
        → (if b then n.at ∷ repeats_after seen ns else repeats_after (seen ++ n.text ∷ []) ns) ≡ []
    by_test true e again =
        let few = few_after seen ns in
        let still : length (distinct_after seen ns) ≡ length seen + suc (length ns) = sym (ap (λ b. length (distinct_after (with_one b) ns)) e) ∙ many in
        absurd (omega arith)
    by_test false e again =
        let longer = length-append seen (n.text ∷ []) in
        let still : length (distinct_after (seen ++ n.text ∷ []) ns) ≡ length seen + suc (length ns) = sym (ap (λ b. length (distinct_after (with_one b) ns)) e) ∙ many in
        again (omega arith)

-- names of which none stands again, and none among these texts
none_among : (texts seen : List (List ℕ)) (names : List Name) → list_any (λ n. has_text texts n.text) names ≡ false → repeats_after seen names ≡ [] → repeats_after (texts ++ seen) names ≡ []
none_among texts seen [] none own = refl
none_among texts seen (n ∷ ns) none own = by_test (has_text seen n.text) refl own (none_among texts (seen ++ n.text ∷ []) ns)
  where
    parts : (has_text texts n.text ≡ false) × (list_any (λ n. has_text texts n.text) ns ≡ false)
    parts = or_parts (has_text texts n.text) (list_any (λ n. has_text texts n.text) ns) none

    by_test : (b : Bool) → has_text seen n.text ≡ b → (if b then n.at ∷ repeats_after seen ns else repeats_after (seen ++ n.text ∷ []) ns) ≡ []
        → (list_any (λ n. has_text texts n.text) ns ≡ false → repeats_after (seen ++ n.text ∷ []) ns ≡ [] → repeats_after (texts ++ (seen ++ n.text ∷ [])) ns ≡ [])
        → repeats_after (texts ++ seen) (n ∷ ns) ≡ []
    by_test true e h among = absurd cc
    by_test false e h among =
        let here : has_text (texts ++ seen) n.text ≡ false = list_any-append (bytes_eq n.text) texts seen ∙ ap (λ b. b || has_text seen n.text) parts.0 ∙ e in
        ap (λ b. if b then n.at ∷ repeats_after (texts ++ seen) ns else repeats_after ((texts ++ seen) ++ n.text ∷ []) ns) here
        ∙ ap (λ z. repeats_after z ns) (append_assoc texts seen (n.text ∷ []))
        ∙ among parts.1 h

-- no fault of names is noted
pub methods_apart : (names : List Name) (first : Option ClassFault) → repeats names ≡ [] → first ≡ noted first (twice_faults names)
methods_apart names first none = ap (λ z. noted first (map Twice z)) (sym none)

pub fields_apart : (inherited own : List MemberTree) (first : Option ClassFault) → repeats (field_names own) ≡ []
    → list_any (λ n. has_text (texts_of (field_names inherited)) n.text) (field_names own) ≡ false → first ≡ noted first (field_faults inherited own)
fields_apart inherited own first none apart =
    let texts = texts_of (field_names inherited) in
    ap (λ z. noted first (map Twice z)) (sym (ap (λ z. repeats_after z (field_names own)) (sym (append-nil texts)) ∙ none_among texts [] (field_names own) apart none))

-- ---- what is known of a class by its number

own_of : (own : List OwnNames) (tree : ProgramTree) (k : ℕ) → own ≡ all_own_names tree → slice_get own k ≡ option_map own_names (slice_get tree k)
own_of own tree k is = ap (λ z. slice_get z k) is ∙ slice_get-map own_names tree k

own_here : (own : List OwnNames) (tree : ProgramTree) (k : ℕ) (o : OwnNames) → own ≡ all_own_names tree → slice_get own k ≡ Some o
    → (c : ClassTree) × (members_at tree k ≡ c.members) × (o ≡ own_names c)
own_here own tree k o is at = by_class (slice_get tree k) refl (sym (own_of own tree k is) ∙ at)
  where
    by_class : (c : Option ClassTree) → slice_get tree k ≡ c → option_map own_names c ≡ Some o → (c : ClassTree) × (members_at tree k ≡ c.members) × (o ≡ own_names c)
    by_class None e h = absurd (none-some o h)
    by_class (Some c) e h = (c, ap members_in e, sym (same_Some (own_names c) o h))

pub methods_differ : (own : List OwnNames) (tree : ProgramTree) (k : ℕ) (o : OwnNames) (members : List MemberTree) → own ≡ all_own_names tree → slice_get own k ≡ Some o
    → members_at tree k ≡ members → length o.methods ≡ length (method_names members) → repeats (method_names members) ≡ []
methods_differ own tree k o members is at theirs many =
    let (c, has, names) = own_here own tree k o is at in
    let same : c.members ≡ members = sym has ∙ theirs in
    none_again [] (method_names members) (let many : length (distinct (method_names members)) ≡ length (method_names members) = ap (λ ms. length (distinct (method_names ms))) (sym same) ∙ ap (λ o. length o.methods) (sym names) ∙ many in omega arith)

pub fields_differ : (own : List OwnNames) (tree : ProgramTree) (k : ℕ) (o : OwnNames) (members : List MemberTree) → own ≡ all_own_names tree → slice_get own k ≡ Some o
    → members_at tree k ≡ members → length o.fields ≡ length (field_names members) → repeats (field_names members) ≡ []
fields_differ own tree k o members is at theirs many =
    let (c, has, names) = own_here own tree k o is at in
    let same : c.members ≡ members = sym has ∙ theirs in
    none_again [] (field_names members) (let many : length (distinct (field_names members)) ≡ length (field_names members) = ap (λ ms. length (distinct (field_names ms))) (sym same) ∙ ap (λ o. length o.fields) (sym names) ∙ many in omega arith)

-- whether a class declares a field
pub declared_here : (own : List OwnNames) (tree : ProgramTree) (k : ℕ) (o : OwnNames) (text : List ℕ) → own ≡ all_own_names tree → slice_get own k ≡ Some o
    → has_text o.fields text ≡ has_text (texts_of (field_names (members_at tree k))) text
declared_here own tree k o text is at =
    let (c, has, names) = own_here own tree k o is at in
    ap (λ o. has_text o.fields text) names ∙ ap (λ f. f text) (same_tests (field_names c.members)) ∙ ap (λ ms. has_text (texts_of (field_names ms)) text) (sym has)

pub declared_nowhere : (own : List OwnNames) (tree : ProgramTree) (k : ℕ) (text : List ℕ) → own ≡ all_own_names tree → slice_get own k ≡ None
    → false ≡ has_text (texts_of (field_names (members_at tree k))) text
declared_nowhere own tree k text is at = by_class (slice_get tree k) refl (sym (own_of own tree k is) ∙ at)
  where
    by_class : (c : Option ClassTree) → slice_get tree k ≡ c → option_map own_names c ≡ None → false ≡ has_text (texts_of (field_names (members_at tree k))) text
    by_class None e h = ap (λ o. has_text (texts_of (field_names (members_in o))) text) (sym e)
    by_class (Some c) e h = absurd (none-some (own_names c) (sym h))

-- whether classes from one on do
from_class : (tree : ProgramTree) (order : List ℕ) (i k : ℕ) (text : List ℕ) → i < length order → k ≡ get_or order i 0
    → has_text (texts_of (field_names (members_along tree (drop i order)))) text
    ≡ (has_text (texts_of (field_names (members_at tree k))) text || has_text (texts_of (field_names (members_along tree (drop (i + 1) order)))) text)
from_class tree order i k text within at =
    let later = members_along tree (drop (i + 1) order) in
    ap (λ ms. has_text (texts_of (field_names ms)) text) (parts_from tree order i k within at)
    ∙ ap (λ ns. has_text (texts_of ns) text) (field_names_append (members_at tree k) later)
    ∙ ap (λ ts. has_text ts text) (map-append (λ n. n.text) (field_names (members_at tree k)) (field_names later))
    ∙ list_any-append (bytes_eq text) (texts_of (field_names (members_at tree k))) (texts_of (field_names later))

pub declared_found : (tree : ProgramTree) (order : List ℕ) (i k : ℕ) (text : List ℕ) (b all : Bool) → i < length order → k ≡ get_or order i 0
    → has_text (texts_of (field_names (members_along tree (drop i order)))) text ≡ all → b ≡ has_text (texts_of (field_names (members_at tree k))) text → b ≡ true → true ≡ all
declared_found tree order i k text b all within at so_far is there =
    sym (from_class tree order i k text within at ∙ ap (λ c. c || has_text (texts_of (field_names (members_along tree (drop (i + 1) order)))) text) (sym is ∙ there)) ∙ so_far

pub declared_later : (tree : ProgramTree) (order : List ℕ) (i k : ℕ) (text : List ℕ) (b all : Bool) → i < length order → k ≡ get_or order i 0
    → has_text (texts_of (field_names (members_along tree (drop i order)))) text ≡ all → b ≡ has_text (texts_of (field_names (members_at tree k))) text → b ≡ false
    → has_text (texts_of (field_names (members_along tree (drop (i + 1) order)))) text ≡ all
declared_later tree order i k text b all within at so_far is there =
    sym (from_class tree order i k text within at ∙ ap (λ c. c || has_text (texts_of (field_names (members_along tree (drop (i + 1) order)))) text) (sym is ∙ there)) ∙ so_far

-- a class of a list has its members
pub class_here : (classes : List Class) (i : ℕ) (class : Class) → i < length classes → get_or classes i class ≡ class → members_at (map class_of classes) i ≡ (class_of class).members
class_here classes i class within at =
    ap members_in (slice_get-map class_of classes i ∙ ap (option_map class_of) (slice_get-get_or classes i class within ∙ ap Some at))
