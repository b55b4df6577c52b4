-- What is found part by part is the first of all faults.
use Rattle.std.proofs.Common.{◌≡◌, ℕ, true, false, List, [], ◌∷◌, ◌++◌, Some, None, refl, ap, sym, ◌∙◌, ◌||◌, ◌==◌, bytes_eq, if◌then◌else◌}
use Rattle.std.proofs.Math.Path.{fun_ext}
use Rattle.std.proofs.Math.Bool.{or_assoc, or-false}
use Rattle.std.proofs.lemmas.List.Folds.{list_any-append}
use Rattle.std.proofs.lemmas.Slice.Eq.{bytes_eq-Decides}
use Rattle.classes.specs.declared.first.FaultPlace.{FaultPlace}
use Rattle.classes.proofs.FirstFaults as first
use Rattle.syntax.specs.declared.tree.Name.{Name}
use Rattle.syntax.specs.Trees.{ProgramTree}
use Rattle.classes.specs.declared.fault.ClassFault.{ClassFault}
use Rattle.classes.specs.declared.fault.ClassFault.TheVariants as kind
use Rattle.classes.specs.Names.{has_text, with_text, texts_of, distinct_after, distinct}
use Rattle.classes.specs.Faults.{class_fault_place, IsFirstClassFault, all_class_faults}
use Rattle.classes.specs.Noted.{noted}

-- ---- a set of texts tells the same as the list

has_with : (seen : List (List ℕ)) (x t : List ℕ) → has_text (with_text seen x) t ≡ (has_text seen t || bytes_eq t x)
has_with seen x t =
    elim (has_text seen x) as (λ b. has_text seen x ≡ b → has_text (if b then seen else seen ++ x ∷ []) t ≡ (has_text seen t || bytes_eq t x)) [
      | true ↦ λ has.
          elim (bytes_eq t x) as (λ e. bytes_eq t x ≡ e → has_text seen t ≡ (has_text seen t || e)) [
            | true ↦ λ e. let same : t ≡ x = (bytes_eq-Decides t x).0 e in
                let h : has_text seen t ≡ true = ap (has_text seen) same ∙ has in
                h ∙ ap (λ b. b || true) (sym h)
            | false ↦ λ e. sym (or-false (has_text seen t))
          ] refl
      | false ↦ λ has. list_any-append (bytes_eq t) seen (x ∷ []) ∙ ap (λ b. has_text seen t || b) (or-false (bytes_eq t x))
    ] refl

has_distinct_after : (seen : List (List ℕ)) (names : List Name) (t : List ℕ) → has_text (distinct_after seen names) t ≡ (has_text seen t || has_text (texts_of names) t)
has_distinct_after seen [] t = sym (or-false (has_text seen t))
has_distinct_after seen (n ∷ ns) t =
    has_distinct_after (with_text seen n.text) ns t
    ∙ ap (λ b. b || has_text (texts_of ns) t) (has_with seen n.text t)
    ∙ or_assoc (has_text seen t) (bytes_eq t n.text) (has_text (texts_of ns) t)

pub same_tests : (names : List Name) → has_text (distinct names) ≡ has_text (texts_of names)
same_tests names = fun_ext (λ t. has_distinct_after [] names t)

-- ---- the first fault of a program

-- the fault that stands at a place
abbrev fault_at : FaultPlace → ClassFault
fault_at p =
    if p.rank == 0 then kind.Twice p.offset else if p.rank == 1 then kind.UnknownClass p.offset else if p.rank == 2 then kind.BadConstructor p.offset
    else if p.rank == 3 then kind.NoRun p.offset else if p.rank == 4 then kind.TooMany p.offset
    else if p.rank == 5 then kind.Circle p.offset else if p.rank == 6 then kind.BadOverride p.offset
    else if p.rank == 7 then kind.NoMain else kind.NoMemory

fault_again : (f : ClassFault) → fault_at (class_fault_place f) ≡ f
fault_again (kind.Twice at) = refl
fault_again (kind.UnknownClass at) = refl
fault_again (kind.BadConstructor at) = refl
fault_again (kind.NoRun at) = refl
fault_again (kind.TooMany at) = refl
fault_again (kind.Circle at) = refl
fault_again (kind.BadOverride at) = refl
fault_again kind.NoMain = refl
fault_again kind.NoMemory = refl

pub first_is : (tree : ProgramTree) (f : ClassFault) → noted None (all_class_faults tree) ≡ Some f → IsFirstClassFault tree f
first_is tree f is = first.first_is class_fault_place (all_class_faults tree) f is

pub none_is : (tree : ProgramTree) → noted None (all_class_faults tree) ≡ None → all_class_faults tree ≡ []
none_is tree is = first.none_is class_fault_place (all_class_faults tree) is

pub one_first : (tree : ProgramTree) (f g : ClassFault) → IsFirstClassFault tree f → IsFirstClassFault tree g → f ≡ g
one_first tree f g h k = first.one_first class_fault_place fault_at fault_again (all_class_faults tree) f g h k

pub no_first : (tree : ProgramTree) (f : ClassFault) → all_class_faults tree ≡ [] → IsFirstClassFault tree f → ⊥
no_first tree f none h = first.no_first class_fault_place (all_class_faults tree) f none h
