-- Classes that extend none: what they inherit, and which methods they override.
use Rattle.std.proofs.Common.{◌≡◌, inl, inr, ℕ, zero, suc, true, false, List, [], ◌∷◌, map, Option, Some, None, refl, ap, sym, ◌∙◌, slice_get}
use Rattle.std.specs.Option.{is_some}
use Rattle.std.specs.List.{list_any}
use Rattle.std.proofs.lemmas.Bool.{or_parts}
use Rattle.std.proofs.lemmas.List.{append-nil}
use Rattle.syntax.specs.Trees.{ProgramTree}
use Rattle.classes.specs.Faults.{override_faults}
use Rattle.classes.specs.Families.{all_above, members_along, AreHeadings}
use Rattle.classes.specs.Lines.{above, above_in, all_members, ancestor_classes, members_at}
use Rattle.classes.specs.Overriding.{Heading, headings_at}
use Rattle.classes.proofs.Faultless.{nothing_inherited}

none_there : (o : Option ℕ) → is_some o ≡ false → o ≡ None
none_there None h = refl
none_there (Some n) h = absurd (let e : true ≡ false = h in cc)

alone_at : (tree cs : ProgramTree) (k : ℕ) → list_any is_some (map (λ c. above_in tree (Some c)) cs) ≡ false → above_in tree (slice_get cs k) ≡ None
alone_at tree [] k h = refl
alone_at tree (c ∷ cs) zero h = none_there (above_in tree (Some c)) (or_parts (is_some (above_in tree (Some c))) (list_any is_some (map (λ c. above_in tree (Some c)) cs)) h).0
alone_at tree (c ∷ cs) (suc k) h = alone_at tree cs k (or_parts (is_some (above_in tree (Some c))) (list_any is_some (map (λ c. above_in tree (Some c)) cs)) h).1

-- where no class extends another, no class inherits from any
pub none_inherit : (tree : ProgramTree) (aboves : List (Option ℕ)) → aboves ≡ all_above tree → list_any is_some aboves ≡ false → (k : ℕ) → ancestor_classes tree k ≡ []
none_inherit tree aboves is none k = (nothing_inherited tree k (alone_at tree tree k (ap (list_any is_some) (sym is) ∙ none))).0

-- the members of a class that extends none are its own
pub members_alone : (tree : ProgramTree) (k : ℕ) → above tree k ≡ None → members_along tree (k ∷ []) ≡ all_members tree k
members_alone tree k alone = append-nil (members_at tree k) ∙ sym (nothing_inherited tree k alone).2

none_overridden : (methods : ℕ → List Heading) (own : List Heading) → override_faults methods [] own ≡ []
none_overridden methods [] = refl
none_overridden methods (m ∷ ms) = none_overridden methods ms

-- methods that are known where a class inherits from another have the faults of all methods
pub same_overrides : (tree : ProgramTree) (methods : ℕ → List Heading) (along : List ℕ) (k : ℕ) → AreHeadings tree methods → along ≡ ancestor_classes tree k
    → override_faults methods along (methods k) ≡ override_faults (headings_at tree) along (headings_at tree k)
same_overrides tree methods along k (inl known) is = ap (λ m. override_faults m along (m k)) known
same_overrides tree methods along k (inr alone) is =
    let nothing : along ≡ [] = is ∙ alone k in
    ap (λ l. override_faults methods l (methods k)) nothing
    ∙ none_overridden methods (methods k)
    ∙ sym (ap (λ l. override_faults (headings_at tree) l (headings_at tree k)) nothing ∙ none_overridden (headings_at tree) (headings_at tree k))
