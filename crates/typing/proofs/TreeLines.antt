-- The class table of a tree without class faults has no circles, and its classes have what the classes above them in the tree have.
use Rattle.std.proofs.Common.{◌≡◌, ◌<◌, ◌≤◌, ◌+◌, ◌==◌, ℕ, false, List, [], ◌∷◌, ◌++◌, length, map, Option, Some, None, refl, sym, ap, ap₂, subst, ◌∙◌, arith, slice_get, position, bytes_eq, option_and_then}
use Rattle.std.specs.List.{AllByRecursion}
use Rattle.std.proofs.Math.Path.{fun_ext}
use Rattle.std.proofs.lemmas.List.{map-append, length-map}
use Rattle.std.proofs.lemmas.Option.{none-some, same_Some}
use Rattle.base.proofs.NumberLemmas.{eqb_turned, other_below, other_above}
use Rattle.base.specs.Ancestors.{AreBelow, IsAncestor}
use Rattle.syntax.specs.Trees.{ClassTree, ProgramTree}
use Rattle.classes.specs.Names.{texts_of}
use Rattle.classes.specs.Members.{method_names}
use Rattle.classes.specs.Lines.{ancestors, above_in, above, ancestor_classes}
use Rattle.classes.specs.Faults.{all_class_faults}
use Rattle.classes.proofs.Faultless.{IsFaultless, faultless, below, no_circle, line_is}
use Rattle.classes.specs.Table.{TableData, ClassData, MethodData, above_in_table, class_and_ancestors, table_of}
use Rattle.typing.specs.Classes.{inherited_count, ancestors_in}
use Rattle.typing.specs.Order.{IsOwnPart, IsLined}
use Rattle.typing.proofs.Built.{place_of_name}
use Rattle.classes.proofs.Parts.{Each, each_at, mapped_at, before_mapped}
use Rattle.typing.proofs.Places.{MethodAt, own_methods, methods_at, method_entry, method_entries, own_method_names, own_method_class, method_classes_between, class_entry, IsPlaced, placed, class_of_entry, entries_many}

-- what holds of each of the parts holds of what they are in the table
each_entry : {A B : Type 0} (P : A → Type 0) (Q : B → Type 0) (f : A → B) → ((x : A) → P x → Q (f x)) → (xs : List A) → Each P xs → AllByRecursion Q (map f xs)
each_entry P Q f h [] k = tt
each_entry P Q f h (x ∷ xs) k = (h x k.0, each_entry P Q f h xs k.1)

names_told : (names : List (List ℕ)) (ds : List MethodAt) → map (λ m. m.name) (map (method_entry names) ds) ≡ texts_of (map (λ d. d.method.name) ds)
names_told names [] = refl
names_told names (d ∷ ds) = ap (λ z. d.method.name.text ∷ z) (names_told names ds)

module _ (tree : ProgramTree) where
  abbrev pub the_table : TableData
  the_table = table_of tree

  pub table_long : length the_table.classes ≡ length tree
  table_long = entries_many (inherited_count the_table) tree 0 0 0 tree

  abbrev pub place : (c : ℕ) (C : ClassTree) → slice_get tree c ≡ Some C → IsPlaced (inherited_count the_table) tree 0 0 0 tree c c C
  place c C at = placed (inherited_count the_table) tree 0 0 0 tree c c C (omega arith) at

  -- the class of an entry
  pub class_known : (c : ℕ) (d : ClassData) → slice_get the_table.classes c ≡ Some d → (C : ClassTree) × (slice_get tree c ≡ Some C)
  class_known c d at = class_of_entry (inherited_count the_table) tree 0 0 0 tree c d at

  pub same_entry : (c : ℕ) (d : ClassData) (C : ClassTree) (at : slice_get tree c ≡ Some C) → slice_get the_table.classes c ≡ Some d
      → class_entry tree c (place c C at).first_field (place c C at).first_method C ≡ d
  same_entry c d C at is = same_Some (class_entry tree c (place c C at).first_field (place c C at).first_method C) d (sym (place c C at).entry ∙ is)

  above_at : (c : ℕ) → above_in_table the_table c ≡ above tree c
  above_at c = by_class (slice_get tree c) refl
    where
      by_class : (o : Option ClassTree) → slice_get tree c ≡ o → above_in_table the_table c ≡ above tree c
      by_class (Some C) at = ap (option_and_then (λ (d : ClassData). d.above)) (place c C at).entry
      by_class None none = by_entry (slice_get the_table.classes c) refl ∙ sym (ap (above_in tree) none)
        where
          by_entry : (o : Option ClassData) → slice_get the_table.classes c ≡ o → option_and_then (λ (d : ClassData). d.above) o ≡ None
          by_entry None is = refl
          by_entry (Some d) is = let C = class_known c d is in absurd (none-some C.0 (sym none ∙ C.1))

  -- what stands above a class in the table stands above it in the tree
  pub above_same : above_in_table the_table ≡ above tree
  above_same = fun_ext above_at

  module _ (whole : IsFaultless tree) where
    table_below : AreBelow (above_in_table the_table) (length the_table.classes)
    table_below c d is = subst (λ n. d < n) (sym table_long) (below tree c d (sym (above_at c) ∙ is))

    table_apart : (c : ℕ) → IsAncestor (above_in_table the_table) c c → ⊥
    table_apart c round = no_circle tree whole c (subst (λ f. IsAncestor f c c) above_same round)

    own_part : (k : ℕ) (c : ClassData) → slice_get the_table.classes k ≡ Some c → IsOwnPart the_table k c
    own_part k c is =
        let C = class_known k c is in
        let p = place k C.0 C.1 in
        let entry : MethodAt → MethodData = method_entry the_table.names in
        let mine = own_methods k C.0.members in
        let c_is = same_entry k c C.0 C.1 is in
        record {
          before = map entry p.methods_before;
          own = map entry mine;
          after = map entry p.methods_after;
          whole = method_entries the_table.names 0 tree ∙ ap (map entry) p.methods ∙ map-append entry p.methods_before (mine ++ p.methods_after)
              ∙ ap (λ z. map entry p.methods_before ++ z) (map-append entry mine p.methods_after);
          first = omega (arith, length-map p.methods_before entry, p.first_method_is, ap (λ z. z.first_method) c_is);
          names = names_told the_table.names mine ∙ ap texts_of (own_method_names k C.0.members) ∙ ap (λ z. z.method_names) c_is;
          others_before = each_entry (λ d. d.class < k) (λ m. (k == m.class) ≡ false) entry (λ d h. eqb_turned k d.class ∙ other_below d.class k h) p.methods_before p.methods_apart_before;
          mine = each_entry (λ d. d.class ≡ k) (λ m. m.class ≡ k) entry (λ d h. h) mine (own_method_class k C.0.members);
          others_after = each_entry (λ d. k < d.class) (λ m. (k == m.class) ≡ false) entry (λ d h. eqb_turned k d.class ∙ other_above d.class k h) p.methods_after p.methods_apart_after;
          once = λ i m at.
              let d = before_mapped entry mine i m at in
              let name_at : slice_get (method_names C.0.members) i ≡ Some d.0.method.name =
              ap (λ z. slice_get z i) (sym (own_method_names k C.0.members)) ∙ mapped_at (λ d. d.method.name) mine i d.0 d.1 in
              ap₂ (λ n ns. position (bytes_eq n) ns) (ap (λ z. z.name) (sym d.2)) (ap (λ z. z.method_names) (sym c_is))
              ∙ place_of_name (method_names C.0.members) (whole.classes k C.0 C.1).methods i d.0.method.name name_at;
        }

    -- the table has no circles, and the methods of each class stand together
    pub lined : IsLined the_table
    lined = record {
      below = table_below;
      apart = table_apart;
      methods = own_part;
      owned = λ n m at.
          let d = before_mapped (method_entry the_table.names) (methods_at 0 tree) n m (ap (λ z. slice_get z n) (sym (method_entries the_table.names 0 tree)) ∙ at) in
          let within = (each_at (λ d. (0 ≤ d.class) × (d.class < 0 + length tree)) (methods_at 0 tree) n d.0 (method_classes_between 0 tree) d.1).1 in
          omega (arith, within, table_long, ap (λ z. z.class) d.2);
    }

    -- the ancestors of a class are those that it inherits from in the tree
    pub ancestors_same : (c : ℕ) → ancestors_in the_table c ≡ ancestor_classes tree c
    ancestors_same c =
        ap (λ f. ancestors f (length the_table.classes) (f c)) above_same
        ∙ ap (λ n. ancestors (above tree) n (above tree c)) table_long
        ∙ sym (line_is tree whole c)

    pub line_same : (c : ℕ) → class_and_ancestors the_table c ≡ c ∷ ancestor_classes tree c
    line_same c = ap (λ z. c ∷ z) (ancestors_same c)

-- the same of a table that is the tree's
pub lined_as : (tree : ProgramTree) (t : TableData) → all_class_faults tree ≡ [] → t ≡ table_of tree → IsLined t
lined_as tree t none is = subst IsLined (sym is) (lined tree (faultless tree none))

-- it has as many classes as the tree
pub many_as : {A : Type 0} (tree : ProgramTree) (t : TableData) (view : A → ClassTree) (classes : List A) → t ≡ table_of tree → map view classes ≡ tree → length classes ≡ length t.classes
many_as tree t view classes is whole = sym (length-map classes view) ∙ ap length whole ∙ sym (table_long tree) ∙ ap (λ z. length z.classes) (sym is)
