-- What stands above each class of the table of a tree, and look-ups where nothing does.
use Rattle.std.proofs.Common.{◌≡◌, ℕ, zero, suc, ◌+◌, ◌≤◌, ◌==◌, ◌||◌, List, [], ◌∷◌, Option, Some, None, length, refl, ap, sym, ◌∙◌, slice_get, arith, inl, inr}
use Rattle.std.specs.Option.{option_and_then, option_or}
use Rattle.std.proofs.Math.Bool.{or-false}
use Rattle.std.proofs.Math.Path.{fun_ext}
use Rattle.std.proofs.lemmas.Option.{same_Some, slice_get_cases, slice_get_past}
use Rattle.base.specs.Ancestors.{AreBelow, reaches}
use Rattle.syntax.specs.declared.tree.Name.{Name}
use Rattle.syntax.specs.Trees.{ProgramTree}
use Rattle.classes.specs.Lines.{ancestors, above_in, above, says_so}
use Rattle.classes.specs.Members.{field_names, method_names}
use Rattle.classes.specs.Names.{texts_of}
use Rattle.classes.proofs.Faultless.{below}
use Rattle.classes.specs.Table.{ClassData, TableData, classes_from, table_of, above_in_table, class_and_ancestors, is_of_kind, first_found}
use Rattle.classes.proofs.Parts.{nothing_at}

-- ---- the rows of a tree

row_at : (tree : ProgramTree) (texts : List Name → List (List ℕ)) (k f m : ℕ) (cs : ProgramTree) (i j : ℕ) (d : ClassData) → j ≡ k + i
    → slice_get (classes_from tree texts k f m cs) i ≡ Some d → (d.above ≡ above tree j) × (d.runnable ≡ says_so tree j)
row_at tree texts k f m [] i j d is e = absurd (nothing_at i d e)
row_at tree texts k f m (c ∷ cs) zero j d is e =
    let here : j ≡ k = omega (arith, is) in
    let row = same_Some _ d e in
    (ap (λ z. z.above) (sym row) ∙ ap (above tree) (sym here), ap (λ z. z.runnable) (sym row) ∙ ap (says_so tree) (sym here))
row_at tree texts k f m (c ∷ cs) (suc i) j d is e =
    row_at tree texts (k + 1) (f + length (field_names c.members)) (m + length (method_names c.members)) cs i j d (omega (arith, is)) e

rows_long : (tree : ProgramTree) (texts : List Name → List (List ℕ)) (k f m : ℕ) (cs : ProgramTree) → length (classes_from tree texts k f m cs) ≡ length cs
rows_long tree texts k f m [] = refl
rows_long tree texts k f m (c ∷ cs) = ap suc (rows_long tree texts (k + 1) (f + length (field_names c.members)) (m + length (method_names c.members)) cs)

-- the table has a row for each class
pub table_long : (tree : ProgramTree) → length (table_of tree).classes ≡ length tree
table_long tree = rows_long tree texts_of 0 0 0 tree

-- a row says whether its class counts as `implements Runnable`
pub counts_row : (tree : ProgramTree) (k : ℕ) (d : ClassData) → slice_get (table_of tree).classes k ≡ Some d → d.runnable ≡ says_so tree k
counts_row tree k d e = (row_at tree texts_of 0 0 0 tree k k d (omega arith) e).1

-- a row says what stands above its class
pub above_row : (tree : ProgramTree) (k : ℕ) → above_in_table (table_of tree) k ≡ above tree k
above_row tree k =
    elim ((slice_get_cases (table_of tree).classes k).1) [
      | inl found ↦ ap (option_and_then (λ c. c.above)) found.2 ∙ (row_at tree texts_of 0 0 0 tree k k found.0 (omega arith) found.2).0
      | inr past ↦
          let beyond : length tree ≤ k = omega (arith, past.0, table_long tree) in
          ap (option_and_then (λ c. c.above)) past.1 ∙ ap (above_in tree) (sym (slice_get_past tree k beyond))
    ]

pub above_same : (tree : ProgramTree) → above_in_table (table_of tree) ≡ above tree
above_same tree = fun_ext (above_row tree)

-- what stands above a class of the table is a class of it
pub table_below : (tree : ProgramTree) → AreBelow (above_in_table (table_of tree)) (length (table_of tree).classes)
table_below tree c d e = let within = below tree c d (sym (above_row tree c) ∙ e) in omega (arith, within, table_long tree)

-- ---- a class that extends none

or_nothing : {A : Type 0} (o : Option A) → option_or o None ≡ o
or_nothing None = refl
or_nothing (Some a) = refl

pub plain_found : {A : Type 0} (own : ℕ → Option A) (t : TableData) (k : ℕ) → above_in_table t k ≡ None → first_found own (class_and_ancestors t k) ≡ own k
plain_found own t k none =
    ap (λ o. first_found own (k ∷ ancestors (above_in_table t) (length t.classes) o)) none ∙ or_nothing (own k)

plain_reached : (f : ℕ → Option ℕ) (n c d : ℕ) → f c ≡ None → reaches f n (Some c) d ≡ (c == d)
plain_reached f zero c d none = refl
plain_reached f (suc n) c d none = ap (λ o. (c == d) || reaches f n o d) none ∙ or-false (c == d)

pub plain_kind : (t : TableData) (c d : ℕ) → above_in_table t c ≡ None → is_of_kind t c d ≡ (c == d)
plain_kind t c d none = plain_reached (above_in_table t) (length t.classes) c d none
