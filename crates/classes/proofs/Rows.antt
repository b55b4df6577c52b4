-- The methods of each class, as they are kept.
use Rattle.std.proofs.Common.{◌≡◌, ℕ, ◌+◌, ◌≤◌, zero, suc, List, [], ◌∷◌, ◌++◌, map, drop, length, refl, ap, sym, ◌∙◌, slice_get, arith}
use Rattle.std.proofs.Math.Path.{fun_ext}
use Rattle.std.proofs.lemmas.List.{append-nil, drop_all}
use Rattle.syntax.specs.declared.tree.Class.{Class}
use Rattle.syntax.specs.Views.{class_of}
use Rattle.syntax.specs.Trees.{ClassTree, ProgramTree}
use Rattle.classes.specs.Lines.{members_in}
use Rattle.classes.specs.Overriding.{Heading, headings, headings_at}
use Rattle.classes.specs.Families.{row_in, class_headings, all_headings}

row_is : (tree : ProgramTree) (k : ℕ) (cs : List ClassTree) (i n : ℕ) → n ≡ k + i → row_in (slice_get (all_headings tree k cs) i) ≡ headings tree n (members_in (slice_get cs i))
row_is tree k [] i n e = refl
row_is tree k (c ∷ cs) zero n e = let same : k ≡ n = omega (arith, e) in ap (λ x. headings tree x c.members) same
row_is tree k (c ∷ cs) (suc i) n e = row_is tree (k + 1) cs i n (omega (arith, e))

pub rows_are : (tree : ProgramTree) (rows : List (List Heading)) → rows ≡ all_headings tree 0 tree → class_headings rows ≡ headings_at tree
rows_are tree rows is = fun_ext (λ j. ap (λ r. class_headings r j) is ∙ row_is tree 0 tree j j (omega arith))

-- when all classes were passed, the rows are those of all
pub rows_end : (tree : ProgramTree) (xs : List Class) (i : ℕ) (rows : List (List Heading)) → length xs ≤ i → rows ++ all_headings tree i (map class_of (drop i xs)) ≡ all_headings tree 0 tree
    → class_headings rows ≡ headings_at tree
rows_end tree xs i rows past so_far =
    rows_are tree rows (sym (append-nil rows) ∙ ap (λ z. rows ++ all_headings tree i (map class_of z)) (sym (drop_all i xs past)) ∙ so_far)
