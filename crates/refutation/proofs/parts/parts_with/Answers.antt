-- Where no path is required, all sets have them.
use Rattle.std.proofs.Common.{◌≡◌, List, [], ◌∷◌, length, refl, sym, ap, ◌∙◌}
use Rattle.std.specs.Prelude.{filter}
use Rattle.std.specs.List.{list_all}
use Rattle.std.proofs.lemmas.Bool.{eqb-true}
use Rattle.std.proofs.lemmas.List.{nil_from_length}
use Rattle.paths.specs.Paths.{PathData}
use Rattle.algebra.specs.HeldPaths.{has_path}
use Rattle.refutation.specs.Passes.{subsets_of}
use Rattle.refutation.proofs.parts.parts_with.Goals as goal

all_kept : (sets : List (List PathData)) → filter (λ held. list_all (has_path held) []) sets ≡ sets
all_kept [] = refl
all_kept (x ∷ xs) = ap (λ ys. x ∷ ys) (all_kept xs)

pub returns-then-is_empty : goal.returns-then-is_empty
returns-then-is_empty c =
    let all = subsets_of c.args.paths.now in
    let none : c.args.required.now ≡ [] = nil_from_length c.args.required.now (eqb-true (length c.args.required.now) 0 (sym c.is_empty.ensures ∙ c.if-is_empty.true)) in
    c.in_ok-parts.ensures ∙ sym (all_kept all) ∙ ap (λ r. filter (λ held. list_all (has_path held) r) all) (sym none)
