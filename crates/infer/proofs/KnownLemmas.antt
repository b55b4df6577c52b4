-- What is said of an overriding method's paths where these alone are known that the overridden one knows.
use Rattle.std.proofs.Common.{◌≡◌, ℕ, Bool, true, false, ◌&&◌, List, [], ◌∷◌, map, Some, None, refl, ap, ◌∙◌}
use Rattle.std.specs.Prelude.{Option, Result, Ok, Err, IfOk, if◌then◌else◌, slice_get}
use Rattle.paths.specs.Paths.{PathData}
use Rattle.algebra.specs.declared.basic.Basic.{Basic}
use Rattle.algebra.specs.HeldPaths.{Held, has_path, holds_at}
use Rattle.core_program.specs.Core.{Program, Method}
use Rattle.rules.specs.Effect.{Assignment, effect}
use Rattle.rules.specs.Rules.{IsSubset, held_in}
use Rattle.rules.proofs.SetLemmas.{held_whole}
use Rattle.infer.specs.Tables.{chosen, table_or_empty, table_assignment}
use Rattle.infer.specs.Names.{held_partners, known_name}
use Rattle.infer.specs.Cells.{greatest_of, inferred_effect}

name_held : (H : Held) (q : PathData) (b : Bool) → holds_at (if b then Some q else None) H ≡ (b && H q)
name_held H q true = refl
name_held H q false = refl

-- those that are held under their own names are held and known
partners_known : (known : List PathData) (H : Held) (qs : List PathData) → held_partners (map (λ q. (q, known_name known q)) qs) H ≡ map (held_in known H) qs
partners_known known H [] = refl
partners_known known H (q ∷ qs) = let head = name_held H q (has_path known q) in let rest = partners_known known H qs in λ i. head i ∷ rest i

-- what is picked by these names is assigned at the held paths that are known
pub known_picked : (rel : ℕ → List PathData) (tables : List (List Basic)) (m : ℕ) (known : List PathData) (pairs : List (PathData × Option PathData)) (table : List Basic) (H : Held)
    → pairs ≡ map (λ q. (q, known_name known q)) (rel m) → table ≡ table_or_empty (slice_get tables m) → chosen (held_partners pairs H) table ≡ table_assignment rel tables m (held_in known H)
known_picked rel tables m known pairs table H pairs_are table_is =
    (λ i. chosen (held_partners (pairs_are i) H) (table_is i)) ∙ ap (λ bits. chosen bits (table_or_empty (slice_get tables m))) (partners_known known H (rel m))

-- at a set of known paths what is said of those in it that are known is said of all
pub known_whole : (P : Program) (rel : ℕ → List PathData) (A : Assignment) (overs : List ℕ) (method : Method) (body : Basic) (known : List PathData) (H : Held)
    → body ≡ effect P rel A method.body H → IsSubset H (has_path known) → greatest_of rel A body overs (held_in known H) ≡ inferred_effect P rel A overs method H
known_whole P rel A overs method body known H body_is part = let whole = held_whole known H part in λ i. greatest_of rel A (body_is i) overs (whole i)

-- what a call answers, told in other words of some sets
pub value_within : {S A E : Type 0} (value : S → A → Held → Basic) (s : S) (r : Result A E) (f g : Held → Basic) (within : Held) → ((H : Held) → IsSubset H within → f H ≡ g H)
    → IfOk r (λ a. (H : Held) → value s a H ≡ f H) → IfOk r (λ a. (H : Held) → IsSubset H within → value s a H ≡ g H)
value_within value s (Ok a) f g within same is = λ H part. is H ∙ same H part
value_within value s (Err e) f g within same is = is
