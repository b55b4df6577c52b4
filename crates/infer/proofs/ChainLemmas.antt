-- Where what is assigned to the nearest overriding methods is below what is assigned to the overridden one, so it is of all that override it.
use Rattle.std.proofs.Common.{◌≡◌, ℕ, true, List, Some, subst, ◌∙◌}
use Rattle.std.specs.Prelude.{Contains, slice_get}
use Rattle.std.proofs.lemmas.Bool.{and_from}
use Rattle.paths.specs.Paths.{PathData}
use Rattle.algebra.specs.HeldPaths.{Held, has_path}
use Rattle.core_program.specs.Core.{Program, Method}
use Rattle.core_program.specs.Typed.{IsTyped}
use Rattle.rules.specs.Effect.{Assignment}
use Rattle.rules.specs.Rules.{IsSubset, AtMost, IsAntitone, held_in}
use Rattle.rules.specs.Search.{row_at}
use Rattle.rules.proofs.BasicLemmas.{below_chain}
use Rattle.rules.proofs.SetLemmas.{second}
use Rattle.rules.specs.Nearest.{LeadTo, near, further, AreNearest}
use Rattle.infer.proofs.RunLemmas.{held_part, held_more}

module _ (P : Program) (typed : IsTyped P) (rows : List (List ℕ)) (nearest : AreNearest P rows) (rel : ℕ → List PathData)
    (needs : (m : ℕ) (method : Method) → slice_get P.methods m ≡ Some method → IsSubset (has_path method.requires_) (has_path (rel m)))
    (A : Assignment) (falling : IsAntitone rel A)
    (listed_below : (m over : ℕ) (method : Method) → slice_get P.methods m ≡ Some method → Contains (row_at rows m) over → (H : Held) → IsSubset (has_path method.requires_) H
    → AtMost (A over (held_in (rel over) H)) (A m H)) where
  -- the second method requires what the first does, and what is assigned to it is below what is assigned there
  pub record Follows (m over : ℕ) (method : Method) (H : Held) : Type 0 where
    pub other : Method
    pub is : slice_get P.methods over ≡ Some other
    pub same : other.requires_ ≡ method.requires_
    pub below : AtMost (A over (held_in (rel over) H)) (A m H)

  pub follows : (m over : ℕ) (method : Method) → slice_get P.methods m ≡ Some method → (H : Held) → IsSubset (has_path method.requires_) H → LeadTo rows m over → Follows m over method H
  follows m over method is H has (near listed) =
      let o = nearest.sound m over listed in
      record {
        other = o.method;
        is = o.is;
        same = (typed.overriding over m o.method method o o.is is).requires_;
        below = listed_below m over method is listed H has;
      }
  follows m over method is H has (further middle lead listed) =
      let f = follows m middle method is H has lead in
      let o = nearest.sound middle over listed in
      let K : Held = held_in (rel middle) H in
      let part : IsSubset K H = λ q e. second (has_path (rel middle) q) (H q) e in
      let has_there : IsSubset (has_path f.other.requires_) K = λ q e. and_from (has_path (rel middle) q) (H q) (needs middle f.other f.is q e) (has q (subst (λ ps. has_path ps q ≡ true) f.same e)) in
      record {
        other = o.method;
        is = o.is;
        same = (typed.overriding over middle o.method f.other o o.is f.is).requires_ ∙ f.same;
        below = below_chain (A over (held_in (rel over) H)) (A middle K) (A m H)
            (below_chain (A over (held_in (rel over) H)) (A over (held_in (rel over) K)) (A middle K)
            (falling over (held_in (rel over) K) (held_in (rel over) H) (held_part (rel over) H) (held_more (rel over) K H part))
            (listed_below middle over f.other f.is listed K has_there))
            f.below;
      }
