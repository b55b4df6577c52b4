-- Values that look at one path at most: how they are made, and how they stand beside trees.
use Rattle.std.proofs.Common.{◌≡◌, ◌↔◌, ◌&&◌, ◌||◌, ◌∷◌, ℕ, Bool, true, false, List, Option, Some, None, IfSome, if◌then◌else◌, refl, sym, ap, subst, ◌∙◌}
use Rattle.std.proofs.lemmas.Bool.{and_from, and_parts}
use Rattle.paths.specs.Paths.{PathData, path_eq}
use Rattle.paths.proofs.PathOrder.{eq_is, eq_itself}
use Rattle.algebra.specs.declared.basic.Basic.{Basic}
use Rattle.algebra.specs.Basics.{below_of, join_of, lift_of, seq_of, star_of}
use Rattle.algebra.specs.HeldPaths.{Held, with_path}
use Rattle.algebra.specs.Values.{sync_of}
use Rattle.conditions.specs.Conditions.{Cond, LeafC, TestC, value_of}
use Rattle.rules.specs.Rules.{AtMost}
use Rattle.books.specs.Derivations.{Nodes}
use Rattle.effects.specs.declared.accesses.Branching.{Branching}
use Rattle.book_check.specs.Conclusions.{conclusions}
use Rattle.effects.specs.Accesses.{branching_value}
use Rattle.book_check.specs.Merges.{IsFirstValue}
use Rattle.book_check.specs.Pairs.{held_branch, free_branch}
use Rattle.effects.specs.Rules.{Value, choice_value, in_sequence, lock_value, loop_value}
use Rattle.algebra.proofs.Sequences.{associative}

-- two values made one, where the path is held or isn't

pub always_where : (f : Basic → Basic → Basic) (t : Bool) (a x y held free : Basic) → held ≡ f a x → free ≡ f a y → (if t then held else free) ≡ f a (if t then x else y)
always_where f true a x y held free e d = e
always_where f false a x y held free e d = d

pub where_always : (f : Basic → Basic → Basic) (t : Bool) (x y b held free : Basic) → held ≡ f x b → free ≡ f y b → (if t then held else free) ≡ f (if t then x else y) b
where_always f true x y b held free e d = e
where_always f false x y b held free e d = d

pub where_both : (f : Basic → Basic → Basic) (H : Held) (p q : PathData) (x y u v held free : Basic) → p ≡ q → held ≡ f x u → free ≡ f y v →
    (if H p then held else free) ≡ f (if H p then x else y) (if H q then u else v)
where_both f H p q x y u v held free same e d = one (H p) ∙ ap (λ z. f (if H p then x else y) (if H z then u else v)) same
  where
    one : (t : Bool) → (if t then held else free) ≡ f (if t then x else y) (if t then u else v)
    one true = e
    one false = d

pub star_where : (t : Bool) (x y held free : Basic) → held ≡ star_of x → free ≡ star_of y → (if t then held else free) ≡ star_of (if t then x else y)
star_where true x y held free e d = e
star_where false x y held free e d = d

pub lock_where : (H : Held) (p q : PathData) (x y lifted : Basic) → q ≡ p → lifted ≡ lift_of x →
    (if H p then x else lifted) ≡ (if H p then (if H q then x else y) else lift_of (if with_path p H q then x else y))
lock_where H p q x y lifted same e = one (H p) ∙ ap (λ z. if H p then (if H z then x else y) else lift_of (if with_path p H z then x else y)) (sym same)
  where
    one : (t : Bool) → (if t then x else lifted) ≡ (if t then (if t then x else y) else lift_of (if (path_eq p p || t) then x else y))
    one true = refl
    one false = e ∙ rw (eq_itself p) refl

-- premises

pub sequence_more : (V : ℕ → Value) (all rest others : Nodes) (n : ℕ) (so_far next longer : Value) → conclusions V rest ≡ V n ∷ conclusions V others → ((H : Held) → V n H ≡ next H) →
    ((H : Held) → longer H ≡ seq_of (so_far H) (next H)) → ((H : Held) → seq_of (so_far H) (in_sequence (conclusions V rest) H) ≡ in_sequence (conclusions V all) H) → (H : Held) →
    seq_of (longer H) (in_sequence (conclusions V others) H) ≡ in_sequence (conclusions V all) H
sequence_more V all rest others n so_far next longer are value made before H =
    ap (λ z. seq_of z (in_sequence (conclusions V others) H)) (made H)
    ∙ associative (so_far H) (next H) (in_sequence (conclusions V others) H)
    ∙ ap (λ z. seq_of (so_far H) (seq_of z (in_sequence (conclusions V others) H))) (sym (value H))
    ∙ ap (λ vs. seq_of (so_far H) (in_sequence vs H)) (sym are)
    ∙ before H

pub sequence_then : (o : Option Branching) (before first last : Value) → ((H : Held) → before H ≡ first H) → IfSome o (λ x. (H : Held) → branching_value x H ≡ seq_of (first H) (last H)) →
    IfSome o (λ x. (H : Held) → seq_of (before H) (last H) ≡ branching_value x H)
sequence_then (Some x) before first last same made = λ H. ap (λ z. seq_of z (last H)) (same H) ∙ sym (made H)
sequence_then None before first last same made = tt

pub choice_is : (o : Option Branching) (V : ℕ → Value) (all rest others none : Nodes) (a b c either : Branching) → IsFirstValue V all a rest → IsFirstValue V rest b others → IsFirstValue V others c none →
    ((H : Held) → branching_value either H ≡ join_of (branching_value b H) (branching_value c H)) →
    IfSome o (λ x. (H : Held) → branching_value x H ≡ seq_of (branching_value a H) (branching_value either H)) →
    IfSome o (λ x. (H : Held) → choice_value (conclusions V all) H ≡ branching_value x H)
choice_is (Some r) V all rest others none a b c either x y z joined made = λ H.
    ap (λ vs. choice_value vs H) (x.are ∙ ap (λ vs. V x.first ∷ vs) (y.are ∙ ap (λ vs. V y.first ∷ vs) z.are))
    ∙ (λ i. seq_of (x.value H i) (join_of (y.value H i) (z.value H i)))
    ∙ ap (λ v. seq_of (branching_value a H) v) (sym (joined H))
    ∙ sym (made H)
choice_is None V all rest others none a b c either x y z joined made = tt

pub loop_is : (o : Option Branching) (V : ℕ → Value) (all rest rest' others : Nodes) (a again b turn turns : Branching) → IsFirstValue V all a rest → IsFirstValue V all again rest' → IsFirstValue V rest b others →
    ((H : Held) → branching_value turn H ≡ seq_of (branching_value b H) (branching_value again H)) → ((H : Held) → branching_value turns H ≡ star_of (branching_value turn H)) →
    IfSome o (λ x. (H : Held) → branching_value x H ≡ seq_of (branching_value a H) (branching_value turns H)) →
    IfSome o (λ x. (H : Held) → loop_value (conclusions V all) H ≡ branching_value x H)
loop_is (Some r) V all rest rest' others a again b turn turns x x' y turned starred made = λ H.
    let firsts : V x.first H ≡ V x'.first H = head_same (x.are) (x'.are) H in
    ap (λ vs. loop_value vs H) (x.are ∙ ap (λ vs. V x.first ∷ vs) y.are)
    ∙ (λ i. seq_of (x.value H i) (star_of (seq_of (y.value H i) ((firsts ∙ x'.value H) i))))
    ∙ ap (λ v. seq_of (branching_value a H) (star_of v)) (sym (turned H))
    ∙ ap (λ v. seq_of (branching_value a H) v) (sym (starred H))
    ∙ sym (made H)
  where
    head : Value → List Value → Value
    head v (w ∷ ws) = w
    head v _ = v

    head_same : {vs : List Value} {v w : Value} {xs ys : List Value} → vs ≡ v ∷ xs → vs ≡ w ∷ ys → (H : Held) → v H ≡ w H
    head_same {v = v} e d H = ap (λ z. head v z H) (sym e ∙ d)
loop_is None V all rest rest' others a again b turn turns x x' y turned starred made = tt

pub lock_is : (o : Option Branching) (V : ℕ → Value) (p : PathData) (all rest : Nodes) (body : Branching) → IsFirstValue V all body rest →
    IfSome o (λ x. (H : Held) → branching_value x H ≡ sync_of p (branching_value body) H) →
    IfSome o (λ x. (H : Held) → lock_value p (conclusions V all) H ≡ branching_value x H)
lock_is (Some r) V p all rest body x made = λ H.
    ap (λ vs. lock_value p vs H) x.are
    ∙ (λ i. if H p then x.value H i else lift_of (x.value (with_path p H) i))
    ∙ sym (made H)
lock_is None V p all rest body x made = tt

-- beside a tree

pub always_below : (basic most : Basic) (d : Cond) (b : Bool) → d ≡ LeafC most → b ≡ below_of basic most → (b ≡ true) ↔ ((H : Held) → AtMost basic (value_of d H))
always_below basic most d b is test =
    subst (λ t. (b ≡ true) ↔ ((H : Held) → AtMost basic (value_of t H))) (sym is) ((λ e H. sym test ∙ e), (λ all. test ∙ all (λ q. true)))

leaf_same : (a b : Basic) → LeafC a ≡ LeafC b → a ≡ b
leaf_same a b e = cc

branched_leaf : (t : Bool) (b high low : Basic) → b ≡ high → b ≡ low → b ≡ (if t then high else low)
branched_leaf true b high low e f = e
branched_leaf false b high low e f = f

branched_test : (t : Bool) (p q : PathData) (x y : Cond) (high low : Basic) → path_eq q p ≡ t → (if t then x else TestC q x y) ≡ LeafC high → (if t then y else TestC q x y) ≡ LeafC low →
    (H : Held) → (if H q then value_of x H else value_of y H) ≡ (if H p then high else low)
branched_test true p q x y high low same e f H = λ i. if H (eq_is q p same i) then value_of (e i) H else value_of (f i) H
branched_test false p q x y high low same e f H = absurd (cc)

branched : (p : PathData) (d : Cond) (high low : Basic) → held_branch p d ≡ LeafC high → free_branch p d ≡ LeafC low → (H : Held) → value_of d H ≡ (if H p then high else low)
branched p (LeafC b) high low e f H = branched_leaf (H p) b high low (leaf_same b high e) (leaf_same b low f)
branched p (TestC q x y) high low e f H = branched_test (path_eq q p) p q x y high low refl e f H

at_test : (t : Bool) (held free high low : Basic) → AtMost held high → AtMost free low → AtMost (if t then held else free) (if t then high else low)
at_test true held free high low e f = e
at_test false held free high low e f = f

pub branches_below : (p : PathData) (held free high low : Basic) (d a b : Cond) (x y r : Bool) → a ≡ held_branch p d → b ≡ free_branch p d → a ≡ LeafC high → b ≡ LeafC low →
    x ≡ below_of held high → y ≡ below_of free low → r ≡ (x && y) → (r ≡ true) ↔ ((H : Held) → AtMost (if H p then held else free) (value_of d H))
branches_below p held free high low d a b x y r is_a is_b leaf_a leaf_b test_x test_y both =
    let value : (H : Held) → value_of d H ≡ (if H p then high else low) = branched p d high low (sym is_a ∙ leaf_a) (sym is_b ∙ leaf_b) in (
      (λ e H.
          let parts = and_parts x y (sym both ∙ e) in
          subst (λ z. AtMost (if H p then held else free) z) (sym (value H)) (at_test (H p) held free high low (sym test_x ∙ parts.0) (sym test_y ∙ parts.1))),
      (λ all. both ∙ and_from x y
          (test_x ∙ subst (λ z. AtMost held z) (value (λ q. true)) (all (λ q. true)))
          (test_y ∙ subst (λ z. AtMost free z) (value (λ q. false)) (all (λ q. false)))),
    )

pub rule_below : (o : Option Bool) (v rule d : Value) → ((H : Held) → rule H ≡ v H) → IfSome o (λ b. (b ≡ true) ↔ ((H : Held) → AtMost (v H) (d H))) →
    IfSome o (λ b. (b ≡ true) ↔ ((H : Held) → AtMost (rule H) (d H)))
rule_below (Some b) v rule d same test = (
  (λ e H. subst (λ z. AtMost z (d H)) (sym (same H)) (test.0 e H)),
  (λ all. test.1 (λ H. subst (λ z. AtMost z (d H)) (same H) (all H))),
)
rule_below None v rule d same test = tt
