-- Values that are the same behind a statement as before it.
use Rattle.std.proofs.Common.{◌≡◌, ℕ, ◌==◌, ◌&&◌, ◌∷◌, if◌then◌else◌, Bool, true, false, not, List, [], Option, Some, None, map, length, refl, sym, ap, ◌∙◌, arith}
use Rattle.std.proofs.lemmas.Bool.{and_parts}
use Rattle.paths.specs.Paths.{PathData}
use Rattle.algebra.specs.Basics.{seq_of}
use Rattle.algebra.specs.HeldPaths.{Held}
use Rattle.conditions.specs.Conditions.{Cond, LeafC, TestC, value_of}
use Rattle.core_program.specs.Core.{Program}
use Rattle.core_program.specs.declared.tree.CoreStmt.{CoreStmt}
use Rattle.core_program.specs.Views.{stmt_of, stmts_from}
use Rattle.rules.specs.Effect.{after_local, after_stmt}
use Rattle.book_check.specs.Pairs.{avoids}
use Rattle.effects.specs.Rules.{Value, block_value, in_sequence}

elsewhere : (b : Bool) (x : ℕ) (o : Option PathData) (p : PathData) (H : Held) → (p.root == x) ≡ b → not b ≡ true → after_local H x o p ≡ H p
elsewhere true x o p H e n = absurd (cc)
elsewhere false x None p H e n = rw e refl
elsewhere false x (Some q) p H e n = rw e refl

-- a tree that tests no path of a slot has one value before and behind its declaration
pub avoided : (x : ℕ) (o : Option PathData) (H : Held) (t : Cond) → avoids x t ≡ true → value_of t (after_local H x o) ≡ value_of t H
avoided x o H (LeafC b) e = refl
avoided x o H (TestC p a b) e =
    let here = and_parts (not (p.root == x)) (avoids x a && avoids x b) e in
    let below = and_parts (avoids x a) (avoids x b) here.1 in
    let first = avoided x o H a below.0 in
    let second = avoided x o H b below.1 in
    let test : after_local H x o p ≡ H p = elsewhere (p.root == x) x o p H refl here.0 in
    λ i. if test i then first i else second i

pub avoid_none : (V : ℕ → Value) (numbers : List ℕ) (x : ℕ) (o : Option PathData) (H : Held) → length numbers ≡ 0 →
    in_sequence (map V numbers) (after_local H x o) ≡ in_sequence (map V numbers) H
avoid_none V [] x o H e = refl
avoid_none V (n ∷ ns) x o H e = absurd (omega (arith, e))

-- one value more
pub avoid_more : (V : ℕ → Value) (numbers others : List ℕ) (n : ℕ) (t : Cond) (x : ℕ) (here : Bool) (o : Option PathData) (H : Held) → numbers ≡ n ∷ others → ((K : Held) → value_of t K ≡ V n K) →
    here ≡ avoids x t → here ≡ true → in_sequence (map V others) (after_local H x o) ≡ in_sequence (map V others) H →
    in_sequence (map V numbers) (after_local H x o) ≡ in_sequence (map V numbers) H
avoid_more V numbers others n t x here o H is same test holds later =
    let first : V n (after_local H x o) ≡ V n H = sym (same (after_local H x o)) ∙ avoided x o H t (sym test ∙ holds) ∙ same H in
    ap (λ ns. in_sequence (map V ns) (after_local H x o)) is ∙ (λ i. seq_of (first i) (later i)) ∙ ap (λ ns. in_sequence (map V ns) H) (sym is)

-- statements that keep the later values are a sequence
pub unmoved_more : (P : Program) (V : ℕ → Value) (body statements : List CoreStmt) (numbers later : List ℕ) (s : CoreStmt) (n : ℕ) → body ≡ s ∷ statements → numbers ≡ n ∷ later →
    ((H : Held) → in_sequence (map V later) (after_stmt P (stmt_of s) H) ≡ in_sequence (map V later) H) →
    ((H : Held) → block_value P (stmts_from statements) (map V later) H ≡ in_sequence (map V later) H) →
    (H : Held) → block_value P (stmts_from body) (map V numbers) H ≡ in_sequence (map V numbers) H
unmoved_more P V body statements numbers later s n are is kept more H =
    (λ i. block_value P (stmts_from (are i)) (map V (is i)) H)
    ∙ ap (λ z. seq_of (V n H) z) (more (after_stmt P (stmt_of s) H) ∙ kept H)
    ∙ ap (λ ns. in_sequence (map V ns) H) (sym is)

pub unmoved_none : (P : Program) (V : ℕ → Value) (body : List CoreStmt) (numbers : List ℕ) → length body ≡ 0 → length body ≡ length numbers →
    (H : Held) → block_value P (stmts_from body) (map V numbers) H ≡ in_sequence (map V numbers) H
unmoved_none P V [] [] none same H = refl
unmoved_none P V [] (n ∷ numbers) none same H = absurd (omega (arith, same))
unmoved_none P V (s ∷ body) numbers none same H = absurd (omega (arith, none))
