-- Where every conclusion is at or above its rule's value, the body's conclusion is at or above the body's effect; where every one is
-- exactly its rule's value, it is exactly the effect.
use Rattle.std.proofs.Common.{◌≡◌, ℕ, Bool, true, false, List, [], ◌∷◌, length, if◌then◌else◌, refl, subst, arith}
use Rattle.paths.specs.Paths.{PathData}
use Rattle.algebra.specs.declared.basic.Basic.{Basic}
use Rattle.algebra.specs.declared.basic.Basic.TheVariants.{Const, Mover, Atomic}
use Rattle.algebra.specs.Basics.{seq_of, join_of, star_of, lift_of}
use Rattle.algebra.specs.HeldPaths.{Held, with_path}
use Rattle.core_program.specs.Core.{Program, IntE, TruthE, NullE, ThisE, VarE, NotE, NegE, BinaryE, AndE, OrE, GetE, CallE, NewE}
use Rattle.core_program.specs.Core.{Stmts, EmptyS, BlockS, LocalS, SetVarS, SetFieldS, DoS, IfS, WhileS, SyncS, ReturnS, PrintS, StartS, no_stmts, and_stmt}
use Rattle.core_program.specs.Locks.{path_of}
use Rattle.rules.specs.Mentions.{paths_of}
use Rattle.rules.specs.Effect.{Assignment, access_of, call_of, after_stmt}
use Rattle.rules.specs.Rules.{AtMost}
use Rattle.rules.proofs.BasicLemmas.{below_itself, below_chain, seq_mono, join_mono, star_mono, lift_mono}
use Rattle.books.specs.Derivations.{Node, node, Nodes, no_nodes, and_node, conclusion_number, count_nodes}
use Rattle.effects.specs.Parts.{Part, ExprP, StmtP, parts_of}
use Rattle.book_check.specs.Parts.{places, places_of, FitsPart, Each}
use Rattle.effects.specs.Rules.{Value, in_sequence, choice_value, loop_value, lock_value, block_value, rule_of}
use Rattle.book_check.specs.Conclusions.{conclusions}
use Rattle.book_check.specs.Good.{IsStep}
use Rattle.effects.specs.Effects.{part_effect, effects_of}
use Rattle.effects.proofs.Effects.{rule_is}
use Rattle.book_check.proofs.Lists.{each_left, each_right}

-- each value is at most the other in its place
abbrev pub AllBelow : List Value → List Value → Type 0
AllBelow [] [] = Unit {0}
AllBelow [] (w ∷ ws) = ⊥
AllBelow (v ∷ vs) [] = ⊥
AllBelow (v ∷ vs) (w ∷ ws) = ((H : Held) → AtMost (v H) (w H)) × AllBelow vs ws

sequence_rises : (vs ws : List Value) → AllBelow vs ws → (H : Held) → AtMost (in_sequence vs H) (in_sequence ws H)
sequence_rises [] [] all H = below_itself Const
sequence_rises [] (w ∷ ws) all H = absurd all
sequence_rises (v ∷ vs) [] all H = absurd all
sequence_rises (v ∷ vs) (w ∷ ws) all H = seq_mono (v H) (w H) (in_sequence vs H) (in_sequence ws H) (all.0 H) (sequence_rises vs ws all.1 H)

then_rises : (vs ws : List Value) → AllBelow vs ws → (b : Basic) (H : Held) → AtMost (seq_of (in_sequence vs H) b) (seq_of (in_sequence ws H) b)
then_rises vs ws all b H = seq_mono (in_sequence vs H) (in_sequence ws H) b b (sequence_rises vs ws all H) (below_itself b)

choice_rises : (vs ws : List Value) → AllBelow vs ws → (H : Held) → AtMost (choice_value vs H) (choice_value ws H)
choice_rises [] [] all H = below_itself Const
choice_rises [] (w ∷ ws) all H = absurd all
choice_rises (v ∷ vs) [] all H = absurd all
choice_rises (v ∷ []) (w ∷ []) all H = below_itself Const
choice_rises (v ∷ []) (w ∷ w2 ∷ ws) all H = absurd all.1
choice_rises (v ∷ v2 ∷ vs) (w ∷ []) all H = absurd all.1
choice_rises (v ∷ v2 ∷ []) (w ∷ w2 ∷ []) all H = below_itself Const
choice_rises (v ∷ v2 ∷ []) (w ∷ w2 ∷ w3 ∷ ws) all H = absurd all.1.1
choice_rises (v ∷ v2 ∷ v3 ∷ vs) (w ∷ w2 ∷ []) all H = absurd all.1.1
choice_rises (v ∷ v2 ∷ v3 ∷ vs) (w ∷ w2 ∷ w3 ∷ ws) all H =
    seq_mono (v H) (w H) (join_of (v2 H) (v3 H)) (join_of (w2 H) (w3 H)) (all.0 H) (join_mono (v2 H) (w2 H) (v3 H) (w3 H) (all.1.0 H) (all.1.1.0 H))

loop_rises : (vs ws : List Value) → AllBelow vs ws → (H : Held) → AtMost (loop_value vs H) (loop_value ws H)
loop_rises [] [] all H = below_itself Const
loop_rises [] (w ∷ ws) all H = absurd all
loop_rises (v ∷ vs) [] all H = absurd all
loop_rises (v ∷ []) (w ∷ []) all H = below_itself Const
loop_rises (v ∷ []) (w ∷ w2 ∷ ws) all H = absurd all.1
loop_rises (v ∷ v2 ∷ vs) (w ∷ []) all H = absurd all.1
loop_rises (v ∷ v2 ∷ vs) (w ∷ w2 ∷ ws) all H =
    seq_mono (v H) (w H) (star_of (seq_of (v2 H) (v H))) (star_of (seq_of (w2 H) (w H))) (all.0 H)
    (star_mono (seq_of (v2 H) (v H)) (seq_of (w2 H) (w H)) (seq_mono (v2 H) (w2 H) (v H) (w H) (all.1.0 H) (all.0 H)))

lock_if : (held : Bool) (a b c d : Basic) → AtMost a c → AtMost b d → AtMost (if held then a else lift_of b) (if held then c else lift_of d)
lock_if true a b c d e f = e
lock_if false a b c d e f = lift_mono b d f

lock_rises : (p : PathData) (vs ws : List Value) → AllBelow vs ws → (H : Held) → AtMost (lock_value p vs H) (lock_value p ws H)
lock_rises p [] [] all H = below_itself Const
lock_rises p [] (w ∷ ws) all H = absurd all
lock_rises p (v ∷ vs) [] all H = absurd all
lock_rises p (v ∷ vs) (w ∷ ws) all H = lock_if (H p) (v H) (v (with_path p H)) (w H) (w (with_path p H)) (all.0 H) (all.0 (with_path p H))

block_rises : (P : Program) (ss : Stmts) (vs ws : List Value) → AllBelow vs ws → (H : Held) → AtMost (block_value P ss vs H) (block_value P ss ws H)
block_rises P no_stmts vs ws all H = below_itself Const
block_rises P (and_stmt s ss) [] [] all H = below_itself Const
block_rises P (and_stmt s ss) [] (w ∷ ws) all H = absurd all
block_rises P (and_stmt s ss) (v ∷ vs) [] all H = absurd all
block_rises P (and_stmt s ss) (v ∷ vs) (w ∷ ws) all H =
    seq_mono (v H) (w H) (block_value P ss vs (after_stmt P s H)) (block_value P ss ws (after_stmt P s H)) (all.0 H) (block_rises P ss vs ws all.1 (after_stmt P s H))

module _ (P : Program) (rel : ℕ → List PathData) (A : Assignment) where
  rule_rises : (x : Part) (vs ws : List Value) → AllBelow vs ws → (H : Held) → AtMost (rule_of P rel A x vs H) (rule_of P rel A x ws H)
  rule_rises (ExprP (IntE n)) vs ws all H = below_itself Const
  rule_rises (ExprP (TruthE b)) vs ws all H = below_itself Const
  rule_rises (ExprP NullE) vs ws all H = below_itself Const
  rule_rises (ExprP ThisE) vs ws all H = below_itself Const
  rule_rises (ExprP (VarE x is_final ty)) vs ws all H = below_itself _
  rule_rises (ExprP (NotE e)) vs ws all H = sequence_rises vs ws all H
  rule_rises (ExprP (NegE e)) vs ws all H = sequence_rises vs ws all H
  rule_rises (ExprP (BinaryE op a b)) vs ws all H = sequence_rises vs ws all H
  rule_rises (ExprP (AndE a b)) vs ws all H = sequence_rises vs ws all H
  rule_rises (ExprP (OrE a b)) vs ws all H = sequence_rises vs ws all H
  rule_rises (ExprP (GetE e f)) vs ws all H = then_rises vs ws all (access_of P false f (path_of P e) H) H
  rule_rises (ExprP (CallE e m args)) vs ws all H = then_rises vs ws all (call_of P rel A m (path_of P e) (paths_of P args) H) H
  rule_rises (ExprP (NewE c args)) vs ws all H = then_rises vs ws all Mover H
  rule_rises (StmtP EmptyS) vs ws all H = below_itself Const
  rule_rises (StmtP (BlockS ss)) vs ws all H = block_rises P ss vs ws all H
  rule_rises (StmtP (LocalS x is_final ty e)) vs ws all H = then_rises vs ws all Mover H
  rule_rises (StmtP (SetVarS x e)) vs ws all H = then_rises vs ws all Mover H
  rule_rises (StmtP (SetFieldS e f g)) vs ws all H = then_rises vs ws all (access_of P true f (path_of P e) H) H
  rule_rises (StmtP (DoS e drops)) vs ws all H = sequence_rises vs ws all H
  rule_rises (StmtP (IfS c s t)) vs ws all H = choice_rises vs ws all H
  rule_rises (StmtP (WhileS c s)) vs ws all H = loop_rises vs ws all H
  rule_rises (StmtP (SyncS p s)) vs ws all H = lock_rises p vs ws all H
  rule_rises (StmtP (ReturnS e)) vs ws all H = sequence_rises vs ws all H
  rule_rises (StmtP (PrintS e)) vs ws all H = then_rises vs ws all Atomic H
  rule_rises (StmtP (StartS e)) vs ws all H = then_rises vs ws all Atomic H

  module _ (V : ℕ → Value) where
    mutual
      -- where every conclusion is at or above its rule's value, it is at or above the effect
      pub above : (x : Part) (d : Node) → Each FitsPart (places x d) → Each (IsStep P rel V A) (places x d) → (H : Held) → AtMost (part_effect P rel A x H) (V (conclusion_number d) H)
      above x (node w n ds) fits steps H =
          let here : FitsPart (record { part = x; at = node w n ds }) = fits 0 (record { part = x; at = node w n ds }) refl in
          let all = all_above (parts_of x) ds here.count
          (each_right FitsPart (record { part = x; at = node w n ds } ∷ []) (places_of (parts_of x) ds) fits)
          (each_right (IsStep P rel V A) (record { part = x; at = node w n ds } ∷ []) (places_of (parts_of x) ds) steps) in
          below_chain (part_effect P rel A x H) (rule_of P rel A x (conclusions V ds) H) (V n H)
          (subst (λ z. AtMost z (rule_of P rel A x (conclusions V ds) H)) (rule_is P rel A x H) (rule_rises x (effects_of P rel A (parts_of x)) (conclusions V ds) all H))
          (steps 0 (record { part = x; at = node w n ds }) refl H)

      all_above : (xs : List Part) (ds : Nodes) → count_nodes ds ≡ length xs → Each FitsPart (places_of xs ds) → Each (IsStep P rel V A) (places_of xs ds) →
          AllBelow (effects_of P rel A xs) (conclusions V ds)
      all_above [] no_nodes count fits steps = tt
      all_above [] (and_node d ds) count fits steps = absurd (omega (arith, count))
      all_above (x ∷ xs) no_nodes count fits steps = absurd (omega (arith, count))
      all_above (x ∷ xs) (and_node d ds) count fits steps = (
        (λ H. above x d (each_left FitsPart (places x d) (places_of xs ds) fits) (each_left (IsStep P rel V A) (places x d) (places_of xs ds) steps) H),
        all_above xs ds (omega (arith, count)) (each_right FitsPart (places x d) (places_of xs ds) fits) (each_right (IsStep P rel V A) (places x d) (places_of xs ds) steps),
      )
