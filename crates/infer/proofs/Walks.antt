-- The parts of a body: what inner parts mention, and the rule of a part over their effects.
use Rattle.std.proofs.Common.{◌≡◌, ℕ, true, false, List, [], ◌∷◌, ◌++◌, map, length, take, drop, append-nil, append_assoc, Some, None, refl, ap, subst, ◌∙◌}
use Rattle.std.specs.Prelude.{Contains}
use Rattle.std.proofs.Math.Seq.{drop-append_seam, take-append_seam}
use Rattle.std.proofs.lemmas.List.Elements.{Contains-append_left, Contains-append_right}
use Rattle.paths.specs.Paths.{PathData}
use Rattle.algebra.specs.declared.basic.Basic.{Basic}
use Rattle.algebra.specs.Basics.{seq_of}
use Rattle.algebra.specs.HeldPaths.{Held}
use Rattle.algebra.specs.Values.{Keeps}
use Rattle.core_program.specs.Core.{Program, Exprs, IntE, TruthE, NullE, ThisE, VarE, NotE, NegE, BinaryE, AndE, OrE, GetE, CallE, NewE, no_exprs, and_expr}
use Rattle.core_program.specs.Core.{Stmts, EmptyS, BlockS, LocalS, SetVarS, SetFieldS, DoS, IfS, WhileS, SyncS, ReturnS, PrintS, StartS, no_stmts, and_stmt}
use Rattle.rules.specs.Mentions.{Mention, Locks, expr_mentions, mentions, block_mentions}
use Rattle.rules.specs.Near.{Mentions, MethodPaths, AreRelevant, rel_of}
use Rattle.rules.specs.Effect.{Assignment, call_of, effect, block_effect}
use Rattle.rules.proofs.NearOnly.{contains_later}
use Rattle.effects.specs.Parts.{Part, ExprP, StmtP, parts_of, args_parts, block_parts}
use Rattle.effects.specs.Rules.{block_value_at, rule_in, AreAllKnown}
use Rattle.effects.specs.Effects.{part_effect, effects_of}
use Rattle.effects.proofs.Effects.{rule_is}
use Rattle.infer.specs.Bodies.{part_mentions, parts_mentions}
use Rattle.infer.specs.Names.{near_of, left_by}
use Rattle.infer.proofs.Locals.{rest_same}

args_mention : (es : Exprs) → parts_mentions (args_parts es) ≡ []
args_mention no_exprs = refl
args_mention (and_expr e es) = args_mention es

block_mention : (ss : Stmts) → parts_mentions (block_parts ss) ≡ block_mentions ss
block_mention no_stmts = refl
block_mention (and_stmt s ss) = ap (λ xs. mentions s ++ xs) (block_mention ss)

-- what is mentioned by nothing is mentioned by all
none_in : (xs : List Mention) (y : Mention) → Contains [] y → Contains xs y
none_in xs y has = Contains-append_left [] xs y has

-- what the parts of a part mention the part mentions
pub inner_in : (x : Part) (y : Mention) → Contains (parts_mentions (parts_of x)) y → Contains (part_mentions x) y
inner_in (ExprP (IntE n)) y has = has
inner_in (ExprP (TruthE b)) y has = has
inner_in (ExprP NullE) y has = has
inner_in (ExprP ThisE) y has = has
inner_in (ExprP (VarE x is_final ty)) y has = has
inner_in (ExprP (NotE e)) y has = has
inner_in (ExprP (NegE e)) y has = has
inner_in (ExprP (BinaryE op a b)) y has = has
inner_in (ExprP (AndE a b)) y has = has
inner_in (ExprP (OrE a b)) y has = has
inner_in (ExprP (GetE e f)) y has = has
inner_in (ExprP (CallE e m args)) y has = subst (λ xs. Contains xs y) (args_mention args) has
inner_in (ExprP (NewE c args)) y has = subst (λ xs. Contains xs y) (args_mention args) has
inner_in (StmtP EmptyS) y has = has
inner_in (StmtP (BlockS ss)) y has = subst (λ xs. Contains xs y) (block_mention ss) has
inner_in (StmtP (LocalS x true ty e)) y has = none_in (mentions (LocalS x true ty e)) y has
inner_in (StmtP (LocalS x false ty e)) y has = none_in (expr_mentions e) y has
inner_in (StmtP (SetVarS x e)) y has = none_in (expr_mentions e) y has
inner_in (StmtP (SetFieldS e f g)) y has = none_in (mentions (SetFieldS e f g)) y has
inner_in (StmtP (DoS e drops)) y has = none_in (expr_mentions e) y has
inner_in (StmtP (IfS c s t)) y has =
    Contains-append_right (expr_mentions c) (mentions s ++ mentions t) y (subst (λ xs. Contains (mentions s ++ xs) y) (append-nil (mentions t)) has)
inner_in (StmtP (WhileS c s)) y has = Contains-append_right (expr_mentions c) (mentions s) y (subst (λ xs. Contains xs y) (append-nil (mentions s)) has)
inner_in (StmtP (SyncS p s)) y has = contains_later (Locks p) y (mentions s) (subst (λ xs. Contains xs y) (append-nil (mentions s)) has)
inner_in (StmtP (ReturnS None)) y has = has
inner_in (StmtP (ReturnS (Some e))) y has = none_in (expr_mentions e) y has
inner_in (StmtP (PrintS e)) y has = none_in (expr_mentions e) y has
inner_in (StmtP (StartS e)) y has = none_in (expr_mentions e) y has

module _ (P : Program) (sets : List MethodPaths) (relevant : AreRelevant P sets) (A : Assignment) (m : ℕ) where
  -- the statements of a block, each at the set that the renaming leaves
  block_near : (ss : Stmts) (H : Held) → ((x : Mention) → Contains (block_mentions ss) x → Mentions P m x) →
      block_value_at (left_by P (near_of sets m)) ss (effects_of P (rel_of sets) A (block_parts ss)) H ≡ block_effect P (rel_of sets) A ss H
  block_near no_stmts H part = refl
  block_near (and_stmt s ss) H part =
      let later : (x : Mention) → Contains (block_mentions ss) x → Mentions P m x = λ x has. part x (Contains-append_right (mentions s) (block_mentions ss) x has) in
      let rest = block_near ss (left_by P (near_of sets m) s H) later ∙ rest_same P sets relevant A m s ss H later in
      λ i. seq_of (effect P (rel_of sets) A s H) (rest i)

  -- the rule of a part of the body over the effects of its parts is its effect
  pub near_is : (x : Part) (H : Held) → ((y : Mention) → Contains (part_mentions x) y → Mentions P m y) →
      rule_in P (call_of P (rel_of sets) A) (left_by P (near_of sets m)) x (effects_of P (rel_of sets) A (parts_of x)) H ≡ part_effect P (rel_of sets) A x H
  near_is (ExprP e) H part = rule_is P (rel_of sets) A (ExprP e) H
  near_is (StmtP EmptyS) H part = refl
  near_is (StmtP (BlockS ss)) H part = block_near ss H part
  near_is (StmtP (LocalS x is_final ty e)) H part = rule_is P (rel_of sets) A (StmtP (LocalS x is_final ty e)) H
  near_is (StmtP (SetVarS x e)) H part = rule_is P (rel_of sets) A (StmtP (SetVarS x e)) H
  near_is (StmtP (SetFieldS e f g)) H part = rule_is P (rel_of sets) A (StmtP (SetFieldS e f g)) H
  near_is (StmtP (DoS e drops)) H part = rule_is P (rel_of sets) A (StmtP (DoS e drops)) H
  near_is (StmtP (IfS c s t)) H part = rule_is P (rel_of sets) A (StmtP (IfS c s t)) H
  near_is (StmtP (WhileS c s)) H part = rule_is P (rel_of sets) A (StmtP (WhileS c s)) H
  near_is (StmtP (SyncS p s)) H part = rule_is P (rel_of sets) A (StmtP (SyncS p s)) H
  near_is (StmtP (ReturnS e)) H part = rule_is P (rel_of sets) A (StmtP (ReturnS e)) H
  near_is (StmtP (PrintS e)) H part = rule_is P (rel_of sets) A (StmtP (PrintS e)) H
  near_is (StmtP (StartS e)) H part = rule_is P (rel_of sets) A (StmtP (StartS e)) H

module _ {S A : Type 0} (k : S → A → Type 0) (v : S → A → Held → Basic) where
  -- what a store keeps, of the values of a list
  pub known_on : (old new : S) (xs : List A) → Keeps k v old new → AreAllKnown k old xs → AreAllKnown k new xs
  known_on old new [] keeps known = tt
  known_on old new (x ∷ xs) keeps known = (keeps.known x known.0, known_on old new xs keeps known.1)

  pub values_on : (old new : S) (xs : List A) → Keeps k v old new → AreAllKnown k old xs → map (v new) xs ≡ map (v old) xs
  values_on old new [] keeps known = refl
  values_on old new (x ∷ xs) keeps known =
      let first : v new x ≡ v old x = λ i H. keeps.same x known.0 H i in
      let rest = values_on old new xs keeps known.1 in
      λ i. first i ∷ rest i

  pub known_more : (s : S) (xs : List A) (x : A) → AreAllKnown k s xs → k s x → AreAllKnown k s (xs ++ x ∷ [])
  known_more s [] x known is = (is, tt)
  known_more s (y ∷ xs) x known is = (known.0, known_more s xs x known.1 is)

  map_more : (s : S) (xs : List A) (x : A) → map (v s) (xs ++ x ∷ []) ≡ map (v s) xs ++ v s x ∷ []
  map_more s [] x = refl
  map_more s (y ∷ xs) x = ap (λ vs. v s y ∷ vs) (map_more s xs x)

  -- one value more, and the effects that are left
  pub effects_more : (P : Program) (rel : ℕ → List PathData) (B : Assignment) (old new : S) (xs : List A) (value : A) (part : Part) (rest : List Part) (all : List (Held → Basic)) →
      Keeps k v old new → AreAllKnown k old xs → ((H : Held) → v new value H ≡ part_effect P rel B part H) →
      map (v old) xs ++ effects_of P rel B (part ∷ rest) ≡ all → map (v new) (xs ++ value ∷ []) ++ effects_of P rel B rest ≡ all
  effects_more P rel B old new xs value part rest all keeps known is so_far =
      let last : v new value ≡ part_effect P rel B part = λ i H. is H i in
      ap (λ vs. vs ++ effects_of P rel B rest) (map_more new xs value ∙ (λ i. values_on old new xs keeps known i ++ last i ∷ []))
      ∙ append_assoc (map (v old) xs) (part_effect P rel B part ∷ []) (effects_of P rel B rest) ∙ so_far

-- the values that were put behind others
pub behind_is : {A : Type 0} (old new more seen : List A) (from : ℕ) → from ≡ length old → new ≡ old ++ more → seen ≡ drop from new → seen ≡ more
behind_is old new more seen from from_is are is = is ∙ (λ i. drop (from_is i) (are i)) ∙ drop-append_seam old more

-- and the others alone
pub before_is : {A : Type 0} (old new more left : List A) (from : ℕ) → from ≡ length old → new ≡ old ++ more → left ≡ take from new → left ≡ old
before_is old new more left from from_is are is = is ∙ (λ i. take (from_is i) (are i)) ∙ take-append_seam old more

-- the rule's value, from values that are the effects of inner parts
pub part_is : (P : Program) (sets : List MethodPaths) (A : Assignment) (m : ℕ) (x : Part) (inner : List Part) (vs : List (Held → Basic)) (b : Basic) (H : Held) → AreRelevant P sets →
    ((y : Mention) → Contains (part_mentions x) y → Mentions P m y) → inner ≡ parts_of x → vs ≡ effects_of P (rel_of sets) A inner →
    b ≡ rule_in P (call_of P (rel_of sets) A) (left_by P (near_of sets m)) x vs H → b ≡ part_effect P (rel_of sets) A x H
part_is P sets A m x inner vs b H relevant body inner_is effects is =
    is ∙ ap (λ ws. rule_in P (call_of P (rel_of sets) A) (left_by P (near_of sets m)) x ws H) (effects ∙ ap (effects_of P (rel_of sets) A) inner_is) ∙ near_is P sets relevant A m x H body
