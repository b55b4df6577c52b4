-- Expressions: what evaluation gives stands on the operands after the steps of the thread.
use Rattle.std.proofs.Common.{◌≡◌, ℕ, ◌+◌, ◌≤◌, Bool, true, false, List, ◌∷◌, Some, refl, sym, subst, ◌∙◌}
use Rattle.std.specs.Prelude.{Option, length, slice_get, if◌then◌else◌}
use Rattle.base.proofs.NumberLemmas.{one_and}
use Rattle.core_program.specs.declared.types.UnaryOp.TheVariants.{Not, Neg}
use Rattle.core_program.specs.Core.{Program, Expr, Exprs, IntE, TruthE, NullE, ThisE, VarE, NotE, NegE, BinaryE, AndE, OrE, GetE, CallE, NewE, no_exprs, and_expr}
use Rattle.state.specs.declared.value.Value.{Value}
use Rattle.state.specs.declared.value.Value.TheVariants as value
use Rattle.state.specs.Values.{as_truth, address_of, unary_value, binary_value}
use Rattle.state.specs.Work as W
use Rattle.state.specs.Work.{Action, Item, Ex, Act, exprs_items, unfolded}
use Rattle.state.specs.States.{Frame}
use Rattle.semantics.specs.Step as S
use Rattle.semantics.specs.Step.{seen_by, has_result, act}
use Rattle.reduction.specs.Fits.{argument_count, valued, TidyE, TidyEach}
use Rattle.replay.specs.Plain.{Plain}
use Rattle.replay.specs.Answers.{Gives, then_do}
use Rattle.replay.specs.Evaluation as E
use Rattle.replay.specs.Evaluation.{Lower, most_depth, computed, read_field, make}
use Rattle.replay.proofs.Comes.{Local, Own, Comes, After, chain, frame, at}
use Rattle.replay.proofs.Leaves.{pushed, ShortOk, DeepOk, Leads, Push, acts, acts_or, load_leads, binary_leads, get_leads, new_leads}
use Rattle.replay.proofs.Calling.{FuelOk, call_comes}
use Rattle.replay.proofs.Neat.{IsNeat}

-- a `new` opens into its arguments and then its own action
new_unfolds : (c : ℕ) (args : Exprs) (rest : List Item) → unfolded (Ex (NewE c args) ∷ rest) ≡ unfolded (exprs_items args (Act (W.New c) ∷ rest))
new_unfolds c no_exprs rest = refl
new_unfolds c (and_expr e es) rest = refl

module _ (P : Program) (t m0 : ℕ) (base : List Frame) (Goal : Local → Type 0) (neat : IsNeat P) where
  module _ (m : ℕ) (below : List Frame) (d : ℕ) (few : d ≤ most_depth) (tower : (f : Frame) → f.method ≡ m → Own m0 base d (f ∷ below)) where
    module _ (n : ℕ) (lower : Option Lower) (ok : FuelOk P t m0 base Goal n lower) (slots : List Value) where
      abbrev S0 : Type 0
      S0 = ShortOk P t m0 base Goal

      abbrev D0 : Type 0
      D0 = DeepOk P t m0 base Goal

      -- what follows a value, or none
      abbrev Next : List Value → List Item → Bool → Value → Plain → Type 0
      Next ops rest b = Push P t m0 base Goal n m below slots ops rest b

      -- what follows the values of arguments
      abbrev NextEach : ℕ → List Value → List Item → List Value → Plain → Type 0
      NextEach count ops rest vs q = length vs ≡ count → (w : List Item) → unfolded w ≡ unfolded rest → Comes P t m0 base Goal n (at m below slots (pushed vs ops) w q)

      -- where evaluation gives a value, or the value of a part that has one, what follows it is enough
      abbrev pub Sim : Expr → Type 0
      Sim e = (ops : List Value) (rest w : List Item) (p : Plain) → unfolded w ≡ unfolded (Ex e ∷ rest)
          → After S0 D0 (Next ops rest (valued P e)) (E.expr P t lower d slots e p) → Comes P t m0 base Goal n (at m below slots ops w p)

      abbrev pub SimValue : Expr → Type 0
      SimValue e = (ops : List Value) (rest w : List Item) (p : Plain) → unfolded w ≡ unfolded (Ex e ∷ rest)
          → After S0 D0 (Next ops rest true) (E.expr P t lower d slots e p) → Comes P t m0 base Goal n (at m below slots ops w p)

      abbrev SimEach : Exprs → Type 0
      SimEach es = (ops : List Value) (rest w : List Item) (p : Plain) → unfolded w ≡ unfolded (exprs_items es rest)
          → After S0 D0 (NextEach (argument_count es) ops rest) (E.exprs P t lower d slots es p) → Comes P t m0 base Goal n (at m below slots ops w p)

      pub value_of : (e : Expr) → valued P e ≡ true → Sim e → SimValue e
      value_of e g sim ops rest w p is k = sim ops rest w p is (subst (λ b. After S0 D0 (Next ops rest b) (E.expr P t lower d slots e p)) (sym g) k)

      go : (ops : List Value) (w rest : List Item) (a : Action) (p : Plain) → unfolded w ≡ Some (a, rest)
          → Leads P t m0 base Goal n p (act P (seen_by t p) t (frame m slots ops w) below rest a) → Comes P t m0 base Goal n (at m below slots ops w p)
      go ops w rest a p e k = acts P t m0 base Goal m below d few tower n slots ops w rest a p e k

      -- `&&` and `||` after their first part
      and_leads : (v : Value) (b : Expr) (ops : List Value) (rest w : List Item) (p : Plain) (yes_no : Bool) → SimValue b
          → After S0 D0 (Next ops rest true) (if yes_no then E.expr P t lower d slots b p else Gives (value.Truth false) p)
          → Leads P t m0 base Goal n p (S.and_then P (seen_by t p) t (frame m slots (v ∷ ops) w) below rest b yes_no)
      and_leads v b ops rest w p true sim k = sim ops rest (Ex b ∷ rest) p refl k
      and_leads v b ops rest w p false sim k = k rest refl

      or_leads : (v : Value) (b : Expr) (ops : List Value) (rest w : List Item) (p : Plain) (yes_no : Bool) → SimValue b
          → After S0 D0 (Next ops rest true) (if yes_no then Gives (value.Truth true) p else E.expr P t lower d slots b p)
          → Leads P t m0 base Goal n p (S.or_else P (seen_by t p) t (frame m slots (v ∷ ops) w) below rest b yes_no)
      or_leads v b ops rest w p true sim k = k rest refl
      or_leads v b ops rest w p false sim k = sim ops rest (Ex b ∷ rest) p refl k

      mutual
        pub sim : (e : Expr) → TidyE P e → Sim e
        sim (IntE v) tidy ops rest w p is k = go ops w rest (W.Push (value.Int v)) p is (k rest refl)
        sim (TruthE v) tidy ops rest w p is k = go ops w rest (W.Push (value.Truth v)) p is (k rest refl)
        sim NullE tidy ops rest w p is k = go ops w rest (W.Push value.Null) p is (k rest refl)
        sim ThisE tidy ops rest w p is k = go ops w rest (W.Load 0) p is (load_leads P t m0 base Goal m below d few tower n slots w rest p ops (slice_get slots 0) k)
        sim (VarE x is_final ty) tidy ops rest w p is k = go ops w rest (W.Load x) p is (load_leads P t m0 base Goal m below d few tower n slots w rest p ops (slice_get slots x) k)
        sim (NotE e) (g, inner) ops rest w p is k = value_of e g (sim e inner) ops (Act (W.Unary Not) ∷ rest) w p is
            (chain S0 D0 (Next ops rest true) (Next ops (Act (W.Unary Not) ∷ rest) true) (E.expr P t lower d slots e p) (λ v r. Gives (unary_value Not v) r)
            (λ v q h w2 is2. go (v ∷ ops) w2 rest (W.Unary Not) q is2 (h rest refl)) k)
        sim (NegE e) (g, inner) ops rest w p is k = value_of e g (sim e inner) ops (Act (W.Unary Neg) ∷ rest) w p is
            (chain S0 D0 (Next ops rest true) (Next ops (Act (W.Unary Neg) ∷ rest) true) (E.expr P t lower d slots e p) (λ v r. Gives (unary_value Neg v) r)
            (λ v q h w2 is2. go (v ∷ ops) w2 rest (W.Unary Neg) q is2 (h rest refl)) k)
        sim (BinaryE op a b) (ga, ta, gb, tb) ops rest w p is k = value_of a ga (sim a ta) ops (Ex b ∷ Act (W.Binary op) ∷ rest) w p is
            (chain S0 D0 (Next ops rest true) (Next ops (Ex b ∷ Act (W.Binary op) ∷ rest) true) (E.expr P t lower d slots a p) (λ v r. then_do (E.expr P t lower d slots b r) (λ u s. computed (binary_value op v u) s))
            (λ v q h w2 is2. value_of b gb (sim b tb) (v ∷ ops) (Act (W.Binary op) ∷ rest) w2 q is2
            (chain S0 D0 (Next ops rest true) (Next (v ∷ ops) (Act (W.Binary op) ∷ rest) true) (E.expr P t lower d slots b q) (λ u s. computed (binary_value op v u) s)
            (λ u z g w3 is3. go (u ∷ v ∷ ops) w3 rest (W.Binary op) z is3 (binary_leads P t m0 base Goal m below d few tower n slots w3 rest z v u ops (binary_value op v u) g)) h)) k)
        sim (AndE a b) (ga, ta, gb, tb, path) ops rest w p is k = value_of a ga (sim a ta) ops (Act (W.AndThen b) ∷ rest) w p is
            (chain S0 D0 (Next ops rest true) (Next ops (Act (W.AndThen b) ∷ rest) true) (E.expr P t lower d slots a p) (λ v r. if as_truth v then E.expr P t lower d slots b r else Gives (value.Truth false) r)
            (λ v q h w2 is2. go (v ∷ ops) w2 rest (W.AndThen b) q is2 (and_leads v b ops rest w2 q (as_truth v) (value_of b gb (sim b tb)) h)) k)
        sim (OrE a b) (ga, ta, gb, tb, path) ops rest w p is k = value_of a ga (sim a ta) ops (Act (W.OrElse b) ∷ rest) w p is
            (chain S0 D0 (Next ops rest true) (Next ops (Act (W.OrElse b) ∷ rest) true) (E.expr P t lower d slots a p) (λ v r. if as_truth v then Gives (value.Truth true) r else E.expr P t lower d slots b r)
            (λ v q h w2 is2. go (v ∷ ops) w2 rest (W.OrElse b) q is2 (or_leads v b ops rest w2 q (as_truth v) (value_of b gb (sim b tb)) h)) k)
        sim (GetE e f) (g, inner) ops rest w p is k = value_of e g (sim e inner) ops (Act (W.Get f) ∷ rest) w p is
            (chain S0 D0 (Next ops rest true) (Next ops (Act (W.Get f) ∷ rest) true) (E.expr P t lower d slots e p) (λ v r. read_field P f (address_of v) r)
            (λ v q h w2 is2. go (v ∷ ops) w2 rest (W.Get f) q is2 (get_leads P t m0 base Goal m below d few tower n slots w2 rest q f v ops (address_of v) h)) k)
        sim (CallE e m2 args) (g, inner, each, count) ops rest w p is k = value_of e g (sim e inner) ops (exprs_items args (Act (W.Call m2) ∷ rest)) w p is
            (chain S0 D0 (Next ops rest (has_result (slice_get P.methods m2))) (Next ops (exprs_items args (Act (W.Call m2) ∷ rest)) true) (E.expr P t lower d slots e p)
            (λ on r. then_do (E.exprs P t lower d slots args r) (λ vs s. E.call_method P t lower d m2 (slice_get P.methods m2) (address_of on) vs s))
            (λ on q h w2 is2. sims args each (on ∷ ops) (Act (W.Call m2) ∷ rest) w2 q is2
            (chain S0 D0 (Next ops rest (has_result (slice_get P.methods m2))) (NextEach (argument_count args) (on ∷ ops) (Act (W.Call m2) ∷ rest)) (E.exprs P t lower d slots args q)
            (λ vs s. E.call_method P t lower d m2 (slice_get P.methods m2) (address_of on) vs s)
            (λ vs z g2 as_many w3 is3. call_comes P t m0 base Goal neat m below d few tower n lower ok slots ops vs on w3 rest z m2 (count ∙ sym as_many) is3 g2) h)) k)
        sim (NewE c args) (each, count) ops rest w p is k = sims args each ops (Act (W.New c) ∷ rest) w p (is ∙ new_unfolds c args rest)
            (chain S0 D0 (Next ops rest true) (NextEach (argument_count args) ops (Act (W.New c) ∷ rest)) (E.exprs P t lower d slots args p) (λ vs r. make P t c (slice_get P.classes c) vs r)
            (λ vs q h as_many w2 is2. acts_or P t m0 base Goal m below d few tower n slots (pushed vs ops) w2 rest (W.New c) q is2
            (new_leads P t m0 base Goal m below d few tower n slots w2 rest q c vs ops (slice_get P.classes c) (count ∙ sym as_many) h)) k)

        sims : (es : Exprs) → TidyEach P es → SimEach es
        sims no_exprs tidy ops rest w p is k = k refl w is
        sims (and_expr e es) (g, inner, each) ops rest w p is k = value_of e g (sim e inner) ops (exprs_items es rest) w p is
            (chain S0 D0 (NextEach (1 + argument_count es) ops rest) (Next ops (exprs_items es rest) true) (E.expr P t lower d slots e p)
            (λ v r. then_do (E.exprs P t lower d slots es r) (λ vs s. Gives (v ∷ vs) s))
            (λ v q h w2 is2. sims es each (v ∷ ops) rest w2 q is2
            (chain S0 D0 (NextEach (1 + argument_count es) ops rest) (NextEach (argument_count es) (v ∷ ops) rest) (E.exprs P t lower d slots es q) (λ vs s. Gives (v ∷ vs) s)
            (λ vs z g2 as_many w3 is3. g2 (one_and (length vs) (argument_count es) as_many) w3 is3) h)) k)
