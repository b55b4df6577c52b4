-- From what a walk found to an explanation.
use Rattle.std.proofs.Common.{◌≡◌, ℕ, zero, suc, ◌+◌, ◌<◌, ◌≤◌, Bool, true, false, List, [], ◌∷◌, ◌++◌, Option, Some, None, IsSome, length, drop, get_or, refl, sym, ap, not, ◌∙◌, subst, if◌then◌else◌}
use Rattle.std.specs.Prelude.{filter, slice_get, option_map}
use Rattle.std.proofs.Math.ListN.{drop_of_length-le}
use Rattle.std.proofs.lemmas.List.{drop-map}
use Rattle.std.proofs.lemmas.Option.{slice_get-map, slice_get_read}
use Rattle.paths.specs.Paths.{PathData}
use Rattle.algebra.specs.declared.basic.Basic.{Basic}
use Rattle.algebra.specs.declared.basic.Basic.TheVariants.{Const, Mover, Atomic, Cmpd, Error}
use Rattle.algebra.specs.Basics.{below_of}
use Rattle.algebra.specs.HeldPaths.{Held, has_path}
use Rattle.core_program.specs.Core.{Program, Method, Expr, Stmt, GetE}
use Rattle.core_program.specs.Core.{EmptyS, BlockS, LocalS, SetVarS, SetFieldS, DoS, IfS, WhileS, SyncS, ReturnS, PrintS, StartS}
use Rattle.effects.specs.Parts.{ExprP, StmtP}
use Rattle.base.proofs.Lists.{next_drop}
use Rattle.rules.specs.declared.guard.Guard.{Guard}
use Rattle.rules.specs.declared.guard.Guard.TheVariants.{Final, Free, Named, Unnamed, WriteNamed, WriteUnnamed}
use Rattle.rules.specs.Effect.{Assignment, access_effect, effect, variable_effect}
use Rattle.rules.specs.Guards.{guard_of}
use Rattle.core_program.specs.Locks.{path_of}
use Rattle.rules.specs.Rules.{held_in}
use Rattle.explain.specs.PartEffects.{own_of, lock_effect}
use Rattle.explain.specs.StepReadings.{first_where, is_cmpd, is_error, own_at}
use Rattle.explain.specs.Steps.{stmt_steps}
use Rattle.explain.specs.Visits.{Visit, stmt_visits}
use Rattle.explain.specs.declared.found.Found.{Found}
use Rattle.explain.specs.declared.found.Visited.{Visited}
use Rattle.explain.specs.Basics.{stmt_basics}
use Rattle.explain.specs.Explaining.{body_why, is_call_of_method, compound_or, first_wrong, is_error_of_part, looped_or, only_step_why, over_of, steps_of, steps_why, why_of, with_first, wrong_of, wrong_or}
use Rattle.explain.specs.Views.{errors_in, heavy_in, is_heavy, part_of_walk, visit_of, visits_of}
use Rattle.explain.specs.Walked.{WalkedStmt}
use Rattle.explain.specs.Whys.{WhyData, Wrong, Compound, Two, Overridden, Nothing}
use Rattle.explain.proofs.WalkedStatements.{at_stmt}

-- ---- the first visit that passes a test

module _ (test : Visit → Bool) where
  -- those before a place don't pass
  abbrev pub Left : List Visited → ℕ → Type 0
  Left vs k = first_where test (visits_of (drop k vs)) ≡ first_where test (visits_of vs)

  pub first_here : (vs : List Visited) (k : ℕ) (v : Visited) → k < length vs → v ≡ get_or vs k v → Left vs k → test (visit_of v) ≡ true → first_where test (visits_of vs) ≡ Some (visit_of v)
  first_here vs k v below is left passes =
      sym left ∙ ap (λ l. first_where test (visits_of l)) (next_drop vs k v below is)
      ∙ ap (λ (b : Bool). if b then Some (visit_of v) else first_where test (visits_of (drop (k + 1) vs))) passes

  pub place_here : (vs : List Visited) (k : ℕ) (v : Visited) → k < length vs → v ≡ get_or vs k v → Left vs k → test (visit_of v) ≡ true
      → IsSome (first_where test (visits_of vs)) × (slice_get (visits_of vs) k ≡ first_where test (visits_of vs))
  place_here vs k v below is left passes =
      let here = first_here vs k v below is left passes in
      (subst IsSome (sym here) refl, slice_get-map visit_of vs k ∙ ap (option_map visit_of) (slice_get_read vs (length vs) k v refl below is) ∙ sym here)

  pub first_later : (vs : List Visited) (k : ℕ) (v : Visited) → k < length vs → v ≡ get_or vs k v → Left vs k → test (visit_of v) ≡ false → Left vs (k + 1)
  first_later vs k v below is left fails =
      sym (ap (λ l. first_where test (visits_of l)) (next_drop vs k v below is)
      ∙ ap (λ (b : Bool). if b then Some (visit_of v) else first_where test (visits_of (drop (k + 1) vs))) fails) ∙ left

  pub first_nowhere : (vs : List Visited) (k : ℕ) → length vs ≤ k → Left vs k → first_where test (visits_of vs) ≡ None
  first_nowhere vs k past left = sym left ∙ ap (λ l. first_where test (visits_of l)) (drop_of_length-le vs past)

-- ---- a step alone

-- a compound step that is alone, whether or not it calls the method itself
alone : (v : Visit) (test : Bool) → compound_or (if test then Some v else None) None (v ∷ []) ≡ Compound v
alone v true = refl
alone v false = refl

only_step : (self : ℕ) (v : Visit) (compound : Bool)
    → (if compound then Compound v else looped_or v v.loop Nothing) ≡ steps_why self compound (if not compound then v ∷ [] else []) (if compound then v ∷ [] else [])
only_step self v true = sym (alone v (not (is_call_of_method self v.part)))
only_step self v false = refl

-- why a body with these steps, which are one, is compound
pub only_steps : (P : Program) (rel : ℕ → List PathData) (A : Assignment) (self : ℕ) (vs : List Visited) (v : Visited) → vs ≡ v ∷ []
    → only_step_why P rel A (visit_of v) ≡ steps_of P rel A self (visits_of vs)
only_steps P rel A self vs v is = only_step self (visit_of v) (is_cmpd (own_at P rel A (visit_of v))) ∙ sym (ap (λ l. steps_of P rel A self (visits_of l)) is)

-- ---- errors

-- the rest from a place on, where an item stands there
seen_rest : (vs : List Visited) (k : ℕ) (v : Visited) → k < length vs → v ≡ get_or vs k v → drop k (visits_of vs) ≡ visit_of v ∷ visits_of (drop (k + 1) vs)
seen_rest vs k v below is = drop-map visit_of k vs ∙ ap visits_of (next_drop vs k v below is)

module _ (P : Program) (rel : ℕ → List PathData) where
  pub own_found : (vs : List Visited) (k : ℕ) (v : Visited) → k < length vs → v ≡ get_or vs k v → Left (λ w. is_error_of_part P rel w.part w.held) vs k
      → is_error_of_part P rel (part_of_walk v.part) (has_path v.held.items) ≡ true → first_wrong (drop k (visits_of vs)) ≡ wrong_of P rel (visits_of vs)
  own_found vs k v below is left own =
      ap first_wrong (seen_rest vs k v below is)
      ∙ sym (ap (λ o. wrong_or o (visits_of vs)) (first_here (λ w. is_error_of_part P rel w.part w.held) vs k v below is left own))

  pub own_nowhere : (vs : List Visited) (k : ℕ) → length vs ≤ k → Left (λ w. is_error_of_part P rel w.part w.held) vs k → first_wrong (visits_of vs) ≡ wrong_of P rel (visits_of vs)
  own_nowhere vs k past left = sym (ap (λ o. wrong_or o (visits_of vs)) (first_nowhere (λ w. is_error_of_part P rel w.part w.held) vs k past left))

-- an error, if there is one
abbrev pub wrong_at : Option Visit → WhyData
wrong_at None = Nothing
wrong_at (Some v) = Wrong v

first_at : (vs : List Visit) (n : ℕ) → first_wrong (drop n vs) ≡ wrong_at (slice_get vs n)
first_at [] zero = refl
first_at [] (suc n) = refl
first_at (v ∷ vs) zero = refl
first_at (v ∷ vs) (suc n) = first_at vs n

pub wrong_taken : (vs : List Visit) (n : ℕ) (o : Option Visited) (w : WhyData) → option_map visit_of o ≡ slice_get vs n → first_wrong (drop n vs) ≡ w → wrong_at (option_map visit_of o) ≡ w
wrong_taken vs n o w is found = ap wrong_at is ∙ sym (first_at vs n) ∙ found

-- of the parts that can't be moved the errors are those of all
wrong_or_not : (b : Basic) (v : Visit) (vs ws : List Visit) → vs ≡ ws
    → (if is_heavy b then (if is_error b then v ∷ vs else vs) else vs) ≡ (if is_error b then v ∷ ws else ws)
wrong_or_not Const v vs ws e = e
wrong_or_not Mover v vs ws e = e
wrong_or_not Atomic v vs ws e = e
wrong_or_not Cmpd v vs ws e = e
wrong_or_not Error v vs ws e = ap (λ l. v ∷ l) e

-- a filter of a list of which the first item is there or not
one_more : (test : Visit → Bool) (t : Bool) (v : Visit) (vs : List Visit) → filter test (if t then v ∷ vs else vs) ≡ (if t then (if test v then v ∷ filter test vs else filter test vs) else filter test vs)
one_more test true v vs = refl
one_more test false v vs = refl

pub heavy_errors : (P : Program) (rel : ℕ → List PathData) (A : Assignment) (vs : List Visit) → errors_in P rel A (heavy_in P rel A vs) ≡ errors_in P rel A vs
heavy_errors P rel A [] = refl
heavy_errors P rel A (v ∷ vs) =
    one_more (λ w. is_error (own_at P rel A w)) (is_heavy (own_at P rel A v)) v (heavy_in P rel A vs)
    ∙ wrong_or_not (own_at P rel A v) v (errors_in P rel A (heavy_in P rel A vs)) (errors_in P rel A vs) (heavy_errors P rel A vs)

-- a body that is more than the limit has the reason that is found in a walk
pub more_why : (P : Program) (rel : ℕ → List PathData) (A : Assignment) (overs : List ℕ) (self : ℕ) (method : Method) (limit b : Basic) (heavy steps : List Visit)
    → b ≡ effect P rel A method.body (has_path method.requires_) → heavy ≡ heavy_in P rel A (stmt_visits P method.body 0 (has_path method.requires_) None)
    → steps ≡ stmt_steps P rel A method.body 0 (has_path method.requires_) None → below_of b limit ≡ false
    → body_why P rel A self b (errors_in P rel A heavy) steps ≡ why_of P rel A overs self method limit
more_why P rel A overs self method limit b heavy steps b_is heavy_is steps_are above =
    let H = has_path method.requires_ in
    let visits = stmt_visits P method.body 0 H None in
    let errors = ap (errors_in P rel A) heavy_is ∙ heavy_errors P rel A visits in
    (λ i. body_why P rel A self (b_is i) (errors i) (steps_are i))
    ∙ sym (ap (λ (t : Bool). if t then over_of rel A limit overs H else body_why P rel A self (effect P rel A method.body H) (errors_in P rel A visits) (stmt_steps P rel A method.body 0 H None))
    (sym (ap (λ z. below_of z limit) b_is) ∙ above))

-- ---- compound steps

pub some_compound : (o : Option Visit) (v : Option Visit) (vs : List Visit) → IsSome o → compound_or o None [] ≡ compound_or o v vs
some_compound None v vs some = absurd (let no : false ≡ true = some in cc)
some_compound (Some c) v vs some = refl

pub two_seen : (first : Visit) (second : Visit) (vs : List Visit) → Some second ≡ slice_get vs 0 → Two first second ≡ with_first (Some first) vs
two_seen first second [] is = absurd cc
two_seen first second (c ∷ cs) is = let same : second ≡ c = cc in ap (Two first) same

pub one_seen : (second : Visit) (vs : List Visit) → Some second ≡ slice_get vs 0 → Compound second ≡ with_first None vs
one_seen second [] is = absurd cc
one_seen second (c ∷ cs) is = let same : second ≡ c = cc in ap Compound same

pub none_seen : (v : Option Visit) (vs : List Visit) → None ≡ slice_get vs 0 → Nothing ≡ with_first v vs
none_seen v [] is = refl
none_seen v (c ∷ cs) is = absurd cc

-- only calls are compound by themselves
never_access : (writes : Bool) (guard : Guard) (H : Held) → is_cmpd (access_effect writes guard H) ≡ false
never_access writes Final H = refl
never_access writes Free H = refl
never_access writes (Named p) H = elim (H p) as (λ b. is_cmpd (if b then Mover else Error) ≡ false) [ true ↦ refl | false ↦ refl ]
never_access writes Unnamed H = refl
never_access true (WriteNamed p) H = elim (H p) as (λ b. is_cmpd (if b then Atomic else Error) ≡ false) [ true ↦ refl | false ↦ refl ]
never_access false (WriteNamed p) H = elim (H p) as (λ b. is_cmpd (if b then Mover else Atomic) ≡ false) [ true ↦ refl | false ↦ refl ]
never_access true WriteUnnamed H = refl
never_access false WriteUnnamed H = refl

never_lock : (b : Bool) → is_cmpd (lock_effect b) ≡ false
never_lock true = refl
never_lock false = refl

never_variable : (b : Bool) → is_cmpd (variable_effect b) ≡ false
never_variable true = refl
never_variable false = refl

module _ (P : Program) (rel : ℕ → List PathData) (A : Assignment) where
  pub stmt_never : (s : Stmt) (H : Held) → is_cmpd (own_of P rel A (StmtP s) H) ≡ false
  stmt_never EmptyS H = refl
  stmt_never (BlockS ss) H = refl
  stmt_never (LocalS x is_final ty e) H = refl
  stmt_never (SetVarS x e) H = refl
  stmt_never (SetFieldS e f g) H = never_access true (guard_of P f (path_of P e)) H
  stmt_never (DoS e drops) H = refl
  stmt_never (IfS c s t) H = refl
  stmt_never (WhileS c s) H = refl
  stmt_never (SyncS p s) H = never_lock (H p)
  stmt_never (ReturnS value) H = refl
  stmt_never (PrintS e) H = refl
  stmt_never (StartS e) H = refl

  pub get_never : (e : Expr) (f : ℕ) (H : Held) → is_cmpd (own_of P rel A (ExprP (GetE e f)) H) ≡ false
  get_never e f H = never_access false (guard_of P f (path_of P e)) H

  pub variable_never : (x : ℕ) (is_final : Bool) (H : Held) → is_cmpd (variable_effect is_final) ≡ false
  variable_never x is_final H = never_variable is_final

-- ---- overriding methods

module _ (rel : ℕ → List PathData) (A : Assignment) (limit : Basic) (ms : List ℕ) (H : Held) where
  pub over_here : (i m : ℕ) (own : Basic) → i < length ms → m ≡ get_or ms i m → own ≡ A m (held_in (rel m) H) → below_of own limit ≡ false
      → over_of rel A limit (drop i ms) H ≡ over_of rel A limit ms H → Overridden m own ≡ over_of rel A limit ms H
  over_here i m own below is own_is more left =
      ap (Overridden m) own_is
      ∙ sym (ap (λ l. over_of rel A limit l H) (next_drop ms i m below is)
      ∙ ap (λ (b : Bool). if b then over_of rel A limit (drop (i + 1) ms) H else Overridden m (A m (held_in (rel m) H))) (sym (ap (λ b. below_of b limit) own_is) ∙ more))
      ∙ left

  pub over_later : (i m : ℕ) (own : Basic) → i < length ms → m ≡ get_or ms i m → own ≡ A m (held_in (rel m) H) → below_of own limit ≡ true
      → over_of rel A limit (drop i ms) H ≡ over_of rel A limit ms H → over_of rel A limit (drop (i + 1) ms) H ≡ over_of rel A limit ms H
  over_later i m own below is own_is low left =
      sym (ap (λ l. over_of rel A limit l H) (next_drop ms i m below is)
      ∙ ap (λ (b : Bool). if b then over_of rel A limit (drop (i + 1) ms) H else Overridden m (A m (held_in (rel m) H))) (sym (ap (λ b. below_of b limit) own_is) ∙ low))
      ∙ left

  pub over_nowhere : (i : ℕ) → length ms ≤ i → over_of rel A limit (drop i ms) H ≡ over_of rel A limit ms H → Nothing ≡ over_of rel A limit ms H
  over_nowhere i past left = sym (ap (λ l. over_of rel A limit l H) (drop_of_length-le ms past)) ∙ left

-- ---- a walk that begins with nothing

module _ (P : Program) (rel : ℕ → List PathData) (A : Assignment) where
  pub record Began (s : Stmt) (H : Held) (given : Basic) (new : Found) : Type 0 where
    pub effect_is : given ≡ effect P rel A s H
    pub basics_are : new.basics.items ≡ stmt_basics P rel A s H
    pub steps_are : visits_of new.steps.items ≡ stmt_steps P rel A s 0 H None
    pub heavy_are : visits_of new.heavy.items ≡ heavy_in P rel A (stmt_visits P s 0 H None)

  pub began : (s : Stmt) (H : Held) (old : Found) (given : Basic) (new : Found) → old.basics.items ≡ [] → old.steps.items ≡ [] → old.heavy.items ≡ []
      → WalkedStmt P rel A s H None old given new → Began s H given new
  began s H old given new none no_steps no_heavy w =
      let at = at_stmt P rel A s H None 0 (ap length none) w in
      record {
        effect_is = at.effect_is;
        basics_are = at.basics_are ∙ ap (λ l. l ++ stmt_basics P rel A s H) none;
        steps_are = at.steps_are ∙ ap (λ l. visits_of l ++ stmt_steps P rel A s 0 H None) no_steps;
        heavy_are = at.heavy_are ∙ ap (λ l. visits_of l ++ heavy_in P rel A (stmt_visits P s 0 H None)) no_heavy;
      }
