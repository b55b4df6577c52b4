-- Unfolding keeps how often each lock is released.
use Rattle.std.proofs.Common.{◌≡◌, ℕ, ◌+◌, Bool, true, false, List, [], ◌∷◌, Some, None, refl, sym, ap, ◌∙◌}
use Rattle.std.specs.Prelude.{Option, if◌then◌else◌}
use Rattle.core_program.specs.Core.{Expr, Exprs, IntE, TruthE, NullE, ThisE, VarE, NotE, NegE, BinaryE, AndE, OrE, GetE, CallE, NewE, no_exprs, and_expr}
use Rattle.core_program.specs.Core.{Stmt, Stmts, EmptyS, BlockS, LocalS, SetVarS, SetFieldS, DoS, IfS, WhileS, SyncS, ReturnS, PrintS, StartS, no_stmts, and_stmt}
use Rattle.state.specs.declared.value.Address.{Address}
use Rattle.state.specs.Values.{address_eq}
use Rattle.state.specs.Work as W
use Rattle.state.specs.Work.{Action, Item, Ex, St, Act, Next, exprs_items, stmts_items, gets, open_expr, open_new, open_stmt, open_block, opened, first_release, open_return, settled, settled_some, unfolded}
use Rattle.reduction.specs.Phases.{Phase}
use Rattle.reduction.specs.Fits.{count_release, return_phase}

module _ (a : Address) where
  exprs_count : (es : Exprs) (more : List Item) → count_release a (exprs_items es more) ≡ count_release a more
  exprs_count no_exprs more = refl
  exprs_count (and_expr e es) more = exprs_count es more

  stmts_count : (ss : Stmts) (more : List Item) → count_release a (stmts_items ss more) ≡ count_release a more
  stmts_count no_stmts more = refl
  stmts_count (and_stmt s ss) more = stmts_count ss more

  gets_count : (fs : List ℕ) (more : List Item) → count_release a (gets fs more) ≡ count_release a more
  gets_count [] more = refl
  gets_count (f ∷ fs) more = gets_count fs more

  abbrev next_count : Next → ℕ
  next_count next = count_release a (Act next.0 ∷ next.1)

  mutual
    expr_count : (e : Expr) (more : List Item) → next_count (open_expr e more) ≡ count_release a more
    expr_count (IntE n) more = refl
    expr_count (TruthE b) more = refl
    expr_count NullE more = refl
    expr_count ThisE more = refl
    expr_count (VarE x is_final ty) more = refl
    expr_count (NotE e) more = expr_count e _
    expr_count (NegE e) more = expr_count e _
    expr_count (BinaryE op d b) more = expr_count d _
    expr_count (AndE d b) more = expr_count d _
    expr_count (OrE d b) more = expr_count d _
    expr_count (GetE e f) more = expr_count e _
    expr_count (CallE e m args) more = expr_count e _ ∙ exprs_count args (Act (W.Call m) ∷ more)
    expr_count (NewE c args) more = new_count c args more

    new_count : (c : ℕ) (args : Exprs) (more : List Item) → next_count (open_new c args more) ≡ count_release a more
    new_count c no_exprs more = refl
    new_count c (and_expr e es) more = expr_count e _ ∙ exprs_count es (Act (W.New c) ∷ more)

  -- the next action, where there is one, releases with what stands after it as often as this
  abbrev pub Counts : Option Next → ℕ → Type 0
  Counts None n = Unit {0}
  Counts (Some next) n = next_count next ≡ n

  on_count : (o : Option Next) {n m : ℕ} → n ≡ m → Counts o n → Counts o m
  on_count None same c = tt
  on_count (Some next) same c = c ∙ same

  mutual
    stmt_count : (s : Stmt) (more : List Item) (next : Option Next) → Counts next (count_release a more) → Counts (open_stmt s more next) (count_release a more)
    stmt_count EmptyS more next c = c
    stmt_count (BlockS ss) more next c = block_count ss more next c
    stmt_count (LocalS x is_final ty e) more next c = expr_count e _
    stmt_count (SetVarS x e) more next c = expr_count e _
    stmt_count (SetFieldS e f g) more next c = expr_count e _
    stmt_count (DoS e true) more next c = expr_count e _
    stmt_count (DoS e false) more next c = expr_count e _
    stmt_count (IfS b s t) more next c = expr_count b _
    stmt_count (WhileS b s) more next c = expr_count b _
    stmt_count (SyncS p s) more next c = gets_count p.fields (Act (W.Acquire s) ∷ more)
    stmt_count (ReturnS None) more next c = refl
    stmt_count (ReturnS (Some e)) more next c = expr_count e _
    stmt_count (PrintS e) more next c = expr_count e _
    stmt_count (StartS e) more next c = expr_count e _

    block_count : (ss : Stmts) (more : List Item) (next : Option Next) → Counts next (count_release a more) → Counts (open_block ss more next) (count_release a more)
    block_count no_stmts more next c = c
    block_count (and_stmt s ss) more next c = on_count (open_stmt s (stmts_items ss more) (open_block ss more next)) (stmts_count ss more)
        (stmt_count s (stmts_items ss more) (open_block ss more next) (on_count (open_block ss more next) (sym (stmts_count ss more)) (block_count ss more next c)))

  opened_count : (work : List Item) → Counts (opened work) (count_release a work)
  opened_count [] = tt
  opened_count (Ex e ∷ more) = expr_count e more
  opened_count (St s ∷ more) = stmt_count s more (opened more) (opened_count more)
  opened_count (Act b ∷ more) = refl

  -- a return that gives back its locks first

  abbrev left_count : Option (Address × List Item) → ℕ
  left_count None = 0
  left_count (Some later) = if address_eq a later.0 then 1 + count_release a later.1 else count_release a later.1

  first_count : (more : List Item) → left_count (first_release more) ≡ count_release a more
  first_count [] = refl
  first_count (Ex e ∷ more) = first_count more
  first_count (St st ∷ more) = first_count more
  first_count (Act (W.Push v) ∷ more) = first_count more
  first_count (Act (W.Load x) ∷ more) = first_count more
  first_count (Act (W.Store x) ∷ more) = first_count more
  first_count (Act W.Drop ∷ more) = first_count more
  first_count (Act (W.Unary op) ∷ more) = first_count more
  first_count (Act (W.Binary op) ∷ more) = first_count more
  first_count (Act (W.AndThen e) ∷ more) = first_count more
  first_count (Act (W.OrElse e) ∷ more) = first_count more
  first_count (Act (W.Choose t u) ∷ more) = first_count more
  first_count (Act (W.Loop c t) ∷ more) = first_count more
  first_count (Act (W.Get f) ∷ more) = first_count more
  first_count (Act (W.Put f) ∷ more) = first_count more
  first_count (Act (W.New c) ∷ more) = first_count more
  first_count (Act (W.Call m) ∷ more) = first_count more
  first_count (Act (W.Acquire t) ∷ more) = first_count more
  first_count (Act (W.Release b) ∷ more) = refl
  first_count (Act W.Ret ∷ more) = first_count more
  first_count (Act W.Print ∷ more) = first_count more
  first_count (Act W.Start ∷ more) = first_count more

  return_count : (more : List Item) (o : Option (Address × List Item)) → first_release more ≡ o → next_count (open_return o more) ≡ count_release a more
  return_count more None is = refl
  return_count more (Some later) is = ap left_count (sym is) ∙ first_count more

  settled_count : (action : Action) (more : List Item) → next_count (settled (action, more)) ≡ count_release a (Act action ∷ more)
  settled_count (W.Push v) more = refl
  settled_count (W.Load x) more = refl
  settled_count (W.Store x) more = refl
  settled_count W.Drop more = refl
  settled_count (W.Unary op) more = refl
  settled_count (W.Binary op) more = refl
  settled_count (W.AndThen e) more = refl
  settled_count (W.OrElse e) more = refl
  settled_count (W.Choose t u) more = refl
  settled_count (W.Loop c t) more = refl
  settled_count (W.Get f) more = refl
  settled_count (W.Put f) more = refl
  settled_count (W.New c) more = refl
  settled_count (W.Call m) more = refl
  settled_count (W.Acquire t) more = refl
  settled_count (W.Release b) more = refl
  settled_count W.Ret more = return_count more (first_release more) refl
  settled_count W.Print more = refl
  settled_count W.Start more = refl

  settled_counts : (o : Option Next) (n : ℕ) → Counts o n → Counts (settled_some o) n
  settled_counts None n c = tt
  settled_counts (Some next) n c = settled_count next.0 next.1 ∙ c

  pub unfolded_count : (work : List Item) → Counts (unfolded work) (count_release a work)
  unfolded_count work = settled_counts (opened work) (count_release a work) (opened_count work)

  -- where no release is to come, none is counted
  pub none_count : (more : List Item) → first_release more ≡ None → 0 ≡ count_release a more
  none_count more is = ap left_count (sym is) ∙ first_count more

pub none_return : (outer : Address → Bool) (more : List Item) (p : Phase) → first_release more ≡ None → return_phase outer more p ≡ p
none_return outer [] p is = refl
none_return outer (Ex e ∷ more) p is = none_return outer more p is
none_return outer (St st ∷ more) p is = none_return outer more p is
none_return outer (Act (W.Push v) ∷ more) p is = none_return outer more p is
none_return outer (Act (W.Load x) ∷ more) p is = none_return outer more p is
none_return outer (Act (W.Store x) ∷ more) p is = none_return outer more p is
none_return outer (Act W.Drop ∷ more) p is = none_return outer more p is
none_return outer (Act (W.Unary op) ∷ more) p is = none_return outer more p is
none_return outer (Act (W.Binary op) ∷ more) p is = none_return outer more p is
none_return outer (Act (W.AndThen e) ∷ more) p is = none_return outer more p is
none_return outer (Act (W.OrElse e) ∷ more) p is = none_return outer more p is
none_return outer (Act (W.Choose t u) ∷ more) p is = none_return outer more p is
none_return outer (Act (W.Loop c t) ∷ more) p is = none_return outer more p is
none_return outer (Act (W.Get f) ∷ more) p is = none_return outer more p is
none_return outer (Act (W.Put f) ∷ more) p is = none_return outer more p is
none_return outer (Act (W.New c) ∷ more) p is = none_return outer more p is
none_return outer (Act (W.Call m) ∷ more) p is = none_return outer more p is
none_return outer (Act (W.Acquire t) ∷ more) p is = none_return outer more p is
none_return outer (Act (W.Release b) ∷ more) p is = absurd (let e : Some (b, more) ≡ None = is in cc)
none_return outer (Act W.Ret ∷ more) p is = none_return outer more p is
none_return outer (Act W.Print ∷ more) p is = none_return outer more p is
none_return outer (Act W.Start ∷ more) p is = none_return outer more p is

-- a return that is the next action has no release behind it
abbrev pub NoReleases : Action → List Item → Type 0
NoReleases W.Ret more = first_release more ≡ None
NoReleases _ more = Unit {0}

abbrev pub Settled : Option Next → Type 0
Settled None = Unit {0}
Settled (Some next) = NoReleases next.0 next.1

returns_settled : (more : List Item) (o : Option (Address × List Item)) → first_release more ≡ o → Settled (Some (open_return o more))
returns_settled more None is = is
returns_settled more (Some later) is = tt

is_settled : (action : Action) (more : List Item) → Settled (Some (settled (action, more)))
is_settled (W.Push v) more = tt
is_settled (W.Load x) more = tt
is_settled (W.Store x) more = tt
is_settled W.Drop more = tt
is_settled (W.Unary op) more = tt
is_settled (W.Binary op) more = tt
is_settled (W.AndThen e) more = tt
is_settled (W.OrElse e) more = tt
is_settled (W.Choose t u) more = tt
is_settled (W.Loop c t) more = tt
is_settled (W.Get f) more = tt
is_settled (W.Put f) more = tt
is_settled (W.New c) more = tt
is_settled (W.Call m) more = tt
is_settled (W.Acquire t) more = tt
is_settled (W.Release b) more = tt
is_settled W.Ret more = returns_settled more (first_release more) refl
is_settled W.Print more = tt
is_settled W.Start more = tt

some_settled : (o : Option Next) → Settled (settled_some o)
some_settled None = tt
some_settled (Some next) = is_settled next.0 next.1

pub unfolded_settled : (work : List Item) → Settled (unfolded work)
unfolded_settled work = some_settled (opened work)
