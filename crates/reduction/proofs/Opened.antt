-- Opening a work list brings no address that dangles.
use Rattle.std.proofs.Common.{ℕ, true, false, List, [], ◌∷◌, Some, None}
use Rattle.std.specs.Prelude.{Option}
use Rattle.core_program.specs.Core.{Expr, Exprs, IntE, TruthE, NullE, ThisE, VarE, NotE, NegE, BinaryE, AndE, OrE, GetE, CallE, NewE, no_exprs, and_expr}
use Rattle.core_program.specs.Core.{Stmt, Stmts, EmptyS, BlockS, LocalS, SetVarS, SetFieldS, DoS, IfS, WhileS, SyncS, ReturnS, PrintS, StartS, no_stmts, and_stmt}
use Rattle.state.specs.declared.value.Address.{Address}
use Rattle.state.specs.Memory.{Heap}
use Rattle.state.specs.Work as W
use Rattle.state.specs.Work.{Item, Ex, St, Act, Next, exprs_items, stmts_items, gets, open_expr, open_new, open_stmt, open_block, opened, first_release, open_return, settled, settled_some, unfolded}
use Rattle.reduction.specs.Addresses.{IsSoundAction, AreSoundItems}

module _ (heap : Heap) where
  abbrev pub SoundNext : Next → Type 0
  SoundNext next = IsSoundAction heap next.0 × AreSoundItems heap next.1

  abbrev pub SoundSome : Option Next → Type 0
  SoundSome None = Unit {0}
  SoundSome (Some next) = SoundNext next

  exprs_sound : (es : Exprs) (more : List Item) → AreSoundItems heap more → AreSoundItems heap (exprs_items es more)
  exprs_sound no_exprs more h = h
  exprs_sound (and_expr e es) more h = (tt, exprs_sound es more h)

  stmts_sound : (ss : Stmts) (more : List Item) → AreSoundItems heap more → AreSoundItems heap (stmts_items ss more)
  stmts_sound no_stmts more h = h
  stmts_sound (and_stmt s ss) more h = (tt, stmts_sound ss more h)

  gets_sound : (fs : List ℕ) (more : List Item) → AreSoundItems heap more → AreSoundItems heap (gets fs more)
  gets_sound [] more h = h
  gets_sound (f ∷ fs) more h = (tt, gets_sound fs more h)

  mutual
    expr_sound : (e : Expr) (more : List Item) → AreSoundItems heap more → SoundNext (open_expr e more)
    expr_sound (IntE n) more h = (tt, h)
    expr_sound (TruthE b) more h = (tt, h)
    expr_sound NullE more h = (tt, h)
    expr_sound ThisE more h = (tt, h)
    expr_sound (VarE x is_final ty) more h = (tt, h)
    expr_sound (NotE e) more h = expr_sound e _ (tt, h)
    expr_sound (NegE e) more h = expr_sound e _ (tt, h)
    expr_sound (BinaryE op a b) more h = expr_sound a _ (tt, (tt, h))
    expr_sound (AndE a b) more h = expr_sound a _ (tt, h)
    expr_sound (OrE a b) more h = expr_sound a _ (tt, h)
    expr_sound (GetE e f) more h = expr_sound e _ (tt, h)
    expr_sound (CallE e m args) more h = expr_sound e _ (exprs_sound args (Act (W.Call m) ∷ more) (tt, h))
    expr_sound (NewE c args) more h = new_sound c args more h

    new_sound : (c : ℕ) (es : Exprs) (more : List Item) → AreSoundItems heap more → SoundNext (open_new c es more)
    new_sound c no_exprs more h = (tt, h)
    new_sound c (and_expr e es) more h = expr_sound e _ (exprs_sound es (Act (W.New c) ∷ more) (tt, h))

  mutual
    stmt_sound : (s : Stmt) (more : List Item) (next : Option Next) → AreSoundItems heap more → SoundSome next → SoundSome (open_stmt s more next)
    stmt_sound EmptyS more next h n = n
    stmt_sound (BlockS ss) more next h n = block_sound ss more next h n
    stmt_sound (LocalS x is_final ty e) more next h n = expr_sound e _ (tt, h)
    stmt_sound (SetVarS x e) more next h n = expr_sound e _ (tt, h)
    stmt_sound (SetFieldS e f g) more next h n = expr_sound e _ (tt, (tt, h))
    stmt_sound (DoS e true) more next h n = expr_sound e _ (tt, h)
    stmt_sound (DoS e false) more next h n = expr_sound e _ h
    stmt_sound (IfS c s t) more next h n = expr_sound c _ (tt, h)
    stmt_sound (WhileS c s) more next h n = expr_sound c _ (tt, h)
    stmt_sound (SyncS p s) more next h n = (tt, gets_sound p.fields (Act (W.Acquire s) ∷ more) (tt, h))
    stmt_sound (ReturnS None) more next h n = (tt, h)
    stmt_sound (ReturnS (Some e)) more next h n = expr_sound e _ (tt, h)
    stmt_sound (PrintS e) more next h n = expr_sound e _ (tt, h)
    stmt_sound (StartS e) more next h n = expr_sound e _ (tt, h)

    block_sound : (ss : Stmts) (more : List Item) (next : Option Next) → AreSoundItems heap more → SoundSome next → SoundSome (open_block ss more next)
    block_sound no_stmts more next h n = n
    block_sound (and_stmt s ss) more next h n = stmt_sound s (stmts_items ss more) (open_block ss more next) (stmts_sound ss more h) (block_sound ss more next h n)

  opened_sound : (work : List Item) → AreSoundItems heap work → SoundSome (opened work)
  opened_sound [] h = tt
  opened_sound (Ex e ∷ more) h = expr_sound e more h.1
  opened_sound (St s ∷ more) h = stmt_sound s more (opened more) h.1 (opened_sound more h.1)
  opened_sound (Act a ∷ more) h = h

  SoundLater : Option (Address × List Item) → Type 0
  SoundLater None = Unit {0}
  SoundLater (Some later) = AreSoundItems heap later.1

  release_sound : (work : List Item) → AreSoundItems heap work → SoundLater (first_release work)
  unfolding SoundLater
  release_sound [] h = tt
  release_sound (Ex e ∷ more) h = release_sound more h.1
  release_sound (St s ∷ more) h = release_sound more h.1
  release_sound (Act (W.Release a) ∷ more) h = h.1
  release_sound (Act (W.Push v) ∷ more) h = release_sound more h.1
  release_sound (Act (W.Load x) ∷ more) h = release_sound more h.1
  release_sound (Act (W.Store x) ∷ more) h = release_sound more h.1
  release_sound (Act W.Drop ∷ more) h = release_sound more h.1
  release_sound (Act (W.Unary op) ∷ more) h = release_sound more h.1
  release_sound (Act (W.Binary op) ∷ more) h = release_sound more h.1
  release_sound (Act (W.AndThen e) ∷ more) h = release_sound more h.1
  release_sound (Act (W.OrElse e) ∷ more) h = release_sound more h.1
  release_sound (Act (W.Choose s u) ∷ more) h = release_sound more h.1
  release_sound (Act (W.Loop c s) ∷ more) h = release_sound more h.1
  release_sound (Act (W.Get x) ∷ more) h = release_sound more h.1
  release_sound (Act (W.Put x) ∷ more) h = release_sound more h.1
  release_sound (Act (W.New c) ∷ more) h = release_sound more h.1
  release_sound (Act (W.Call m) ∷ more) h = release_sound more h.1
  release_sound (Act (W.Acquire s) ∷ more) h = release_sound more h.1
  release_sound (Act W.Print ∷ more) h = release_sound more h.1
  release_sound (Act W.Start ∷ more) h = release_sound more h.1
  release_sound (Act W.Ret ∷ more) h = release_sound more h.1

  return_sound : (later : Option (Address × List Item)) (more : List Item) → SoundLater later → AreSoundItems heap more → SoundNext (open_return later more)
  unfolding SoundLater
  return_sound None more l h = (tt, h)
  return_sound (Some later) more l h = (tt, (tt, l))

  settled_sound : (next : Next) → SoundNext next → SoundNext (settled next)
  settled_sound (W.Ret, more) h = return_sound (first_release more) more (release_sound more h.1) h.1
  settled_sound (W.Push v, more) h = h
  settled_sound (W.Load x, more) h = h
  settled_sound (W.Store x, more) h = h
  settled_sound (W.Drop, more) h = h
  settled_sound (W.Unary op, more) h = h
  settled_sound (W.Binary op, more) h = h
  settled_sound (W.AndThen e, more) h = h
  settled_sound (W.OrElse e, more) h = h
  settled_sound (W.Choose s u, more) h = h
  settled_sound (W.Loop c s, more) h = h
  settled_sound (W.Get x, more) h = h
  settled_sound (W.Put x, more) h = h
  settled_sound (W.New c, more) h = h
  settled_sound (W.Call m, more) h = h
  settled_sound (W.Acquire s, more) h = h
  settled_sound (W.Release a, more) h = h
  settled_sound (W.Print, more) h = h
  settled_sound (W.Start, more) h = h

  some_sound : (next : Option Next) → SoundSome next → SoundSome (settled_some next)
  some_sound None h = tt
  some_sound (Some next) h = settled_sound next h

  -- what is next, and what is left after it
  pub unfolded_sound : (work : List Item) → AreSoundItems heap work → SoundSome (unfolded work)
  unfolded_sound work h = some_sound (opened work) (opened_sound work h)
