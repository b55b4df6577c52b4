-- Statements: after the steps of the thread, what follows is left to do, or a return.
use Rattle.std.proofs.Common.{◌≡◌, inr, ◌⊎◌, ℕ, zero, suc, ◌≤◌, Bool, true, false, List, [], ◌∷◌, Some, None, refl, sym, ap, subst, ◌∙◌}
use Rattle.std.specs.Prelude.{Option, slice_get, if◌then◌else◌}
use Rattle.std.specs.FinMap as M
use Rattle.core_program.specs.Core.{Program, Expr, Stmt, Stmts, EmptyS, BlockS, LocalS, SetVarS, SetFieldS, DoS, IfS, WhileS, SyncS, ReturnS, PrintS, StartS, no_stmts, and_stmt}
use Rattle.state.specs.declared.value.Address.{Address}
use Rattle.state.specs.declared.value.Value.{Value}
use Rattle.state.specs.Values.{as_int, as_truth, address_of}
use Rattle.state.specs.Work as W
use Rattle.state.specs.Work.{Action, Item, Ex, St, Act, stmts_items, gets, open_stmt, open_block, opened, first_release, open_return, settled_some, unfolded}
use Rattle.state.specs.States.{Frame}
use Rattle.semantics.specs.Step as S
use Rattle.semantics.specs.Step.{Prints, changed, seen_by, act}
use Rattle.reduction.specs.Fits.{valued, TidyE, TidyS, TidyBlock}
use Rattle.replay.specs.Plain.{Plain}
use Rattle.replay.specs.Answers.{Answer, Gives, then_do, End, GoesOn, Returns, Ended, completed_normally, next_after, in_turn}
use Rattle.replay.specs.Evaluation as E
use Rattle.replay.specs.Evaluation.{Lower, most_depth, value_found, stored, read_field, followed_by, write_field, start_on, take_lock, give_lock, locked, synchronized, lower_of}
use Rattle.replay.proofs.Comes.{Local, Own, Comes, After, chain, after_map, frame, at}
use Rattle.replay.proofs.Leaves.{returned_ops, ShortOk, DeepOk, Leads, EndsIn, Ends, Push, acts, acts_once, acts_or, here_still, faulted, load_leads, store_leads, get_leads, put_leads, release_leads, start_leads, take_leads}
use Rattle.replay.proofs.Calling.{LowOk, FuelOk, weak_ends}
use Rattle.replay.proofs.Expressions.{value_of, sim}
use Rattle.replay.proofs.Neat.{IsNeat}

-- a block opens as the list of its statements does
block_opens : (ss : Stmts) (rest : List Item) → open_block ss rest (opened rest) ≡ opened (stmts_items ss rest)
block_opens no_stmts rest = refl
block_opens (and_stmt s ss) rest = ap (open_stmt s (stmts_items ss rest)) (block_opens ss rest)

-- statements are no releases
block_releases : (ss : Stmts) (rest : List Item) → first_release (stmts_items ss rest) ≡ first_release rest
block_releases no_stmts rest = refl
block_releases (and_stmt s ss) rest = block_releases ss rest

module _ (P : Program) (t m0 : ℕ) (base : List Frame) (Goal : Local → Type 0) (neat : IsNeat P) where
  module _ (m : ℕ) (below : List Frame) (d : ℕ) (few : d ≤ most_depth) (tower : (f : Frame) → f.method ≡ m → Own m0 base d (f ∷ below)) where
    module _ (n : ℕ) (lower : Option Lower) (ok : FuelOk P t m0 base Goal n lower) where
      abbrev S0 : Type 0
      S0 = ShortOk P t m0 base Goal

      abbrev D0 : Type 0
      D0 = DeepOk P t m0 base Goal

      -- what follows the value of an expression, on no operands
      abbrev Next : List Value → List Item → Value → Plain → Type 0
      Next slots rest = Push P t m0 base Goal n m below slots [] rest true

      -- what follows a statement
      abbrev Then : List Item → Ended → Plain → Type 0
      Then rest = Ends P t m0 base Goal n m below rest

      abbrev pub SimS : Stmt → Type 0
      SimS s = (slots : List Value) (rest w : List Item) (p : Plain) → unfolded w ≡ unfolded (St s ∷ rest)
          → After S0 D0 (Then rest) (E.stmt P t lower d s slots p) → Comes P t m0 base Goal n (at m below slots [] w p)

      abbrev SimBlock : Stmts → Type 0
      SimBlock ss = (slots : List Value) (rest w : List Item) (p : Plain) → unfolded w ≡ unfolded (stmts_items ss rest)
          → After S0 D0 (Then rest) (E.stmts P t lower d ss slots p) → Comes P t m0 base Goal n (at m below slots [] w p)

      go : (slots ops : List Value) (w rest : List Item) (a : Action) (p : Plain) → unfolded w ≡ Some (a, rest)
          → Leads P t m0 base Goal n p (act P (seen_by t p) t (frame m slots ops w) below rest a) → Comes P t m0 base Goal n (at m below slots ops w p)
      go slots ops w rest a p e k = acts P t m0 base Goal m below d few tower n slots ops w rest a p e k

      -- an expression with a value, and then what is done with it
      with_value : (e : Expr) → valued P e ≡ true → TidyE P e → (slots : List Value) (K : Ended → Plain → Type 0) (rest w : List Item) (p : Plain) (f : Value → Plain → Answer Ended)
          → unfolded w ≡ unfolded (Ex e ∷ rest) → ((v : Value) (q : Plain) → After S0 D0 K (f v q) → (w2 : List Item) → unfolded w2 ≡ unfolded rest → Comes P t m0 base Goal n (at m below slots (v ∷ []) w2 q))
          → After S0 D0 K (then_do (E.expr P t lower d slots e p) f) → Comes P t m0 base Goal n (at m below slots [] w p)
      with_value e g tidy slots K rest w p f is h k =
          value_of P t m0 base Goal neat m below d few tower n lower ok slots e g (sim P t m0 base Goal neat m below d few tower n lower ok slots e tidy) [] rest w p is
          (chain S0 D0 K (Next slots rest) (E.expr P t lower d slots e p) f h k)

      -- one of two statements
      choose_leads : (v : Value) (s u : Stmt) → SimS s → SimS u → (slots : List Value) (rest w : List Item) (p : Plain) (b : Bool)
          → After S0 D0 (Then rest) (if b then E.stmt P t lower d s slots p else E.stmt P t lower d u slots p)
          → Leads P t m0 base Goal n p (S.choose P (seen_by t p) t (frame m slots (v ∷ []) w) below rest s u b)
      choose_leads v s u first second slots rest w p true k = first slots rest (St s ∷ rest) p refl k
      choose_leads v s u first second slots rest w p false k = second slots rest (St u ∷ rest) p refl k

      -- fields one after the other
      follows : (fs : List ℕ) (slots : List Value) (rest : List Item) (v : Value) (w : List Item) (p : Plain) → unfolded w ≡ unfolded (gets fs rest)
          → After S0 D0 (Next slots rest) (followed_by P fs v p) → Comes P t m0 base Goal n (at m below slots (v ∷ []) w p)
      follows [] slots rest v w p is k = k w is
      follows (f ∷ fs) slots rest v w p is k = go slots (v ∷ []) w (gets fs rest) (W.Get f) p is
          (get_leads P t m0 base Goal m below d few tower n slots w (gets fs rest) p f v [] (address_of v)
          (chain S0 D0 (Next slots rest) (Next slots (gets fs rest)) (read_field P f (address_of v) p) (λ next r. followed_by P fs next r) (λ next q h w2 is2. follows fs slots rest next w2 q is2 h) k))

      -- after the block of a lock: the release, also before a return
      gives_back : (a : Address) (end : End) (after : List Value) (rest : List Item) (q : Plain)
          → After S0 D0 (Then rest) (then_do (give_lock t a (M.get q.locks a) q) (λ _ r. Gives (record { end = end; slots = after }) r))
          → EndsIn P t m0 base Goal n m below (Act (W.Release a) ∷ rest) end after q
      gives_back a GoesOn after rest q k = λ w is. go after [] w rest (W.Release a) q is
          (release_leads P t m0 base Goal m below d few tower n after w rest q [] a (M.get q.locks a)
          (chain S0 D0 (Then rest) (λ (_ : Unit {0}) r. Comes P t m0 base Goal n (at m below after [] rest r)) (give_lock t a (M.get q.locks a) q) (λ _ r. Gives (record { end = GoesOn; slots = after }) r) (λ _ r h. h rest refl) k))
      gives_back a (Returns v) after rest q k = λ w more is. go after (returned_ops v) w (Act W.Ret ∷ rest) (W.Release a) q is
          (release_leads P t m0 base Goal m below d few tower n after w (Act W.Ret ∷ rest) q (returned_ops v) a (M.get q.locks a)
          (chain S0 D0 (Then rest) (λ (_ : Unit {0}) r. Comes P t m0 base Goal n (at m below after (returned_ops v) (Act W.Ret ∷ rest) r)) (give_lock t a (M.get q.locks a) q) (λ _ r. Gives (record { end = Returns v; slots = after }) r)
          (λ _ r h. h (Act W.Ret ∷ rest) rest refl) k))

      -- a lock that is taken, with its block
      sync_leads : (v : Value) (s : Stmt) → SimS s → (slots : List Value) (rest w : List Item) (p : Plain) (o : Option Address)
          → After S0 D0 (Then rest) (synchronized t o p (λ y. E.stmt P t lower d s slots y))
          → Goal (at m below slots (v ∷ []) w p) ⊎ Leads P t m0 base Goal n p (S.acquire P (seen_by t p) t (frame m slots (v ∷ []) w) below rest s o)
      sync_leads v s body slots rest w p None k = inr (faulted P t m0 base Goal m below d few tower n slots (v ∷ []) w p _)
      sync_leads v s body slots rest w p (Some a) k =
          take_leads P t m0 base Goal m below d few tower n slots w rest p v s a (M.get p.locks a) refl
          (chain S0 D0 (Then rest) (λ (_ : Unit {0}) r. Comes P t m0 base Goal n (at m below slots [] (St s ∷ Act (W.Release a) ∷ rest) r)) (take_lock t a (M.get p.locks a) p) (λ _ r. locked t a (E.stmt P t lower d s slots r))
          (λ _ r h. body slots (Act (W.Release a) ∷ rest) (St s ∷ Act (W.Release a) ∷ rest) r refl
          (chain S0 D0 (Then rest) (Then (Act (W.Release a) ∷ rest)) (E.stmt P t lower d s slots r) (λ x q. then_do (give_lock t a (M.get q.locks a) q) (λ _ z. Gives x z))
          (λ x q g. gives_back a x.end x.slots rest q g) h)) k)

      -- what follows the first of two statements
      then_next : (s2 : List Item) (rest : List Item) (next : List Value → Plain → Answer Ended) → first_release s2 ≡ first_release rest
          → ((after : List Value) (q : Plain) → After S0 D0 (Then rest) (next after q) → (w : List Item) → unfolded w ≡ unfolded s2 → Comes P t m0 base Goal n (at m below after [] w q))
          → (end : End) (after : List Value) (q : Plain) → After S0 D0 (Then rest) (next_after end after q next) → EndsIn P t m0 base Goal n m below s2 end after q
      then_next s2 rest next same h GoesOn after q k = λ w is. h after q k w is
      then_next s2 rest next same h (Returns v) after q k = λ w more is. k w more (is ∙ ap (λ o. Some (open_return o more)) same)

    -- a turn of a loop, and the loop again, with one turn less
    module _ (c : Expr) (s : Stmt) (tidy : TidyS P (WhileS c s)) (slots : List Value) (rest : List Item) where
      turn_leads : (n : ℕ) (low : Lower) → LowOk P t m0 base Goal n low → (v : Value) (w : List Item) (p : Plain)
          → After (ShortOk P t m0 base Goal) (DeepOk P t m0 base Goal) (Ends P t m0 base Goal (suc n) m below rest) (in_turn (low d s slots p) (λ after r. low d (WhileS c s) after r))
          → Comes P t m0 base Goal n (at m below slots [] (St s ∷ St (WhileS c s) ∷ rest) p)
      turn_leads n low ok v w p k =
          ok m below d few tower s tidy.2 slots (St (WhileS c s) ∷ rest) (St s ∷ St (WhileS c s) ∷ rest) p refl
          (chain (ShortOk P t m0 base Goal) (DeepOk P t m0 base Goal) (Ends P t m0 base Goal (suc n) m below rest) (Ends P t m0 base Goal n m below (St (WhileS c s) ∷ rest)) (low d s slots p)
          (λ x q. next_after x.end x.slots q (λ after r. low d (WhileS c s) after r)) (λ x q h. again x.end x.slots q h) k)
        where
          again : (end : End) (after : List Value) (q : Plain)
              → After (ShortOk P t m0 base Goal) (DeepOk P t m0 base Goal) (Ends P t m0 base Goal (suc n) m below rest) (next_after end after q (λ after r. low d (WhileS c s) after r))
              → EndsIn P t m0 base Goal n m below (St (WhileS c s) ∷ rest) end after q
          again GoesOn after q h = λ w2 is. ok m below d few tower (WhileS c s) tidy after rest w2 q is
              (after_map (ShortOk P t m0 base Goal) (DeepOk P t m0 base Goal) (Ends P t m0 base Goal (suc n) m below rest) (Ends P t m0 base Goal n m below rest) (low d (WhileS c s) after q)
              (λ x r g. weak_ends P t m0 base Goal n m below rest x.end x.slots r g) h)
          again (Returns v) after q h = λ w2 more is. weak_ends P t m0 base Goal n m below rest (Returns v) after q h w2 more is

      loop_comes : (n : ℕ) (lower : Option Lower) → FuelOk P t m0 base Goal n lower → (v : Value) (b : Bool) → as_truth v ≡ b → (w : List Item) (p : Plain) → unfolded w ≡ Some (W.Loop c s, rest)
          → After (ShortOk P t m0 base Goal) (DeepOk P t m0 base Goal) (Ends P t m0 base Goal n m below rest) (if b then E.loop_turn P t lower d lower c s slots p else completed_normally slots p)
          → Comes P t m0 base Goal n (at m below slots (v ∷ []) w p)
      loop_comes n lower ok v false no_turn w p is k =
          acts P t m0 base Goal m below d few tower n slots (v ∷ []) w rest (W.Loop c s) p is
          (subst (λ b. Leads P t m0 base Goal n p (S.loop P (seen_by t p) t (frame m slots (v ∷ []) w) below rest c s b)) (sym no_turn) (k rest refl))
      loop_comes zero lower ok v true a_turn w p is k = here_still P t m0 base Goal m below d few tower slots (v ∷ []) w p
      loop_comes (suc n) None ok v true a_turn w p is k = absurd ok
      loop_comes (suc n) (Some low) ok v true a_turn w p is k =
          acts_once P t m0 base Goal m below d few tower n slots (v ∷ []) w rest (W.Loop c s) p is
          (subst (λ b. Leads P t m0 base Goal n p (S.loop P (seen_by t p) t (frame m slots (v ∷ []) w) below rest c s b)) (sym a_turn) (turn_leads n low ok v w p k))

    module _ (n : ℕ) (lower : Option Lower) (ok : FuelOk P t m0 base Goal n lower) where
      mutual
        pub sim_stmt : (s : Stmt) → TidyS P s → SimS n lower ok s
        sim_stmt EmptyS tidy slots rest w p is k = k w is
        sim_stmt (BlockS ss) tidy slots rest w p is k = sim_block ss tidy slots rest w p (is ∙ ap settled_some (block_opens ss rest)) k
        sim_stmt (LocalS x is_final ty e) (g, tidy) slots rest w p is k = with_value n lower ok e g tidy slots (Then n lower ok rest) (Act (W.Store x) ∷ rest) w p (λ v r. stored x v (slice_get slots x) slots r) is
            (λ v q h w2 is2. go n lower ok slots (v ∷ []) w2 rest (W.Store x) q is2 (store_leads P t m0 base Goal m below d few tower n slots w2 rest q x v (slice_get slots x) h)) k
        sim_stmt (SetVarS x e) (g, tidy) slots rest w p is k = with_value n lower ok e g tidy slots (Then n lower ok rest) (Act (W.Store x) ∷ rest) w p (λ v r. stored x v (slice_get slots x) slots r) is
            (λ v q h w2 is2. go n lower ok slots (v ∷ []) w2 rest (W.Store x) q is2 (store_leads P t m0 base Goal m below d few tower n slots w2 rest q x v (slice_get slots x) h)) k
        sim_stmt (SetFieldS e f e2) (g, tidy, g2, tidy2) slots rest w p is k =
            with_value n lower ok e g tidy slots (Then n lower ok rest) (Ex e2 ∷ Act (W.Put f) ∷ rest) w p
            (λ on r. then_do (E.expr P t lower d slots e2 r) (λ v s. then_do (write_field P f (address_of on) v s) (λ _ z. completed_normally slots z))) is
            (λ on q h w2 is2. value_of P t m0 base Goal neat m below d few tower n lower ok slots e2 g2 (sim P t m0 base Goal neat m below d few tower n lower ok slots e2 tidy2) (on ∷ []) (Act (W.Put f) ∷ rest) w2 q is2
            (chain (S0 n lower ok) (D0 n lower ok) (Then n lower ok rest) (Push P t m0 base Goal n m below slots (on ∷ []) (Act (W.Put f) ∷ rest) true) (E.expr P t lower d slots e2 q)
            (λ v s. then_do (write_field P f (address_of on) v s) (λ _ z. completed_normally slots z))
            (λ v s h2 w3 is3. go n lower ok slots (v ∷ on ∷ []) w3 rest (W.Put f) s is3
            (put_leads P t m0 base Goal m below d few tower n slots w3 rest s f on v (address_of on)
            (chain (S0 n lower ok) (D0 n lower ok) (Then n lower ok rest) (λ (_ : Unit {0}) z. Then n lower ok rest (record { end = GoesOn; slots = slots }) z) (write_field P f (address_of on) v s) (λ _ z. completed_normally slots z) (λ _ z h3. h3) h2))) h)) k
        sim_stmt (DoS e true) (g, tidy) slots rest w p is k = with_value n lower ok e (sym g) tidy slots (Then n lower ok rest) (Act W.Drop ∷ rest) w p (λ _ r. completed_normally slots r) is
            (λ v q h w2 is2. go n lower ok slots (v ∷ []) w2 rest W.Drop q is2 (h rest refl)) k
        sim_stmt (DoS e false) (g, tidy) slots rest w p is k =
            sim P t m0 base Goal neat m below d few tower n lower ok slots e tidy [] rest w p is
            (subst (λ b. After (S0 n lower ok) (D0 n lower ok) (Push P t m0 base Goal n m below slots [] rest b) (E.expr P t lower d slots e p)) g
            (chain (S0 n lower ok) (D0 n lower ok) (Then n lower ok rest) (Push P t m0 base Goal n m below slots [] rest false) (E.expr P t lower d slots e p) (λ _ r. completed_normally slots r) (λ _ q h. h) k))
        sim_stmt (IfS c s u) (g, tidy, first, second) slots rest w p is k =
            with_value n lower ok c g tidy slots (Then n lower ok rest) (Act (W.Choose s u) ∷ rest) w p (λ v r. if as_truth v then E.stmt P t lower d s slots r else E.stmt P t lower d u slots r) is
            (λ v q h w2 is2. go n lower ok slots (v ∷ []) w2 rest (W.Choose s u) q is2 (choose_leads n lower ok v s u (sim_stmt s first) (sim_stmt u second) slots rest w2 q (as_truth v) h)) k
        sim_stmt (WhileS c s) (g, tidy, body) slots rest w p is k =
            with_value n lower ok c g tidy slots (Then n lower ok rest) (Act (W.Loop c s) ∷ rest) w p (λ v r. if as_truth v then E.loop_turn P t lower d lower c s slots r else completed_normally slots r) is
            (λ v q h w2 is2. loop_comes c s (g, tidy, body) slots rest n lower ok v (as_truth v) refl w2 q is2 h) k
        sim_stmt (SyncS path s) (leads, short, fresh, body) slots rest w p is k =
            go n lower ok slots [] w (gets path.fields (Act (W.Acquire s) ∷ rest)) (W.Load path.root) p is
            (load_leads P t m0 base Goal m below d few tower n slots w (gets path.fields (Act (W.Acquire s) ∷ rest)) p [] (slice_get slots path.root)
            (chain (S0 n lower ok) (D0 n lower ok) (Then n lower ok rest) (Next n lower ok slots (gets path.fields (Act (W.Acquire s) ∷ rest))) (value_found (slice_get slots path.root) p)
            (λ v r. then_do (followed_by P path.fields v r) (λ x z. synchronized t (address_of x) z (λ y. E.stmt P t lower d s slots y)))
            (λ v q h w2 is2. follows n lower ok path.fields slots (Act (W.Acquire s) ∷ rest) v w2 q is2
            (chain (S0 n lower ok) (D0 n lower ok) (Then n lower ok rest) (Next n lower ok slots (Act (W.Acquire s) ∷ rest)) (followed_by P path.fields v q)
            (λ x z. synchronized t (address_of x) z (λ y. E.stmt P t lower d s slots y))
            (λ x z h2 w3 is3. acts_or P t m0 base Goal m below d few tower n slots (x ∷ []) w3 rest (W.Acquire s) z is3 (sync_leads n lower ok x s (sim_stmt s body) slots rest w3 z (address_of x) h2)) h)) k))
        sim_stmt (ReturnS None) tidy slots rest w p is k = k w rest is
        sim_stmt (ReturnS (Some e)) (g, tidy) slots rest w p is k = with_value n lower ok e g tidy slots (Then n lower ok rest) (Act W.Ret ∷ rest) w p (λ v r. Gives (record { end = Returns (Some v); slots = slots }) r) is
            (λ v q h w2 is2. h w2 rest is2) k
        sim_stmt (PrintS e) (g, tidy) slots rest w p is k = with_value n lower ok e g tidy slots (Then n lower ok rest) (Act W.Print ∷ rest) w p (λ v r. completed_normally slots (changed (Prints (as_int v)) r)) is
            (λ v q h w2 is2. go n lower ok slots (v ∷ []) w2 rest W.Print q is2 (h rest refl)) k
        sim_stmt (StartS e) (g, tidy) slots rest w p is k = with_value n lower ok e g tidy slots (Then n lower ok rest) (Act W.Start ∷ rest) w p (λ v r. then_do (start_on P (address_of v) r) (λ _ s. completed_normally slots s)) is
            (λ v q h w2 is2. acts_or P t m0 base Goal m below d few tower n slots (v ∷ []) w2 rest W.Start q is2
            (start_leads P t m0 base Goal m below d few tower n slots w2 rest q v (address_of v)
            (chain (S0 n lower ok) (D0 n lower ok) (Then n lower ok rest) (λ (_ : Unit {0}) z. Then n lower ok rest (record { end = GoesOn; slots = slots }) z) (start_on P (address_of v) q) (λ _ s. completed_normally slots s) (λ _ z h3. h3) h))) k

        sim_block : (ss : Stmts) → TidyBlock P ss → SimBlock n lower ok ss
        sim_block no_stmts tidy slots rest w p is k = k w is
        sim_block (and_stmt s ss) (tidy, apart, more) slots rest w p is k = sim_stmt s tidy slots (stmts_items ss rest) w p is
            (chain (S0 n lower ok) (D0 n lower ok) (Then n lower ok rest) (Then n lower ok (stmts_items ss rest)) (E.stmt P t lower d s slots p) (λ x q. next_after x.end x.slots q (λ after r. E.stmts P t lower d ss after r))
            (λ x q h. then_next n lower ok (stmts_items ss rest) rest (λ after r. E.stmts P t lower d ss after r) (block_releases ss rest) (λ after r h2 w2 is2. sim_block ss more after rest w2 r is2 h2) x.end x.slots q h) k)

  -- what is known with n turns
  pub fuel : (n : ℕ) → FuelOk P t m0 base Goal n (lower_of P t n)
  fuel zero = tt
  fuel (suc n) = λ m below d few tower s tidy slots rest w p is k. sim_stmt m below d few tower n (lower_of P t n) (fuel n) s tidy slots rest w p is k
