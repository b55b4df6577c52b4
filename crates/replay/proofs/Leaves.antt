-- Single actions: where they lead to, and what evaluation gives for them.
use Rattle.std.proofs.Common.{◌≡◌, ◌⊎◌, inl, inr, ℕ, zero, suc, ◌+◌, ◌<◌, ◌≤◌, Bool, true, false, ◌==◌, List, [], ◌∷◌, ◌++◌, Some, None, refl, sym, ap, subst, ◌∙◌, arith, append-nil}
use Rattle.std.specs.Prelude.{Option, length, nat_lt, slice_get}
use Rattle.std.specs.FinMap as M
use Rattle.std.proofs.lemmas.Bool.{ltb-true}
use Rattle.core_program.specs.Core.{Program, Class, Field, Stmt}
use Rattle.state.specs.declared.value.Address.{Address}
use Rattle.state.specs.declared.value.Value.{Value}
use Rattle.state.specs.declared.value.Value.TheVariants as value
use Rattle.state.specs.declared.value.Fault.{Fault}
use Rattle.state.specs.Values.{popped, dropped}
use Rattle.state.specs.Memory.{Hold, made_by}
use Rattle.state.specs.Work as W
use Rattle.state.specs.Work.{Action, Item, St, Act, unfolded, first_release, open_return}
use Rattle.state.specs.States.{Frame, Running, Faulted, new_object}
use Rattle.semantics.specs.Locking.{taken_again}
use Rattle.semantics.specs.Step as S
use Rattle.semantics.specs.Step.{Outcome, Moves, Absent, IsDone, HadFaulted, Waits, changed, seen_by, with_result, act, act_next}
use Rattle.semantics.specs.Run.{frames_of}
use Rattle.reduction.specs.Fits.{final_field_count}
use Rattle.replay.specs.Plain.{Plain}
use Rattle.replay.specs.Answers.{Gives, End, GoesOn, Returns, Ended}
use Rattle.replay.specs.Evaluation.{most_number, most_depth, unless_full, value_found, computed, stored, read_field, write_field, field_written, make, start_thread, start_on, take_held_lock, take_lock, give_held, give_lock}
use Rattle.replay.proofs.Comes.{Local, gone, alone, Own, Above, Comes, there, still, stuck, goes, before, IsFull, objects, threads, locks, After, frame, at}

-- Operands.

-- values put on operands in order, so that the last one is the topmost
abbrev pub pushed : List Value → List Value → List Value
pushed [] ops = ops
pushed (v ∷ vs) ops = pushed vs (v ∷ ops)

one_later : (k j : ℕ) → suc k + j ≡ k + suc j
one_later k j = omega arith

none_more : (j : ℕ) → 0 + j ≡ j
none_more j = omega arith

taken_more : (vs : List Value) (j n : ℕ) (value_found ops : List Value) → n ≡ length vs + j → popped n value_found (pushed vs ops) ≡ popped j (vs ++ value_found) ops
taken_more [] j n value_found ops is = ap (λ k. popped k value_found ops) (is ∙ none_more j)
taken_more (v ∷ vs) j n value_found ops is = taken_more vs (suc j) n value_found (v ∷ ops) (is ∙ one_later (length vs) j)

dropped_more : (vs : List Value) (j n : ℕ) (ops : List Value) → n ≡ length vs + j → dropped n (pushed vs ops) ≡ dropped j ops
dropped_more [] j n ops is = ap (λ k. dropped k ops) (is ∙ none_more j)
dropped_more (v ∷ vs) j n ops is = dropped_more vs (suc j) n (v ∷ ops) (is ∙ one_later (length vs) j)

and_none : (n k : ℕ) → n ≡ k → n ≡ k + 0
and_none n k e = omega (arith, e)

pub taken_pushed : (vs : List Value) (n : ℕ) (ops : List Value) → n ≡ length vs → popped n [] (pushed vs ops) ≡ vs
taken_pushed vs n ops is = taken_more vs 0 n [] ops (and_none n (length vs) is) ∙ append-nil vs

pub dropped_pushed : (vs : List Value) (n : ℕ) (ops : List Value) → n ≡ length vs → dropped n (pushed vs ops) ≡ ops
dropped_pushed vs n ops is = dropped_more vs 0 n ops (and_none n (length vs) is)

-- what a return leaves as operands
abbrev pub returned_ops : Option Value → List Value
returned_ops None = []
returned_ops (Some v) = v ∷ []

module _ (P : Program) (t m0 : ℕ) (base : List Frame) (Goal : Local → Type 0) where
  -- where a number is full, and where there are too many frames, the goal is reached
  abbrev pub ShortOk : Type 0
  ShortOk = (l : Local) → IsFull t l.plain → Goal l

  abbrev pub DeepOk : Type 0
  DeepOk = (l : Local) (c : ℕ) → most_depth < c → Own m0 base c (frames_of l.thread) → Goal l

  -- where an outcome leads to, the thread comes to the goal
  abbrev pub Leads : ℕ → Plain → Outcome → Type 0
  Leads n p (Moves move) = Comes P t m0 base Goal n (record { plain = changed move.change p; thread = move.thread })
  Leads n p Absent = Unit {0}
  Leads n p IsDone = Unit {0}
  Leads n p (HadFaulted kind) = Unit {0}
  Leads n p (Waits a holder) = Unit {0}

  pub goes_to : (n : ℕ) (l : Local) (o : Outcome) → Above m0 base l.thread → alone P t l ≡ gone l.plain o → Leads n l.plain o → Comes P t m0 base Goal n l
  goes_to n l (Moves move) above e k = before P t m0 base Goal n l _ above e k
  goes_to n l Absent above e k = stuck above e
  goes_to n l IsDone above e k = stuck above e
  goes_to n l (HadFaulted kind) above e k = stuck above e
  goes_to n l (Waits a holder) above e k = stuck above e

  pub goes_once : (n : ℕ) (l : Local) (o : Outcome) → Above m0 base l.thread → alone P t l ≡ gone l.plain o → Leads n l.plain o → Comes P t m0 base Goal (suc n) l
  goes_once n l (Moves move) above e k = goes _ above e k
  goes_once n l Absent above e k = stuck above e
  goes_once n l IsDone above e k = stuck above e
  goes_once n l (HadFaulted kind) above e k = stuck above e
  goes_once n l (Waits a holder) above e k = stuck above e

  -- what follows a statement of a frame: after it, the rest comes to the goal; and so does a return, which first gives back the locks whose releases
  -- stand in the rest
  abbrev pub EndsIn : (n m : ℕ) (below : List Frame) (rest : List Item) → End → List Value → Plain → Type 0
  EndsIn n m below rest GoesOn slots q = (w : List Item) → unfolded w ≡ unfolded rest → Comes P t m0 base Goal n (at m below slots [] w q)
  EndsIn n m below rest (Returns v) slots q =
      (w more : List Item) → unfolded w ≡ Some (open_return (first_release rest) more) → Comes P t m0 base Goal n (at m below slots (returned_ops v) w q)

  abbrev pub Ends : (n m : ℕ) (below : List Frame) (rest : List Item) → Ended → Plain → Type 0
  Ends n m below rest x q = EndsIn n m below rest x.end x.slots q

  -- what follows an expression: with its value on the operands, where it has one, the rest comes to the goal
  abbrev pub Push : (n m : ℕ) (below : List Frame) (slots ops : List Value) (rest : List Item) → Bool → Value → Plain → Type 0
  Push n m below slots ops rest b v q = (w : List Item) → unfolded w ≡ unfolded rest → Comes P t m0 base Goal n (at m below slots (with_result b v ops) w q)

  module _ (m : ℕ) (below : List Frame) (d : ℕ) (few : d ≤ most_depth) (tower : (f : Frame) → f.method ≡ m → Own m0 base d (f ∷ below)) where
    pub acts : (n : ℕ) (slots ops : List Value) (w rest : List Item) (a : Action) (p : Plain) → unfolded w ≡ Some (a, rest)
        → Leads n p (act P (seen_by t p) t (frame m slots ops w) below rest a) → Comes P t m0 base Goal n (at m below slots ops w p)
    acts n slots ops w rest a p e k =
        goes_to n (at m below slots ops w p) (act P (seen_by t p) t (frame m slots ops w) below rest a)
        (record { count = d; few = few; own = tower (frame m slots ops w) refl })
        (ap (λ o. gone p (act_next P (seen_by t p) t (frame m slots ops w) below o)) e) k

    pub acts_once : (n : ℕ) (slots ops : List Value) (w rest : List Item) (a : Action) (p : Plain) → unfolded w ≡ Some (a, rest)
        → Leads n p (act P (seen_by t p) t (frame m slots ops w) below rest a) → Comes P t m0 base Goal (suc n) (at m below slots ops w p)
    acts_once n slots ops w rest a p e k =
        goes_once n (at m below slots ops w p) (act P (seen_by t p) t (frame m slots ops w) below rest a)
        (record { count = d; few = few; own = tower (frame m slots ops w) refl })
        (ap (λ o. gone p (act_next P (seen_by t p) t (frame m slots ops w) below o)) e) k

    -- or the goal is reached before the action
    pub acts_or : (n : ℕ) (slots ops : List Value) (w rest : List Item) (a : Action) (p : Plain) → unfolded w ≡ Some (a, rest)
        → Goal (at m below slots ops w p) ⊎ Leads n p (act P (seen_by t p) t (frame m slots ops w) below rest a) → Comes P t m0 base Goal n (at m below slots ops w p)
    acts_or n slots ops w rest a p e (inl g) = there g
    acts_or n slots ops w rest a p e (inr k) = acts n slots ops w rest a p e k

    pub here_still : (slots ops : List Value) (w : List Item) (p : Plain) → Comes P t m0 base Goal zero (at m below slots ops w p)
    here_still slots ops w p = still (record { count = d; few = few; own = tower (frame m slots ops w) refl })

    -- a faulted thread is stuck
    pub faulted : (n : ℕ) (slots ops : List Value) (w : List Item) (p : Plain) (kind : Fault) → Comes P t m0 base Goal n (record { plain = p; thread = Faulted kind (frame m slots ops w ∷ below) })
    faulted n slots ops w p kind = stuck (record { count = d; few = few; own = tower (frame m slots ops w) refl }) refl

    -- in a frame of the method with these slots, and this left to do after the action
    module _ (n : ℕ) (slots : List Value) (w rest : List Item) (p : Plain) where
      pub load_leads : (ops : List Value) (o : Option Value) → After ShortOk DeepOk (Push n m below slots ops rest true) (value_found o p)
          → Leads n p (S.load P (seen_by t p) t (frame m slots ops w) below rest o)
      load_leads ops None k = faulted n slots ops w p _
      load_leads ops (Some v) k = k rest refl

      pub store_leads : (x : ℕ) (v : Value) (o : Option Value) → After ShortOk DeepOk (Ends n m below rest) (stored x v o slots p)
          → Leads n p (S.store P (seen_by t p) t (frame m slots (v ∷ []) w) below rest x o)
      store_leads x v None k = faulted n slots (v ∷ []) w p _
      store_leads x v (Some old) k = k rest refl

      pub binary_leads : (a b : Value) (ops : List Value) (o : Option Value) → After ShortOk DeepOk (Push n m below slots ops rest true) (computed o p)
          → Leads n p (S.binary P (seen_by t p) t (frame m slots (b ∷ a ∷ ops) w) below rest o)
      binary_leads a b ops None k = faulted n slots (b ∷ a ∷ ops) w p _
      binary_leads a b ops (Some v) k = k rest refl

      get_value_leads : (v : Value) (ops : List Value) (a : Address) (field : Option Field) (o : Option Value) → After ShortOk DeepOk (Push n m below slots ops rest true) (value_found o p)
          → Leads n p (S.get_value P (seen_by t p) t (frame m slots (v ∷ ops) w) below rest a field o)
      get_value_leads v ops a field None k = faulted n slots (v ∷ ops) w p _
      get_value_leads v ops a field (Some old) k = k rest refl

      pub get_leads : (f : ℕ) (v : Value) (ops : List Value) (o : Option Address) → After ShortOk DeepOk (Push n m below slots ops rest true) (read_field P f o p)
          → Leads n p (S.get P (seen_by t p) t (frame m slots (v ∷ ops) w) below rest f o)
      get_leads f v ops None k = faulted n slots (v ∷ ops) w p _
      get_leads f v ops (Some a) k = get_value_leads v ops a (slice_get P.fields f) _ k

      put_value_leads : (on v : Value) (a : Address) (field : Option Field) (o : Option Value)
          → After ShortOk DeepOk (λ (_ : Unit {0}) q. Ends n m below rest (record { end = GoesOn; slots = slots }) q) (field_written a (S.index_of field) v o p)
          → Leads n p (S.put_value P (seen_by t p) t (frame m slots (v ∷ on ∷ []) w) below rest a field o)
      put_value_leads on v a field None k = faulted n slots (v ∷ on ∷ []) w p _
      put_value_leads on v a field (Some old) k = k rest refl

      pub put_leads : (f : ℕ) (on v : Value) (o : Option Address)
          → After ShortOk DeepOk (λ (_ : Unit {0}) q. Ends n m below rest (record { end = GoesOn; slots = slots }) q) (write_field P f o v p)
          → Leads n p (S.put P (seen_by t p) t (frame m slots (v ∷ on ∷ []) w) below rest f o)
      put_leads f on v None k = faulted n slots (v ∷ on ∷ []) w p _
      put_leads f on v (Some a) k = put_value_leads on v a (slice_get P.fields f) _ k

      pub release_leads : (ops : List Value) (a : Address) (o : Option Hold) → After ShortOk DeepOk (λ (_ : Unit {0}) q. Comes P t m0 base Goal n (at m below slots ops rest q)) (give_lock t a o p)
          → Leads n p (S.release P (seen_by t p) t (frame m slots ops w) below rest a o)
      release_leads ops a None k = faulted n slots ops w p _
      release_leads ops a (Some hold) k = by_mine (hold.holder == t) k
        where
          by_mine : (b : Bool) → After ShortOk DeepOk (λ (_ : Unit {0}) q. Comes P t m0 base Goal n (at m below slots ops rest q)) (give_held a hold b p)
              → Leads n p (S.release_held P (seen_by t p) t (frame m slots ops w) below rest a hold b)
          by_mine false k = faulted n slots ops w p _
          by_mine true k = k

      -- Actions that want room for a number.

      abbrev next : Address
      next = record { thread = t; count = made_by t p.heap }

      -- after an object was made from these arguments, over these operands
      abbrev Made : (c : ℕ) → (arguments left : List Value) → Type 0
      Made c arguments left = Comes P t m0 base Goal n
          (record { plain = changed (S.ObjectIs next (new_object P c arguments)) p; thread = Running (frame m slots (value.Ref next ∷ left) rest ∷ below) })

      made_leads : (c : ℕ) (vs ops : List Value) (class : Class) → length class.finals ≡ length vs → (b : Bool) → nat_lt most_number (made_by t p.heap) ≡ b
          → After ShortOk DeepOk (Push n m below slots ops rest true) (unless_full b (Gives (value.Ref next) (changed (S.ObjectIs next (new_object P c vs)) p)))
          → Goal (at m below slots (pushed vs ops) w p) ⊎ Leads n p (S.new P (seen_by t p) t (frame m slots (pushed vs ops) w) below rest c (Some class))
      made_leads c vs ops class count true e k = inl (k (at m below slots (pushed vs ops) w p) (objects (ltb-true most_number (made_by t p.heap) e)))
      made_leads c vs ops class count false e k =
          inr (subst (λ z. Made c z (dropped (length class.finals) (pushed vs ops))) (sym (taken_pushed vs (length class.finals) ops count))
          (subst (Made c vs) (sym (dropped_pushed vs (length class.finals) ops count)) (k rest refl)))

      pub new_leads : (c : ℕ) (vs ops : List Value) (o : Option Class) → final_field_count o ≡ length vs → After ShortOk DeepOk (Push n m below slots ops rest true) (make P t c o vs p)
          → Goal (at m below slots (pushed vs ops) w p) ⊎ Leads n p (S.new P (seen_by t p) t (frame m slots (pushed vs ops) w) below rest c o)
      new_leads c vs ops None count k = inr (faulted n slots (pushed vs ops) w p _)
      new_leads c vs ops (Some class) count k = made_leads c vs ops class count (nat_lt most_number (made_by t p.heap)) refl k

      pub start_leads : (v : Value) (o : Option Address) → After ShortOk DeepOk (λ (_ : Unit {0}) q. Ends n m below rest (record { end = GoesOn; slots = slots }) q) (start_on P o p)
          → Goal (at m below slots (v ∷ []) w p) ⊎ Leads n p (S.start P (seen_by t p) t (frame m slots (v ∷ []) w) below rest o)
      start_leads v None k = inr (faulted n slots (v ∷ []) w p _)
      start_leads v (Some a) k = by_run (S.run_of P (S.object_class (M.get p.heap a))) k
        where
          by_room : (r : ℕ) (b : Bool) → nat_lt most_number (length p.threads) ≡ b
              → After ShortOk DeepOk (λ (_ : Unit {0}) q. Ends n m below rest (record { end = GoesOn; slots = slots }) q) (unless_full b (Gives tt (changed (S.Starts a r) p)))
              → Goal (at m below slots (v ∷ []) w p) ⊎ Leads n p (S.start_run P (seen_by t p) t (frame m slots (v ∷ []) w) below rest a (Some r))
          by_room r true e k = inl (k (at m below slots (v ∷ []) w p) (threads (ltb-true most_number (length p.threads) e)))
          by_room r false e k = inr (k rest refl)

          by_run : (o : Option ℕ) → After ShortOk DeepOk (λ (_ : Unit {0}) q. Ends n m below rest (record { end = GoesOn; slots = slots }) q) (start_thread a o p)
              → Goal (at m below slots (v ∷ []) w p) ⊎ Leads n p (S.start_run P (seen_by t p) t (frame m slots (v ∷ []) w) below rest a o)
          by_run None k = inr (faulted n slots (v ∷ []) w p _)
          by_run (Some r) k = by_room r (nat_lt most_number (length p.threads)) refl k

      pub take_leads : (v : Value) (s : Stmt) (a : Address) (o : Option Hold) → M.get p.locks a ≡ o
          → After ShortOk DeepOk (λ (_ : Unit {0}) q. Comes P t m0 base Goal n (at m below slots [] (St s ∷ Act (W.Release a) ∷ rest) q)) (take_lock t a o p)
          → Goal (at m below slots (v ∷ []) w p) ⊎ Leads n p (S.take P (seen_by t p) t (frame m slots (v ∷ []) w) below rest s a o)
      take_leads v s a None is k = inr k
      take_leads v s a (Some hold) is k = by_mine (hold.holder == t) k
        where
          by_room : (b : Bool) → nat_lt most_number (hold.count + 1) ≡ b
              → After ShortOk DeepOk (λ (_ : Unit {0}) q. Comes P t m0 base Goal n (at m below slots [] (St s ∷ Act (W.Release a) ∷ rest) q)) (unless_full b (Gives tt (changed (S.LockIs a (Some (taken_again hold))) p)))
              → Goal (at m below slots (v ∷ []) w p) ⊎ Leads n p (S.take_held P (seen_by t p) t (frame m slots (v ∷ []) w) below rest s a hold true)
          by_room true e k = inl (k (at m below slots (v ∷ []) w p) (locks a hold is (ltb-true most_number (hold.count + 1) e)))
          by_room false e k = inr k

          by_mine : (b : Bool) → After ShortOk DeepOk (λ (_ : Unit {0}) q. Comes P t m0 base Goal n (at m below slots [] (St s ∷ Act (W.Release a) ∷ rest) q)) (take_held_lock a hold b p)
              → Goal (at m below slots (v ∷ []) w p) ⊎ Leads n p (S.take_held P (seen_by t p) t (frame m slots (v ∷ []) w) below rest s a hold b)
          by_mine false k = inr tt
          by_mine true k = by_room (nat_lt most_number (hold.count + 1)) refl k
