-- A call: its body is evaluated with one turn less, and one step enters it.
use Rattle.std.proofs.Common.{◌≡◌, ℕ, zero, suc, ◌<◌, ◌≤◌, Bool, true, false, List, [], ◌∷◌, Some, None, refl, sym, ap, subst, ◌∙◌, arith}
use Rattle.std.specs.Prelude.{Option, length, nat_lt, slice_get, is_some}
use Rattle.std.specs.FinMap as M
use Rattle.std.proofs.lemmas.Bool.{ltb-true, ltb-false}
use Rattle.std.proofs.lemmas.Option.{none-some}
use Rattle.core_program.specs.Core.{Program, Method, Stmt}
use Rattle.state.specs.declared.value.Address.{Address}
use Rattle.state.specs.declared.value.Value.{Value}
use Rattle.state.specs.declared.value.Value.TheVariants as value
use Rattle.state.specs.Values.{top, under, dropped, address_of}
use Rattle.state.specs.Work as W
use Rattle.state.specs.Work.{Item, St, Act, unfolded}
use Rattle.state.specs.States.{Frame, Running, new_frame, new_slots}
use Rattle.semantics.specs.Step as S
use Rattle.semantics.specs.Step.{seen_by, has_result, target_at, object_class, with_result, most_frames}
use Rattle.reduction.specs.Fits.{arity_of, TidyS}
use Rattle.replay.specs.Plain.{Plain}
use Rattle.replay.specs.Answers.{Gives, End, GoesOn, Returns, ended_value}
use Rattle.replay.specs.Evaluation as E
use Rattle.replay.specs.Evaluation.{Lower, most_depth}
use Rattle.replay.proofs.Comes.{Local, Own, Comes, there, weak, After, chain, frame, at, upon}
use Rattle.replay.proofs.Leaves.{pushed, taken_pushed, dropped_pushed, returned_ops, ShortOk, DeepOk, Leads, EndsIn, Ends, Push, acts, acts_once, here_still, faulted}
use Rattle.replay.proofs.Neat.{IsNeat}

fewer : (d : ℕ) → d < 100 → suc d ≤ 100
fewer d e = omega (arith, e)

many : (d : ℕ) → 100 ≤ d → 100 < suc d
many d e = omega (arith, e)

top_returned : (v : Option Value) → top (returned_ops v) ≡ ended_value (Returns v)
top_returned None = refl
top_returned (Some v) = refl

module _ (P : Program) (t m0 : ℕ) (base : List Frame) (Goal : Local → Type 0) where
  -- with n turns, and so with n steps, statements of the bodies of calls come to what follows them
  abbrev pub LowOk : ℕ → Lower → Type 0
  LowOk n low = (m : ℕ) (below : List Frame) (d : ℕ) → d ≤ most_depth → ((f : Frame) → f.method ≡ m → Own m0 base d (f ∷ below))
      → (s : Stmt) → TidyS P s → (slots : List Value) (rest w : List Item) (p : Plain) → unfolded w ≡ unfolded (St s ∷ rest)
      → After (ShortOk P t m0 base Goal) (DeepOk P t m0 base Goal) (Ends P t m0 base Goal n m below rest) (low d s slots p)
      → Comes P t m0 base Goal n (at m below slots [] w p)

  -- what is known with one turn less
  abbrev pub FuelOk : ℕ → Option Lower → Type 0
  FuelOk zero None = Unit {0}
  FuelOk zero (Some low) = ⊥
  FuelOk (suc n) None = ⊥
  FuelOk (suc n) (Some low) = LowOk n low

  -- what follows a statement, with one step less
  pub weak_ends : (n m : ℕ) (below : List Frame) (rest : List Item) (end : End) (slots : List Value) (q : Plain)
      → EndsIn P t m0 base Goal (suc n) m below rest end slots q → EndsIn P t m0 base Goal n m below rest end slots q
  weak_ends n m below rest GoesOn slots q k = λ w e. weak P t m0 base Goal n (at m below slots [] w q) (k w e)
  weak_ends n m below rest (Returns v) slots q k = λ w more e. weak P t m0 base Goal n (at m below slots (returned_ops v) w q) (k w more e)

  -- the result of the method that runs
  same_result : IsNeat P → (m2 r : ℕ) (o : Option ℕ) (method running : Method) → slice_get P.methods m2 ≡ Some method → slice_get P.methods r ≡ Some running
      → target_at P m2 o ≡ Some r → has_result (slice_get P.methods r) ≡ has_result (slice_get P.methods m2)
  same_result neat m2 r None method running stands runs target = absurd (none-some r target)
  same_result neat m2 r (Some c) method running stands runs target =
      ap has_result runs ∙ ap is_some (neat.results c m2 r method running stands runs target) ∙ sym (ap has_result stands)

  module _ (neat : IsNeat P) (m : ℕ) (below : List Frame) (d : ℕ) (few : d ≤ most_depth) (tower : (f : Frame) → f.method ≡ m → Own m0 base d (f ∷ below)) where
    module _ (n : ℕ) (low : Lower) (ok : LowOk n low) (slots ops : List Value) (vs : List Value) (on : Value) (w rest : List Item) (p : Plain) (m2 : ℕ) where
      abbrev S0 : Type 0
      S0 = ShortOk P t m0 base Goal

      abbrev D0 : Type 0
      D0 = DeepOk P t m0 base Goal

      -- what follows the call
      abbrev Kept : Value → Plain → Type 0
      Kept = Push P t m0 base Goal (suc n) m below slots ops rest (has_result (slice_get P.methods m2))

      -- the caller while the call is open
      abbrev caller : List Value → Frame
      caller left = frame m slots (under left) rest

      abbrev Entered : (r : ℕ) → Method → Address → (arguments left : List Value) → Type 0
      Entered r method a arguments left = Comes P t m0 base Goal n
          (record { plain = p; thread = Running (new_frame r method (value.Ref a) arguments ∷ caller left ∷ below) })

      tower_in : (r : ℕ) (left : List Value) (f : Frame) → f.method ≡ r → Own m0 base (suc d) (f ∷ caller left ∷ below)
      tower_in r left f same = upon f d (caller left ∷ below) (tower (caller left) refl)

      module _ (r : ℕ) (few2 : suc d ≤ most_depth) (same : has_result (slice_get P.methods r) ≡ has_result (slice_get P.methods m2)) where
        returns_with : (q : Plain) (v : Value) (left : List Item) (inner_slots inner_ops : List Value) (w2 : List Item) → unfolded w2 ≡ Some (W.Ret, left)
            → top inner_ops ≡ v → Kept v q → Comes P t m0 base Goal n (at r (caller (on ∷ ops) ∷ below) inner_slots inner_ops w2 q)
        returns_with q v left inner_slots inner_ops w2 e is k =
            acts P t m0 base Goal r (caller (on ∷ ops) ∷ below) (suc d) few2 (tower_in r (on ∷ ops)) n inner_slots inner_ops w2 left W.Ret q e
            (subst (λ b. Comes P t m0 base Goal n (at m below slots (with_result b (top inner_ops) ops) rest q)) (sym same)
            (subst (λ x. Comes P t m0 base Goal n (at m below slots (with_result (has_result (slice_get P.methods m2)) x ops) rest q)) (sym is)
            (weak P t m0 base Goal n (at m below slots (with_result (has_result (slice_get P.methods m2)) v ops) rest q) (k rest refl))))

        returns : (end : End) (inner_slots : List Value) (q : Plain) → Kept (ended_value end) q → EndsIn P t m0 base Goal n r (caller (on ∷ ops) ∷ below) (Act W.Ret ∷ []) end inner_slots q
        returns GoesOn inner_slots q k = λ w2 e. returns_with q value.Null [] inner_slots [] w2 e refl k
        returns (Returns v) inner_slots q k = λ w2 more e. returns_with q (ended_value (Returns v)) more inner_slots (returned_ops v) w2 e (top_returned v) k

      enter_leads : (r : ℕ) (method : Method) (a : Address) → slice_get P.methods r ≡ Some method → has_result (slice_get P.methods r) ≡ has_result (slice_get P.methods m2)
          → (b : Bool) → nat_lt d most_depth ≡ b → After S0 D0 Kept (E.body_unless_deep P t (Some low) d low b method.body (new_slots method (value.Ref a) vs) p) → Entered r method a vs (on ∷ ops)
      enter_leads r method a is same false e k = there (k _ (suc d) (many d (ltb-false d most_depth e)) (tower_in r (on ∷ ops) (new_frame r method (value.Ref a) vs) refl))
      enter_leads r method a is same true e k =
          let few2 = fewer d (ltb-true d most_depth e) in
          ok r (caller (on ∷ ops) ∷ below) (suc d) few2 (tower_in r (on ∷ ops)) method.body (neat.bodies r method is) (new_slots method (value.Ref a) vs) (Act W.Ret ∷ []) (St method.body ∷ Act W.Ret ∷ []) p refl
          (chain S0 D0 Kept (Ends P t m0 base Goal n r (caller (on ∷ ops) ∷ below) (Act W.Ret ∷ [])) (low (suc d) method.body (new_slots method (value.Ref a) vs) p)
          (λ x q. Gives (ended_value x.end) q) (λ x q g. returns r few2 same x.end x.slots q g) k)

      module _ (called : Method) (stands : slice_get P.methods m2 ≡ Some called) (count : length called.params ≡ length vs) where
        abbrev f : Frame
        f = frame m slots (pushed vs (on ∷ ops)) w

        arity : ℕ
        arity = length called.params

        room_leads : (r : ℕ) (method : Method) (a : Address) (b : Bool) → Entered r method a vs (on ∷ ops) → Leads P t m0 base Goal n p (S.enter P (seen_by t p) t f below rest (length called.params) r method a b)
        room_leads r method a false k = faulted P t m0 base Goal m below d few tower n slots (pushed vs (on ∷ ops)) w p _
        room_leads r method a true k =
            subst (λ z. Entered r method a z (dropped (length called.params) (pushed vs (on ∷ ops)))) (sym (taken_pushed vs (length called.params) (on ∷ ops) count))
            (subst (Entered r method a vs) (sym (dropped_pushed vs (length called.params) (on ∷ ops) count)) k)

        some_leads : (r : ℕ) (a : Address) (o : Option Method) → slice_get P.methods r ≡ o → target_at P m2 (object_class (M.get p.heap a)) ≡ Some r
            → After S0 D0 Kept (E.enter_method P t (Some low) d o a vs p) → Leads P t m0 base Goal n p (S.enter_some P (seen_by t p) t f below rest (length called.params) r o a)
        some_leads r a None is target k = faulted P t m0 base Goal m below d few tower n slots (pushed vs (on ∷ ops)) w p _
        some_leads r a (Some method) is target k =
            room_leads r method a (nat_lt (length (f ∷ below)) most_frames)
            (enter_leads r method a is (same_result neat m2 r (object_class (M.get p.heap a)) called method stands is target) (nat_lt d most_depth) refl k)

        dispatch_leads : (a : Address) (o : Option ℕ) → target_at P m2 (object_class (M.get p.heap a)) ≡ o
            → After S0 D0 Kept (E.dispatch_call P t (Some low) d o a vs p) → Leads P t m0 base Goal n p (S.dispatch P (seen_by t p) t f below rest (length called.params) o a)
        dispatch_leads a None is k = faulted P t m0 base Goal m below d few tower n slots (pushed vs (on ∷ ops)) w p _
        dispatch_leads a (Some r) is k = some_leads r a (slice_get P.methods r) refl is k

        call_on_leads : (o : Option Address) → After S0 D0 Kept (E.call_method_on P t (Some low) d m2 o vs p)
            → Leads P t m0 base Goal n p (S.call_on P (seen_by t p) t f below rest (length called.params) m2 o)
        call_on_leads None k = faulted P t m0 base Goal m below d few tower n slots (pushed vs (on ∷ ops)) w p _
        call_on_leads (Some a) k = dispatch_leads a _ refl k

      call_leads : (o : Option Method) → slice_get P.methods m2 ≡ o → arity_of o ≡ length vs → After S0 D0 Kept (E.call_method P t (Some low) d m2 o (address_of on) vs p)
          → Leads P t m0 base Goal n p (S.call P (seen_by t p) t (frame m slots (pushed vs (on ∷ ops)) w) below rest m2 o)
      call_leads None is count k = faulted P t m0 base Goal m below d few tower n slots (pushed vs (on ∷ ops)) w p _
      call_leads (Some called) is count k =
          subst (λ z. Leads P t m0 base Goal n p (S.call_on P (seen_by t p) t (frame m slots (pushed vs (on ∷ ops)) w) below rest (length called.params) m2 (address_of (top z))))
          (sym (dropped_pushed vs (length called.params) (on ∷ ops) count)) (call_on_leads called is count (address_of on) k)

    -- a call comes to what follows it
    pub call_comes : (n : ℕ) (lower : Option Lower) → FuelOk n lower → (slots ops vs : List Value) (on : Value) (w rest : List Item) (p : Plain) (m2 : ℕ)
        → arity_of (slice_get P.methods m2) ≡ length vs → unfolded w ≡ Some (W.Call m2, rest)
        → After (ShortOk P t m0 base Goal) (DeepOk P t m0 base Goal) (Push P t m0 base Goal n m below slots ops rest (has_result (slice_get P.methods m2)))
        (E.call_method P t lower d m2 (slice_get P.methods m2) (address_of on) vs p)
        → Comes P t m0 base Goal n (at m below slots (pushed vs (on ∷ ops)) w p)
    call_comes zero lower ok slots ops vs on w rest p m2 count e k = here_still P t m0 base Goal m below d few tower slots (pushed vs (on ∷ ops)) w p
    call_comes (suc n) None ok slots ops vs on w rest p m2 count e k = absurd ok
    call_comes (suc n) (Some low) ok slots ops vs on w rest p m2 count e k =
        acts_once P t m0 base Goal m below d few tower n slots (pushed vs (on ∷ ops)) w rest (W.Call m2) p e
        (call_leads n low ok slots ops vs on w rest p m2 (slice_get P.methods m2) refl count k)
