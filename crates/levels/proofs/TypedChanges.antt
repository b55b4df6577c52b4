-- What a typed program gives, what stays typed in a heap that has grown, and the types of computed values.
use Rattle.std.proofs.Common.{◌≡◌, ℕ, Bool, true, false, List, [], ◌∷◌, Some, None, sym, ap, subst, ◌∙◌}
use Rattle.std.specs.Prelude.{Option, slice_get, filter, if◌then◌else◌}
use Rattle.std.proofs.lemmas.Option.{none-some, same_Some}
use Rattle.core_program.specs.declared.types.CoreType.{CoreType}
use Rattle.core_program.specs.declared.types.CoreOp.{CoreOp}
use Rattle.core_program.specs.declared.types.CoreOp.TheVariants.{Eq, Ne, Lt, Le, Gt, Ge, Add, Sub, Mul, Div, Rem}
use Rattle.core_program.specs.declared.types.UnaryOp.{UnaryOp}
use Rattle.core_program.specs.declared.types.UnaryOp.TheVariants.{Not, Neg}
use Rattle.core_program.specs.Core.{Program, Class, Method}
use Rattle.core_program.specs.Dispatch.{target_of}
use Rattle.core_program.specs.Typed.{is_final_at}
use Rattle.state.specs.declared.value.Address.{Address}
use Rattle.state.specs.declared.value.Value.{Value}
use Rattle.state.specs.declared.value.Value.TheVariants as value
use Rattle.state.specs.Values.{unary_value, binary_value}
use Rattle.state.specs.Memory.{Object}
use Rattle.state.specs.States.{Frame, Thread, Ready, Running, Done, Faulted}
use Rattle.semantics.specs.Step.{Change, Starts, new}
use Rattle.reduction.specs.Fits.{TidyS}
use Rattle.levels.specs.SlotTypes.{SlotType, slot_types, result_slot_type, Has}
use Rattle.levels.specs.Suited.{IsPlain, brought, SuitsResult, SuitedS}
use Rattle.levels.specs.TypedStates.{Stays, AreTypedFrames, IsTypedStart, IsTypedThread}
use Rattle.levels.proofs.Heaps.{each_stays, slots_stay}

-- what the proof uses of a typed program
pub record IsSuitedProgram (P : Program) (mark : ℕ → ℕ) : Type 0 where
  pub tidy : (m : ℕ) (method : Method) → slice_get P.methods m ≡ Some method → TidyS P method.body
  pub suited : (m : ℕ) (method : Method) → slice_get P.methods m ≡ Some method → SuitedS P mark (slot_types method) method.result method.body
  pub params : (c m n : ℕ) (method running : Method) → target_of P c m ≡ Some n → slice_get P.methods m ≡ Some method → slice_get P.methods n ≡ Some running → running.params ≡ method.params
  pub result : (c m n : ℕ) (method running : Method) → target_of P c m ≡ Some n → slice_get P.methods m ≡ Some method → slice_get P.methods n ≡ Some running → running.result ≡ method.result
  pub of_class : (c m n : ℕ) (running : Method) → target_of P c m ≡ Some n → slice_get P.methods n ≡ Some running → mark running.class ≡ mark c
  pub run_params : (c : ℕ) (class : Class) (m : ℕ) (method : Method) → slice_get P.classes c ≡ Some class → class.run ≡ Some m → slice_get P.methods m ≡ Some method → method.params ≡ []
  pub run_class : (c : ℕ) (class : Class) (m : ℕ) (method : Method) → slice_get P.classes c ≡ Some class → class.run ≡ Some m → slice_get P.methods m ≡ Some method → mark method.class ≡ mark c
  pub finals : (c : ℕ) (class : Class) → slice_get P.classes c ≡ Some class → class.finals ≡ filter (λ f. is_final_at (slice_get P.fields f)) class.fields

module _ (P : Program) (mark : ℕ → ℕ) where
  -- a new thread is ready on an object of the right class
  abbrev pub IsTypedChange : (Address → Option Object) → Change → Type 0
  IsTypedChange objects (Starts a m) = IsTypedStart P mark objects a m
  IsTypedChange objects _ = Unit {0}

  -- frames and threads in a heap that has grown
  module _ (old new : Address → Option Object) (stays : Stays old new) where
    pub frames_stay : (fs : List Frame) (coming : List SlotType) → AreTypedFrames P mark old fs coming → AreTypedFrames P mark new fs coming
    frames_stay [] coming f = tt
    frames_stay (g ∷ fs) coming f = (
      record {
        method = f.0.method;
        is = f.0.is;
        slots = slots_stay mark old new stays P (slot_types f.0.method) g.slots f.0.slots;
        types = f.0.types;
        operands = each_stays mark old new stays f.0.types g.operands f.0.operands;
        suited = f.0.suited;
      },
      frames_stay fs (brought (result_slot_type (slice_get P.methods g.method))) f.1,
    )

    pub start_stays : (a : Address) (m : ℕ) → IsTypedStart P mark old a m → IsTypedStart P mark new a m
    start_stays a m s = let later = stays a s.object s.there in record {
      object = later.0;
      there = later.1;
      no_parameters = s.no_parameters;
      of_class = λ method is. s.of_class method is ∙ sym (ap mark later.2);
    }

    pub thread_stays : (o : Option Thread) → IsTypedThread P mark old o → IsTypedThread P mark new o
    thread_stays None t = tt
    thread_stays (Some (Ready a m)) t = start_stays a m t
    thread_stays (Some (Running fs)) t = frames_stay fs [] t
    thread_stays (Some Done) t = tt
    thread_stays (Some (Faulted why fs)) t = tt

  module _ (objects : Address → Option Object) where
    pub plain_has : (t : SlotType) (v : Value) → IsPlain v → Has mark objects t v
    plain_has t (value.Ref a) plain = absurd plain
    plain_has t (value.Int n) plain = tt
    plain_has t (value.Truth b) plain = tt
    plain_has t value.Null plain = tt

    pub unary_has : (t : SlotType) (op : UnaryOp) (v : Value) → Has mark objects t (unary_value op v)
    unary_has t Not v = tt
    unary_has t Neg v = tt

    same_has : (t : SlotType) (v w : Value) → Some v ≡ Some w → Has mark objects t v → Has mark objects t w
    same_has t v w e has = subst (Has mark objects t) (same_Some v w e) has

    zero_has : (t : SlotType) (b : Bool) (n : Rattle.std.specs.Prelude.ℤ) (w : Value) → (if b then None else Some (value.Int n)) ≡ Some w → Has mark objects t w
    zero_has t true n w e = absurd (none-some w e)
    zero_has t false n w e = same_has t (value.Int n) w e tt

    pub binary_has : (t : SlotType) (op : CoreOp) (a b w : Value) → binary_value op a b ≡ Some w → Has mark objects t w
    binary_has t Eq a b w e = same_has t _ w e tt
    binary_has t Ne a b w e = same_has t _ w e tt
    binary_has t Lt a b w e = same_has t _ w e tt
    binary_has t Le a b w e = same_has t _ w e tt
    binary_has t Gt a b w e = same_has t _ w e tt
    binary_has t Ge a b w e = same_has t _ w e tt
    binary_has t Add a b w e = same_has t _ w e tt
    binary_has t Sub a b w e = same_has t _ w e tt
    binary_has t Mul a b w e = same_has t _ w e tt
    binary_has t Div a b w e = zero_has t _ _ w e
    binary_has t Rem a b w e = zero_has t _ _ w e

  pub no_result_suits : (r : Option CoreType) → SuitsResult mark r []
  no_result_suits None = tt
  no_result_suits (Some t) = λ n m. absurd m
