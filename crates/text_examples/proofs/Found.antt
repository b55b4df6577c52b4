-- What stands in the maps of the plain state, by computation.
use Rattle.std.proofs.Common.{◌≡◌, ℕ, List, Option, Some, ap}
use Rattle.std.specs.FinMap as M
use Rattle.std.specs.FinMap.{get-from_sorted}
use Rattle.state.specs.declared.value.Value.{Value}
use Rattle.state.specs.Memory.{address_cmp}
use Rattle.semantics.specs.Step.{object_class, target_at}
use Rattle.replay.specs.Calls.{asked_target}
use Rattle.replay.specs.Evaluation.{Lower, dispatch_call}
use Rattle.core_examples.specs.Seen.{here, there, object_of, four_fields}
use Rattle.text_examples.specs.Plain.{quiet, one_object, one_lock}
use Rattle.text_examples.specs.Walked.{crossed, each_waits, held_once}

pub object_is : M.get quiet.heap here ≡ Some (object_of 0)
object_is = get-from_sorted address_cmp one_object here tt

pub lock_is : M.get quiet.locks there ≡ Some (held_once 1)
lock_is = get-from_sorted address_cmp one_lock there tt

pub first_lock : M.get each_waits.locks here ≡ Some (held_once 0)
first_lock = get-from_sorted address_cmp crossed here tt

pub second_lock : M.get each_waits.locks there ≡ Some (held_once 1)
second_lock = get-from_sorted address_cmp crossed there tt

-- what a call on the object comes to, and which call it is
pub call_is : (lower : Option Lower) (m : ℕ) (arguments : List Value) →
    dispatch_call four_fields 5 lower 7 (target_at four_fields m (object_class (M.get quiet.heap here))) here arguments quiet
    ≡ dispatch_call four_fields 5 lower 7 (target_at four_fields m (object_class (Some (object_of 0)))) here arguments quiet
call_is lower m arguments = ap (λ o. dispatch_call four_fields 5 lower 7 (target_at four_fields m (object_class o)) here arguments quiet) object_is

pub asked_is : (arguments : List Value) →
    asked_target here arguments (target_at four_fields 0 (object_class (M.get quiet.heap here))) ≡ asked_target here arguments (target_at four_fields 0 (object_class (Some (object_of 0))))
asked_is arguments = ap (λ o. asked_target here arguments (target_at four_fields 0 (object_class o))) object_is
