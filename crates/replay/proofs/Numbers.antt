-- Objects that are made.
use Rattle.std.proofs.Common.{◌≡◌, ℕ, false, List, Some, None, refl, sym, subst, ap, ◌∙◌}
use Rattle.std.specs.Prelude.{Option, Result, Ok, Err, OnOk, OnErr, nat_lt}
use Rattle.std.specs.FinMap as M
use Rattle.std.specs.declared.alloc.AllocError.{AllocError}
use Rattle.core_program.specs.Core.{Program, Class}
use Rattle.state.specs.declared.value.Address.{Address}
use Rattle.state.specs.declared.value.Value.{Value}
use Rattle.state.specs.declared.value.Value.TheVariants.{Ref}
use Rattle.state.specs.Memory.{Heap, Object, IsNumbered, made_by, next_address}
use Rattle.state.specs.States.{new_object}
use Rattle.state.proofs.Numbering.{numbered_new}
use Rattle.semantics.specs.Step.{ObjectIs, changed}
use Rattle.replay.specs.Plain.{Plain}
use Rattle.replay.specs.Answers.{Gives}
use Rattle.replay.specs.Evaluation.{most_number, unless_full, make}

-- objects stay numbered
pub numbered_added : (heap new : Heap) (t : ℕ) (a : Address) (o : Object) (r : Result (Unit {0}) AllocError) → a ≡ next_address t heap → OnOk r (new ≡ M.insert heap a o) → OnErr r (new ≡ heap) → IsNumbered heap → IsNumbered new
numbered_added heap new t a o (Ok x) is ok err numbered = subst IsNumbered (sym (ok ∙ ap (λ b. M.insert heap b o) is)) (numbered_new heap t o numbered)
numbered_added heap new t a o (Err e) is ok err numbered = subst IsNumbered (sym err) numbered

-- an object of a class that is there
pub made_is : (P : Program) (t class n : ℕ) (o : Option Class) (arguments : List Value) (q : Plain) (new : Heap) (made : Object) → (o ≡ None → ⊥) → n ≡ made_by t q.heap → nat_lt most_number (made_by t q.heap) ≡ false
    → made ≡ new_object P class arguments → new ≡ M.insert q.heap (record { thread = t; count = n }) made → make P t class o arguments q ≡ Gives (Ref (record { thread = t; count = n })) (record q { heap = new })
made_is P t class n None arguments q new made there count room object is = absurd (there refl)
made_is P t class n (Some c) arguments q new made there count room object is =
    ap (λ b. unless_full b (Gives (Ref (next_address t q.heap)) (changed (ObjectIs (next_address t q.heap) (new_object P class arguments)) q))) room
    ∙ (λ i. Gives (Ref (record { thread = t; count = sym count i })) (record q { heap = M.insert q.heap (record { thread = t; count = sym count i }) (sym object i) }))
    ∙ ap (λ heap. Gives (Ref (record { thread = t; count = n })) (record q { heap = heap })) (sym is)
