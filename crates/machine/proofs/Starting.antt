-- The machine at the start.
use Rattle.std.proofs.Common.{◌≡◌, ℕ, ℤ, List, [], ◌∷◌, sym, ap, subst}
use Rattle.std.specs.Prelude.{map}
use Rattle.std.specs.FinMap as finite
use Rattle.core_program.specs.Core.{Program}
use Rattle.state.specs.Memory.{Heap, Locks}
use Rattle.state.specs.States.{ThreadOf, Ready, initial, main_address}
use Rattle.state.specs.Frames.{CellFrame, code_thread}
use Rattle.compile.specs.declared.stack.Code.{Code}
use Rattle.machine.specs.Likeness.{StateStands, ThreadsStand, no_threads, more_threads, ready_stands}
use Rattle.machine.specs.Reaching.{AllReached, IsKept}
use Rattle.machine.specs.Rooms.{AllRoomy}
use Rattle.machine.specs.Taken.{state_in}

module _ (P : Program) (code : List Code) (heap : Heap) (locks : Locks) (threads : List (ThreadOf CellFrame)) (output : List ℤ)
    (heap_is : heap ≡ (initial P).heap) (locks_is : locks ≡ finite.empty) (threads_is : threads ≡ Ready main_address P.main ∷ []) (output_is : output ≡ []) where
  pub started : StateStands P code (state_in heap locks threads output) (initial P)
  started = record {
    heap = heap_is;
    locks = locks_is;
    threads = subst (λ ts. ThreadsStand P code ts (Ready main_address P.main ∷ [])) (sym (ap (map code_thread) threads_is))
        (more_threads (Ready main_address P.main) (Ready main_address P.main) [] [] (ready_stands main_address P.main) no_threads);
    output = output_is;
  }

  pub start_kept : (entry room : List ℕ) → IsKept P code entry room (record { heap = heap; locks = locks; threads = threads; output = output })
  start_kept entry room = record {
    reached = λ typed. subst (λ ts. AllReached P code entry room (map code_thread ts)) (sym threads_is) (tt, tt);
    roomy = subst (AllRoomy room) (sym threads_is) (tt, tt);
    stood = initial P;
    stands = started;
  }
