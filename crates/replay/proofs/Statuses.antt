-- The statuses of a machine's threads are those of the threads that they stand for.
use Rattle.std.proofs.Common.{◌≡◌, List, [], ◌∷◌, refl, ap, ◌∙◌}
use Rattle.std.specs.Prelude.{map}
use Rattle.core_program.specs.Core.{Program}
use Rattle.state.specs.States.{Thread, ThreadOf, Ready, Running, Done, Faulted}
use Rattle.state.specs.Frames.{CellFrame, code_thread}
use Rattle.compile.specs.declared.stack.Code.{Code}
use Rattle.machine.specs.Likeness.{ThreadStands, ready_stands, running_stands, done_stands, faulted_stands, ThreadsStand, no_threads, more_threads}
use Rattle.replay.specs.Plain.{PlainThread, plain_thread}

module _ (P : Program) (code : List Code) where
  status_same : (c : ThreadOf CellFrame) (t : Thread) → ThreadStands P code (code_thread c) t → plain_thread c ≡ plain_thread t
  status_same (Ready _ _) _ (ready_stands a m) = refl
  status_same (Running fs) _ (running_stands _ gs stand) = refl
  status_same Done _ done_stands = refl
  status_same (Faulted _ fs) _ (faulted_stands kind _ gs stand) = refl

  pub statuses_same : (cs : List (ThreadOf CellFrame)) (ts : List Thread) → ThreadsStand P code (map code_thread cs) ts → map plain_thread cs ≡ map plain_thread ts
  statuses_same [] _ no_threads = refl
  statuses_same (c ∷ cs) _ (more_threads _ x _ ts one more) =
      ap (λ (p : PlainThread). p ∷ map plain_thread cs) (status_same c x one) ∙ ap (λ (ps : List PlainThread). plain_thread x ∷ ps) (statuses_same cs ts more)
