-- Which ending comes for the answer to `generate`.
use Rattle.std.proofs.Common.{◌≡◌, ℕ, List, subst}
use Rattle.schedule.specs.Sources.{generated_source}
use Rattle.schedule.proofs.Counted.{generated_once}
use Rattle.schedule.specs.Written.{written}
use Rattle.sources.specs.declared.refusal.Ending.{Ending}
use Rattle.schedule_commands.specs.Serialise.{SerialiseFact}
use Rattle.schedule_commands.specs.Generate.{GenerateAnswer, GenerateFact, refused, generated}
use Rattle.schedule_commands.proofs.ScheduleEndings.{serialise_caused, serialise_apart}

pub generate_caused : (n : ℕ) (ended : Ending) (out : List ℕ) → GenerateAnswer n ended out → GenerateFact n ended
generate_caused n _ _ (refused {ended = ended} {line = line} s made not_done is) = (s, made, serialise_caused (generated_source n) (written s) ended line is)
generate_caused n _ _ (generated s tree P q made input accepted ran outside is) = (s, made, (tree, P, s, input, (accepted, (q, ran, outside))))

pub generate_apart : (n : ℕ) (one other : Ending) → GenerateFact n one → GenerateFact n other → one ≡ other
generate_apart n one other f g =
    serialise_apart (generated_source n) (written f.0) one other f.2 (subst (λ s. SerialiseFact (generated_source n) (written s) other) (generated_once n g.0 f.0 g.1 f.1) g.2)
