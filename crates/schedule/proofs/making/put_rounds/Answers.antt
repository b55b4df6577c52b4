use Rattle.std.proofs.Common.{[], replicate, sym, subst, append-nil, arith}
use Rattle.schedule.specs.Rounds.{AreRounds}
use Rattle.schedule.specs.Made.{several_rounds}
use Rattle.schedule.proofs.Several.{several, alone, nobody}
use Rattle.schedule.proofs.making.put_rounds.Goals as goal

pub returns-in-0 : goal.returns-in-0
returns-in-0 c = ([], subst (λ n. AreRounds (replicate n 0) []) (sym c.in-0.is) nobody, sym (append-nil c.args.schedule.now.items))

pub returns-in_ok-put_times-in-1 : goal.returns-in_ok-put_times-in-1
returns-in_ok-put_times-in-1 c = (replicate 106 1, subst (λ n. AreRounds (replicate n 0) (replicate 106 1)) (sym c.in-1.is) alone, c.in_ok-put_times-in-1.ensures)

pub returns-in_ok-put_several-in_default : goal.returns-in_ok-put_several-in_default
returns-in_ok-put_several-in_default c = (several_rounds c.args.n, several c.args.n (omega (arith, c.in_default)), c.in_ok-put_several-in_default.ensures)
