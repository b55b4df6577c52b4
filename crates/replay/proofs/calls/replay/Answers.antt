use Rattle.std.proofs.Common.{◌≡◌, ◌+◌, [], map, Some, None, refl, sym, ap, subst, ◌∙◌, arith, get_or}
use Rattle.std.proofs.lemmas.Option.{slice_get-get_or}
use Rattle.core_program.specs.Views.{program_of}
use Rattle.state.specs.States.{State}
use Rattle.semantics.specs.Step.{step}
use Rattle.machine.specs.Standing.{StandsFor}
use Rattle.replay.specs.Scanning as scan
use Rattle.replay.specs.declared.calls.ReplayEnd.TheVariants as ends
use Rattle.replay.specs.Views.{record_told, all_told_in, open_of, IsDeepEnd}
use Rattle.serialise.specs.Calls.{AreCalls}
use Rattle.serialise.specs.Tables.{value_or}
use Rattle.replay.proofs.Replaying.{Reached, reached_none, reached_more, reached_end, reached_all, deep_not_few, which_end}
use Rattle.replay.proofs.calls.replay.Goals as goal

pub loop-thread-init : goal.loop-thread-init
loop-thread-init c = (
  c.in_ok-machine.ensures.program,
  c.in_ok-machine.ensures.made,
  refl,
  subst (λ ns. Reached (program_of c.args.program.now) c.args.schedule.now c.in_ok-machine.machine (value_or 0 ns) 0 (map record_told c.new-calls.result.items) None) (sym c.new-inside.ensures.items)
      (subst (λ xs. Reached (program_of c.args.program.now) c.args.schedule.now c.in_ok-machine.machine (value_or 0 []) 0 (map record_told xs) None) (sym c.new-calls.ensures.items)
      (reached_none (program_of c.args.program.now) c.args.schedule.now c.in_ok-machine.machine c.in_ok-machine.ensures.stands)),
)

pub loop-thread-preserved : goal.loop-thread-preserved
loop-thread-preserved c =
    let h = c.loop-thread.invariant in
    let P = program_of c.args.program.now in
    let s = c.args.schedule.now in
    let i = c.loop-thread.thread-index in
    let t = get_or s i 0 in
    let m = c.loop-thread.machine in
    let new = c.enter.new.machine in
    let inner = value_or 0 c.loop-thread.inside.items in
    let later = value_or 0 c.enter.new.calls.items in
    let o = open_of c.loop-thread.open in
    let o2 = open_of c.in-Ok.added.open in
    let more = all_told_in c.in-Ok.added.told in
    let count = c.in-Ok.ensures.counted in
    let made = h.1 in (
      c.enter.ensures.program ∙ h.0,
      omega (arith, count, made),
      ap (λ k. k + 1) h.2,
      subst (λ l. Reached P s new later (i + 1) l o2) (sym c.in_ok-put-in-Ok.ensures.put)
          (reached_more P s c.requires.alone c.requires.whole m new inner later i t (map record_told c.loop-thread.calls.items) more o o2
          (slice_get-get_or s i 0 c.loop-thread-test.true) h.3
          (subst (λ k. (q r : State) → StandsFor m q → AreCalls P q inner → step P q t ≡ Some r → scan.next_of P q r (k + 1) t o ≡ scan.Goes o2 more) h.2
          (subst (λ p. (q r : State) → StandsFor m q → AreCalls p q inner → step p q t ≡ Some r → scan.next_of p q r (c.loop-thread.entry + 1) t o ≡ scan.Goes o2 more) (ap program_of h.0) c.in-Ok.ensures.next))
          (subst (λ p. (q r : State) → StandsFor m q → AreCalls p q inner → step p q t ≡ Some r → StandsFor new r × AreCalls p r later) (ap program_of h.0) c.in-Ok.ensures.stands)),
    )

pub returns-in-Err-clause-deep : goal.returns-in-Err-clause-deep
returns-in-Err-clause-deep c entry is =
    let h = c.loop-thread.invariant in
    let P = program_of c.args.program.now in
    let s = c.args.schedule.now in
    let i = c.loop-thread.thread-index in
    let t = get_or s i 0 in
    let m = c.loop-thread.machine in
    let inner = value_or 0 c.loop-thread.inside.items in
    let o = open_of c.loop-thread.open in
    reached_end P s c.requires.alone c.requires.whole m inner i t (map record_told c.loop-thread.calls.items) o (slice_get-get_or s i 0 c.loop-thread-test.true) h.3 c.in-Err.end
    (subst (λ k. (q r : State) → StandsFor m q → AreCalls P q inner → step P q t ≡ Some r → IsDeepEnd c.in-Err.end (scan.next_of P q r (k + 1) t o)) h.2
    (subst (λ p. (q r : State) → StandsFor m q → AreCalls p q inner → step p q t ≡ Some r → IsDeepEnd c.in-Err.end (scan.next_of p q r (c.loop-thread.entry + 1) t o)) (ap program_of h.0) c.in-Err.ensures.next))
    entry (let end : c.in-Err.end ≡ ends.TooDeep entry = cc in end)

pub returns-in-Err-clause-deeper : goal.returns-in-Err-clause-deeper
returns-in-Err-clause-deeper c =
    let h = c.loop-thread.invariant in
    let P = program_of c.args.program.now in
    let s = c.args.schedule.now in
    let i = c.loop-thread.thread-index in
    let t = get_or s i 0 in
    let m = c.loop-thread.machine in
    let inner = value_or 0 c.loop-thread.inside.items in
    let o = open_of c.loop-thread.open in
    which_end P s c.in-Err.end
    (reached_end P s c.requires.alone c.requires.whole m inner i t (map record_told c.loop-thread.calls.items) o (slice_get-get_or s i 0 c.loop-thread-test.true) h.3 c.in-Err.end
    (subst (λ k. (q r : State) → StandsFor m q → AreCalls P q inner → step P q t ≡ Some r → IsDeepEnd c.in-Err.end (scan.next_of P q r (k + 1) t o)) h.2
    (subst (λ p. (q r : State) → StandsFor m q → AreCalls p q inner → step p q t ≡ Some r → IsDeepEnd c.in-Err.end (scan.next_of p q r (c.loop-thread.entry + 1) t o)) (ap program_of h.0) c.in-Err.ensures.next)))

pub returns-clause-calls : goal.returns-clause-calls
returns-clause-calls c =
    let over = c.loop-thread-test.false in
    let h = c.loop-thread.invariant in
    (reached_all (program_of c.args.program.now) c.args.schedule.now c.requires.alone c.loop-thread.machine (value_or 0 c.loop-thread.inside.items) c.loop-thread.thread-index (map record_told c.loop-thread.calls.items) (open_of c.loop-thread.open) (omega (arith, over)) h.3).0

pub returns-clause-few : goal.returns-clause-few
returns-clause-few c =
    let over = c.loop-thread-test.false in
    let h = c.loop-thread.invariant in
    (reached_all (program_of c.args.program.now) c.args.schedule.now c.requires.alone c.loop-thread.machine (value_or 0 c.loop-thread.inside.items) c.loop-thread.thread-index (map record_told c.loop-thread.calls.items) (open_of c.loop-thread.open) (omega (arith, over)) h.3).1

pub returns-clause-deeper : goal.returns-clause-deeper
returns-clause-deeper c entry deep =
    let over = c.loop-thread-test.false in
    let h = c.loop-thread.invariant in
    deep_not_few (program_of c.args.program.now) c.args.schedule.now entry deep
    (reached_all (program_of c.args.program.now) c.args.schedule.now c.requires.alone c.loop-thread.machine (value_or 0 c.loop-thread.inside.items) c.loop-thread.thread-index (map record_told c.loop-thread.calls.items) (open_of c.loop-thread.open) (omega (arith, over)) h.3).1
