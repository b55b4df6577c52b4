-- Who is settled and what is known where no line was added, and where one was.
use Rattle.std.proofs.Common.{◌≡◌, ◌<◌, [], true, false, length, rules, slice_get, Some, sym, ap, subst, ◌∙◌, arith}
use Rattle.std.specs.Prelude.{filter}
use Rattle.std.specs.List.{list_all}
use Rattle.std.proofs.lemmas.Bool.{false_from_ne_true, both_ways}
use Rattle.std.proofs.lemmas.Option.{slice_get_within}
use Rattle.core_program.specs.Views.{program_of, method_of}
use Rattle.algebra.specs.HeldPaths.{has_path}
use Rattle.rules.specs.Near.{rel_of}
use Rattle.rules.specs.Called.{has_method, method_calls, counts_as_caller, callers_of_method}
use Rattle.rules.specs.Search.{row_at as overs_at}
use Rattle.refutation.specs.Passes.{cells_in, subsets_of}
use Rattle.refutation.specs.Lines.{floor}
use Rattle.refutation.specs.Ends.{IsPass}
use Rattle.refutation.specs.Bodies.{IsBodyKnown}
use Rattle.refutation.specs.Overs.{IsSaidOver}
use Rattle.refutation.specs.Waiting.{Adds, AreBodiesSaid, AreOversKnown, IsAsleep, cells_with}
use Rattle.refutation.proofs.BodyLemmas.{bodies_of_said, bodies_asleep, bodies_woken}
use Rattle.refutation.proofs.KnownOver.{told_by, told_still, known_risen}
use Rattle.refutation.proofs.RiseLemmas.{settled_risen, said_quiet, no_more_kept}
use Rattle.refutation.proofs.WaitLemmas.{asked_said, adds_nothing, settled_asleep}
use Rattle.refutation.proofs.waiting.ask_noting.Goals as goal

pub returns-then-len-before-clause-settled : goal.returns-then-len-before-clause-settled
returns-then-len-before-clause-settled c =
    let P = program_of c.args.asking.now.judged.now.program.now in
    let rel = rel_of c.args.asking.now.judged.now.sets.now in
    let m = c.args.id in
    let method = method_of c.args.method.now in
    let old = c.args.said.now.lines.items in
    let new = c.ask_method.new.said.lines.items in
    let kept : c.in_ok-ask_method.field-0 ≡ false = search rules in
    let its = c.in_ok-over.ensures.its in
    let same = adds_nothing m old new (subst (λ k. Adds k old new) its c.in_ok-ask_method.ensures.adds) (omega (arith, c.if-len-before.true, c.len.ensures, c.len-before.ensures, c.ask_method.new.said.lines.ok, c.args.said.now.lines.ok)) in
    λ e. settled_asleep P rel m method old new c.args.waits.now.methods c.sleep-then-len-before.new.self c.requires.is same c.requires.settled
    (subst (λ b. IsPass P rel (cells_in m method.requires_ (subsets_of (rel m))) old new b) kept (subst (λ k. IsPass P rel (cells_in k method.requires_ (subsets_of (rel k))) old new c.in_ok-ask_method.field-0) its c.in_ok-ask_method.ensures.asked))
    (subst (λ k. IsAsleep c.args.waits.now.methods c.sleep-then-len-before.new.self k) c.id.view_is c.sleep-then-len-before.ensures.asleep)

pub returns-clause-settled : goal.returns-clause-settled
returns-clause-settled c =
    let P = program_of c.args.asking.now.judged.now.program.now in
    let sets = c.args.asking.now.judged.now.sets.now in
    let m = c.args.id in
    let calls = c.args.asking.now.calls.now in
    let callers = c.args.asking.now.callers.now in
    let below = slice_get_within P.methods m (method_of c.args.method.now) c.requires.is in
    let floors = c.ask_method.new.said.floors in
    let new = c.ask_method.new.said.lines.items in
    let woken = c.in_ok-wake_overridden.ensures.woken in
    let adds = subst (λ k. Adds k c.args.said.now.lines.items new) c.in_ok-over.ensures.its c.in_ok-ask_method.ensures.adds in
    λ e. settled_risen P (rel_of sets) m c.args.said.now.lines.items new adds c.args.asking.now.judged.now.over.now c.requires.over calls callers c.args.waits.now.methods c.wake.new.waits c.wake_overridden.new.waits
    c.callers_at.result.now c.callers_at-looking.result.now c.requires.calls c.requires.callers (omega (arith, below, c.requires.call_rows)) (omega (arith, below, c.requires.rows))
    (c.callers_at.ensures ∙ ap (callers_of_method calls) c.id.view_is) (c.callers_at-looking.ensures ∙ ap (callers_of_method callers) c.id.view_is) c.requires.settled c.wake.ensures.woken
    (λ n asleep. let one = woken n asleep in (one.0, λ has. no_more_kept P sets floors.sets.now floors.tables.items new c.in_ok-ask_method.ensures.agrees m n (one.1 has)))

pub returns-then-len-before-clause-bodies : goal.returns-then-len-before-clause-bodies
returns-then-len-before-clause-bodies c =
    let P = program_of c.args.asking.now.judged.now.program.now in
    let rel = rel_of c.args.asking.now.judged.now.sets.now in
    let m = c.args.id in
    let method = method_of c.args.method.now in
    let cells = cells_in m method.requires_ (subsets_of (rel m)) in
    let old = c.args.said.now.lines.items in
    let new = c.ask_method.new.said.lines.items in
    let kept : c.in_ok-ask_method.field-0 ≡ false = search rules in
    let its = c.in_ok-over.ensures.its in
    let same = adds_nothing m old new (subst (λ k. Adds k old new) its c.in_ok-ask_method.ensures.adds) (omega (arith, c.if-len-before.true, c.len.ensures, c.len-before.ensures, c.ask_method.new.said.lines.ok, c.args.said.now.lines.ok)) in
    let asked = subst (λ b. IsPass P rel cells old new b) kept (subst (λ k. IsPass P rel (cells_in k method.requires_ (subsets_of (rel k))) old new c.in_ok-ask_method.field-0) its c.in_ok-ask_method.ensures.asked) in
    λ e. bodies_asleep P rel m method old new c.args.waits.now.bodies c.sleep.new.self c.requires.is same c.requires.bodies
    (asked_said P rel cells old (subst (λ ls. IsPass P rel cells old ls false) same asked))
    (subst (λ k. IsAsleep c.args.waits.now.bodies c.sleep.new.self k) c.id.view_is c.sleep.ensures.asleep)

pub returns-clause-bodies : goal.returns-clause-bodies
returns-clause-bodies c =
    let P = program_of c.args.asking.now.judged.now.program.now in
    let rel = rel_of c.args.asking.now.judged.now.sets.now in
    let m = c.args.id in
    let method = method_of c.args.method.now in
    let cells = cells_in m method.requires_ (subsets_of (rel m)) in
    let calls = c.args.asking.now.calls.now in
    let old = c.args.said.now.lines.items in
    let new = c.ask_method.new.said.lines.items in
    let kept : c.in_ok-ask_method.field-0 ≡ false = search rules in
    let below = slice_get_within P.methods m (method_of c.args.method.now) c.requires.is in
    let adds = subst (λ k. Adds k old new) c.in_ok-over.ensures.its c.in_ok-ask_method.ensures.adds in
    let asked = subst (λ b. IsPass P rel cells old new b) kept (subst (λ k. IsPass P rel (cells_in k method.requires_ (subsets_of (rel k))) old new c.in_ok-ask_method.field-0) c.in_ok-over.ensures.its c.in_ok-ask_method.ensures.asked) in
    let own : method_calls (slice_get P.methods m) [] m ≡ false → AreBodiesSaid P rel (cells_with rel m (slice_get P.methods m)) new = λ quiet. subst (λ o. AreBodiesSaid P rel (cells_with rel m o) new) (sym c.requires.is) (bodies_of_said P rel cells new (said_quiet P rel m method.requires_ old new quiet asked)) in
    λ e. bodies_woken P rel calls m old new c.args.waits.now.bodies c.sleep.new.self c.wake-3.new.waits c.callers_at-2.result.now
    c.requires.calls (omega (arith, below, c.requires.call_rows)) (c.callers_at-2.ensures ∙ ap (callers_of_method calls) c.id.view_is) own c.requires.bodies adds
    (subst (λ k. IsAsleep c.args.waits.now.bodies c.sleep.new.self k) c.id.view_is c.sleep.ensures.asleep) c.wake-3.ensures.woken

-- What is said of the methods that override it.

pub said_of_overriding-requires-clause-known : goal.said_of_overriding-requires-clause-known
said_of_overriding-requires-clause-known c =
    let floors = c.args.said.now.floors in
    let known = c.args.waits.now.known in
    told_by (program_of c.args.asking.now.judged.now.program.now) c.args.asking.now.judged.now.sets.now floors.sets.now floors.tables.items c.args.said.now.lines.items c.args.asking.now.judged.now.over.now known.tables.items known.unknown c.requires.agrees c.requires.known.told

pub ask_method-requires-clause-there : goal.ask_method-requires-clause-there
ask_method-requires-clause-there c =
    let methods = (program_of c.args.asking.now.judged.now.program.now).methods in
    subst (λ k. k < length methods) (sym c.in_ok-over.ensures.its) (slice_get_within methods c.args.id (method_of c.args.method.now) c.requires.is)

pub ask_method-requires-clause-said : goal.ask_method-requires-clause-said
ask_method-requires-clause-said c =
    let P = program_of c.args.asking.now.judged.now.program.now in
    let lines = c.args.said.now.lines.items in
    let over = c.in_ok-over.over in
    let agrees = c.requires.agrees in
    subst (λ s. IsSaidOver P (rel_of s) (floor (rel_of s) lines) over.method over.table over.whole over.most) agrees.same
    (subst (λ k. IsSaidOver P (rel_of c.args.said.now.floors.sets.now) (floor (rel_of c.args.said.now.floors.sets.now) lines) k over.table over.whole over.most) (sym c.in_ok-over.ensures.its) (c.in_ok-over.ensures.said lines agrees.says))

pub sleep-requires : goal.sleep-requires
sleep-requires c =
    let methods = (program_of c.args.asking.now.judged.now.program.now).methods in
    let below = slice_get_within methods c.args.id (method_of c.args.method.now) c.requires.is in
    subst (λ k. k < length c.args.waits.now.bodies) (sym c.id.view_is) (omega (arith, below, c.requires.body_waits))

pub sleep-requires-then-len-before : goal.sleep-requires-then-len-before
sleep-requires-then-len-before c =
    let methods = (program_of c.args.asking.now.judged.now.program.now).methods in
    let below = slice_get_within methods c.args.id (method_of c.args.method.now) c.requires.is in
    subst (λ k. k < length c.args.waits.now.methods) (sym c.id.view_is) (omega (arith, below, c.requires.waits))

pub bodies_of-requires-clause-stays : goal.bodies_of-requires-clause-stays
bodies_of-requires-clause-stays c = λ is.
    let P = program_of c.args.asking.now.judged.now.program.now in
    let calls = c.args.asking.now.calls.now in
    let m = c.args.id in
    let below = slice_get_within P.methods m (method_of c.args.method.now) c.requires.is in
    let none = subst (λ k. has_method (callers_of_method calls k) k ≡ false) c.id.view_is (c.body_mark-mark.ensures.stays is) in
    false_from_ne_true (counts_as_caller P (overs_at []) m m) (λ calls_it. both_ways (has_method (callers_of_method calls m) m) none (c.requires.calls m m (omega (arith, below, c.requires.call_rows)) calls_it))

pub bodies_of-requires-clause-body : goal.bodies_of-requires-clause-body
bodies_of-requires-clause-body c = λ is.
    let P = program_of c.args.asking.now.judged.now.program.now in
    let rel = rel_of c.args.asking.now.judged.now.sets.now in
    let asleep : slice_get c.args.waits.now.bodies c.args.id ≡ Some false = subst (λ k. slice_get c.args.waits.now.bodies k ≡ Some false) c.id.view_is (c.body_mark-mark.ensures.said is) in
    subst (λ o. AreBodiesSaid P rel (cells_with rel c.args.id o) c.args.said.now.lines.items) c.requires.is (c.requires.bodies c.args.id asleep)

pub ask_method-requires-clause-body : goal.ask_method-requires-clause-body
ask_method-requires-clause-body c =
    let P = program_of c.args.asking.now.judged.now.program.now in
    let rel = rel_of c.args.asking.now.judged.now.sets.now in
    let lines = c.args.said.now.lines.items in
    let bodies = c.in_ok-bodies.bodies in
    let required = (method_of c.args.method.now).requires_ in
    subst (λ k. IsBodyKnown P rel k (filter (λ held. list_all (has_path held) required) (subsets_of (rel k))) lines bodies.table bodies.is_told bodies.is_said) (sym c.in_ok-over.ensures.its) c.in_ok-bodies.ensures

pub returns-then-branch-clause-asked : goal.returns-then-branch-clause-asked
returns-then-branch-clause-asked c =
    let P = program_of c.args.asking.now.judged.now.program.now in
    let rel = rel_of c.args.asking.now.judged.now.sets.now in
    let required = (method_of c.args.method.now).requires_ in
    let broken : c.in_ok-ask_method.field-0 ≡ true = search rules in
    let asked = subst (λ k. IsPass P rel (cells_in k required (subsets_of (rel k))) c.args.said.now.lines.items c.ask_method.new.said.lines.items c.in_ok-ask_method.field-0) c.in_ok-over.ensures.its c.in_ok-ask_method.ensures.asked in
    subst (λ b. IsPass P rel (cells_in c.args.id required (subsets_of (rel c.args.id))) c.args.said.now.lines.items c.ask_method.new.said.lines.items b) broken asked

pub returns-then-len-before-clause-asked : goal.returns-then-len-before-clause-asked
returns-then-len-before-clause-asked c =
    let P = program_of c.args.asking.now.judged.now.program.now in
    let rel = rel_of c.args.asking.now.judged.now.sets.now in
    let required = (method_of c.args.method.now).requires_ in
    let kept : c.in_ok-ask_method.field-0 ≡ false = search rules in
    let asked = subst (λ k. IsPass P rel (cells_in k required (subsets_of (rel k))) c.args.said.now.lines.items c.ask_method.new.said.lines.items c.in_ok-ask_method.field-0) c.in_ok-over.ensures.its c.in_ok-ask_method.ensures.asked in
    subst (λ b. IsPass P rel (cells_in c.args.id required (subsets_of (rel c.args.id))) c.args.said.now.lines.items c.ask_method.new.said.lines.items b) kept asked

pub returns-clause-asked : goal.returns-clause-asked
returns-clause-asked c =
    let P = program_of c.args.asking.now.judged.now.program.now in
    let rel = rel_of c.args.asking.now.judged.now.sets.now in
    let required = (method_of c.args.method.now).requires_ in
    let kept : c.in_ok-ask_method.field-0 ≡ false = search rules in
    let asked = subst (λ k. IsPass P rel (cells_in k required (subsets_of (rel k))) c.args.said.now.lines.items c.ask_method.new.said.lines.items c.in_ok-ask_method.field-0) c.in_ok-over.ensures.its c.in_ok-ask_method.ensures.asked in
    subst (λ b. IsPass P rel (cells_in c.args.id required (subsets_of (rel c.args.id))) c.args.said.now.lines.items c.ask_method.new.said.lines.items b) kept asked

pub returns-then-len-before-clause-known : goal.returns-then-len-before-clause-known
returns-then-len-before-clause-known c =
    let P = program_of c.args.asking.now.judged.now.program.now in
    let sets = c.args.asking.now.judged.now.sets.now in
    let rows = c.args.asking.now.judged.now.over.now in
    let floors = c.args.said.now.floors in
    let old = c.args.said.now.lines.items in
    let new = c.ask_method.new.said.lines.items in
    let known = c.said_of_overriding.new.known in
    let adds = subst (λ k. Adds k old new) c.in_ok-over.ensures.its c.in_ok-ask_method.ensures.adds in
    let same = adds_nothing c.args.id old new adds (omega (arith, c.if-len-before.true, c.len.ensures, c.len-before.ensures, c.ask_method.new.said.lines.ok, c.args.said.now.lines.ok)) in
    λ e. subst (λ ls. AreOversKnown P rows (rel_of sets) ls known.tables.items known.unknown) (sym same) (record {
      size = c.said_of_overriding.ensures.size ∙ c.requires.known.size;
      told = told_still P sets floors.sets.now floors.tables.items old rows known.tables.items known.unknown c.requires.agrees c.in_ok-over.ensures.known;
    })

pub returns-clause-known : goal.returns-clause-known
returns-clause-known c =
    let P = program_of c.args.asking.now.judged.now.program.now in
    let sets = c.args.asking.now.judged.now.sets.now in
    let rows = c.args.asking.now.judged.now.over.now in
    let callers = c.args.asking.now.callers.now in
    let floors = c.args.said.now.floors in
    let old = c.args.said.now.lines.items in
    let new = c.ask_method.new.said.lines.items in
    let known = c.said_of_overriding.new.known in
    let below = slice_get_within P.methods c.args.id (method_of c.args.method.now) c.requires.is in
    let before : AreOversKnown P rows (rel_of sets) old known.tables.items known.unknown = record {
      size = c.said_of_overriding.ensures.size ∙ c.requires.known.size;
      told = told_still P sets floors.sets.now floors.tables.items old rows known.tables.items known.unknown c.requires.agrees c.in_ok-over.ensures.known;
    } in
    λ e. known_risen P (rel_of sets) c.args.id old new (subst (λ k. Adds k old new) c.in_ok-over.ensures.its c.in_ok-ask_method.ensures.adds) rows callers known.tables.items known.unknown c.wake-2.new.waits c.callers_at-looking.result.now
    c.requires.callers (omega (arith, below, c.requires.rows)) (c.callers_at-looking.ensures ∙ ap (callers_of_method callers) c.id.view_is) before c.wake-2.ensures.size c.wake-2.ensures.woken
