-- Phases: each law by computation over all of them.
use Rattle.std.proofs.Common.{◌≡◌, Bool, true, false, refl, sym, ap, subst, ◌∙◌}
use Rattle.std.specs.Prelude.{Option, Some, None, option_and_then, option_map}
use Rattle.algebra.specs.declared.basic.Basic.{Basic}
use Rattle.algebra.specs.declared.basic.Basic.TheVariants.{Const, Mover, Atomic, Cmpd, Error}
use Rattle.algebra.specs.Basics.{below_of, seq_of, star_of, lift_of}
use Rattle.rules.specs.Rules.{AtMost}
use Rattle.rules.proofs.BasicLemmas.{every, each, implies, follows}
use Rattle.state.specs.declared.value.StepKind.{StepKind}
use Rattle.state.specs.declared.value.StepKind.TheVariants.{Both, Right, Left, Other, Bare}
use Rattle.semantics.specs.Units.{is_commit}
use Rattle.reduction.specs.Phases.{Phase, Free, Opened, Committed, phase_of, phase_le, phase_after, freed, allowed, stepped, PassesPart, IsDownClosed, FallsTo}
use Rattle.std.specs.Prelude.{◌&&◌, ◌||◌}

-- in sequence, one phase after the other
pub after_seq : (p : Phase) (a b : Basic) → phase_after p (seq_of a b) ≡ option_and_then (λ q. phase_after q b) (phase_after p a)
after_seq Free Const Const = refl
after_seq Free Mover Const = refl
after_seq Free Atomic Const = refl
after_seq Free Cmpd Const = refl
after_seq Free Error Const = refl
after_seq Opened Const Const = refl
after_seq Opened Mover Const = refl
after_seq Opened Atomic Const = refl
after_seq Opened Cmpd Const = refl
after_seq Opened Error Const = refl
after_seq Committed Const Const = refl
after_seq Committed Mover Const = refl
after_seq Committed Atomic Const = refl
after_seq Committed Cmpd Const = refl
after_seq Committed Error Const = refl
after_seq p a b = refl

pub le_itself : (p : Phase) → phase_le p p ≡ true
le_itself Free = refl
le_itself Opened = refl
le_itself Committed = refl

-- whether the second phase is none, or the first is there and at most that
abbrev le_some : Option Phase → Option Phase → Bool
le_some p None = true
le_some None (Some q) = false
le_some (Some p) (Some q) = phase_le p q

abbrev AllFall : Phase → Phase → Type 0
AllFall p q = (a b : Basic) → implies (below_of a b) (le_some (phase_after p a) (phase_after q b)) ≡ true

abbrev fall_test : Phase → Phase → Basic → Basic → Bool
fall_test p q a b = implies (below_of a b) (le_some (phase_after p a) (phase_after q b))

falls_at : (p q : Phase) → every (λ a. every (λ b. fall_test p q a b)) ≡ true → AllFall p q
falls_at p q all a b = each (λ b. fall_test p q a b) (each (λ a. every (λ b. fall_test p q a b)) all a) b

after_falls : (p q : Phase) → phase_le p q ≡ true → AllFall p q
after_falls Free Free h = falls_at Free Free refl
after_falls Free Opened h = falls_at Free Opened refl
after_falls Free Committed h = falls_at Free Committed refl
after_falls Opened Free h = absurd cc
after_falls Opened Opened h = falls_at Opened Opened refl
after_falls Opened Committed h = falls_at Opened Committed refl
after_falls Committed Free h = absurd cc
after_falls Committed Opened h = absurd cc
after_falls Committed Committed h = falls_at Committed Committed refl

some_le : (o : Option Phase) (r : Phase) → le_some o (Some r) ≡ true → (s : Phase) × (o ≡ Some s) × (phase_le s r ≡ true)
some_le None r h = absurd cc
some_le (Some s) r h = (s, refl, h)

-- a smaller effect passes in a smaller phase, and ends in a smaller one
pub falls_to : (p q r : Phase) (a b : Basic) → phase_le p q ≡ true → AtMost a b → phase_after q b ≡ Some r → (s : Phase) × (phase_after p a ≡ Some s) × (phase_le s r ≡ true)
falls_to p q r a b small below is =
    some_le (phase_after p a) r (subst (λ o. le_some (phase_after p a) o ≡ true) is (follows (below_of a b) (le_some (phase_after p a) (phase_after q b)) (after_falls p q small a b) below))

pub passes_falls : (K L : Phase → Type 0) (p q : Phase) (a b : Basic) → phase_le p q ≡ true → AtMost a b → FallsTo K L → PassesPart q b K → PassesPart p a L
passes_falls K L p q a b small below falls r =
    let s = falls_to p q r.next a b small below r.passes in
    record { next = s.0; passes = s.1; rest = falls s.0 r.next s.2 r.rest }

same_basic : (b : Basic) → AtMost b b
same_basic = each (λ b. below_of b b) refl

pub passes_moves : (K L : Phase → Type 0) (p q : Phase) (b : Basic) → phase_le p q ≡ true → FallsTo K L → PassesPart q b K → PassesPart p b L
passes_moves K L p q b small falls r = passes_falls K L p q b b small (same_basic b) falls r

pub passes_map : (K L : Phase → Type 0) (p : Phase) (b : Basic) → ((q : Phase) → K q → L q) → PassesPart p b K → PassesPart p b L
passes_map K L p b f r = record { next = r.next; passes = r.passes; rest = f r.next r.rest }

both_parts : (o : Option Phase) (b : Basic) (r : Phase) → option_and_then (λ q. phase_after q b) o ≡ Some r → (q : Phase) × (o ≡ Some q) × (phase_after q b ≡ Some r)
both_parts None b r h = absurd cc
both_parts (Some q) b r h = (q, refl, h)

pub passes_seq : (K : Phase → Type 0) (p : Phase) (a b : Basic) → PassesPart p (seq_of a b) K → PassesPart p a (λ q. PassesPart q b K)
passes_seq K p a b r =
    let parts = both_parts (phase_after p a) b r.next (sym (after_seq p a b) ∙ r.passes) in
    record { next = parts.0; passes = parts.1; rest = record { next = r.next; passes = parts.2; rest = r.rest } }

rises : (p : Phase) (b : Basic) → le_some (Some p) (phase_after p b) ≡ true
rises Free b = each (λ b. le_some (Some Free) (phase_after Free b)) refl b
rises Opened b = each (λ b. le_some (Some Opened) (phase_after Opened b)) refl b
rises Committed b = each (λ b. le_some (Some Committed) (phase_after Committed b)) refl b

-- no part leads to a smaller phase
pub passes_rises : (K : Phase → Type 0) (p : Phase) (b : Basic) → IsDownClosed K → PassesPart p b K → K p
passes_rises K p b falls r = falls p r.next (subst (λ o. le_some (Some p) o ≡ true) r.passes (rises p b)) r.rest

pub const_stays : (K : Phase → Type 0) (p : Phase) → PassesPart p Const K → K p
const_stays K Free r = let same : r.next ≡ Free = cc (r.passes) in subst K same r.rest
const_stays K Opened r = let same : r.next ≡ Opened = cc (r.passes) in subst K same r.rest
const_stays K Committed r = let same : r.next ≡ Committed = cc (r.passes) in subst K same r.rest

pub const_passes : (K : Phase → Type 0) (p : Phase) → K p → PassesPart p Const K
const_passes K Free k = record { next = Free; passes = refl; rest = k }
const_passes K Opened k = record { next = Opened; passes = refl; rest = k }
const_passes K Committed k = record { next = Committed; passes = refl; rest = k }

pub mover_stays : (K : Phase → Type 0) (p : Phase) → PassesPart p Mover K → K p
mover_stays K Free r = let same : r.next ≡ Free = cc (r.passes) in subst K same r.rest
mover_stays K Opened r = let same : r.next ≡ Opened = cc (r.passes) in subst K same r.rest
mover_stays K Committed r = let same : r.next ≡ Committed = cc (r.passes) in subst K same r.rest

-- after an atomic part the phase is that after a step that commits
pub atomic_stays : (K : Phase → Type 0) (p : Phase) → PassesPart p Atomic K → K (freed false p)
atomic_stays K Free r = let same : r.next ≡ Free = cc (r.passes) in subst K same r.rest
atomic_stays K Opened r = let same : r.next ≡ Committed = cc (r.passes) in subst K same r.rest
atomic_stays K Committed r = absurd (let none : None ≡ Some r.next = r.passes in cc)

pub no_error : (K : Phase → Type 0) (p : Phase) → PassesPart p Error K → ⊥
no_error K Free r = let none : None ≡ Some r.next = r.passes in absurd cc
no_error K Opened r = let none : None ≡ Some r.next = r.passes in absurd cc
no_error K Committed r = let none : None ≡ Some r.next = r.passes in absurd cc

-- one more turn of a loop
pub turn_below : (b : Basic) → AtMost (seq_of b (star_of b)) (star_of b)
turn_below = each (λ b. below_of (seq_of b (star_of b)) (star_of b)) refl

-- releases

pub freed_falls : (stays : Bool) (p q : Phase) → phase_le p q ≡ true → phase_le (freed stays p) (freed stays q) ≡ true
freed_falls true p q h = h
freed_falls false Free Free h = refl
freed_falls false Free Opened h = refl
freed_falls false Free Committed h = refl
freed_falls false Opened Free h = absurd cc
freed_falls false Opened Opened h = refl
freed_falls false Opened Committed h = refl
freed_falls false Committed Free h = absurd cc
freed_falls false Committed Opened h = absurd cc
freed_falls false Committed Committed h = refl

pub freed_rises : (stays : Bool) (p : Phase) → phase_le p (freed stays p) ≡ true
freed_rises true p = le_itself p
freed_rises false Free = refl
freed_rises false Opened = refl
freed_rises false Committed = refl

lifts : (stays : Bool) (p : Phase) (b : Basic) → le_some (option_map (freed stays) (phase_after p b)) (phase_after p (lift_of b)) ≡ true
lifts true Free b = each (λ b. le_some (option_map (freed true) (phase_after Free b)) (phase_after Free (lift_of b))) refl b
lifts true Opened b = each (λ b. le_some (option_map (freed true) (phase_after Opened b)) (phase_after Opened (lift_of b))) refl b
lifts true Committed b = each (λ b. le_some (option_map (freed true) (phase_after Committed b)) (phase_after Committed (lift_of b))) refl b
lifts false Free b = each (λ b. le_some (option_map (freed false) (phase_after Free b)) (phase_after Free (lift_of b))) refl b
lifts false Opened b = each (λ b. le_some (option_map (freed false) (phase_after Opened b)) (phase_after Opened (lift_of b))) refl b
lifts false Committed b = each (λ b. le_some (option_map (freed false) (phase_after Committed b)) (phase_after Committed (lift_of b))) refl b

some_lift : (stays : Bool) (o : Option Phase) (r : Phase) → le_some (option_map (freed stays) o) (Some r) ≡ true → (s : Phase) × (o ≡ Some s) × (phase_le (freed stays s) r ≡ true)
some_lift stays None r h = absurd cc
some_lift stays (Some s) r h = (s, refl, h)

-- a part and then the release of its lock, where the part's effect was lifted
pub passes_lift : (K : Phase → Type 0) (stays : Bool) (p : Phase) (b : Basic) → IsDownClosed K → PassesPart p (lift_of b) K → PassesPart p b (λ q. K (freed stays q))
passes_lift K stays p b falls r =
    let s = some_lift stays (phase_after p b) r.next (subst (λ o. le_some (option_map (freed stays) (phase_after p b)) o ≡ true) r.passes (lifts stays p b)) in
    record { next = s.0; passes = s.1; rest = falls (freed stays s.0) r.next s.2 r.rest }

-- a lock that isn't held is taken in no phase after the commit
pub lift_allows : (K : Phase → Type 0) (p : Phase) (b : Basic) → PassesPart p (lift_of b) K → allowed p Right ≡ true
lift_allows K Free b r = refl
lift_allows K Opened b r = refl
lift_allows K Committed Const r = let none : None ≡ Some r.next = r.passes in absurd cc
lift_allows K Committed Mover r = let none : None ≡ Some r.next = r.passes in absurd cc
lift_allows K Committed Atomic r = let none : None ≡ Some r.next = r.passes in absurd cc
lift_allows K Committed Cmpd r = let none : None ≡ Some r.next = r.passes in absurd cc
lift_allows K Committed Error r = let none : None ≡ Some r.next = r.passes in absurd cc

pub both_allowed : (p : Phase) → allowed p Both ≡ true
both_allowed Free = refl
both_allowed Opened = refl
both_allowed Committed = refl

pub left_allowed : (p : Phase) → allowed p Left ≡ true
left_allowed Free = refl
left_allowed Opened = refl
left_allowed Committed = refl

pub atomic_allows : (K : Phase → Type 0) (p : Phase) → PassesPart p Atomic K → allowed p Other ≡ true
atomic_allows K Free r = refl
atomic_allows K Opened r = refl
atomic_allows K Committed r = let none : None ≡ Some r.next = r.passes in absurd cc

-- the phase of a thread after a step, by its flag
pub phase_stepped : (inside committed : Bool) (kind : StepKind) → phase_of inside ((inside && committed) || is_commit kind) ≡ stepped kind (phase_of inside committed)
phase_stepped true true Both = refl
phase_stepped true true Right = refl
phase_stepped true true Left = refl
phase_stepped true true Other = refl
phase_stepped true true Bare = refl
phase_stepped true false Both = refl
phase_stepped true false Right = refl
phase_stepped true false Left = refl
phase_stepped true false Other = refl
phase_stepped true false Bare = refl
phase_stepped false committed Both = refl
phase_stepped false committed Right = refl
phase_stepped false committed Left = refl
phase_stepped false committed Other = refl
phase_stepped false committed Bare = refl

-- two parts that pass one after the other pass in sequence
pub passes_join : (K : Phase → Type 0) (p : Phase) (a b : Basic) → PassesPart p a (λ q. PassesPart q b K) → PassesPart p (seq_of a b) K
passes_join K p a b r = record { next = r.rest.next; passes = after_seq p a b ∙ ap (option_and_then (λ q. phase_after q b)) r.passes ∙ r.rest.passes; rest = r.rest.rest }
