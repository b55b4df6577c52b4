-- What safe states need of a program, from its types, its relevant sets and an admissible assignment.
use Rattle.std.proofs.Common.{◌≡◌, ◌⊎◌, inl, inr, ℕ, Bool, true, List, [], Some, sym, ap, subst, ◌∙◌}
use Rattle.std.specs.Prelude.{Option, IfSome, is_some, length, slice_get, ◌+◌}
use Rattle.std.proofs.lemmas.Bool.{and_parts, and_from}
use Rattle.std.proofs.lemmas.Option.{same_Some}
use Rattle.algebra.specs.declared.basic.Basic.TheVariants.{Atomic}
use Rattle.algebra.specs.HeldPaths.{has_path}
use Rattle.core_program.specs.Core.{Program, Method}
use Rattle.core_program.specs.Typed.{IsEntry, IsTyped, parameters}
use Rattle.rules.specs.Near.{MethodPaths, AreRelevant, rel_of}
use Rattle.rules.specs.Effect.{Assignment}
use Rattle.rules.specs.Rules.{AtMost, held_in, IsAdmissible, declared_bound}
use Rattle.core_program.specs.Dispatch.{Overrides}
use Rattle.core_program.proofs.Running.{itself_or_over}
use Rattle.rules.proofs.Required.{required_in_rel}
use Rattle.rules.proofs.BasicLemmas.{below_chain}
use Rattle.reduction.specs.Safe.{IsFree}
use Rattle.reduction.specs.Turn.{RunsFor, Accepted}
use Rattle.reduction.proofs.Scopes.{stmt_tidy}
use Rattle.reduction.proofs.Roots.{parameters_scope, relevant_rooted}

entry_free : (P : Program) (class m : ℕ) → IsEntry P class m → IsFree P m
entry_free P class m entry method is = let same : entry.method ≡ method = same_Some _ _ (sym entry.is ∙ is) in subst (λ (x : Method). x.requires_ ≡ []) same entry.no_locks

-- a thread may begin with `main`
pub main_free : (P : Program) → IsTyped P → IsFree P P.main
main_free P typed = entry_free P P.main_class P.main typed.main

some_fact : (T : ℕ → Type 0) (o : Option ℕ) (m : ℕ) → IfSome o T → o ≡ Some m → T m
some_fact T o m f is = subst (λ x. IfSome x T) is f

pub accepted : (P : Program) (sets : List MethodPaths) (A : Assignment) → IsTyped P → AreRelevant P sets → IsAdmissible P (rel_of sets) A → Accepted P (rel_of sets) A
accepted P sets A typed relevant admissible = record {
  closed = admissible.closed.bodies;
  runs = λ c m n method running runs is there. runs_for c m n method running is there (itself_or_over P typed c m n runs);
  known = λ m method is. required_in_rel P sets relevant typed m method is;
  bound = λ m method is annotated H part required.
      below_chain (A m H) (A m (has_path method.requires_)) Atomic (admissible.falling m (has_path method.requires_) H part required)
      (ap_bound (A m (has_path method.requires_)) method.annotated annotated (admissible.bounds m method is));
  first = λ m method is none. subst (λ ps. AtMost (A m (has_path ps)) (declared_bound method.annotated)) none (admissible.bounds m method is);
  tidy = λ m method is. stmt_tidy P typed method.class method.result method.body (parameters method) (1 + length method.params) (typed.methods m method is).body (parameters_scope method);
  rooted = relevant_rooted P typed sets relevant;
  run = λ c class m is runs. entry_free P c m (some_fact (IsEntry P c) class.run m (typed.classes c class is).run runs);
}
  where
    runs_for : (c m n : ℕ) (method running : Method) → slice_get P.methods m ≡ Some method → slice_get P.methods n ≡ Some running → (n ≡ m) ⊎ Overrides P n m → RunsFor P (rel_of sets) A m method n running
    runs_for c m n method running is there (inl same) =
        let alike : running ≡ method = same_Some running method (sym there ∙ ap (slice_get P.methods) same ∙ is) in
        record {
          result = ap (λ (x : Method). is_some x.result) alike;
          locks = ap (λ (x : Method). x.requires_) alike;
          below = λ H part required. subst (λ k. AtMost (A k (held_in (rel_of sets k) H)) (A m H)) (sym same)
              (admissible.falling m H (held_in (rel_of sets m) H) (λ q has. (and_parts (has_path (rel_of sets m) q) (H q) has).0)
              (λ q has. and_from (has_path (rel_of sets m) q) (H q) (part q has) has));
        }
    runs_for c m n method running is there (inr over) =
        let alike = typed.overriding n m running method over there is in
        record {
          result = ap is_some alike.result;
          locks = alike.requires_;
          below = λ H part required. admissible.closed.overrides m n method is over H part required;
        }

    ap_bound : (b : Rattle.algebra.specs.declared.basic.Basic.Basic) (annotated : Bool) → annotated ≡ true → AtMost b (declared_bound annotated) → AtMost b Atomic
    ap_bound b annotated is below = subst (λ x. AtMost b (declared_bound x)) is below
