-- What callees give, and values before final locals, as nodes.
use Rattle.std.proofs.Common.{◌≡◌, ℕ, ◌<◌, List, length, get_or, Option, Some, None, Result, Ok, Err, IfOk, IfSome, slice_get, if◌then◌else◌, refl, ◌∙◌, ap, subst}
use Rattle.std.specs.List.{list_all}
use Rattle.std.proofs.lemmas.Option.{slice_get-get_or}
use Rattle.paths.specs.Paths.{PathData}
use Rattle.algebra.specs.declared.basic.Basic.{Basic}
use Rattle.algebra.specs.declared.basic.Basic.TheVariants.{Error}
use Rattle.algebra.specs.HeldPaths.{Held}
use Rattle.core_program.specs.Core.{Program}
use Rattle.conditions.specs.Conditions.{Cond, value_of}
use Rattle.rules.specs.Effect.{after_local, held_under, call_of, required_paths}
use Rattle.conditions.specs.declared.table.Node.{Node}
use Rattle.conditions.specs.Nodes.{Items}
use Rattle.conditions.specs.Shown.{IsAmongFirst, AreAmongFirst, node_value}
use Rattle.book_check.specs.Conclusions.{tree_value}
use Rattle.book_check.specs.Judges.{named_set, name_before_local, call_name}
use Rattle.book_check.proofs.NameLemmas.{local_value, call_value, call_all}
use Rattle.derive.specs.Bases.{trees_assign}

-- the value of a node that was made, in other words
pub value_as : {E : Type 0} (new : Items) (r : Result Node E) (f g : Held → Basic) → ((H : Held) → f H ≡ g H) → IfOk r (λ n. (H : Held) → node_value new n H ≡ f H) →
    IfOk r (λ n. (H : Held) → node_value new n H ≡ g H)
value_as new (Ok n) f g same e = λ H. e H ∙ same H
value_as new (Err d) f g same e = tt

-- a node at a place is there
pub there_at : (count : ℕ) (ns : List Node) (k : ℕ) (d : Node) → k < length ns → AreAmongFirst count ns → IsAmongFirst count (get_or ns k d)
there_at count ns k d below are = subst (λ o. IfSome o (λ m. m.0 < count)) (slice_get-get_or ns k d below) (are k)

-- a tree before a final local was declared
pub before_value : (t : Cond) (x : ℕ) (o p : Option PathData) (H : Held) → o ≡ p → value_of t (named_set (name_before_local x o) H) ≡ value_of t (after_local H x p)
before_value t x o p H same = local_value t x o H ∙ ap (λ q. value_of t (after_local H x q)) same

assigned_call : (o : Option Cond) (rel : List PathData) (receiver : Option PathData) (args : List (Option PathData)) (H : Held) →
    tree_value o (named_set (call_name rel receiver args) H) ≡ tree_value o (held_under rel receiver args H)
assigned_call None rel receiver args H = refl
assigned_call (Some t) rel receiver args H = call_value t rel receiver args H

-- a callee's tree at a call
pub call_made : (own : List Cond) (P : Program) (rel : ℕ → List PathData) (m : ℕ) (paths required : List PathData) (receiver : Option PathData) (args : List (Option PathData)) (H : Held) (v : Basic) →
    paths ≡ rel m → required ≡ required_paths (slice_get P.methods m) → v ≡ trees_assign own m (named_set (call_name paths receiver args) H) →
    (if list_all (named_set (call_name paths receiver args) H) required then v else Error) ≡ call_of P rel (trees_assign own) m receiver args H
call_made own P rel m paths required receiver args H v rel_is required_is v_is =
    let all = call_all required paths receiver args H ∙ (λ i. list_all (held_under (rel_is i) receiver args H) (required_is i)) in
    let value = v_is ∙ assigned_call (slice_get own m) paths receiver args H ∙ (λ i. tree_value (slice_get own m) (held_under (rel_is i) receiver args H)) in
    λ i. if all i then value i else Error
