-- Sets of paths under other names.
use Rattle.std.proofs.Common.{◌≡◌, ℕ, ◌==◌, ◌&&◌, Bool, true, false, List, [], ◌∷◌, Option, Some, None, Result, Ok, Err, IfOk, if◌then◌else◌, refl, sym, ◌∙◌, ap}
use Rattle.std.specs.List.{list_all}
use Rattle.paths.specs.Paths.{PathData, extended_some}
use Rattle.paths.specs.Renamings.{under_call}
use Rattle.algebra.specs.declared.basic.Basic.{Basic}
use Rattle.algebra.specs.HeldPaths.{Held, has_path, holds_at}
use Rattle.algebra.specs.declared.basic.Basic.TheVariants.{Error}
use Rattle.conditions.specs.Conditions.{Cond, LeafC, TestC, cond_of, value_of}
use Rattle.conditions.specs.declared.tree.Tree.{Tree}
use Rattle.rules.specs.Effect.{after_local, held_under}
use Rattle.rules.specs.Rules.{held_in}
use Rattle.book_check.specs.Judges.{named_set, name_before_local, call_name, own_name}

-- a tree has one value at two sets with the same paths
pub value_same : (t : Cond) (H K : Held) → ((q : PathData) → H q ≡ K q) → value_of t H ≡ value_of t K
value_same (LeafC b) H K same = refl
value_same (TestC p a b) H K same =
    let here = same p in
    let first = value_same a H K same in
    let second = value_same b H K same in
    λ i. if here i then first i else second i

named_local : (b : Bool) (x : ℕ) (o : Option PathData) (q : PathData) (H : Held) → (q.root == x) ≡ b → holds_at (if b then extended_some o q.fields else Some q) H ≡ after_local H x o q
named_local true x None q H e = rw e refl
named_local false x None q H e = rw e refl
named_local true x (Some p) q H e = rw e refl
named_local false x (Some p) q H e = rw e refl

pub local_value : (t : Cond) (x : ℕ) (o : Option PathData) (H : Held) → value_of t (named_set (name_before_local x o) H) ≡ value_of t (after_local H x o)
local_value t x o H = value_same t (named_set (name_before_local x o) H) (after_local H x o) (λ q. named_local (q.root == x) x o q H refl)

named_own : (b : Bool) (q : PathData) (H : Held) → holds_at (if b then Some q else None) H ≡ (b && H q)
named_own true q H = refl
named_own false q H = refl

pub own_value : (t : Cond) (paths : List PathData) (H : Held) → value_of t (named_set (own_name paths) H) ≡ value_of t (held_in paths H)
own_value t paths H = value_same t (named_set (own_name paths) H) (held_in paths H) (λ q. named_own (has_path paths q) q H)

named_call : (b : Bool) (o : Option PathData) (H : Held) → holds_at (if b then o else None) H ≡ (b && holds_at o H)
named_call true o H = refl
named_call false o H = refl

pub call_value : (t : Cond) (rel : List PathData) (receiver : Option PathData) (args : List (Option PathData)) (H : Held) →
    value_of t (named_set (call_name rel receiver args) H) ≡ value_of t (held_under rel receiver args H)
call_value t rel receiver args H =
    value_same t (named_set (call_name rel receiver args) H) (held_under rel receiver args H) (λ q. named_call (has_path rel q) (under_call receiver args q) H)

pub call_all : (qs : List PathData) (rel : List PathData) (receiver : Option PathData) (args : List (Option PathData)) (H : Held) →
    list_all (named_set (call_name rel receiver args) H) qs ≡ list_all (held_under rel receiver args H) qs
call_all [] rel receiver args H = refl
call_all (q ∷ qs) rel receiver args H =
    let here = named_call (has_path rel q) (under_call receiver args q) H in
    let rest = call_all qs rel receiver args H in
    λ i. here i && rest i

-- the value of a tree that was made, in other words
pub value_as : {E : Type 0} (r : Result Tree E) (f g : Held → Basic) → ((H : Held) → f H ≡ g H) → IfOk r (λ x. (H : Held) → value_of (cond_of x) H ≡ f H) →
    IfOk r (λ x. (H : Held) → value_of (cond_of x) H ≡ g H)
value_as (Ok x) f g same e = λ H. e H ∙ same H
value_as (Err d) f g same e = tt

-- one required path more
one_more : (held all : Bool) (v later error : Basic) → later ≡ (if all then v else Error) → error ≡ Error → (if held then later else error) ≡ (if held && all then v else Error)
one_more true all v later _ l e = l
one_more false all v later _ l e = e

pub required_more : (S : Held) (path : PathData) (rest required : List PathData) (v later error : Basic) → required ≡ path ∷ rest →
    later ≡ (if list_all S rest then v else Error) → error ≡ Error → (if S path then later else error) ≡ (if list_all S required then v else Error)
required_more S path rest required v later error is l e =
    one_more (S path) (list_all S rest) v later error l e ∙ ap (λ qs. if list_all S qs then v else Error) (sym is)
