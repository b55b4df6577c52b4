-- One turn of the loops of members and classes, and their ends, as the functions of the parser use them.
use Rattle.std.proofs.Common.{◌≡◌, ◌<◌, Bool, true, false, List, [], ◌∷◌, length, Ok}
use Rattle.lexer.specs.declared.tokens.Token.{Token}
use Rattle.syntax.specs.declared.terminal.Terminal.TheVariants as T
use Rattle.syntax.specs.declared.tree.Name.{Name}
use Rattle.syntax.specs.declared.tree.Param.{Param}
use Rattle.syntax.specs.Grammar.{SpellsLock, SpellsSet, SpellsMember, SpellsClass}
use Rattle.syntax.specs.Tokens.{is, token}
use Rattle.syntax.specs.Trees.{LockTree, MemberTree, ClassTree}
use Rattle.parser.proofs.Lists.{several_takes, separated_takes}
use Rattle.parser.proofs.LoopLaw.{loop_done, loop_more, Takes}
use Rattle.parser.proofs.Loops.{right_shorter}
use Rattle.parser.proofs.Members.{ParamL, param_long, param_example, right_param, lock_long, right_set, set_example, set_long, right_member, member_example, member_long, LowMember, right_class, class_example, class_long, LowClass}
use Rattle.parser.proofs.Right.{Any}
use Rattle.parser.proofs.PlainStatements.{right_lock, this_lock, this_lock_is}
use Rattle.parser.specs.Combine.{◌>>=◌, starts, loop, comma_step, item_step}
use Rattle.parser.specs.Words.{lock}
use Rattle.parser.specs.Statements.{block_goes_on}
use Rattle.parser.specs.Members.{param, set, member, class_at}

pub param_takes : (of_ctor : Bool) → Takes (is T.Comma) (comma_step (param of_ctor))
param_takes of_ctor = separated_takes (param of_ctor) (ParamL of_ctor) Any (param_example of_ctor) (param_long of_ctor) (λ ps. Unit {0}) (λ so a r p q. tt)
    (right_param of_ctor) (λ ps ys. Unit {0}) tt (λ a rest d xs ys p q. tt) (λ ps ys. Unit {0}) (λ a rest xs ys p q. tt)

pub param_more : (of_ctor : Bool) (ps : List Param) (ts : List Token) → starts (is T.Comma) ts ≡ true
    → loop (is T.Comma) (comma_step (param of_ctor)) ps ts ≡ (comma_step (param of_ctor) ps ts >>= loop (is T.Comma) (comma_step (param of_ctor)))
param_more of_ctor ps ts g = loop_more (is T.Comma) (comma_step (param of_ctor)) (param_takes of_ctor) ps ts g

pub param_done : (of_ctor : Bool) (ps : List Param) (ts : List Token) → starts (is T.Comma) ts ≡ false → loop (is T.Comma) (comma_step (param of_ctor)) ps ts ≡ Ok (ps, ts)
param_done of_ctor ps ts g = loop_done (is T.Comma) (comma_step (param of_ctor)) ps ts g

pub param_shorter : (of_ctor : Bool) (ts : List Token) (p : Param) (r : List Token) → param of_ctor ts ≡ Ok (p, r) → length r < length ts
param_shorter of_ctor ts p r e = right_shorter (param of_ctor) (ParamL of_ctor) Any ts p r (param_long of_ctor) (param of_ctor ts) (right_param of_ctor ts).at e

pub lock_takes : Takes (is T.Comma) (comma_step lock)
lock_takes = separated_takes lock (λ zs l. SpellsLock l zs) Any (token T.This 0 ∷ [], this_lock, this_lock_is) lock_long (λ ps. Unit {0}) (λ so a r p q. tt)
    right_lock (λ ps ys. Unit {0}) tt (λ a rest d xs ys p q. tt) (λ ps ys. Unit {0}) (λ a rest xs ys p q. tt)

pub lock_more : (ls : List LockTree) (ts : List Token) → starts (is T.Comma) ts ≡ true
    → loop (is T.Comma) (comma_step lock) ls ts ≡ (comma_step lock ls ts >>= loop (is T.Comma) (comma_step lock))
lock_more ls ts g = loop_more (is T.Comma) (comma_step lock) lock_takes ls ts g

pub lock_done : (ls : List LockTree) (ts : List Token) → starts (is T.Comma) ts ≡ false → loop (is T.Comma) (comma_step lock) ls ts ≡ Ok (ls, ts)
lock_done ls ts g = loop_done (is T.Comma) (comma_step lock) ls ts g

pub lock_shorter : (ts : List Token) (l : LockTree) (r : List Token) → lock ts ≡ Ok (l, r) → length r < length ts
lock_shorter ts l r e = right_shorter lock (λ zs l. SpellsLock l zs) Any ts l r lock_long (lock ts) (right_lock ts).at e

pub set_takes : Takes block_goes_on (item_step set)
set_takes = several_takes set (λ zs p. SpellsSet p zs) Any set_example set_long (λ ps. Unit {0}) (λ so a r p q. tt)
    block_goes_on (λ x xs g. right_set (x ∷ xs)) (λ ns ts. Unit {0}) tt (λ n rest xs ys f q. tt)

pub set_more : (ss : List (Name × Name)) (ts : List Token) → starts block_goes_on ts ≡ true → loop block_goes_on (item_step set) ss ts ≡ (item_step set ss ts >>= loop block_goes_on (item_step set))
set_more ss ts g = loop_more block_goes_on (item_step set) set_takes ss ts g

pub set_done : (ss : List (Name × Name)) (ts : List Token) → starts block_goes_on ts ≡ false → loop block_goes_on (item_step set) ss ts ≡ Ok (ss, ts)
set_done ss ts g = loop_done block_goes_on (item_step set) ss ts g

pub set_shorter : (ts : List Token) (p : Name × Name) (r : List Token) → set ts ≡ Ok (p, r) → length r < length ts
set_shorter ts p r e = right_shorter set (λ zs p. SpellsSet p zs) Any ts p r set_long (set ts) (right_set ts).at e

pub member_takes : Takes block_goes_on (item_step member)
member_takes = several_takes member (λ zs m. SpellsMember m zs) LowMember member_example member_long (λ ps. Unit {0}) (λ so a r p q. tt)
    block_goes_on (λ x xs g. right_member (x ∷ xs)) (λ ns ts. Unit {0}) tt (λ n rest xs ys f q. tt)

pub member_more : (ms : List MemberTree) (ts : List Token) → starts block_goes_on ts ≡ true → loop block_goes_on (item_step member) ms ts ≡ (item_step member ms ts >>= loop block_goes_on (item_step member))
member_more ms ts g = loop_more block_goes_on (item_step member) member_takes ms ts g

pub member_done : (ms : List MemberTree) (ts : List Token) → starts block_goes_on ts ≡ false → loop block_goes_on (item_step member) ms ts ≡ Ok (ms, ts)
member_done ms ts g = loop_done block_goes_on (item_step member) ms ts g

pub member_shorter : (ts : List Token) (m : MemberTree) (r : List Token) → member ts ≡ Ok (m, r) → length r < length ts
member_shorter ts m r e = right_shorter member (λ zs m. SpellsMember m zs) LowMember ts m r member_long (member ts) (right_member ts).at e

pub class_takes : Takes (λ x. true) (item_step class_at)
class_takes = several_takes class_at (λ zs c. SpellsClass c zs) LowClass class_example class_long (λ ps. Unit {0}) (λ so a r p q. tt)
    (λ x. true) (λ x xs g. right_class (x ∷ xs)) (λ ns ts. Unit {0}) tt (λ n rest xs ys f q. tt)

pub class_more : (cs : List ClassTree) (ts : List Token) → starts (λ x. true) ts ≡ true → loop (λ x. true) (item_step class_at) cs ts ≡ (item_step class_at cs ts >>= loop (λ x. true) (item_step class_at))
class_more cs ts g = loop_more (λ x. true) (item_step class_at) class_takes cs ts g

pub class_done : (cs : List ClassTree) (ts : List Token) → starts (λ x. true) ts ≡ false → loop (λ x. true) (item_step class_at) cs ts ≡ Ok (cs, ts)
class_done cs ts g = loop_done (λ x. true) (item_step class_at) cs ts g

pub class_shorter : (ts : List Token) (c : ClassTree) (r : List Token) → class_at ts ≡ Ok (c, r) → length r < length ts
class_shorter ts c r e = right_shorter class_at (λ zs c. SpellsClass c zs) LowClass ts c r class_long (class_at ts) (right_class ts).at e
