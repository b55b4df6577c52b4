use Rattle.std.proofs.Common.{◌≡◌, ◌<◌, ◌++◌, ℕ, Option, true, length, reverse}
use Rattle.typing.specs.Order.{stands_in}
use Rattle.typing.proofs.Ordering.{IsGrowing}
use Rattle.typing.proofs.order.put_line.Given as goal

abbrev pub invariant-loop-last : goal.invariant-loop-last
invariant-loop-last l =
    ((c : ℕ) → stands_in l.line.items c ≡ true → c < length l.marks.items)
    × ((above : ℕ → Option ℕ) (count class : ℕ) → IsGrowing above count class l.fn.marks.items l.fn.order.items l.fn.line.items → IsGrowing above count class l.marks.items l.order.items l.line.items)
    × (l.order.items ++ reverse l.line.items ≡ l.fn.order.items ++ reverse l.fn.line.items)

abbrev pub decreases-loop-last : goal.decreases-loop-last
decreases-loop-last l = length l.line.items
