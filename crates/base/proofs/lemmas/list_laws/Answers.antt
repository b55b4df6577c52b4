use Rattle.base.proofs.Lists.{get_left, get_right, get_last, at_left, at_either, get_below, next_drop, next_take, take_at, contains_cases, contains_later, all_at}
use Rattle.base.proofs.lemmas.list_laws.Goals as goal

pub returns : goal.returns
returns g c = record { left = get_left; right = get_right; last = get_last; found = at_left; either = at_either; below = get_below; next = next_drop; before = next_take; with = take_at; cases = contains_cases; later = contains_later; passed = all_at }
