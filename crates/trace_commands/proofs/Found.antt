-- What was found, from the status and the text that belong to it.
use Rattle.std.proofs.Common.{◌≡◌, ℕ, ◌<◌, List, Option, Some, None, IfSome, length, sym, subst}
use Rattle.edge.specs.Faults.{Rose}
use Rattle.edge.specs.Lines.{cannot_read_line, too_large_line}
use Rattle.trace_commands.specs.Lines.{fault_line, no_guards_kind}
use Rattle.trace_commands.specs.Outcomes.{HasNoGuards, IsNamed, IsTraceOutcome, unread, changed, over, no_guards, longest_file}

module _ (log : List ℕ) (guards : Option (List ℕ)) (told : List ℕ → Option (List ℕ)) (before now : List ℕ → ℕ) (status : ℕ) (text : List ℕ) where
  found_of : (n : ℕ) (line : List ℕ) → status ≡ n → text ≡ line → IsTraceOutcome log guards told before now n line → IsTraceOutcome log guards told before now status text
  found_of n line e is found = subst (λ k. IsTraceOutcome log guards told before now k text) (sym e) (subst (λ t. IsTraceOutcome log guards told before now n t) (sym is) found)

  pub found_unread : (name : List ℕ) → IsNamed log guards name → Rose (before name) (now name) → status ≡ 6 → text ≡ cannot_read_line name → IsTraceOutcome log guards told before now status text
  found_unread name named rose e is = found_of 6 (cannot_read_line name) e is (unread name named rose)

  pub found_changed : told log ≡ None → status ≡ 6 → text ≡ cannot_read_line log → IsTraceOutcome log guards told before now status text
  found_changed none e is = found_of 6 (cannot_read_line log) e is (changed none)

  pub found_over : (name : List ℕ) → IsNamed log guards name → IfSome (told name) (λ file. longest_file < length file) → status ≡ 10 → text ≡ too_large_line name
      → IsTraceOutcome log guards told before now status text
  found_over name named large e is = found_of 10 (too_large_line name) e is (over name named large)

  pub found_no_guards : (name : List ℕ) (line : ℕ) → guards ≡ Some name → HasNoGuards (told name) line → status ≡ 1 → text ≡ fault_line name line no_guards_kind → IsTraceOutcome log guards told before now status text
  found_no_guards name line named none e is = found_of 1 (fault_line name line no_guards_kind) e is (no_guards name line named none)
