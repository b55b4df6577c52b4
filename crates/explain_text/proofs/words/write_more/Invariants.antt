use Rattle.std.proofs.Common.{◌≡◌, ◌++◌, string_bytes, drop}
use Rattle.explain_text.specs.Views.{page_data}
use Rattle.explain_text.specs.Words.{more_held}
use Rattle.explain_text.proofs.words.write_more.Given as goal

abbrev pub invariant-loop-path : goal.invariant-loop-path
invariant-loop-path l = string_bytes l.out ++ more_held (page_data l.page) (drop l.path-index l.held) ≡ string_bytes l.fn.out ++ more_held (page_data l.page) l.held
