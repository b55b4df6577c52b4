use Rattle.std.proofs.Common.{drop, map, string_bytes}
use Rattle.explain_commands.specs.Words.{HasNoFlag}
use Rattle.explain_commands.proofs.words.has_flag.Given as goal

-- the flag is none of all where it is none of those that are left, and the other way round
abbrev pub invariant-loop-word : goal.invariant-loop-word
invariant-loop-word l =
    (HasNoFlag (map string_bytes (drop l.word-index l.words)) → HasNoFlag (map string_bytes l.words))
    × (HasNoFlag (map string_bytes l.words) → HasNoFlag (map string_bytes (drop l.word-index l.words)))
