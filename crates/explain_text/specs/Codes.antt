-- The codes of lines: each kind of line ends in its own, so that a program that reads lines needs no English.
use Rattle.std.specs.Prelude.{ℕ, Bool, true, false, List, ◌++◌, codes}
use Rattle.explain.specs.declared.causes.Cause.{Cause}
use Rattle.explain.specs.declared.causes.Cause.TheVariants as cause
use Rattle.explain.specs.declared.deeds.Help.{Help}
use Rattle.explain.specs.declared.deeds.Help.TheVariants as helps
use Rattle.explain.specs.Whys.{WhyData, Wrong, Looped, Compound, Two, Overridden, Nothing}
use Rattle.explain_text.specs.declared.codes.StepKind.{StepKind}
use Rattle.explain_text.specs.declared.codes.StepKind.TheVariants as kind

-- how a line with this code ends: ` [CODE]` and a line feed
abbrev pub ending : (code : List ℕ) → List ℕ
ending code = codes " [" ++ code ++ codes "]\n"

-- of the line of a method, by why it is told
abbrev pub why_code : WhyData → List ℕ
why_code (Wrong v) = codes "lock-error"
why_code (Looped v n) = codes "step-in-a-loop"
why_code (Compound v) = codes "compound-call"
why_code (Two v w) = codes "two-steps"
why_code (Overridden m b) = codes "overriding-method"
why_code Nothing = codes "no-reason"

-- of the line of an error, by its cause
abbrev pub cause_code : Cause → List ℕ
cause_code (cause.Bare receiver f writes_only p second) = codes "guard-not-held"
cause_code (cause.Nameless f writes_only lack) = codes "guard-unnamed"
cause_code (cause.Lacking m q p second) = codes "required-not-held"
cause_code (cause.LackingName m q lack) = codes "required-unnamed"
cause_code (cause.Refused m) = codes "calls-an-error"
cause_code cause.Other = codes "other-error"

-- the words before what a step does
abbrev pub step_lead : StepKind → List ℕ
step_lead kind.First = codes "atomic step: "
step_lead kind.Second = codes "a second one: "
step_lead kind.Repeated = codes "atomic step: "
step_lead kind.Compound = codes "compound step: "

-- the kind whose words stand before a step: one that isn't called a second one is called compound where it is
abbrev pub spoken_kind : StepKind → (is_compound : Bool) → StepKind
spoken_kind kind.First true = kind.Compound
spoken_kind kind.First false = kind.First
spoken_kind kind.Second is_compound = kind.Second
spoken_kind kind.Repeated true = kind.Compound
spoken_kind kind.Repeated false = kind.Repeated
spoken_kind kind.Compound is_compound = kind.Compound

-- of the line of a step
abbrev pub step_code : StepKind → List ℕ
step_code kind.First = codes "first-step"
step_code kind.Second = codes "second-step"
step_code kind.Repeated = codes "repeated-step"
step_code kind.Compound = codes "compound-step"

-- of the line of what would help a step
abbrev pub help_code : Help → List ℕ
help_code (helps.Hold p second) = codes "help-lock"
help_code helps.Unguarded = codes "help-unguarded"
help_code helps.WritesOnly = codes "help-writes-only"
help_code (helps.Unnamed lack) = codes "help-unnamed"
help_code (helps.ReceiverUnnamed lack) = codes "help-receiver-unnamed"
help_code helps.NoneNamed = codes "help-none-named"
help_code helps.Seen = codes "help-none"
