-- What a step does and which lock would help it, in words.
use Rattle.std.specs.Prelude.{ℕ, Bool, true, false, not, ◌&&◌, List, [], ◌++◌, Option, Some, None, codes}
use Rattle.algebra.specs.declared.basic.Basic.{Basic}
use Rattle.algebra.specs.Basics.{name_of}
use Rattle.explain.specs.declared.deeds.Deed.{Deed}
use Rattle.explain.specs.declared.deeds.Deed.TheVariants as deed
use Rattle.explain.specs.declared.deeds.Help.{Help}
use Rattle.explain.specs.declared.deeds.Help.TheVariants as helps
use Rattle.explain.specs.StepReadings.{is_cmpd}
use Rattle.paths.specs.Paths.{PathData}
use Rattle.report.specs.Verdicts.{title_text}
use Rattle.rules.specs.declared.guard.Guard.{Guard}
use Rattle.rules.specs.declared.guard.Guard.TheVariants as guard
use Rattle.explain_text.specs.Pages.{PageData}
use Rattle.explain_text.specs.Words.{access_text, lack_text, path_in}

-- how the field of an access is guarded; of a guard that is held for reading and writing nothing is told
abbrev pub guard_text : PageData → Guard → List ℕ
guard_text page guard.Final = []
guard_text page guard.Free = codes ", which nothing guards"
guard_text page (guard.Named p) = []
guard_text page guard.Unnamed = []
guard_text page (guard.WriteNamed p) = codes ", which is guarded for writing only by " ++ path_in page p
guard_text page guard.WriteUnnamed = codes ", which is guarded for writing only"

-- what a call does: it takes a lock, if it does nothing else; or else the callee is this
abbrev pub takes_text : PageData → Basic → Option PathData → List ℕ
takes_text page b None = codes ", which is " ++ name_of b
takes_text page b (Some p) = codes ", which takes the lock of " ++ path_in page p ++ codes " and gives it back"

-- what a step does
abbrev pub deed_text : PageData → Deed → List ℕ
deed_text page (deed.Reads receiver f guard) = codes "reads " ++ access_text page receiver f ++ guard_text page guard
deed_text page (deed.Writes receiver f guard) = codes "writes " ++ access_text page receiver f ++ guard_text page guard
deed_text page (deed.Calls m b taken) = codes "calls " ++ title_text page.table m ++ takes_text page b taken
deed_text page (deed.Locks p) = codes "takes the lock of " ++ path_in page p ++ codes " and gives it back"
deed_text page deed.Prints = codes "prints"
deed_text page deed.Starts = codes "starts a thread"
deed_text page deed.Other = codes "a step"

-- whether a step is compound by itself: only a call can be
abbrev pub is_compound : Deed → Bool
is_compound (deed.Calls m b taken) = is_cmpd b
is_compound _ = false

-- the other name under which a lock is held, if there is one
abbrev pub second_text : PageData → Option PathData → List ℕ
second_text page None = []
second_text page (Some q) = codes "; it is held here under another name only, " ++ path_in page q

-- which lock would help
abbrev pub help_text : PageData → Help → List ℕ
help_text page (helps.Hold p second) = codes "with the lock of " ++ path_in page p ++ codes " held, this step can be moved" ++ second_text page second
help_text page helps.Unguarded = codes "no lock helps this step: nothing guards the field"
help_text page helps.WritesOnly = codes "no lock helps this step: the field is guarded for writing only, so it may be read at any time"
help_text page (helps.Unnamed lack) = codes "the lock that would help this step has no name here, since " ++ lack_text page lack
help_text page (helps.ReceiverUnnamed lack) = codes "no one lock that has a name here helps this step, and " ++ lack_text page lack
help_text page helps.NoneNamed = codes "no one lock that has a name here helps this step"
help_text page helps.Seen = codes "no lock helps this step"

-- whether a help is a lock
abbrev pub is_lock : Help → Bool
is_lock (helps.Hold p second) = true
is_lock help = false

-- whether a step with this help may stay as it is beside one with that: no lock helps it, and one helps the other
abbrev pub may_stay : (help other : Help) → Bool
may_stay help other = not (is_lock help) && is_lock other
