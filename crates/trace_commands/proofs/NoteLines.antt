-- One note more behind notes, and refusals without any.
use Rattle.std.proofs.Common.{◌≡◌, ℕ, List, [], ◌⊎◌, inl, inr, sym, subst}
use Rattle.logs.specs.declared.judge.Refusal.{Refusal}
use Rattle.logs.specs.declared.judge.Refusal.TheVariants as why
use Rattle.logs.specs.Noting.{refusal_data}
use Rattle.trace_commands.specs.NoteLines.{AreNotes, AreNotesOn, AddsNote, none, more}

pub one_note : (name : List ℕ) (line : ℕ) (old new : List ℕ) → AddsNote name line old new → AreNotes name old → AreNotes name new
one_note name line old new is are = subst (AreNotes name) (sym is.1) (more old line is.0 are)

pub no_notes : (name : List ℕ) (line : ℕ) (w : Refusal) (text : List ℕ) →
    (w ≡ why.HasEnded) ⊎ ((w ≡ why.NoBlock) ⊎ (w ≡ why.Impossible)) → text ≡ [] → AreNotesOn name line (refusal_data w) text
no_notes name line why.HasEnded text is empty = empty
no_notes name line why.NoBlock text is empty = empty
no_notes name line why.Impossible text is empty = empty
no_notes name line why.Cut text (inl e) empty = absurd cc
no_notes name line why.Cut text (inr (inl e)) empty = absurd cc
no_notes name line why.Cut text (inr (inr e)) empty = absurd cc

-- whatever the refusal is, its notes are notes
pub all_notes : (name : List ℕ) (line : ℕ) (w : Refusal) (text : List ℕ) → AreNotesOn name line (refusal_data w) text → AreNotes name text
all_notes name line why.HasEnded text is = subst (AreNotes name) (sym is) none
all_notes name line why.NoBlock text is = subst (AreNotes name) (sym is) none
all_notes name line why.Impossible text is = subst (AreNotes name) (sym is) none
all_notes name line why.Cut text is = is.notes
