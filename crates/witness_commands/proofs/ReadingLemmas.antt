-- What is known of the files, from how their readings ended.
use Rattle.std.proofs.Common.{◌≡◌, ◌≢◌, ◌<◌, ◌≤◌, ℕ, List, Option, Some, None, IfSome, IsSome, length, refl, sym, subst, ◌∙◌}
use Rattle.lexer.specs.Limits.{longest_source}
use Rattle.sources.specs.Limits.{longest_second_file}
use Rattle.sources.specs.Files.{HasSameFaults, IsUnread, IsOver}
use Rattle.edge.specs.declared.transfer.ReadEnd.{ReadEnd}
use Rattle.edge.specs.declared.transfer.ReadEnd.TheVariants.{Fault, TooLarge, NoMemory}
use Rattle.edge.specs.Faults.{Rose}
use Rattle.witness_commands.specs.Outcomes.{IsWitnessOutcome, IsUnreadLine, unread, over}
use Rattle.witness_commands.specs.Reading.{AreBytesOf, AreInputsRead, IsSourceWithin, IsFirstUnreadInput, IsFirstTooLargeInput, source_unread, schedule_unread, source_over, schedule_over}

-- What the reading of a file of this name says at its end.
pub record Ends (told : List ℕ → Option (List ℕ)) (before now : List ℕ → ℕ) (limit : ℕ) (name : List ℕ) (end : ReadEnd) : Type 0 where
  pub fault : end ≡ Fault → Rose (before name) (now name)
  pub others : (other : List ℕ) → other ≢ name → IsSome (told other) → now other ≡ before other
  pub large : end ≡ TooLarge → IfSome (told name) (λ file. limit < length file)
  pub calm : end ≢ Fault → HasSameFaults before now

-- the same, where the counts were these before, and nothing failed in between
pub earlier : (told after : List ℕ → Option (List ℕ)) (before mid now : List ℕ → ℕ) (limit : ℕ) (name : List ℕ) (end : ReadEnd) → ((other : List ℕ) → after other ≡ told other) → HasSameFaults before mid
    → Ends after mid now limit name end → Ends told before now limit name end
earlier told after before mid now limit name end same calm e = record {
  fault = λ is. subst (λ n. Rose n (now name)) (calm name) (e.fault is);
  others = λ other differs known. e.others other differs (subst IsSome (sym (same other)) known) ∙ calm other;
  large = λ is. subst (λ o. IfSome o (λ file. limit < length file)) (same name) (e.large is);
  calm = λ is other. e.calm is other ∙ calm other;
}

module _ (told : List ℕ → Option (List ℕ)) (before now : List ℕ → ℕ) (source : List ℕ) (schedule : Option (List ℕ)) where
  line_of : (limit : ℕ) (name : List ℕ) (end : ReadEnd) (status : ℕ) (line : List ℕ) → Ends told before now limit name end
      → (IsUnread told before now name → IsFirstUnreadInput told before now source schedule name) → (IsOver told before now limit name → IsFirstTooLargeInput told before now source schedule name)
      → IsUnreadLine name end status line → IsWitnessOutcome source schedule told before now status line
  line_of limit name Fault status line e first large says =
      subst (λ n. IsWitnessOutcome source schedule told before now n line) (sym says.0) (subst (IsWitnessOutcome source schedule told before now 6) (sym says.1)
      (unread name (first (record { rose = e.fault refl; others = e.others }))))
  line_of limit name TooLarge status line e first large says =
      subst (λ n. IsWitnessOutcome source schedule told before now n line) (sym says.0) (subst (IsWitnessOutcome source schedule told before now 10) (sym says.1)
      (over name (large (record { over = e.large refl; quiet = e.calm (λ is. let both : TooLarge ≡ Fault = is in cc) }))))
  line_of limit name NoMemory status line e first large says = absurd says

  -- the source wasn't read
  pub source_ends : (end : ReadEnd) (status : ℕ) (line : List ℕ) → Ends told before now longest_source source end → IsUnreadLine source end status line → IsWitnessOutcome source schedule told before now status line
  source_ends end status line e says = line_of longest_source source end status line e (λ is. source_unread is) (λ is. source_over is) says

  -- the source was read, and the schedule of this name wasn't
  pub schedule_ends : (name : List ℕ) → schedule ≡ Some name → IsSourceWithin told source → (end : ReadEnd) (status : ℕ) (line : List ℕ) → Ends told before now longest_second_file name end → IsUnreadLine name end status line
      → IsWitnessOutcome source schedule told before now status line
  schedule_ends name named within end status line e says =
      line_of longest_second_file name end status line e (λ is. schedule_unread name named within is) (λ is. schedule_over name named within is) says

-- both files were read
pub both_read : (told after : List ℕ → Option (List ℕ)) (before mid now : List ℕ → ℕ) (source schedule file text : List ℕ) → ((other : List ℕ) → after other ≡ told other) → HasSameFaults before mid → HasSameFaults mid now
    → AreBytesOf told source file → AreBytesOf after schedule text → length file ≤ longest_source → length text ≤ longest_second_file → AreInputsRead told before now source (Some schedule) file (Some text)
both_read told after before mid now source schedule file text same first second one other small short = record {
  source_is = one;
  schedule_is = subst (λ o. IfSome o (λ bytes. text ≡ bytes)) (same schedule) other;
  within = (small, short);
  quiet = λ name. second name ∙ first name;
}

-- the source was read, and no schedule is given
pub source_read : (told : List ℕ → Option (List ℕ)) (before now : List ℕ → ℕ) (source file : List ℕ) → HasSameFaults before now → AreBytesOf told source file → length file ≤ longest_source
    → AreInputsRead told before now source None file None
source_read told before now source file calm is small = record { source_is = is; schedule_is = tt; within = (small, tt); quiet = calm }
