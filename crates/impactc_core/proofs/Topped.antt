-- What words ask for is done, and noted.
use Rattle.std.proofs.Common.{◌≡◌, inl, ℕ, ◌≤◌, List, Option, Some, None, Result, Ok, Err, refl, sym, ap, ◌∙◌, subst, arith}
use Rattle.ib_base.specs.Cause.{Rose}
use Rattle.ib_base.specs.World.{World, LacksFile}
use Rattle.impactc_words.specs.declared.words.Command.{Command}
use Rattle.impactc_words.specs.Words.{Ask, AskFor, input_of}
use Rattle.impactc_words.proofs.Asked.{one_asked}
use Rattle.impactc_core.specs.declared.core_err.CoreErr.{CoreErr}
use Rattle.impactc_core.specs.declared.core_err.CoreErr.TheVariants.{Usage as BadWords, Source, HostFault as Host, NoMemory as Memory, TooLarge as Large}
use Rattle.impactc_core.specs.declared.status.Status.{Status}
use Rattle.impactc_core.specs.declared.status.Status.TheVariants.{Done, Usage, SourceRefused, ProfileRefused, CodeRefused, HostFault, NoMemory, TooLarge, ProgramFault, CyclesSpent}
use Rattle.impactc_core.specs.declared.success.Success.{Success}
use Rattle.impactc_core.specs.Answers.{IsPlain, MayChange, Works, Answers, NoteFor, LeavesNote, LacksInput, IsUnfailed, WorkCause, NoteCause, IsCaused}
use Rattle.impactc_core.specs.Notes.{status_of}
use Rattle.impactc_core.proofs.Plain.{success_plain}

pub topped : (read : Option Command) (work : Result Success CoreErr) (old worked new : World) (status : Status) → Works read work old worked → LeavesNote work worked new status → Answers read old new status
topped read work old worked new status works leaves = record { work = work; worked = worked; works = works; leaves = leaves }

-- ---- words

pub works_usage : (words : List (List ℕ)) (read : Option Command) (old new : World) → Ask words None → Ask words read → new ≡ old → Works read (Err BadWords) old new
works_usage words None old new none asked same = record { may = same; cause = λ plain. (refl, same) }
works_usage words (Some command) old new none asked same = absurd (none command asked)

may_nothing : (read : Option Command) (old new : World) → new ≡ old → MayChange read old new
may_nothing None old new same = same
may_nothing (Some command) old new same = inl same

pub works_no_memory : (read : Option Command) (old new : World) → new ≡ old → Works read (Err Memory) old new
works_no_memory read old new same = record { may = may_nothing read old new same; cause = λ plain. absurd plain }

pub works_asked : (words : List (List ℕ)) (read : Option Command) (command : Command) (work : Result Success CoreErr) (old new : World) → AskFor words command → Ask words read → Works (Some command) work old new → Works read work old new
works_asked words None command work old new asks asked works = absurd (asked command asks)
works_asked words (Some other) command work old new asks asked works =
    subst (λ (c : Command). Works (Some c) work old new) (one_asked words command other asks asked) works

pub lacks_input : (words : List (List ℕ)) (command : Command) (w : World) → AskFor words command → LacksFile w (input_of command) → LacksInput words w
lacks_input words command w asks lacks = record { command = command; asked = asks; lacks = lacks }

-- ---- causes

unfailed : (work : Result Success CoreErr) → (status_of work ≡ HostFault → ⊥) → IsUnfailed work
unfailed (Ok success) other = tt
unfailed (Err BadWords) other = tt
unfailed (Err (Source file place fault)) other = tt
unfailed (Err Host) other = other refl
unfailed (Err Memory) other = tt
unfailed (Err (Large limit)) other = tt

plain_is_other : (status : Status) → IsPlain status → status ≡ HostFault → ⊥
plain_is_other status plain e = subst IsPlain e plain

pub same_status : (work : Result Success CoreErr) (status : Status) (whole : List ℕ) → IsPlain status → NoteFor work status whole → status ≡ status_of work
same_status work Done whole plain says = says.1
same_status work Usage whole plain says = says.1
same_status work SourceRefused whole plain says = says.1
same_status work ProfileRefused whole plain says = says.1
same_status work CodeRefused whole plain says = says.1
same_status work HostFault whole plain says = absurd plain
same_status work NoMemory whole plain says = absurd plain
same_status work TooLarge whole plain says = says.1
same_status work ProgramFault whole plain says = says.1
same_status work CyclesSpent whole plain says = says.1

-- a count that rose and does not fall has risen
rose_after : (before mid now : ℕ) → Rose before mid → mid ≤ now → Rose before now
rose_after before mid now rose le = omega (arith, rose)

module _ (work : Result Success CoreErr) (status : Status) (before mid now : ℕ) (one : WorkCause before mid work) (two : NoteCause mid now (status_of work) status) where
  rose_in_note : status ≡ HostFault → (status_of work ≡ HostFault → ⊥) → Rose before now
  rose_in_note e other = subst (λ n. Rose n now) (one.stands (unfailed work other)) (two.rose e other)

  by_work : (r : Result Success CoreErr) → work ≡ r → status ≡ HostFault → Rose before now
  by_work (Ok success) is e = rose_in_note e (λ h. subst IsPlain (sym (ap status_of is) ∙ h) (success_plain success))
  by_work (Err BadWords) is e = rose_in_note e (λ h. cc)
  by_work (Err (Source file place fault)) is e = rose_in_note e (λ h. cc)
  by_work (Err Host) is e = rose_after before mid now (one.rose is) two.later
  by_work (Err Memory) is e = rose_in_note e (λ h. cc)
  by_work (Err (Large limit)) is e = rose_in_note e (λ h. cc)

  -- a host that failed, in the work or at its note
  pub caused : (old new : World) → LeavesNote work old new status → IsCaused before now status
  caused old new left = record {
    later = omega (arith, one.later, two.later);
    rose = by_work work refl;
    stands = λ plain.
        let same : status ≡ status_of work = same_status work status left.whole plain left.says in
        two.stands plain ∙ one.stands (unfailed work (λ h. plain_is_other status plain (same ∙ h)));
  }
