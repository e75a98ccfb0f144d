-- The answers of the commands, each with its cause.
use Rattle.std.specs.Prelude.{◌≡◌, ◌≤◌, ◌⊎◌, ⊤, ℕ, List, Option, Some, None, Result, Ok, Err, IsErrOf}
use Rattle.ib_base.specs.Cause.{Rose}
use Rattle.ib_base.specs.World.{World, LacksFile, Begins, noted}
use Rattle.c_typed.specs.Program.{Program as Typed}
use Rattle.first_form.specs.declared.program.Program.{Program}
use Rattle.impactc_words.specs.declared.words.Command.{Command}
use Rattle.impactc_words.specs.declared.words.Command.TheVariants.{Check, Interp, Run}
use Rattle.impactc_words.specs.Words.{AskFor, input_of}
use Rattle.impactc_core.specs.declared.core_err.CoreErr.{CoreErr}
use Rattle.impactc_core.specs.declared.core_err.CoreErr.TheVariants.{Usage as BadWords, HostFault as Host, NoMemory as Memory}
use Rattle.impactc_core.specs.declared.status.Status.{Status}
use Rattle.impactc_core.specs.declared.status.Status.TheVariants.{Done, HostFault, NoMemory, ProgramFault, CyclesSpent}
use Rattle.impactc_core.specs.declared.success.Success.{Success}
use Rattle.impactc_core.specs.Notes.{refusal_note, status_of, note_of}
use Rattle.impactc_core.specs.Sources.{IsKnown, HasProgram, IsRefused}
use Rattle.impactc_core.specs.CheckAnswers.{IsChecked}
use Rattle.impactc_core.specs.InterpAnswers.{IsInterpreted, IsInterpretedInPart}
use Rattle.impactc_core.specs.RunAnswers.{HasFirstForm, HasRun, HasRunInPart, IsRefusedToRun}

-- any status but those of a failing host and of want of memory
abbrev pub IsPlain : Status → Type 0
IsPlain HostFault = ⊥
IsPlain NoMemory = ⊥
IsPlain status = ⊤

-- ---- the commands: each has a line in the following tables, and its records in a file of its own

-- its work is done, and came out so
abbrev pub Succeeds : Command → Success → World → World → Type 0
Succeeds (Check file) = IsChecked file
Succeeds (Interp file) = IsInterpreted file
Succeeds (Run file) = HasRun file

-- what it reads is refused so
abbrev pub RefusesInput : Command → CoreErr → World → Type 0
RefusesInput (Check file) = IsRefused file
RefusesInput (Interp file) = IsRefused file
RefusesInput (Run file) = IsRefusedToRun file

-- a part of its work is done; of some work no part is seen
abbrev pub IsBegun : Command → World → World → Type 0
IsBegun (Check file) old new = ⊥
IsBegun (Interp file) old new = IsInterpretedInPart file old new
IsBegun (Run file) old new = HasRunInPart file old new

-- the files are told, and the one that it reads is such that nothing but the host or want of memory hinders its work
abbrev pub CanWork : Command → World → Type 0
CanWork (Check file) w = (content : List ℕ) × (program : Typed) × IsKnown file w content × HasProgram content program
CanWork (Interp file) w = (content : List ℕ) × (program : Typed) × IsKnown file w content × HasProgram content program
CanWork (Run file) w = (content : List ℕ) × (program : Program) × IsKnown file w content × HasFirstForm content program

-- its work is done
abbrev pub HasWorked : Command → Status → Type 0
HasWorked (Check file) status = status ≡ Done
HasWorked (Interp file) status = (status ≡ Done) ⊎ ((status ≡ ProgramFault) ⊎ (status ≡ CyclesSpent))
HasWorked (Run file) status = (status ≡ Done) ⊎ (status ≡ ProgramFault)

-- ---- every command

-- what the work may change beside the note, however it comes out
abbrev pub MayChange : Option Command → World → World → Type 0
MayChange None old new = new ≡ old
MayChange (Some command) old new = (new ≡ old) ⊎ IsBegun command old new

-- why work comes out so: it is done; or it is refused, and then nothing is printed, and the input is left; words that ask for
-- nothing are refused as such
abbrev pub CauseOf : Option Command → Result Success CoreErr → World → World → Type 0
CauseOf None work old new = (work ≡ Err BadWords) × (new ≡ old)
CauseOf (Some command) (Ok success) old new = Succeeds command success old new
CauseOf (Some command) (Err refusal) old new = RefusesInput command refusal old × (new ≡ old)

-- what words ask for was done, all but its note; a failing host and want of memory come at any point
pub record Works (read : Option Command) (work : Result Success CoreErr) (old new : World) : Type 0 where
  pub may : MayChange read old new
  pub cause : IsPlain (status_of work) → CauseOf read work old new

-- the text that a status goes with, behind this work: its own, or that of a failing host or of want of memory, where it failed
-- to be left
abbrev pub NoteFor : Result Success CoreErr → Status → List ℕ → Type 0
NoteFor work HostFault whole = (whole ≡ note_of work) × ((status_of work ≡ HostFault) ⊎ IsPlain (status_of work))
NoteFor work NoMemory whole = (whole ≡ refusal_note Memory) ⊎ ((whole ≡ note_of work) × IsPlain (status_of work))
NoteFor work status whole = (whole ≡ note_of work) × (status ≡ status_of work)

-- a note was left, or a beginning of it where that failed
pub record LeavesNote (work : Result Success CoreErr) (old new : World) (status : Status) : Type 0 where
  pub whole : List ℕ
  pub note : List ℕ
  pub says : NoteFor work status whole
  pub begins : Begins note whole
  pub exact : IsPlain status → note ≡ whole
  pub world : new ≡ noted old note

-- what a call did that was asked for so: its work, and then a note
pub record Answers (read : Option Command) (old new : World) (status : Status) : Type 0 where
  pub work : Result Success CoreErr
  pub worked : World
  pub works : Works read work old worked
  pub leaves : LeavesNote work worked new status

-- the words ask for a command, and the file that it reads is not there
pub record LacksInput (words : List (List ℕ)) (w : World) : Type 0 where
  pub command : Command
  pub asked : AskFor words command
  pub lacks : LacksFile w (input_of command)

-- ---- the host's faults

-- a refusal that is no failure of the host
abbrev pub IsOwn : CoreErr → Type 0
IsOwn Host = ⊥
IsOwn refusal = ⊤

-- what was not refused, or not for a failure of the host
abbrev pub IsUnfailed : {T : Type 0} → Result T CoreErr → Type 0
IsUnfailed (Ok x) = ⊤
IsUnfailed (Err refusal) = IsOwn refusal

-- of the work before its note: the count of faults does not fall, it rose where the host failed, and stands where it did not
pub record WorkCause {T : Type 0} (before now : ℕ) (result : Result T CoreErr) : Type 0 where
  pub later : before ≤ now
  pub rose : IsErrOf result Host → Rose before now
  pub stands : IsUnfailed result → now ≡ before

-- of the note behind work of this status: the same, but that a failure adds nothing to a status that says so already
pub record NoteCause (before now : ℕ) (work status : Status) : Type 0 where
  pub later : before ≤ now
  pub rose : status ≡ HostFault → (work ≡ HostFault → ⊥) → Rose before now
  pub stands : IsPlain status → now ≡ before

-- of a call: the count does not fall, it rose where the host is at fault, and it stands with any status but those of a
-- failing host and of want of memory
pub record IsCaused (before now : ℕ) (status : Status) : Type 0 where
  pub later : before ≤ now
  pub rose : status ≡ HostFault → Rose before now
  pub stands : IsPlain status → now ≡ before
