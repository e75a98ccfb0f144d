-- What the parts of a command's work come to.
use Rattle.std.specs.Prelude.{◌≡◌, ◌<◌, ◌⊎◌, ⊤, ℕ, List, length, slice_get}
use Rattle.ib_base.specs.World.{World, HasFile, Begins, noted}
use Rattle.ib_base.specs.declared.outcome.Outcome.{Outcome}
use Rattle.ib_run.specs.OverHost.{OverHost}
use Rattle.wide_core.specs.declared.code.RawCode.{RawCode}
use Rattle.first_form.specs.declared.program.Program.{Program}
use Rattle.first_form.specs.Meaning.{source_meaning}
use Rattle.first_code.specs.Plain.{IsPlain as IsPlainCode}
use Rattle.c_ast.specs.declared.token.Token.{Token}
use Rattle.c_ast.specs.declared.fault.LexFault.TheVariants as lex_fault
use Rattle.c_lex.specs.declared.error.LexErr.{LexErr}
use Rattle.c_lex.specs.declared.error.LexErr.TheVariants.{BadByte, OpenComment, BadLiteral, NoMemory as OutOfMemory}
use Rattle.c_parse.specs.declared.parser.ParseErr.{ParseErr}
use Rattle.c_parse.specs.declared.parser.ParseErr.TheVariants.{TooDeep, Syntax as WrongAt, NoMemory as NoRoom}
use Rattle.c_typed.specs.Program.{Program as Typed}
use Rattle.c_program.specs.declared.error.CheckErr.{CheckErr}
use Rattle.c_program.specs.declared.error.CheckErr.TheVariants.{Rule as Broken, Globals as LargeGlobals, Frame as LargeFrame, NoMemory as NoSpace}
use Rattle.c_eval.specs.Running.{MeansSo}
use Rattle.impactc_core.specs.declared.core_err.CoreErr.{CoreErr}
use Rattle.impactc_core.specs.declared.core_err.CoreErr.TheVariants.{Source, HostFault as Host, NoMemory as Memory, TooLarge as Large}
use Rattle.impactc_core.specs.declared.core_err.Limit.TheVariants.{Source as SourceBytes, Nesting, Globals, Frame}
use Rattle.impactc_core.specs.declared.core_err.SourceFault.TheVariants.{Lexical, Syntax, Typing, NotInThisVersion}
use Rattle.impactc_core.specs.declared.front.SourceErr.{SourceErr}
use Rattle.impactc_core.specs.declared.front.SourceErr.TheVariants.{Fault, TooLarge as PastLimit, NoMemory as NoMemoryLeft}
use Rattle.impactc_core.specs.declared.status.Status.{Status}
use Rattle.impactc_core.specs.declared.status.Status.TheVariants.{HostFault, NoMemory}
use Rattle.impactc_core.specs.declared.success.Success.{Success}
use Rattle.impactc_core.specs.declared.success.Success.TheVariants.{Interpreted}
use Rattle.impactc_core.specs.Machines.{four}
use Rattle.impactc_core.specs.RunAnswers.{HasOtherForm, IsOver}
use Rattle.impactc_core.specs.Runs.{RunsTo}
use Rattle.impactc_core.specs.Sources.{HasFault, IsPast, place_of}

-- ---- the source

-- the file's content passes the limit
pub record IsLarge (file : List ℕ) (w : World) : Type 0 where
  pub content : List ℕ
  pub there : HasFile w file content
  pub large : 1048576 < length content

-- why a source was not read
abbrev pub IsReadErr : List ℕ → World → CoreErr → Type 0
IsReadErr file w (Large limit) = (limit ≡ SourceBytes) × IsLarge file w
IsReadErr file w Host = ⊤
IsReadErr file w Memory = ⊤
IsReadErr file w refusal = ⊥

-- the lexer's refusal
abbrev pub lexical_refusal : LexErr → SourceErr
lexical_refusal (BadByte place) = Fault place (Lexical lex_fault.BadByte)
lexical_refusal (OpenComment place) = Fault place (Lexical lex_fault.OpenComment)
lexical_refusal (BadLiteral place) = Fault place (Lexical lex_fault.BadLiteral)
lexical_refusal OutOfMemory = NoMemoryLeft

-- the parser's refusal of these tokens
abbrev pub phrase_refusal : (content : List ℕ) → List Token → ParseErr → SourceErr
phrase_refusal content tokens (TooDeep place) = PastLimit Nesting
phrase_refusal content tokens (WrongAt before) = Fault (place_of content (slice_get tokens before)) Syntax
phrase_refusal content tokens NoRoom = NoMemoryLeft

-- the refusal of a tree
abbrev pub typing_refusal : CheckErr → SourceErr
typing_refusal (Broken rule place) = Fault place (Typing rule)
typing_refusal (LargeGlobals bytes) = PastLimit Globals
typing_refusal (LargeFrame bytes) = PastLimit Frame
typing_refusal NoSpace = NoMemoryLeft

-- why a source has no program
abbrev pub Refuses : List ℕ → SourceErr → Type 0
Refuses content (Fault place fault) = HasFault content place fault
Refuses content (PastLimit limit) = IsPast content limit
Refuses content NoMemoryLeft = ⊤

-- the same of a source that is compiled: it has another form, or no program
pub record IsOutside (content : List ℕ) (error : SourceErr) : Type 0 where
  pub other : HasOtherForm content
  pub says : error ≡ Fault (record { line = 1; col = 1 }) NotInThisVersion

abbrev pub RefusesToRun : List ℕ → SourceErr → Type 0
RefusesToRun content error = Refuses content error ⊎ IsOutside content error

-- the refusal of the file that has the source
abbrev pub of_file : List ℕ → SourceErr → CoreErr
of_file file (Fault place fault) = Source file place fault
of_file file (PastLimit limit) = Large limit
of_file file NoMemoryLeft = Memory

-- a run breaks off by the host's failure or for want of memory alone
abbrev pub IsBreak : CoreErr → Type 0
IsBreak Host = ⊤
IsBreak Memory = ⊤
IsBreak refusal = ⊥

-- ---- `interp`

-- a program was interpreted
pub record Interprets (program : Typed) (success : Success) (old new : World) : Type 0 where
  pub outcome : Outcome
  pub is : success ≡ Interpreted outcome
  pub means : OverHost (MeansSo program 10000000 outcome) old new

-- ---- `run`

-- a program was run to its end
pub record RunsProgram (program : Program) (success : Success) (old new : World) : Type 0 where
  pub code : RawCode
  pub plain : IsPlainCode code
  pub runs : RunsTo four (source_meaning program) code 100000000 success old new
  pub over : IsOver runs.outcome

-- ---- notes

-- the status behind a note that failed: one that says so already stays
abbrev pub status_behind : Status → Status → Status
status_behind HostFault failed = HostFault
status_behind NoMemory failed = NoMemory
status_behind status failed = failed

-- the note was left with its status, or a beginning of it with that of the failure
pub record Leaves (whole : List ℕ) (status : Status) (old new : World) (result : Status) : Type 0 where
  pub note : List ℕ
  pub begins : Begins note whole
  pub world : new ≡ noted old note
  pub comes : ((result ≡ status) × (note ≡ whole)) ⊎ ((result ≡ status_behind status HostFault) ⊎ (result ≡ status_behind status NoMemory))
