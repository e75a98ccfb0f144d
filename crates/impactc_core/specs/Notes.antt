-- The texts of the notes.
use Rattle.std.specs.Prelude.{ℕ, List, [], ◌∷◌, ◌++◌, Result, Ok, Err, codes, decimal}
use Rattle.std.specs.Fmt.{signed_decimal}
use Rattle.ib_meaning.specs.FaultKind.{kind_name}
use Rattle.ib_meaning.specs.Place.{place_text}
use Rattle.ib_base.specs.declared.outcome.Outcome.{Outcome}
use Rattle.ib_base.specs.declared.outcome.Outcome.TheVariants as outcome
use Rattle.c_ast.specs.declared.fault.LexFault.TheVariants.{BadByte, OpenComment, BadLiteral}
use Rattle.c_typed.specs.declared.rule.Rule.{Rule}
use Rattle.c_typed.specs.declared.rule.Rule.TheVariants as rule
use Rattle.impactc_core.specs.declared.core_err.CoreErr.{CoreErr}
use Rattle.impactc_core.specs.declared.core_err.CoreErr.TheVariants.{Usage as BadWords, Source, HostFault as Host, NoMemory as Memory, TooLarge as Large}
use Rattle.impactc_core.specs.declared.core_err.Limit.{Limit}
use Rattle.impactc_core.specs.declared.core_err.Limit.TheVariants.{Source as SourceBytes, Nesting, Globals, Frame, Operations}
use Rattle.impactc_core.specs.declared.core_err.SourceFault.{SourceFault}
use Rattle.impactc_core.specs.declared.core_err.SourceFault.TheVariants.{Lexical, Syntax, Typing, NotInThisVersion}
use Rattle.impactc_core.specs.declared.status.Status.{Status}
use Rattle.impactc_core.specs.declared.status.Status.TheVariants.{Done, Usage, SourceRefused, HostFault, NoMemory, TooLarge, ProgramFault, CyclesSpent}
use Rattle.impactc_core.specs.declared.success.Success.{Success}
use Rattle.impactc_core.specs.declared.success.Success.TheVariants.{Checked, Interpreted, Ran}

abbrev pub rule_text : Rule → List ℕ
rule_text rule.UnknownName = codes "unknown name"
rule_text rule.Redeclared = codes "redeclared"
rule_text rule.NoMain = codes "no main"
rule_text rule.WrongSignature = codes "signature"
rule_text rule.BadType = codes "bad type"
rule_text rule.NotAPlace = codes "not a place"
rule_text rule.NotACondition = codes "not a condition"
rule_text rule.WrongOperands = codes "operands"
rule_text rule.NotAssignable = codes "not assignable"
rule_text rule.NotAFunction = codes "not a function"
rule_text rule.ArgumentCount = codes "argument count"
rule_text rule.OutsideALoop = codes "outside a loop"
rule_text rule.ReturnValue = codes "return value"
rule_text rule.WrongInitialiser = codes "initialiser"

abbrev pub source_text : SourceFault → List ℕ
source_text (Lexical BadByte) = codes "bad byte"
source_text (Lexical OpenComment) = codes "open comment"
source_text (Lexical BadLiteral) = codes "bad literal"
source_text Syntax = codes "syntax"
source_text (Typing rule) = rule_text rule
source_text NotInThisVersion = codes "not in this version"

abbrev pub limit_text : Limit → List ℕ
limit_text SourceBytes = codes "source 1048576"
limit_text Nesting = codes "nesting 200"
limit_text Globals = codes "globals 524288"
limit_text Frame = codes "frame 262144"
limit_text Operations = codes "operations 200000"

-- how a program's run came out
abbrev pub outcome_text : Outcome → List ℕ
outcome_text (outcome.Ended result) = codes "ended " ++ signed_decimal result
outcome_text (outcome.Faulted place kind) = codes "fault " ++ kind_name kind ++ codes " at " ++ place_text place
outcome_text outcome.Spent = codes "spent"

-- what a command says that did its work
abbrev pub success_text : Success → List ℕ
success_text Checked = codes "ok"
success_text (Interpreted outcome) = outcome_text outcome
success_text (Ran outcome cycles) = outcome_text outcome ++ codes " after " ++ decimal cycles ++ codes " cycles"

abbrev pub usage_text : List ℕ
usage_text = codes "usage: impactc check F, interp F, profile F --to P, build F [--profile P] [--machine M] --to W, exec W [--cycles N], run F [--profile P] [--machine M] [--cycles N], demo N"

-- what a refusal says
abbrev pub refusal_text : CoreErr → List ℕ
refusal_text BadWords = usage_text
refusal_text (Source file place fault) = file ++ codes ":" ++ place_text place ++ codes ": " ++ source_text fault
refusal_text Host = codes "host fault"
refusal_text Memory = codes "out of memory"
refusal_text (Large limit) = codes "too large: " ++ limit_text limit

-- a note ends its line
abbrev pub success_note : Success → List ℕ
success_note success = success_text success ++ 10 ∷ []

abbrev pub refusal_note : CoreErr → List ℕ
refusal_note refusal = refusal_text refusal ++ 10 ∷ []

abbrev pub note_of : Result Success CoreErr → List ℕ
note_of (Ok success) = success_note success
note_of (Err refusal) = refusal_note refusal

abbrev pub outcome_status : Outcome → Status
outcome_status (outcome.Ended result) = Done
outcome_status (outcome.Faulted place kind) = ProgramFault
outcome_status outcome.Spent = CyclesSpent

abbrev pub success_status : Success → Status
success_status Checked = Done
success_status (Interpreted outcome) = outcome_status outcome
success_status (Ran outcome cycles) = outcome_status outcome

abbrev pub refusal_status : CoreErr → Status
refusal_status BadWords = Usage
refusal_status (Source file place fault) = SourceRefused
refusal_status Host = HostFault
refusal_status Memory = NoMemory
refusal_status (Large limit) = TooLarge

abbrev pub status_of : Result Success CoreErr → Status
status_of (Ok success) = success_status success
status_of (Err refusal) = refusal_status refusal
