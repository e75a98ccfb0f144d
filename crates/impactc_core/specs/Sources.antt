-- What stands in a source, and why it may be refused.
use Rattle.std.specs.Prelude.{◌≡◌, ◌≤◌, ◌<◌, ℕ, List, length, slice_get, Option, Some, None, IsSomeAnd}
use Rattle.std.specs.FinMap.{get}
use Rattle.ib_meaning.specs.declared.place.Place.{Place}
use Rattle.ib_base.specs.World.{World, HasFile}
use Rattle.c_ast.specs.declared.token.Token.{Token}
use Rattle.c_ast.specs.Cut.{AreTokens, StopsAt}
use Rattle.c_ast.specs.Grammar.{IsUnit}
use Rattle.c_ast.specs.Nesting.{too_deep}
use Rattle.c_ast.specs.Trees.{Top}
use Rattle.c_lex.specs.Lexed.{end_place}
use Rattle.c_parse_machine.specs.Told.{IsWrongAt}
use Rattle.c_typed.specs.Program.{Program}
use Rattle.c_program.specs.Limits.{within, large_globals, large_frame}
use Rattle.c_types_units.specs.Typing.{IsTyped, Verdict, verdict, keeps_rules, breaks_rule}
use Rattle.impactc_core.specs.declared.core_err.Limit.{Limit}
use Rattle.impactc_core.specs.declared.core_err.Limit.TheVariants.{Source as SourceBytes, Nesting, Globals, Frame, Operations}
use Rattle.impactc_core.specs.declared.core_err.SourceFault.{SourceFault}
use Rattle.impactc_core.specs.declared.core_err.SourceFault.TheVariants.{Lexical, Syntax, Typing, NotInThisVersion}
use Rattle.impactc_core.specs.declared.core_err.CoreErr.{CoreErr}
use Rattle.impactc_core.specs.declared.core_err.CoreErr.TheVariants.{Source, TooLarge as Large}

-- the file is there, and within the limit of 1,048,576 bytes
pub record IsSource (file : List ℕ) (w : World) (content : List ℕ) : Type 0 where
  pub there : HasFile w file content
  pub fits : length content ≤ 1048576

-- the files are told, and this one is within the limit
pub record IsKnown (file : List ℕ) (w : World) (content : List ℕ) : Type 0 where
  pub there : IsSomeAnd w.disk (λ disk. get disk.files file ≡ Some content)
  pub fits : length content ≤ 1048576

-- ---- tokens, unit, program

-- the content has tokens, and one of them nests deeper than 200
pub record NestsTooDeep (content : List ℕ) : Type 0 where
  pub tokens : List Token
  pub place : Place
  pub cut : AreTokens content tokens
  pub deep : too_deep tokens ≡ Some place

-- the content has these tokens, and none of them nests deeper than 200
pub record HasTokens (content : List ℕ) (tokens : List Token) : Type 0 where
  pub cut : AreTokens content tokens
  pub kept : too_deep tokens ≡ None

-- the content has these tokens, and they are the unit
pub record HasUnit (content : List ℕ) (tokens : List Token) (unit : List Top) : Type 0 where
  pub has : HasTokens content tokens
  pub is_unit : IsUnit tokens unit

-- the place of a token, or just past the last byte where there is none
abbrev pub place_of : List ℕ → Option Token → Place
place_of content (Some token) = token.place
place_of content None = end_place content

-- The content's tokens are no unit: those before the place begin one, and with the token there, or with the end, there is none.
pub record HasWrongPhrase (content : List ℕ) (place : Place) : Type 0 where
  pub tokens : List Token
  pub has : HasTokens content tokens
  pub before : ℕ
  pub wrong : IsWrongAt tokens before
  pub at : place ≡ place_of content (slice_get tokens before)

-- the content has a unit, of which the rules of typing, and then the limits on globals and frames, say this
pub record IsJudged (content : List ℕ) (said : Verdict) : Type 0 where
  pub tokens : List Token
  pub unit : List Top
  pub has : HasUnit content tokens unit
  pub says : verdict unit ≡ said

-- the content has a typed program within the limits
pub record HasProgram (content : List ℕ) (program : Program) : Type 0 where
  pub tokens : List Token
  pub unit : List Top
  pub has : HasUnit content tokens unit
  pub typed : IsTyped unit program
  pub small : verdict unit ≡ keeps_rules (within program)

-- ---- refusals

-- A quantity of the content that passes its limit; a later one holds that no earlier one does. Operations are counted by
-- commands that lower, of which there is none.
abbrev pub IsPast : List ℕ → Limit → Type 0
IsPast content SourceBytes = 1048576 < length content
IsPast content Nesting = (length content ≤ 1048576) × NestsTooDeep content
IsPast content Globals = (length content ≤ 1048576) × ((bytes : ℕ) × IsJudged content (keeps_rules (large_globals bytes)))
IsPast content Frame = (length content ≤ 1048576) × ((bytes : ℕ) × IsJudged content (keeps_rules (large_frame bytes)))
IsPast content Operations = ⊥

-- Why a content within the limit of its size is refused, at which place; a later cause holds that no earlier one does. A rule
-- is the least of those that are broken at the first anchor. That a form is not compiled yet is no fault of a source.
abbrev pub HasFault : List ℕ → Place → SourceFault → Type 0
HasFault content place (Lexical kind) = StopsAt content kind place
HasFault content place Syntax = HasWrongPhrase content place
HasFault content place (Typing rule) = IsJudged content (breaks_rule (record { rule = rule; place = place }))
HasFault content place NotInThisVersion = ⊥

-- the file is past the limit
pub record IsTooLarge (file : List ℕ) (limit : Limit) (w : World) : Type 0 where
  pub content : List ℕ
  pub there : HasFile w file content
  pub past : IsPast content limit

-- the file has no tokens, no unit or no typed program
pub record IsFaulty (file : List ℕ) (place : Place) (reason : SourceFault) (w : World) : Type 0 where
  pub content : List ℕ
  pub source : IsSource file w content
  pub has_fault : HasFault content place reason

-- why a file with a source is refused so
abbrev pub IsRefused : (file : List ℕ) → CoreErr → World → Type 0
IsRefused file (Source name place reason) w = (name ≡ file) × IsFaulty file place reason w
IsRefused file (Large limit) w = IsTooLarge file limit w
IsRefused file refusal w = ⊥
