-- A source's tokens, unit and program, and why it has none.
use Rattle.std.proofs.Common.{◌≡◌, ◌≤◌, ℕ, suc, List, [], ◌∷◌, length, get_or, Fits, w8, arith, None, refl, sym, ap, ◌∙◌, subst}
use Rattle.ib_meaning.specs.declared.place.Place.{Place}
use Rattle.c_ast.specs.declared.token.Token.{Token}
use Rattle.c_ast.specs.Cut.{AreTokens, whole, stopped}
use Rattle.c_ast.specs.Grammar.{IsUnit}
use Rattle.c_ast.specs.Nesting.{too_deep}
use Rattle.c_ast.specs.Trees.{Top}
use Rattle.c_formed.proofs.Tokens.{AreBytes}
use Rattle.c_formed.proofs.Trees.{source_formed}
use Rattle.c_kept.specs.WellFormed.{FormedUnit}
use Rattle.c_lex.proofs.Unique.{unique}
use Rattle.c_lex.specs.declared.error.LexErr.{LexErr}
use Rattle.c_lex.specs.declared.error.LexErr.TheVariants.{BadByte, OpenComment, BadLiteral, NoMemory as OutOfMemory}
use Rattle.c_lex.specs.Lexed.{Refuses as RefusesBytes}
use Rattle.c_types_operators.specs.declared.rule.Breach.{Breach}
use Rattle.c_typed.specs.declared.rule.Rule.{Rule}
use Rattle.c_parse.specs.declared.parser.ParseErr.{ParseErr}
use Rattle.c_parse.specs.declared.parser.ParseErr.TheVariants.{TooDeep, Syntax as WrongAt, NoMemory as NoRoom}
use Rattle.c_parse.specs.Parses.{Refuses as RefusesTokens}
use Rattle.c_program.specs.declared.error.CheckErr.{CheckErr}
use Rattle.c_program.specs.declared.error.CheckErr.TheVariants.{Rule as Broken, Globals as LargeGlobals, Frame as LargeFrame, NoMemory as NoSpace}
use Rattle.c_program.specs.Limits.{within, large_globals, large_frame}
use Rattle.c_typed.specs.Program.{Program}
use Rattle.c_types_units.specs.Typing.{IsTyped, Refused, Verdict, verdict, keeps_rules, breaks_rule}
use Rattle.c_parse_machine.proofs.Answered.{one_tree}
use Rattle.impactc_core.specs.declared.core_err.Limit.{Limit}
use Rattle.impactc_core.specs.declared.core_err.Limit.TheVariants.{Source as SourceBytes, Nesting, Globals, Frame, Operations}
use Rattle.impactc_core.specs.declared.core_err.SourceFault.{SourceFault}
use Rattle.impactc_core.specs.declared.core_err.SourceFault.TheVariants.{Lexical, Syntax, Typing, NotInThisVersion}
use Rattle.impactc_core.specs.Sources.{HasUnit, HasProgram, IsJudged, HasFault, IsPast}
use Rattle.impactc_core.specs.Work.{Refuses, lexical_refusal, phrase_refusal, typing_refusal}

-- ---- what a source has

pub has_unit : (content : List ℕ) (tokens : List Token) (unit : List Top) → AreTokens content tokens → too_deep tokens ≡ None → IsUnit tokens unit → HasUnit content tokens unit
has_unit content tokens unit cut kept is_unit = record { has = record { cut = cut; kept = kept }; is_unit = is_unit }

pub some_tokens : (content : List ℕ) (tokens : List Token) (unit : List Top) → HasUnit content tokens unit → (ts : List Token) × HasUnit content ts unit
some_tokens content tokens unit has = (tokens, has)

are_bytes : (content : List ℕ) → ((i : ℕ) → Fits w8 (get_or content i 0)) → AreBytes content
are_bytes [] each = tt
are_bytes (b ∷ bs) each = let first = each 0 in (omega (arith, first), are_bytes bs (λ i. each (suc i)))

-- its unit is one that a source spells
pub is_formed : (content : List ℕ) (unit : List Top) → ((i : ℕ) → Fits w8 (get_or content i 0)) → (tokens : List Token) × HasUnit content tokens unit → FormedUnit unit
is_formed content unit each has = source_formed content has.0 unit (are_bytes content each) has.1.has.cut has.1.is_unit

pub has_program : (content : List ℕ) (unit : List Top) (program : Program) → (tokens : List Token) × HasUnit content tokens unit → verdict unit ≡ keeps_rules (within program) → IsTyped unit program → HasProgram content program
has_program content unit program has small typed = record { tokens = has.0; unit = unit; has = has.1; typed = typed; small = small }

-- ---- refusals

-- a source that has no tokens
pub refuses_bytes : (content : List ℕ) (refusal : LexErr) → RefusesBytes content refusal → Refuses content (lexical_refusal refusal)
refuses_bytes content (BadByte place) is = is
refuses_bytes content (OpenComment place) is = is
refuses_bytes content (BadLiteral place) is = is
refuses_bytes content OutOfMemory is = tt

-- a source that has tokens, but no unit
pub refuses_phrases : (content : List ℕ) (tokens : List Token) (refusal : ParseErr) → length content ≤ 1048576 → AreTokens content tokens → RefusesTokens tokens refusal → Refuses content (phrase_refusal content tokens refusal)
refuses_phrases content tokens (TooDeep place) fits cut deep = (fits, record { tokens = tokens; place = place; cut = cut; deep = deep })
refuses_phrases content tokens (WrongAt before) fits cut wrong =
    record { tokens = tokens; has = record { cut = cut; kept = wrong.0 }; before = before; wrong = wrong.1; at = refl }
refuses_phrases content tokens NoRoom fits cut wrong = tt

-- a source that has a unit, but no program within the limits
module _ (content : List ℕ) (unit : List Top) (fits : length content ≤ 1048576) (has : (tokens : List Token) × HasUnit content tokens unit) where
  judged : (said : Verdict) → verdict unit ≡ said → IsJudged content said
  judged said says = record { tokens = has.0; unit = unit; has = has.1; says = says }

  breaks : (breach : Breach) (rule : Rule) (place : Place) → verdict unit ≡ breaks_rule breach → rule ≡ breach.rule → place ≡ breach.place → HasFault content place (Typing rule)
  breaks breach rule place says is at =
      subst (λ (p : Place). HasFault content p (Typing rule)) (sym at)
      (subst (λ (r : Rule). HasFault content breach.place (Typing r)) (sym is)
      (judged (breaks_rule breach) says))

  by_verdict : (said : Verdict) (refusal : CheckErr) → verdict unit ≡ said → Refused said refusal → Refuses content (typing_refusal refusal)
  by_verdict (keeps_rules limited) (Broken rule place) says is = absurd is
  by_verdict (keeps_rules limited) (LargeGlobals bytes) says is = (fits, (bytes, judged (keeps_rules (large_globals bytes)) (says ∙ ap keeps_rules is)))
  by_verdict (keeps_rules limited) (LargeFrame bytes) says is = (fits, (bytes, judged (keeps_rules (large_frame bytes)) (says ∙ ap keeps_rules is)))
  by_verdict (keeps_rules limited) NoSpace says is = tt
  by_verdict (breaks_rule breach) (Broken rule place) says is = breaks breach rule place says is.0 is.1
  by_verdict (breaks_rule breach) (LargeGlobals bytes) says is = absurd is
  by_verdict (breaks_rule breach) (LargeFrame bytes) says is = absurd is
  by_verdict (breaks_rule breach) NoSpace says is = tt

  pub refuses_unit : (refusal : CheckErr) → Refused (verdict unit) refusal → Refuses content (typing_refusal refusal)
  refuses_unit refusal is = by_verdict (verdict unit) refusal refl is

-- ---- a source has its tokens, its unit and its verdict alone

pub same_tokens : (content : List ℕ) (a b : List Token) → AreTokens content a → AreTokens content b → a ≡ b
same_tokens content a b one two = (unique content a b whole whole one two).0

same_unit : (content : List ℕ) (ts us : List Token) (a b : List Top) → HasUnit content ts a → HasUnit content us b → a ≡ b
same_unit content ts us a b one two =
    one_tree us a b (subst (λ (tokens : List Token). IsUnit tokens a) (same_tokens content ts us one.has.cut two.has.cut) one.is_unit) two.is_unit

same_verdict : (content : List ℕ) (program : Program) (said : Verdict) → HasProgram content program → IsJudged content said → keeps_rules (within program) ≡ said
same_verdict content program said has judged =
    sym has.small ∙ ap verdict (same_unit content has.tokens judged.tokens has.unit judged.unit has.has judged.has) ∙ judged.says

-- what has a program has no fault
pub no_fault : (content : List ℕ) (program : Program) → HasProgram content program → (place : Place) (reason : SourceFault) → HasFault content place reason → ⊥
no_fault content program has place (Lexical kind) stops =
    let same : whole ≡ stopped kind place = (unique content has.tokens stops.tokens whole (stopped kind place) has.has.has.cut stops.cut).1 in
    cc
no_fault content program has place Syntax is =
    is.wrong.no_unit has.unit (subst (λ (ts : List Token). IsUnit ts has.unit) (same_tokens content has.tokens is.tokens has.has.has.cut is.has.cut) has.has.is_unit)
no_fault content program has place (Typing rule) is =
    let same : keeps_rules (within program) ≡ breaks_rule (record { rule = rule; place = place }) = same_verdict content program _ has is in
    cc
no_fault content program has place NotInThisVersion is = is

-- and passes no limit
pub no_past : (content : List ℕ) (program : Program) → HasProgram content program → length content ≤ 1048576 → (limit : Limit) → IsPast content limit → ⊥
no_past content program has fits SourceBytes past = omega arith
no_past content program has fits Nesting past =
    let deep = past.1 in
    let same = same_tokens content has.tokens deep.tokens has.has.has.cut deep.cut in
    let clash = sym deep.deep ∙ subst (λ (ts : List Token). too_deep ts ≡ None) same has.has.has.kept in
    cc
no_past content program has fits Globals past =
    let same : keeps_rules (within program) ≡ keeps_rules (large_globals past.1.0) = same_verdict content program _ has past.1.1 in
    cc
no_past content program has fits Frame past =
    let same : keeps_rules (within program) ≡ keeps_rules (large_frame past.1.0) = same_verdict content program _ has past.1.1 in
    cc
no_past content program has fits Operations past = past
