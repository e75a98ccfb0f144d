-- A typed source that is in the first form, or not.
use Rattle.std.proofs.Common.{◌≡◌, inl, inr, ℕ, suc, List, [], ◌∷◌, length, arith, refl, ap, subst}
use Rattle.c_ast.specs.declared.token.Token.{Token}
use Rattle.c_ast.specs.Cut.{AreTokens}
use Rattle.c_typed.specs.Program.{Program as Typed}
use Rattle.first_form.specs.declared.program.Program.{Program}
use Rattle.first_form.specs.FirstForm.{IsFirstForm, words_of}
use Rattle.first_code.specs.Made.{IsShort}
use Rattle.impactc_core.specs.declared.core_err.SourceFault.TheVariants.{NotInThisVersion}
use Rattle.impactc_core.specs.declared.front.SourceErr.{SourceErr}
use Rattle.impactc_core.specs.declared.front.SourceErr.TheVariants.{Fault}
use Rattle.impactc_core.specs.RunAnswers.{HasFirstForm, HasOtherForm}
use Rattle.impactc_core.specs.Sources.{HasProgram}
use Rattle.impactc_core.specs.Work.{Refuses, RefusesToRun}
use Rattle.impactc_core.proofs.Fronts.{same_tokens}

-- the tokens as the first form sees them are as many
length-words : (bytes : List ℕ) (tokens : List Token) → length (words_of bytes tokens) ≡ length tokens
length-words bytes [] = refl
length-words bytes (t ∷ tokens) = ap suc (length-words bytes tokens)

pub short_program : (bytes : List ℕ) (tokens : List Token) (program : Program) → IsFirstForm bytes tokens program → IsShort program
short_program bytes tokens program form = record { words = words_of bytes tokens; few = omega (arith, length-words bytes tokens, form.few); spelled = form.spelled }

pub has_some_program : (content : List ℕ) (meant : Typed) → HasProgram content meant → (p : Typed) × HasProgram content p
has_some_program content meant has = (meant, has)

pub has_first_form : (content : List ℕ) (tokens : List Token) (program : Program) → AreTokens content tokens → (meant : Typed) × HasProgram content meant → IsFirstForm content tokens program → HasFirstForm content program
has_first_form content tokens program cut has form = record {
  meant = has.0;
  typed = has.1;
  form = subst (λ (ts : List Token). IsFirstForm content ts program) (same_tokens content tokens has.1.tokens cut has.1.has.has.cut) form;
}

pub refuses_form : (content : List ℕ) (tokens : List Token) → AreTokens content tokens → (meant : Typed) × HasProgram content meant → ((program : Program) → IsFirstForm content tokens program → ⊥) → RefusesToRun content (Fault (record { line = 1; col = 1 }) NotInThisVersion)
refuses_form content tokens cut has none = inr (record {
  other = record {
    meant = has.0;
    typed = has.1;
    none = λ program form. none program (subst (λ (ts : List Token). IsFirstForm content ts program) (same_tokens content has.1.tokens tokens has.1.has.has.cut cut) form);
  };
  says = refl;
})

pub refuses_to_run : (content : List ℕ) (error : SourceErr) → Refuses content error → RefusesToRun content error
refuses_to_run content error is = inl is

-- what is in the first form is in no other
pub no_other_form : (content : List ℕ) (program : Program) → HasFirstForm content program → HasOtherForm content → ⊥
no_other_form content program has other =
    other.none program (subst (λ (ts : List Token). IsFirstForm content ts program) (same_tokens content has.typed.tokens other.typed.tokens has.typed.has.has.cut other.typed.has.has.cut) has.form)
