-- What a function that breaks no rule means keeps its rules.
use Rattle.std.proofs.Common.{◌≡◌, ℕ, suc, ◌+◌, ◌≤◌, nat_lt, ◌&&◌, not, true, false, List, [], ◌∷◌, ◌++◌, length, map, refl, sym, ap, ◌∙◌, subst, arith, ltb-false}
use Rattle.std.proofs.lemmas.List.{length-map}
use Rattle.c_ast.specs.declared.tree_unit.Length.TheVariants as n
use Rattle.c_ast.specs.declared.tree.Base.TheVariants.{Void, Char, Int, Long}
use Rattle.c_ast.specs.Trees as c
use Rattle.c_typed.specs.declared.types.ValueType.{ValueType}
use Rattle.c_typed.specs.declared.types.ValueType.TheVariants as v
use Rattle.c_typed.specs.declared.program.Home.{Home}
use Rattle.c_typed.specs.declared.rule.Rule.TheVariants.{BadType, Redeclared, WrongSignature}
use Rattle.c_typed.specs.Program.{Program}
use Rattle.c_typed.specs.Tree as t
use Rattle.c_typed.specs.ValueTypes.{int, is_void, same_type, written}
use Rattle.c_layout.specs.declared.shape.Shape.TheVariants.{Scalar}
use Rattle.c_layout.proofs.Lengths.{at_aligned}
use Rattle.c_types_homes.specs.Addressed.{param_shape, variables_of, function_variables, function_taken}
use Rattle.c_types_homes.specs.Declarators.{param_type, param_place}
use Rattle.c_types_homes.specs.Homes.{none_given, function_homes, function_given, frame_size}
use Rattle.c_types_operators.specs.Rules.{Fine}
use Rattle.c_types_operators.specs.Parts.{broken_if, ◌<*>◌}
use Rattle.c_types_operators.specs.Scopes.{Scope, Signature, inner}
use Rattle.c_types_declarators.specs.Declarations.{is_on_void, is_bad_param, has_bad_param_length, param_breaches}
use Rattle.c_types_statements.specs.Statements.{At, home_at, lives, literals_in_all}
use Rattle.c_types_functions.specs.Functions.{Head, signature_of, same_types, same_signature, is_main, has_bad_signature, has_bad_result, has_unnamed, repeats, params_breaches, head_breaches}
use Rattle.c_types_units.specs.Units.{with_param, with_params, params_typed, body, a_function, function}
use Rattle.c_kept.specs.Kept.{KeepsStms, KeepsFunction}
use Rattle.c_kept.specs.WellFormed.{FormedStms}
use Rattle.c_types_kept.proofs.Judgements.{differ, Gives, beside, of_one, first_none, second_none, not_so}
use Rattle.c_types_kept.proofs.Types.{IsFirm, firm_pointer, and_second}
use Rattle.c_types_kept.proofs.Scopes.{KeepsScope, with_variable_kept, inner_kept}
use Rattle.c_types_kept.proofs.Room.{Room}
use Rattle.c_types_kept.proofs.Homes.{HomesFit, AreFirm, first_fit, second_fit, have_homes, aligned_is, slot_types, slots_counted, given_fit, slots_apart}
use Rattle.c_types_kept.proofs.Statements.{or_first, or_second, not_false, home_kept, statements_kept}
use Rattle.c_types_kept.proofs.Names.{IsMade}

-- ---- heads

firm_param : (x : c.Par) → is_bad_param x ≡ false → IsFirm (param_type x)
firm_param (c.param q ty name n.Scalar) h = or_first (is_on_void (written ty)) (has_bad_param_length n.Scalar) h
firm_param (c.param q ty name n.Missing) h = firm_pointer (written ty) (or_first (is_on_void (written ty)) (has_bad_param_length n.Missing) h)
firm_param (c.param q ty name (n.Given m long)) h = firm_pointer (written ty) (or_first (is_on_void (written ty)) (has_bad_param_length (n.Given m long)) h)

firm_params : (earlier xs : List c.Par) → params_breaches earlier xs ≡ [] → AreFirm xs
firm_params earlier [] h = tt
firm_params earlier (x ∷ xs) h =
    let behind = second_none (broken_if (repeats earlier x) Redeclared (param_place x)) (param_breaches x ++ params_breaches (x ∷ earlier) xs) h in
    (firm_param x (not_so (is_bad_param x) BadType (param_place x) (first_none (param_breaches x) (params_breaches (x ∷ earlier) xs) behind)), firm_params (x ∷ earlier) xs (second_none (param_breaches x) (params_breaches (x ∷ earlier) xs) behind))

firm_result : (ty : ValueType) → has_bad_result ty ≡ false → is_void ty ≡ false → IsFirm ty
firm_result (v.Base Void) h k = absurd (differ k)
firm_result (v.Base Char) h k = refl
firm_result (v.Base Int) h k = refl
firm_result (v.Base Long) h k = refl
firm_result (v.Pointer b stars) h k = h
firm_result v.Null h k = refl

no_types : (types : List ValueType) → same_types types [] ≡ true → types ≡ []
no_types [] h = refl
no_types (ty ∷ types) h = absurd (differ (sym h))

no_params : (xs : List c.Par) → map param_type xs ≡ [] → xs ≡ []
no_params [] h = refl
no_params (x ∷ xs) h = let z : ⊥ = cc in absurd z

-- what the head of a function keeps that breaks no rule
pub record IsGoodHead (head : Head) : Type 0 where
  pub few : length head.params ≤ 8
  pub firm : AreFirm head.params
  pub result : is_void head.result ≡ false → IsFirm head.result
  pub main : is_main head ≡ true → head.params ≡ []

pub good_head : (head : Head) → head_breaches head ≡ [] → IsGoodHead head
good_head head none =
    let others = broken_if (has_bad_result head.result) BadType head.place ++ params_breaches [] head.params in
    let behind = second_none (broken_if (has_bad_signature head) WrongSignature head.place) others none in
    let main : Signature = record { result = int; params = [] } in
    let good = not_so (has_bad_signature head) WrongSignature head.place (first_none (broken_if (has_bad_signature head) WrongSignature head.place) others none) in
    let as_main = or_second (nat_lt 8 (length head.params)) (is_main head && not (same_signature (signature_of head) main)) good in
    record {
      few = ltb-false 8 (length head.params) (or_first (nat_lt 8 (length head.params)) (is_main head && not (same_signature (signature_of head) main)) good);
      firm = firm_params [] head.params (second_none (broken_if (has_bad_result head.result) BadType head.place) (params_breaches [] head.params) behind);
      result = firm_result head.result (not_so (has_bad_result head.result) BadType head.place (first_none (broken_if (has_bad_result head.result) BadType head.place) (params_breaches [] head.params) behind));
      main = λ is.
          let same = not_false (same_signature (signature_of head) main) (ap (λ b. b && not (same_signature (signature_of head) main)) (sym is) ∙ as_main) in
          no_params head.params (no_types (map param_type head.params) (and_second (same_type head.result int) (same_types (map param_type head.params) []) same));
    }

-- ---- parameters

pub typed_length : (homes : List Home) (k : ℕ) (xs : List c.Par) → length (params_typed homes k xs) ≡ length xs
typed_length homes k [] = refl
typed_length homes k (x ∷ xs) = ap suc (typed_length homes (suc k) xs)

typed_types : (homes : List Home) (k : ℕ) (xs : List c.Par) → map param_type xs ≡ map (λ q. q.ty) (params_typed homes k xs)
typed_types homes k [] = refl
typed_types homes k (x ∷ xs) = ap (λ types. param_type x ∷ types) (typed_types homes (suc k) xs)

pub is_made : (head : Head) (xs : c.Stms) (typed : t.Stms) → IsGoodHead head → IsMade head (a_function head xs typed)
is_made head xs typed good = record {
  name = refl;
  result = refl;
  types = typed_types (function_homes head.params xs) 0 head.params;
  firm = good.result;
  main = λ is. ap (λ ps. params_typed (function_homes head.params xs) 0 ps) (good.main is);
}

module _ (p : Program) (kinds : List ValueType) (frame : ℕ) (homes : List Home) where
  with_param_kept : (k : ℕ) (x : c.Par) (Γ : Scope) → KeepsScope p kinds Γ → HomesFit kinds frame homes k (param_shape x ∷ []) → IsFirm (param_type x) → KeepsScope p kinds (with_param homes k x Γ)
  with_param_kept k (c.param q ty c.unnamed m) Γ g f firm = g
  with_param_kept k (c.param q ty (c.named name) m) Γ g f firm =
      with_variable_kept p kinds name (record { shape = Scalar (param_type (c.param q ty (c.named name) m)); lives = lives (home_at homes k) }) Γ g
      (home_kept p kinds frame (Scalar (param_type (c.param q ty (c.named name) m))) (home_at homes k) f.0 firm)

  with_params_kept : (k : ℕ) (xs : List c.Par) (Γ : Scope) → KeepsScope p kinds Γ → HomesFit kinds frame homes k (map param_shape xs) → AreFirm xs → KeepsScope p kinds (with_params homes k xs Γ)
  with_params_kept k [] Γ g f firm = g
  with_params_kept k (x ∷ xs) Γ g f firm = with_params_kept (suc k) xs (with_param homes k x Γ) (with_param_kept k x Γ g (f.0, tt) firm.0) f.1 firm.1

-- ---- functions

module _ (p : Program) where
  made_function : (head : Head) (xs : c.Stms) (typed : t.Stms) → IsGoodHead head → KeepsStms p (slot_types (function_taken head.params xs) 0 (function_variables head.params xs)) head.result false typed → frame_size head.params xs ≤ 262144
      → HomesFit (slot_types (function_taken head.params xs) 0 (function_variables head.params xs)) (frame_size head.params xs) (function_homes head.params xs) 0 (function_variables head.params xs) → KeepsFunction p (a_function head xs typed)
  made_function head xs typed good stms small fit =
      let taken = function_taken head.params xs in
      let kinds = slot_types taken 0 (function_variables head.params xs) in
      let homes = function_homes head.params xs in
      let counted = slots_counted taken 0 none_given (function_variables head.params xs) in
      let long = typed_length homes 0 head.params in
      let few = good.few in
      record {
        kinds = kinds;
        many = omega (arith, counted);
        params = have_homes kinds (frame_size head.params xs) homes 0 head.params (first_fit kinds (frame_size head.params xs) homes 0 (map param_shape head.params) (variables_of xs) fit) good.firm;
        apart = slots_apart taken none_given head.params (variables_of xs);
        few = omega (arith, long, few);
        small = small;
        rounded = aligned_is 16 (function_given head.params xs).bytes (omega arith);
        body = stms;
      }

  body_kept : (Γ : Scope) (at : At) (head : Head) (xs : c.Stms) → ((kinds : List ValueType) → KeepsScope p kinds Γ) → IsGoodHead head → FormedStms xs → Room (length p.strings) at.texts (literals_in_all xs)
      → HomesFit (slot_types (function_taken head.params xs) 0 (function_variables head.params xs)) (frame_size head.params xs) (function_homes head.params xs) 0 (function_variables head.params xs)
      → Gives (KeepsStms p (slot_types (function_taken head.params xs) 0 (function_variables head.params xs)) head.result false) (body Γ at head xs)
  body_kept Γ at head xs g good formed room fit =
      let kinds = slot_types (function_taken head.params xs) 0 (function_variables head.params xs) in
      let frame = frame_size head.params xs in
      let homes = function_homes head.params xs in
      let of_params = first_fit kinds frame homes 0 (map param_shape head.params) (variables_of xs) fit in
      let of_body = second_fit kinds frame homes 0 (map param_shape head.params) (variables_of xs) fit in
      let many = length-map head.params param_shape in
      let behind : 0 + length (map param_shape head.params) ≡ length head.params = omega (arith, many) in
      statements_kept p kinds frame homes head.result (with_params homes 0 head.params (inner Γ)) (record at { variable = length head.params }) false xs
      (with_params_kept p kinds frame homes 0 head.params (inner Γ) (inner_kept p kinds Γ (g kinds)) of_params good.firm) (subst (λ k. HomesFit kinds frame homes k (variables_of xs)) behind of_body) formed room

  pub function_kept : (Γ : Scope) (at : At) (head : Head) (xs : c.Stms) → ((kinds : List ValueType) → KeepsScope p kinds Γ) → FormedStms xs → Room (length p.strings) at.texts (literals_in_all xs) → Gives (λ f. f.frame ≤ 262144 → KeepsFunction p f) (function Γ at head xs)
  function_kept Γ at head xs g formed room =
      let kinds = slot_types (function_taken head.params xs) 0 (function_variables head.params xs) in
      let rounding = at_aligned 16 (function_given head.params xs).bytes in
      let fit = given_fit (function_taken head.params xs) kinds (frame_size head.params xs) 0 none_given (function_variables head.params xs) [] refl refl rounding in
      beside (broken_if (has_unnamed head) WrongSignature head.place ++ head_breaches head) (Fine (a_function head xs) <*> body Γ at head xs) (λ none.
      let good = good_head head (second_none (broken_if (has_unnamed head) WrongSignature head.place) (head_breaches head) none) in
      of_one (a_function head xs) (body Γ at head xs) (body_kept Γ at head xs g good formed room fit) (λ typed keeps. λ small. made_function head xs typed good keeps small fit))

pub function_made : (Γ : Scope) (at : At) (head : Head) (xs : c.Stms) → Gives (IsMade head) (function Γ at head xs)
function_made Γ at head xs =
    beside (broken_if (has_unnamed head) WrongSignature head.place ++ head_breaches head) (Fine (a_function head xs) <*> body Γ at head xs) (λ none.
    let good = good_head head (second_none (broken_if (has_unnamed head) WrongSignature head.place) (head_breaches head) none) in
    let any : Gives (λ typed. Unit {0}) (body Γ at head xs) = record { by = λ typed is. tt } in
    of_one (a_function head xs) (body Γ at head xs) any (λ typed is. is_made head xs typed good))
