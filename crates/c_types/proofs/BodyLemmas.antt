-- Functions with a body: their parameters one behind the other, and the scope that closes behind them.
use Rattle.std.proofs.Common.{◌≡◌, refl, ap, sym, ◌∙◌, subst, ℕ, suc, ◌+◌, arith, Bool, false, cond, List, [], ◌∷◌, ◌++◌, length, length-append, Option, Some, None}
use Rattle.std.proofs.lemmas.List.{append-nil, append_assoc}
use Rattle.c_ast.specs.Trees as c
use Rattle.c_typed.specs.declared.types.ValueType.{ValueType}
use Rattle.c_typed.specs.declared.program.Home.{Home}
use Rattle.c_typed.specs.declared.program.Param.{Param}
use Rattle.c_typed.specs.Tree as t
use Rattle.c_scopes.specs.Scopes as s
use Rattle.c_types_homes.specs.Addressed.{variables}
use Rattle.c_types_homes.specs.Homes.{function_homes, function_given, frame_size}
use Rattle.c_typed.specs.declared.rule.Rule.TheVariants.{WrongSignature}
use Rattle.c_types_operators.specs.Rules.{Fine}
use Rattle.c_types_operators.specs.Scopes.{Scope, inner, outer}
use Rattle.c_types_operators.specs.Parts.{broken_if, ◌<*>◌}
use Rattle.c_types_functions.specs.Functions.{Head, has_unnamed, head_breaches}
use Rattle.c_types_statements.specs.Statements.{At, statements}
use Rattle.c_types_statements.specs.Keeping.{Seen, Types, Finds, ◌<?>◌, past_all, with_names_of}
use Rattle.c_types_statements.proofs.Typed.{makes, with_part, also_typed}
use Rattle.c_types_statements.proofs.Behind.{by_statements}
use Rattle.c_types.specs.Making.{and_param, and_params, param_at, body_in, past_body, function_with}
use Rattle.c_types_units.specs.Units.{with_param, with_params, params_typed, body, a_function, function}

-- ---- scopes

by_params : (homes : List Home) (k : ℕ) (xs : List c.Par) (Γ : Scope) → outer (with_params homes k xs Γ) ≡ outer Γ
by_params homes k [] Γ = refl
by_params homes k (c.param p ty c.unnamed m ∷ xs) Γ = by_params homes (suc k) xs Γ
by_params homes k (c.param p ty (c.named name) m ∷ xs) Γ = by_params homes (suc k) xs (with_param homes k (c.param p ty (c.named name) m) Γ)

body_closes : (homes : List Home) (params : List c.Par) (k : ℕ) (all : c.Stms) (Γ : Scope) → outer (with_names_of homes k all (with_params homes 0 params (inner Γ))) ≡ Γ
body_closes homes params k all Γ = by_statements homes k all (with_params homes 0 params (inner Γ)) ∙ by_params homes 0 params (inner Γ)

-- ---- parameters

none-more : (n : ℕ) → n ≡ n + 0
none-more n = omega arith

one-more : (m n : ℕ) → suc m + n ≡ m + suc n
one-more m n = omega arith

from-zero : (n : ℕ) → 0 + n ≡ n
from-zero n = omega arith

abbrev seen_by : Seen → Scope → ℕ → Seen
seen_by s Γ k = record s { scope = Γ; at = record s.at { variable = k } }

-- behind parameters
params_behind : (homes : List Home) (xs : List c.Par) (s : Seen) → and_params homes xs s ≡ seen_by s (with_params homes s.at.variable xs s.scope) (s.at.variable + length xs)
params_behind homes [] s = ap (seen_by s s.scope) (none-more s.at.variable)
params_behind homes (x ∷ xs) s =
    params_behind homes xs (and_param homes x s)
    ∙ ap (seen_by s (with_params homes (suc s.at.variable) xs (with_param homes s.at.variable x s.scope))) (one-more s.at.variable (length xs))

-- the parameters that are left, behind those of before
pub next_params : (s0 s1 : Seen) {s2 : Seen} {left : List c.Par} (homes : List Home) (x : c.Par) (rest all : List c.Par) → left ≡ x ∷ rest →
    and_params homes left s1 ≡ and_params homes all s0 → s2 ≡ and_param homes x s1 → and_params homes rest s2 ≡ and_params homes all s0
next_params s0 s1 {s2} {left} homes x rest all is so_far more = ap (and_params homes rest) more ∙ ap (λ l. and_params homes l s1) (sym is) ∙ so_far

pub no_more_params : (s0 : Seen) {s1 : Seen} {left : List c.Par} (homes : List Home) (all : List c.Par) → left ≡ [] →
    and_params homes left s1 ≡ and_params homes all s0 → s1 ≡ and_params homes all s0
no_more_params s0 {s1} homes all is so_far = ap (λ l. and_params homes l s1) (sym is) ∙ so_far

pub next_typed : (made : List Param) {more : List Param} {left : List c.Par} (homes : List Home) (x : c.Par) (rest all : List c.Par) → left ≡ x ∷ rest →
    made ++ params_typed homes (length made) left ≡ params_typed homes 0 all → more ≡ made ++ (param_at homes (length made) x ∷ []) →
    more ++ params_typed homes (length more) rest ≡ params_typed homes 0 all
next_typed made {more} {left} homes x rest all is so_far longer =
    let p = param_at homes (length made) x in
    let one : length (made ++ (p ∷ [])) ≡ suc (length made) = omega (arith, length-append {A = Param}) in
    ap (λ l. l ++ params_typed homes (length l) rest) longer
    ∙ ap (λ k. (made ++ (p ∷ [])) ++ params_typed homes k rest) one
    ∙ append_assoc made (p ∷ []) (params_typed homes (suc (length made)) rest)
    ∙ ap (λ l. made ++ params_typed homes (length made) l) (sym is)
    ∙ so_far

pub no_more_typed : {made : List Param} {left : List c.Par} (homes : List Home) (all : List c.Par) → left ≡ [] →
    made ++ params_typed homes (length made) left ≡ params_typed homes 0 all → made ≡ params_typed homes 0 all
no_more_typed {made} {left} homes all is so_far = sym (append-nil made) ∙ ap (λ l. made ++ params_typed homes (length made) l) (sym is) ∙ so_far

-- ---- bodies

-- A body begins with its own variables and ends with those of before.
pub whole_body : {s0 s1 s2 s3 s4 s5 s6 : Seen} {before : ℕ} {answer : Option t.Stms} (result : ValueType) (homes : List Home) (params : List c.Par) (all : c.Stms) →
    before ≡ s0.at.variable → s1 ≡ record s0 { at = record s0.at { variable = 0 } } → s2 ≡ record s1 { scope = inner s1.scope } → s3 ≡ and_params homes params s2 →
    Types s3 s4 (with_names_of homes s3.at.variable all s3.scope) (past_all all s3.at) (statements result homes s3.scope s3.at false all) answer →
    s5 ≡ record s4 { scope = outer s4.scope } → s6 ≡ record s5 { at = record s5.at { variable = before } } →
    Types s0 s6 s0.scope (past_body all s0.at) (body_in result homes params s0.scope s0.at all) answer
whole_body {s0} {s1} {s2} {s3} {s4} {s5} {s6} {before} {answer} result homes params all counts begins enters declares h leaves ends =
    let begun : Seen = record s0 { at = record s0.at { variable = 0 } } in
    let inside : Seen = record begun { scope = inner s0.scope } in
    let start : Seen = seen_by s0 (with_params homes 0 params (inner s0.scope)) (length params) in
    let entered : s2 ≡ inside = enters ∙ ap {A = Seen} (λ s. record s { scope = inner s.scope }) begins in
    let is : s3 ≡ start =
    declares ∙ ap (and_params homes params) entered ∙ params_behind homes params inside
    ∙ ap (seen_by s0 (with_params homes 0 params (inner s0.scope))) (from-zero (length params)) in
    let k : Types start s4 (with_names_of homes start.at.variable all start.scope) (past_all all start.at) (statements result homes start.scope start.at false all) answer =
    subst (λ s. Types s s4 (with_names_of homes s.at.variable all s.scope) (past_all all s.at) (statements result homes s.scope s.at false all) answer) is h in
    record {
      known = ap (λ s. s.scope) ends ∙ ap (λ s. s.scope) leaves ∙ ap outer k.known ∙ body_closes homes params (length params) all s0.scope;
      behind =
          ap (λ s. s.at) ends
          ∙ ap {A = Seen} (λ s. record s.at { variable = before }) leaves
          ∙ ap {A = At} (λ at. record at { variable = before }) k.behind
          ∙ ap (λ n. record (past_body all s0.at) { variable = n }) counts;
      noted = ap (λ s. s.first) ends ∙ ap (λ s. s.first) leaves ∙ k.noted;
      means = k.means;
    }

-- ---- functions

-- a function, from what the code finds for its head, its homes and its body
pub function_is : {s0 s1 s2 : Seen} {unnamed fine : Bool} {g : Head} {result : ValueType} {homes found : List Home} {slots frame : ℕ} {made : Option t.Stms} {answer : Option t.Function}
    (head : Head) (all : c.Stms) →
    g ≡ head → unnamed ≡ has_unnamed g → result ≡ g.result → homes ≡ found → found ≡ function_homes head.params all →
    slots ≡ (function_given head.params all).slots → frame ≡ frame_size head.params all →
    Finds s0 s1 s0.scope (broken_if unnamed WrongSignature head.place ++ head_breaches g) fine →
    Types s1 s2 s1.scope (past_body all s1.at) (body_in result homes head.params s1.scope s1.at all) made →
    answer ≡ cond fine (Some (function_with head found slots frame) <?> made) None →
    Types s0 s2 s0.scope (past_body all s0.at) (function s0.scope s0.at head all) answer
function_is {s0} {s1} {s2} {unnamed} {fine} {g} {result} {homes} {found} {slots} {frame} {made} {answer} head all headed named gives housed found-is slots-is frame-is finds h is =
    let found_of : Bool → Head → Type 0 = λ b g. Finds s0 s1 s0.scope (broken_if b WrongSignature head.place ++ head_breaches g) fine in
    let finds-is : found_of (has_unnamed head) head = subst (λ g. found_of (has_unnamed g) g) headed (subst (λ b. found_of b g) named finds) in
    let body_as : ValueType → List Home → Type 0 = λ ty hs. Types s1 s2 s1.scope (past_body all s1.at) (body_in ty hs head.params s1.scope s1.at all) made in
    let h-is : body_as head.result (function_homes head.params all) =
    subst (λ ty. body_as ty (function_homes head.params all)) (gives ∙ ap (λ g. g.result) headed) (subst (λ hs. body_as result hs) (housed ∙ found-is) h) in
    let f-is : function_with head found slots frame ≡ a_function head all =
    ap (λ hs. function_with head hs slots frame) found-is
    ∙ ap (λ n. function_with head (function_homes head.params all) n frame) slots-is
    ∙ ap (λ n. function_with head (function_homes head.params all) (function_given head.params all).slots n) frame-is in
    also_typed (λ Γ at. Γ) (λ Γ at. past_body all at) (λ Γ at. Fine (a_function head all) <*> body Γ at head all) finds-is
    (with_part (λ Γ at. Γ) (λ Γ at. past_body all at) (λ Γ at. body Γ at head all) (makes (a_function head all)) h-is)
    (is ∙ ap (λ f. cond fine (Some f <?> made) None) f-is)
