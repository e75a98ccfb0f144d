-- Declarations and statements one behind the other: those that are left mean, with what those before them gave, what all mean.
use Rattle.std.proofs.Common.{◌≡◌, refl, ap, ap₂, sym, ◌∙◌, subst, ℕ, suc, ◌+◌, ◌<◌, ◌≤◌, arith, Bool, List, [], ◌∷◌, length, map, drop, get_or, Option, Some}
use Rattle.std.proofs.Math.Numerals.{add-one}
use Rattle.std.proofs.Math.Seq.{drop-cons}
use Rattle.std.proofs.Math.ListN.{drop_of_length-le}
use Rattle.c_ast.specs.Trees as c
use Rattle.c_typed.specs.declared.types.ValueType.{ValueType}
use Rattle.c_typed.specs.declared.program.Home.{Home}
use Rattle.c_typed.specs.Tree as t
use Rattle.c_typed.specs.Tree.{Exps, Stms}
use Rattle.c_types_homes.specs.Addressed.{variables}
use Rattle.c_types_homes.proofs.Weights.{statement_weights}
use Rattle.c_types_statements.specs.Statements.{past, with_local, with_locals, with_names, local, locals, statement, statements, given_before, before}
use Rattle.c_types_statements.specs.Keeping.{Seen, Types, past_local, past_locals, past_all, with_names_of, and_given, and_statement, ◌<?>◌}
use Rattle.c_types_statements.proofs.Behind.{past_no_locals, past_more_locals, past_none, past_more}
use Rattle.c_types_statements.proofs.Lists.{and_all, and_rest, given_step, statement_step, all_of, rest_of}
use Rattle.c_types_statements.proofs.Typed.{Leads, leads_all, leads_on, leads_end}

pub next_left : {X A : Type 0} (view : X → A) (list : List X) (i : ℕ) (e : X) → i < length list → e ≡ get_or list i e →
    map view (drop i list) ≡ view e ∷ map view (drop (i + 1) list)
next_left view list i e below is = ap (map view) (drop-cons list i e below ∙ ap₂ (λ x k. x ∷ drop k list) (sym is) (sym (add-one i)))

pub none_left : {X A : Type 0} (view : X → A) (list : List X) (i : ℕ) → length list ≤ i → map view (drop i list) ≡ []
none_left view list i above = ap (map view) (drop_of_length-le list above)

-- ---- declarations

pub record LocalsLeft (homes : List Home) (old now : Seen) (typed : Option Exps) (left all : List c.Decl) : Type 0 where
  pub known : with_locals homes now.at.variable left now.scope ≡ with_locals homes old.at.variable all old.scope
  pub behind : past_locals left now.at ≡ past_locals all old.at
  pub leads : Leads old now (Some and_all <?> typed)
      (locals homes now.scope now.at.variable now.at.texts left) (locals homes old.scope old.at.variable old.at.texts all)

pub all_locals : {s : Seen} {xs : Exps} (homes : List Home) (all : List c.Decl) → xs ≡ t.no_exp → LocalsLeft homes s s (Some xs) all all
all_locals {s} homes all empty =
    subst (λ xs. LocalsLeft homes s s (Some xs) all all) (sym empty) (record { known = refl; behind = refl; leads = leads_all (and_all t.no_exp) (λ xs. refl) })

pub next_local : {s0 s1 s2 : Seen} {xs longer : Option Exps} {left : List c.Decl} {y : Option t.Maybe} (homes : List Home) (d : c.Decl) (rest all : List c.Decl) →
    left ≡ d ∷ rest → LocalsLeft homes s0 s1 xs left all →
    Types s1 s2 (with_local homes s1.at.variable d s1.scope) (past_local d s1.at) (local homes s1.scope s1.at.variable s1.at.texts d) y →
    longer ≡ (Some and_given <?> xs <?> y) → LocalsLeft homes s0 s2 longer rest all
next_local {s0} {s1} {s2} {xs} {longer} {left} {y} homes d rest all is so_far h made =
    let before : LocalsLeft homes s0 s1 xs (d ∷ rest) all = subst (λ l. LocalsLeft homes s0 s1 xs l all) is so_far in
    subst (λ l. LocalsLeft homes s0 s2 l rest all) (sym made) (record {
      known = ap₂ (λ at Γ. with_locals homes at.variable rest Γ) h.behind h.known ∙ before.known;
      behind = ap (past_locals rest) h.behind ∙ past_more_locals d rest s1.at ∙ before.behind;
      leads = leads_on given_before (λ Γ at. locals homes Γ at.variable at.texts rest) before.leads h (given_step xs y);
    })

pub no_more_locals : {s0 s : Seen} {xs : Option Exps} {left : List c.Decl} (homes : List Home) (all : List c.Decl) → left ≡ [] → LocalsLeft homes s0 s xs left all →
    Types s0 s (with_locals homes s0.at.variable all s0.scope) (past_locals all s0.at) (locals homes s0.scope s0.at.variable s0.at.texts all) xs
no_more_locals {s0} {s} {xs} homes all is so_far =
    let done : LocalsLeft homes s0 s xs [] all = subst (λ l. LocalsLeft homes s0 s xs l all) is so_far in
    leads_end done.leads done.known (past_no_locals s.at ∙ done.behind) (all_of xs)

-- ---- statements

-- in a function that gives this type, whose variables have these homes, and in a loop or not
pub record StatementsLeft (result : ValueType) (homes : List Home) (loops : Bool) (old now : Seen) (typed : Option Stms) (left all : c.Stms) : Type 0 where
  pub known : with_names_of homes now.at.variable left now.scope ≡ with_names_of homes old.at.variable all old.scope
  pub behind : past_all left now.at ≡ past_all all old.at
  pub leads : Leads old now (Some and_rest <?> typed) (statements result homes now.scope now.at loops left) (statements result homes old.scope old.at loops all)

module _ (result : ValueType) (homes : List Home) (loops : Bool) where
  pub all_statements : {s : Seen} {xs : Stms} (all : c.Stms) → xs ≡ t.no_stm → StatementsLeft result homes loops s s (Some xs) all all
  all_statements {s} all empty =
      subst (λ xs. StatementsLeft result homes loops s s (Some xs) all all) (sym empty) (record { known = refl; behind = refl; leads = leads_all (and_rest t.no_stm) (λ xs. refl) })

  pub next_statement : {s0 s1 s2 : Seen} {xs longer : Option Stms} {left : c.Stms} {y : Option t.Stm} (x : c.Stm) (rest all : c.Stms) →
      left ≡ c.a_stm x rest → StatementsLeft result homes loops s0 s1 xs left all →
      Types s1 s2 (with_names homes s1.at.variable x s1.scope) (past x s1.at) (statement result homes s1.scope s1.at loops x) y →
      longer ≡ (Some and_statement <?> xs <?> y) → StatementsLeft result homes loops s0 s2 longer rest all
  next_statement {s0} {s1} {s2} {xs} {longer} {left} {y} x rest all is so_far h made =
      let before-it : StatementsLeft result homes loops s0 s1 xs (c.a_stm x rest) all = subst (λ l. StatementsLeft result homes loops s0 s1 xs l all) is so_far in
      subst (λ l. StatementsLeft result homes loops s0 s2 l rest all) (sym made) (record {
        known = ap₂ (λ at Γ. with_names_of homes at.variable rest Γ) h.behind h.known ∙ before-it.known;
        behind = ap (past_all rest) h.behind ∙ past_more x rest s1.at ∙ before-it.behind;
        leads = leads_on before (λ Γ at. statements result homes Γ at loops rest) before-it.leads h (statement_step xs y);
      })

  pub no_more_statements : {s0 s : Seen} {xs : Option Stms} {left : c.Stms} (all : c.Stms) → left ≡ c.no_stm → StatementsLeft result homes loops s0 s xs left all →
      Types s0 s (with_names_of homes s0.at.variable all s0.scope) (past_all all s0.at) (statements result homes s0.scope s0.at loops all) xs
  no_more_statements {s0} {s} {xs} all is so_far =
      let done : StatementsLeft result homes loops s0 s xs c.no_stm all = subst (λ l. StatementsLeft result homes loops s0 s xs l all) is so_far in
      leads_end done.leads done.known (past_none s.at ∙ done.behind) (rest_of xs)

-- The statements that are left weigh less and less.
pub next_lighter : {left : c.Stms} (x : c.Stm) (rest all : c.Stms) → left ≡ c.a_stm x rest → statement_weights left ≤ statement_weights all → statement_weights rest ≤ statement_weights all
next_lighter x rest all is below =
    let more : statement_weights (c.a_stm x rest) ≤ statement_weights all = subst (λ l. statement_weights l ≤ statement_weights all) is below in omega (arith, more)
