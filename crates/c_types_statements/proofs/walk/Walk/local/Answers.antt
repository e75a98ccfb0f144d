use Rattle.c_ast.specs.TreeViews as source
use Rattle.c_types_homes.specs.Declarators.{declared_name, declared_place, init_of}
use Rattle.std.proofs.Common.{◌++◌}
use Rattle.c_types_operators.specs.declared.scope.Variable.{Variable}
use Rattle.c_types_operators.specs.Scopes.{with_variable}
use Rattle.c_types_operators.specs.Parts.{also}
use Rattle.c_types_declarators.specs.Declarations.{declarator_breaches}
use Rattle.c_types_statements.specs.Statements.{past_texts, literals_init, redeclared_in, stored_first}
use Rattle.c_types_statements.specs.Keeping.{counted}
use Rattle.c_types_statements.proofs.Typed.{after, also_typed, kept_where}
use Rattle.c_types_statements.proofs.Declaring.{local_is}
use Rattle.c_types_statements.proofs.walk.Walk.local.Goals as goal

pub returns : goal.returns
returns c =
    let d = source.decl_of c.args.d.now in
    let v : Variable = record { shape = c.in_ok-shape.shape; lives = c.lives.result } in
    local_is c.args.homes.now d c.in_ok-shape.ensures c.in_ok-number.ensures.number c.home_at-home.ensures c.lives.ensures
    (after counted (λ Γ at. with_variable (declared_name d) v Γ) (λ Γ at. past_texts (literals_init (init_of d)) at)
    (λ Γ at. also (redeclared_in Γ (declared_name d) (declared_place d) ++ declarator_breaches d) (stored_first (with_variable (declared_name d) v Γ) at.texts (declared_place d) c.in_ok-shape.shape c.home_at-home.result (init_of d)))
    c.in_ok-number.ensures.noted
    (also_typed (λ Γ at. Γ) (λ Γ at. past_texts (literals_init (init_of d)) at) (λ Γ at. stored_first Γ at.texts (declared_place d) c.in_ok-shape.shape c.home_at-home.result (init_of d))
    c.in_ok-fine.ensures c.in_ok-first.ensures (kept_where _ _ _ c.kept_if.ensures)))
