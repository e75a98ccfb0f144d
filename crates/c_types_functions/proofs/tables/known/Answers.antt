use Rattle.std.proofs.Common.{◌≡◌, List, ◌+◌, refl, ap, ap₂, sym, ◌∙◌, map, drop, length, rules}
use Rattle.std.proofs.lemmas.List.{length-map}
use Rattle.c_scopes.specs.Scopes.{Named}
use Rattle.c_types_operators.specs.declared.scope.Function as code_function
use Rattle.c_types_operators.specs.ScopeViews.{functions_of}
use Rattle.c_types_functions.specs.Functions.{all_named, numbered, running, built_in, by_heads}
use Rattle.c_types_functions.specs.Views.{plain_head}
use Rattle.c_types_functions.proofs.LoopLemmas.{next, with_next}
use Rattle.c_types_functions.proofs.tables.known.Goals as goal

pub loop-head-init : goal.loop-head-init
loop-head-init c =
    let number : c.in_ok-number.number ≡ length (map plain_head c.args.bodies.now) = search (rules, length-map c.args.bodies.now plain_head) in
    ap₂ (λ t n. all_named t (map (running n) (map plain_head c.args.prototypes.now)))
    (c.in_ok-and_bodies.ensures
    ∙ ap (λ t. all_named t (numbered 0 (map plain_head c.args.bodies.now)))
    (c.in_ok-and_built_in.ensures ∙ ap (λ (t : List (Named code_function.Function)). all_named (functions_of t) built_in) c.new-table.ensures)) number

pub loop-head-preserved : goal.loop-head-preserved
loop-head-preserved c =
    let heads = c.args.prototypes.now in
    let head = c.head-item.result in
    let k = c.in_ok-number.number in
    let rest = map plain_head (drop (c.loop-head.head-index + 1) heads) in
    let left = next heads heads c.loop-head.head-index head refl c.loop-head-test.true c.head-item.is in
    with_next c.loop-head.table c.declare.new.self c.name.result.now c.running.result (running k (plain_head head)) (map (running k) rest)
    (by_heads (map plain_head c.args.bodies.now) (map plain_head heads))
    c.in_ok-declare.ensures.names c.name.ensures c.running.ensures
    (ap (λ hs. all_named (functions_of c.loop-head.table) (map (running k) (map plain_head hs))) (sym left) ∙ c.loop-head.invariant)
