use Rattle.std.proofs.Common.{◌≡◌, ◌+◌, suc, refl, ap, sym, ◌∙◌, subst, map, drop, rules}
use Rattle.c_types_operators.specs.ScopeViews.{functions_of}
use Rattle.c_types_functions.specs.Functions.{all_named, numbered, running}
use Rattle.c_types_functions.specs.Views.{plain_head}
use Rattle.c_types_functions.proofs.LoopLemmas.{next, with_next}
use Rattle.c_types_functions.proofs.tables.and_bodies.Goals as goal

pub loop-head-preserved : goal.loop-head-preserved
loop-head-preserved c =
    let heads = c.args.bodies.now in
    let k = c.loop-head.number in
    let head = c.head-item.result in
    let rest = map plain_head (drop (c.loop-head.head-index + 1) heads) in
    let all = all_named (functions_of c.args.table.now) (numbered 0 (map plain_head heads)) in
    let number : c.in_ok-number.number ≡ suc k = search rules in
    let left = next heads heads c.loop-head.head-index head refl c.loop-head-test.true c.head-item.is in
    subst (λ n. all_named (functions_of c.declare.new.self) (numbered n rest) ≡ all) (sym number)
    (with_next c.loop-head.table c.declare.new.self c.name.result.now c.running.result (running k (plain_head head)) (numbered (suc k) rest) all
    c.in_ok-declare.ensures.names c.name.ensures c.running.ensures
    (ap (λ hs. all_named (functions_of c.loop-head.table) (numbered k (map plain_head hs))) (sym left) ∙ c.loop-head.invariant))
