use Rattle.std.proofs.Common.{◌≡◌, nat_lt, drop, map}
use Rattle.std.specs.List.{list_any}
use Rattle.wide_core.specs.declared.code.Loc.TheVariants.{Reg}
use Rattle.wide_sim.specs.Store.{held}
use Rattle.wide_sim.proofs.times.args_late.Given as goal

abbrev pub invariant-loop-arg : goal.invariant-loop-arg
invariant-loop-arg l =
    list_any (λ loc. nat_lt l.now (held 0 l.ready loc)) (map (λ r. Reg r) (drop l.arg-index l.args)) ≡ list_any (λ loc. nat_lt l.now (held 0 l.ready loc)) (map (λ r. Reg r) l.args)
