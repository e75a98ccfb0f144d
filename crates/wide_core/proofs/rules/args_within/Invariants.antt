use Rattle.std.proofs.Common.{◌≡◌, drop, map}
use Rattle.std.specs.List.{list_all}
use Rattle.wide_core.specs.declared.code.Loc.TheVariants.{Reg}
use Rattle.wide_core.specs.Valid.{is_within}
use Rattle.wide_core.proofs.rules.args_within.Given as goal

abbrev pub invariant-loop-arg : goal.invariant-loop-arg
invariant-loop-arg l =
    list_all (is_within l.regs l.slots) (map (λ r. Reg r) (drop l.arg-index l.args)) ≡ list_all (is_within l.regs l.slots) (map (λ r. Reg r) l.args)
