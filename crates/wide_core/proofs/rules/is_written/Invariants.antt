use Rattle.std.proofs.Common.{◌≡◌, drop}
use Rattle.std.specs.List.{list_any}
use Rattle.wide_core.specs.declared.code.WideOp.{WideOp}
use Rattle.wide_core.specs.Operation.{target}
use Rattle.wide_core.specs.Valid.{same_target}
use Rattle.wide_core.proofs.rules.is_written.Given as goal

abbrev pub invariant-loop-op : goal.invariant-loop-op
invariant-loop-op l =
    list_any (λ (other : WideOp). same_target l.loc (target other.act)) (drop l.op-index l.ops) ≡ list_any (λ (other : WideOp). same_target l.loc (target other.act)) l.ops
