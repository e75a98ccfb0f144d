use Rattle.std.proofs.Common.{◌≡◌, drop}
use Rattle.std.specs.List.{list_any}
use Rattle.wide_core.specs.Valid.{is_entry}
use Rattle.wide_core.proofs.wide_code.has_entry.Given as goal

abbrev pub invariant-loop-func : goal.invariant-loop-func
invariant-loop-func l = list_any is_entry (drop l.func-index l.funcs) ≡ list_any is_entry l.funcs
