use Rattle.std.proofs.Common.{◌≡◌, ◌+◌, drop, slice_get}
use Rattle.wide_core.specs.Valid.{limits, lines_of_funcs, of_funcs}
use Rattle.wide_core.proofs.valid_funcs.broken_funcs.Given as goal

abbrev pub invariant-loop-func : goal.invariant-loop-func
invariant-loop-func g l = record {
  first : slice_get (of_funcs (limits g.M.Machine.WIDTH g.M.Machine.REGS g.M.Machine.units_of) l.funcs l.seen.names l.seen.numbers l.at (drop l.func-index l.funcs)) 0 ≡ slice_get (of_funcs (limits g.M.Machine.WIDTH g.M.Machine.REGS g.M.Machine.units_of) l.funcs l.initial.seen.names l.initial.seen.numbers l.line l.funcs) 0;
  lines : l.at + lines_of_funcs (drop l.func-index l.funcs) ≡ l.line + lines_of_funcs l.funcs;
}
