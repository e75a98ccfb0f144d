use Rattle.std.proofs.Common.{◌≡◌, length, map, take, pos, true}
use Rattle.wide_core.specs.declared.code.Tagged.TheVariants.{Clear}
use Rattle.std.specs.List.{list_all}
use Rattle.wide_core.specs.Word.{effects}
use Rattle.wide_sim.specs.Next.{has_args}
use Rattle.wide_sim.specs.Planned.{effect_of}
use Rattle.wide_sim.specs.Quiet.{is_quiet_plan, is_quiet_word}
use Rattle.wide_sim.specs.Site.{around}
use Rattle.wide_sim.specs.Store.{held}
use Rattle.wide_sim.proofs.word.plan_word.Given as goal

abbrev pub invariant-loop-i : goal.invariant-loop-i
invariant-loop-i l = record {
  len : length l.plan ≡ length l.initial.plan;
  args : list_all (has_args (length l.values.regs) (length l.values.slots)) (take l.i l.plan) ≡ true;
  quiet : is_quiet_word l.ops ≡ true → list_all is_quiet_plan (take l.i l.plan) ≡ true;
  planned : map (effect_of (held (Clear (pos 0)) l.values)) (take l.i l.plan) ≡ effects (around l.site l.memory) (held (Clear (pos 0)) l.values) (take l.i l.ops);
}
