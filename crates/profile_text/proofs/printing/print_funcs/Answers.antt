use Rattle.std.proofs.Common.{rules, ◌^◌, ◌<◌, length}
use Rattle.std.specs.List.{All}
use Rattle.profile_text.specs.ProfileText.{HasLabels}
use Rattle.profile_text.proofs.Appended.{funcs_text_more, all_to}
use Rattle.profile_text.proofs.printing.print_funcs.Goals as goal

pub loop-i-preserved : goal.loop-i-preserved
loop-i-preserved c =
    let funcs = c.args.funcs.now in
    let counts = c.args.counts.now in
    let f = c.index-funcs-i.result in
    let g = c.index-counts-i.result in (
      funcs_text_more c.loop-i.text.items c.print_func.new.text.items _ funcs counts c.loop-i.i f g c.loop-i-test.true c.requires c.index-funcs-i.is c.index-counts-i.is (search rules) c.loop-i.invariant.0,
      all_to (λ x. All HasLabels x.edges) counts c.loop-i.i g (search rules) c.index-counts-i.is (search rules) c.loop-i.invariant.1,
      all_to (λ x. length x.blocks < 2 ^ 64) funcs c.loop-i.i f c.loop-i-test.true c.index-funcs-i.is (search rules) c.loop-i.invariant.2,
    )
