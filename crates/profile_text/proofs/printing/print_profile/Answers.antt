use Rattle.std.proofs.Common.{rules}
use Rattle.profile_text.proofs.Appended.{profile_printed}
use Rattle.profile_text.proofs.printing.print_profile.Goals as goal

pub returns : goal.returns
returns c =
    profile_printed c.args.tac.now c.args.counts.now c.in_ok-text.text.items c.print_funcs.new.text.items c.extend_from_slice.new.self.items c.funcs.result.now c.funcs-2.result.now c.funcs.ensures.value c.funcs-2.ensures.value (search rules) (search rules) (search rules) c.requires c.funcs-2.ensures.kept (search rules) (search rules)
