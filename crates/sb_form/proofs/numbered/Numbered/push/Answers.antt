use Rattle.sb_form.proofs.Growing.{grown_one}
use Rattle.sb_form.proofs.numbered.Numbered.push.Goals as goal

pub returns : goal.returns
returns c =
    grown_one c.args.home c.args.act c.is_register-flagged.result c.args.self.now.next c.in-Ok.next c.args.self.now.items c.push.new.self c.is_register-flagged.ensures c.in-Ok.ensures c.in_ok-push.ensures.ok c.requires
