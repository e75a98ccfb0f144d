use Rattle.std.proofs.Common.{◌≡◌, sym, ap, subst}
use Rattle.tac_core.specs.Program.{with_funcs}
use Rattle.tac_core.specs.Cover.{Covers, CopiedProgram}
use Rattle.tac_core.proofs.Valid.{covers_valid}
use Rattle.tac_core.proofs.copied.Copied.over.Goals as goal

pub with_funcs-requires : goal.with_funcs-requires
with_funcs-requires c valid =
    let same : c.self.inside.tac ≡ c.args.self.now.tac = ap (λ (v : CopiedProgram). v.tac) c.self.view_is in
    covers_valid c.args.origins.now (with_funcs c.self.inside.tac c.args.funcs) c.self.inside.tac
    (subst (λ p. Covers c.args.origins.now (with_funcs p c.args.funcs) p) (sym same) c.requires) valid
