use Rattle.std.proofs.Common.{◌++◌, ◌∙◌, sym, ap, map-id}
use Rattle.std.proofs.lemmas.Iterator.Adapters.{fact_from_extend, YieldsList-from_vec}
use Rattle.c_types.proofs.items.append.Goals as goal

pub returns : goal.returns
returns c =
    fact_from_extend (λ x. x) c.extend.result c.extend.ensures.ran (λ it b. YieldsList-from_vec {s = it} _ b.0 (b.1 ∙ c.args.more.ok.0))
    (λ xs e h. h.0 ∙ ap (λ l. c.args.list.now.items ++ l) (sym (map-id xs) ∙ e))
