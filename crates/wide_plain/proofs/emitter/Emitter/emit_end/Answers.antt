use Rattle.std.proofs.Common.{[], ◌∷◌, ◌++◌, sym, ap}
use Rattle.wide_core.specs.declared.code.WideAct.TheVariants.{Branch, Jump}
use Rattle.plain_code.specs.Plain.{end_acts, found_in, item, reloads, spread, spread_all}
use Rattle.wide_plain.specs.Emitted.{word_of}
use Rattle.wide_plain.proofs.Emitted.{emits_onto, on_same}
use Rattle.wide_plain.proofs.emitter.Emitter.emit_end.Goals as goal

pub returns-in_ok-emit_branch-in-Branch : goal.returns-in_ok-emit_branch-in-Branch
returns-in_ok-emit_branch-in-Branch c =
    let low = c.args.homes.low in
    let home = c.args.home in
    let at = word_of c.args.starts.now in
    let r = c.in-Branch.reg in
    let first = spread low at home (Branch r c.in-Branch.yes) in
    let next = item home (Jump (at c.in-Branch.no)) ∷ [] in
    on_same c.emit-in-Branch.result (first ++ next) _ c.args.self.now c.emit-in-Branch.new.self
    (emits_onto c.emit-in-Branch.result first _ next _ c.args.self.now c.emit_branch.new.self c.emit-in-Branch.new.self
    c.in_ok-emit_branch-in-Branch.ensures c.emit-in-Branch.ensures
    (ap (λ to. reloads low home (r ∷ []) (r ∷ []) ++ item home (Branch (found_in low (r ∷ []) r) to) ∷ []) c.word_of-to-in-Branch.ensures)
    (ap (λ to. item home (Jump to) ∷ []) c.word_of-to-in-Branch-2.ensures))
    (ap (λ e. spread_all low at home (end_acts e)) (sym c.in-Branch.is))
