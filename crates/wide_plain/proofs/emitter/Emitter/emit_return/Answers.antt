use Rattle.std.proofs.Common.{[], ◌∷◌, ◌++◌, refl, sym, ap}
use Rattle.wide_core.specs.declared.code.WideAct.TheVariants.{Return}
use Rattle.std.specs.Prelude.{Some}
use Rattle.plain_code.specs.Plain.{found_in, item, reloads, spread}
use Rattle.wide_plain.proofs.Emitted.{emits_onto, on_same}
use Rattle.wide_plain.proofs.emitter.Emitter.emit_return.Goals as goal

pub returns : goal.returns
returns c =
    let low = c.args.homes.low in
    let home = c.args.home in
    let r = c.in-Some.reg in
    let first = reloads low home (r ∷ []) (r ∷ []) in
    let last = item home (Return (Some (found_in low (r ∷ []) r))) ∷ [] in
    on_same c.emit-2.result (first ++ last) _ c.args.self.now c.emit-2.new.self
    (emits_onto c.emit-2.result first _ last _ c.args.self.now c.emit_reloads.new.self c.emit-2.new.self c.in_ok-emit_reloads.ensures c.emit-2.ensures refl
    (ap (λ from. item home (Return (Some from)) ∷ []) c.found_in-from.ensures))
    (ap (λ o. spread low (λ l. l) home (Return o)) (sym c.in-Some.is))
