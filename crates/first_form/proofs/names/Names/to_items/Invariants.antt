use Rattle.std.proofs.Common.{◌≡◌, map, take}
use Rattle.first_form.proofs.names.Names.to_items.Given as goal

abbrev pub invariant-loop-name : goal.invariant-loop-name
invariant-loop-name l = l.items ≡ map (λ name. name.now) (take l.name-index l.names)
