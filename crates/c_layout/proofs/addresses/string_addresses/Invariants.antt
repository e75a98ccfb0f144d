use Rattle.std.proofs.Common.{◌≡◌, ◌++◌, map, drop}
use Rattle.c_layout.specs.Layout.{text_addresses, texts_behind}
use Rattle.c_layout.proofs.addresses.string_addresses.Given as goal

abbrev pub invariant-loop-text : goal.invariant-loop-text
invariant-loop-text l = l.found.items ++ text_addresses l.at (map (λ text. text.now) (drop l.text-index l.texts)) ≡ texts_behind l.globals (map (λ text. text.now) l.texts)
