use Rattle.std.proofs.Common.{◌≡◌, map, drop}
use Rattle.c_layout.specs.Layout.{behind_texts}
use Rattle.c_layout.proofs.addresses.behind_texts.Given as goal

abbrev pub invariant-loop-text : goal.invariant-loop-text
invariant-loop-text l = behind_texts l.at (map (λ text. text.now) (drop l.text-index l.texts)) ≡ behind_texts l.fn.from (map (λ text. text.now) l.texts)
