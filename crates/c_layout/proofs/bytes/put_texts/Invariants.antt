use Rattle.std.proofs.Common.{◌≡◌, ◌++◌, map, drop}
use Rattle.c_layout.specs.Layout.{texts_bytes}
use Rattle.c_layout.proofs.bytes.put_texts.Given as goal

abbrev pub invariant-loop-text : goal.invariant-loop-text
invariant-loop-text l = l.bytes.items ++ texts_bytes (map (λ text. text.now) (drop l.text-index l.texts)) ≡ l.fn.bytes.items ++ texts_bytes (map (λ text. text.now) l.texts)
