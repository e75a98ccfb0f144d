use Rattle.std.proofs.Common.{◌≡◌, map, string_bytes, drop}
use Rattle.impactc_words.specs.Reading.{behind_words}
use Rattle.impactc_words.proofs.reader.arguments.Given as goal

abbrev pub invariant-loop-word : goal.invariant-loop-word
invariant-loop-word l = behind_words l.reader (map string_bytes (drop l.word-index l.words)) ≡ behind_words l.initial.reader (map string_bytes l.words)
