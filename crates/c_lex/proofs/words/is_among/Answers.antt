use Rattle.std.proofs.Common.{rules, bytes_eq, sym, ◌∙◌, List, ℕ, Bor}
use borrow.Author.Tests.{tests}
use Rattle.std.proofs.lemmas.Iterator.Search.{any_from_yields_List}
use Rattle.std.proofs.lemmas.Iterator.{YieldsList-from_slice}
use Rattle.ib_meaning.proofs.Facts.{list_any-map}
use Rattle.c_lex.proofs.words.is_among.Goals as goal

pub returns : goal.returns
returns c =
    any_from_yields_List (λ (w : Bor (List ℕ)). bytes_eq c.args.bytes.now w.now) _ _ _ c.any.ensures.ran (YieldsList-from_slice c.args.words.now cc) (λ x b q k. search (rules, tests))
    ∙ sym (list_any-map (bytes_eq c.args.bytes.now) (λ (w : Bor (List ℕ)). w.now) c.args.words.now)
