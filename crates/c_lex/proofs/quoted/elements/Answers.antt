use Rattle.std.proofs.Common.{arith, drop, ◌+◌, List, ℕ, sym, ◌∙◌, ap, length-drop}
use Rattle.c_lex.specs.First.{put, quoted}
use Rattle.c_lex.proofs.Quotes.{elements_more}
use Rattle.c_lex.proofs.Lists.{take-rest}
use Rattle.c_ast.specs.Literals.{element}
use Rattle.c_lex.proofs.quoted.elements.Goals as goal

pub elements-preserved : goal.elements-preserved
elements-preserved c = record {
  within = omega (arith, length-drop c.elements.len c.args.bytes.now, c.in-Some.ensures.within);
  answer =
      ap (λ (values : List ℕ). put values (c.elements.len + c.in-Some.more) (quoted c.args.quote (drop (c.elements.len + c.in-Some.more) c.args.bytes.now))) c.in_ok-push_bytes.ensures.ok
      ∙ elements_more c.args.quote c.args.bytes.now c.elements.values c.elements.len c.in-Some.value c.in-Some.more (ap (element c.args.quote) (sym (take-rest c.elements.len c.args.bytes.now)) ∙ sym c.in-Some.ensures.element) c.elements.invariant.answer;
}
