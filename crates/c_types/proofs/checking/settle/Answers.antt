use Rattle.std.proofs.Common.{List, map, sym, ap, ◌∙◌, ℕ, Bor}
use Rattle.c_ast.specs.TreeViews.{unit_of}
use Rattle.c_types.specs.Views.{parts_of}
use Rattle.c_types.proofs.CheckLemmas.{refused_broken, kept_within}
use Rattle.c_types.proofs.FirstLemmas.{names_noted}
use Rattle.c_types.proofs.checking.settle.Goals as goal

pub returns-in_default-clause-refused : goal.returns-in_default-clause-refused
returns-in_default-clause-refused c =
    refused_broken c.refusal.result (unit_of c.args.unit.now) (rw c.in_default.is at c.requires.tells) (sym c.first.ensures ∙ c.unwrap.ensures) c.refusal.ensures

pub returns-in_default-clause-first : goal.returns-in_default-clause-first
returns-in_default-clause-first c =
    names_noted c.refusal.result (unit_of c.args.unit.now) (rw c.in_default.is at c.requires.tells) (sym c.first.ensures ∙ c.unwrap.ensures) c.refusal.ensures

pub lay_out-requires : goal.lay_out-requires
lay_out-requires c =
    record {
      keeps =
          kept_within (unit_of c.args.unit.now) (parts_of c.in-Some.made) c.requires.formed (rw c.in-Some.is at c.requires.tells) c.in_ok-nodes.ensures
          c.deref.ensures.value (ap (λ (texts : List (Bor (List ℕ))). map (λ text. text.now) texts) c.deref-2.ensures.value ∙ c.into_parts-texts.ensures.texts) c.into_parts-texts.ensures.places;
    }
