-- Items one behind the other: those that are left mean, with those before them, what all mean.
use Rattle.std.proofs.Common.{◌≡◌, refl, ap, ap₂, sym, ◌∙◌, subst, Bool, cond, not, List, [], ◌∷◌, ◌++◌, map, Option, Some, None}
use Rattle.std.proofs.lemmas.List.{append-nil, append_assoc, map-append}
use Rattle.c_ast.specs.Trees as c
use Rattle.c_typed.specs.declared.program.Function.{Function}
use Rattle.c_typed.specs.Tree as t
use Rattle.c_typed.specs.Views.{function_of}
use Rattle.c_layout.specs.declared.data.GlobalData.{GlobalData}
use Rattle.c_scopes.specs.Scopes as s
use Rattle.c_typed.specs.declared.rule.Rule.TheVariants.{WrongSignature}
use Rattle.c_types_operators.specs.Rules.{Fine}
use Rattle.c_types_operators.specs.Scopes as scopes
use Rattle.c_types_operators.specs.Parts.{broken_if}
use Rattle.c_types_functions.specs.Functions.{Head, head_breaches, is_good_prototype}
use Rattle.c_types_statements.specs.Keeping.{Seen, Types, Finds, ◌<?>◌}
use Rattle.c_types_statements.proofs.Typed.{makes, also_typed, Leads, leads_all, leads_on, leads_end}
use Rattle.c_types.specs.Making.{with_items}
use Rattle.c_types_units.specs.Units.{Parts, no_parts, one_function, only_globals, joined, with_item, past_item, past_items, prototype, item, items}

abbrev pub parts_with : List t.Function → List GlobalData → Parts
parts_with fs gs = record { functions = fs; globals = gs }

same_parts : {fs hs : List t.Function} {gs ks : List GlobalData} → fs ≡ hs → gs ≡ ks → parts_with fs gs ≡ parts_with hs ks
same_parts e f = ap₂ parts_with e f

joined_none : (a : Parts) → joined a no_parts ≡ a
joined_none a = same_parts (append-nil a.functions) (append-nil a.globals)

joined_assoc : (a b d : Parts) → joined (joined a b) d ≡ joined a (joined b d)
joined_assoc a b d = same_parts (append_assoc a.functions b.functions d.functions) (append_assoc a.globals b.globals d.globals)

-- with one item more
pub and_nothing : (a : Parts) → a ≡ joined a no_parts
and_nothing a = sym (joined_none a)

pub and_function : (fs longer : List Function) (gs : List GlobalData) (f : Function) → longer ≡ fs ++ (f ∷ []) →
    parts_with (map function_of longer) gs ≡ joined (parts_with (map function_of fs) gs) (one_function (function_of f))
and_function fs longer gs f is = same_parts (ap (map function_of) is ∙ map-append function_of fs (f ∷ [])) (sym (append-nil gs))

pub and_globals : (fs : List t.Function) (gs longer more : List GlobalData) → longer ≡ gs ++ more → parts_with fs longer ≡ joined (parts_with fs gs) (only_globals more)
and_globals fs gs longer more is = same_parts (sym (append-nil fs)) is

item_step : (xs x o : Option Parts) → (Some joined <?> (Some joined <?> xs <?> x) <?> o) ≡ (Some joined <?> xs <?> (Some joined <?> x <?> o))
item_step None x o = refl
item_step (Some xs) None o = refl
item_step (Some xs) (Some x) None = refl
item_step (Some xs) (Some x) (Some ys) = ap Some (joined_assoc xs x ys)

items_of : (xs : Option Parts) → xs ≡ (Some joined <?> xs <?> Some no_parts)
items_of None = refl
items_of (Some xs) = ap Some (and_nothing xs)

-- in a file whose functions with a body are these
module _ (bodied : s.Scope scopes.Function) where
  pub record ItemsLeft (old now : Seen) (made : Option Parts) (left all : List c.Top) : Type 0 where
    pub known : with_items now.at left now.scope ≡ with_items old.at all old.scope
    pub behind : past_items left now.at ≡ past_items all old.at
    pub leads : Leads old now (Some joined <?> made) (items bodied now.scope now.at left) (items bodied old.scope old.at all)

  -- a prototype, from what the code finds for its head
  pub prototype_is : {s0 s1 : Seen} {g : Head} {good fine : Bool} {answer : Option Parts} (head : Head) →
      g ≡ head → good ≡ is_good_prototype bodied g → Finds s0 s1 s0.scope (broken_if (not good) WrongSignature head.place ++ head_breaches g) fine →
      answer ≡ cond fine (Some no_parts) None → Types s0 s1 s0.scope s0.at (prototype bodied head) answer
  prototype_is {s0} {s1} {g} {good} {fine} {answer} head headed good-is finds is =
      let found_of : Bool → Head → Type 0 = λ b g. Finds s0 s1 s0.scope (broken_if (not b) WrongSignature head.place ++ head_breaches g) fine in
      also_typed (λ Γ at. Γ) (λ Γ at. at) (λ Γ at. Fine no_parts)
      (subst (λ g. found_of (is_good_prototype bodied g) g) headed (subst (λ b. found_of b g) good-is finds)) (makes no_parts) is

  pub all_items : {s : Seen} {made : Parts} (all : List c.Top) → made ≡ no_parts → ItemsLeft s s (Some made) all all
  all_items {s} all empty =
      subst (λ made. ItemsLeft s s (Some made) all all) (sym empty) (record { known = refl; behind = refl; leads = leads_all (joined no_parts) (λ a. refl) })

  pub next_item : {s0 s1 s2 : Seen} {made longer : Option Parts} {left : List c.Top} {y : Option Parts} (x : c.Top) (rest all : List c.Top) →
      left ≡ x ∷ rest → ItemsLeft s0 s1 made left all →
      Types s1 s2 (with_item s1.at.variable x s1.scope) (past_item x s1.at) (item bodied s1.scope s1.at x) y →
      longer ≡ (Some joined <?> made <?> y) → ItemsLeft s0 s2 longer rest all
  next_item {s0} {s1} {s2} {made} {longer} {left} {y} x rest all is so_far h made-is =
      let before : ItemsLeft s0 s1 made (x ∷ rest) all = subst (λ l. ItemsLeft s0 s1 made l all) is so_far in
      subst (λ l. ItemsLeft s0 s2 l rest all) (sym made-is) (record {
        known = ap₂ (λ at Γ. with_items at rest Γ) h.behind h.known ∙ before.known;
        behind = ap (past_items rest) h.behind ∙ before.behind;
        leads = leads_on joined (λ Γ at. items bodied Γ at rest) before.leads h (item_step made y);
      })

  pub no_more_items : {s0 s : Seen} {made : Option Parts} {left : List c.Top} (all : List c.Top) → left ≡ [] → ItemsLeft s0 s made left all →
      Types s0 s (with_items s0.at all s0.scope) (past_items all s0.at) (items bodied s0.scope s0.at all) made
  no_more_items {s0} {s} {made} all is so_far =
      let done : ItemsLeft s0 s made [] all = subst (λ l. ItemsLeft s0 s made l all) is so_far in
      leads_end done.leads done.known done.behind (items_of made)
