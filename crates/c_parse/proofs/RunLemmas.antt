-- The machine on the tokens that are left, and what its answer says of all of them.
use Rattle.std.proofs.Common.{◌≡◌, ℕ, ◌+◌, ◌<◌, ◌≤◌, List, [], ◌∷◌, length, drop, get_or, Some, None, Ok, Err, sym, ◌∙◌, ap, arith, rules}
use Rattle.std.specs.Prelude.{Result, IfOk, IfErr}
use Rattle.std.proofs.lemmas.List.{at_drop_more, at_drop_all, length-drop}
use Rattle.c_ast.specs.declared.token.Token.{Token}
use Rattle.c_ast.specs.declared.tree_unit.Unit as code
use Rattle.c_ast.specs.Trees.{Top}
use Rattle.c_ast.specs.TreeViews.{unit_of}
use Rattle.c_ast.specs.Grammar.{IsUnit}
use Rattle.c_ast.specs.Nesting as N
use Rattle.c_parse.specs.declared.parser.ParseErr.{ParseErr}
use Rattle.c_parse.specs.declared.parser.ParseErr.TheVariants.{TooDeep, Syntax, NoMemory}
use Rattle.c_parse_machine.specs.Machine as M
use Rattle.c_parse.specs.Parses.{Refuses, Answers}
use Rattle.c_parse.specs.Ran.{Ran}
use Rattle.c_parse_machine.proofs.Complete.{takes}
use Rattle.c_parse_machine.proofs.Viable.{refuses}
use Rattle.c_parse_machine.proofs.SoundStates.{sound}
use Rattle.c_parse_machine.proofs.Answered.{one_tree, wrong_at}

one_token : (ts : List Token) (i : ℕ) (tok : Token) (s : M.State) → i < length ts → tok ≡ get_or ts i tok →
    M.run (drop i ts) s ≡ M.run (tok ∷ drop (i + 1) ts) s
one_token ts i tok s lt e = at_drop_more (λ l. M.run l s) ts i tok lt ∙ ap (λ t. M.run (t ∷ drop (i + 1) ts) s) (sym e)

pub goes_on : (ts : List Token) (i : ℕ) (tok : Token) (s next : M.State) → i < length ts → tok ≡ get_or ts i tok → M.step s tok ≡ Some next →
    M.run (drop i ts) s ≡ M.run (drop (i + 1) ts) next
goes_on ts i tok s next lt e h = one_token ts i tok s lt e ∙ takes s next tok (drop (i + 1) ts) h

pub stops : (ts : List Token) (i : ℕ) (tok : Token) (s : M.State) → M.run ts (M.items []) ≡ M.run (drop i ts) s → i < length ts →
    tok ≡ get_or ts i tok → M.step s tok ≡ None → Ran ts (Err (Syntax i))
stops ts i tok s so lt e h =
    (length (drop (i + 1) ts) + 1, omega (arith, length-drop (i + 1) ts), so ∙ one_token ts i tok s lt e ∙ refuses s tok (drop (i + 1) ts) h)

pub finishes : (ts : List Token) (i : ℕ) (s : M.State) (unit : code.Unit) → M.run ts (M.items []) ≡ M.run (drop i ts) s → length ts ≤ i →
    M.finish s ≡ Some (unit_of unit) → Ran ts (Ok unit)
finishes ts i s unit so le h = so ∙ at_drop_all (λ l. M.run l s) ts i le ∙ ap M.ended h

pub unfinished : (ts : List Token) (i : ℕ) (s : M.State) → M.run ts (M.items []) ≡ M.run (drop i ts) s → length ts ≤ i →
    M.finish s ≡ None → Ran ts (Err (Syntax (length ts)))
unfinished ts i s so le h = (0, omega arith, so ∙ at_drop_all (λ l. M.run l s) ts i le ∙ ap M.ended h)

pub tree_is : (ts : List Token) (r : Result code.Unit ParseErr) → Ran ts r → IfOk r (λ unit. IsUnit ts (unit_of unit))
tree_is ts (Ok unit) h = sound ts (unit_of unit) h
tree_is ts (Err e) h = search rules

pub kept : (ts : List Token) (r : Result code.Unit ParseErr) → N.too_deep ts ≡ None → IfOk r (λ unit. N.too_deep ts ≡ None)
kept ts (Ok unit) h = h
kept ts (Err e) h = search rules

pub says_why : (ts : List Token) (r : Result code.Unit ParseErr) → N.too_deep ts ≡ None → Ran ts r → IfErr r (λ e. Refuses ts e)
says_why ts (Ok unit) shallow h = search rules
says_why ts (Err (TooDeep place)) shallow h = absurd h
says_why ts (Err (Syntax n)) shallow h = (shallow, wrong_at ts n h.0 h.1 h.2)
says_why ts (Err NoMemory) shallow h = search rules

pub answers : (ts : List Token) (r : Result code.Unit ParseErr) → Ran ts r → (unit : List Top) → IsUnit ts unit → Answers r unit
answers ts (Ok found) h unit p = one_tree ts (unit_of found) unit (sound ts (unit_of found) h) p
answers ts (Err (TooDeep place)) h unit p = absurd h
answers ts (Err (Syntax n)) h unit p = (wrong_at ts n h.0 h.1 h.2).no_unit unit p
answers ts (Err NoMemory) h unit p = tt
