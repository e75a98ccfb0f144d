-- A program of few tokens has few operations and slots, and is good.
use Rattle.std.proofs.Common.{◌≡◌, ℕ, suc, ◌+◌, ◌*◌, ◌≤◌, List, [], ◌∷◌, ◌++◌, length, Some, None, ap, ◌∙◌, subst, arith, length-append}
use Rattle.ib_meaning.specs.declared.place.Place.{Place}
use Rattle.wide_core.specs.declared.code.WideAct.{WideAct}
use Rattle.ib_act.specs.declared.act.Act.TheVariants.{PutNumber}
use Rattle.wide_core.specs.declared.code.WideAct.TheVariants.{Do, Spill, Return}
use Rattle.first_form.specs.declared.program.Addend.{Addend}
use Rattle.first_form.specs.declared.program.Factor.{Factor}
use Rattle.first_form.specs.declared.program.Factor.TheVariants.{Variable, Number, Negative}
use Rattle.first_form.specs.declared.program.Multiplier.{Multiplier}
use Rattle.first_form.specs.declared.program.Program.{Program}
use Rattle.first_form.specs.declared.program.Stmt.{Stmt}
use Rattle.first_form.specs.declared.program.Stmt.TheVariants.{Declare, Assign, Print, Return as Give}
use Rattle.first_form.specs.declared.program.Sum.{Sum}
use Rattle.first_form.specs.declared.program.Term.{Term}
use Rattle.first_form.specs.declared.kind.Kind.TheVariants as kind
use Rattle.first_form.specs.declared.kind.Word.{Word}
use Rattle.first_form.specs.FirstForm.{AreStatements, AreProgram, value_before, header}
use Rattle.first_form.specs.Spelled.{Names, Kinds, name_at, factor_before, multipliers_before, term_before, addends_before, sum_before, Begins}
use Rattle.first_code.specs.declared.operand.Operand.{Operand}
use Rattle.first_code.specs.declared.operand.Operand.TheVariants.{InSlot}
use Rattle.first_code.specs.Operand.{operand_of, load}
use Rattle.first_code.specs.Code.{add_act, operation, product_code, product_slot, term_code, term_operand, term_slot, addition, total_code, total_slot, sum_code, sum_operand, sum_slot, sum_into, stmt_code, stmt_slot, declared_after, body_words, body_slot}
use Rattle.first_code.specs.Made.{DeclaresFew, HasBodyRoom, IsShort}
use Rattle.first_code.proofs.Bodies.{GoodBody}
use Rattle.first_code.proofs.Statements.{length_stmt}

-- ---- operations against words

-- n operations on top of twice the words that follow are at most twice the words
abbrev FewFor : (operations : ℕ) (words follow : Kinds) → Type 0
FewFor operations words follow = operations + 2 * length follow ≤ 2 * length words

factor_few : (names : Names) (factor : Factor) (follow : Kinds) → FewFor 2 (factor_before names factor follow) follow
factor_few names (Variable v) follow = omega arith
factor_few names (Number n) follow = omega arith
factor_few names (Negative n) follow = omega arith

product_few : (names : Names) (x : Operand) (slot : ℕ) (ms : List Multiplier) (follow : Kinds) → FewFor (length (product_code x slot ms)) (multipliers_before names ms follow) follow
product_few names x slot [] follow = omega arith
product_few names x slot (m ∷ ms) follow =
    let f = factor_few names m.factor (multipliers_before names ms follow) in
    let h = product_few names (InSlot slot) (suc slot) ms follow in omega arith

term_few : (names : Names) (slot : ℕ) (term : Term) (follow : Kinds) → FewFor (length (term_code slot term) + 2) (term_before names term follow) follow
term_few names slot term follow =
    let f = factor_few names term.first (multipliers_before names term.rest follow) in
    let h = product_few names (operand_of term.first) slot term.rest follow in omega arith

total_few : (names : Names) (x : Operand) (slot : ℕ) (rest : List Addend) (follow : Kinds) → FewFor (length (total_code x slot rest)) (addends_before names rest follow) follow
total_few names x slot [] follow = omega arith
total_few names x slot (a ∷ rest) follow =
    let f = term_few names slot a.term (addends_before names rest follow) in
    let h = total_few names (InSlot (term_slot slot a.term)) (suc (term_slot slot a.term)) rest follow in
    let l = length-append (addition x slot a) (total_code (InSlot (term_slot slot a.term)) (suc (term_slot slot a.term)) rest) in
    let k = length-append (term_code slot a.term) (operation (add_act a.op) x (term_operand slot a.term) (term_slot slot a.term)) in omega arith

sum_few : (names : Names) (slot : ℕ) (sum : Sum) (follow : Kinds) → FewFor (length (sum_code slot sum) + 2) (sum_before names sum follow) follow
sum_few names slot sum follow =
    let f = term_few names slot sum.first (addends_before names sum.rest follow) in
    let h = total_few names (term_operand slot sum.first) (term_slot slot sum.first) sum.rest follow in
    let l = length-append (term_code slot sum.first) (total_code (term_operand slot sum.first) (term_slot slot sum.first) sum.rest) in omega arith

begins_length : (kinds : Kinds) (words rest : List Word) → Begins kinds words rest → length words ≡ length kinds + length rest
begins_length [] words rest e = ap (length {A = Word}) e ∙ (omega arith)
begins_length (k ∷ more) [] rest h = absurd h
begins_length (k ∷ more) (word ∷ words) rest h = let e = begins_length more words rest h.1 in omega arith

sum_into_few : (names : Names) (slot : ℕ) (sum : Sum) (act : WideAct) (follow : Kinds) → FewFor (length (sum_into slot sum act)) (sum_before names sum follow) follow
sum_into_few names slot sum act follow =
    let h = sum_few names slot sum follow in
    let l = length-append (sum_code slot sum) (load 0 (sum_operand slot sum) ∷ act ∷ []) in omega arith

pub body_few : (names later : Names) (body : List Stmt) (words : List Word) (number declared slot : ℕ) → AreStatements names later body words → length (body_words number declared slot body) ≤ 2 * length words
body_few names later [] words number declared slot are = let e = begins_length (kind.RightBrace ∷ []) words [] are.1 in omega arith
body_few names later (Declare place None ∷ rest) words number declared slot are =
    let e = begins_length (kind.Int ∷ kind.Name are.0 ∷ value_before names None) words are.2 are.7 in
    let l = length_stmt number declared slot (Declare place None) rest in
    let h = body_few (names ++ are.0 ∷ []) are.1 rest are.2 (number + 2) (suc declared) slot are.8 in omega arith
body_few names later (Declare place (Some sum) ∷ rest) words number declared slot are =
    let e = begins_length (kind.Int ∷ kind.Name are.0 ∷ value_before names (Some sum)) words are.2 are.7 in
    let f = sum_into_few names slot sum (Spill declared 0) (kind.Semicolon ∷ []) in
    let l = length_stmt number declared slot (Declare place (Some sum)) rest in
    let h = body_few (names ++ are.0 ∷ []) are.1 rest are.2 (number + length (stmt_code declared slot (Declare place (Some sum)))) (suc declared) (sum_slot slot sum) are.8 in omega arith
body_few names later (Assign place variable sum ∷ rest) words number declared slot are =
    let e = begins_length (kind.Name (name_at names variable) ∷ kind.Equals ∷ sum_before names sum (kind.Semicolon ∷ [])) words are.0 are.4 in
    let f = sum_into_few names slot sum (Spill variable 0) (kind.Semicolon ∷ []) in
    let l = length_stmt number declared slot (Assign place variable sum) rest in
    let h = body_few names later rest are.0 (number + length (stmt_code declared slot (Assign place variable sum))) declared (sum_slot slot sum) are.5 in omega arith
body_few names later (Print place sum ∷ rest) words number declared slot are =
    let e = begins_length (kind.Putint ∷ kind.LeftParen ∷ sum_before names sum (kind.RightParen ∷ kind.Semicolon ∷ [])) words are.0 are.3 in
    let f = sum_into_few names slot sum (Do (PutNumber 0)) (kind.RightParen ∷ kind.Semicolon ∷ []) in
    let l = length_stmt number declared slot (Print place sum) rest in
    let h = body_few names later rest are.0 (number + length (stmt_code declared slot (Print place sum))) declared (sum_slot slot sum) are.4 in omega arith
body_few names later (Give place sum ∷ rest) words number declared slot are =
    let e = begins_length (kind.Return ∷ sum_before names sum (kind.Semicolon ∷ [])) words are.0 are.3 in
    let f = sum_into_few names slot sum (Return (Some 0)) (kind.Semicolon ∷ []) in
    let l = length_stmt number declared slot (Give place sum) rest in
    let h = body_few names later rest are.0 (number + length (stmt_code declared slot (Give place sum))) declared (sum_slot slot sum) are.4 in omega arith

-- ---- slots against operations

product_slots : (x : Operand) (slot : ℕ) (ms : List Multiplier) → product_slot slot ms ≤ slot + length (product_code x slot ms)
product_slots x slot [] = omega arith
product_slots x slot (m ∷ ms) = let h = product_slots (InSlot slot) (suc slot) ms in omega arith

total_slots : (x : Operand) (slot : ℕ) (rest : List Addend) → total_slot slot rest ≤ slot + length (total_code x slot rest)
total_slots x slot [] = omega arith
total_slots x slot (a ∷ rest) =
    let g = product_slots (operand_of a.term.first) slot a.term.rest in
    let h = total_slots (InSlot (term_slot slot a.term)) (suc (term_slot slot a.term)) rest in
    let l = length-append (addition x slot a) (total_code (InSlot (term_slot slot a.term)) (suc (term_slot slot a.term)) rest) in
    let k = length-append (term_code slot a.term) (operation (add_act a.op) x (term_operand slot a.term) (term_slot slot a.term)) in omega arith

sum_slots : (slot : ℕ) (sum : Sum) (act : WideAct) → sum_slot slot sum ≤ slot + length (sum_into slot sum act)
sum_slots slot sum act =
    let g = product_slots (operand_of sum.first.first) slot sum.first.rest in
    let h = total_slots (term_operand slot sum.first) (term_slot slot sum.first) sum.rest in
    let l = length-append (term_code slot sum.first) (total_code (term_operand slot sum.first) (term_slot slot sum.first) sum.rest) in
    let k = length-append (sum_code slot sum) (load 0 (sum_operand slot sum) ∷ act ∷ []) in omega arith

stmt_slots : (declared slot : ℕ) (stmt : Stmt) → stmt_slot slot stmt ≤ slot + length (stmt_code declared slot stmt)
stmt_slots declared slot (Declare place None) = omega arith
stmt_slots declared slot (Declare place (Some sum)) = sum_slots slot sum (Spill declared 0)
stmt_slots declared slot (Assign place variable sum) = sum_slots slot sum (Spill variable 0)
stmt_slots declared slot (Print place sum) = sum_slots slot sum (Do (PutNumber 0))
stmt_slots declared slot (Give place sum) = sum_slots slot sum (Return (Some 0))

pub body_slots : (number declared slot : ℕ) (body : List Stmt) → body_slot slot body ≤ slot + length (body_words number declared slot body)
body_slots number declared slot [] = omega arith
body_slots number declared slot (stmt ∷ rest) =
    let g = stmt_slots declared slot stmt in
    let h = body_slots (number + length (stmt_code declared slot stmt)) (declared_after declared stmt) (stmt_slot slot stmt) rest in
    let l = length_stmt number declared slot stmt rest in omega arith

-- ---- names and declarations

pub good_body : (most : ℕ) (names later : Names) (body : List Stmt) (words : List Word) → length names + length later ≤ most → AreStatements names later body words → GoodBody most (length names) body
good_body most names later [] words le are = omega arith
good_body most names later (Declare place value ∷ rest) words le are =
    let one : length (names ++ are.0 ∷ []) ≡ suc (length names) = length-append names (are.0 ∷ []) ∙ (omega arith) in
    let many = ap (length {A = List ℕ}) are.3 in
    (are.5, subst (λ (n : ℕ). GoodBody most n rest) one (good_body most (names ++ are.0 ∷ []) are.1 rest are.2 (omega arith) are.8))
good_body most names later (Assign place variable value ∷ rest) words le are = ((are.1, are.2), good_body most names later rest are.0 le are.5)
good_body most names later (Print place value ∷ rest) words le are = (are.1, good_body most names later rest are.0 le are.4)
good_body most names later (Give place value ∷ rest) words le are = (are.1, good_body most names later rest are.0 le are.4)

pub few_names : (names later : Names) (body : List Stmt) (words : List Word) → AreStatements names later body words → length later ≤ length words
few_names names later [] words are = let e = ap (length {A = List ℕ}) are.0 in omega arith
few_names names later (Declare place value ∷ rest) words are =
    let e = begins_length (kind.Int ∷ kind.Name are.0 ∷ value_before names value) words are.2 are.7 in
    let many = ap (length {A = List ℕ}) are.3 in
    let h = few_names (names ++ are.0 ∷ []) are.1 rest are.2 are.8 in omega arith
few_names names later (Assign place variable sum ∷ rest) words are =
    let e = begins_length (kind.Name (name_at names variable) ∷ kind.Equals ∷ sum_before names sum (kind.Semicolon ∷ [])) words are.0 are.4 in
    let h = few_names names later rest are.0 are.5 in omega arith
few_names names later (Print place sum ∷ rest) words are =
    let e = begins_length (kind.Putint ∷ kind.LeftParen ∷ sum_before names sum (kind.RightParen ∷ kind.Semicolon ∷ [])) words are.0 are.3 in
    let h = few_names names later rest are.0 are.4 in omega arith
few_names names later (Give place sum ∷ rest) words are =
    let e = begins_length (kind.Return ∷ sum_before names sum (kind.Semicolon ∷ [])) words are.0 are.3 in
    let h = few_names names later rest are.0 are.4 in omega arith

good_few : (most declared : ℕ) (body : List Stmt) → GoodBody most declared body → DeclaresFew most declared body
good_few most declared [] good = good
good_few most declared (stmt ∷ rest) good = good_few most (declared_after declared stmt) rest good.1

-- ---- a program of few tokens

pub record IsSmall (program : Program) : Type 0 where
  pub good : GoodBody (length program.names) 0 program.body
  pub declares : DeclaresFew (length program.names) 0 program.body
  pub names : length program.names ≤ 65536
  pub words : length (body_words 1 0 (length program.names) program.body) ≤ 131072
  pub slots : body_slot (length program.names) program.body ≤ 196608

pub small : (words : List Word) (program : Program) → length words ≤ 65536 → AreProgram words program → IsSmall program
small words program few are =
    let e = begins_length header words are.body are.begins in
    let names : ℕ = length program.names in
    let n = few_names [] program.names program.body are.body are.statements in
    let w = body_few [] program.names program.body are.body 1 0 names are.statements in
    let s = body_slots 1 0 names program.body in
    let good = good_body names [] program.names program.body are.body (omega arith) are.statements in
    record { good = good; declares = good_few names 0 program.body good; names = omega arith; words = omega arith; slots = omega arith }

pub short_small : (program : Program) → IsShort program → IsSmall program
short_small program short = small short.words program short.few short.spelled

pub room_for : (program : Program) (place : Place) → IsSmall program → HasBodyRoom (record { words = []; slot = length program.names; place = place }) program.body
room_for program place small = let w = small.words in let s = small.slots in record { numbers = omega arith; slots = omega arith }
