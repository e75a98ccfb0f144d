-- The reader reads what the tokens are.
use Rattle.std.proofs.Common.{◌≡◌, ℕ, suc, ℤ, pos, negsuc, ◌+◌, ◌<◌, ◌≤◌, Bool, true, false, List, [], ◌∷◌, length, drop, get_or, ap, refl, sym, ◌∙◌, subst, arith, cond, Option, Some, None, Result, Ok, Err, IfOk, IsErrOf, drop-cons, bytes_eq}
use Rattle.std.specs.Prelude.{◌&&◌, ◌||◌, not, nat_le, codes}
use Rattle.std.proofs.Math.Seq.{drop-length}
use Rattle.std.proofs.lemmas.Bool.{false≢true}
use Rattle.std.proofs.lemmas.Bool.Decides.{nat_tests}
use Rattle.ib_base.specs.declared.span.Span.{Span}
use Rattle.c_ast.specs.declared.keyword.Keyword.{Keyword}
use Rattle.c_ast.specs.declared.keyword.Keyword.TheVariants as keyword
use Rattle.c_ast.specs.declared.mark.Mark.{Mark}
use Rattle.c_ast.specs.declared.mark.Mark.TheVariants as mark
use Rattle.c_ast.specs.declared.token.Tok.{Tok}
use Rattle.c_ast.specs.declared.token.Tok.TheVariants as tok
use Rattle.c_ast.specs.declared.token.Token.{Token}
use Rattle.first_form.specs.declared.error.ReadErr.{ReadErr}
use Rattle.first_form.specs.declared.error.ReadErr.TheVariants.{NotFirstForm, NoMemory}
use Rattle.first_form.specs.declared.kind.Kind.{Kind}
use Rattle.first_form.specs.declared.kind.Kind.TheVariants as kind
use Rattle.first_form.specs.declared.kind.Word.{Word}
use Rattle.first_form.specs.declared.program.Multiplier.{Multiplier}
use Rattle.first_form.specs.declared.program.Addend.{Addend}
use Rattle.first_form.specs.declared.program.Factor.{Factor}
use Rattle.first_form.specs.declared.program.Factor.TheVariants as factor
use Rattle.first_form.specs.declared.program.Sum.{Sum}
use Rattle.first_form.specs.declared.program.Stmt.{Stmt}
use Rattle.first_form.specs.declared.program.Stmt.TheVariants as stmt
use Rattle.first_form.specs.declared.program.Program.{Program}
use Rattle.first_form.specs.declared.reader.Reader.{Reader}
use Rattle.first_form.specs.declared.reader.Wait.{Wait}
use Rattle.first_form.specs.declared.reader.Wait.TheVariants as wait
use Rattle.first_form.specs.declared.reader.Header.TheVariants as header
use Rattle.first_form.specs.declared.reader.Target.{Target}
use Rattle.first_form.specs.declared.reader.Target.TheVariants as target
use Rattle.first_form.specs.Gives.{Gives}
use Rattle.first_form.specs.Kinds.{keyword_kind, mark_kind, name_kind, is_decimal, number_kind, tok_kind, word_of}
use Rattle.first_form.specs.Spelled.{Names, Kinds, factor_before, multipliers_before, addends_before, Begins}
use Rattle.first_form.specs.FirstForm.{AreStatements, value_before, words_of, IsFirstForm}
use Rattle.first_form.specs.Reading.{start_reader, step, finished, finished_at}
use Rattle.first_form.specs.Left.{AreVariables, LeftOf, Left, LeftAt, close}
use Rattle.first_form.proofs.Forward.{forward}
use Rattle.first_form.proofs.Backward.{backward}
use Rattle.first_form.proofs.Sound.{SoundOf, sound_step}

-- ---- a number is small

abbrev Small : Kind → Type 0
Small (kind.Number n) = n ≤ 2147483647
Small _ = Unit {0}

choose : {A : Type 0} (P : A → Type 0) (b : Bool) (x y : A) → (b ≡ true → P x) → (b ≡ false → P y) → P (cond b x y)
choose P true x y f g = f refl
choose P false x y f g = g refl

small_number : (decimal : Bool) (value : ℤ) (long : Bool) → Small (number_kind decimal value long)
small_number decimal (pos n) long = choose Small (decimal && not long && nat_le n 2147483647) _ _ (λ h. by_tests decimal (not long) h) (λ _. tt)
  where
    by_tests : (a b : Bool) → (a && b && nat_le n 2147483647) ≡ true → n ≤ 2147483647
    by_tests true true h = grind (arith, nat_tests)
    by_tests true false h = absurd (false≢true h)
    by_tests false b h = absurd (false≢true h)
small_number decimal (negsuc n) long = tt

small_name : (name : List ℕ) → Small (name_kind name)
small_name name =
    choose Small (bytes_eq name (codes "main")) _ _ (λ _. tt) (λ _.
    choose Small (bytes_eq name (codes "putint")) _ _ (λ _. tt) (λ _.
    choose Small (bytes_eq name (codes "putchar") || bytes_eq name (codes "getchar")) _ _ (λ _. tt) (λ _. tt)))

small_mark : (m : Mark) → Small (mark_kind m)
small_mark mark.LeftParen = tt
small_mark _ = tt

small_keyword : (k : Keyword) → Small (keyword_kind k)
small_keyword keyword.Int = tt
small_keyword _ = tt

small_tok : (source : List ℕ) (span : Span) (t : Tok) → Small (tok_kind source span t)
small_tok source span (tok.Word k) = small_keyword k
small_tok source span (tok.Mark m) = small_mark m
small_tok source span (tok.Name name) = small_name name
small_tok source span (tok.Number value long) = small_number (is_decimal source span) value long
small_tok source span (tok.Char value) = tt
small_tok source span (tok.Str values) = tt
small_tok source span (tok.Reserved word) = tt

small : (source : List ℕ) (t : Token) (n : ℕ) → (word_of source t).kind ≡ kind.Number n → n ≤ 2147483647
small source t n e = subst Small e (small_tok source t.span t.kind)

-- ---- one token

abbrev pub After : List ℕ → Reader → Token → List Token → Program → Type 0
After source r t more program = LeftOf (step r (word_of source t)) (words_of source more) program

-- ---- the end of the tokens

nothing_before : (names : Names) (ms : List Multiplier) (more : List Addend) (q : Target) (rest : List Word) → Begins (multipliers_before names ms (addends_before names more (close q))) [] rest → ⊥
nothing_before names (m ∷ ms) more q rest b = b
nothing_before names [] (a ∷ more) q rest b = b
nothing_before names [] [] (target.Declare name) rest b = b
nothing_before names [] [] (target.Assign v) rest b = b
nothing_before names [] [] target.Print rest b = b
nothing_before names [] [] target.Return rest b = b

no_statement : (names later : Names) (more : List Stmt) → AreStatements names later more [] → ⊥
no_statement names later [] h = h.1
no_statement names later (stmt.Declare place value ∷ more) (name, next, rest, e, new, i, at, begins, follow) = at
no_statement names later (stmt.Assign place v s ∷ more) (rest, less, i, at, begins, follow) = at
no_statement names later (stmt.Print place s ∷ more) (rest, i, at, begins, follow) = at
no_statement names later (stmt.Return place s ∷ more) (rest, i, at, begins, follow) = at

no_factor : (names : Names) (f : Factor) (follow : Kinds) (rest : List Word) → Begins (factor_before names f follow) [] rest → ⊥
no_factor names (factor.Variable v) follow rest b = b
no_factor names (factor.Number n) follow rest b = b
no_factor names (factor.Negative n) follow rest b = b

finished_left : (w : Wait) (names : Names) (body : List Stmt) (program : Program) → LeftAt w names body [] program → finished_at w names body ≡ Some program
finished_left (wait.Header header.Int) names body program l = absurd l.begins
finished_left (wait.Header header.Main) names body program l = absurd l.begins
finished_left (wait.Header header.LeftParen) names body program l = absurd l.begins
finished_left (wait.Header header.Void) names body program l = absurd l.begins
finished_left (wait.Header header.RightParen) names body program l = absurd l.begins
finished_left (wait.Header header.LeftBrace) names body program l = absurd l.begins
finished_left wait.Statement names body program l = absurd (no_statement names l.later l.more l.statements)
finished_left (wait.Name place) names body program l = absurd l.declaration.begins
finished_left (wait.Initial place name) names body program l = absurd (no_value l.value l.begins)
  where
    no_value : (v : Option Sum) → Begins (value_before names v) [] l.rest → ⊥
    no_value None b = b
    no_value (Some s) b = b
finished_left (wait.Equals place v) names body program l = absurd l.sum.begins
finished_left (wait.Parenthesis place) names body program l = absurd l.sum.begins
finished_left (wait.Factor p s) names body program l = absurd (no_factor names l.factor _ l.sum.rest l.sum.begins)
finished_left (wait.Digits p s) names body program l = absurd l.sum.begins
finished_left (wait.Operator p l t) names body program h = absurd (nothing_before names h.multipliers h.addends p.target h.rest h.begins)
finished_left (wait.Semicolon place s) names body program l = absurd l.begins
finished_left wait.Nothing names body program l = ap Some (sym l.1)

left_finished : (w : Wait) (names : Names) (body : List Stmt) (program : Program) → finished_at w names body ≡ Some program → LeftAt w names body [] program
left_finished wait.Nothing names body program e = (refl, sym (some_same e))
  where
    some_same : {p q : Program} → Some p ≡ Some q → p ≡ q
    some_same e = cc
left_finished _ names body program e = absurd (cc)

-- ---- the start

starts : (source : List ℕ) (tokens : List Token) (program : Program) → IsFirstForm source tokens program → Left start_reader (words_of source tokens) program
starts source tokens program f = record {
  rest = f.spelled.body;
  begins = f.spelled.begins;
  follows = record { later = program.names; more = program.body; names_are = refl; body_is = refl; statements = f.spelled.statements };
}

formed : (source : List ℕ) (tokens : List Token) (program : Program) → length tokens ≤ 65536 → Left start_reader (words_of source tokens) program → IsFirstForm source tokens program
formed source tokens program few l = let f = l.follows in record {
  few = few;
  spelled = record {
    body = l.rest;
    begins = l.begins;
    statements = subst (λ (ns : Names). AreStatements [] ns program.body l.rest) (sym f.names_are) (subst (λ (b : List Stmt). AreStatements [] f.later b l.rest) (sym f.body_is) f.statements);
  };
}

-- ---- the loop over the tokens

-- The rest of the tokens completes the programs that all tokens make, and no others.
pub record Follows (source : List ℕ) (tokens rest : List Token) (r : Reader) : Type 0 where
  pub variables : AreVariables r.names
  pub onward : (program : Program) → Left start_reader (words_of source tokens) program → Left r (words_of source rest) program
  pub back : (program : Program) → Left r (words_of source rest) program → Left start_reader (words_of source tokens) program

pub follows_start : (source : List ℕ) (tokens : List Token) → Follows source tokens tokens start_reader
follows_start source tokens = record { variables = record { found = λ v h. absurd (omega (arith, h)) }; onward = λ p l. l; back = λ p l. l }

pub follows_on : (source : List ℕ) (tokens : List Token) (t : Token) (rest : List Token) (r next : Reader) → Follows source tokens (t ∷ rest) r → step r (word_of source t) ≡ Some next → Follows source tokens rest next
follows_on source tokens t rest r next f e = record {
  variables = subst SoundOf e (sound_step r (word_of source t) f.variables);
  onward = λ p l. subst (λ o. LeftOf o (words_of source rest) p) e (forward r (word_of source t) (words_of source rest) p f.variables (f.onward p l));
  back = λ p l. f.back p (backward r (word_of source t) (words_of source rest) p (small source t) (subst (λ o. LeftOf o (words_of source rest) p) (sym e) l));
}

pub stuck : (source : List ℕ) (tokens : List Token) (t : Token) (rest : List Token) (r : Reader) → Follows source tokens (t ∷ rest) r → step r (word_of source t) ≡ None → (program : Program) → IsFirstForm source tokens program → ⊥
stuck source tokens t rest r f e program h =
    subst (λ o. LeftOf o (words_of source rest) program) e (forward r (word_of source t) (words_of source rest) program f.variables (f.onward program (starts source tokens program h)))

pub ended : (source : List ℕ) (tokens : List Token) (r : Reader) (program : Program) → length tokens ≤ 65536 → Follows source tokens [] r → finished r ≡ Some program → IsFirstForm source tokens program
ended source tokens r program few f e = formed source tokens program few (f.back program (left_finished r.wait r.names r.body program e))

only_program : (source : List ℕ) (tokens : List Token) (r : Reader) (program : Program) → Follows source tokens [] r → IsFirstForm source tokens program → finished r ≡ Some program
only_program source tokens r program f h = finished_left r.wait r.names r.body program (f.onward program (starts source tokens program h))

some_same : {p q : Program} → Some p ≡ Some q → p ≡ q
some_same e = cc

pub only_end : (source : List ℕ) (tokens : List Token) (r : Reader) (program other : Program) → Follows source tokens [] r → finished r ≡ Some program → IsFirstForm source tokens other → other ≡ program
only_end source tokens r program other f e h = some_same (sym (only_program source tokens r other f h) ∙ e)

pub unended : (source : List ℕ) (tokens : List Token) (r : Reader) → Follows source tokens [] r → finished r ≡ None → (program : Program) → IsFirstForm source tokens program → ⊥
unended source tokens r f e program h = let z : None ≡ Some program = sym e ∙ only_program source tokens r program f h in cc

-- ---- what a call's answer says

pub refused : {A : Type 0} (o : Option A) (r : Result A ReadErr) → Gives o r → IsErrOf r NotFirstForm → o ≡ None
refused o (Ok a) g e = absurd (cc)
refused o (Err NotFirstForm) g e = g
refused o (Err NoMemory) g e = absurd (cc)

pub given : {A : Type 0} (P : A → Type 0) (o : Option A) (r : Result A ReadErr) → Gives o r → ((a : A) → o ≡ Some a → P a) → IfOk r P
given P o (Ok a) g f = f a g
given P o (Err e) g f = tt

pub refused_on : {A B : Type 0} (o : Option A) (e : ReadErr) → Gives o (Err e) → IsErrOf {T = B} (Err e) NotFirstForm → o ≡ None
refused_on o NotFirstForm g h = g
refused_on o NoMemory g h = absurd (cc)

-- ---- the tokens that are left

pub next_token : (tokens : List Token) (i : ℕ) (t : Token) → i < length tokens → t ≡ get_or tokens i t → drop i tokens ≡ t ∷ drop (i + 1) tokens
next_token tokens i t h is =
    let more : suc i ≡ i + 1 = omega arith in
    drop-cons tokens i t h ∙ ap (λ (x : Token). x ∷ drop (suc i) tokens) (sym is) ∙ ap (λ n. t ∷ drop n tokens) more

pub no_token : (tokens : List Token) (i : ℕ) → i ≡ length tokens → drop i tokens ≡ []
no_token tokens i e = ap (λ n. drop n tokens) e ∙ drop-length tokens
