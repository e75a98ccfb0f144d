-- Back over one token: what the rest has to be in a state follows from what it has to be in the next.
use Rattle.std.proofs.Common.{◌≡◌, ℕ, zero, suc, ◌+◌, ◌-◌, ◌<◌, ◌≤◌, List, [], ◌∷◌, ◌++◌, Some, None, Bool, true, false, refl, sym, ◌∙◌, ap, arith, subst, append_assoc, cond, ◌⊎◌, inl, inr, ◌&&◌}
use Rattle.std.specs.Prelude.{Option, nat_lt}
use Rattle.std.proofs.lemmas.Bool.{false≢true}
use Rattle.std.proofs.lemmas.Bool.Decides.{leb_tells}
use Rattle.ib_meaning.proofs.Facts.{some_same}
use Rattle.ib_meaning.specs.declared.place.Place.{Place}
use Rattle.c_ast.specs.declared.mark.Mark.TheVariants as m
use Rattle.c_ast.specs.declared.token.Token.{Token}
use Rattle.c_ast.specs.declared.tree.BinaryOp.{BinaryOp}
use Rattle.c_ast.specs.declared.tree.AssignOp.{AssignOp}
use Rattle.c_ast.specs.declared.tree.Base.{Base}
use Rattle.c_ast.specs.GrammarTokens.{IsMark, IsName, binary_op, level, assign_op}
use Rattle.c_ast.specs.Trees.{Ty, plain, declarator, Exp, call, unary, cast, binary, conditional, assign, comma, exps, value, Maybe, missing, given, Decl, Top}
use Rattle.c_ast.specs.Grammar as g
use Rattle.c_parse_machine.specs.Signs.{is}
use Rattle.c_parse_machine.specs.Machine as M
use Rattle.c_parse_machine.specs.Machine.{Declaring, declaring, Target, top, global, in_block, in_for, no_function, of_declarator, Role, as_statement, as_value, as_first, as_second, as_third, Test, as_if, as_while, as_do, Frames, part, tested, init_value, element, prefix, cast_to, right, assigned, middle, other, first, list, parens, subscript, arg, a_declarator, State, choose, begins_assign, begins_expr, with_init, closer, goes_on, passed, step_declared, assign_if, if_tighter, follow}
use Rattle.c_parse_machine.proofs.Tokens.{is_true, none≢some, some≢none, low_level}
use Rattle.c_parse_machine.proofs.Derives.{Led, led, By, Climb, here, op, Goes, Passed, Sizes, EndDeclaration, Declared, Chooses, Indexed, Past, Typed, Operand, Derives, Derived}

-- operators one after the other are of their levels
tail_snoc : {n : ℕ} {a x b : Exp} {ts m mid rest : List Token} {s : Token} {o : BinaryOp} → g.Tail n a ts m x → m ≡ s ∷ mid → binary_op s ≡ Some o → level o ≡ n → g.Level (suc n) mid rest b → g.Tail n a ts rest (binary s.place o x b)
tail_snoc {n} {a} {b} {ts} {rest} {s} {o} g.no_more e f q l = subst (λ z. g.Tail n a z rest (binary s.place o a b)) (sym e) (g.more f q l g.no_more)
tail_snoc (g.more f' q' l' r) e f q l = g.more f' q' l' (tail_snoc r e f q l)

level_snoc : {j : ℕ} {a b : Exp} {ts m mid rest : List Token} {s : Token} {o : BinaryOp} → g.Level j ts m a → m ≡ s ∷ mid → binary_op s ≡ Some o → level o ≡ j → g.Level (suc j) mid rest b → g.Level j ts rest (binary s.place o a b)
level_snoc {o} (g.operand c) e f q l = absurd (omega (arith, q, (low_level o).1))
level_snoc (g.operators d r) e f q l = g.operators d (tail_snoc r e f q l)

lower : (d : ℕ) {j : ℕ} {ts mid : List Token} {a : Exp} (l : ℕ) → j ≡ d + l → g.Level j ts mid a → g.Level l ts mid a
lower zero {j} {ts} {mid} {a} l e v = subst (λ n. g.Level n ts mid a) (omega (arith, e)) v
lower (suc d) l e v = g.operators (lower d (suc l) (omega (arith, e)) v) g.no_more

climb_level : {n cap : ℕ} {b x : Exp} {ts mid rest : List Token} → Climb n cap b mid rest x → (j : ℕ) → cap ≤ j → n ≤ j → g.Level j ts mid b → g.Level n ts rest x
climb_level {n} here j c h v = lower (j - n) n (omega (arith, h)) v
climb_level (op {s} {o} e low up lev r) j c h v =
    climb_level r (level o) (omega arith) low (level_snoc (lower (j - level o) (level o) (omega (arith, up, c)) v) refl e refl lev)

pub on_test : (b : Bool) (x y : Option State) (ts : List Token) (u : List Top) → Derived (cond b x y) ts u → ((b ≡ true) × Derived x ts u) ⊎ ((b ≡ false) × Derived y ts u)
on_test true x y ts u d = inl (refl, d)
on_test false x y ts u d = inr (refl, d)

pub on_choose : {A : Type 0} (o : Option A) (f : A → Option State) (y : Option State) (ts : List Token) (u : List Top) → Derived (choose o f y) ts u →
    ((x : A) × (o ≡ Some x) × Derived (f x) ts u) ⊎ ((o ≡ None) × Derived y ts u)
on_choose (Some x) f y ts u d = inl (x, refl, d)
on_choose None f y ts u d = inr (refl, d)

pub and_both : (a b : Bool) → (a && b) ≡ true → (a ≡ true) × (b ≡ true)
and_both true b h = (refl, h)
and_both false b h = absurd (false≢true h)

module _ (σ : Frames) (u : List Top) where
  abbrev Use : Exp → List Token → Type 0
  Use y rest = Past σ 10 y rest u

  cond_of : {ts mid end : List Token} {a x : Exp} → g.Cast ts mid a → Climb 1 10 a mid end x → Chooses Use x end → (y : Exp) × (rest : List Token) × g.Cond ts rest y × Use y rest
  cond_of {end} {x} ca c (inl p) = (x, end, g.no_cond (climb_level c 11 (omega arith) (omega arith) (g.operand ca)), p)
  cond_of {x} ca c (inr (led {c = q} (e, b, t2, ex, led (f, (d, rest, co, p))))) =
      (conditional q.place x b d, rest, g.chooses (climb_level c 11 (omega arith) (omega arith) (g.operand ca)) e ex f co, p)

  pub to_cond : {ts : List Token} → Operand true (M.cond false σ) ts u → (y : Exp) × (rest : List Token) × g.Cond ts rest y × Use y rest
  to_cond (inl (a, mid, un, inl (x, end, c, h))) = cond_of (g.no_cast un) c h
  to_cond (inl (a, mid, un, inr (e, q))) = absurd (false≢true e)
  to_cond (inr (t, a, mid, ca, inl (x, end, c, h))) = cond_of ca c h
  to_cond (inr (t, a, mid, ca, inr (e, q))) = absurd (false≢true e)

  pub to_assign : {ts : List Token} → Operand true (begins_assign σ) ts u → (y : Exp) × (rest : List Token) × g.Assign ts rest y × Use y rest
  to_assign (inl (a, mid, un, inl (x, end, c, h))) = let r = cond_of (g.no_cast un) c h in (r.0, r.1, g.no_assign r.2, r.3)
  to_assign (inl (a, mid, un, inr (e, led {c = s} (o, q, b, rest, r, p)))) = (assign s.place o a b, rest, g.assigns un q r, p)
  to_assign (inr (t, a, mid, ca, inl (x, end, c, h))) = let r = cond_of ca c h in (r.0, r.1, g.no_assign r.2, r.3)
  to_assign (inr (t, a, mid, ca, inr (e, q))) = absurd (false≢true e)

pub to_expr : (σ : Frames) (u : List Top) {ts : List Token} → Operand true (begins_expr σ) ts u → (y : Exp) × (rest : List Token) × g.Expr ts rest y × Past σ 10 y rest u
to_expr σ u {ts} d = go (to_assign (first σ) u d)
  where
    go : ((x : Exp) × (mid : List Token) × g.Assign ts mid x × Past (first σ) 10 x mid u) → (x : Exp) × (mid : List Token) × g.Expr ts mid x × Past σ 10 x mid u
    go (a, mid, r, inl p) = (a, mid, g.one r, p)
    go (a, mid, r, inr (led {c} (e, ys, rest, s, p))) = (comma c.place (exps (a ∷ ys)), rest, g.several r e s, p)

to_right : (p : Place) (o : BinaryOp) (a : Exp) (τ : Frames) (u : List Top) {ts : List Token} → Operand true (right p o a τ) ts u →
    (y : Exp) × (mid : List Token) × g.Level (suc (level o)) ts mid y × Past τ (level o) (binary p o a y) mid u
to_right p o a τ u (inl (b, m0, un, (y, mid, c, q))) =
    (y, mid, climb_level c 11 (omega arith) (let l = low_level o in omega (arith, l.1)) (g.operand (g.no_cast un)), q)
to_right p o a τ u (inr (t, b, m0, ca, (y, mid, c, q))) =
    (y, mid, climb_level c 11 (omega arith) (let l = low_level o in omega (arith, l.1)) (g.operand ca), q)

pub goes_back : (role : Role) (x : Maybe) (ts : List Token) (u : List Top) → Derives (goes_on role x) ts u → Goes role x ts u
goes_back (as_statement p i) missing ts u d = d refl
goes_back (as_statement p i) (given e) ts u d = d refl
goes_back (as_value p i) x ts u d = d refl
goes_back (as_first p i) x ts u d = d
goes_back (as_second p start i) x ts u d = d
goes_back (as_third p start y i) x ts u d = d

passed_back : (t : Test) (e : Exp) (ts : List Token) (u : List Top) → Derives (passed t e) ts u → Passed t e ts u
passed_back (as_if p i) e ts u d = d
passed_back (as_while p i) e ts u d = d
passed_back (as_do p s i) e ts u (led (q, f)) = led (q, f refl)

-- declarators and what follows them

pub to_declarators : (target : Target) (b : Base) (ds : List Decl) (u : List Top) {ts mid : List Token} {w : Token} {n : List ℕ} {ty : Ty} → g.Stars (plain b) ts (w ∷ mid) ty → IsName w n →
    Sizes (of_declarator (declaring target b ds) w.place ty n) mid u → (es : List Decl) × (rest : List Token) × g.Declarators b ts rest es × EndDeclaration target (ds ++ es) rest u
to_declarators target b ds u {w} {n} {ty} st q (l, m3, ln, (i, m4, ini, inl (led {rest} (e, d)))) =
    (declarator w.place ty n l i ∷ [], rest, g.last_declarator (g.declares st q ln ini) e, d)
to_declarators target b ds u {w} {n} {ty} st q (l, m3, ln, (i, m4, ini, inr (led (e, (es, rest, more, d))))) = (
  declarator w.place ty n l i ∷ es,
  rest,
  g.a_declarator (g.declares st q ln ini) e more,
  subst (λ z. EndDeclaration target z rest u) (append_assoc ds (declarator w.place ty n l i ∷ []) es) d,
)

behind_comma : (target : Target) (b : Base) (ds : List Decl) (ts : List Token) (u : List Top) → Typed (a_declarator (no_function target) ds) b (plain b) ts u →
    (es : List Decl) × (rest : List Token) × g.Declarators b ts rest es × EndDeclaration target (ds ++ es) rest u
behind_comma (top xs) b ds ts u (full, mid, st, led (n, q, inl z)) = absurd z
behind_comma (top xs) b ds ts u (full, mid, st, led (n, q, inr z)) = to_declarators (global xs) b ds u st q z
behind_comma (global xs) b ds ts u (full, mid, st, led (n, q, inl z)) = absurd z
behind_comma (global xs) b ds ts u (full, mid, st, led (n, q, inr z)) = to_declarators (global xs) b ds u st q z
behind_comma (in_block p i) b ds ts u (full, mid, st, led (n, q, inl z)) = absurd z
behind_comma (in_block p i) b ds ts u (full, mid, st, led (n, q, inr z)) = to_declarators (in_block p i) b ds u st q z
behind_comma (in_for p i) b ds ts u (full, mid, st, led (n, q, inl z)) = absurd z
behind_comma (in_for p i) b ds ts u (full, mid, st, led (n, q, inr z)) = to_declarators (in_for p i) b ds u st q z

pub end_back : (target : Target) (ds : List Decl) (ts : List Token) (u : List Top) → Derives (M.end_declaration target ds) ts u → EndDeclaration target ds ts u
end_back (top xs) ds ts u d = d
end_back (global xs) ds ts u d = d
end_back (in_block p i) ds ts u d = d
end_back (in_for p i) ds ts u d = d

pub declared_back : (d : Declaring) (tok : Token) (ts : List Token) (u : List Top) → Derived (step_declared d tok) ts u → Declared d (tok ∷ ts) u
declared_back (declaring target b ds) tok ts u d =
    elim (on_test (is m.Comma tok) _ _ ts u d) [
      | inl p ↦ inr (led (is_true m.Comma tok p.0, behind_comma target b ds ts u p.1))
      | inr q ↦ elim (on_test (is m.Semicolon tok) _ _ ts u q.1) [
        | inl p ↦ inl (led (is_true m.Semicolon tok p.0, end_back target ds ts u p.1))
        | inr p ↦ absurd p.1
      ]
    ]

-- expressions

assign_true : (v : Bool) (tok : Token) (o : AssignOp) → assign_if v tok ≡ Some o → (v ≡ true) × (assign_op tok ≡ Some o)
assign_true true tok o e = (refl, e)
assign_true false tok o e = absurd (none≢some e)

tighter_true : (o found : BinaryOp) (tok : Token) → if_tighter o (binary_op tok) ≡ Some found → (binary_op tok ≡ Some found) × (level o < level found)
tighter_true o found tok h = go (binary_op tok) refl h
  where
    test_true : (b : Bool) (x : BinaryOp) → nat_lt (level o) (level x) ≡ b → cond b (Some x) None ≡ Some found → (Some x ≡ Some found) × (level o < level found)
    test_true true x e q =
        let lt : level o < level x = elim (leb_tells (suc (level o)) (level x)) [ inl p ↦ p.1 | inr p ↦ absurd (false≢true (sym p.0 ∙ e)) ] in
        (q, subst (λ z. level o < level z) (some_same q) lt)
    test_true false x e q = absurd (none≢some q)

    go : (f : Option BinaryOp) → binary_op tok ≡ f → if_tighter o f ≡ Some found → (binary_op tok ≡ Some found) × (level o < level found)
    go None e q = absurd (none≢some q)
    go (Some x) e q = let r = test_true (nat_lt (level o) (level x)) x refl q in (e ∙ r.0, r.1)

tighter_none : (o found : BinaryOp) (tok : Token) → if_tighter o (binary_op tok) ≡ None → binary_op tok ≡ Some found → level found ≤ level o
tighter_none o found tok h e = elim (leb_tells (suc (level o)) (level found)) [
  | inl p ↦ absurd (let k : Some found ≡ None = sym (test p.0) ∙ ap (if_tighter o) (sym e) ∙ h in some≢none k)
  | inr p ↦ (let lt = p.1 in omega arith)
]
  where
    test : nat_lt (level o) (level found) ≡ true → if_tighter o (Some found) ≡ Some found
    test q = rw q refl

pub any_cap : (tok : Token) (o : BinaryOp) → binary_op tok ≡ Some o → level o ≤ 10
any_cap tok o e = let l = low_level o in omega (arith, l.1)

pub back_follow : (σ : Frames) (cap : ℕ) (a : Exp) (tok : Token) (ts : List Token) (u : List Top) → ((o : BinaryOp) → binary_op tok ≡ Some o → level o ≤ cap) → Derived (follow a σ tok) ts u → Past σ cap a (tok ∷ ts) u
back_follow (part role) cap a tok ts u c d =
    elim (on_test (is (closer role) tok) _ _ ts u d) [ inl p ↦ led (is_true (closer role) tok p.0, goes_back role (given a) ts u p.1) | inr p ↦ absurd p.1 ]
back_follow (tested t) cap a tok ts u c d =
    elim (on_test (is m.RightParen tok) _ _ ts u d) [ inl p ↦ led (is_true m.RightParen tok p.0, passed_back t a ts u p.1) | inr p ↦ absurd p.1 ]
back_follow (init_value v) cap a tok ts u c d = declared_back (with_init v (value a)) tok ts u d
back_follow (element v xs) cap a tok ts u c d =
    elim (on_test (is m.Comma tok) _ _ ts u d) [
      | inl p ↦ inr (led (is_true m.Comma tok p.0, p.1))
      | inr q ↦ elim (on_test (is m.RightBrace tok) _ _ ts u q.1) [ inl p ↦ inl (led (is_true m.RightBrace tok p.0, p.1)) | inr p ↦ absurd p.1 ]
    ]
back_follow (prefix p o σ) cap a tok ts u c d = back_follow σ 10 (unary p o a) tok ts u (any_cap tok) d
back_follow (cast_to p ty σ) cap a tok ts u c d = back_follow σ 10 (cast p ty a) tok ts u (any_cap tok) d
back_follow (M.cond v σ) cap a tok ts u c d =
    elim (on_choose (assign_if v tok) _ _ ts u d) [
      | inl p ↦
          let e = assign_true v tok p.0 p.1 in
          let r = to_assign (assigned tok.place p.0 a σ) u p.2 in
          inr (e.0, led (p.0, e.1, r.0, r.1, r.2, r.3))
      | inr q ↦ elim (on_test (is m.Question tok) _ _ ts u q.1) [
        | inl p ↦
            let r = to_expr (middle tok.place a σ) u p.1 in
            inl (a, tok ∷ ts, here, inr (led (is_true m.Question tok p.0, r.0, r.1, r.2, r.3)))
        | inr q ↦ elim (on_choose (binary_op tok) _ _ ts u q.1) [
          | inl p ↦ inl (operator p.0 p.1 (c p.0 p.1) (to_right tok.place p.0 a (M.cond false σ) u p.2))
          | inr p ↦ inl (a, tok ∷ ts, here, inl (back_follow σ 10 a tok ts u (any_cap tok) p.1))
        ]
      ]
    ]
  where
    operator : (o : BinaryOp) → binary_op tok ≡ Some o → level o ≤ cap → ((y : Exp) × (mid : List Token) × g.Level (suc (level o)) ts mid y × Past (M.cond false σ) (level o) (binary tok.place o a y) mid u) →
        (x : Exp) × (mid : List Token) × Climb 1 cap a (tok ∷ ts) mid x × Chooses (λ y rest. Past σ 10 y rest u) x mid
    operator o e up (y, m1, lev, inl (x, m2, climb, h)) = (x, m2, op e (low_level o).0 up lev climb, h)
    operator o e up (y, m1, lev, inr (f, h)) = absurd (false≢true f)
back_follow (right p o a σ) cap b tok ts u c d =
    elim (on_choose (if_tighter o (binary_op tok)) _ _ ts u d) [
      | inl q ↦
          let e = tighter_true o q.0 tok q.1 in
          operator q.0 e.0 e.1 (c q.0 e.0) (to_right tok.place q.0 b (right p o a σ) u q.2)
      | inr q ↦ (b, tok ∷ ts, here, back_follow σ (level o) (binary p o a b) tok ts u (λ found e. tighter_none o found tok q.0 e) q.1)
    ]
  where
    operator : (n : BinaryOp) → binary_op tok ≡ Some n → level o < level n → level n ≤ cap → ((y : Exp) × (mid : List Token) × g.Level (suc (level n)) ts mid y × Past (right p o a σ) (level n) (binary tok.place n b y) mid u) →
        (y : Exp) × (mid : List Token) × Climb (suc (level o)) cap b (tok ∷ ts) mid y × Past σ (level o) (binary p o a y) mid u
    operator n e low up (y, m1, lev, (z, m2, climb, h)) = (z, m2, op e low up lev climb, h)
back_follow (assigned p o a σ) cap b tok ts u c d = back_follow σ 10 (assign p o a b) tok ts u (any_cap tok) d
back_follow (middle p a σ) cap b tok ts u c d =
    elim (on_test (is m.Colon tok) _ _ ts u d) [
      | inl q ↦ let r = to_cond (other p a b σ) u q.1 in led (is_true m.Colon tok q.0, (r.0, r.1, r.2, r.3))
      | inr q ↦ absurd q.1
    ]
back_follow (other p a b σ) cap e tok ts u c d = back_follow σ 10 (conditional p a b e) tok ts u (any_cap tok) d
back_follow (first σ) cap a tok ts u c d =
    elim (on_test (is m.Comma tok) _ _ ts u d) [
      | inl p ↦ inr (go (is_true m.Comma tok p.0) (to_assign (list tok.place (a ∷ []) σ) u p.1))
      | inr p ↦ inl (back_follow σ 10 a tok ts u (any_cap tok) p.1)
    ]
  where
    go : IsMark tok m.Comma → ((x : Exp) × (mid : List Token) × g.Assign ts mid x × Past (list tok.place (a ∷ []) σ) 10 x mid u) →
        Led (λ c mid. IsMark c m.Comma × (ys : List Exp) × (rest : List Token) × g.Assigns mid rest ys × Past σ 10 (comma c.place (exps (a ∷ ys))) rest u) (tok ∷ ts)
    go e (x, mid, r, inl p) = led (e, x ∷ [], mid, g.last r, p)
    go e (x, mid, r, inr (led (f, (ys, rest, s, p)))) = led (e, x ∷ ys, rest, g.before r f s, p)
back_follow (list q xs σ) cap a tok ts u c d =
    elim (on_test (is m.Comma tok) _ _ ts u d) [
      | inl p ↦ inr (go (is_true m.Comma tok p.0) (to_assign (list q (xs ++ a ∷ []) σ) u p.1))
      | inr p ↦ inl (back_follow σ 10 (comma q (exps (xs ++ a ∷ []))) tok ts u (any_cap tok) p.1)
    ]
  where
    go : IsMark tok m.Comma → ((x : Exp) × (mid : List Token) × g.Assign ts mid x × Past (list q (xs ++ a ∷ []) σ) 10 x mid u) →
        By m.Comma (λ mid. (ys : List Exp) × (rest : List Token) × g.Assigns mid rest ys × Past σ 10 (comma q (exps (xs ++ a ∷ ys))) rest u) (tok ∷ ts)
    go e (x, mid, r, inl p) = led (e, (x ∷ [], mid, g.last r, subst (λ l. Past σ 10 (comma q (exps l)) mid u) (append_assoc xs (a ∷ []) (x ∷ [])) p))
    go e (x, mid, r, inr (led (f, (ys, rest, s, p)))) =
        led (e, (x ∷ ys, rest, g.before r f s, subst (λ l. Past σ 10 (comma q (exps l)) rest u) (append_assoc xs (a ∷ []) (x ∷ ys)) p))
back_follow (parens σ) cap a tok ts u c d =
    elim (on_test (is m.RightParen tok) _ _ ts u d) [ inl p ↦ led (is_true m.RightParen tok p.0, p.1) | inr p ↦ absurd p.1 ]
back_follow (subscript q b σ) cap a tok ts u c d =
    elim (on_test (is m.RightBracket tok) _ _ ts u d) [ inl p ↦ led (is_true m.RightBracket tok p.0, p.1) | inr p ↦ absurd p.1 ]
back_follow (arg q f xs σ) cap a tok ts u c d =
    elim (on_test (is m.Comma tok) _ _ ts u d) [
      | inl p ↦ inr (go (is_true m.Comma tok p.0) (to_assign (arg q f (xs ++ a ∷ []) σ) u p.1))
      | inr z ↦ elim (on_test (is m.RightParen tok) _ _ ts u z.1) [ inl p ↦ inl (led (is_true m.RightParen tok p.0, p.1)) | inr p ↦ absurd p.1 ]
    ]
  where
    go : IsMark tok m.Comma → ((x : Exp) × (mid : List Token) × g.Assign ts mid x × Past (arg q f (xs ++ a ∷ []) σ) 10 x mid u) →
        By m.Comma (λ mid. (ys : List Exp) × (rest : List Token) × g.Assigns mid rest ys × By m.RightParen (Indexed (λ y rest. Past σ 10 y rest u) (call q f (exps (xs ++ a ∷ ys)))) rest) (tok ∷ ts)
    go e (x, mid, r, inl (led {rest} (h, i))) =
        led (e, (x ∷ [], _, g.last r, led (h, subst (λ l. Indexed (λ y rest. Past σ 10 y rest u) (call q f (exps l)) rest) (append_assoc xs (a ∷ []) (x ∷ [])) i)))
    go e (x, mid, r, inr (led (h, (ys, next, s, led {rest} (k, i))))) =
        led (e, (x ∷ ys, _, g.before r h s, led (k, subst (λ l. Indexed (λ y rest. Past σ 10 y rest u) (call q f (exps l)) rest) (append_assoc xs (a ∷ []) (x ∷ ys)) i)))
