-- What is an expression takes the machine past it.
use Rattle.std.proofs.Common.{◌≡◌, ◌≢◌, ℕ, suc, ◌+◌, ◌<◌, ◌≤◌, List, [], ◌∷◌, ◌++◌, length, Some, None, Err, Bool, true, false, refl, sym, ◌∙◌, ap, arith, ◌&&◌, inl, inr}
use Rattle.std.specs.Prelude.{Result, Option, nat_lt, ◌||◌, if◌then◌else◌}
use Rattle.std.proofs.lemmas.Bool.Decides.{leb_tells}
use Rattle.ib_meaning.specs.declared.place.Place.{Place}
use Rattle.std.proofs.lemmas.Bool.{false_from_ne_true}
use Rattle.c_ast.specs.declared.mark.Mark.{Mark}
use Rattle.c_ast.specs.declared.mark.Mark.TheVariants as m
use Rattle.c_ast.specs.declared.keyword.Keyword.TheVariants as k
use Rattle.c_ast.specs.declared.token.Tok.{Tok}
use Rattle.c_ast.specs.declared.token.Tok.TheVariants as t
use Rattle.c_ast.specs.declared.token.Token.{Token}
use Rattle.c_ast.specs.declared.tree.Base.{Base}
use Rattle.c_ast.specs.declared.tree.UnaryOp.{UnaryOp}
use Rattle.c_ast.specs.declared.tree.BinaryOp.{BinaryOp}
use Rattle.c_ast.specs.declared.tree.AssignOp.{AssignOp}
use Rattle.c_ast.specs.GrammarTokens.{IsMark, mark_of, binary_op, level, assign_op, postfix_mark, postfix_op}
use Rattle.c_ast.specs.Trees.{Ty, plain, pointer, Exp, unary, cast, binary, conditional, assign, comma, exps, Top}
use Rattle.c_ast.specs.Grammar as g
use Rattle.c_parse_machine.specs.Signs.{is, says, is_type}
use Rattle.c_parse_machine.specs.Machine.{Frames, prefix, cast_to, cond, right, assigned, middle, other, first, list, parens, subscript, arg, part, tested, init_value, element, Use, State, typed, after_long, have, shut, begin_type, if_tighter, follow, go_on, step, finish, ended, run}
use Rattle.c_parse_machine.proofs.Tokens.{is_true, not_assign, low_level}

-- how tightly a token binds what stands before it to what follows; 0 where it ends an expression
abbrev other_binds : Token → ℕ
other_binds tok =
    if is m.Comma tok then 1 else if is m.Question tok then 3
    else if is m.LeftParen tok || (is m.LeftBracket tok || (is m.Increment tok || is m.Decrement tok)) then 14 else 0

abbrev from_binary : Option BinaryOp → ℕ → ℕ
from_binary (Some op) n = 3 + level op
from_binary None n = n

abbrev from_assign : Option AssignOp → ℕ → ℕ
from_assign (Some op) n = 2
from_assign None n = n

abbrev pub binds : Token → ℕ
binds tok = from_assign (assign_op tok) (from_binary (binary_op tok) (other_binds tok))

pub binds_binary : (tok : Token) (op : BinaryOp) → binary_op tok ≡ Some op → binds tok ≡ 3 + level op
binds_binary tok op e = rw (not_assign tok op e, e) refl

pub binds_assign : (tok : Token) (op : AssignOp) → assign_op tok ≡ Some op → binds tok ≡ 2
binds_assign tok op e = rw e refl

pub no_assign : (tok : Token) → binds tok < 2 → assign_op tok ≡ None
no_assign tok h = go (assign_op tok) refl
  where
    go : (o : Option AssignOp) → assign_op tok ≡ o → o ≡ None
    go None e = refl
    go (Some op) e = absurd (omega (arith, binds_assign tok op e))

pub no_binary : (tok : Token) → binds tok < 4 → binary_op tok ≡ None
no_binary tok h = go (binary_op tok) refl
  where
    go : (o : Option BinaryOp) → binary_op tok ≡ o → o ≡ None
    go None e = refl
    go (Some op) e = absurd (omega (arith, binds_binary tok op e, (low_level op).0))

-- the first token binds as some mark does
pub binds_mark : (mark : Mark) (n : ℕ) (tok : Token) → ((tok : Token) → IsMark tok mark → binds tok ≡ n) → binds tok ≢ n → is mark tok ≡ false
binds_mark mark n tok f h = false_from_ne_true (is mark tok) (λ q. h (f tok (is_true mark tok q)))

pub no_comma : (tok : Token) → binds tok < 1 → is m.Comma tok ≡ false
no_comma tok h = binds_mark m.Comma 1 tok (λ u e. rw e refl) (λ q. omega (arith, q))

pub no_set : (tok : Token) → binds tok < 2 → is m.Assign tok ≡ false
no_set tok h = binds_mark m.Assign 2 tok (λ u e. rw e refl) (λ q. omega (arith, q))

pub no_question : (tok : Token) → binds tok < 3 → is m.Question tok ≡ false
no_question tok h = binds_mark m.Question 3 tok (λ u e. rw e refl) (λ q. omega (arith, q))

pub no_open : (tok : Token) → binds tok < 14 → is m.LeftParen tok ≡ false
no_open tok h = binds_mark m.LeftParen 14 tok (λ u e. rw e refl) (λ q. omega (arith, q))

pub no_bracket : (tok : Token) → binds tok < 14 → is m.LeftBracket tok ≡ false
no_bracket tok h = binds_mark m.LeftBracket 14 tok (λ u e. rw e refl) (λ q. omega (arith, q))

pub no_postfix : (tok : Token) → binds tok < 14 → postfix_op tok ≡ None
no_postfix tok h = go tok.kind refl
  where
    by_mark : (mark : Mark) → tok.kind ≡ t.Mark mark → postfix_mark mark ≡ None
    by_mark m.Increment e = absurd (let b : binds tok ≡ 14 = rw e refl in omega (arith, b))
    by_mark m.Decrement e = absurd (let b : binds tok ≡ 14 = rw e refl in omega (arith, b))
    by_mark _ e = refl

    go : (kind : Tok) → tok.kind ≡ kind → mark_of postfix_mark kind ≡ None
    go (t.Mark mark) e = by_mark mark e
    go (t.Name n) e = refl
    go _ e = refl

pub and_false : (u x : Bool) → x ≡ false → (u && x) ≡ false
and_false true x e = e
and_false false x e = refl

-- P holds of the first token, if there is one.
abbrev pub Heads : (Token → Type 0) → List Token → Type 0
Heads P [] = Unit {0}
Heads P (tok ∷ ts) = P tok

-- The first token that follows binds less tightly than n.
abbrev pub Stops : ℕ → List Token → Type 0
Stops n = Heads (λ tok. binds tok < n)

-- No operator of level n or above follows, and no assignment.
abbrev pub Ends : ℕ → List Token → Type 0
Ends n = Heads (λ tok. (binds tok < 3 + n) × (assign_op tok ≡ None))

pub heads : (P Q : Token → Type 0) → ((tok : Token) → P tok → Q tok) → (ts : List Token) → Heads P ts → Heads Q ts
heads P Q f [] h = tt
heads P Q f (tok ∷ ts) h = f tok h

pub each : (P : Token → Type 0) → ((tok : Token) → P tok) → (ts : List Token) → Heads P ts
each P f [] = tt
each P f (tok ∷ ts) = f tok

pub stops_more : (j n : ℕ) (ts : List Token) → j ≤ n → Stops j ts → Stops n ts
stops_more j n [] h s = tt
stops_more j n (tok ∷ ts) h s = omega arith

pub ends_stops : (n : ℕ) (ts : List Token) → n ≤ 11 → Ends n ts → Stops 14 ts
ends_stops n [] h s = tt
ends_stops n (tok ∷ ts) h s = omega (arith, s.0)

pub stops_ends : (n : ℕ) (ts : List Token) → Stops 2 ts → Ends n ts
stops_ends n [] s = tt
stops_ends n (tok ∷ ts) s = (omega arith, no_assign tok s)

-- two states that take each token alike, and end alike, are alike
pub alike : (P : Token → Type 0) (s s' : State) → finish s ≡ finish s' → (ts : List Token) → Heads P ts → ((tok : Token) → P tok → step s tok ≡ step s' tok) → run ts s ≡ run ts s'
alike P s s' e [] p h = ap ended e
alike P s s' e (tok ∷ ts) p h = ap (λ o. elim o as (λ _. Result (List Top) ℕ) [ Some next ↦ run ts next | None ↦ Err (length ts + 1) ]) (h tok p)

-- a step that the machine takes
pub takes : (s next : State) (tok : Token) (ts : List Token) → step s tok ≡ Some next → run (tok ∷ ts) s ≡ run ts next
takes s next tok ts e = ap (λ o. elim o as (λ _. Result (List Top) ℕ) [ Some next ↦ run ts next | None ↦ Err (length ts + 1) ]) e

pub on : (a : Exp) (σ : Frames) (tok : Token) → binds tok < 14 → go_on a σ tok ≡ follow a σ tok
on a σ tok h = rw (no_bracket tok h, no_postfix tok h) refl

-- what is the same where a frame does not take the token
pub falls : (P : Token → Type 0) (a b : Exp) (σ τ : Frames) (ts : List Token) → Heads P ts → ((tok : Token) → P tok → (binds tok < 14) × (follow a σ tok ≡ follow b τ tok)) → run ts (have a σ) ≡ run ts (have b τ)
falls P a b σ τ ts p h = alike P (have a σ) (have b τ) refl ts p
    (λ tok q. on a σ tok (h tok q).0 ∙ (h tok q).1 ∙ sym (on b τ tok (h tok q).0))

pub fall_prefix : (p : Place) (op : UnaryOp) (a : Exp) (σ : Frames) (ts : List Token) → Stops 14 ts → run ts (have a (prefix p op σ)) ≡ run ts (have (unary p op a) σ)
fall_prefix p op a σ ts s = falls (λ tok. binds tok < 14) a (unary p op a) (prefix p op σ) σ ts s (λ tok h. (h, refl))

pub fall_cast : (p : Place) (ty : Ty) (a : Exp) (σ : Frames) (ts : List Token) → Stops 14 ts → run ts (have a (cast_to p ty σ)) ≡ run ts (have (cast p ty a) σ)
fall_cast p ty a σ ts s = falls (λ tok. binds tok < 14) a (cast p ty a) (cast_to p ty σ) σ ts s (λ tok h. (h, refl))

pub fall_assigned : (p : Place) (op : AssignOp) (a b : Exp) (σ : Frames) (ts : List Token) → Stops 2 ts → run ts (have b (assigned p op a σ)) ≡ run ts (have (assign p op a b) σ)
fall_assigned p op a b σ ts s = falls (λ tok. binds tok < 2) b (assign p op a b) (assigned p op a σ) σ ts s (λ tok h. (omega arith, refl))

pub fall_other : (p : Place) (a b d : Exp) (σ : Frames) (ts : List Token) → Stops 2 ts → run ts (have d (other p a b σ)) ≡ run ts (have (conditional p a b d) σ)
fall_other p a b d σ ts s = falls (λ tok. binds tok < 2) d (conditional p a b d) (other p a b σ) σ ts s (λ tok h. (omega arith, refl))

pub fall_first : (a : Exp) (σ : Frames) (ts : List Token) → Stops 1 ts → run ts (have a (first σ)) ≡ run ts (have a σ)
fall_first a σ ts s = falls (λ tok. binds tok < 1) a a (first σ) σ ts s (λ tok h. (omega arith, rw (no_comma tok h) refl))

pub fall_list : (p : Place) (xs : List Exp) (a : Exp) (σ : Frames) (ts : List Token) → Stops 1 ts → run ts (have a (list p xs σ)) ≡ run ts (have (comma p (exps (xs ++ a ∷ []))) σ)
fall_list p xs a σ ts s = falls (λ tok. binds tok < 1) a (comma p (exps (xs ++ a ∷ []))) (list p xs σ) σ ts s (λ tok h. (omega arith, rw (no_comma tok h) refl))

pub fall_cond : (u : Bool) (a : Exp) (σ : Frames) (ts : List Token) → Stops 2 ts → run ts (have a (cond u σ)) ≡ run ts (have a σ)
fall_cond true a σ ts s = falls (λ tok. binds tok < 2) a a (cond true σ) σ ts s
    (λ tok h. (omega arith, rw (no_assign tok h, no_question tok (omega arith), no_binary tok (omega arith)) refl))
fall_cond false a σ ts s = falls (λ tok. binds tok < 2) a a (cond false σ) σ ts s
    (λ tok h. (omega arith, rw (no_question tok (omega arith), no_binary tok (omega arith)) refl))

leb-false : (a b : ℕ) → b < suc a → nat_lt a b ≡ false
leb-false a b h = elim (leb_tells (suc a) b) [ inl p ↦ absurd (omega (arith, p.1)) | inr p ↦ p.0 ]

no_tighter : (tok : Token) (op : BinaryOp) → binds tok < 3 + suc (level op) → if_tighter op (binary_op tok) ≡ None
no_tighter tok op h = go (binary_op tok) refl
  where
    go : (o : Option BinaryOp) → binary_op tok ≡ o → if_tighter op o ≡ None
    go None e = refl
    go (Some found) e = rw (leb-false (level op) (level found) (omega (arith, binds_binary tok found e))) refl

pub fall_right : (p : Place) (op : BinaryOp) (a b : Exp) (σ : Frames) (ts : List Token) → Stops 14 ts → Stops (3 + suc (level op)) ts → run ts (have b (right p op a σ)) ≡ run ts (have (binary p op a b) σ)
fall_right p op a b σ [] q s = refl
fall_right p op a b σ (tok ∷ ts) q s = falls (λ tok. (binds tok < 14) × (binds tok < 3 + suc (level op))) b (binary p op a b) (right p op a σ) σ (tok ∷ ts) (q, s)
    (λ tok h. (h.0, rw (no_tighter tok op h.1) refl))

pub fall_shut : (a : Exp) (σ : Frames) (ts : List Token) → Ends 11 ts → run ts (have a σ) ≡ run ts (have a (shut σ))
fall_shut a (cond true σ) ts s = falls (λ tok. (binds tok < 14) × (assign_op tok ≡ None)) a a (cond true σ) (cond false σ) ts s
    (λ tok h. (h.0, rw h.1 refl))
fall_shut a (cond false σ) ts s = refl
fall_shut a (part role) ts s = refl
fall_shut a (tested u) ts s = refl
fall_shut a (init_value u) ts s = refl
fall_shut a (element u xs) ts s = refl
fall_shut a (prefix p op σ) ts s = refl
fall_shut a (cast_to p ty σ) ts s = refl
fall_shut a (right p op b σ) ts s = refl
fall_shut a (assigned p op b σ) ts s = refl
fall_shut a (middle p b σ) ts s = refl
fall_shut a (other p b d σ) ts s = refl
fall_shut a (first σ) ts s = refl
fall_shut a (list p xs σ) ts s = refl
fall_shut a (parens σ) ts s = refl
fall_shut a (subscript p b σ) ts s = refl
fall_shut a (arg p f xs σ) ts s = refl

-- the frames in which operators of level n may stand
pub data Takes : Frames → ℕ → Type 0 where
  in_cond : {σ : Frames} {n : ℕ} → Takes (cond false σ) n
  in_right : {p : Place} {op : BinaryOp} {a : Exp} {σ : Frames} {n : ℕ} → level op < n → Takes (right p op a σ) n

pub more_takes : {σ : Frames} {n : ℕ} → Takes σ n → Takes σ (suc n)
more_takes in_cond = in_cond
more_takes (in_right h) = in_right (omega arith)

pub same_shut : {σ : Frames} {n : ℕ} → Takes σ n → shut σ ≡ σ
same_shut in_cond = refl
same_shut (in_right h) = refl

-- types

pub value_type : {ts mid : List Token} {b : Base} → g.ValueType ts mid b → Heads (λ tok. says k.Int tok ≡ false) mid → (s : State) (why : Use) → Heads (λ tok. is_type tok ≡ true → step s tok ≡ begin_type why tok) ts → run ts s ≡ run mid (typed why b (plain b))
value_type (g.is_char {w} {rest} e) q s why h = takes s _ w rest (h (rw e refl) ∙ rw e refl)
value_type (g.is_int {w} {rest} e) q s why h = takes s _ w rest (h (rw e refl) ∙ rw e refl)
value_type (g.is_long {w} {rest} e) q s why h =
    takes s (after_long why) w rest (h (rw e refl) ∙ rw e refl) ∙ alike (λ tok. says k.Int tok ≡ false) (after_long why) _ refl rest q (λ tok z. rw z refl)
value_type (g.is_long_int {w} {v} {rest} e f) q s why h =
    takes s (after_long why) w (v ∷ rest) (h (rw e refl) ∙ rw e refl) ∙ takes (after_long why) _ v rest (rw f refl)

pub stars : {ty full : Ty} {ts rest : List Token} → g.Stars ty ts rest full → (why : Use) (b : Base) → run ts (typed why b ty) ≡ run rest (typed why b full)
stars g.no_star why b = refl
stars (g.star {s} {ty} {ts} e r) why b = takes (typed why b ty) (typed why b (pointer ty)) s ts (rw e refl) ∙ stars r why b

pub stars_head : {ty full : Ty} {ts rest : List Token} → g.Stars ty ts rest full → Heads (λ tok. says k.Int tok ≡ false) rest → Heads (λ tok. says k.Int tok ≡ false) ts
stars_head g.no_star h = h
stars_head (g.star e r) h = rw e refl
