-- What is a declaration takes the machine past it.
use Rattle.std.proofs.Common.{◌≡◌, ℕ, ◌<◌, List, [], ◌∷◌, ◌++◌, None, true, false, refl, sym, ◌∙◌, ap, arith, append_assoc}
use Rattle.std.proofs.lemmas.Bool.{false≢true, false_from_ne_true}
use Rattle.ib_meaning.specs.declared.place.Place.{Place}
use Rattle.c_ast.specs.declared.mark.Mark.{Mark}
use Rattle.c_ast.specs.declared.mark.Mark.TheVariants as m
use Rattle.c_ast.specs.declared.keyword.Keyword.TheVariants as k
use Rattle.c_ast.specs.declared.token.Token.{Token}
use Rattle.c_ast.specs.declared.tree.Base.{Base}
use Rattle.c_ast.specs.declared.tree_unit.Length.{Length}
use Rattle.c_ast.specs.declared.tree_unit.Length.TheVariants as len
use Rattle.c_ast.specs.GrammarTokens.{IsMark, IsName}
use Rattle.c_ast.specs.Trees.{Ty, plain, Exp, Initial, value, elements, Decl, declarator, unnamed, named, Par, param, Top}
use Rattle.c_ast.specs.Grammar as g
use Rattle.c_parse_machine.specs.Signs.{is, says, is_type, name_of}
use Rattle.c_parse_machine.specs.Machine.{Head, head, Declaring, declaring, Made, made, Target, top, global, in_block, in_for, no_function, init_value, element, a_declarator, a_parameter, Sizing, of_declarator, of_parameter, State, typed, named_at, sizes, size_open, size_given, sized, init_open, element_next, declared, params_open, params_void, param_next, params_done, operand, have, begins_assign, begin_type, with_decl, with_init, end_declaration, step, run}
use Rattle.c_parse_machine.proofs.Tokens.{is_true, says_true}
use Rattle.c_parse_machine.proofs.Complete.{binds, no_open, no_bracket, no_set, Heads, heads, each, Stops, alike, takes, on, value_type, stars, stars_head}
use Rattle.c_parse_machine.proofs.Starts.{Starts, mark_not, assign_starts, alike_at}
use Rattle.c_parse_machine.proofs.ExpressionLemmas.{assignment}

elements_start : {ts rest : List Token} {xs : List Exp} → g.Elements ts rest xs → Starts ts
elements_start (g.last_element a e) = assign_starts a
elements_start (g.last_comma a e f) = assign_starts a
elements_start (g.an_element a e r) = assign_starts a

listed : {ts rest : List Token} {xs : List Exp} → g.Elements ts rest xs → (u : Made) (front : List Exp) → run ts (operand true (begins_assign (element u front))) ≡ run rest (declared (with_init u (elements (front ++ xs))))
listed (g.last_element {c} {rest} {x} a e) u front =
    assignment a (let b : binds c ≡ 0 = rw e refl in omega (arith, b)) (element u front)
    ∙ takes (have x (element u front)) (declared (with_init u (elements (front ++ x ∷ [])))) c rest (rw e refl)
listed (g.last_comma {c} {d} {rest} {x} a e f) u front =
    assignment a (let b : binds c ≡ 1 = rw e refl in omega (arith, b)) (element u front)
    ∙ takes (have x (element u front)) (element_next u (front ++ x ∷ [])) c (d ∷ rest) (rw e refl)
    ∙ takes (element_next u (front ++ x ∷ [])) (declared (with_init u (elements (front ++ x ∷ [])))) d rest (rw f refl)
listed {rest} (g.an_element {c} {mid} {x} {xs} a e r) u front =
    assignment a (let b : binds c ≡ 1 = rw e refl in omega (arith, b)) (element u front)
    ∙ takes (have x (element u front)) (element_next u (front ++ x ∷ [])) c mid (rw e refl)
    ∙ alike_at (element_next u (front ++ x ∷ [])) (operand true (begins_assign (element u (front ++ x ∷ [])))) mid (elements_start r)
    (λ tok h. rw (mark_not m.RightBrace tok refl h) refl)
    ∙ listed r u (front ++ x ∷ []) ∙ ap (λ l. run rest (declared (with_init u (elements l)))) (append_assoc front (x ∷ []) xs)

initialiser : {mid rest : List Token} {i : Initial} → g.Initialiser mid rest i → Stops 2 rest → (d : Declaring) (p : Place) (ty : Ty) (n : List ℕ) (l : Length) →
    run mid (sized (of_declarator d p ty n) l) ≡ run rest (declared (with_decl d (declarator p ty n l i)))
initialiser {rest} g.no_value s d p ty n l = alike (λ tok. binds tok < 2) (sized (of_declarator d p ty n) l) (declared (with_decl d (declarator p ty n l _))) refl rest s
    (λ tok h. rw (no_set tok h) refl)
initialiser {rest} (g.a_value {s} {ts} {x} e a) q d p ty n l =
    let u = made d p ty n l in
    takes (sized (of_declarator d p ty n) l) (init_open u) s ts (rw e refl)
    ∙ alike_at (init_open u) (operand true (begins_assign (init_value u))) ts (assign_starts a) (λ tok h. rw (mark_not m.LeftBrace tok refl h) refl)
    ∙ assignment a q (init_value u)
    ∙ alike (λ tok. binds tok < 2) (have x (init_value u)) (declared (with_init u (value x))) refl rest q (λ tok h. on x (init_value u) tok (omega arith))
initialiser (g.a_list {s} {o} {ts} e f r) q d p ty n l =
    let u = made d p ty n l in
    takes (sized (of_declarator d p ty n) l) (init_open u) s (o ∷ ts) (rw e refl)
    ∙ takes (init_open u) (operand true (begins_assign (element u []))) o ts (rw f refl)
    ∙ listed r u []

init_head : {mid rest : List Token} {i : Initial} → g.Initialiser mid rest i → Stops 2 rest → Heads (λ tok. (is m.LeftParen tok ≡ false) × (is m.LeftBracket tok ≡ false)) mid
init_head {mid} g.no_value s = heads (λ tok. binds tok < 2) (λ tok. (is m.LeftParen tok ≡ false) × (is m.LeftBracket tok ≡ false)) (λ tok h. (no_open tok (omega arith), no_bracket tok (omega arith))) mid s
init_head (g.a_value e a) s = (rw e refl, rw e refl)
init_head (g.a_list e f r) s = (rw e refl, rw e refl)

size_head : (P : Token → Type 0) {mid rest : List Token} {l : Length} → ((o : Token) → IsMark o m.LeftBracket → P o) → g.LengthOf mid rest l → Heads P rest → Heads P mid
size_head P f g.no_brackets h = h
size_head P f (g.no_length {o} e q) h = f o e
size_head P f (g.a_length {o} e n q) h = f o e

length_of : {mid rest : List Token} {l : Length} → g.LengthOf mid rest l → Heads (λ tok. is m.LeftBracket tok ≡ false) rest → (z : Sizing) → run mid (sizes z) ≡ run rest (sized z l)
length_of {rest} g.no_brackets h z = alike (λ tok. is m.LeftBracket tok ≡ false) (sizes z) (sized z len.Scalar) refl rest h (λ tok q. rw q refl)
length_of (g.no_length {o} {c} {rest} e f) h z =
    takes (sizes z) (size_open z) o (c ∷ rest) (rw e refl) ∙ takes (size_open z) (sized z len.Missing) c rest (rw f refl)
length_of (g.a_length {o} {n} {c} {v} {long} {rest} e q f) h z =
    takes (sizes z) (size_open z) o (n ∷ c ∷ rest) (rw e refl) ∙ takes (size_open z) (size_given z (len.Given v long)) n (c ∷ rest) (rw q refl)
    ∙ takes (size_given z (len.Given v long)) (sized z (len.Given v long)) c rest (rw f refl)

a_declared : {b : Base} {ts rest : List Token} {d : Decl} → g.Declarator b ts rest d → Stops 2 rest → (target : Target) (front : List Decl) →
    run ts (typed (a_declarator target front) b (plain b)) ≡ run rest (declared (declaring target b (front ++ d ∷ [])))
a_declared (g.declares {b} {w} {n} {mid} {mid'} {ty} {l} r e s i) q target front =
    let both = init_head i q in
    let z = of_declarator (declaring target b front) w.place ty n in
    stars r (a_declarator target front) b
    ∙ takes (typed (a_declarator target front) b ty) (named_at (declaring target b front) w.place ty n) w mid (rw e refl)
    ∙ alike (λ tok. is m.LeftParen tok ≡ false) (named_at (declaring target b front) w.place ty n) (sizes z) refl mid
    (size_head (λ tok. is m.LeftParen tok ≡ false) (λ o h. rw h refl) s (heads (λ tok. (is m.LeftParen tok ≡ false) × (is m.LeftBracket tok ≡ false)) (λ tok. is m.LeftParen tok ≡ false) (λ tok h. h.0) mid' both))
    (λ tok h. rw h refl)
    ∙ length_of s (heads (λ tok. (is m.LeftParen tok ≡ false) × (is m.LeftBracket tok ≡ false)) (λ tok. is m.LeftBracket tok ≡ false) (λ tok h. h.1) mid' both) z
    ∙ initialiser i q (declaring target b front) w.place ty n l

same_end : (target : Target) (ds : List Decl) → end_declaration (no_function target) ds ≡ end_declaration target ds
same_end (top xs) ds = refl
same_end (global xs) ds = refl
same_end (in_block p b) ds = refl
same_end (in_for p i) ds = refl

pub declarators : {b : Base} {ts rest : List Token} {ds : List Decl} → g.Declarators b ts rest ds → (target : Target) (front : List Decl) →
    run ts (typed (a_declarator target front) b (plain b)) ≡ run rest (end_declaration target (front ++ ds))
declarators (g.last_declarator {b} {c} {rest} {d} r e) target front =
    a_declared r (let z : binds c ≡ 0 = rw e refl in omega (arith, z)) target front
    ∙ takes (declared (declaring target b (front ++ d ∷ []))) (end_declaration target (front ++ d ∷ [])) c rest (rw e refl)
declarators {rest} (g.a_declarator {b} {c} {mid} {d} {ds} r e s) target front =
    a_declared r (let z : binds c ≡ 1 = rw e refl in omega (arith, z)) target front
    ∙ takes (declared (declaring target b (front ++ d ∷ []))) (typed (a_declarator (no_function target) (front ++ d ∷ [])) b (plain b)) c mid (rw e refl)
    ∙ declarators s (no_function target) (front ++ d ∷ [])
    ∙ ap (λ z. run rest z) (same_end target ((front ++ d ∷ []) ++ ds)) ∙ ap (λ l. run rest (end_declaration target l)) (append_assoc front (d ∷ []) ds)

pub declarators_head : {b : Base} {ts rest : List Token} {ds : List Decl} → g.Declarators b ts rest ds → Heads (λ tok. says k.Int tok ≡ false) ts
declarators_head (g.last_declarator (g.declares r e s i) f) = stars_head r (rw e refl)
declarators_head (g.a_declarator (g.declares r e s i) f q) = stars_head r (rw e refl)

pub locals : {ts rest : List Token} {ds : List Decl} → g.Local ts rest ds → (s : State) (target : Target) → Heads (λ tok. is_type tok ≡ true → step s tok ≡ begin_type (a_declarator target []) tok) ts →
    run ts s ≡ run rest (end_declaration target ds)
locals (g.declaration w r) s target h = value_type w (declarators_head r) s (a_declarator target []) h ∙ declarators r target []

-- a token that begins a type is no mark and no other word
pub type_no_mark : (mark : Mark) (tok : Token) → is_type tok ≡ true → is mark tok ≡ false
type_no_mark mark tok h = false_from_ne_true (is mark tok) (λ q.
    let e = is_true mark tok q in
    let no : is_type tok ≡ false = no_type mark tok e in false≢true (sym no ∙ h))
  where
    no_type : (mark : Mark) (tok : Token) → IsMark tok mark → is_type tok ≡ false
    no_type m.LeftParen tok e = rw e refl
    no_type _ tok e = rw e refl

pub type_no_void : (tok : Token) → is_type tok ≡ true → says k.Void tok ≡ false
type_no_void tok h = false_from_ne_true (says k.Void tok) (λ q.
    let e = says_true k.Void tok q in let no : is_type tok ≡ false = rw e refl in false≢true (sym no ∙ h))

-- parameters

param_type : {ts mid : List Token} {b : Base} → g.ValueType ts mid b → Heads (λ tok. says k.Int tok ≡ false) mid → (s : State) (h : Head) →
    Heads (λ tok. is_type tok ≡ true → step s tok ≡ begin_type (a_parameter tok.place h) tok) ts → (q : Place) × (run ts s ≡ run mid (typed (a_parameter q h) b (plain b)))
param_type (g.is_char {w} e) q s h f = (w.place, value_type (g.is_char e) q s (a_parameter w.place h) f)
param_type (g.is_int {w} e) q s h f = (w.place, value_type (g.is_int e) q s (a_parameter w.place h) f)
param_type (g.is_long {w} e) q s h f = (w.place, value_type (g.is_long e) q s (a_parameter w.place h) f)
param_type (g.is_long_int {w} e r) q s h f = (w.place, value_type (g.is_long_int e r) q s (a_parameter w.place h) f)

-- the state behind a parameter
abbrev behind : Head → Par → State
behind h (param p ty n l) = sized (of_parameter h p ty n) l

-- a mark that follows a parameter
abbrev Ending : Token → Type 0
Ending tok = (is m.Star tok ≡ false) × (name_of tok.kind ≡ None) × (is m.LeftBracket tok ≡ false) × (says k.Int tok ≡ false)

a_bracket : (o : Token) → IsMark o m.LeftBracket → (is m.Star o ≡ false) × (name_of o.kind ≡ None) × (says k.Int o ≡ false)
a_bracket o e = (rw e refl, rw e refl, rw e refl)

takes_name : (q : Place) (h : Head) (b : Base) (ty : Ty) (w : Token) (n : List ℕ) (ts : List Token) → IsName w n →
    run (w ∷ ts) (typed (a_parameter q h) b ty) ≡ run ts (sizes (of_parameter h w.place ty (named n)))
takes_name q h b ty w n ts e = takes (typed (a_parameter q h) b ty) (sizes (of_parameter h w.place ty (named n))) w ts (rw e refl)

a_param : {ts rest : List Token} {x : Par} → g.Param ts rest x → Heads Ending rest → (s : State) (h : Head) →
    Heads (λ tok. is_type tok ≡ true → step s tok ≡ begin_type (a_parameter tok.place h) tok) ts → run ts s ≡ run rest (behind h x)
a_param {rest} (g.without_name {w} {b} {mid' = mid} {ty} {l} v r z) e s h f =
    let plain_head : Heads (λ tok. (is m.Star tok ≡ false) × (name_of tok.kind ≡ None) × (says k.Int tok ≡ false)) mid =
    size_head (λ tok. (is m.Star tok ≡ false) × (name_of tok.kind ≡ None) × (says k.Int tok ≡ false)) a_bracket z
    (heads Ending (λ tok. (is m.Star tok ≡ false) × (name_of tok.kind ≡ None) × (says k.Int tok ≡ false)) (λ tok q. (q.0, q.1, q.3)) rest e) in
    let no_int = heads (λ tok. (is m.Star tok ≡ false) × (name_of tok.kind ≡ None) × (says k.Int tok ≡ false)) (λ tok. says k.Int tok ≡ false) (λ tok q. q.2) mid plain_head in
    value_type v (stars_head r no_int) s (a_parameter w.place h) f
    ∙ stars r (a_parameter w.place h) b
    ∙ alike (λ tok. (is m.Star tok ≡ false) × (name_of tok.kind ≡ None) × (says k.Int tok ≡ false)) (typed (a_parameter w.place h) b ty) (sizes (of_parameter h w.place ty unnamed)) refl mid plain_head (λ tok q. rw (q.0, q.1) refl)
    ∙ length_of z (heads Ending (λ tok. is m.LeftBracket tok ≡ false) (λ tok q. q.2) rest e) (of_parameter h w.place ty unnamed)
a_param {rest} (g.with_name {w} {n} {b} {mid' = mid} {ty} {l} v r q z) e s h f =
    let t = param_type v (stars_head r (rw q refl)) s h f in
    t.1 ∙ stars r (a_parameter t.0 h) b
    ∙ takes_name t.0 h b ty w n mid q
    ∙ length_of z (heads Ending (λ tok. is m.LeftBracket tok ≡ false) (λ tok q. q.2) rest e) (of_parameter h w.place ty (named n))

abbrev pub with_params : Head → List Par → Head
with_params (head xs p ty n ps) more = head xs p ty n (ps ++ more)

params : {ts rest : List Token} {xs : List Par} → g.Params ts rest xs → (s : State) (h : Head) →
    Heads (λ tok. is_type tok ≡ true → step s tok ≡ begin_type (a_parameter tok.place h) tok) ts → run ts s ≡ run rest (params_done (with_params h xs))
params (g.last_param {c} {rest} {x = param p ty n l} r e) s (head xs q to f ps) z =
    a_param r (rw e refl, rw e refl, rw e refl, rw e refl) s (head xs q to f ps) z
    ∙ takes (sized (of_parameter (head xs q to f ps) p ty n) l) (params_done (head xs q to f (ps ++ param p ty n l ∷ []))) c rest (rw e refl)
params {rest} (g.a_param {c} {mid} {x = param p ty n l} {xs = more} r e v) s (head xs q to f ps) z =
    let h = head xs q to f (ps ++ param p ty n l ∷ []) in
    a_param r (rw e refl, rw e refl, rw e refl, rw e refl) s (head xs q to f ps) z
    ∙ takes (sized (of_parameter (head xs q to f ps) p ty n) l) (param_next h) c mid (rw e refl)
    ∙ params v (param_next h) h (each (λ tok. is_type tok ≡ true → step (param_next h) tok ≡ begin_type (a_parameter tok.place h) tok) (λ tok y. refl) mid)
    ∙ ap (λ l. run rest (params_done (head xs q to f l))) (append_assoc ps (param p ty n l ∷ []) more)

pub param_list : {ts rest : List Token} {xs : List Par} → g.ParamList ts rest xs → (front : List Top) (p : Place) (ty : Ty) (n : List ℕ) →
    run ts (params_open (head front p ty n [])) ≡ run rest (params_done (head front p ty n xs))
param_list (g.no_params {c} {rest} e) front p ty n = takes (params_open (head front p ty n [])) (params_done (head front p ty n [])) c rest (rw e refl)
param_list (g.void_params {w} {c} {rest} e f) front p ty n =
    takes (params_open (head front p ty n [])) (params_void (head front p ty n [])) w (c ∷ rest) (rw e refl)
    ∙ takes (params_void (head front p ty n [])) (params_done (head front p ty n [])) c rest (rw f refl)
param_list {ts} (g.some_params r) front p ty n =
    let h = head front p ty n [] in
    params r (params_open h) h (each (λ tok. is_type tok ≡ true → step (params_open h) tok ≡ begin_type (a_parameter tok.place h) tok)
    (λ tok z. rw (type_no_mark m.RightParen tok z, type_no_void tok z) refl) ts)
