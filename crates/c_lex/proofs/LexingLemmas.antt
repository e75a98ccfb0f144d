-- The lexer's steps keep the cut of its source.
use Rattle.std.proofs.Common.{◌≡◌, ℕ, ◌+◌, ◌<◌, ◌≤◌, Bool, true, false, List, [], ◌∷◌, ◌++◌, length, take, drop, fold, ap, refl, sym, ◌∙◌, subst, arith, Result, Ok, Err, append_assoc, append-nil, length-drop}
use Rattle.std.specs.Prelude.{◌==◌}
use Rattle.std.proofs.lemmas.Bool.{false≢true}
use Rattle.std.proofs.lemmas.List.{length-take-le}
use Rattle.ib_meaning.specs.declared.place.Place.{Place}
use Rattle.c_ast.specs.declared.fault.LexFault.{LexFault}
use Rattle.c_ast.specs.declared.fault.LexFault.TheVariants as lex_fault
use Rattle.c_ast.specs.declared.token.Tok.{Tok}
use Rattle.c_ast.specs.declared.token.Token.{Token}
use Rattle.c_ast.specs.Cut.{past_byte, start, Ending, whole, stopped, token_at, IsCut, over, AreTokens, StopsAt}
use Rattle.c_lex.specs.declared.error.LexErr.{LexErr}
use Rattle.c_lex.specs.declared.error.LexErr.TheVariants.{BadByte, OpenComment, BadLiteral, NoMemory}
use Rattle.c_lex.specs.declared.found.Found.{Found}
use Rattle.c_lex.specs.declared.found.Found.TheVariants as found
use Rattle.c_lex.specs.declared.lexer.Lexer.{Lexer}
use Rattle.c_lex.specs.First.{found_first}
use Rattle.c_lex.specs.Lexing.{refusal, Gives, is_empty, start_lexer, front_of, lexer_past, advanced_past, advanced}
use Rattle.c_lex.specs.Lexed.{Refuses, Answers}
use Rattle.c_lex.proofs.Runs.{choose}
use Rattle.c_lex.proofs.Cutting.{Onward, Within, within, build, invert, invert_over}

-- ---- what was found is within the bytes

pub gap_within : (clear : Bool) (bs : List ℕ) (n : ℕ) → 0 < length bs → found.Gap n ≡ found_first clear bs → n ≤ length bs
gap_within clear bs n h e = (subst (Within (length bs)) (sym e) (within clear bs h)).1

pub token_within : (clear : Bool) (bs : List ℕ) (tok : Tok) (n : ℕ) → 0 < length bs → found.Token tok n ≡ found_first clear bs → n ≤ length bs
token_within clear bs tok n h e = (subst (Within (length bs)) (sym e) (within clear bs h)).1

-- ---- what the lexer keeps

-- The cut of the source is the lexer's tokens and the cut of what is left, and numbers are small.
pub record Follows (source : List ℕ) (l : Lexer) : Type 0 where
  pub onward : (tokens : List Token) (ending : Ending) → IsCut (front_of l) tokens ending → IsCut (start source) (l.tokens ++ tokens) ending
  pub back : (tokens : List Token) (ending : Ending) → IsCut (start source) tokens ending →
      (more : List Token) × (tokens ≡ l.tokens ++ more) × IsCut (front_of l) more ending
  pub bytes : l.at + length l.left ≤ 1048576
  pub lines : l.place.line + length l.left ≤ 1048577
  pub columns : l.place.col + length l.left ≤ 1048577

pub follows_start : (source : List ℕ) → length source ≤ 1048576 → Follows source (start_lexer source)
follows_start source h = record {
  onward = λ tokens ending c. c;
  back = λ tokens ending c. (tokens, refl, c);
  bytes = omega arith;
  lines = omega arith;
  columns = omega arith;
}

-- places behind bytes
record Near (before behind : Place) (n : ℕ) : Type 0 where
  pub line : behind.line ≤ before.line + n
  pub column : behind.col ≤ before.col + n

near_byte : (place : Place) (b : ℕ) → Near place (past_byte place b) 1
near_byte place b = choose (λ (q : Place). Near place q 1) (b == 10) _ _ (λ _. record { line = omega arith; column = omega arith }) (λ _. record { line = omega arith; column = omega arith })

near_bytes : (place : Place) (bs : List ℕ) → Near place (fold past_byte place bs) (length bs)
near_bytes place [] = record { line = omega arith; column = omega arith }
near_bytes place (b ∷ bs) =
    let one = near_byte place b in
    let more = near_bytes (past_byte place b) bs in
    let l = one.line in let c = one.column in let ml = more.line in let mc = more.column in
    record { line = omega (arith, l, ml); column = omega (arith, c, mc) }

-- the lexer behind n bytes, with these tokens more
module _ (source : List ℕ) (l : Lexer) (n : ℕ) (follows : Follows source l) (fits : n ≤ length l.left) where
  small : (l.at + n + length (drop n l.left) ≤ 1048576) × (((fold past_byte l.place (take n l.left)).line + length (drop n l.left) ≤ 1048577) × ((fold past_byte l.place (take n l.left)).col + length (drop n l.left) ≤ 1048577))
  small =
      let near = near_bytes l.place (take n l.left) in
      let line = near.line in let column = near.column in
      let size = length-take-le n l.left fits in
      let left = length-drop n l.left in
      let b = follows.bytes in let li = follows.lines in let co = follows.columns in
      (omega (arith, left, b), (omega (arith, left, li, line, size), omega (arith, left, co, column, size)))

  pub gap_follows : 0 < length l.left → found.Gap n ≡ found_first l.clear l.left → Follows source (lexer_past l n)
  gap_follows h e = record {
    onward = λ tokens ending c. follows.onward tokens ending (build (front_of l) tokens ending h (subst (λ (x : Found). Onward x (front_of l) tokens ending) e c));
    back = λ tokens ending c. let b = follows.back tokens ending c in
        (b.0, b.1, subst (λ (x : Found). Onward x (front_of l) b.0 ending) (sym e) (invert (front_of l) b.0 ending h b.2));
    bytes = small.0;
    lines = small.1.0;
    columns = small.1.1;
  }

  pub token_follows : (tok : Tok) → 0 < length l.left → found.Token tok n ≡ found_first l.clear l.left →
      Follows source (record (lexer_past l n) { tokens = l.tokens ++ token_at (front_of l) tok n ∷ [] })
  token_follows tok h e = record {
    onward = λ tokens ending c.
        subst (λ (ts : List Token). IsCut (start source) ts ending) (sym (append_assoc l.tokens (token_at (front_of l) tok n ∷ []) tokens))
        (follows.onward (token_at (front_of l) tok n ∷ tokens) ending (build (front_of l) (token_at (front_of l) tok n ∷ tokens) ending h
        (subst (λ (x : Found). Onward x (front_of l) (token_at (front_of l) tok n ∷ tokens) ending) e (tokens, refl, c))));
    back = λ tokens ending c. let b = follows.back tokens ending c in
        let o = subst (λ (x : Found). Onward x (front_of l) b.0 ending) (sym e) (invert (front_of l) b.0 ending h b.2) in
        (o.0, b.1 ∙ ap (λ (ts : List Token). l.tokens ++ ts) o.1 ∙ sym (append_assoc l.tokens (token_at (front_of l) tok n ∷ []) o.0), o.2);
    bytes = small.0;
    lines = small.1.0;
    columns = small.1.1;
  }

-- ---- one step

not_empty : (bs : List ℕ) → is_empty bs ≡ false → 0 < length bs
not_empty [] h = absurd (false≢true (sym h))
not_empty (b ∷ bs) h = omega arith

empty : (bs : List ℕ) → is_empty bs ≡ true → bs ≡ []
empty [] h = refl
empty (b ∷ bs) h = absurd (false≢true h)

abbrev pub Next : List ℕ → Lexer → Result Lexer LexErr → Type 0
Next source l (Ok next) = Follows source next × (length next.left < length l.left)
Next source l (Err e) = Unit {0}

next_by : (source : List ℕ) (l : Lexer) → Follows source l → 0 < length l.left → (f : Found) → f ≡ found_first l.clear l.left → Within (length l.left) f → Next source l (advanced_past l f)
next_by source l follows h (found.Gap n) e w = (gap_follows source l n follows w.1 h e, omega (arith, length-drop n l.left, w.0, h))
next_by source l follows h (found.Token tok n) e w = (token_follows source l n follows w.1 tok h e, omega (arith, length-drop n l.left, w.0, h))
next_by source l follows h (found.Fault kind) e w = tt

pub next_follows : (source : List ℕ) (l next : Lexer) → Follows source l → is_empty l.left ≡ false → advanced l ≡ Ok next → Follows source next × (length next.left < length l.left)
next_follows source l next follows h e =
    let some = not_empty l.left h in
    subst (Next source l) e (next_by source l follows some (found_first l.clear l.left) refl (within l.clear l.left some))

-- where the lexer stops, the cut stops, and there alone
abbrev pub Stuck : List ℕ → Result Lexer LexErr → Type 0
Stuck source (Ok next) = Unit {0}
Stuck source (Err e) = Refuses source e × ((tokens : List Token) (ending : Ending) → IsCut (start source) tokens ending → Answers (Err e) tokens ending)

stuck_at : (source : List ℕ) (l : Lexer) → Follows source l → 0 < length l.left → (kind : LexFault) → found.Fault kind ≡ found_first l.clear l.left →
    StopsAt source kind l.place × ((tokens : List Token) (ending : Ending) → IsCut (start source) tokens ending → ending ≡ stopped kind l.place)
stuck_at source l follows h kind e = (
  record { tokens = l.tokens ++ []; cut = follows.onward [] (stopped kind l.place) (build (front_of l) [] (stopped kind l.place) h (subst (λ (x : Found). Onward x (front_of l) [] (stopped kind l.place)) e (refl, refl))) },
  λ tokens ending c. let b = follows.back tokens ending c in
      (subst (λ (x : Found). Onward x (front_of l) b.0 ending) (sym e) (invert (front_of l) b.0 ending h b.2)).1,
)

stuck_kind : (source : List ℕ) (place : Place) (kind : LexFault) →
    StopsAt source kind place × ((tokens : List Token) (ending : Ending) → IsCut (start source) tokens ending → ending ≡ stopped kind place) → Stuck source (Err (refusal kind place))
stuck_kind source place lex_fault.BadByte s = s
stuck_kind source place lex_fault.OpenComment s = s
stuck_kind source place lex_fault.BadLiteral s = s

stuck_by : (source : List ℕ) (l : Lexer) → Follows source l → 0 < length l.left → (f : Found) → f ≡ found_first l.clear l.left → Stuck source (advanced_past l f)
stuck_by source l follows h (found.Gap n) e = tt
stuck_by source l follows h (found.Token tok n) e = tt
stuck_by source l follows h (found.Fault kind) e = stuck_kind source l.place kind (stuck_at source l follows h kind e)

pub stuck : (source : List ℕ) (l : Lexer) (e : LexErr) → Follows source l → is_empty l.left ≡ false → Gives {A = Lexer} (advanced l) (Err e) → Stuck source (Err e)
stuck source l NoMemory follows h g = (tt, λ tokens ending c. tt)
stuck source l (BadByte place) follows h g = subst (Stuck source) g (stuck_by source l follows (not_empty l.left h) (found_first l.clear l.left) refl)
stuck source l (OpenComment place) follows h g = subst (Stuck source) g (stuck_by source l follows (not_empty l.left h) (found_first l.clear l.left) refl)
stuck source l (BadLiteral place) follows h g = subst (Stuck source) g (stuck_by source l follows (not_empty l.left h) (found_first l.clear l.left) refl)

-- ---- the end

pub ended : (source : List ℕ) (l : Lexer) → Follows source l → is_empty l.left ≡ true → AreTokens source l.tokens
ended source l follows h =
    subst (λ (ts : List Token). AreTokens source ts) (append-nil l.tokens) (follows.onward [] whole (over (front_of l) (empty l.left h)))

pub only_end : (source : List ℕ) (l : Lexer) → Follows source l → is_empty l.left ≡ true → (tokens : List Token) (ending : Ending) → IsCut (start source) tokens ending → (tokens ≡ l.tokens) × (ending ≡ whole)
only_end source l follows h tokens ending c =
    let b = follows.back tokens ending c in
    let o = invert_over (front_of l) b.0 ending (empty l.left h) b.2 in
    (b.1 ∙ ap (λ (ts : List Token). l.tokens ++ ts) o.0 ∙ append-nil l.tokens, o.1)
