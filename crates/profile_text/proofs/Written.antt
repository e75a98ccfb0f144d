-- The lines of counts that match a program fit the grammar, match it, and give these counts.
use Rattle.std.proofs.Common.{◌≡◌, ℕ, ◌<◌, ◌^◌, Bool, true, false, suc, List, [], ◌∷◌, ◌++◌, length, refl, sym, ap, ◌∙◌, subst, arith, append_assoc, Option, Some, None, map, codes}
use Rattle.std.specs.Prelude.{if◌then◌else◌, ◌==◌, ◌&&◌, ◌||◌, nat_lt, bytes_eq, decimal}
use Rattle.std.specs.List.{All, list_all}
use Rattle.std.proofs.lemmas.Bool.Decides.{nat_tests}
use Rattle.std.proofs.lemmas.Slice.Eq.{bytes_eq-Decides}
use Rattle.tac_core.specs.declared.code.TacFunc.{TacFunc}
use Rattle.tac_core.specs.declared.edges.Edge as counted
use Rattle.tac_core.specs.declared.counts.FuncCounts.{FuncCounts}
use Rattle.tac_core.specs.Counts.{IsCount}
use Rattle.tac_core.specs.Rules.{is_letter, is_digit, IsName}
use Rattle.profile_text.specs.declared.line.Line.{Line}
use Rattle.profile_text.specs.declared.line.Line.TheVariants.{Func, Edge}
use Rattle.profile_text.specs.Numbers.{number_of}
use Rattle.profile_text.specs.Lines.{parts, is_name, is_count, header_line, end_line, func_of, edge_of, line_of_fields, line_of}
use Rattle.profile_text.specs.Grammar.{may_follow, is_open, malformed_from}
use Rattle.profile_text.specs.Matching.{mismatch_from, is_func, front, edges_in, counts_in}
use Rattle.profile_text.specs.ProfileText.{spaced, ended, edge_line, func_line, funcs_lines, profile_lines}
use Rattle.profile_text.proofs.Lists.{all_first, all_rest}
use Rattle.profile_text.proofs.Names.{name_decided}
use Rattle.profile_text.proofs.Parts.{Some_parts, step, front_more}
use Rattle.profile_text.proofs.Spelling.{number_read, Lacks, parts_whole, parts_behind, lacks_append, decimal_lacks, and_both, and_first, and_second}
use Rattle.profile_text.proofs.Good.{IsGoodEdge, edge_has, line_of_edge, Steps, steps_first, AreGood}
use Rattle.profile_text.proofs.Whole.{closing, Small}

-- ---- names

abbrev name_byte : ℕ → Bool
name_byte c = is_letter c || is_digit c

apart : (c s : ℕ) → s < 48 → name_byte c ≡ true → (c == s) ≡ false
apart c s low h = grind (arith, nat_tests)

letter_apart : (c s : ℕ) → s < 48 → is_letter c ≡ true → (c == s) ≡ false
letter_apart c s low h = grind (arith, nat_tests)

bytes_lack : (s : ℕ) (bs : List ℕ) → s < 48 → list_all (λ c. is_letter c || is_digit c) bs ≡ true → Lacks s bs
bytes_lack s [] low h = tt
bytes_lack s (b ∷ bs) low h = (apart b s low (and_first (name_byte b) (list_all (λ c. is_letter c || is_digit c) bs) h), bytes_lack s bs low (and_second (name_byte b) (list_all (λ c. is_letter c || is_digit c) bs) h))

name_lacks : (s : ℕ) (bs : List ℕ) → s < 48 → is_name bs ≡ true → Lacks s bs
name_lacks s [] low h = absurd (cc)
name_lacks s (b ∷ bs) low h = (letter_apart b s low (and_first (is_letter b) (list_all (λ c. is_letter c || is_digit c) bs) h), bytes_lack s bs low (and_second (is_letter b) (list_all (λ c. is_letter c || is_digit c) bs) h))

-- ---- lines

four_parts : (a b c d : List ℕ) → Lacks 32 a → Lacks 32 b → Lacks 32 c → Lacks 32 d → parts 32 (spaced (a ∷ b ∷ c ∷ d ∷ [])) ≡ a ∷ b ∷ c ∷ d ∷ []
four_parts a b c d la lb lc ld =
    parts_behind 32 a (b ++ 32 ∷ (c ++ 32 ∷ d)) la ∙ ap (λ x. a ∷ x) (parts_behind 32 b (c ++ 32 ∷ d) lb ∙ ap (λ x. b ∷ x) (parts_behind 32 c d lc ∙ ap (λ x. c ∷ x) (parts_whole 32 d ld)))

four_lack : (s : ℕ) (a b c d : List ℕ) → (32 == s) ≡ false → Lacks s a → Lacks s b → Lacks s c → Lacks s d → Lacks s (spaced (a ∷ b ∷ c ∷ d ∷ []))
four_lack s a b c d space la lb lc ld =
    lacks_append s a (32 ∷ (b ++ 32 ∷ (c ++ 32 ∷ d))) la (space, lacks_append s b (32 ∷ (c ++ 32 ∷ d)) lb (space, lacks_append s c (32 ∷ d) lc (space, ld)))

func_fields : (a b c : List ℕ) (m n : ℕ) → number_of b ≡ Some m → number_of c ≡ Some n → (is_name a && is_count n) ≡ true → line_of_fields (codes "func" ∷ a ∷ b ∷ c ∷ []) ≡ Func a m n
func_fields a b c m n eb ec good = ap (λ x. func_of a x (number_of c)) eb ∙ ap (λ x. func_of a (Some m) x) ec ∙ rw good refl

edge_fields : (a b c : List ℕ) (l m n : ℕ) → number_of a ≡ Some l → number_of b ≡ Some m → number_of c ≡ Some n → (nat_lt 0 n && is_count n) ≡ true → line_of_fields (codes "edge" ∷ a ∷ b ∷ c ∷ []) ≡ Edge l m n
edge_fields a b c l m n ea eb ec good = ap (λ x. edge_of x (number_of b) (number_of c)) ea ∙ ap (λ x. edge_of (Some l) x (number_of c)) eb ∙ ap (λ x. edge_of (Some l) (Some m) x) ec ∙ rw good refl

small_count : (n : ℕ) → IsCount n → is_count n ≡ true
small_count n h = grind (arith, nat_tests)

none_below : (n : ℕ) → 0 < n → nat_lt 0 n ≡ true
none_below n h = grind (arith, nat_tests)

pub func_said : (f : TacFunc) (c : FuncCounts) → IsName f.name → length f.blocks < 2 ^ 64 → IsCount c.entries → line_of (func_line f c) ≡ Func f.name (length f.blocks) c.entries
func_said f c named small few =
    let name = (name_decided f.name).1 named in
    ap line_of_fields (four_parts (codes "func") f.name (decimal (length f.blocks)) (decimal c.entries) (refl, (refl, (refl, (refl, tt)))) (name_lacks 32 f.name (omega arith) name) (decimal_lacks 32 (length f.blocks) (omega arith) small) (decimal_lacks 32 c.entries (omega arith) (omega arith)))
    ∙ func_fields f.name (decimal (length f.blocks)) (decimal c.entries) (length f.blocks) c.entries (number_read (length f.blocks) small) (number_read c.entries (omega arith)) (and_both (is_name f.name) (is_count c.entries) name (small_count c.entries few))

pub edge_said : (f : TacFunc) (e : counted.Edge) → IsGoodEdge f e → line_of (edge_line e) ≡ line_of_edge e
edge_said f e good =
    let few : e.count < 2 ^ 64 = omega (arith, good.counted.1) in
    let a : e.from < 2 ^ 64 = omega (arith, good.labels.0) in
    let b : e.to < 2 ^ 64 = omega (arith, good.labels.1) in
    ap line_of_fields (four_parts (codes "edge") (decimal e.from) (decimal e.to) (decimal e.count) (refl, (refl, (refl, (refl, tt)))) (decimal_lacks 32 e.from (omega arith) a) (decimal_lacks 32 e.to (omega arith) b) (decimal_lacks 32 e.count (omega arith) few))
    ∙ edge_fields (decimal e.from) (decimal e.to) (decimal e.count) e.from e.to e.count (number_read e.from a) (number_read e.to b) (number_read e.count few) (and_both (nat_lt 0 e.count) (is_count e.count) (none_below e.count good.counted.0) (small_count e.count good.counted.1))

func_ends : (f : TacFunc) (c : FuncCounts) → IsName f.name → length f.blocks < 2 ^ 64 → IsCount c.entries → Lacks 10 (func_line f c)
func_ends f c named small few =
    four_lack 10 (codes "func") f.name (decimal (length f.blocks)) (decimal c.entries) refl (refl, (refl, (refl, (refl, tt)))) (name_lacks 10 f.name (omega arith) ((name_decided f.name).1 named)) (decimal_lacks 10 (length f.blocks) (omega arith) small) (decimal_lacks 10 c.entries (omega arith) (omega arith))

edge_ends : (f : TacFunc) (e : counted.Edge) → IsGoodEdge f e → Lacks 10 (edge_line e)
edge_ends f e good =
    let few : e.count < 2 ^ 64 = omega (arith, good.counted.1) in
    let a : e.from < 2 ^ 64 = omega (arith, good.labels.0) in
    let b : e.to < 2 ^ 64 = omega (arith, good.labels.1) in
    four_lack 10 (codes "edge") (decimal e.from) (decimal e.to) (decimal e.count) refl (refl, (refl, (refl, (refl, tt)))) (decimal_lacks 10 e.from (omega arith) a) (decimal_lacks 10 e.to (omega arith) b) (decimal_lacks 10 e.count (omega arith) few)

-- ---- the parts of the text

parts_line : (line : List ℕ) (lines : List (List ℕ)) → Lacks 10 line → parts 10 (ended lines) ≡ lines ++ [] ∷ [] → parts 10 (ended (line ∷ lines)) ≡ (line ∷ lines) ++ [] ∷ []
parts_line line lines lacks so = parts_behind 10 line (ended lines) lacks ∙ ap (λ x. line ∷ x) so

parts_edges : (f : TacFunc) (es : List counted.Edge) (lines : List (List ℕ)) → All (IsGoodEdge f) es → parts 10 (ended lines) ≡ lines ++ [] ∷ [] → parts 10 (ended (map edge_line es ++ lines)) ≡ (map edge_line es ++ lines) ++ [] ∷ []
parts_edges f [] lines good so = so
parts_edges f (e ∷ es) lines good so = parts_line (edge_line e) (map edge_line es ++ lines) (edge_ends f e (all_first (IsGoodEdge f) e es good)) (parts_edges f es lines (all_rest (IsGoodEdge f) e es good) so)

abbrev pub Named : List TacFunc → Type 0
Named fs = All (λ f. IsName f.name) fs

parts_funcs : (fs : List TacFunc) (cs : List FuncCounts) → AreGood fs cs → Named fs → Small fs → parts 10 (ended (funcs_lines fs cs ++ end_line ∷ [])) ≡ (funcs_lines fs cs ++ end_line ∷ []) ++ [] ∷ []
parts_funcs [] cs good named small = refl
parts_funcs (f ∷ fs) [] good named small = refl
parts_funcs (f ∷ fs) (c ∷ cs) good named small =
    let more = parts_funcs fs cs good.1 (all_rest (λ f. IsName f.name) f fs named) (all_rest (λ f. length f.blocks < 2 ^ 64) f fs small) in
    let inner = parts_edges f c.edges (funcs_lines fs cs ++ end_line ∷ []) good.0.edges more in
    let shape : map edge_line c.edges ++ (funcs_lines fs cs ++ end_line ∷ []) ≡ (map edge_line c.edges ++ funcs_lines fs cs) ++ end_line ∷ [] = sym (append_assoc (map edge_line c.edges) (funcs_lines fs cs) (end_line ∷ [])) in
    parts_line (func_line f c) ((map edge_line c.edges ++ funcs_lines fs cs) ++ end_line ∷ []) (func_ends f c (all_first (λ f. IsName f.name) f fs named) (all_first (λ f. length f.blocks < 2 ^ 64) f fs small) good.0.counts.entered)
    (ap (λ x. parts 10 (ended x)) (sym shape) ∙ inner ∙ ap (λ x. x ++ [] ∷ []) shape)

pub parts_profile : (fs : List TacFunc) (cs : List FuncCounts) → AreGood fs cs → Named fs → Small fs → parts 10 (ended (profile_lines fs cs)) ≡ profile_lines fs cs ++ [] ∷ []
parts_profile fs cs good named small =
    parts_behind 10 header_line (ended (funcs_lines fs cs ++ end_line ∷ [])) (refl, (refl, (refl, (refl, (refl, (refl, (refl, (refl, (refl, (refl, (refl, (refl, (refl, (refl, (refl, (refl, (refl, tt)))))))))))))))))
    ∙ ap (λ x. header_line ∷ x) (parts_funcs fs cs good named small)

-- ---- what they say

-- the pieces fit and match, and give these edges and counts
pub record IsTaken (n m : ℕ) (before : Option Line) (f : Option TacFunc) (fs : List TacFunc) (pieces : List (List ℕ)) (es : List counted.Edge) (cs : List FuncCounts) : Type 0 where
  pub fits : malformed_from n before pieces ≡ None
  pub matches : mismatch_from m f fs (map line_of (front pieces)) ≡ None
  pub edges : edges_in (map line_of (front pieces)) ≡ es
  pub counts : counts_in (map line_of (front pieces)) ≡ cs
  pub some : Some_parts pieces

-- one line more in front
abbrev Front : (piece : List ℕ) (line : Line) (pieces : List (List ℕ)) → Type 0
Front piece line pieces = map line_of (front (piece ∷ pieces)) ≡ line ∷ map line_of (front pieces)

in_front : (piece : List ℕ) (line : Line) (pieces : List (List ℕ)) → line_of piece ≡ line → Some_parts pieces → Front piece line pieces
in_front piece line pieces e some = front_more piece pieces some ∙ ap (λ x. x ∷ map line_of (front pieces)) e

fits_front : (n : ℕ) (before : Option Line) (piece : List ℕ) (line : Line) (pieces : List (List ℕ)) → line_of piece ≡ line → Some_parts pieces → may_follow before line ≡ true → malformed_from (suc n) (Some line) pieces ≡ None → malformed_from n before (piece ∷ pieces) ≡ None
fits_front n before piece line pieces e some may rest =
    step n before piece pieces some ∙ ap (λ l. if may_follow before l then malformed_from (suc n) (Some l) pieces else Some n) e ∙ rw may rest

same_text : (a : List ℕ) → bytes_eq a a ≡ true
same_text a = (bytes_eq-Decides a a).1 refl

same_blocks : (k : ℕ) → (k == k) ≡ true
same_blocks k = grind (arith, nat_tests)

func_matches : (m : ℕ) (f : Option TacFunc) (g : TacFunc) (fs : List TacFunc) (e : ℕ) (lines : List Line) → mismatch_from (suc m) (Some g) fs lines ≡ None → mismatch_from m f (g ∷ fs) (Func g.name (length g.blocks) e ∷ lines) ≡ None
func_matches m f g fs e lines rest =
    let t : is_func g g.name (length g.blocks) ≡ true = and_both (bytes_eq g.name g.name) (length g.blocks == length g.blocks) (same_text g.name) (same_blocks (length g.blocks)) in
    rw t rest

edge_matches : (m : ℕ) (f : TacFunc) (fs : List TacFunc) (e : counted.Edge) (lines : List Line) → IsGoodEdge f e → mismatch_from (suc m) (Some f) fs lines ≡ None → mismatch_from m (Some f) fs (line_of_edge e ∷ lines) ≡ None
edge_matches m f fs e lines good rest = rw (edge_has f e good) rest

open_behind_edge : (before : Option Line) (e : counted.Edge) → is_open (Some (line_of_edge e)) ≡ true
open_behind_edge before e = refl

edges_taken : (n m : ℕ) (before : Option Line) (f : TacFunc) (fs : List TacFunc) (es : List counted.Edge) (tail : List (List ℕ)) (cs : List FuncCounts) → is_open before ≡ true → All (IsGoodEdge f) es → Steps before es → ((n m : ℕ) (before : Option Line) (f : Option TacFunc) → is_open before ≡ true → IsTaken n m before f fs tail [] cs) → IsTaken n m before (Some f) fs (map edge_line es ++ tail) es cs
edges_taken n m before f fs [] tail cs op good steps rest = rest n m before (Some f) op
edges_taken n m before f fs (e ∷ es) tail cs op good steps rest =
    let more = edges_taken (suc n) (suc m) (Some (line_of_edge e)) f fs es tail cs refl (all_rest (IsGoodEdge f) e es good) steps.1 rest in
    let first = all_first (IsGoodEdge f) e es good in
    let says = edge_said f e first in
    let pieces = map edge_line es ++ tail in
    let lines = in_front (edge_line e) (line_of_edge e) pieces says more.some in
    record {
      fits = fits_front n before (edge_line e) (line_of_edge e) pieces says more.some steps.0 more.fits;
      matches = ap (mismatch_from m (Some f) fs) lines ∙ edge_matches m f fs e (map line_of (front pieces)) first more.matches;
      edges = ap edges_in lines ∙ ap (λ x. e ∷ x) more.edges;
      counts = ap counts_in lines ∙ more.counts;
      some = record { first = edge_line e; rest = pieces; are = refl };
    }

end_taken : (n m : ℕ) (before : Option Line) (f : Option TacFunc) → is_open before ≡ true → IsTaken n m before f [] closing [] []
end_taken n m before f op = record { fits = rw op refl; matches = refl; edges = refl; counts = refl; some = record { first = end_line; rest = [] ∷ []; are = refl } }

pub funcs_taken : (fs : List TacFunc) (cs : List FuncCounts) → AreGood fs cs → Named fs → Small fs → (n m : ℕ) (before : Option Line) (f : Option TacFunc) → is_open before ≡ true → IsTaken n m before f fs (funcs_lines fs cs ++ closing) [] cs
funcs_taken [] [] good named small n m before f op = end_taken n m before f op
funcs_taken [] (c ∷ cs) good named small n m before f op = absurd good
funcs_taken (g ∷ fs) [] good named small n m before f op = absurd good
funcs_taken (g ∷ fs) (c ∷ cs) good named small n m before f op =
    let line = Func g.name (length g.blocks) c.entries in
    let rest = funcs_taken fs cs good.1 (all_rest (λ f. IsName f.name) g fs named) (all_rest (λ f. length f.blocks < 2 ^ 64) g fs small) in
    let tail = funcs_lines fs cs ++ closing in
    let pieces = map edge_line c.edges ++ tail in
    let inner = edges_taken (suc n) (suc m) (Some line) g fs c.edges tail cs refl good.0.edges (steps_first (Some line) c.edges (λ a b. refl) good.0.counts.rise) rest in
    let shape : func_line g c ∷ pieces ≡ funcs_lines (g ∷ fs) (c ∷ cs) ++ closing = ap (λ x. func_line g c ∷ x) (sym (append_assoc (map edge_line c.edges) (funcs_lines fs cs) closing)) in
    let says = func_said g c (all_first (λ f. IsName f.name) g fs named) (all_first (λ f. length f.blocks < 2 ^ 64) g fs small) good.0.counts.entered in
    let lines = in_front (func_line g c) line pieces says inner.some in
    let here : IsTaken n m before f (g ∷ fs) (func_line g c ∷ pieces) [] (c ∷ cs) = record {
      fits = fits_front n before (func_line g c) line pieces says inner.some op inner.fits;
      matches = ap (mismatch_from m f (g ∷ fs)) lines ∙ func_matches m f g fs c.entries (map line_of (front pieces)) inner.matches;
      edges = ap edges_in lines;
      counts = ap counts_in lines ∙ ap (λ x. record { entries = c.entries; edges = x } ∷ counts_in (map line_of (front pieces))) inner.edges ∙ ap (λ x. c ∷ x) inner.counts;
      some = record { first = func_line g c; rest = pieces; are = refl };
    } in
    subst (λ x. IsTaken n m before f (g ∷ fs) x [] (c ∷ cs)) shape here
