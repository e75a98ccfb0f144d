-- A cut goes on from the first piece, and in no other way.
use Rattle.std.proofs.Common.{◌≡◌, ℕ, ◌<◌, ◌≤◌, Bool, List, [], ◌∷◌, ◌++◌, length, take, drop, ap, refl, sym, ◌∙◌, subst, arith, Some, None}
use Rattle.std.proofs.lemmas.List.{take-append-drop, length-take-le}
use Rattle.c_ast.specs.declared.token.Token.{Token}
use Rattle.c_ast.specs.Pieces.{Piece, blank, line_comment, block_comment, open_comment, include_line, word, number, character, text, mark, Spells, Gives, nothing, token, fault, given}
use Rattle.c_ast.specs.Cut.{Front, past, Stands, IsBare, Ending, whole, stopped, token_at, IsCut, over, bare, broken, gap, spelling}
use Rattle.c_lex.specs.declared.found.Found.{Found}
use Rattle.c_lex.specs.declared.found.Found.TheVariants as found
use Rattle.c_lex.specs.First.{Sized, first_piece, found_given, found_sized, found_first}
use Rattle.c_lex.proofs.MarkLemmas.{AtLeast, StandsFirst, lengths}
use Rattle.c_lex.proofs.Longest.{most}
use Rattle.c_lex.proofs.Stands.{first_stands}

abbrev pub sized : Piece → ℕ → Sized
sized piece n = Some (piece, n)

-- the cut goes on behind what was found
abbrev pub Onward : Found → Front → List Token → Ending → Type 0
Onward (found.Gap n) front tokens ending = IsCut (past front n) tokens ending
Onward (found.Token tok n) front tokens ending = (more : List Token) × (tokens ≡ token_at front tok n ∷ more) × IsCut (past front n) more ending
Onward (found.Fault kind) front tokens ending = (tokens ≡ []) × (ending ≡ stopped kind front.place)

-- what was found is within the bytes
abbrev pub Within : ℕ → Found → Type 0
Within len (found.Gap n) = (1 ≤ n) × (n ≤ len)
Within len (found.Token tok n) = (1 ≤ n) × (n ≤ len)
Within len (found.Fault kind) = Unit {0}

within_given : (n len : ℕ) → 1 ≤ n → n ≤ len → (g : Gives) → Within len (found_given n g)
within_given n len some fits nothing = (some, fits)
within_given n len some fits (token tok) = (some, fits)
within_given n len some fits (fault kind) = tt

pub within : (clear : Bool) (bs : List ℕ) → 0 < length bs → Within (length bs) (found_first clear bs)
unfolding found_first
within clear bs h = by_sized (first_piece clear bs) (first_stands clear bs h)
  where
    by_sized : (o : Sized) → StandsFirst clear bs o → Within (length bs) (found_sized bs o)
    by_sized None s = tt
    by_sized (Some (piece, n)) s = within_given n (length bs) s.0 s.1 (given piece (take n bs))

module _ (front : Front) where
  -- every piece that stands first is at most as long as the first one
  none_longer : (piece : Piece) (n : ℕ) → first_piece front.clear front.left ≡ sized piece n →
      (other : Piece) (bs more : List ℕ) → front.left ≡ bs ++ more → Spells front.clear other bs → length bs ≤ n
  none_longer piece n e other bs more q s =
      (subst (AtLeast other (length bs)) (ap (first_piece front.clear) (sym q) ∙ e) (most front.clear other bs more s)).0

  stands : (piece : Piece) (n : ℕ) → first_piece front.clear front.left ≡ sized piece n → StandsFirst front.clear front.left (sized piece n) → Stands front piece n
  stands piece n e s = record { within = s.1; spells = s.2; longest = none_longer piece n e }

  build_given : (piece : Piece) (n : ℕ) (tokens : List Token) (ending : Ending) → Stands front piece n →
      (g : Gives) → given piece (take n front.left) ≡ g → Onward (found_given n g) front tokens ending → IsCut front tokens ending
  build_given piece n tokens ending s nothing e o = gap front piece n s e o
  build_given piece n tokens ending s (token tok) e (more, is, o) = subst (λ (ts : List Token). IsCut front ts ending) (sym is) (spelling front piece n tok s e o)
  build_given piece n tokens ending s (fault kind) e (none, is) =
      subst (λ (ts : List Token). IsCut front ts ending) (sym none) (subst (λ (d : Ending). IsCut front [] d) (sym is) (broken front piece n kind s e))

  -- a cut from behind what was found is one from the front
  pub build : (tokens : List Token) (ending : Ending) → 0 < length front.left → Onward (found_first front.clear front.left) front tokens ending → IsCut front tokens ending
  unfolding found_first
  build tokens ending h = by_sized (first_piece front.clear front.left) refl (first_stands front.clear front.left h)
    where
      not_empty : front.left ≡ [] → ⊥
      not_empty e = let l : length front.left ≡ 0 = ap (length {A = ℕ}) e in omega (arith, l, h)

      by_sized : (o : Sized) → first_piece front.clear front.left ≡ o → StandsFirst front.clear front.left o → Onward (found_sized front.left o) front tokens ending → IsCut front tokens ending
      by_sized None e s (none, is) =
          let b : IsBare front = record { some = not_empty; none = λ piece bs more q p. subst (AtLeast piece (length bs)) (ap (first_piece front.clear) (sym q) ∙ e) (most front.clear piece bs more p) } in
          subst (λ (ts : List Token). IsCut front ts ending) (sym none) (subst (λ (d : Ending). IsCut front [] d) (sym is) (bare front b))
      by_sized (Some (piece, n)) e s o = build_given piece n tokens ending (stands piece n e s) (given piece (take n front.left)) refl o

  -- the longest piece is the first one
  is_first : (piece : Piece) (n : ℕ) → Stands front piece n → 0 < length front.left → first_piece front.clear front.left ≡ sized piece n
  is_first piece n s h = by_sized (first_piece front.clear front.left) refl (first_stands front.clear front.left h)
      (subst (λ bs. AtLeast piece (length (take n front.left)) (first_piece front.clear bs)) (take-append-drop n front.left) (most front.clear piece (take n front.left) (drop n front.left) s.spells))
    where
      by_sized : (o : Sized) → first_piece front.clear front.left ≡ o → StandsFirst front.clear front.left o → AtLeast piece (length (take n front.left)) o → first_piece front.clear front.left ≡ sized piece n
      by_sized None e t a = absurd a
      by_sized (Some (other, k)) e t a =
          let size = length-take-le n front.left s.within in
          let size_k = length-take-le k front.left t.1 in
          let up = s.longest other (take k front.left) (drop k front.left) (sym (take-append-drop k front.left)) t.2 in
          let low = a.0 in
          let same : length (take n front.left) ≡ k = omega (arith, up, size, size_k, low) in
          let len : n ≡ k = omega (arith, same, size) in
          e ∙ ap (λ p. sized p k) (sym (a.1 same)) ∙ ap (sized piece) (sym len)

  nothing_bare : IsBare front → 0 < length front.left → first_piece front.clear front.left ≡ None
  nothing_bare b h = by_sized (first_piece front.clear front.left) (first_stands front.clear front.left h)
    where
      by_sized : (o : Sized) → StandsFirst front.clear front.left o → o ≡ None
      by_sized None s = refl
      by_sized (Some (piece, n)) s = absurd (b.none piece (take n front.left) (drop n front.left) (sym (take-append-drop n front.left)) s.2)

  found_is : (piece : Piece) (n : ℕ) (g : Gives) → Stands front piece n → 0 < length front.left → given piece (take n front.left) ≡ g → found_given n g ≡ found_first front.clear front.left
  unfolding found_first
  found_is piece n g s h e = ap (found_given n) (sym e) ∙ ap (found_sized front.left) (sym (is_first piece n s h))

  found_bare : IsBare front → 0 < length front.left → found_sized front.left None ≡ found_first front.clear front.left
  unfolding found_first
  found_bare b h = ap (found_sized front.left) (sym (nothing_bare b h))

-- a cut from the front goes on behind what was found
pub invert : (front : Front) (tokens : List Token) (ending : Ending) → 0 < length front.left → IsCut front tokens ending → Onward (found_first front.clear front.left) front tokens ending
invert front tokens ending h (over f e) = let l : length f.left ≡ 0 = ap (length {A = ℕ}) e in absurd (omega (arith, l, h))
invert front tokens ending h (bare f b) = subst (λ (x : Found). Onward x f tokens ending) (found_bare f b h) (refl, refl)
invert front tokens ending h (broken f piece n kind s e) = subst (λ (x : Found). Onward x f tokens ending) (found_is f piece n (fault kind) s h e) (refl, refl)
invert front tokens ending h (gap f piece n s e c) = subst (λ (x : Found). Onward x f tokens ending) (found_is f piece n nothing s h e) c
invert front tokens ending h (spelling f piece n tok {tokens = more} s e c) = subst (λ (x : Found). Onward x f tokens ending) (found_is f piece n (token tok) s h e) (more, refl, c)

has_bytes : (bs xs : List ℕ) → bs ≡ xs → 0 < length xs → 0 < length bs
has_bytes bs xs e h = subst (λ (l : List ℕ). 0 < length l) (sym e) h

-- every piece has a byte
some_bytes : (clear : Bool) (piece : Piece) (bs : List ℕ) → Spells clear piece bs → 0 < length bs
some_bytes clear blank bs (b, e, h) = has_bytes bs _ e (omega arith)
some_bytes clear line_comment bs (cs, e, h) = has_bytes bs _ e (omega arith)
some_bytes clear block_comment bs (cs, e, h) = has_bytes bs _ e (omega arith)
some_bytes clear open_comment bs (cs, e, h) = has_bytes bs _ e (omega arith)
some_bytes clear include_line bs (cs, e, h, c) = has_bytes bs _ e (omega arith)
some_bytes clear word bs (b, cs, e, h, w) = has_bytes bs _ e (omega arith)
some_bytes clear number bs (b, cs, e, h, w) = has_bytes bs _ e (omega arith)
some_bytes clear (character value) bs (cs, e, q) = has_bytes bs _ e (omega arith)
some_bytes clear (text values) bs (cs, e, q) = has_bytes bs _ e (omega arith)
some_bytes clear (mark m) bs e = has_bytes bs _ e (lengths m).0

-- nothing is left
nothing_left : (front : Front) (piece : Piece) (n : ℕ) → front.left ≡ [] → Stands front piece n → ⊥
nothing_left front piece n e s =
    let some = some_bytes front.clear piece (take n front.left) s.spells in
    let size = length-take-le n front.left s.within in
    let w = s.within in
    let l : length front.left ≡ 0 = ap (length {A = ℕ}) e in
    omega (arith, some, size, w, l)

pub invert_over : (front : Front) (tokens : List Token) (ending : Ending) → front.left ≡ [] → IsCut front tokens ending → (tokens ≡ []) × (ending ≡ whole)
invert_over front tokens ending e (over f o) = (refl, refl)
invert_over front tokens ending e (bare f b) = absurd (b.some e)
invert_over front tokens ending e (broken f piece n kind s g) = absurd (nothing_left f piece n e s)
invert_over front tokens ending e (gap f piece n s g c) = absurd (nothing_left f piece n e s)
invert_over front tokens ending e (spelling f piece n tok s g c) = absurd (nothing_left f piece n e s)
