-- The loop over items comes to the syntax place, and each syntax place is where it comes to.
use Rattle.std.proofs.Common.{◌≡◌, ℕ, zero, suc, ◌<◌, ◌≤◌, Bool, true, false, ◌&&◌, List, [], ◌∷◌, length, Some, None, IfSome, ◌⊎◌, inl, inr, refl, sym, ◌∙◌, subst, arith}
use Rattle.std.proofs.lemmas.Bool.{cases_Bool}
use Rattle.je_token.specs.declared.symbol.Symbol.TheVariants as symbol
use Rattle.je_token.specs.declared.token.Token.{Token}
use Rattle.je_token.specs.declared.token.TokenKind.{TokenKind}
use Rattle.je_token.specs.declared.token.TokenKind.TheVariants as kind
use Rattle.je_grammar.specs.Tokens.{Is, it_is, IsSymbol}
use Rattle.je_grammar.specs.Place.{Context, HasBracket, of_body, of_constructor, of_block, Reads, an_import, first_declaration, first_semicolon, a_declaration, semicolon_between, a_member, semicolon_in_body, a_constructor_invocation, first_statement, a_statement, IsStuck, Opens, ReadsAll, at_bracket, read, FailsAt, behind_item, unreadable, inside, too_high}
use Rattle.je_grammar.specs.Place as context
use Rattle.parse_laws.specs.way.Tokens.{is_symbol}
use Rattle.parse_laws.specs.way.Place.{Step, has_bracket, item_at, opening_at, follow_at, place_at}
use Rattle.parse_laws.proofs.Fronts.{Front, front}
use Rattle.expression_laws.proofs.Primaries.{front_of}
use Rattle.place_laws.specs.way.Ends.{kind_ends, ends}
use Rattle.place_laws.specs.Laws.{HasEnd, ends_here, ends_later}
use Rattle.place_laws.proofs.Items.{item_sound, item_exact, reads_leave}
use Rattle.place_laws.proofs.Heads.{opening_sound, opening_exact}
use Rattle.place_laws.proofs.Opened.{opens_leave, opens_bracket}

brackets : {x : Context} → HasBracket x → has_bracket x ≡ true
brackets of_body = refl
brackets of_constructor = refl
brackets of_block = refl

bracket_of : (x : Context) → has_bracket x ≡ true → HasBracket x
bracket_of context.imports e = absurd cc
bracket_of context.declarations e = absurd cc
bracket_of context.members e = of_body
bracket_of context.constructor_body e = of_constructor
bracket_of context.statements e = of_block

both : (a b : Bool) → (a && b) ≡ true → (a ≡ true) × (b ≡ true)
both true b e = (refl, e)
both false b e = absurd cc

not_both : (a b : Bool) → b ≡ false → (a && b) ≡ false
not_both true b e = e
not_both false b e = refl

end_counted : {t : Token} (rest : List Token) → Is kind.End t → 0 < ends (t ∷ rest)
end_counted rest it_is = omega arith

end_before : (t : Token) (rest : List Token) → 0 < ends rest → 0 < ends (t ∷ rest)
end_before t rest e = go t.kind
  where
    go : (k : TokenKind) → 0 < kind_ends k (ends rest)
    go kind.End = omega arith
    go _ = e

bracket_seen : {t : Token} (ts : List Token) → IsSymbol symbol.CloseBrace t → is_symbol symbol.CloseBrace (t ∷ ts) ≡ true
bracket_seen ts it_is = refl

clash : (a b : Bool) → a ≡ true → b ≡ true → ¬ ((a && b) ≡ false)
clash a b e f g = let h : (a && b) ≡ true = rw (e, f) refl in cc

pub has_end : {ts : List Token} → HasEnd ts → 0 < ends ts
has_end (ends_here {rest = rest} i) = end_counted rest i
has_end (ends_later {t = t} {rest} h) = end_before t rest (has_end h)

module _ (names texts : List (List ℕ)) (most : ℕ) where
  keeps_bracket : {x y : Context} {ts rest : List Token} → Reads names texts most x y ts rest → HasBracket y → HasBracket x
  keeps_bracket (an_import w d c) h = h
  keeps_bracket (first_declaration l) h = elim h [ ]
  keeps_bracket (first_semicolon k) h = elim h [ ]
  keeps_bracket (a_declaration l) h = h
  keeps_bracket (semicolon_between k) h = h
  keeps_bracket (a_member l) h = h
  keeps_bracket (semicolon_in_body k) h = h
  keeps_bracket (a_constructor_invocation s low) h = of_constructor
  keeps_bracket (first_statement l) h = of_constructor
  keeps_bracket (a_statement l) h = h

  gives_bracket : {x y : Context} {ts rest : List Token} → Reads names texts most x y ts rest → HasBracket x → HasBracket y
  gives_bracket (an_import w d c) h = h
  gives_bracket (first_declaration l) h = elim h [ ]
  gives_bracket (first_semicolon k) h = elim h [ ]
  gives_bracket (a_declaration l) h = h
  gives_bracket (semicolon_between k) h = h
  gives_bracket (a_member l) h = h
  gives_bracket (semicolon_in_body k) h = h
  gives_bracket (a_constructor_invocation s low) h = of_block
  gives_bracket (first_statement l) h = of_block
  gives_bracket (a_statement l) h = h

  -- ---- nothing is read, nothing is opened

  stuck : (x : Context) (ts : List Token) → item_at names texts most x ts ≡ None → IsStuck names texts most x ts
  stuck x ts e y rest r = let a = sym e ∙ item_exact names texts most r in cc

  shut : (x : Context) (ts : List Token) → opening_at names texts most x ts ≡ None → (y : Context) (inner : List Token) → ¬ Opens names texts most x y ts inner
  shut x ts e y inner o = let a = sym e ∙ opening_exact names texts most o in cc

  none_of : (P : Context × List Token → Type 0) (o : Step) → IfSome o P → ((y : Context) (rest : List Token) → ¬ P (y, rest)) → o ≡ None
  none_of P (Some y) h f = absurd (f y.0 y.1 h)
  none_of P None h f = refl

  no_item : (x : Context) (ts : List Token) → IsStuck names texts most x ts → item_at names texts most x ts ≡ None
  no_item x ts s = none_of (λ y. Reads names texts most x y.0 ts y.1) (item_at names texts most x ts) (item_sound names texts most x ts) s

  no_opening : (x : Context) (ts : List Token) → ((y : Context) (inner : List Token) → ¬ Opens names texts most x y ts inner) → opening_at names texts most x ts ≡ None
  no_opening x ts s = none_of (λ y. Opens names texts most x y.0 ts y.1) (opening_at names texts most x ts) (opening_sound names texts most x ts) s

  -- ---- turns of the loop

  pub at_end : (n : ℕ) (x : Context) (was ts : List Token) → (has_bracket x && is_symbol symbol.CloseBrace ts) ≡ true → follow_at names texts most (suc n) x was ts ≡ was
  unfolding follow_at
  at_end n x was ts e = rw e refl

  pub reads_on : (n : ℕ) (x : Context) (was ts : List Token) {y : Context} {rest : List Token} → (has_bracket x && is_symbol symbol.CloseBrace ts) ≡ false → item_at names texts most x ts ≡ Some (y, rest) → follow_at names texts most (suc n) x was ts ≡ follow_at names texts most n y was rest
  unfolding follow_at
  reads_on n x was ts e f = rw (e, f) refl

  pub opens_on : (n : ℕ) (x : Context) (was ts : List Token) {y : Context} {inner : List Token} → (has_bracket x && is_symbol symbol.CloseBrace ts) ≡ false → item_at names texts most x ts ≡ None → opening_at names texts most x ts ≡ Some (y, inner) →
      follow_at names texts most (suc n) x was ts ≡ follow_at names texts most n y ts inner
  unfolding follow_at
  opens_on n x was ts e f g = rw (e, f, g) refl

  pub stops_here : (n : ℕ) (x : Context) (was ts : List Token) → (has_bracket x && is_symbol symbol.CloseBrace ts) ≡ false → item_at names texts most x ts ≡ None → opening_at names texts most x ts ≡ None → follow_at names texts most (suc n) x was ts ≡ ts
  unfolding follow_at
  stops_here n x was ts e f g = rw (e, f, g) refl

  -- ---- where the loop comes to is the place

  -- it fails there, or all is read up to the `}`
  abbrev Comes : Context → List Token → List Token → List Token → Type 0
  Comes x was ts place = FailsAt names texts most x ts place ⊎ ((place ≡ was) × ReadsAll names texts most x ts × HasBracket x)

  bracket_comes : (x : Context) (was ts : List Token) → has_bracket x ≡ true → is_symbol symbol.CloseBrace ts ≡ true → Comes x was ts was
  bracket_comes x was ts a b = inr (refl, go (front_of (kind.Symbol symbol.CloseBrace) ts b).1, bracket_of x a)
    where
      go : {us rest : List Token} → Front (kind.Symbol symbol.CloseBrace) us rest → ReadsAll names texts most x us
      go (front c) = at_bracket c

  behind : {x y : Context} {was ts rest place : List Token} → Reads names texts most x y ts rest → Comes y was rest place → Comes x was ts place
  behind r (inl f) = inl (behind_item r f)
  behind r (inr g) = inr (g.0, read r g.1, keeps_bracket r g.2)

  within : {x y : Context} {was ts inner place : List Token} → IsStuck names texts most x ts → Opens names texts most x y ts inner → Comes y ts inner place → Comes x was ts place
  within s o (inl f) = inl (inside s o f)
  within {x} {ts = ts} s o (inr g) = inl (subst (λ q. FailsAt names texts most x ts q) (sym g.0) (too_high s o g.1))

  stops : (x : Context) (was : List Token) (t : Token) (ts : List Token) → (has_bracket x && is_symbol symbol.CloseBrace (t ∷ ts)) ≡ false → item_at names texts most x (t ∷ ts) ≡ None → opening_at names texts most x (t ∷ ts) ≡ None → Comes x was (t ∷ ts) (t ∷ ts)
  stops x was t ts e f g = inl (unreadable (stuck x (t ∷ ts) f) (shut x (t ∷ ts) g) (λ h c. clash (has_bracket x) (is_symbol symbol.CloseBrace (t ∷ ts)) (brackets h) (bracket_seen ts c) e))

  -- what the rest of the turns come to
  abbrev Turns : ℕ → Type 0
  Turns n = (x : Context) (was ts : List Token) → length ts ≤ n → 0 < ends ts → Comes x was ts (follow_at names texts most n x was ts)

  last : (x : Context) (was ts : List Token) → (has_bracket x && is_symbol symbol.CloseBrace ts) ≡ false → 0 < ends ts → item_at names texts most x ts ≡ None → opening_at names texts most x ts ≡ None → Comes x was ts ts
  last x was [] b i f g = absurd (omega arith)
  last x was (t ∷ ts) b i f g = stops x was t ts b f g

  open_turn : (n : ℕ) → Turns n → (x : Context) (was ts : List Token) → length ts ≤ suc n → 0 < ends ts → (has_bracket x && is_symbol symbol.CloseBrace ts) ≡ false → item_at names texts most x ts ≡ None →
      (o : Step) → opening_at names texts most x ts ≡ o → IfSome o (λ y. Opens names texts most x y.0 ts y.1) → Comes x was ts (follow_at names texts most (suc n) x was ts)
  open_turn n more x was ts le e b f (Some y) g o = let l = opens_leave names texts most o in let s = l.shorter in let d = l.ended in
      rw (opens_on n x was ts b f g) (within (stuck x ts f) o (more y.0 ts y.1 (omega arith) (omega arith)))
  open_turn n more x was ts le e b f None g o = rw (stops_here n x was ts b f g) (last x was ts b e f g)

  turn : (n : ℕ) → Turns n → (x : Context) (was ts : List Token) → length ts ≤ suc n → 0 < ends ts → (has_bracket x && is_symbol symbol.CloseBrace ts) ≡ false →
      (o : Step) → item_at names texts most x ts ≡ o → IfSome o (λ y. Reads names texts most x y.0 ts y.1) → Comes x was ts (follow_at names texts most (suc n) x was ts)
  turn n more x was ts le e b (Some y) f r = let l = reads_leave names texts most r in let s = l.shorter in let d = l.ended in
      rw (reads_on n x was ts b f) (behind r (more y.0 was y.1 (omega arith) (omega arith)))
  turn n more x was ts le e b None f r = open_turn n more x was ts le e b f (opening_at names texts most x ts) refl (opening_sound names texts most x ts)

  pub comes : (n : ℕ) (x : Context) (was ts : List Token) → length ts ≤ n → 0 < ends ts → Comes x was ts (follow_at names texts most n x was ts)
  comes zero x was [] le e = absurd (omega arith)
  comes zero x was (t ∷ ts) le e = absurd (omega arith)
  comes (suc n) x was ts le e = elim (cases_Bool (has_bracket x && is_symbol symbol.CloseBrace ts)) [
    | inl b ↦ let a = both (has_bracket x) (is_symbol symbol.CloseBrace ts) b in rw (at_end n x was ts b) (bracket_comes x was ts a.0 a.1)
    | inr b ↦ turn n (λ y w us l i. comes n y w us l i) x was ts le e b (item_at names texts most x ts) refl (item_sound names texts most x ts)
  ]

  no_bracket_file : (ts was place : List Token) → Comes context.imports was ts place → FailsAt names texts most context.imports ts place
  no_bracket_file ts was place (inl f) = f
  no_bracket_file ts was place (inr g) = absurd (elim g.2 [ ])

  pub place_found : (ts : List Token) → HasEnd ts → FailsAt names texts most context.imports ts (place_at names texts most ts)
  unfolding place_at
  place_found ts h = no_bracket_file ts ts _ (comes (length ts) context.imports ts ts (omega arith) (has_end h))

  -- ---- each place is where it comes to

  no_end_here : (x : Context) (t : Token) (ts : List Token) → (HasBracket x → ¬ IsSymbol symbol.CloseBrace t) → (has_bracket x && is_symbol symbol.CloseBrace (t ∷ ts)) ≡ false
  no_end_here x t ts b = elim (cases_Bool (has_bracket x && is_symbol symbol.CloseBrace (t ∷ ts))) [
    | inl e ↦ let a = both (has_bracket x) (is_symbol symbol.CloseBrace (t ∷ ts)) e in absurd (b (bracket_of x a.0) (symbol_of ts a.1))
    | inr e ↦ e
  ]
    where
      go : {us rest : List Token} → Front (kind.Symbol symbol.CloseBrace) (t ∷ us) rest → IsSymbol symbol.CloseBrace t
      go (front c) = c

      symbol_of : (us : List Token) → is_symbol symbol.CloseBrace (t ∷ us) ≡ true → IsSymbol symbol.CloseBrace t
      symbol_of us e = go (front_of (kind.Symbol symbol.CloseBrace) (t ∷ us) e).1

  mutual
    pub follows : (n : ℕ) {x : Context} (was : List Token) {ts place : List Token} → FailsAt names texts most x ts place → length ts ≤ n → follow_at names texts most n x was ts ≡ place
    follows zero was (behind_item r f) le = absurd (let s = (reads_leave names texts most r).shorter in omega arith)
    follows zero was (unreadable s o b) le = absurd (omega arith)
    follows zero was (inside s o f) le = absurd (let l = (opens_leave names texts most o).shorter in omega arith)
    follows zero was (too_high s o a) le = absurd (let l = (opens_leave names texts most o).shorter in omega arith)
    follows (suc n) {x} was {ts} (behind_item {rest = rest} r f) le =
        let l = reads_leave names texts most r in
        reads_on n x was ts (not_both (has_bracket x) (is_symbol symbol.CloseBrace ts) l.no_bracket) (item_exact names texts most r) ∙ follows n was f (let s = l.shorter in omega arith)
    follows (suc n) {x} was {ts} (unreadable {t = t} {ts = us} s o b) le =
        stops_here n x was ts (no_end_here x t us b) (no_item x ts s) (no_opening x ts o)
    follows (suc n) {x} was {ts} (inside {inner = inner} s o f) le =
        let l = opens_leave names texts most o in
        opens_on n x was ts (not_both (has_bracket x) (is_symbol symbol.CloseBrace ts) l.no_bracket) (no_item x ts s) (opening_exact names texts most o) ∙ follows n ts f (let s = l.shorter in omega arith)
    follows (suc n) {x} was {ts} (too_high {inner = inner} s o a) le =
        let l = opens_leave names texts most o in
        opens_on n x was ts (not_both (has_bracket x) (is_symbol symbol.CloseBrace ts) l.no_bracket) (no_item x ts s) (opening_exact names texts most o) ∙ reads_all n ts a (opens_bracket names texts most o) (let s = l.shorter in omega arith)

    reads_all : (n : ℕ) {x : Context} (was : List Token) {ts : List Token} → ReadsAll names texts most x ts → HasBracket x → length ts ≤ n → follow_at names texts most n x was ts ≡ was
    reads_all zero was (at_bracket c) h le = absurd (omega arith)
    reads_all zero was (read r a) h le = absurd (let s = (reads_leave names texts most r).shorter in omega arith)
    reads_all (suc n) {x} was (at_bracket {c = c} {rest = rest} i) h le = at_end n x was (c ∷ rest) (rw (brackets h) (bracket_seen rest i))
    reads_all (suc n) {x} was {ts} (read r a) h le =
        let l = reads_leave names texts most r in
        reads_on n x was ts (not_both (has_bracket x) (is_symbol symbol.CloseBrace ts) l.no_bracket) (item_exact names texts most r) ∙ reads_all n was a (gives_bracket r h) (let s = l.shorter in omega arith)

  pub place_once : (ts place other : List Token) → FailsAt names texts most context.imports ts place → FailsAt names texts most context.imports ts other → place ≡ other
  place_once ts place other f g = sym (follows (length ts) ts f (omega arith)) ∙ follows (length ts) ts g (omega arith)
