-- Enums: what is read is spelled, and what is spelled is read.
use Rattle.std.proofs.Common.{◌≡◌, ℕ, zero, suc, ◌≤◌, List, [], ◌∷◌, ◌++◌, length, Some, None, IfSome, refl, sym, ap, ◌∙◌, subst, arith, append_assoc, nat_lt, false}
use Rattle.std.proofs.lemmas.Bool.{ltb-false, le-ltb}
use Rattle.je_base.specs.declared.span.Span.{Span}
use Rattle.je_token.specs.declared.keyword.Keyword.TheVariants as word
use Rattle.je_token.specs.declared.symbol.Symbol.{Symbol}
use Rattle.je_token.specs.declared.symbol.Symbol.TheVariants as symbol
use Rattle.je_token.specs.declared.token.Token.{Token}
use Rattle.je_token.specs.declared.token.TokenKind.TheVariants as kind
use Rattle.je_ast.specs.declared.name.Identifier.{Identifier}
use Rattle.je_ast.specs.declared.decl.Modifier.{Modifier}
use Rattle.je_ast.specs.Trees.{Declaration}
use Rattle.je_ast.specs.Trees as tree
use Rattle.je_ast.specs.Height.{constants_height, declaration_height}
use Rattle.je_ast.specs.Spans.{join}
use Rattle.je_grammar.specs.Tokens.{it_is, IsWord, IsSymbol, IsIdentifier, identifier, first_span}
use Rattle.je_grammar.specs.Grammar.{SpellsConstants, last_constant, more_constants, SpellsMaybeConstants, no_constants, some_constants, SpellsMaybeSign, no_sign, a_sign, SpellsEnum, enum_declaration}
use Rattle.parse_laws.specs.way.Tokens.{◌>>=◌, behind, behind_word, identifier_at}
use Rattle.parse_laws.specs.way.Members.{more_constants_at, past_symbol, past_lone_comma, constants_at, enum_at}
use Rattle.parse_laws.proofs.Rules.{bind, either, choose, weaken}
use Rattle.parse_laws.proofs.Fronts.{Front, front, behind_front, FrontName, front_name, identifier_front}

-- the constants behind others, and a comma behind them
data Constants (before : List Identifier) (ts : List Token) (y : List Identifier × List Token) : Type 0 where
  nothing_left : y ≡ (before, ts) → Constants before ts y
  some_left : {list : List Identifier} {mid : List Token} → y.0 ≡ before ++ list → SpellsConstants list ts mid → SpellsMaybeSign symbol.Comma mid y.1 → Constants before ts y

constant_last : (before : List Identifier) {ts : List Token} {x : Identifier × List Token} → FrontName ts x → Constants before ts (before ++ x.0 ∷ [], x.1)
constant_last before (front_name i) = some_left refl (last_constant i) no_sign

constant_then : (before : List Identifier) {ts mid : List Token} {x : Identifier × List Token} {y : List Identifier × List Token} → FrontName ts x → Front (kind.Symbol symbol.Comma) x.1 mid →
    Constants (before ++ x.0 ∷ []) mid y → Constants before ts y
constant_then before (front_name i) (front k) (nothing_left e) = rw e (some_left refl (last_constant i) (a_sign k))
constant_then before (front_name {t} i) (front k) (some_left {list} e d s) = some_left (e ∙ append_assoc before (identifier t ∷ []) list) (more_constants i k d) s

more_constants_sound : (n : ℕ) (before : List Identifier) (ts : List Token) → Constants before ts (more_constants_at n before ts)
unfolding more_constants_at
more_constants_sound zero before ts = nothing_left refl
more_constants_sound (suc n) before ts =
    either (identifier_at ts) _ _ (FrontName ts) (Constants before ts) (identifier_front ts)
    (λ x i. either (behind symbol.Comma x.1) _ _ (Front (kind.Symbol symbol.Comma) x.1) (Constants before ts) (behind_front (kind.Symbol symbol.Comma) x.1)
    (λ mid k. constant_then before i k (more_constants_sound n (before ++ x.0 ∷ []) mid))
    (constant_last before i))
    (nothing_left refl)

sign_of : {y : Symbol} {ts rest : List Token} → Front (kind.Symbol y) ts rest → SpellsMaybeSign y ts rest
sign_of (front k) = a_sign k

sign_sound : (y : Symbol) (ts : List Token) → SpellsMaybeSign y ts (past_symbol y ts)
sign_sound y ts = either (behind y ts) (λ rest. rest) ts (Front (kind.Symbol y) ts) (SpellsMaybeSign y ts) (behind_front (kind.Symbol y) ts) (λ rest f. sign_of f) no_sign

record HasConstants (ts : List Token) (ids : List Identifier) (last : List Token) : Type 0 where
  mid : List Token
  listed : SpellsMaybeConstants ids ts mid
  comma : SpellsMaybeSign symbol.Comma mid last

no_lone_comma : {ids : List Identifier} {ts mid : List Token} → SpellsConstants ids ts mid → (rest : List Token) → past_lone_comma ids rest ≡ rest
no_lone_comma (last_constant i) rest = refl
no_lone_comma (more_constants i k d) rest = refl

constants_of : {ts : List Token} (y : List Identifier × List Token) → Constants [] ts y → HasConstants ts y.0 (past_lone_comma y.0 y.1)
constants_of {ts} y (nothing_left e) = rw e (record { mid = ts; listed = no_constants; comma = sign_sound symbol.Comma ts })
constants_of {ts} y (some_left {list} {mid} e d s) = record {
  mid = mid;
  listed = subst (λ l. SpellsMaybeConstants l ts mid) (sym e) (some_constants d);
  comma = subst (λ l. SpellsMaybeSign symbol.Comma mid (past_lone_comma l y.1)) (sym e) (subst (λ last. SpellsMaybeSign symbol.Comma mid last) (sym (no_lone_comma d y.1)) s);
}

data AreConstants (ts : List Token) : List Identifier × Span × List Token → Type 0 where
  are_constants : {ids : List Identifier} {mid last rest : List Token} {c : Token} → SpellsMaybeConstants ids ts mid → SpellsMaybeSign symbol.Comma mid last →
      SpellsMaybeSign symbol.Semicolon last (c ∷ rest) → IsSymbol symbol.CloseBrace c → AreConstants ts (ids, c.span, rest)

constants_ended : {ts last end rest : List Token} {ids : List Identifier} → HasConstants ts ids last → SpellsMaybeSign symbol.Semicolon last end → Front (kind.Symbol symbol.CloseBrace) end rest →
    AreConstants ts (ids, first_span end, rest)
constants_ended g s (front c) = are_constants g.listed g.comma s c

constants_sound : (ts : List Token) → IfSome (constants_at ts) (AreConstants ts)
unfolding constants_at
constants_sound ts =
    let xs = more_constants_at (length ts) [] ts in
    let g = constants_of xs (more_constants_sound (length ts) [] ts) in
    let last = past_lone_comma xs.0 xs.1 in
    bind (behind symbol.CloseBrace (past_symbol symbol.Semicolon last)) _ (Front (kind.Symbol symbol.CloseBrace) (past_symbol symbol.Semicolon last)) (AreConstants ts)
    (behind_front (kind.Symbol symbol.CloseBrace) (past_symbol symbol.Semicolon last))
    (λ rest c. constants_ended g (sign_sound symbol.Semicolon last) c)

-- a word, a name and a brace
enum_of : {ms : List Modifier} {s : Span} {ts a inside : List Token} {x : Identifier × List Token} {cs : List Identifier × Span × List Token} → Front (kind.Keyword word.Enum) ts a → FrontName a x →
    Front (kind.Symbol symbol.OpenBrace) x.1 inside → AreConstants inside cs → SpellsEnum ms s (tree.enum_declaration ms x.0 cs.0 (join s cs.1)) ts cs.2
enum_of (front w) (front_name t) (front o) (are_constants d k s c) = enum_declaration w t o d k s c

module _ (h : ℕ) (ms : List Modifier) (s : Span) where
  pub record IsEnum (ts : List Token) (x : Declaration × List Token) : Type 0 where
    pub spelled : SpellsEnum ms s x.0 ts x.1
    pub within : declaration_height x.0 ≤ suc h

  pub enum_sound : (ts : List Token) → IfSome (enum_at h ms s ts) (IsEnum ts)
  unfolding enum_at
  enum_sound ts =
      bind (behind_word word.Enum ts >>= identifier_at) _ (λ x. (a : List Token) × Front (kind.Keyword word.Enum) ts a × FrontName a x) (IsEnum ts)
      (bind (behind_word word.Enum ts) identifier_at (Front (kind.Keyword word.Enum) ts) (λ x. (a : List Token) × Front (kind.Keyword word.Enum) ts a × FrontName a x) (behind_front (kind.Keyword word.Enum) ts)
      (λ a w. weaken (identifier_at a) (FrontName a) _ (identifier_front a) (λ x i. (a, w, i))))
      (λ x g. bind (behind symbol.OpenBrace x.1 >>= constants_at) _ (λ cs. (inside : List Token) × Front (kind.Symbol symbol.OpenBrace) x.1 inside × AreConstants inside cs) (IsEnum ts)
      (bind (behind symbol.OpenBrace x.1) constants_at (Front (kind.Symbol symbol.OpenBrace) x.1) (λ cs. (inside : List Token) × Front (kind.Symbol symbol.OpenBrace) x.1 inside × AreConstants inside cs)
      (behind_front (kind.Symbol symbol.OpenBrace) x.1)
      (λ inside o. weaken (constants_at inside) (AreConstants inside) _ (constants_sound inside) (λ cs k. (inside, o, k))))
      (λ cs k. choose (nat_lt h (constants_height cs.0)) _ _ (λ o. IfSome o (IsEnum ts)) (λ t. tt)
      (λ f. record { spelled = enum_of g.1 g.2 k.1 k.2; within = let a = ltb-false h (constants_height cs.0) f in omega arith })))

-- ---- what is spelled is read

constants_stop : (n : ℕ) (before : List Identifier) {ts : List Token} → identifier_at ts ≡ None → more_constants_at n before ts ≡ (before, ts)
unfolding more_constants_at
constants_stop zero before e = refl
constants_stop (suc n) before e = rw e refl

-- what may stand behind the constants and their comma
record Ends (last : List Token) : Type 0 where
  no_name : identifier_at last ≡ None
  no_comma : behind symbol.Comma last ≡ None

last_step : (n : ℕ) (before : List Identifier) {t : Token} (last : List Token) → IsIdentifier t → behind symbol.Comma last ≡ None → more_constants_at (suc n) before (t ∷ last) ≡ (before ++ identifier t ∷ [], last)
unfolding more_constants_at
last_step n before last it_is e = rw e refl

comma_step : (n : ℕ) (before : List Identifier) {t k : Token} (ts : List Token) → IsIdentifier t → IsSymbol symbol.Comma k → more_constants_at (suc n) before (t ∷ k ∷ ts) ≡ more_constants_at n (before ++ identifier t ∷ []) ts
unfolding more_constants_at
comma_step n before ts it_is it_is = refl

more_constants_exact : (n : ℕ) (before : List Identifier) {ids : List Identifier} {ts mid last : List Token} → SpellsConstants ids ts mid → SpellsMaybeSign symbol.Comma mid last → Ends last → length ts ≤ n →
    more_constants_at n before ts ≡ (before ++ ids, last)
more_constants_exact zero before (last_constant i) s e le = absurd (omega arith)
more_constants_exact zero before (more_constants i k d) s e le = absurd (omega arith)
more_constants_exact (suc n) before {last = last} (last_constant i) no_sign e le = last_step n before last i e.no_comma
more_constants_exact (suc n) before {last = last} (last_constant {t} i) (a_sign k) e le = comma_step n before last i k ∙ constants_stop n (before ++ identifier t ∷ []) e.no_name
more_constants_exact (suc n) before {last = last} (more_constants {t} {ids = ids} {ts} i k d) s e le =
    comma_step n before ts i k ∙ more_constants_exact n (before ++ identifier t ∷ []) d s e (omega arith) ∙ ap (λ (xs : List Identifier). (xs, last)) (append_assoc before (identifier t ∷ []) ids)

past_of : (y : Symbol) (ts : List Token) → behind y ts ≡ None → past_symbol y ts ≡ ts
past_of y ts e = rw e refl

lone_first : {k : Token} (last : List Token) → IsSymbol symbol.Comma k → (identifier_at (k ∷ last) ≡ None) × (past_symbol symbol.Comma (k ∷ last) ≡ last)
lone_first last it_is = (refl, refl)

-- the constants, where reading them stops, and what is behind a lone comma there
constants_read : {ids : List Identifier} {ts mid last : List Token} → SpellsMaybeConstants ids ts mid → SpellsMaybeSign symbol.Comma mid last → Ends last →
    (end : List Token) × (more_constants_at (length ts) [] ts ≡ (ids, end)) × (past_lone_comma ids end ≡ last)
constants_read {ts = ts} no_constants no_sign e = (ts, constants_stop (length ts) [] e.no_name, past_of symbol.Comma ts e.no_comma)
constants_read {ts = ts} {last = last} no_constants (a_sign k) e = let f = lone_first last k in (ts, constants_stop (length ts) [] f.0, f.1)
constants_read {ts = ts} {last = last} (some_constants d) s e = (last, more_constants_exact (length ts) [] d s e (omega arith), no_lone_comma d last)

constants_end : {c : Token} {last rest : List Token} → SpellsMaybeSign symbol.Semicolon last (c ∷ rest) → IsSymbol symbol.CloseBrace c → Ends last × (past_symbol symbol.Semicolon last ≡ c ∷ rest)
constants_end no_sign it_is = (record { no_name = refl; no_comma = refl }, refl)
constants_end (a_sign it_is) it_is = (record { no_name = refl; no_comma = refl }, refl)

brace_behind : {c : Token} (rest : List Token) → IsSymbol symbol.CloseBrace c → behind symbol.CloseBrace (c ∷ rest) ≡ Some rest
brace_behind rest it_is = refl

constants_exact : {ids : List Identifier} {ts mid last rest : List Token} {c : Token} → SpellsMaybeConstants ids ts mid → SpellsMaybeSign symbol.Comma mid last →
    SpellsMaybeSign symbol.Semicolon last (c ∷ rest) → IsSymbol symbol.CloseBrace c → constants_at ts ≡ Some (ids, c.span, rest)
unfolding constants_at
constants_exact {rest = rest} d k s c =
    let e = constants_end s c in let r = constants_read d k e.0 in
    rw (r.1, r.2, e.1, brace_behind rest c) refl

enum_by : (h : ℕ) (ms : List Modifier) (s : Span) {w t o : Token} (ts : List Token) {cs : List Identifier × Span × List Token} → IsWord word.Enum w → IsIdentifier t → IsSymbol symbol.OpenBrace o →
    constants_at ts ≡ Some cs → nat_lt h (constants_height cs.0) ≡ false → enum_at h ms s (w ∷ t ∷ o ∷ ts) ≡ Some (tree.enum_declaration ms (identifier t) cs.0 (join s cs.1), cs.2)
unfolding enum_at
enum_by h ms s ts it_is it_is it_is e low = rw (e, low) refl

pub enum_exact : (h : ℕ) {ms : List Modifier} {s : Span} {d : Declaration} {ts rest : List Token} → SpellsEnum ms s d ts rest → declaration_height d ≤ suc h → enum_at h ms s ts ≡ Some (d, rest)
enum_exact h {ms} {s} (enum_declaration {ids = ids} {ts = ts} w t o d k e c) low = enum_by h ms s ts w t o (constants_exact d k e c) (le-ltb h (constants_height ids) (omega arith))
