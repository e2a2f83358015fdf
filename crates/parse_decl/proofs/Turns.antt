-- The turns of the loop over declarations, at a place of the file's tokens. `whole` is what the loop is to come to.
use Rattle.std.proofs.Common.{◌≡◌, ℕ, ◌+◌, ◌-◌, ◌<◌, ◌≤◌, true, false, is_some, Option, Some, None, IfSome, List, [], ◌∷◌, ◌++◌, length, drop, refl, sym, ap, ◌∙◌, arith}
use Rattle.std.proofs.lemmas.List.{length-drop, drop-drop}
use Rattle.je_token.specs.declared.symbol.Symbol.TheVariants as symbol
use Rattle.je_token.specs.declared.token.Token.{Token}
use Rattle.je_token.specs.declared.token.TokenKind.{TokenKind}
use Rattle.je_token.specs.declared.token.TokenKind.TheVariants as kind
use Rattle.je_ast.specs.Trees.{Declaration}
use Rattle.je_ast.specs.Height.{declaration_height}
use Rattle.je_grammar.specs.Grammar.{SpellsDeclaration}
use Rattle.je_grammar.specs.Longest.{IsLongest}
use Rattle.parse_laws.specs.way.Tokens.{behind, is_symbol}
use Rattle.parse_laws.specs.way.Knot.{is_end, declarations_at}
use Rattle.parse_laws.proofs.Fronts.{Front, front, behind_front}
use Rattle.parse_laws.proofs.Rules.{is_none}
use Rattle.parse_decl.proofs.Files.{declaration_read, declaration_unread}
use Rattle.parse_decl.proofs.Steps.{end_step, semicolon_step, declaration_step, stuck_step, declarations_none}

drop_front : {k : TokenKind} (ts rest : List Token) → Front k ts rest → drop 1 ts ≡ rest
drop_front _ _ (front i) = refl

long_front : {k : TokenKind} (ts rest : List Token) → Front k ts rest → 0 < length ts
long_front _ _ (front i) = omega arith

semicolon_by : (ts : List Token) (o : Option (List Token)) → is_some o ≡ true → IfSome o (Front (kind.Symbol symbol.Semicolon) ts) → (o ≡ Some (drop 1 ts)) × (0 < length ts)
semicolon_by ts None h g = absurd cc
semicolon_by ts (Some rest) h g = (ap Some (sym (drop_front ts rest g)), long_front ts rest g)

semicolon_first : (ts : List Token) → is_symbol symbol.Semicolon ts ≡ true → (behind symbol.Semicolon ts ≡ Some (drop 1 ts)) × (0 < length ts)
semicolon_first ts h = semicolon_by ts (behind symbol.Semicolon ts) h (behind_front (kind.Symbol symbol.Semicolon) ts)

module _ (names texts : List (List ℕ)) (list : List Token) (n i place : ℕ) (before : List Declaration) (whole : Option (List Declaration)) (ts : List Token) where
  pub end_turn : ts ≡ drop place list → declarations_at names texts (n - i) 300 before (drop place list) ≡ whole → i < n → is_end ts ≡ true → Some before ≡ whole
  end_turn e same lt ends =
      let f : is_end (drop place list) ≡ true = rw e at ends in
      sym (end_step names texts 300 n i before (drop place list) lt f) ∙ same

  pub semicolon_turn : ts ≡ drop place list → declarations_at names texts (n - i) 300 before (drop place list) ≡ whole → i < n → is_end ts ≡ false → is_symbol symbol.Semicolon ts ≡ true →
      (declarations_at names texts (n - (i + 1)) 300 before (drop (place + 1) list) ≡ whole) × (place + 1 ≤ length list)
  semicolon_turn e same lt ends lone =
      let f : is_end (drop place list) ≡ false = rw e at ends in
      let g : is_symbol symbol.Semicolon (drop place list) ≡ true = rw e at lone in
      let s = semicolon_first (drop place list) g in
      let long = s.1 in
      (rw (sym (drop-drop 1 place list)) (sym (semicolon_step names texts 300 n i before (drop place list) (drop 1 (drop place list)) lt f s.0) ∙ same), omega (arith, length-drop place list))

  pub declaration_turn : ts ≡ drop place list → declarations_at names texts (n - i) 300 before (drop place list) ≡ whole → i < n → is_end ts ≡ false → is_symbol symbol.Semicolon ts ≡ false →
      (d : Declaration) (rest : List Token) → IsLongest (SpellsDeclaration names texts) declaration_height 300 d (drop place list) rest →
      declarations_at names texts (n - (i + 1)) 300 (before ++ d ∷ []) rest ≡ whole
  declaration_turn e same lt ends lone d rest l =
      let f : is_end (drop place list) ≡ false = rw e at ends in
      let g : is_symbol symbol.Semicolon (drop place list) ≡ false = rw e at lone in
      sym (declaration_step names texts 300 n i before (drop place list) rest d lt f (is_none (behind symbol.Semicolon (drop place list)) g) (declaration_read names texts list d (drop place list) rest l)) ∙ same

  pub stuck_turn : ts ≡ drop place list → declarations_at names texts (n - i) 300 before (drop place list) ≡ whole → i < n → is_end ts ≡ false → is_symbol symbol.Semicolon ts ≡ false →
      ((d : Declaration) (rest : List Token) → SpellsDeclaration names texts d (drop place list) rest → ¬ (declaration_height d ≤ 300)) → None ≡ whole
  stuck_turn e same lt ends lone none =
      let f : is_end (drop place list) ≡ false = rw e at ends in
      let g : is_symbol symbol.Semicolon (drop place list) ≡ false = rw e at lone in
      sym (stuck_step names texts 300 n i before (drop place list) lt f (is_none (behind symbol.Semicolon (drop place list)) g) (declaration_unread names texts list (drop place list) none)) ∙ same

  pub over : declarations_at names texts (n - i) 300 before (drop place list) ≡ whole → n ≤ i → None ≡ whole
  over same le = sym (declarations_none names texts 300 n i before (drop place list) le) ∙ same
