-- Imports are read to the last one.
use Rattle.std.proofs.Common.{◌≡◌, ℕ, zero, suc, ◌<◌, ◌≤◌, List, [], ◌∷◌, ◌++◌, length, Some, None, IfSome, refl, sym, ap, ◌∙◌, arith, append_assoc}
use Rattle.std.proofs.lemmas.List.{append-nil}
use Rattle.je_token.specs.declared.keyword.Keyword.TheVariants as word
use Rattle.je_token.specs.declared.symbol.Symbol.TheVariants as symbol
use Rattle.je_token.specs.declared.token.Token.{Token}
use Rattle.je_token.specs.declared.token.TokenKind.TheVariants as kind
use Rattle.je_ast.specs.Types.{QualifiedName}
use Rattle.je_grammar.specs.Tokens.{it_is, IsWord, IsSymbol}
use Rattle.je_grammar.specs.Types.{SpellsName}
use Rattle.je_grammar.specs.Grammar.{SpellsImports, no_imports, more_imports}
use Rattle.parse_laws.specs.way.Tokens.{◌>>=◌, behind, behind_word}
use Rattle.parse_laws.specs.way.Types.{name_at}
use Rattle.parse_laws.specs.way.Knot.{import_at, imports_at}
use Rattle.parse_laws.proofs.Rules.{bind, either, weaken}
use Rattle.parse_laws.proofs.Fronts.{Front, front, behind_front}
use Rattle.je_grammar.proofs.Sizes.{size-SpellsName}
use Rattle.type_laws.proofs.Names.{name_sound, name_complete}

-- "import" Name ";"
pub data IsImport : QualifiedName → List Token → List Token → Type 0 where
  is_import : {w c : Token} {n : QualifiedName} {ts rest : List Token} → IsWord word.Import w → SpellsName n ts (c ∷ rest) → IsSymbol symbol.Semicolon c → IsImport n (w ∷ ts) rest

import_by : {n : QualifiedName} {ts named last rest : List Token} → Front (kind.Keyword word.Import) ts named → SpellsName n named last → Front (kind.Symbol symbol.Semicolon) last rest → IsImport n ts rest
import_by (front w) d (front c) = is_import w d c

import_then : {n : QualifiedName} {ns : List QualifiedName} {names texts : List (List ℕ)} {ts mid rest : List Token} → IsImport n ts mid → SpellsImports names texts ns mid rest → SpellsImports names texts (n ∷ ns) ts rest
import_then (is_import w d c) r = more_imports w d c r

pub import_length : {n : QualifiedName} {ts rest : List Token} → IsImport n ts rest → length rest < length ts
import_length (is_import w d c) = let a = size-SpellsName d in omega arith

module _ (names texts : List (List ℕ)) where
  abbrev Named : List Token → QualifiedName × List Token → Type 0
  Named ts x = (named : List Token) × Front (kind.Keyword word.Import) ts named × SpellsName x.0 named x.1

  pub import_sound : (ts : List Token) → IfSome (import_at names texts ts) (λ x. IsImport x.0 ts x.1)
  unfolding import_at
  import_sound ts = bind (behind_word word.Import ts >>= name_at) _ (Named ts) (λ x. IsImport x.0 ts x.1)
      (bind (behind_word word.Import ts) name_at (Front (kind.Keyword word.Import) ts) (Named ts) (behind_front (kind.Keyword word.Import) ts)
      (λ named w. weaken (name_at named) (λ n. SpellsName n.0 named n.1) (Named ts) (name_sound named) (λ x d. (named, w, d))))
      (λ n g. bind (behind symbol.Semicolon n.1) _ (Front (kind.Symbol symbol.Semicolon) n.1) (λ x. IsImport x.0 ts x.1) (behind_front (kind.Symbol symbol.Semicolon) n.1)
      (λ rest c. import_by g.1 g.2 c))

  name_before_semicolon : {n : QualifiedName} {c : Token} {ts rest : List Token} → SpellsName n ts (c ∷ rest) → IsSymbol symbol.Semicolon c → name_at ts ≡ Some (n, c ∷ rest)
  name_before_semicolon d it_is = name_complete d refl

  import_read : {w c : Token} {n : QualifiedName} (ts rest : List Token) → IsWord word.Import w → name_at ts ≡ Some (n, c ∷ rest) → IsSymbol symbol.Semicolon c → import_at names texts (w ∷ ts) ≡ Some (n, rest)
  unfolding import_at
  import_read ts rest it_is e it_is = rw e refl

  pub import_exact : {n : QualifiedName} {ts rest : List Token} → IsImport n ts rest → import_at names texts ts ≡ Some (n, rest)
  import_exact {rest = rest} (is_import {ts = ts} w d c) = import_read ts rest w (name_before_semicolon d c) c

  -- imports behind others
  pub record Imports (before : List QualifiedName) (ts : List Token) (y : List QualifiedName × List Token) : Type 0 where
    pub items : List QualifiedName
    pub whole : y.0 ≡ before ++ items
    pub spelled : SpellsImports names texts items ts y.1

  pub imports_sound : (n : ℕ) (before : List QualifiedName) (ts : List Token) → Imports before ts (imports_at names texts n before ts)
  unfolding imports_at
  imports_sound zero before ts = record { items = []; whole = sym (append-nil before); spelled = no_imports }
  imports_sound (suc n) before ts = either (import_at names texts ts) _ _ (λ x. IsImport x.0 ts x.1) (Imports before ts) (import_sound ts)
      (λ x i. let v = imports_sound n (before ++ x.0 ∷ []) x.1 in record {
        items = x.0 ∷ v.items;
        whole = v.whole ∙ append_assoc before (x.0 ∷ []) v.items;
        spelled = import_then i v.spelled;
      })
      (record { items = []; whole = sym (append-nil before); spelled = no_imports })

  imports_stop : (n : ℕ) (before : List QualifiedName) (ts : List Token) → import_at names texts ts ≡ None → imports_at names texts n before ts ≡ (before, ts)
  unfolding imports_at
  imports_stop zero before ts e = refl
  imports_stop (suc n) before ts e = rw e refl

  imports_step : (n : ℕ) (before : List QualifiedName) {q : QualifiedName} (ts mid : List Token) → import_at names texts ts ≡ Some (q, mid) → imports_at names texts (suc n) before ts ≡ imports_at names texts n (before ++ q ∷ []) mid
  unfolding imports_at
  imports_step n before ts mid e = rw e refl

  pub imports_exact : (n : ℕ) (before : List QualifiedName) {is : List QualifiedName} {ts rest : List Token} → SpellsImports names texts is ts rest → import_at names texts rest ≡ None → length ts ≤ n → imports_at names texts n before ts ≡ (before ++ is, rest)
  imports_exact n before {rest = rest} no_imports e le = imports_stop n before rest e ∙ ap (λ (xs : List QualifiedName). (xs, rest)) (sym (append-nil before))
  imports_exact zero before (more_imports w d c r) e le = absurd (omega arith)
  imports_exact (suc n) before {ts = ts} {rest} (more_imports {n = q} {ns} {mid = mid} w d c r) e le =
      imports_step n before ts mid (import_exact (is_import w d c))
      ∙ imports_exact n (before ++ q ∷ []) r e (let a = import_length (is_import w d c) in omega arith)
      ∙ ap (λ (xs : List QualifiedName). (xs, rest)) (append_assoc before (q ∷ []) ns)
