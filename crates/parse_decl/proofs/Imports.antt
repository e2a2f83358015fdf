-- What an import leaves is the file's tokens from a place on.
use Rattle.std.proofs.Common.{◌≡◌, ℕ, suc, ◌+◌, ◌-◌, ◌≤◌, Option, Some, List, ◌∷◌, ◌++◌, [], length, ◌<◌, drop, IfSome, refl, sym, ap, ◌∙◌, arith}
use Rattle.std.proofs.lemmas.List.{length-drop, drop-drop}
use Rattle.je_token.specs.declared.token.Token.{Token}
use denote.Ref.{Bor}
use Rattle.je_ast.specs.declared.name.Name.{Name}
use Rattle.je_ast.specs.Types.{QualifiedName, name_view}
use Rattle.je_grammar.specs.Types.{SpellsName, simple_name, qualified_name}
use Rattle.parse_laws.specs.way.Tokens.{Read}
use Rattle.parse_laws.specs.way.Knot.{import_at, imports_at}
use Rattle.parse_types.specs.way.Views.{seen_name}
use Rattle.parse_decl.specs.way.Views.{seen_import}
use Rattle.parse_decl.proofs.Steps.{imports_step}
use Rattle.unit_laws.proofs.Imports.{IsImport, is_import, import_sound}

-- the second list is the first one without some tokens ahead
record IsBehind (ts rest : List Token) : Type 0 where
  count : ℕ
  few : count ≤ length ts
  there : drop count ts ≡ rest

behind_name : {n : QualifiedName} {ts rest : List Token} → SpellsName n ts rest → IsBehind ts rest
behind_name (simple_name i) = record { count = 1; few = omega arith; there = refl }
behind_name (qualified_name i d s) = let b = behind_name s in record { count = suc (suc b.count); few = let h = b.few in omega arith; there = b.there }

behind_import : {n : QualifiedName} {ts rest : List Token} → IsImport n ts rest → IsBehind ts rest
behind_import (is_import {ts = ts} w s c) = let b = behind_name s in record {
  count = suc (suc b.count);
  few = let h = b.few in let l = ap length b.there in let k = length-drop b.count ts in omega arith;
  there = let e : suc b.count ≡ b.count + 1 = omega arith in ap (λ (n : ℕ). drop n ts) e ∙ sym (drop-drop 1 b.count ts) ∙ ap (drop 1) b.there;
}

in_place : (list rest : List Token) (from : ℕ) → from ≤ length list → IsBehind (drop from list) rest → (drop (length list - length rest) list ≡ rest) × (length rest ≤ length list)
in_place list rest from le b =
    let l = ap length b.there in
    let e : length list - length rest ≡ from + b.count = let h = b.few in omega (arith, length-drop from list, length-drop b.count (drop from list)) in
    (rw e (sym (drop-drop b.count from list) ∙ b.there), omega (arith, length-drop from list, length-drop b.count (drop from list)))

import_place : (names texts : List (List ℕ)) (list : List Token) (from : ℕ) (n : QualifiedName) (rest : List Token) → from ≤ length list → import_at names texts (drop from list) ≡ Some (n, rest) →
    (drop (length list - length rest) list ≡ rest) × (length rest ≤ length list)
import_place names texts list from n rest le e =
    let s : IfSome {T = QualifiedName × List Token} (Some (n, rest)) (λ x. IsImport x.0 (drop from list) x.1) = rw e at (import_sound names texts (drop from list)) in
    in_place list rest from le (behind_import s)

-- what was read, without where it lies in memory
pub name_some : (o : Option (Name × Bor (List Token))) (x : Name × Bor (List Token)) {r : Read QualifiedName} → o ≡ Some x → seen_name o ≡ r → Some (name_view x.0, x.1.now) ≡ r
name_some o x p e = rw p at e

pub import_some : (list : List Token) (o : Option (Name × ℕ)) (x : Name × ℕ) {r : Read QualifiedName} → o ≡ Some x → seen_import list o ≡ r → Some (name_view x.0, drop x.1 list) ≡ r
import_some list o x p e = rw p at e

-- an import that is read leaves the tokens from a place on
pub import_found : (names texts : List (List ℕ)) (list ts : List Token) (from : ℕ) (n : QualifiedName) (rest : List Token) → from ≤ length list → Some (n, rest) ≡ import_at names texts ts → ts ≡ drop from list →
    (length rest ≤ length list) × (Some (n, drop (length list - length rest) list) ≡ import_at names texts (drop from list))
import_found names texts list ts from n rest le e s =
    let f : Some (n, rest) ≡ import_at names texts (drop from list) = rw s at e in
    let g = import_place names texts list from n rest le (sym f) in
    (g.1, rw g.0 f)

-- a turn of the loop over imports, which is to come to `whole`
pub import_turn : (names texts : List (List ℕ)) (list : List Token) (n i place : ℕ) (before : List QualifiedName) (whole : List QualifiedName × List Token) (q : QualifiedName) (rest : List Token) →
    imports_at names texts (n - i) before (drop place list) ≡ whole → i < n → Some (q, rest) ≡ import_at names texts (drop place list) → imports_at names texts (n - (i + 1)) (before ++ q ∷ []) rest ≡ whole
import_turn names texts list n i place before whole q rest same lt e =
    let s : imports_at names texts (n - i) before (drop place list) ≡ imports_at names texts (n - (i + 1)) (before ++ q ∷ []) rest = rw (sym e) at (imports_step names texts n i before (drop place list) lt) in
    sym s ∙ same
