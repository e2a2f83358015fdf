-- What is read at a token is the longest tree there, and nothing is read only where none begins.
use Rattle.std.proofs.Common.{◌≡◌, ℕ, ◌+◌, ◌-◌, ◌<◌, ◌≤◌, List, [], ◌∷◌, length, take, drop, Option, Some, None, IfSome, refl, sym, ◌∙◌, arith, length-append}
use Rattle.std.proofs.lemmas.List.{length-drop, drop-drop, take_rest}
use Rattle.je_token.specs.declared.token.Token.{Token}
use Rattle.je_ast.specs.Trees.{Expression, Statement, Member, Declaration}
use Rattle.je_ast.specs.Height.{height, statement_height, member_height, declaration_height}
use Rattle.je_grammar.specs.Laws.{LeavesSuffix, SpellsSome}
use Rattle.je_grammar.specs.Grammar.{Spells, SpellsBlockStatement, SpellsMember, SpellsDeclaration}
use Rattle.je_grammar.specs.Longest.{IsLongest}
use Rattle.je_grammar.proofs.Suffixes.{expressions_leave_suffix, statements_leave_suffix, members_leave_suffix, declarations_leave_suffix}
use Rattle.je_grammar.proofs.AtLeastOne.{expressions_spell_some, statements_spell_some, members_spell_some, declarations_spell_some}
use Rattle.je_lexer.specs.Lexing.{AreWhole}
use Rattle.parse_laws.specs.way.Tokens.{Read}
use Rattle.parse_laws.specs.way.Knot.{at, declaration_at}
use Rattle.parse_types.specs.declared.found.Found.{Found}
use Rattle.parse_types.specs.way.Views.{seen}
use Rattle.knot_laws.specs.Laws.{ReadsLongest}
use Rattle.knot_laws.proofs.Longest.{expressions_longest, statements_longest, members_longest, declarations_longest}
use Rattle.parse_expr.specs.Answers.{IsLongestAt, NoneBegins, fault_span}

-- a file has tokens
pub some_tokens : (list : List Token) (names texts : List (List ℕ)) → AreWhole list names texts → 0 < length list
some_tokens list names texts w = rw w.whole (omega (arith, length-append w.front (w.last ∷ [])))

-- what was read, without where it lies in memory
pub read_some : {T A : Type 0} (see : T → A) (o : Option (Found T)) (x : Found T) {r : Read A} → o ≡ Some x → seen see o ≡ r → Some (see x.tree, x.rest.now) ≡ r
read_some see o x p e = rw p at e

pub read_none : {T A : Type 0} (see : T → A) (o : Option (Found T)) {r : Read A} → o ≡ None → seen see o ≡ r → None ≡ r
read_none see o p e = rw p at e

-- a slice from a place on
pub slice_tail : (xs ys : List Token) (from : ℕ) → xs ≡ ys → take (length xs - from) (drop from xs) ≡ drop from ys
slice_tail xs ys from e = rw e (take_rest ys from)

module _ {T : Type 0} (spells : T → List Token → List Token → Type 0) (height_of : T → ℕ) (leaves : LeavesSuffix spells) (some : SpellsSome spells) where
  behind_place : (list : List Token) (from : ℕ) (t : T) (rest : List Token) → spells t (drop from list) rest → drop (length list - length rest) list ≡ rest
  behind_place list from t rest d =
      let lt = some t (drop from list) rest d in
      let e : length list - length rest ≡ from + (length (drop from list) - length rest) = omega (arith, length-drop from list) in
      rw e (sym (drop-drop (length (drop from list) - length rest) from list) ∙ leaves t (drop from list) rest d)

  longest_by : (list : List Token) (from : ℕ) (t : T) (rest : List Token) → IsLongest spells height_of 300 t (drop from list) rest →
      IsLongestAt spells height_of list from t (length list - length rest) × (length rest ≤ length list)
  longest_by list from t rest l =
      let e = behind_place list from t rest l.spelled in
      let lt = some t (drop from list) rest l.spelled in
      (record { longest = rw e l; inside = omega arith }, omega (arith, length-drop from list))

  found_by : (list : List Token) (from : ℕ) (f : List Token → Read T) → ReadsLongest spells height_of 300 f → (t : T) (rest : List Token) → Some (t, rest) ≡ f (drop from list) →
      IsLongestAt spells height_of list from t (length list - length rest) × (length rest ≤ length list)
  found_by list from f r t rest e =
      let l : IfSome {T = T × List Token} (Some (t, rest)) (λ x. IsLongest spells height_of 300 x.0 (drop from list) x.1) = rw (sym e) at (r.found (drop from list)) in
      longest_by list from t rest l

  none_by : (list : List Token) (from : ℕ) (f : List Token → Read T) → ReadsLongest spells height_of 300 f → None ≡ f (drop from list) → NoneBegins spells height_of list from (fault_span list from)
  none_by list from f r e = record { none = λ t rest d. r.none (drop from list) (sym e) t rest d; there = refl }

-- What is read in a setting of the greatest height, from a place of the file on, by what is known of its parts.

pub expression_found : (names texts names1 texts1 : List (List ℕ)) (below : ℕ) (list ts : List Token) (from : ℕ) (t : Expression) (rest : List Token) → Some (t, rest) ≡ (at names1 texts1 below).expression 1 ts → names1 ≡ names → texts1 ≡ texts → below ≡ 300 → ts ≡ drop from list →
    IsLongestAt (Spells names texts) height list from t (length list - length rest) × (length rest ≤ length list)
expression_found names texts _ _ _ list _ from t rest e p q r s = let f : Some (t, rest) ≡ (at names texts 300).expression 1 (drop from list) = rw (p, q, r, s) at e in
    found_by (Spells names texts) height (expressions_leave_suffix names texts) (expressions_spell_some names texts) list from ((at names texts 300).expression 1) (expressions_longest names texts 300) t rest f

pub no_expression : (names texts names1 texts1 : List (List ℕ)) (below : ℕ) (list ts : List Token) (from : ℕ) → None ≡ (at names1 texts1 below).expression 1 ts → names1 ≡ names → texts1 ≡ texts → below ≡ 300 → ts ≡ drop from list →
    NoneBegins (Spells names texts) height list from (fault_span list from)
no_expression names texts _ _ _ list _ from e p q r s = let f : None ≡ (at names texts 300).expression 1 (drop from list) = rw (p, q, r, s) at e in
    none_by (Spells names texts) height (expressions_leave_suffix names texts) (expressions_spell_some names texts) list from ((at names texts 300).expression 1) (expressions_longest names texts 300) f

pub statement_found : (names texts names1 texts1 : List (List ℕ)) (below : ℕ) (list ts : List Token) (from : ℕ) (t : Statement) (rest : List Token) → Some (t, rest) ≡ (at names1 texts1 below).block_statement ts → names1 ≡ names → texts1 ≡ texts → below ≡ 300 → ts ≡ drop from list →
    IsLongestAt (SpellsBlockStatement names texts) statement_height list from t (length list - length rest) × (length rest ≤ length list)
statement_found names texts _ _ _ list _ from t rest e p q r s = let f : Some (t, rest) ≡ (at names texts 300).block_statement (drop from list) = rw (p, q, r, s) at e in
    found_by (SpellsBlockStatement names texts) statement_height (statements_leave_suffix names texts) (statements_spell_some names texts) list from (at names texts 300).block_statement (statements_longest names texts 300) t rest f

pub no_statement : (names texts names1 texts1 : List (List ℕ)) (below : ℕ) (list ts : List Token) (from : ℕ) → None ≡ (at names1 texts1 below).block_statement ts → names1 ≡ names → texts1 ≡ texts → below ≡ 300 → ts ≡ drop from list →
    NoneBegins (SpellsBlockStatement names texts) statement_height list from (fault_span list from)
no_statement names texts _ _ _ list _ from e p q r s = let f : None ≡ (at names texts 300).block_statement (drop from list) = rw (p, q, r, s) at e in
    none_by (SpellsBlockStatement names texts) statement_height (statements_leave_suffix names texts) (statements_spell_some names texts) list from (at names texts 300).block_statement (statements_longest names texts 300) f

pub member_found : (names texts names1 texts1 : List (List ℕ)) (below : ℕ) (list ts : List Token) (from : ℕ) (t : Member) (rest : List Token) → Some (t, rest) ≡ (at names1 texts1 below).member ts → names1 ≡ names → texts1 ≡ texts → below ≡ 300 → ts ≡ drop from list →
    IsLongestAt (SpellsMember names texts) member_height list from t (length list - length rest) × (length rest ≤ length list)
member_found names texts _ _ _ list _ from t rest e p q r s = let f : Some (t, rest) ≡ (at names texts 300).member (drop from list) = rw (p, q, r, s) at e in
    found_by (SpellsMember names texts) member_height (members_leave_suffix names texts) (members_spell_some names texts) list from (at names texts 300).member (members_longest names texts 300) t rest f

pub no_member : (names texts names1 texts1 : List (List ℕ)) (below : ℕ) (list ts : List Token) (from : ℕ) → None ≡ (at names1 texts1 below).member ts → names1 ≡ names → texts1 ≡ texts → below ≡ 300 → ts ≡ drop from list →
    NoneBegins (SpellsMember names texts) member_height list from (fault_span list from)
no_member names texts _ _ _ list _ from e p q r s = let f : None ≡ (at names texts 300).member (drop from list) = rw (p, q, r, s) at e in
    none_by (SpellsMember names texts) member_height (members_leave_suffix names texts) (members_spell_some names texts) list from (at names texts 300).member (members_longest names texts 300) f

pub declaration_found : (names texts names1 texts1 : List (List ℕ)) (below : ℕ) (list ts : List Token) (from : ℕ) (t : Declaration) (rest : List Token) → Some (t, rest) ≡ declaration_at names1 texts1 below ts → names1 ≡ names → texts1 ≡ texts → below ≡ 300 → ts ≡ drop from list →
    IsLongestAt (SpellsDeclaration names texts) declaration_height list from t (length list - length rest) × (length rest ≤ length list)
declaration_found names texts _ _ _ list _ from t rest e p q r s = let f : Some (t, rest) ≡ declaration_at names texts 300 (drop from list) = rw (p, q, r, s) at e in
    found_by (SpellsDeclaration names texts) declaration_height (declarations_leave_suffix names texts) (declarations_spell_some names texts) list from (declaration_at names texts 300) (declarations_longest names texts 300) t rest f

pub no_declaration : (names texts names1 texts1 : List (List ℕ)) (below : ℕ) (list ts : List Token) (from : ℕ) → None ≡ declaration_at names1 texts1 below ts → names1 ≡ names → texts1 ≡ texts → below ≡ 300 → ts ≡ drop from list →
    NoneBegins (SpellsDeclaration names texts) declaration_height list from (fault_span list from)
no_declaration names texts _ _ _ list _ from e p q r s = let f : None ≡ declaration_at names texts 300 (drop from list) = rw (p, q, r, s) at e in
    none_by (SpellsDeclaration names texts) declaration_height (declarations_leave_suffix names texts) (declarations_spell_some names texts) list from (declaration_at names texts 300) (declarations_longest names texts 300) f
