-- What is read right is the longest tree at its place, and the only one.
use Rattle.std.proofs.Common.{◌≡◌, ℕ, ◌≤◌, max, List, [], length, Some, None, IfSome, refl, sym, ap, ◌∙◌, arith}
use Rattle.je_token.specs.declared.token.Token.{Token}
use Rattle.je_ast.specs.Trees.{Expression}
use Rattle.je_ast.specs.Height.{height, statement_height, member_height, declaration_height}
use Rattle.je_grammar.specs.Operators.{level}
use Rattle.je_grammar.specs.Grammar.{Spells, SpellsBlockStatement, SpellsMember, SpellsDeclaration}
use Rattle.je_grammar.specs.Longest.{IsLongest}
use Rattle.parse_laws.proofs.Rules.{same_some}
use Rattle.parse_laws.specs.way.Tokens.{Read}
use Rattle.parse_laws.specs.way.Readers.{IsRead, IsReader, Reads, itself, longer, reach, GoesOn, any, never}
use Rattle.parse_laws.specs.way.Knot.{at, declaration_at}
use Rattle.expression_laws.proofs.Begins.{lowest}
use Rattle.knot_laws.specs.Laws.{ReadsLongest, BeginsOnce, IsLongestOnce}
use Rattle.knot_laws.proofs.Knots.{at_is_below, declaration_is_read}

-- what is the same in an answer
pub same_read : {T : Type 0} {t u : T} {rest other : List Token} → ◌≡◌ {A = Read T} (Some (t, rest)) (Some (u, other)) → (t ≡ u) × (rest ≡ other)
same_read e = let s = same_some e in (ap (λ x. x.0) s, ap (λ x. x.1) s)

module _ {T : Type 0} (spells : T → List Token → List Token → Type 0) (height_of : T → ℕ) (asked : T → Type 0) (goes_on : T → List Token → Type 0) (all : (t : T) (ts rest : List Token) → spells t ts rest → asked t) where
  -- what is read leaves no more than another tree
  no_longer : (f : List Token → Read T) {x : T × List Token} (u : T) (ts other : List Token) → f ts ≡ Some x → Reads (f ts) u other (goes_on u other) → length x.1 ≤ length other
  no_longer f {x} u ts other e (itself q) = let a = same_read (sym e ∙ q) in let b = ap length a.1 in omega arith
  no_longer f {x} u ts other e (longer q lt g) = let a = same_read (sym e ∙ q) in let b = ap length a.1 in omega arith

  found_by : (most : ℕ) (f : List Token → Read T) → IsReader spells height_of asked goes_on most f → (ts : List Token) (o : Read T) → f ts ≡ o → IfSome o (IsRead spells height_of asked most ts) → IfSome o (λ x. IsLongest spells height_of most x.0 ts x.1)
  found_by most f r ts None e g = tt
  found_by most f r ts (Some x) e g = record { spelled = g.spelled; within = g.within; longest = λ u other d low. no_longer f u ts other e (r.exact u ts other d (all u ts other d) low) }

  none_by : (f : List Token → Read T) (t : T) (ts rest : List Token) → f ts ≡ None → ¬ Reads (f ts) t rest (goes_on t rest)
  none_by f t ts rest e (itself q) = let a = sym e ∙ q in cc
  none_by f t ts rest e (longer q lt g) = let a = sym e ∙ q in cc

  longest_by : (most : ℕ) (f : List Token → Read T) → IsReader spells height_of asked goes_on most f → (t : T) (ts rest : List Token) → IsLongest spells height_of most t ts rest → Reads (f ts) t rest (goes_on t rest) → f ts ≡ Some (t, rest)
  longest_by most f r t ts rest l (itself q) = q
  longest_by most f r t ts rest l (longer {u} {less} q lt g) = absurd (let s : IfSome (Some (u, less)) (IsRead spells height_of asked most ts) = rw q at (r.sound ts) in let a = l.longest u less s.spelled s.within in omega arith)

  pub reads_longest : (most : ℕ) (f : List Token → Read T) → IsReader spells height_of asked goes_on most f → ReadsLongest spells height_of most f
  reads_longest most f r = record {
    found = λ ts. found_by most f r ts (f ts) refl (r.sound ts);
    none = λ ts e t rest d low. none_by f t ts rest e (r.exact t ts rest d (all t ts rest d) low);
    longest = λ t ts rest l. longest_by most f r t ts rest l (r.exact t ts rest l.spelled (all t ts rest l.spelled) l.within);
  }

  whole_by : (o : Read T) (t : T) → Reads o t [] (goes_on t []) → o ≡ Some (t, [])
  whole_by o t (itself q) = q
  whole_by o t (longer q lt g) = absurd (omega arith)

  -- trees that spell all of the tokens are equal
  pub spells_once : (read : ℕ → List Token → Read T) → ((most : ℕ) → IsReader spells height_of asked goes_on most (read most)) → (t u : T) (ts : List Token) → spells t ts [] → spells u ts [] → t ≡ u
  spells_once read r t u ts d e =
      let most = max (height_of t) (height_of u) in
      let a = whole_by (read most ts) t ((r most).exact t ts [] d (all t ts [] d) (omega arith)) in
      let b = whole_by (read most ts) u ((r most).exact u ts [] e (all u ts [] e) (omega arith)) in
      (same_read (sym a ∙ b)).0

  pub longest_once : (read : ℕ → List Token → Read T) → ((most : ℕ) → IsReader spells height_of asked goes_on most (read most)) → IsLongestOnce spells height_of
  longest_once read r most t u ts rest other l k =
      let f = reads_longest most (read most) (r most) in same_read (sym (f.longest t ts rest l) ∙ f.longest u ts other k)

module _ {T : Type 0} (spells : T → List Token → List Token → Type 0) (height_of : T → ℕ) where
  itself_by : {o : Read T} {t : T} {rest : List Token} → Reads o t rest ⊥ → o ≡ Some (t, rest)
  itself_by (itself q) = q
  itself_by (longer q lt g) = absurd g

  pub begins_once : (read : ℕ → List Token → Read T) → ((most : ℕ) → IsReader spells height_of any never most (read most)) → BeginsOnce spells
  begins_once read r t u ts rest other d e =
      let most = max (height_of t) (height_of u) in
      same_read (sym (itself_by ((r most).exact t ts rest d tt (omega arith))) ∙ itself_by ((r most).exact u ts other e tt (omega arith)))

module _ (names texts : List (List ℕ)) where
  pub expressions_read : (most : ℕ) → IsReader (Spells names texts) height (λ e. 1 ≤ level e) (λ e rest. 1 ≤ reach rest) most ((at names texts most).expression 1)
  expressions_read most = (at_is_below names texts most).expression 1 (omega arith) (omega arith)

  pub any_expression : (e : Expression) (ts rest : List Token) → Spells names texts e ts rest → 1 ≤ level e
  any_expression e ts rest d = lowest names texts d

  pub statements_read : (most : ℕ) → IsReader (SpellsBlockStatement names texts) statement_height any GoesOn most (at names texts most).block_statement
  statements_read most = (at_is_below names texts most).block_statement

  pub members_read : (most : ℕ) → IsReader (SpellsMember names texts) member_height any never most (at names texts most).member
  members_read most = (at_is_below names texts most).member

  -- ---- the longest that are read

  pub expressions_longest : (most : ℕ) → ReadsLongest (Spells names texts) height most ((at names texts most).expression 1)
  expressions_longest most = reads_longest (Spells names texts) height (λ e. 1 ≤ level e) (λ e rest. 1 ≤ reach rest) any_expression most ((at names texts most).expression 1) (expressions_read most)

  pub statements_longest : (most : ℕ) → ReadsLongest (SpellsBlockStatement names texts) statement_height most (at names texts most).block_statement
  statements_longest most = reads_longest (SpellsBlockStatement names texts) statement_height any GoesOn (λ b ts rest d. tt) most (at names texts most).block_statement (statements_read most)

  pub members_longest : (most : ℕ) → ReadsLongest (SpellsMember names texts) member_height most (at names texts most).member
  members_longest most = reads_longest (SpellsMember names texts) member_height any never (λ m ts rest d. tt) most (at names texts most).member (members_read most)

  pub declarations_longest : (most : ℕ) → ReadsLongest (SpellsDeclaration names texts) declaration_height most (declaration_at names texts most)
  declarations_longest most = reads_longest (SpellsDeclaration names texts) declaration_height any never (λ d ts rest s. tt) most (declaration_at names texts most) (declaration_is_read names texts most)
