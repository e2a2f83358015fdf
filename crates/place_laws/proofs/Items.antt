-- Which item stands at a place is read as the grammar has it.
use Rattle.std.proofs.Common.{◌≡◌, ℕ, ◌<◌, ◌≤◌, Bool, false, List, ◌∷◌, length, Some, None, IfSome, refl, ◌∙◌, arith}
use Rattle.je_base.specs.declared.span.Span.{Span}
use Rattle.je_token.specs.declared.keyword.Keyword.TheVariants as word
use Rattle.je_token.specs.declared.symbol.Symbol.TheVariants as symbol
use Rattle.je_token.specs.declared.token.Token.{Token}
use Rattle.je_token.specs.declared.token.TokenKind.TheVariants as kind
use Rattle.je_ast.specs.Types.{QualifiedName}
use Rattle.je_ast.specs.Trees.{Expressions, Statement, Member, Declaration, ConstructorInvocation}
use Rattle.je_ast.specs.Trees as tree
use Rattle.je_ast.specs.Height.{heights}
use Rattle.je_grammar.specs.Tokens.{it_is, IsSymbol, first_span}
use Rattle.je_grammar.specs.Grammar.{SpellsConstructorInvocation, this_call, super_call}
use Rattle.je_grammar.specs.Longest.{IsLongestStatement, IsLongestMember, IsLongestDeclaration}
use Rattle.je_grammar.specs.Place.{Context, Reads, an_import, first_declaration, first_semicolon, a_declaration, semicolon_between, a_member, semicolon_in_body, a_constructor_invocation, first_statement, a_statement}
use Rattle.je_grammar.specs.Place as context
use Rattle.parse_laws.specs.way.Tokens.{behind, is_symbol}
use Rattle.parse_laws.specs.way.Expressions.{arguments_at}
use Rattle.parse_laws.specs.way.Members.{call_word_at, class_body_at, first_call_at}
use Rattle.parse_laws.specs.way.Knot.{at, declaration_at, import_at}
use Rattle.parse_laws.specs.way.Place.{declared_item_at, member_item_at, statement_item_at, item_at}
use Rattle.parse_laws.proofs.Rules.{bind, either, weaken, is_none, none_where}
use Rattle.parse_laws.proofs.Fronts.{Front, front, behind_front}
use Rattle.je_grammar.proofs.AtLeastOne.{statements_spell_some, members_spell_some, declarations_spell_some}
use Rattle.je_grammar.proofs.Sizes.{size-SpellsName, size-SpellsArguments}
use Rattle.expression_laws.proofs.Primaries.{GoodArguments, arguments_sound, front_of}
use Rattle.statement_laws.proofs.Stops.{begins_item, no_front, item_first}
use Rattle.member_laws.proofs.TypesRead.{types_are_read}
use Rattle.member_laws.proofs.Fronts.{member_stops, member_begins}
use Rattle.member_laws.proofs.Members.{CallWord, call_word_sound, call_of, bodies}
use Rattle.member_laws.proofs.MembersExact.{no_call_of, arguments_open, this_seen, super_seen, arguments_read}
use Rattle.knot_laws.proofs.Knots.{at_is_below}
use Rattle.knot_laws.proofs.Longest.{statements_longest, members_longest, declarations_longest}
use Rattle.unit_laws.proofs.Imports.{IsImport, is_import, import_sound, import_exact}
use Rattle.unit_laws.proofs.Files.{begins_declaration, declaration_begins, no_import_word, semicolon_no_import}
use Rattle.place_laws.proofs.Nests.{level-SpellsName, level-SpellsArguments, level-SpellsBlockStatement, level-SpellsMember, level-SpellsDeclaration}
use Rattle.place_laws.specs.way.Ends.{ends}

module _ (names texts : List (List ℕ)) (most : ℕ) where
  abbrev Read : Context → List Token → Context × List Token → Type 0
  Read x ts y = Reads names texts most x y.0 ts y.1

  -- ---- what is read stands there

  data Declared : List Token → Context × List Token → Type 0 where
    lone : {ts rest : List Token} → Front (kind.Symbol symbol.Semicolon) ts rest → Declared ts (context.declarations, rest)
    declared : {d : Declaration} {ts rest : List Token} → IsLongestDeclaration names texts most d ts rest → Declared ts (context.declarations, rest)

  declared_sound : (ts : List Token) → IfSome (declared_item_at names texts most ts) (Declared ts)
  unfolding declared_item_at
  declared_sound ts = either (behind symbol.Semicolon ts) _ _ (Front (kind.Symbol symbol.Semicolon) ts) (λ o. IfSome o (Declared ts)) (behind_front (kind.Symbol symbol.Semicolon) ts) (λ rest k. lone k)
      (bind (declaration_at names texts most ts) _ (λ x. IsLongestDeclaration names texts most x.0 ts x.1) (Declared ts) ((declarations_longest names texts most).found ts) (λ d l. declared l))

  at_first : {ts : List Token} {y : Context × List Token} → Declared ts y → Read context.imports ts y
  at_first (lone (front k)) = first_semicolon k
  at_first (declared l) = first_declaration l

  between : {ts : List Token} {y : Context × List Token} → Declared ts y → Read context.declarations ts y
  between (lone (front k)) = semicolon_between k
  between (declared l) = a_declaration l

  imported : {n : QualifiedName} {ts rest : List Token} → IsImport n ts rest → Reads names texts most context.imports context.imports ts rest
  imported (is_import w d c) = an_import w d c

  lone_member : {ts rest : List Token} → Front (kind.Symbol symbol.Semicolon) ts rest → Reads names texts most context.members context.members ts rest
  lone_member (front k) = semicolon_in_body k

  member_item_sound : (ts : List Token) → IfSome (member_item_at names texts most ts) (Read context.members ts)
  unfolding member_item_at
  member_item_sound ts = either (behind symbol.Semicolon ts) _ _ (Front (kind.Symbol symbol.Semicolon) ts) (λ o. IfSome o (Read context.members ts)) (behind_front (kind.Symbol symbol.Semicolon) ts) (λ rest k. lone_member k)
      (bind ((at names texts most).member ts) _ (λ x. IsLongestMember names texts most x.0 ts x.1) (Read context.members ts) ((members_longest names texts most).found ts) (λ m l. a_member l))

  data Stated : List Token → Context × List Token → Type 0 where
    stated : {b : Statement} {ts rest : List Token} → IsLongestStatement names texts most b ts rest → Stated ts (context.statements, rest)

  statement_sound : (ts : List Token) → IfSome (statement_item_at names texts most ts) (Stated ts)
  unfolding statement_item_at
  statement_sound ts = bind ((at names texts most).block_statement ts) _ (λ x. IsLongestStatement names texts most x.0 ts x.1) (Stated ts) ((statements_longest names texts most).found ts) (λ b l. stated l)

  in_constructor : {ts : List Token} {y : Context × List Token} → Stated ts y → Read context.constructor_body ts y
  in_constructor (stated l) = first_statement l

  in_block : {ts : List Token} {y : Context × List Token} → Stated ts y → Read context.statements ts y
  in_block (stated l) = a_statement l

  -- a call of another constructor, which no statement is
  record IsFirstCall (ts : List Token) (x : ConstructorInvocation × List Token) : Type 0 where
    begin : Bool × List Token
    inner : List Token
    begins : CallWord ts begin
    opens : Front (kind.Symbol symbol.OpenParen) begin.1 inner
    reads : Reads names texts most context.constructor_body context.statements ts x.1

  first_call_sound : (ts : List Token) → IfSome (first_call_at texts names most (at names texts most) ts) (IsFirstCall ts)
  unfolding first_call_at
  first_call_sound ts = let p = at names texts most in let below = at_is_below names texts most in
      bind (call_word_at ts) _ (CallWord ts) (IsFirstCall ts) (call_word_sound ts)
      (λ w f. bind (arguments_at texts most p (class_body_at texts names most p) w.1) _ (GoodArguments names texts most w.1) (IsFirstCall ts)
      (arguments_sound names texts most p (class_body_at texts names most p) below (bodies names texts most p below) (types_are_read most) w.1)
      (λ es a. bind (behind symbol.Semicolon es.2) _ (Front (kind.Symbol symbol.Semicolon) es.2) (IsFirstCall ts) (behind_front (kind.Symbol symbol.Semicolon) es.2)
      (λ rest k. let o = front_of (kind.Symbol symbol.OpenParen) w.1 (arguments_open names texts a.spelled) in
      record { begin = w; inner = o.0; begins = f; opens = o.1; reads = a_constructor_invocation (call_of names texts f a.spelled k) a.within })))

  pub item_sound : (x : Context) (ts : List Token) → IfSome (item_at names texts most x ts) (λ y. Reads names texts most x y.0 ts y.1)
  unfolding item_at
  item_sound context.imports ts = either (import_at names texts ts) _ _ (λ n. IsImport n.0 ts n.1) (λ o. IfSome o (Read context.imports ts)) (import_sound names texts ts) (λ n i. imported i)
      (weaken (declared_item_at names texts most ts) (Declared ts) (Read context.imports ts) (declared_sound ts) (λ y d. at_first d))
  item_sound context.declarations ts = weaken (declared_item_at names texts most ts) (Declared ts) (Read context.declarations ts) (declared_sound ts) (λ y d. between d)
  item_sound context.members ts = member_item_sound ts
  item_sound context.constructor_body ts = either (first_call_at texts names most (at names texts most) ts) _ _ (IsFirstCall ts) (λ o. IfSome o (Read context.constructor_body ts)) (first_call_sound ts) (λ f g. g.reads)
      (weaken (statement_item_at names texts most ts) (Stated ts) (Read context.constructor_body ts) (statement_sound ts) (λ y d. in_constructor d))
  item_sound context.statements ts = weaken (statement_item_at names texts most ts) (Stated ts) (Read context.statements ts) (statement_sound ts) (λ y d. in_block d)

  -- ---- what stands there is read

  lone_read : {t : Token} (rest : List Token) → IsSymbol symbol.Semicolon t → declared_item_at names texts most (t ∷ rest) ≡ Some (context.declarations, rest)
  unfolding declared_item_at
  lone_read rest it_is = refl

  declared_read : {d : Declaration} {ts rest : List Token} → IsLongestDeclaration names texts most d ts rest → declared_item_at names texts most ts ≡ Some (context.declarations, rest)
  unfolding declared_item_at
  declared_read {d} {ts} {rest} l =
      rw (no_front begins_declaration (kind.Symbol symbol.Semicolon) ts refl (declaration_begins names texts l.spelled), (declarations_longest names texts most).longest d ts rest l) refl

  lone_member_read : {t : Token} (rest : List Token) → IsSymbol symbol.Semicolon t → member_item_at names texts most (t ∷ rest) ≡ Some (context.members, rest)
  unfolding member_item_at
  lone_member_read rest it_is = refl

  member_read : {m : Member} {ts rest : List Token} → IsLongestMember names texts most m ts rest → member_item_at names texts most ts ≡ Some (context.members, rest)
  unfolding member_item_at
  member_read {m} {ts} {rest} l = rw ((member_stops (member_begins names texts l.spelled)).1, (members_longest names texts most).longest m ts rest l) refl

  statement_read : {b : Statement} {ts rest : List Token} → IsLongestStatement names texts most b ts rest → statement_item_at names texts most ts ≡ Some (context.statements, rest)
  unfolding statement_item_at
  statement_read {b} {ts} {rest} l = rw ((statements_longest names texts most).longest b ts rest l) refl

  no_call_before : {b : Statement} {ts rest : List Token} → IsLongestStatement names texts most b ts rest → first_call_at texts names most (at names texts most) ts ≡ None
  no_call_before {ts = ts} l = let o = first_call_at texts names most (at names texts most) ts in
      is_none o (none_where o (IsFirstCall ts) (first_call_sound ts) (λ x g. no_call_of names texts l.spelled g.begins g.opens))

  call_by : {w : Bool × List Token} {es : Expressions} {c : Span} {k : Token} (ts : List Token) {rest : List Token} → call_word_at ts ≡ Some w → arguments_at texts most (at names texts most) (class_body_at texts names most (at names texts most)) w.1 ≡ Some (es, c, k ∷ rest) → IsSymbol symbol.Semicolon k →
      first_call_at texts names most (at names texts most) ts ≡ Some (tree.explicit w.0 (first_span ts) es, rest)
  unfolding first_call_at
  call_by ts e a it_is = rw (e, a) refl

  call_read : {m : Bool} {w : Span} {es : Expressions} {ts rest : List Token} → SpellsConstructorInvocation names texts (tree.explicit m w es) ts rest → heights es ≤ most →
      (f : ConstructorInvocation) × (first_call_at texts names most (at names texts most) ts ≡ Some (f, rest))
  call_read {ts = all} (this_call {ts = ts} w a k) low = (_, call_by all (this_seen names texts ts w) (arguments_read names texts most (at names texts most) (at_is_below names texts most) a low) k)
  call_read {ts = all} (super_call {ts = ts} w a k) low = (_, call_by all (super_seen names texts ts w) (arguments_read names texts most (at names texts most) (at_is_below names texts most) a low) k)

  in_imports : (ts : List Token) → import_at names texts ts ≡ None → item_at names texts most context.imports ts ≡ declared_item_at names texts most ts
  unfolding item_at
  in_imports ts e = rw e refl

  import_first : {n : QualifiedName} (ts rest : List Token) → import_at names texts ts ≡ Some (n, rest) → item_at names texts most context.imports ts ≡ Some (context.imports, rest)
  unfolding item_at
  import_first ts rest e = rw e refl

  call_first : {f : ConstructorInvocation} (ts rest : List Token) → first_call_at texts names most (at names texts most) ts ≡ Some (f, rest) → item_at names texts most context.constructor_body ts ≡ Some (context.statements, rest)
  unfolding item_at
  call_first ts rest e = rw e refl

  no_call_first : (ts : List Token) → first_call_at texts names most (at names texts most) ts ≡ None → item_at names texts most context.constructor_body ts ≡ statement_item_at names texts most ts
  unfolding item_at
  no_call_first ts e = rw e refl

  declaration_no_import : {d : Declaration} {ts rest : List Token} → IsLongestDeclaration names texts most d ts rest → import_at names texts ts ≡ None
  declaration_no_import {ts = ts} l = no_import_word names texts ts (no_front begins_declaration (kind.Keyword word.Import) ts refl (declaration_begins names texts l.spelled))

  pub item_exact : {x y : Context} {ts rest : List Token} → Reads names texts most x y ts rest → item_at names texts most x ts ≡ Some (y, rest)
  unfolding item_at
  item_exact {ts = ts} {rest} (an_import w d c) = import_first ts rest (import_exact names texts (is_import w d c))
  item_exact {ts = ts} (first_declaration l) = in_imports ts (declaration_no_import l) ∙ declared_read l
  item_exact {ts = ts} {rest} (first_semicolon k) = in_imports ts (no_import_word names texts ts (semicolon_no_import names texts rest k)) ∙ lone_read rest k
  item_exact (a_declaration l) = declared_read l
  item_exact {rest = rest} (semicolon_between k) = lone_read rest k
  item_exact (a_member l) = member_read l
  item_exact {rest = rest} (semicolon_in_body k) = lone_member_read rest k
  item_exact {ts = ts} {rest} (a_constructor_invocation s low) = call_first ts rest (call_read s low).1
  item_exact {ts = ts} (first_statement l) = no_call_first ts (no_call_before l) ∙ statement_read l
  item_exact (a_statement l) = statement_read l

  -- ---- what an item leaves

  call_no_bracket : {m : Bool} {w : Span} {es : Expressions} {ts rest : List Token} → SpellsConstructorInvocation names texts (tree.explicit m w es) ts rest → (is_symbol symbol.CloseBrace ts ≡ false) × (length rest < length ts) × (ends ts ≡ ends rest)
  call_no_bracket (this_call it_is a it_is) = let s = size-SpellsArguments names texts a in let e = (level-SpellsArguments names texts a).ended in (refl, omega arith, e)
  call_no_bracket (super_call it_is a it_is) = let s = size-SpellsArguments names texts a in let e = (level-SpellsArguments names texts a).ended in (refl, omega arith, e)

  -- it begins with no `}`, is not empty, and has no file's end
  pub record Leaves (ts rest : List Token) : Type 0 where
    pub no_bracket : is_symbol symbol.CloseBrace ts ≡ false
    pub shorter : length rest < length ts
    pub ended : ends ts ≡ ends rest

  import_leaves : {n : QualifiedName} {ts rest : List Token} → IsImport n ts rest → Leaves ts rest
  import_leaves (is_import {ts = ts} it_is d it_is) = record { no_bracket = refl; shorter = let a = size-SpellsName d in omega arith; ended = (level-SpellsName d).ended }

  lone_leaves : {k : Token} (rest : List Token) → IsSymbol symbol.Semicolon k → Leaves (k ∷ rest) rest
  lone_leaves rest it_is = record { no_bracket = refl; shorter = omega arith; ended = refl }

  declaration_leaves : {d : Declaration} {ts rest : List Token} → IsLongestDeclaration names texts most d ts rest → Leaves ts rest
  declaration_leaves {ts = ts} l = record {
    no_bracket = rw (no_front begins_declaration (kind.Symbol symbol.CloseBrace) ts refl (declaration_begins names texts l.spelled)) refl;
    shorter = declarations_spell_some names texts _ _ _ l.spelled;
    ended = (level-SpellsDeclaration names texts l.spelled).ended;
  }

  statement_leaves : {b : Statement} {ts rest : List Token} → IsLongestStatement names texts most b ts rest → Leaves ts rest
  statement_leaves {ts = ts} l = record {
    no_bracket = rw (no_front begins_item (kind.Symbol symbol.CloseBrace) ts refl (item_first names texts l.spelled)) refl;
    shorter = statements_spell_some names texts _ _ _ l.spelled;
    ended = (level-SpellsBlockStatement names texts l.spelled).ended;
  }

  pub reads_leave : {x y : Context} {ts rest : List Token} → Reads names texts most x y ts rest → Leaves ts rest
  reads_leave (an_import w d c) = import_leaves (is_import w d c)
  reads_leave (first_declaration l) = declaration_leaves l
  reads_leave {rest = rest} (first_semicolon k) = lone_leaves rest k
  reads_leave (a_declaration l) = declaration_leaves l
  reads_leave {rest = rest} (semicolon_between k) = lone_leaves rest k
  reads_leave (a_member l) = record {
    no_bracket = rw (member_stops (member_begins names texts l.spelled)).0 refl;
    shorter = members_spell_some names texts _ _ _ l.spelled;
    ended = (level-SpellsMember names texts l.spelled).ended;
  }
  reads_leave {rest = rest} (semicolon_in_body k) = lone_leaves rest k
  reads_leave (a_constructor_invocation s low) = let a = call_no_bracket s in record { no_bracket = a.0; shorter = a.1; ended = a.2 }
  reads_leave (first_statement l) = statement_leaves l
  reads_leave (a_statement l) = statement_leaves l
