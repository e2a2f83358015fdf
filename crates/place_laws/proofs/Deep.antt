-- An item whose braces nest deeper than the height can't be read.
use Rattle.std.proofs.Common.{◌≡◌, ℕ, suc, ◌≤◌, true, false, List, ◌∷◌, length, Some, None, IfSome, refl, sym, ap, ◌∙◌, subst, arith, ◌||◌}
use Rattle.je_base.specs.declared.span.Span.{Span}
use Rattle.je_token.specs.declared.keyword.Keyword.TheVariants as word
use Rattle.je_token.specs.declared.symbol.Symbol.TheVariants as symbol
use Rattle.je_token.specs.declared.token.Token.{Token}
use Rattle.je_token.specs.declared.token.TokenKind.TheVariants as kind
use Rattle.je_ast.specs.declared.decl.Modifier.{Modifier}
use Rattle.je_ast.specs.Trees.{Statement, Statements, Member, Members, MaybeBlock, Declaration, ConstructorInvocation}
use Rattle.je_ast.specs.Trees as tree
use Rattle.je_ast.specs.Height.{statements_height, member_height, members_height, block_height_if, constructor_invocation_height}
use Rattle.je_ast.specs.Spans.{join}
use Rattle.je_grammar.specs.Tokens.{it_is, IsWord, IsSymbol, first_span}
use Rattle.je_grammar.specs.Types.{SpellsModifiers}
use Rattle.je_grammar.specs.Grammar.{SpellsBlock, SpellsBody, is_body, SpellsConstructorInvocation, SpellsMaybeBlock, without_body, with_body, SpellsMember, is_type, is_field, is_method, is_constructor, is_initializer, is_static_initializer, is_class, is_interface, is_enum}
use Rattle.je_grammar.specs.Place.{Context, HasDeclarations, before_imports_end, in_file, in_body, HasStatements, in_constructor, in_block, Opens, opens_class, opens_interface, opens_local_class, opens_method, opens_constructor, opens_initializer, opens_static_initializer, opens_block}
use Rattle.je_grammar.specs.Place as context
use Rattle.place_laws.proofs.Heads.{brace_no_throws}
use Rattle.parse_laws.specs.way.Tokens.{◌>>=◌, behind, behind_word, is_word}
use Rattle.parse_laws.specs.way.Types.{modifiers_at, begins_local_at}
use Rattle.parse_laws.specs.way.Below.{Below, BlockTree}
use Rattle.parse_laws.specs.way.Readers.{IsBelow, IsRead, SpellsBlockTree, is_block_tree, block_tree_height, any}
use Rattle.parse_laws.specs.way.Statements.{block_statements_at, inner_block_at, statement_layer}
use Rattle.parse_laws.specs.way.Members.{ClassHead, InterfaceHead, MethodHead, class_head_at, interface_head_at, method_head_at, constructor_head_at, begins_declared_at, begins_constructor_at, begins_method_at, begins_local_class_at, begins_initializer_at, class_body_at, class_at, interface_at, declared_at, declaration_layer, local_class_at, method_body_at, method_at, first_call_at, explicit_or_implicit_at, constructor_at, initializer_at, modified_at, member_layer}
use Rattle.parse_laws.specs.way.Knot.{block_statement_over, layer, at, declaration_at, import_at}
use Rattle.parse_laws.specs.way.Place.{nest, declared_item_at, member_item_at, statement_item_at, item_at}
use Rattle.parse_laws.proofs.Rules.{bind, weaken}
use Rattle.parse_laws.proofs.Fronts.{front}
use Rattle.type_laws.specs.Heads.{class_head, interface_head, method_head, constructor_head}
use Rattle.type_laws.proofs.Types.{name_front, type_begins}
use Rattle.type_laws.proofs.Openings.{class_head_exact, interface_head_exact, method_head_exact, constructor_head_exact}
use Rattle.type_laws.proofs.Public.{class_heads_sound_law, interface_heads_sound_law, constructor_heads_sound_law}
use Rattle.statement_laws.proofs.Stops.{first_is, no_front}
use Rattle.statement_laws.proofs.Loops.{no_type_here, no_local}
use Rattle.statement_laws.proofs.Lists.{ClosedRead, block_statements_sound}
use Rattle.member_laws.proofs.Fronts.{class_front, interface_front, type_front, result_begins, no_initializer, member_stops, class_begins, interface_begins, enum_begins}
use Rattle.member_laws.proofs.Fronts as member_front
use Rattle.member_laws.proofs.Declarations.{modifiers_before, declares_class, declares_interface, declares_enum}
use Rattle.member_laws.proofs.LocalClasses.{modifiers_seen}
use Rattle.member_laws.proofs.Bodies.{body_sound}
use Rattle.member_laws.proofs.Members.{IsCall, call_sound}
use Rattle.member_laws.proofs.MembersExact.{IsMethod, method_seen, field_seen, variable_front, declares_seen, semicolon_stops, constructor_seen, as_constructor}
use Rattle.expression_laws.specs.way.Parts.{IsBodyRead}
use Rattle.knot_laws.proofs.Layers.{statement_by}
use Rattle.knot_laws.proofs.Knots.{at_is_below}
use Rattle.knot_laws.proofs.Longest.{members_longest, same_read}
use Rattle.unit_laws.proofs.Files.{begins_declaration, modifiers_begin, no_import_word}
use Rattle.place_laws.proofs.Nests.{then_closed, level-SpellsBlock, level-SpellsMembers, level-SpellsConstructorInvocation}

module _ (names texts : List (List ℕ)) (h : ℕ) (p : Below) (below : IsBelow names texts h p) where
  -- braces behind this place nest no deeper than what is read below
  abbrev Shallow : List Token → Type 0
  Shallow inner = (nest inner).0 ≤ h

  -- ---- bodies and blocks

  shallow_body : {ms : Members} {c : Span} {o : Token} {inner rest : List Token} → SpellsBody names texts ms c (o ∷ inner) rest → members_height ms ≤ h → Shallow inner
  shallow_body (is_body o d) low = let a = (level-SpellsMembers names texts d).depth in omega arith

  body_is_shallow : (o : Token) (inner : List Token) → IfSome (class_body_at texts names h p (o ∷ inner)) (λ x. Shallow inner)
  body_is_shallow o inner = weaken (class_body_at texts names h p (o ∷ inner)) (IsBodyRead names texts h (o ∷ inner)) (λ x. Shallow inner) (body_sound names texts h p below (o ∷ inner)) (λ x g. shallow_body g.spelled g.within)

  statements_are_shallow : (inner : List Token) → IfSome (block_statements_at h p inner) (λ x. Shallow inner)
  statements_are_shallow inner = weaken (block_statements_at h p inner) (ClosedRead (SpellsBlock names texts) statements_height h inner) (λ x. Shallow inner) (block_statements_sound names texts h p below inner)
      (λ x g. let a = (level-SpellsBlock names texts g.spelled).depth in let b = g.within in omega arith)

  shallow_block : {b : BlockTree} {o : Token} {inner rest : List Token} → SpellsBlockTree names texts b (o ∷ inner) rest → block_tree_height b ≤ h → Shallow inner
  shallow_block (is_block_tree o d) low = let a = (level-SpellsBlock names texts d).depth in omega arith

  block_is_shallow : (o : Token) (inner : List Token) → IfSome (p.block (o ∷ inner)) (λ x. Shallow inner)
  block_is_shallow o inner = weaken (p.block (o ∷ inner)) (IsRead (SpellsBlockTree names texts) block_tree_height any h (o ∷ inner)) (λ x. Shallow inner) (below.block.sound (o ∷ inner)) (λ x g. shallow_block g.spelled g.within)

  shallow_call : {f : ConstructorInvocation} {bs : Statements} {c : Span} {inner mid rest : List Token} → SpellsConstructorInvocation names texts f inner mid → constructor_invocation_height f ≤ h → SpellsBlock names texts bs c mid rest → statements_height bs ≤ h → Shallow inner
  shallow_call f i b j = let a = (then_closed (level-SpellsConstructorInvocation names texts f) (level-SpellsBlock names texts b)).depth in omega arith

  constructor_rest : {o : Token} {inner us : List Token} (make : ConstructorInvocation × List Token → Statements × Span × List Token → Member × List Token) → us ≡ o ∷ inner → IsSymbol symbol.OpenBrace o →
      IfSome (behind symbol.OpenBrace us >>= explicit_or_implicit_at texts names h p >>= λ f. block_statements_at h p f.1 >>= λ b. Some (make f b)) (λ x. Shallow inner)
  constructor_rest {o} {inner} {us} make e i =
      subst (λ (vs : List Token). IfSome (behind symbol.OpenBrace vs >>= explicit_or_implicit_at texts names h p >>= λ f. block_statements_at h p f.1 >>= λ b. Some (make f b)) (λ x. Shallow inner)) (sym e) (go i)
    where
      go : {u : Token} → IsSymbol symbol.OpenBrace u → IfSome (behind symbol.OpenBrace (u ∷ inner) >>= explicit_or_implicit_at texts names h p >>= λ f. block_statements_at h p f.1 >>= λ b. Some (make f b)) (λ x. Shallow inner)
      go it_is = bind (explicit_or_implicit_at texts names h p inner) _ (IsCall names texts h inner) (λ x. Shallow inner) (call_sound names texts h p below inner)
          (λ f g. bind (block_statements_at h p f.1) _ (ClosedRead (SpellsBlock names texts) statements_height h f.1) (λ x. Shallow inner) (block_statements_sound names texts h p below f.1) (λ b k. shallow_call g.spelled g.within k.spelled k.within))

  -- ---- heads, and bodies behind them

  class_is_shallow : (ms : List Modifier) (s : Span) {most : ℕ} {c : ClassHead} {o : Token} (ts inner : List Token) → h ≤ most → class_head_at most ts ≡ Some (c, o ∷ inner) → IfSome (class_at texts names h p ms s ts) (λ x. Shallow inner)
  unfolding class_at
  class_is_shallow ms s {most} {c} {o} ts inner le e =
      bind (class_head_at h ts) _ (λ x. x.1 ≡ o ∷ inner) (λ x. Shallow inner) (weaken (class_head_at h ts) _ (λ x. x.1 ≡ o ∷ inner) (class_heads_sound_law h ts) (λ x g. (same_read (sym (class_head_exact most g.0 (let a = g.1 in omega arith)) ∙ e)).1))
      (λ x q. bind (class_body_at texts names h p x.1) _ (λ b. Shallow inner) (λ y. Shallow inner) (subst (λ us. IfSome (class_body_at texts names h p us) (λ b. Shallow inner)) (sym q) (body_is_shallow o inner)) (λ b g. g))

  interface_is_shallow : (ms : List Modifier) (s : Span) {most : ℕ} {c : InterfaceHead} {o : Token} (ts inner : List Token) → h ≤ most → interface_head_at most ts ≡ Some (c, o ∷ inner) → IfSome (interface_at texts names h p ms s ts) (λ x. Shallow inner)
  unfolding interface_at
  interface_is_shallow ms s {most} {c} {o} ts inner le e =
      bind (interface_head_at h ts) _ (λ x. x.1 ≡ o ∷ inner) (λ x. Shallow inner) (weaken (interface_head_at h ts) _ (λ x. x.1 ≡ o ∷ inner) (interface_heads_sound_law h ts) (λ x g. (same_read (sym (interface_head_exact most g.0 (let a = g.1 in omega arith)) ∙ e)).1))
      (λ x q. bind (class_body_at texts names h p x.1) _ (λ b. Shallow inner) (λ y. Shallow inner) (subst (λ us. IfSome (class_body_at texts names h p us) (λ b. Shallow inner)) (sym q) (body_is_shallow o inner)) (λ b g. g))

  method_body_is_shallow : {o : Token} (inner : List Token) → IsSymbol symbol.OpenBrace o → IfSome (method_body_at texts names h p (o ∷ inner)) (λ x. Shallow inner)
  unfolding method_body_at
  method_body_is_shallow {o} inner it_is = bind (p.block (o ∷ inner)) _ (λ x. Shallow inner) (λ x. Shallow inner) (block_is_shallow o inner) (λ x g. g)

  method_is_shallow : (ms : List Modifier) (s : Span) {o : Token} (ts inner : List Token) → IsSymbol symbol.OpenBrace o → IfSome (method_head_at h ts) (λ x. x.1 ≡ o ∷ inner) → IfSome (method_at texts names h p ms s ts) (λ x. Shallow inner)
  unfolding method_at
  method_is_shallow ms s {o} ts inner i e =
      bind (method_head_at h ts) _ (λ x. x.1 ≡ o ∷ inner) (λ x. Shallow inner) e
      (λ x q. bind (method_body_at texts names h p x.1) _ (λ b. Shallow inner) (λ y. Shallow inner) (subst (λ us. IfSome (method_body_at texts names h p us) (λ b. Shallow inner)) (sym q) (method_body_is_shallow inner i)) (λ b g. g))

  constructor_is_shallow : (ms : List Modifier) (s : Span) {o : Token} (ts inner : List Token) → IsSymbol symbol.OpenBrace o → IfSome (constructor_head_at h ts) (λ x. x.1 ≡ o ∷ inner) → IfSome (constructor_at texts names h p ms s ts) (λ x. Shallow inner)
  unfolding constructor_at
  constructor_is_shallow ms s {o} ts inner i e =
      bind (constructor_head_at h ts) _ (λ x. x.1 ≡ o ∷ inner) (λ x. Shallow inner) e
      (λ x q. constructor_rest (λ f b. (tree.constructor ms x.0.name x.0.formals x.0.throws f.0 (first_span x.1) b.0 b.1 (join s b.1), b.2)) q i)

  -- ---- dispatch

  declared_class : (ms : List Modifier) (s : Span) (ts : List Token) → is_word word.Class ts ≡ true → declared_at texts names h p ms s ts ≡ class_at texts names h p ms s ts
  unfolding declared_at
  declared_class ms s ts e = rw e refl

  declared_interface : (ms : List Modifier) (s : Span) (ts : List Token) → is_word word.Class ts ≡ false → is_word word.Interface ts ≡ true → declared_at texts names h p ms s ts ≡ interface_at texts names h p ms s ts
  unfolding declared_at
  declared_interface ms s ts e f = rw (e, f) refl

  behind_modifiers : {ms : List Modifier} (ts : List Token) {mid : List Token} → modifiers_at names ts ≡ (ms, mid) → declaration_layer texts names h p ts ≡ declared_at texts names h p ms (first_span ts) mid
  unfolding declaration_layer
  behind_modifiers ts e = rw e refl

  local_behind : {ms : List Modifier} (ts : List Token) {mid : List Token} → modifiers_at names ts ≡ (ms, mid) → local_class_at texts names h p ts ≡ class_at texts names h p ms (first_span ts) mid
  unfolding local_class_at
  local_behind ts e = rw e refl

  member_behind : {ms : List Modifier} (ts : List Token) {mid : List Token} → begins_initializer_at ts ≡ false → modifiers_at names ts ≡ (ms, mid) → member_layer texts names h p ts ≡ modified_at texts names h p ms (first_span ts) mid
  unfolding member_layer
  member_behind ts n e = rw (n, e) refl

  modified_declared : (ms : List Modifier) (s : Span) (ts : List Token) → begins_declared_at ts ≡ true → modified_at texts names h p ms s ts ≡ (declared_at texts names h p ms s ts >>= λ d. Some (tree.member_type d.0, d.1))
  unfolding modified_at
  modified_declared ms s ts e = rw e refl

  local_over : (ts : List Token) → begins_local_class_at (length ts) ts ≡ true → block_statement_over names texts h p ts ≡ (local_class_at texts names h p ts >>= λ d. Some (tree.local_class d.0, d.1))
  unfolding block_statement_over
  local_over ts e = rw e refl

  initializer_is_shallow : {o : Token} (inner : List Token) → IsSymbol symbol.OpenBrace o → IfSome (member_layer texts names h p (o ∷ inner)) (λ x. Shallow inner)
  unfolding member_layer initializer_at
  initializer_is_shallow {o} inner it_is = bind (p.block (o ∷ inner)) _ (λ x. Shallow inner) (λ x. Shallow inner) (block_is_shallow o inner) (λ x g. g)

  static_is_shallow : {w o : Token} (inner : List Token) → IsWord word.Static w → IsSymbol symbol.OpenBrace o → IfSome (member_layer texts names h p (w ∷ o ∷ inner)) (λ x. Shallow inner)
  unfolding member_layer initializer_at
  static_is_shallow {o = o} inner it_is it_is = bind (p.block (o ∷ inner)) _ (λ x. Shallow inner) (λ x. Shallow inner) (block_is_shallow o inner) (λ x g. g)

  brace_no_local_class : {o : Token} (inner : List Token) → IsSymbol symbol.OpenBrace o → begins_local_class_at (length (o ∷ inner)) (o ∷ inner) ≡ false
  unfolding begins_local_class_at
  brace_no_local_class inner it_is = refl

  brace_no_local : {o : Token} (inner : List Token) → IsSymbol symbol.OpenBrace o → (is_word word.Final (o ∷ inner) || begins_local_at h (o ∷ inner)) ≡ false
  brace_no_local inner it_is = no_local h (_ ∷ inner) (no_type_here (_ ∷ inner) refl)

  block_by : {o : Token} (inner : List Token) → IsSymbol symbol.OpenBrace o → IfSome (statement_layer h p (o ∷ inner)) (λ x. Shallow inner)
  unfolding statement_layer inner_block_at
  block_by inner it_is = bind (block_statements_at h p inner) _ (λ x. Shallow inner) (λ x. Shallow inner) (statements_are_shallow inner) (λ x g. g)

  block_over : {o : Token} (inner : List Token) → IsSymbol symbol.OpenBrace o → IfSome (block_statement_over names texts h p (o ∷ inner)) (λ x. Shallow inner)
  block_over {o} inner i = rw (statement_by names texts h p below (o ∷ inner) (brace_no_local_class inner i) (brace_no_local inner i)) (block_by inner i)

-- ---- the items of each context

same_second : {A B : Type 0} {o a b : A × B} → o ≡ a → o ≡ b → a.1 ≡ b.1
same_second {A} {B} e f = ap (λ (x : A × B). x.1) (sym e ∙ f)

module _ (names texts : List (List ℕ)) (h : ℕ) where
  at_member : (ts : List Token) → (at names texts (suc h)).member ts ≡ member_layer texts names h (at names texts h) ts
  unfolding at layer
  at_member ts = refl

  at_statement : (ts : List Token) → (at names texts (suc h)).block_statement ts ≡ block_statement_over names texts h (at names texts h) ts
  unfolding at layer
  at_statement ts = refl

  at_declaration : (ts : List Token) → declaration_at names texts (suc h) ts ≡ declaration_layer texts names h (at names texts h) ts
  unfolding declaration_at
  at_declaration ts = refl

  -- what holds wherever an item is read
  abbrev WhereRead : Type 0 → Context → List Token → Type 0
  WhereRead S x ts = IfSome (item_at names texts (suc h) x ts) (λ y. S)

  declared_item : (S : Type 0) (ts : List Token) → behind symbol.Semicolon ts ≡ None → IfSome (declaration_at names texts (suc h) ts) (λ x. S) → IfSome (declared_item_at names texts (suc h) ts) (λ y. S)
  unfolding declared_item_at
  declared_item S ts e g = rw e (bind (declaration_at names texts (suc h) ts) _ (λ x. S) (λ y. S) g (λ d s. s))

  in_imports : (S : Type 0) (ts : List Token) → import_at names texts ts ≡ None → IfSome (declared_item_at names texts (suc h) ts) (λ y. S) → WhereRead S context.imports ts
  unfolding item_at
  in_imports S ts e g = rw e g

  in_declarations : (S : Type 0) (ts : List Token) → IfSome (declared_item_at names texts (suc h) ts) (λ y. S) → WhereRead S context.declarations ts
  unfolding item_at
  in_declarations S ts g = g

  in_members : (S : Type 0) (ts : List Token) → behind symbol.Semicolon ts ≡ None → IfSome ((at names texts (suc h)).member ts) (λ x. S) → WhereRead S context.members ts
  unfolding item_at member_item_at
  in_members S ts e g = rw e (bind ((at names texts (suc h)).member ts) _ (λ x. S) (λ y. S) g (λ d s. s))

  statement_item : (S : Type 0) (ts : List Token) → IfSome (block_statement_over names texts h (at names texts h) ts) (λ x. S) → IfSome (statement_item_at names texts (suc h) ts) (λ y. S)
  unfolding statement_item_at
  statement_item S ts g = rw (at_statement ts) (bind (block_statement_over names texts h (at names texts h) ts) _ (λ x. S) (λ y. S) g (λ d s. s))

  no_call_word : (ts : List Token) → behind_word word.This ts ≡ None → behind_word word.Super ts ≡ None → first_call_at texts names (suc h) (at names texts (suc h)) ts ≡ None
  unfolding first_call_at
  no_call_word ts e f = rw (e, f) refl

  in_constructors : (S : Type 0) (ts : List Token) → first_call_at texts names (suc h) (at names texts (suc h)) ts ≡ None → IfSome (statement_item_at names texts (suc h) ts) (λ y. S) → WhereRead S context.constructor_body ts
  unfolding item_at
  in_constructors S ts e g = rw e g

  in_blocks : (S : Type 0) (ts : List Token) → IfSome (statement_item_at names texts (suc h) ts) (λ y. S) → WhereRead S context.statements ts
  unfolding item_at
  in_blocks S ts g = g

  no_semicolon : (ts : List Token) → first_is begins_declaration ts ≡ true → behind symbol.Semicolon ts ≡ None
  no_semicolon ts f = no_front begins_declaration (kind.Symbol symbol.Semicolon) ts refl f

  in_statements : {x : Context} (S : Type 0) (ts : List Token) → HasStatements x → first_is begins_declaration ts ≡ true → IfSome (block_statement_over names texts h (at names texts h) ts) (λ x. S) → WhereRead S x ts
  in_statements S ts in_constructor f g =
      in_constructors S ts (no_call_word ts (no_front begins_declaration (kind.Keyword word.This) ts refl f) (no_front begins_declaration (kind.Keyword word.Super) ts refl f)) (statement_item S ts g)
  in_statements S ts in_block f g = in_blocks S ts (statement_item S ts g)

  in_types : {x : Context} (S : Type 0) {ms : List Modifier} (ts : List Token) {mid : List Token} → HasDeclarations x → first_is begins_declaration ts ≡ true → begins_initializer_at ts ≡ false → modifiers_at names ts ≡ (ms, mid) → begins_declared_at mid ≡ true →
      IfSome (declared_at texts names h (at names texts h) ms (first_span ts) mid) (λ d. S) → WhereRead S x ts
  in_types S ts before_imports_end f n e d g =
      in_imports S ts (no_import_word names texts ts (no_front begins_declaration (kind.Keyword word.Import) ts refl f))
      (declared_item S ts (no_semicolon ts f) (rw (at_declaration ts, behind_modifiers names texts h (at names texts h) (at_is_below names texts h) ts e) g))
  in_types S ts in_file f n e d g =
      in_declarations S ts (declared_item S ts (no_semicolon ts f) (rw (at_declaration ts, behind_modifiers names texts h (at names texts h) (at_is_below names texts h) ts e) g))
  in_types S {ms} ts {mid} in_body f n e d g =
      in_members S ts (no_semicolon ts f)
      (rw (at_member ts, member_behind names texts h (at names texts h) (at_is_below names texts h) ts n e, modified_declared names texts h (at names texts h) (at_is_below names texts h) ms (first_span ts) mid d)
      (bind (declared_at texts names h (at names texts h) ms (first_span ts) mid) _ (λ d. S) (λ y. S) g (λ d s. s)))

  -- ---- methods

  brace_body : {b : MaybeBlock} {c : Span} {o : Token} {inner rest : List Token} → IsSymbol symbol.OpenBrace o → SpellsMaybeBlock names texts b c (o ∷ inner) rest → block_height_if b ≤ h → (nest inner).0 ≤ h
  brace_body it_is (without_body i) low = elim i [ ]
  brace_body i (with_body o d) low = let a = (level-SpellsBlock names texts d).depth in omega arith

  body_there : {b : MaybeBlock} {c : Span} {o : Token} {inner last rest : List Token} → last ≡ o ∷ inner → IsSymbol symbol.OpenBrace o → SpellsMaybeBlock names texts b c last rest → block_height_if b ≤ h → (nest inner).0 ≤ h
  body_there {b} {c} {rest = rest} e i d low = brace_body i (subst (λ us. SpellsMaybeBlock names texts b c us rest) e d) low

  -- behind its modifiers stands a method, and no other member
  method_there : {m : Member} {ms : List Modifier} {k : MethodHead} {o : Token} {ts mid inner rest : List Token} → SpellsMember names texts m ts rest → member_height m ≤ suc h → modifiers_at names ts ≡ (ms, mid) → begins_initializer_at ts ≡ false → IsMethod (suc h) mid →
      method_head_at (suc h) mid ≡ Some (k, o ∷ inner) → IsSymbol symbol.OpenBrace o → (nest inner).0 ≤ h
  method_there (is_type (is_class m c)) low e n k f o =
      absurd (let a = ap begins_declared_at (same_second e (modifiers_before names m (class_begins names texts c))) in let b = declares_seen names texts (declares_class c) in let d = k.no_declared in cc)
  method_there (is_type (is_interface m c)) low e n k f o =
      absurd (let a = ap begins_declared_at (same_second e (modifiers_before names m (interface_begins names texts c))) in let b = declares_seen names texts (declares_interface c) in let d = k.no_declared in cc)
  method_there (is_type (is_enum m c)) low e n k f o =
      absurd (let a = ap begins_declared_at (same_second e (modifiers_before names m (enum_begins names texts c))) in let b = declares_seen names texts (declares_enum c) in let d = k.no_declared in cc)
  method_there (is_field {mid = mid} m y v c) low e n k f o =
      absurd (let a = ap (begins_method_at (suc h)) (same_second e (modifiers_before names m (type_front (type_begins y)))) in let b = (field_seen (suc h) mid y (omega arith) (variable_front names texts v c)).no_method in let d = k.a_method in cc)
  method_there (is_method {mid = mid} {end = end} m r i fs ns b) low e n k f o =
      let q = same_second e (modifiers_before names m (result_begins r)) in
      let g = method_head_exact (suc h) (method_head r i fs ns) (omega arith) (semicolon_stops names texts b) in
      body_there ((same_read (sym g ∙ sym (ap (method_head_at (suc h)) q) ∙ f)).1) o b (omega arith)
  method_there (is_constructor {t = t} {next = next} m i fs ns x w b) low e n k f o =
      absurd (let a = ap begins_constructor_at (same_second e (modifiers_before names m (type_front (name_front i)))) in let s = (constructor_seen (constructor_head i fs ns x)).1 in let d = k.no_constructor in cc)
  method_there (is_initializer it_is d) low e n k f o = absurd cc
  method_there (is_static_initializer it_is it_is d) low e n k f o = absurd cc

  -- ---- what opens

  class_first : {w t : Token} {ms : List Modifier} {ts mid : List Token} → SpellsModifiers names ms ts (w ∷ t ∷ mid) → IsWord word.Class w → (first_is begins_declaration ts ≡ true) × (is_word word.Class (w ∷ t ∷ mid) ≡ true) × (begins_declared_at (w ∷ t ∷ mid) ≡ true)
  class_first m it_is = (modifiers_begin names m refl, refl, refl)

  interface_first : {w t : Token} {ms : List Modifier} {ts mid : List Token} → SpellsModifiers names ms ts (w ∷ t ∷ mid) → IsWord word.Interface w → (first_is begins_declaration ts ≡ true) × (is_word word.Class (w ∷ t ∷ mid) ≡ false) × (is_word word.Interface (w ∷ t ∷ mid) ≡ true) × (begins_declared_at (w ∷ t ∷ mid) ≡ true)
  interface_first m it_is = (modifiers_begin names m refl, refl, refl, refl)

  static_no_semicolon : {w : Token} (ts : List Token) → IsWord word.Static w → behind symbol.Semicolon (w ∷ ts) ≡ None
  static_no_semicolon ts it_is = refl

  brace_first : {o : Token} (inner : List Token) → IsSymbol symbol.OpenBrace o → first_is begins_declaration (o ∷ inner) ≡ true
  brace_first inner it_is = refl

  pub shallow : {x y : Context} {ts inner : List Token} → Opens names texts (suc h) x y ts inner → IfSome (item_at names texts (suc h) x ts) (λ y. (nest inner).0 ≤ h)
  shallow {ts = ts} {inner} (opens_class {ms = ms} {w} {t} {mid = mid} has m i j ps e is o low) =
      let p = at names texts h in let below = at_is_below names texts h in let f = class_first m i in let q = modifiers_before names m (class_front i) in
      in_types ((nest inner).0 ≤ h) ts has f.0 (no_initializer names m (class_front i)) q f.2
      (rw (declared_class names texts h p below ms (first_span ts) (w ∷ t ∷ mid) f.1)
      (class_is_shallow names texts h p below ms (first_span ts) {most = suc h} (w ∷ t ∷ mid) inner (omega arith) (class_head_exact (suc h) (class_head i j ps e is o) low)))
  shallow {ts = ts} {inner} (opens_interface {ms = ms} {w} {t} {mid = mid} has m i j ps es o low) =
      let p = at names texts h in let below = at_is_below names texts h in let f = interface_first m i in let q = modifiers_before names m (interface_front i) in
      in_types ((nest inner).0 ≤ h) ts has f.0 (no_initializer names m (interface_front i)) q f.3
      (rw (declared_interface names texts h p below ms (first_span ts) (w ∷ t ∷ mid) f.1 f.2)
      (interface_is_shallow names texts h p below ms (first_span ts) {most = suc h} (w ∷ t ∷ mid) inner (omega arith) (interface_head_exact (suc h) (interface_head i j ps es o) low)))
  shallow {ts = ts} {inner} (opens_local_class {ms = ms} {w} {t} {mid = mid} has l m i j ps e is o low) =
      let p = at names texts h in let below = at_is_below names texts h in let f = class_first m i in let q = modifiers_before names m (class_front i) in
      in_statements ((nest inner).0 ≤ h) ts has f.0
      (rw (local_over names texts h p below ts (modifiers_seen names (length ts) m l (front i) (omega arith)), local_behind names texts h p below ts q)
      (bind (class_at texts names h p ms (first_span ts) (w ∷ t ∷ mid)) _ (λ x. (nest inner).0 ≤ h) (λ y. (nest inner).0 ≤ h)
      (class_is_shallow names texts h p below ms (first_span ts) {most = suc h} (w ∷ t ∷ mid) inner (omega arith) (class_head_exact (suc h) (class_head i j ps e is o) low)) (λ d s. s)))
  shallow {ts = ts} {inner} (opens_method {mid = mid} m r i fs ns o low) =
      let k = method_head r i fs ns in
      in_members ((nest inner).0 ≤ h) ts (member_stops (member_front.modifiers_begin names m (result_begins r))).1
      (weaken ((at names texts (suc h)).member ts) _ (λ x. (nest inner).0 ≤ h) ((members_longest names texts (suc h)).found ts)
      (λ x g. method_there g.spelled g.within (modifiers_before names m (result_begins r)) (no_initializer names m (result_begins r)) (method_seen (suc h) k low) (method_head_exact (suc h) k low (brace_no_throws inner o)) o))
  shallow {ts = ts} {inner} (opens_constructor {ms = ms} {t} {next = next} m i fs ns o low) =
      let p = at names texts h in let below = at_is_below names texts h in let k = constructor_head i fs ns o in let s = constructor_seen k in let q = modifiers_before names m (type_front (name_front i)) in
      in_members ((nest inner).0 ≤ h) ts (member_stops (member_front.modifiers_begin names m (type_front (name_front i)))).1
      (rw (at_member ts, member_behind names texts h p below ts (no_initializer names m (type_front (name_front i))) q, as_constructor names texts h p below ms (first_span ts) (t ∷ next) s.0 s.1)
      (constructor_is_shallow names texts h p below ms (first_span ts) (t ∷ next) inner o
      (weaken (constructor_head_at h (t ∷ next)) _ (λ x. x.1 ≡ _ ∷ inner) (constructor_heads_sound_law h (t ∷ next)) (λ x g. (same_read (sym (constructor_head_exact (suc h) g.0 (let a = g.1 in omega arith)) ∙ constructor_head_exact (suc h) k low)).1))))
  shallow {ts = ts} {inner} (opens_initializer o) =
      in_members ((nest inner).0 ≤ h) ts (no_semicolon ts (brace_first inner o)) (rw (at_member ts) (initializer_is_shallow names texts h (at names texts h) (at_is_below names texts h) inner o))
  shallow {ts = ts} {inner} (opens_static_initializer w o) =
      in_members ((nest inner).0 ≤ h) ts (static_no_semicolon _ w) (rw (at_member ts) (static_is_shallow names texts h (at names texts h) (at_is_below names texts h) inner w o))
  shallow {ts = ts} {inner} (opens_block has o) =
      in_statements ((nest inner).0 ≤ h) ts has (brace_first inner o) (block_over names texts h (at names texts h) (at_is_below names texts h) inner o)
