-- Each member is read where it is spelled.
use Rattle.std.proofs.Common.{◌≡◌, ℕ, suc, ◌≤◌, Bool, true, false, List, ◌∷◌, Some, None, refl, ◌∙◌, arith, inl, inr}
use Rattle.std.proofs.lemmas.Bool.{cases_Bool}
use Rattle.je_base.specs.declared.span.Span.{Span}
use Rattle.je_token.specs.declared.keyword.Keyword.TheVariants as word
use Rattle.je_token.specs.declared.symbol.Symbol.TheVariants as symbol
use Rattle.je_token.specs.declared.token.Token.{Token}
use Rattle.je_token.specs.declared.token.TokenKind.TheVariants as kind
use Rattle.je_ast.specs.declared.ty_name.Primitive.TheVariants as prim
use Rattle.je_ast.specs.declared.decl.Modifier.{Modifier}
use Rattle.je_ast.specs.Types.{QualifiedName, TypeName, FormalParameter, type_height}
use Rattle.je_ast.specs.Trees.{Expressions, Statements, Statement, Variables, Member, MaybeBlock, ConstructorInvocation, Declaration, MaybeExpression}
use Rattle.je_ast.specs.Trees as tree
use Rattle.je_ast.specs.Height.{heights, statements_height, member_height, declaration_height, block_height_if, constructor_invocation_height}
use Rattle.je_ast.specs.Spans.{join}
use Rattle.je_grammar.specs.Tokens.{it_is, IsWord, IsSymbol, IsIdentifier, first_span}
use Rattle.je_grammar.specs.Types.{SpellsName, simple_name, qualified_name, SpellsDims, no_dims, more_dims, SpellsTypeName, primitive_type, reference_type, plain_ref, ref_with_arguments, SpellsModifiers, void_result, typed_result, SpellsFormals, no_formals, some_formals}
use Rattle.je_grammar.specs.Grammar.{SpellsArguments, no_arguments, some_arguments, SpellsVariables, last_variable, more_variables, SpellsMaybeInit, without_init, with_init, SpellsBlockStatement, last_statement, more_statements, SpellsBlock, empty_block, full_block, SpellsMember, is_type, is_field, is_method, is_constructor, is_initializer, is_static_initializer, SpellsMaybeBlock, without_body, with_body, SpellsConstructorInvocation, no_call, this_call, super_call, is_class, is_interface, is_enum, class_declaration, interface_declaration, enum_declaration}
use Rattle.je_grammar.proofs.Beginnings.{no_statement_of_call}
use Rattle.parse_laws.specs.way.Tokens.{with, is_symbol, is_word}
use Rattle.parse_laws.specs.way.Types.{type_at, past_type_at, modifiers_at}
use Rattle.parse_laws.specs.way.Below.{BlockTree, Below}
use Rattle.parse_laws.specs.way.Readers.{IsBelow, itself, longer, is_block_tree}
use Rattle.parse_laws.specs.way.Expressions.{arguments_at}
use Rattle.parse_laws.specs.way.Statements.{variables_at, block_statements_at}
use Rattle.parse_laws.specs.way.Members.{MethodHead, ConstructorHead, method_head_at, constructor_head_at, begins_declared_at, begins_constructor_at, begins_method_at, begins_initializer_at, call_word_at, class_body_at, declared_at, method_body_at, method_at, first_call_at, explicit_or_implicit_at, constructor_at, field_at, initializer_at, modified_at, member_layer}
use Rattle.parse_laws.proofs.Rules.{either}
use Rattle.parse_laws.proofs.Fronts.{Front, front}
use Rattle.expression_laws.proofs.Primaries.{front_of}
use Rattle.expression_laws.proofs.Inner.{arguments_exact}
use Rattle.type_laws.specs.Laws.{types_on, throws_on}
use Rattle.type_laws.specs.Heads.{SpellsMethodHead, method_head, method_height, SpellsConstructorHead, constructor_head}
use Rattle.type_laws.proofs.Types.{TypeFront, primitive_front, name_front, type_begins}
use Rattle.type_laws.proofs.Public.{types_complete_law, past_types_exact_law}
use Rattle.type_laws.proofs.Openings.{method_head_exact, constructor_head_exact}
use Rattle.member_laws.specs.way.Parts.{ReadStatements}
use Rattle.member_laws.proofs.TypesRead.{types_are_read}
use Rattle.member_laws.proofs.Fronts.{ItemFront, type_front, result_begins, no_initializer}
use Rattle.member_laws.proofs.Declarations.{modifiers_before, Declares, declares_class, declares_interface, declares_enum, declares_begins, declared_exact}
use Rattle.member_laws.proofs.Members.{bodies, CallWord, this_word, super_word, call_word_sound}

-- ---- which member stands behind the modifiers

-- a type, and an identifier behind it: no declaration, no constructor
type_no_declared : {ts : List Token} → TypeFront ts → (begins_declared_at ts ≡ false) × (is_word word.Void ts ≡ false)
type_no_declared (primitive_front prim.Boolean it_is) = (refl, refl)
type_no_declared (primitive_front prim.Byte it_is) = (refl, refl)
type_no_declared (primitive_front prim.Short it_is) = (refl, refl)
type_no_declared (primitive_front prim.Char it_is) = (refl, refl)
type_no_declared (primitive_front prim.Int it_is) = (refl, refl)
type_no_declared (primitive_front prim.Long it_is) = (refl, refl)
type_no_declared (name_front it_is) = (refl, refl)

dims_then_name : {n : ℕ} {s e : Span} {t : Token} {ts rest : List Token} → SpellsDims n s e ts (t ∷ rest) → IsIdentifier t → is_symbol symbol.OpenParen ts ≡ false
dims_then_name no_dims it_is = refl
dims_then_name (more_dims it_is k d) i = refl

reference_then_name : {q : QualifiedName} {ts mid : List Token} → SpellsName q ts mid → is_symbol symbol.OpenParen mid ≡ false → begins_constructor_at ts ≡ false
reference_then_name (simple_name it_is) e = e
reference_then_name (qualified_name it_is it_is d) e = refl

type_no_constructor : {ty : TypeName} {t : Token} {ts rest : List Token} → SpellsTypeName ty ts (t ∷ rest) → IsIdentifier t → begins_constructor_at ts ≡ false
type_no_constructor (primitive_type {p = prim.Boolean} it_is d) i = refl
type_no_constructor (primitive_type {p = prim.Byte} it_is d) i = refl
type_no_constructor (primitive_type {p = prim.Short} it_is d) i = refl
type_no_constructor (primitive_type {p = prim.Char} it_is d) i = refl
type_no_constructor (primitive_type {p = prim.Int} it_is d) i = refl
type_no_constructor (primitive_type {p = prim.Long} it_is d) i = refl
type_no_constructor (reference_type (plain_ref q) d) i = reference_then_name q (dims_then_name d i)
type_no_constructor (reference_type (ref_with_arguments q it_is a) d) i = reference_then_name q refl

identifier_goes_on : {t : Token} (rest : List Token) → IsIdentifier t → types_on (t ∷ rest) ≡ false
identifier_goes_on rest it_is = refl

name_then : {t : Token} (next : List Token) → IsIdentifier t → begins_constructor_at (t ∷ next) ≡ is_symbol symbol.OpenParen next
name_then next it_is = refl

formals_open : {fs : List FormalParameter} {ts rest : List Token} → SpellsFormals fs ts rest → is_symbol symbol.OpenParen ts ≡ true
formals_open (no_formals it_is c) = refl
formals_open (some_formals it_is d) = refl

past_type : (h : ℕ) {ty : TypeName} {t : Token} (ts next : List Token) → SpellsTypeName ty ts (t ∷ next) → IsIdentifier t → type_height ty ≤ h → past_type_at h ts ≡ Some (t ∷ next)
past_type h {ty} {t} ts next d i low = past_types_exact_law h ty ts (t ∷ next) (d, low) (identifier_goes_on next i)

method_begins_by : (h : ℕ) {t : Token} (ts : List Token) {next : List Token} → is_word word.Void ts ≡ false → past_type_at h ts ≡ Some (t ∷ next) → IsIdentifier t → begins_method_at h ts ≡ is_symbol symbol.OpenParen next
unfolding begins_method_at
method_begins_by h ts {next} v e i = rw (v, e) (name_then next i)

-- a method, as what stands before its bracket says
pub record IsMethod (h : ℕ) (ts : List Token) : Type 0 where
  pub no_declared : begins_declared_at ts ≡ false
  pub no_constructor : begins_constructor_at ts ≡ false
  pub a_method : begins_method_at h ts ≡ true

void_seen : (h : ℕ) {w : Token} (ts : List Token) → IsWord word.Void w → IsMethod h (w ∷ ts)
unfolding begins_method_at
void_seen h ts it_is = record { no_declared = refl; no_constructor = refl; a_method = refl }

pub method_seen : (h : ℕ) {m : MethodHead} {ts rest : List Token} → SpellsMethodHead m ts rest → method_height m ≤ h → IsMethod h ts
method_seen h (method_head (void_result {rest = rest} w) i fs ns) low = void_seen h rest w
method_seen h (method_head {ts = ts} {next} (typed_result d) i fs ns) low =
    let a = type_no_declared (type_begins d) in
    record {
      no_declared = a.0;
      no_constructor = type_no_constructor d i;
      a_method = method_begins_by h ts a.1 (past_type h ts next d i (omega arith)) i ∙ formals_open fs;
    }

-- an identifier with no bracket behind it
pub data Variable : List Token → Type 0 where
  a_variable : {t : Token} {next : List Token} → IsIdentifier t → is_symbol symbol.OpenParen next ≡ false → Variable (t ∷ next)

dims_then : {n : ℕ} {s e : Span} {ts rest : List Token} → SpellsDims n s e ts rest → is_symbol symbol.OpenParen rest ≡ false → is_symbol symbol.OpenParen ts ≡ false
dims_then no_dims e = e
dims_then (more_dims it_is k d) e = refl

-- a field, as what stands behind its first name says
pub record IsField (h : ℕ) (ts : List Token) : Type 0 where
  pub no_declared : begins_declared_at ts ≡ false
  pub no_constructor : begins_constructor_at ts ≡ false
  pub no_method : begins_method_at h ts ≡ false

pub field_seen : (h : ℕ) {ty : TypeName} (ts : List Token) {last : List Token} → SpellsTypeName ty ts last → type_height ty ≤ h → Variable last → IsField h ts
field_seen h ts d low (a_variable {next = next} i n) =
    let a = type_no_declared (type_begins d) in
    record { no_declared = a.0; no_constructor = type_no_constructor d i; no_method = method_begins_by h ts a.1 (past_type h ts next d i low) i ∙ n }

variable_stops : {ts : List Token} → Variable ts → types_on ts ≡ false
variable_stops (a_variable {next = next} i n) = identifier_goes_on next i

pub constructor_seen : {c : ConstructorHead} {ts rest : List Token} → SpellsConstructorHead c ts rest → (begins_declared_at ts ≡ false) × (begins_constructor_at ts ≡ true)
constructor_seen (constructor_head it_is fs ns o) = (refl, formals_open fs)

module _ (names texts : List (List ℕ)) where
  init_before_semicolon : {e : MaybeExpression} {c : Token} {ts rest : List Token} → SpellsMaybeInit names texts e ts (c ∷ rest) → IsSymbol symbol.Semicolon c → is_symbol symbol.OpenParen ts ≡ false
  init_before_semicolon without_init it_is = refl
  init_before_semicolon (with_init it_is d) c = refl

  init_before_comma : {e : MaybeExpression} {c : Token} {ts rest : List Token} → SpellsMaybeInit names texts e ts (c ∷ rest) → IsSymbol symbol.Comma c → is_symbol symbol.OpenParen ts ≡ false
  init_before_comma without_init it_is = refl
  init_before_comma (with_init it_is d) c = refl

  pub variable_front : {vs : Variables} {c : Token} {ts rest : List Token} → SpellsVariables names texts vs ts (c ∷ rest) → IsSymbol symbol.Semicolon c → Variable ts
  variable_front (last_variable i d e) c = a_variable i (dims_then d (init_before_semicolon e c))
  variable_front (more_variables i d e k vs) c = a_variable i (dims_then d (init_before_comma e k))

  pub declares_seen : {ms : List Modifier} {s : Span} {d : Declaration} {ts rest : List Token} → Declares names texts ms s d ts rest → begins_declared_at ts ≡ true
  declares_seen (declares_class (class_declaration it_is t ps e is b)) = refl
  declares_seen (declares_interface (interface_declaration it_is t ps es b)) = refl
  declares_seen (declares_enum (enum_declaration it_is t o cs k e c)) = refl

  -- ---- the call of another constructor

  pub arguments_open : {es : Expressions} {c : Span} {ts rest : List Token} → SpellsArguments names texts es c ts rest → is_symbol symbol.OpenParen ts ≡ true
  arguments_open (no_arguments it_is c) = refl
  arguments_open (some_arguments it_is l c) = refl

  no_this_call : {b : Statement} {ts mid behind_it rest : List Token} → SpellsBlockStatement names texts b ts rest → Front (kind.Keyword word.This) ts mid → ¬ Front (kind.Symbol symbol.OpenParen) mid behind_it
  no_this_call d (front w) (front o) = no_statement_of_call {k = word.This} (record { no_type = refl; no_modifiers = refl; no_declaration = refl }) refl names texts refl w o d

  no_super_call : {b : Statement} {ts mid behind_it rest : List Token} → SpellsBlockStatement names texts b ts rest → Front (kind.Keyword word.Super) ts mid → ¬ Front (kind.Symbol symbol.OpenParen) mid behind_it
  no_super_call d (front w) (front o) = no_statement_of_call {k = word.Super} (record { no_type = refl; no_modifiers = refl; no_declaration = refl }) refl names texts refl w o d

  pub no_call_of : {w : Bool × List Token} {b : Statement} {ts behind_it rest : List Token} → SpellsBlockStatement names texts b ts rest → CallWord ts w → ¬ Front (kind.Symbol symbol.OpenParen) w.1 behind_it
  no_call_of d (this_word f) o = no_this_call d f o
  no_call_of d (super_word f) o = no_super_call d f o

  brace_no_word : {w : Bool × List Token} {c : Token} {ts : List Token} → IsSymbol symbol.CloseBrace c → ¬ CallWord (c ∷ ts) w
  brace_no_word it_is (this_word (front i)) = elim i [ ]
  brace_no_word it_is (super_word (front i)) = elim i [ ]

  no_call_in : {w : Bool × List Token} {bs : Statements} {c : Span} {ts behind_it rest : List Token} → SpellsBlock names texts bs c ts rest → CallWord ts w → ¬ Front (kind.Symbol symbol.OpenParen) w.1 behind_it
  no_call_in (empty_block c) f o = brace_no_word c f
  no_call_in (full_block (last_statement d) c) f o = no_call_of d f o
  no_call_in (full_block (more_statements d ds) c) f o = no_call_of d f o

  no_bracket : {w : Bool × List Token} {bs : Statements} {c : Span} {ts rest : List Token} → SpellsBlock names texts bs c ts rest → CallWord ts w → is_symbol symbol.OpenParen w.1 ≡ false
  no_bracket {w} d f = elim (cases_Bool (is_symbol symbol.OpenParen w.1)) [
    | inl t ↦ let o = front_of (kind.Symbol symbol.OpenParen) w.1 t in absurd (no_call_in d f o.1)
    | inr e ↦ e
  ]

  -- a block begins with no such call
  no_call_first : {bs : Statements} {c : Span} (ts : List Token) {rest : List Token} → SpellsBlock names texts bs c ts rest → with (call_word_at ts) (λ w. is_symbol symbol.OpenParen w.1) false ≡ false
  no_call_first ts d = either (call_word_at ts) (λ w. is_symbol symbol.OpenParen w.1) false (CallWord ts) (λ (b : Bool). b ≡ false) (call_word_sound ts) (λ w f. no_bracket d f) refl

  pub this_seen : {w : Token} (ts : List Token) → IsWord word.This w → call_word_at (w ∷ ts) ≡ Some (false, ts)
  this_seen ts it_is = refl

  pub super_seen : {w : Token} (ts : List Token) → IsWord word.Super w → call_word_at (w ∷ ts) ≡ Some (true, ts)
  super_seen ts it_is = refl

  pub semicolon_stops : {b : MaybeBlock} {c : Span} {ts rest : List Token} → SpellsMaybeBlock names texts b c ts rest → throws_on ts ≡ false
  semicolon_stops (without_body it_is) = refl
  semicolon_stops (with_body it_is d) = refl

  module _ (h : ℕ) (p : Below) (below : IsBelow names texts h p) where
    block_read : {o : Token} {bs : Statements} {c : Span} (ts rest : List Token) → IsSymbol symbol.OpenBrace o → SpellsBlock names texts bs c ts rest → suc (statements_height bs) ≤ h →
        p.block (o ∷ ts) ≡ Some (record { opening = o.span; statements = bs; closing = c }, rest)
    block_read {o} {bs} {c} ts rest i d low = elim (below.block.exact (record { opening = o.span; statements = bs; closing = c }) (o ∷ ts) rest (is_block_tree i d) tt low) [
      | itself e ↦ e
      | longer e lt goes ↦ absurd goes
    ]

    body_by : {b : BlockTree} {o : Token} (ts : List Token) {rest : List Token} → IsSymbol symbol.OpenBrace o → p.block (o ∷ ts) ≡ Some (b, rest) →
        method_body_at texts names h p (o ∷ ts) ≡ Some (tree.a_block b.opening b.statements b.closing, b.closing, rest)
    unfolding method_body_at
    body_by ts it_is e = rw e refl

    no_body_by : {c : Token} (rest : List Token) → IsSymbol symbol.Semicolon c → method_body_at texts names h p (c ∷ rest) ≡ Some (tree.no_block, c.span, rest)
    unfolding method_body_at
    no_body_by rest it_is = refl

    method_body_exact : {b : MaybeBlock} {c : Span} {ts rest : List Token} → SpellsMaybeBlock names texts b c ts rest → block_height_if b ≤ h → method_body_at texts names h p ts ≡ Some (b, c, rest)
    method_body_exact {rest = rest} (without_body c) low = no_body_by rest c
    method_body_exact {rest = rest} (with_body {ts = ts} o d) low = body_by ts o (block_read ts rest o d low)

    method_by : (ms : List Modifier) (s : Span) {m : MethodHead} {b : MaybeBlock} {c : Span} (ts : List Token) {mid rest : List Token} → method_head_at h ts ≡ Some (m, mid) → method_body_at texts names h p mid ≡ Some (b, c, rest) →
        method_at texts names h p ms s ts ≡ Some (tree.method ms m.result m.name m.formals m.throws b (join s c), rest)
    unfolding method_at
    method_by ms s ts a b = rw (a, b) refl

    call_by : {w : Bool × List Token} {es : Expressions} {c : Span} {k : Token} (ts : List Token) {rest : List Token} → call_word_at ts ≡ Some w → is_symbol symbol.OpenParen w.1 ≡ true →
        arguments_at texts h p (class_body_at texts names h p) w.1 ≡ Some (es, c, k ∷ rest) → IsSymbol symbol.Semicolon k → explicit_or_implicit_at texts names h p ts ≡ Some (tree.explicit w.0 (first_span ts) es, rest)
    unfolding explicit_or_implicit_at first_call_at
    call_by ts e f a it_is = rw (e, f, a) refl

    implicit_by : (ts : List Token) → with (call_word_at ts) (λ w. is_symbol symbol.OpenParen w.1) false ≡ false → explicit_or_implicit_at texts names h p ts ≡ Some (tree.implicit, ts)
    unfolding explicit_or_implicit_at
    implicit_by ts e = rw e refl

    pub arguments_read : {es : Expressions} {c : Span} {ts rest : List Token} → SpellsArguments names texts es c ts rest → heights es ≤ h → arguments_at texts h p (class_body_at texts names h p) ts ≡ Some (es, c, rest)
    arguments_read a low = arguments_exact names texts h p (class_body_at texts names h p) below (bodies names texts h p below) (types_are_read h) a low

    call_exact : {f : ConstructorInvocation} {bs : Statements} {c : Span} {ts mid rest : List Token} → SpellsConstructorInvocation names texts f ts mid → SpellsBlock names texts bs c mid rest → constructor_invocation_height f ≤ h →
        explicit_or_implicit_at texts names h p ts ≡ Some (f, mid)
    call_exact {ts = ts} no_call d low = implicit_by ts (no_call_first ts d)
    call_exact {ts = all} (this_call {ts = ts} w a k) d low = call_by all (this_seen ts w) (arguments_open a) (arguments_read a low) k
    call_exact {ts = all} (super_call {ts = ts} w a k) d low = call_by all (super_seen ts w) (arguments_open a) (arguments_read a low) k

    constructor_by : (ms : List Modifier) (s : Span) {c : ConstructorHead} {f : ConstructorInvocation} {bs : Statements} {k : Span} {o : Token} (ts body : List Token) {inner rest : List Token} →
        constructor_head_at h ts ≡ Some (c, o ∷ body) → IsSymbol symbol.OpenBrace o → explicit_or_implicit_at texts names h p body ≡ Some (f, inner) → block_statements_at h p inner ≡ Some (bs, k, rest) →
        constructor_at texts names h p ms s ts ≡ Some (tree.constructor ms c.name c.formals c.throws f o.span bs k (join s k), rest)
    unfolding constructor_at
    constructor_by ms s ts body a it_is e b = rw (a, e, b) refl

    field_by : (ms : List Modifier) (s : Span) {t : TypeName} {vs : Variables} {c : Token} (ts : List Token) {last : List Token} (rest : List Token) → type_at h ts ≡ Some (t, last) → variables_at h p last ≡ Some (vs, c ∷ rest) → IsSymbol symbol.Semicolon c →
        field_at texts names h p ms s ts ≡ Some (tree.field ms t vs (join s c.span), rest)
    unfolding field_at
    field_by ms s ts rest a b it_is = rw (a, b) refl

    plain_by : {b : BlockTree} {o : Token} (ts : List Token) {rest : List Token} → IsSymbol symbol.OpenBrace o → p.block (o ∷ ts) ≡ Some (b, rest) →
        member_layer texts names h p (o ∷ ts) ≡ Some (tree.initializer None b.opening b.statements b.closing (join o.span b.closing), rest)
    unfolding member_layer initializer_at
    plain_by ts it_is e = rw e refl

    static_by : {b : BlockTree} {w o : Token} (ts : List Token) {rest : List Token} → IsWord word.Static w → IsSymbol symbol.OpenBrace o → p.block (o ∷ ts) ≡ Some (b, rest) →
        member_layer texts names h p (w ∷ o ∷ ts) ≡ Some (tree.initializer (Some w.span) b.opening b.statements b.closing (join w.span b.closing), rest)
    unfolding member_layer initializer_at
    static_by ts it_is it_is e = rw e refl

    layer_by : {ms : List Modifier} {m : Member} (ts : List Token) {mid rest : List Token} → begins_initializer_at ts ≡ false → modifiers_at names ts ≡ (ms, mid) → modified_at texts names h p ms (first_span ts) mid ≡ Some (m, rest) →
        member_layer texts names h p ts ≡ Some (m, rest)
    unfolding member_layer
    layer_by ts n e f = rw (n, e, f) refl

    behind_modifiers : {ms : List Modifier} {m : Member} (ts : List Token) {mid rest : List Token} → SpellsModifiers names ms ts mid → ItemFront mid → modified_at texts names h p ms (first_span ts) mid ≡ Some (m, rest) →
        member_layer texts names h p ts ≡ Some (m, rest)
    behind_modifiers ts ms i e = layer_by ts (no_initializer names ms i) (modifiers_before names ms i) e

    as_declared : (ms : List Modifier) (s : Span) {d : Declaration} (ts : List Token) {rest : List Token} → begins_declared_at ts ≡ true → declared_at texts names h p ms s ts ≡ Some (d, rest) →
        modified_at texts names h p ms s ts ≡ Some (tree.member_type d, rest)
    unfolding modified_at
    as_declared ms s ts e f = rw (e, f) refl

    pub as_constructor : (ms : List Modifier) (s : Span) (ts : List Token) → begins_declared_at ts ≡ false → begins_constructor_at ts ≡ true → modified_at texts names h p ms s ts ≡ constructor_at texts names h p ms s ts
    unfolding modified_at
    as_constructor ms s ts a b = rw (a, b) refl

    pub as_method : (ms : List Modifier) (s : Span) {ts : List Token} → IsMethod h ts → modified_at texts names h p ms s ts ≡ method_at texts names h p ms s ts
    unfolding modified_at
    as_method ms s m = rw (m.no_declared, m.no_constructor, m.a_method) refl

    as_field : (ms : List Modifier) (s : Span) {ts : List Token} → IsField h ts → modified_at texts names h p ms s ts ≡ field_at texts names h p ms s ts
    unfolding modified_at
    as_field ms s f = rw (f.no_declared, f.no_constructor, f.no_method) refl

    declaration_read : {ms : List Modifier} {d : Declaration} (ts : List Token) {mid rest : List Token} → SpellsModifiers names ms ts mid → Declares names texts ms (first_span ts) d mid rest → declaration_height d ≤ suc h →
        member_layer texts names h p ts ≡ Some (tree.member_type d, rest)
    declaration_read {ms} ts {mid} m c low = behind_modifiers ts m (declares_begins names texts c) (as_declared ms (first_span ts) mid (declares_seen c) (declared_exact names texts h p below c low))

    module _ (parts : ReadStatements names texts h p) where
      pub member_exact : {m : Member} {ts rest : List Token} → SpellsMember names texts m ts rest → member_height m ≤ suc h → member_layer texts names h p ts ≡ Some (m, rest)
      member_exact {ts = ts} (is_type (is_class ms c)) low = declaration_read ts ms (declares_class c) low
      member_exact {ts = ts} (is_type (is_interface ms c)) low = declaration_read ts ms (declares_interface c) low
      member_exact {ts = ts} (is_type (is_enum ms c)) low = declaration_read ts ms (declares_enum c) low
      member_exact {ts = ts} {rest} (is_field {ms} {t} {vs} {c} {mid = mid} {last} d y v k) low =
          let f = variable_front v k in
          behind_modifiers ts d (type_front (type_begins y))
          (as_field ms (first_span ts) (field_seen h mid y (omega arith) f)
          ∙ field_by ms (first_span ts) mid rest (types_complete_law h t mid last (y, omega arith) (variable_stops f)) (parts.variables_exact vs c last rest v k (omega arith)) k)
      member_exact {ts = ts} (is_method {ms} {mid = mid} d r i fs ns b) low =
          let m = method_head r i fs ns in
          behind_modifiers ts d (result_begins r)
          (as_method ms (first_span ts) (method_seen h m (omega arith))
          ∙ method_by ms (first_span ts) mid (method_head_exact h m (omega arith) (semicolon_stops b)) (method_body_exact b (omega arith)))
      member_exact {ts = ts} {rest} (is_constructor {ms} {t} {bs = bs} {c = c} {next = next} {body = body} {inner} d i fs ns o f b) low =
          let k = constructor_head i fs ns o in let s = constructor_seen k in
          behind_modifiers ts d (type_front (name_front i))
          (as_constructor ms (first_span ts) (t ∷ next) s.0 s.1
          ∙ constructor_by ms (first_span ts) (t ∷ next) body (constructor_head_exact h k (omega arith)) o (call_exact f b (omega arith)) (parts.block_exact bs c inner rest b (omega arith)))
      member_exact {rest = rest} (is_initializer {ts = ts} o b) low = plain_by ts o (block_read ts rest o b (omega arith))
      member_exact {rest = rest} (is_static_initializer {ts = ts} w o b) low = static_by ts w o (block_read ts rest o b (omega arith))
