-- What is read as a member is spelled.
use Rattle.std.proofs.Common.{ℕ, suc, ◌≤◌, Bool, true, false, List, Option, Some, None, IfSome, arith}
use Rattle.je_base.specs.declared.span.Span.{Span}
use Rattle.je_token.specs.declared.keyword.Keyword.TheVariants as word
use Rattle.je_token.specs.declared.symbol.Symbol.TheVariants as symbol
use Rattle.je_token.specs.declared.token.Token.{Token}
use Rattle.je_token.specs.declared.token.TokenKind.TheVariants as kind
use Rattle.je_ast.specs.declared.decl.Modifier.{Modifier}
use Rattle.je_ast.specs.Types.{TypeName}
use Rattle.je_ast.specs.Trees.{Expressions, Statements, Variables, Member, MaybeBlock, ConstructorInvocation}
use Rattle.je_ast.specs.Trees as tree
use Rattle.je_ast.specs.Height.{member_height, block_height_if, constructor_invocation_height}
use Rattle.je_ast.specs.Spans.{join}
use Rattle.je_grammar.specs.Tokens.{first_span}
use Rattle.je_grammar.specs.Types.{SpellsTypeName, SpellsModifiers}
use Rattle.je_grammar.specs.Grammar.{SpellsArguments, SpellsVariables, SpellsBlock, SpellsMember, is_type, is_field, is_method, is_constructor, is_initializer, is_static_initializer, SpellsMaybeBlock, without_body, with_body, SpellsConstructorInvocation, no_call, this_call, super_call}
use Rattle.parse_laws.specs.way.Tokens.{◌>>=◌, with, behind, behind_word, is_symbol}
use Rattle.parse_laws.specs.way.Types.{type_at}
use Rattle.parse_laws.specs.way.Below.{BlockTree, Below}
use Rattle.parse_laws.specs.way.Readers.{IsBelow, IsRead, any, SpellsBlockTree, is_block_tree, block_tree_height}
use Rattle.parse_laws.specs.way.Expressions.{arguments_at}
use Rattle.parse_laws.specs.way.Statements.{variables_at, block_statements_at}
use Rattle.parse_laws.specs.way.Members.{MethodHead, ConstructorHead, method_head_at, constructor_head_at, begins_declared_at, begins_constructor_at, begins_method_at, begins_initializer_at, call_word_at, class_body_at, declared_at, method_body_at, method_at, first_call_at, explicit_or_implicit_at, constructor_at, field_at, initializer_at, modified_at, member_layer}
use Rattle.expression_laws.specs.way.Parts.{ReadBodies}
use Rattle.parse_laws.proofs.Rules.{bind, either, choose, weaken}
use Rattle.parse_laws.proofs.Fronts.{Front, front, behind_front}
use Rattle.expression_laws.proofs.Primaries.{GoodArguments, arguments_sound}
use Rattle.type_laws.specs.Heads.{SpellsMethodHead, method_head, SpellsConstructorHead, constructor_head}
use Rattle.type_laws.proofs.Modifiers.{modifiers_sound}
use Rattle.type_laws.proofs.Types.{IsType, type_sound}
use Rattle.type_laws.proofs.Openings.{IsMethodHead, method_head_sound, IsConstructorHead, constructor_head_sound}
use Rattle.member_laws.specs.way.Parts.{AreVariables, AreStatements, ReadStatements}
use Rattle.member_laws.proofs.TypesRead.{types_are_read}
use Rattle.member_laws.proofs.Bodies.{body_sound, body_exact}
use Rattle.member_laws.proofs.Declarations.{IsDeclared, declared_sound, declaration_of}

-- `this` or `super`
pub data CallWord (ts : List Token) : Bool × List Token → Type 0 where
  this_word : {rest : List Token} → Front (kind.Keyword word.This) ts rest → CallWord ts (false, rest)
  super_word : {rest : List Token} → Front (kind.Keyword word.Super) ts rest → CallWord ts (true, rest)

pub call_word_sound : (ts : List Token) → IfSome (call_word_at ts) (CallWord ts)
call_word_sound ts =
    either (behind_word word.This ts) _ _ (Front (kind.Keyword word.This) ts) (λ (o : Option (Bool × List Token)). IfSome o (CallWord ts)) (behind_front (kind.Keyword word.This) ts) (λ rest f. this_word f)
    (bind (behind_word word.Super ts) _ (Front (kind.Keyword word.Super) ts) (CallWord ts) (behind_front (kind.Keyword word.Super) ts) (λ rest f. super_word f))

module _ (names texts : List (List ℕ)) where
  -- ---- from what was read to what is spelled

  pub call_of : {w : Bool × List Token} {es : Expressions} {c : Span} {ts last rest : List Token} → CallWord ts w → SpellsArguments names texts es c w.1 last → Front (kind.Symbol symbol.Semicolon) last rest →
      SpellsConstructorInvocation names texts (tree.explicit w.0 (first_span ts) es) ts rest
  call_of (this_word (front w)) a (front k) = this_call w a k
  call_of (super_word (front w)) a (front k) = super_call w a k

  no_body_of : {ts rest : List Token} → Front (kind.Symbol symbol.Semicolon) ts rest → SpellsMaybeBlock names texts tree.no_block (first_span ts) ts rest
  no_body_of (front c) = without_body c

  body_of : {b : BlockTree} {ts rest : List Token} → SpellsBlockTree names texts b ts rest → SpellsMaybeBlock names texts (tree.a_block b.opening b.statements b.closing) b.closing ts rest
  body_of (is_block_tree o d) = with_body o d

  method_of : {ms : List Modifier} {m : MethodHead} {b : MaybeBlock} {c : Span} {ts mid last rest : List Token} → SpellsModifiers names ms ts mid → SpellsMethodHead m mid last → SpellsMaybeBlock names texts b c last rest →
      SpellsMember names texts (tree.method ms m.result m.name m.formals m.throws b (join (first_span ts) c)) ts rest
  method_of ms (method_head r i fs ns) b = is_method ms r i fs ns b

  constructor_of : {ms : List Modifier} {c : ConstructorHead} {f : ConstructorInvocation} {bs : Statements} {k : Span} {ts mid last inside inner rest : List Token} → SpellsModifiers names ms ts mid → SpellsConstructorHead c mid last →
      Front (kind.Symbol symbol.OpenBrace) last inside → SpellsConstructorInvocation names texts f inside inner → SpellsBlock names texts bs k inner rest →
      SpellsMember names texts (tree.constructor ms c.name c.formals c.throws f (first_span last) bs k (join (first_span ts) k)) ts rest
  constructor_of ms (constructor_head i fs ns o) (front _) f b = is_constructor ms i fs ns o f b

  field_of : {ms : List Modifier} {t : TypeName} {vs : Variables} {ts mid last end rest : List Token} → SpellsModifiers names ms ts mid → SpellsTypeName t mid last → SpellsVariables names texts vs last end →
      Front (kind.Symbol symbol.Semicolon) end rest → SpellsMember names texts (tree.field ms t vs (join (first_span ts) (first_span end))) ts rest
  field_of ms t vs (front c) = is_field ms t vs c

  static_of : {b : BlockTree} {ts mid rest : List Token} → Front (kind.Keyword word.Static) ts mid → SpellsBlockTree names texts b mid rest →
      SpellsMember names texts (tree.initializer (Some (first_span ts)) b.opening b.statements b.closing (join (first_span ts) b.closing)) ts rest
  static_of (front w) (is_block_tree o d) = is_static_initializer w o d

  plain_of : {b : BlockTree} {ts rest : List Token} → SpellsBlockTree names texts b ts rest → SpellsMember names texts (tree.initializer None b.opening b.statements b.closing (join (first_span ts) b.closing)) ts rest
  plain_of (is_block_tree o d) = is_initializer o d

  -- ---- what is read

  record IsBody (most : ℕ) (ts : List Token) (x : MaybeBlock × Span × List Token) : Type 0 where
    spelled : SpellsMaybeBlock names texts x.0 x.1 ts x.2
    within : block_height_if x.0 ≤ most

  pub record IsCall (most : ℕ) (ts : List Token) (x : ConstructorInvocation × List Token) : Type 0 where
    pub spelled : SpellsConstructorInvocation names texts x.0 ts x.1
    pub within : constructor_invocation_height x.0 ≤ most

  abbrev IsMember : ℕ → List Token → Member × List Token → Type 0
  IsMember most ts = IsRead (SpellsMember names texts) member_height any most ts

  abbrev IsBlock : ℕ → List Token → BlockTree × List Token → Type 0
  IsBlock most ts = IsRead (SpellsBlockTree names texts) block_tree_height any most ts

  module _ (h : ℕ) (p : Below) (below : IsBelow names texts h p) where
    pub bodies : ReadBodies names texts h (class_body_at texts names h p)
    bodies = record { sound = λ ts. body_sound names texts h p below ts; exact = λ ms c ts rest d low. body_exact names texts h p below d low }

    method_body_sound : (ts : List Token) → IfSome (method_body_at texts names h p ts) (IsBody h ts)
    unfolding method_body_at
    method_body_sound ts =
        either (behind symbol.Semicolon ts) _ _ (Front (kind.Symbol symbol.Semicolon) ts) (λ o. IfSome o (IsBody h ts)) (behind_front (kind.Symbol symbol.Semicolon) ts)
        (λ rest c. record { spelled = no_body_of c; within = omega arith })
        (bind (p.block ts) _ (IsBlock h ts) (IsBody h ts) (below.block.sound ts) (λ b g. record { spelled = body_of g.spelled; within = g.within }))

    method_sound : {ms : List Modifier} (ts : List Token) {mid : List Token} → SpellsModifiers names ms ts mid → IfSome (method_at texts names h p ms (first_span ts) mid) (IsMember (suc h) ts)
    unfolding method_at
    method_sound ts {mid} ms =
        bind (method_head_at h mid) _ (IsMethodHead h mid) (IsMember (suc h) ts) (method_head_sound h mid)
        (λ m a. bind (method_body_at texts names h p m.1) _ (IsBody h m.1) (IsMember (suc h) ts) (method_body_sound m.1)
        (λ b g. record { spelled = method_of ms a.spelled g.spelled; fits = tt; within = let x = a.within in let y = g.within in omega arith }))

    first_call_sound : (ts : List Token) → IfSome (first_call_at texts names h p ts) (IsCall h ts)
    unfolding first_call_at
    first_call_sound ts =
        bind (call_word_at ts) _ (CallWord ts) (IsCall h ts) (call_word_sound ts)
        (λ w f. bind (arguments_at texts h p (class_body_at texts names h p) w.1) _ (GoodArguments names texts h w.1) (IsCall h ts)
        (arguments_sound names texts h p (class_body_at texts names h p) below bodies (types_are_read h) w.1)
        (λ es a. bind (behind symbol.Semicolon es.2) _ (Front (kind.Symbol symbol.Semicolon) es.2) (IsCall h ts) (behind_front (kind.Symbol symbol.Semicolon) es.2)
        (λ rest k. record { spelled = call_of f a.spelled k; within = a.within })))

    pub call_sound : (ts : List Token) → IfSome (explicit_or_implicit_at texts names h p ts) (IsCall h ts)
    unfolding explicit_or_implicit_at
    call_sound ts =
        choose (with (call_word_at ts) (λ w. is_symbol symbol.OpenParen w.1) false) _ _ (λ o. IfSome o (IsCall h ts)) (λ _. first_call_sound ts) (λ _. record { spelled = no_call; within = omega arith })

    initializer_sound : (ts : List Token) → IfSome (initializer_at texts names h p ts) (IsMember (suc h) ts)
    unfolding initializer_at
    initializer_sound ts =
        either (behind_word word.Static ts) _ _ (Front (kind.Keyword word.Static) ts) (λ o. IfSome o (IsMember (suc h) ts)) (behind_front (kind.Keyword word.Static) ts)
        (λ begin w. bind (p.block begin) _ (IsBlock h begin) (IsMember (suc h) ts) (below.block.sound begin)
        (λ b g. record { spelled = static_of w g.spelled; fits = tt; within = let x = g.within in omega arith }))
        (bind (p.block ts) _ (IsBlock h ts) (IsMember (suc h) ts) (below.block.sound ts)
        (λ b g. record { spelled = plain_of g.spelled; fits = tt; within = let x = g.within in omega arith }))

    module _ (parts : ReadStatements names texts h p) where
      constructor_sound : {ms : List Modifier} (ts : List Token) {mid : List Token} → SpellsModifiers names ms ts mid → IfSome (constructor_at texts names h p ms (first_span ts) mid) (IsMember (suc h) ts)
      unfolding constructor_at
      constructor_sound ts {mid} ms =
          bind (constructor_head_at h mid) _ (IsConstructorHead h mid) (IsMember (suc h) ts) (constructor_head_sound h mid)
          (λ c a. bind (behind symbol.OpenBrace c.1 >>= explicit_or_implicit_at texts names h p) _ (λ f. (inside : List Token) × Front (kind.Symbol symbol.OpenBrace) c.1 inside × IsCall h inside f) (IsMember (suc h) ts)
          (bind (behind symbol.OpenBrace c.1) (explicit_or_implicit_at texts names h p) (Front (kind.Symbol symbol.OpenBrace) c.1) (λ f. (inside : List Token) × Front (kind.Symbol symbol.OpenBrace) c.1 inside × IsCall h inside f)
          (behind_front (kind.Symbol symbol.OpenBrace) c.1)
          (λ inside o. weaken (explicit_or_implicit_at texts names h p inside) (IsCall h inside) _ (call_sound inside) (λ f g. (inside, o, g))))
          (λ f i. bind (block_statements_at h p f.1) _ (AreStatements names texts h f.1) (IsMember (suc h) ts) (parts.block_sound f.1)
          (λ b g. let k = i.2 in record { spelled = constructor_of ms a.spelled i.1 k.spelled g.spelled; fits = tt; within = let x = a.within in let y = k.within in let z = g.within in omega arith })))

      field_sound : {ms : List Modifier} (ts : List Token) {mid : List Token} → SpellsModifiers names ms ts mid → IfSome (field_at texts names h p ms (first_span ts) mid) (IsMember (suc h) ts)
      unfolding field_at
      field_sound ts {mid} ms =
          bind (type_at h mid) _ (IsType h mid) (IsMember (suc h) ts) (type_sound h mid)
          (λ t a. bind (variables_at h p t.1) _ (AreVariables names texts h t.1) (IsMember (suc h) ts) (parts.variables_sound t.1)
          (λ vs g. bind (behind symbol.Semicolon vs.1) _ (Front (kind.Symbol symbol.Semicolon) vs.1) (IsMember (suc h) ts) (behind_front (kind.Symbol symbol.Semicolon) vs.1)
          (λ rest c. record { spelled = field_of ms a.spelled g.spelled c; fits = tt; within = let x = a.within in let y = g.within in omega arith })))

      modified_sound : {ms : List Modifier} (ts : List Token) {mid : List Token} → SpellsModifiers names ms ts mid → IfSome (modified_at texts names h p ms (first_span ts) mid) (IsMember (suc h) ts)
      unfolding modified_at
      modified_sound {ms} ts {mid} d =
          choose (begins_declared_at mid) _ _ (λ o. IfSome o (IsMember (suc h) ts))
          (λ _. bind (declared_at texts names h p ms (first_span ts) mid) _ (IsDeclared names texts h ms (first_span ts) mid) (IsMember (suc h) ts) (declared_sound names texts h p below ms (first_span ts) mid)
          (λ x g. record { spelled = is_type (declaration_of names texts d g.spelled); fits = tt; within = g.within }))
          (λ _. choose (begins_constructor_at mid) _ _ (λ o. IfSome o (IsMember (suc h) ts)) (λ _. constructor_sound ts d)
          (λ _. choose (begins_method_at h mid) _ _ (λ o. IfSome o (IsMember (suc h) ts)) (λ _. method_sound ts d) (λ _. field_sound ts d)))

      pub member_sound : (ts : List Token) → IfSome (member_layer texts names h p ts) (IsRead (SpellsMember names texts) member_height any (suc h) ts)
      unfolding member_layer
      member_sound ts =
          choose (begins_initializer_at ts) _ _ (λ o. IfSome o (IsMember (suc h) ts)) (λ _. initializer_sound ts) (λ _. modified_sound ts (modifiers_sound names ts))
