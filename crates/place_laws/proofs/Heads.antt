-- Which item can be opened is told as the grammar has it.
use Rattle.std.proofs.Common.{◌≡◌, ℕ, ◌≤◌, true, false, List, ◌∷◌, length, Some, None, IfSome, refl, ◌∙◌, arith}
use Rattle.je_token.specs.declared.keyword.Keyword.TheVariants as word
use Rattle.je_token.specs.declared.symbol.Symbol.TheVariants as symbol
use Rattle.je_token.specs.declared.token.Token.{Token}
use Rattle.je_token.specs.declared.token.TokenKind.TheVariants as kind
use Rattle.je_ast.specs.declared.decl.Modifier.{Modifier}
use Rattle.je_grammar.specs.Tokens.{it_is, IsWord, IsSymbol}
use Rattle.je_grammar.specs.Types.{SpellsModifiers}
use Rattle.je_grammar.specs.Context.{are_local}
use Rattle.je_grammar.specs.Place.{Context, HasDeclarations, before_imports_end, in_file, in_body, HasStatements, in_constructor, in_block, Opens, opens_class, opens_interface, opens_local_class, opens_method, opens_constructor, opens_initializer, opens_static_initializer, opens_block}
use Rattle.je_grammar.specs.Place as context
use Rattle.parse_laws.specs.way.Tokens.{◌>>=◌, with, behind, behind_word, is_symbol, is_word}
use Rattle.parse_laws.specs.way.Types.{modifiers_at}
use Rattle.parse_laws.specs.way.Members.{ClassHead, InterfaceHead, MethodHead, ConstructorHead, class_head_at, interface_head_at, method_head_at, constructor_head_at, begins_declared_at, begins_constructor_at, begins_local_class_at, begins_initializer_at}
use Rattle.parse_laws.specs.way.Place.{inside, type_opening_at, method_opening_at, member_opening_at, statement_opening_at, opening_at}
use Rattle.parse_laws.proofs.Rules.{bind, either, choose, weaken, is_none, none_where}
use Rattle.parse_laws.proofs.Fronts.{Front, front, behind_front}
use Rattle.type_laws.specs.Laws.{throws_on}
use Rattle.type_laws.specs.Heads.{SpellsClassHead, class_head, class_height, SpellsInterfaceHead, interface_head, interface_height, SpellsMethodHead, method_head, method_height, SpellsConstructorHead, constructor_head, constructor_height}
use Rattle.type_laws.proofs.Types.{name_front}
use Rattle.type_laws.proofs.Modifiers.{modifiers_sound}
use Rattle.type_laws.proofs.Openings.{class_head_exact, interface_head_exact, method_head_exact, constructor_head_exact}
use Rattle.type_laws.proofs.Public.{class_heads_sound_law, interface_heads_sound_law, method_heads_sound_law, constructor_heads_sound_law}
use Rattle.member_laws.proofs.Fronts.{ItemFront, class_front, interface_front, type_front, result_begins, no_brace, no_initializer}
use Rattle.member_laws.proofs.Declarations.{modifiers_before}
use Rattle.member_laws.proofs.LocalClasses.{local_sound, modifiers_seen}
use Rattle.member_laws.proofs.MembersExact.{method_seen, constructor_seen}

-- ---- heads that don't stand here

class_word : {c : ClassHead} {ts rest : List Token} → SpellsClassHead c ts rest → (begins_declared_at ts ≡ true) × (is_word word.Class ts ≡ true)
class_word (class_head it_is t ps e is o) = (refl, refl)

interface_word : {c : InterfaceHead} {ts rest : List Token} → SpellsInterfaceHead c ts rest → (begins_declared_at ts ≡ true) × (is_word word.Class ts ≡ false)
interface_word (interface_head it_is t ps es o) = (refl, refl)

pub no_class_head : (most : ℕ) (ts : List Token) → begins_declared_at ts ≡ false → class_head_at most ts ≡ None
no_class_head most ts e = is_none (class_head_at most ts) (none_where (class_head_at most ts) _ (class_heads_sound_law most ts) (λ x g. let a = (class_word g.0).0 in cc))

pub no_interface_head : (most : ℕ) (ts : List Token) → begins_declared_at ts ≡ false → interface_head_at most ts ≡ None
no_interface_head most ts e = is_none (interface_head_at most ts) (none_where (interface_head_at most ts) _ (interface_heads_sound_law most ts) (λ x g. let a = (interface_word g.0).0 in cc))

no_interface_word : (most : ℕ) (ts : List Token) → is_word word.Class ts ≡ true → interface_head_at most ts ≡ None
no_interface_word most ts e = is_none (interface_head_at most ts) (none_where (interface_head_at most ts) _ (interface_heads_sound_law most ts) (λ x g. let a = (interface_word g.0).1 in cc))

no_class_word : (most : ℕ) (ts : List Token) → is_word word.Class ts ≡ false → class_head_at most ts ≡ None
no_class_word most ts e = is_none (class_head_at most ts) (none_where (class_head_at most ts) _ (class_heads_sound_law most ts) (λ x g. let a = (class_word g.0).1 in cc))

pub no_constructor_head : (most : ℕ) (ts : List Token) → begins_constructor_at ts ≡ false → constructor_head_at most ts ≡ None
no_constructor_head most ts e = is_none (constructor_head_at most ts) (none_where (constructor_head_at most ts) _ (constructor_heads_sound_law most ts) (λ x g. let a = (constructor_seen g.0).1 in cc))

word_stands : {w : Token} (ts : List Token) → IsWord word.Class w → (is_word word.Class (w ∷ ts) ≡ true)
word_stands ts it_is = refl

interface_stands : {w : Token} (ts : List Token) → IsWord word.Interface w → (is_word word.Class (w ∷ ts) ≡ false)
interface_stands ts it_is = refl

pub brace_no_throws : {o : Token} (ts : List Token) → IsSymbol symbol.OpenBrace o → throws_on (o ∷ ts) ≡ false
brace_no_throws ts it_is = refl

module _ (names texts : List (List ℕ)) (most : ℕ) where
  -- ---- what is told can be opened

  data TypeOpens : List Token → Context × List Token → Type 0 where
    class_opens : {ms : List Modifier} {c : ClassHead} {ts mid last inner : List Token} → SpellsModifiers names ms ts mid → SpellsClassHead c mid last → class_height c ≤ most → Front (kind.Symbol symbol.OpenBrace) last inner → TypeOpens ts (context.members, inner)
    interface_opens : {ms : List Modifier} {c : InterfaceHead} {ts mid last inner : List Token} → SpellsModifiers names ms ts mid → SpellsInterfaceHead c mid last → interface_height c ≤ most → Front (kind.Symbol symbol.OpenBrace) last inner → TypeOpens ts (context.members, inner)

  opens_type : {x : Context} {ts : List Token} {y : Context × List Token} → HasDeclarations x → TypeOpens ts y → Opens names texts most x y.0 ts y.1
  opens_type has (class_opens m (class_head w t ps e is o) low (front _)) = opens_class has m w t ps e is o low
  opens_type has (interface_opens m (interface_head w t ps es o) low (front _)) = opens_interface has m w t ps es o low

  type_opening_sound : (ts : List Token) → IfSome (type_opening_at names texts most ts) (TypeOpens ts)
  unfolding type_opening_at
  type_opening_sound ts = let ms = modifiers_at names ts in
      either (class_head_at most ms.1) _ _ (λ x. SpellsClassHead x.0 ms.1 x.1 × (class_height x.0 ≤ most)) (λ o. IfSome o (TypeOpens ts)) (class_heads_sound_law most ms.1)
      (λ c g. bind (behind symbol.OpenBrace c.1) _ (Front (kind.Symbol symbol.OpenBrace) c.1) (TypeOpens ts) (behind_front (kind.Symbol symbol.OpenBrace) c.1) (λ inner o. class_opens (modifiers_sound names ts) g.0 g.1 o))
      (bind (interface_head_at most ms.1) _ (λ x. SpellsInterfaceHead x.0 ms.1 x.1 × (interface_height x.0 ≤ most)) (TypeOpens ts) (interface_heads_sound_law most ms.1)
      (λ c g. bind (behind symbol.OpenBrace c.1) _ (Front (kind.Symbol symbol.OpenBrace) c.1) (TypeOpens ts) (behind_front (kind.Symbol symbol.OpenBrace) c.1) (λ inner o. interface_opens (modifiers_sound names ts) g.0 g.1 o)))

  -- a local class, where the words before it say so
  type_by : {ms : List Modifier} (ts : List Token) {mid : List Token} → modifiers_at names ts ≡ (ms, mid) →
      type_opening_at names texts most ts ≡ with (class_head_at most mid) (λ c. inside names texts most context.members c.1) (interface_head_at most mid >>= λ i. inside names texts most context.members i.1)
  unfolding type_opening_at
  type_by ts e = rw e refl

  opens_local : {x : Context} {ms : List Modifier} {c : ClassHead} {ts mid last inner : List Token} → HasStatements x → are_local ms ≡ true → SpellsModifiers names ms ts mid → SpellsClassHead c mid last → class_height c ≤ most → Front (kind.Symbol symbol.OpenBrace) last inner →
      Opens names texts most x context.members ts inner
  opens_local has l m (class_head w t ps e is o) low (front _) = opens_local_class has l m w t ps e is o low

  abbrev Opened : Context → List Token → Context × List Token → Type 0
  Opened x ts y = Opens names texts most x y.0 ts y.1

  front_word : {mid rest : List Token} → Front (kind.Keyword word.Class) mid rest → ItemFront mid × (is_word word.Class mid ≡ true)
  front_word (front {rest = rest} w) = (class_front w, word_stands rest w)

  local_opening_sound : {x : Context} (ts : List Token) → HasStatements x → begins_local_class_at (length ts) ts ≡ true → IfSome (type_opening_at names texts most ts) (Opened x ts)
  local_opening_sound {x} ts has e =
      let a = local_sound names (length ts) ts e in
      let f = front_word a.class in
      rw (type_by ts (modifiers_before names a.spelled f.0), no_interface_word most a.mid f.1)
      (either (class_head_at most a.mid) (λ c. inside names texts most context.members c.1) None (λ c. SpellsClassHead c.0 a.mid c.1 × (class_height c.0 ≤ most)) (λ o. IfSome o (Opened x ts)) (class_heads_sound_law most a.mid)
      (λ c g. bind (behind symbol.OpenBrace c.1) _ (Front (kind.Symbol symbol.OpenBrace) c.1) (Opened x ts) (behind_front (kind.Symbol symbol.OpenBrace) c.1) (λ inner o. opens_local has a.local a.spelled g.0 g.1 o)) tt)

  block_opens : {x : Context} {ts inner : List Token} → HasStatements x → Front (kind.Symbol symbol.OpenBrace) ts inner → Opens names texts most x context.statements ts inner
  block_opens has (front o) = opens_block has o

  statement_opening_sound : {x : Context} (ts : List Token) → HasStatements x → IfSome (statement_opening_at names texts most ts) (Opened x ts)
  unfolding statement_opening_at
  statement_opening_sound {x} ts has = choose (is_symbol symbol.OpenBrace ts) _ _ (λ o. IfSome o (Opened x ts))
      (λ _. bind (behind symbol.OpenBrace ts) _ (Front (kind.Symbol symbol.OpenBrace) ts) (Opened x ts) (behind_front (kind.Symbol symbol.OpenBrace) ts) (λ inner o. block_opens has o))
      (λ _. choose (begins_local_class_at (length ts) ts) _ _ (λ o. IfSome o (Opened x ts)) (λ e. local_opening_sound ts has e) (λ _. tt))

  constructor_opens : {ms : List Modifier} {c : ConstructorHead} {ts mid last inner : List Token} → SpellsModifiers names ms ts mid → SpellsConstructorHead c mid last → constructor_height c ≤ most → Front (kind.Symbol symbol.OpenBrace) last inner →
      Opens names texts most context.members context.constructor_body ts inner
  constructor_opens m (constructor_head i fs ns o) low (front _) = opens_constructor m i fs ns o low

  method_opens : {ms : List Modifier} {c : MethodHead} {ts mid last inner : List Token} → SpellsModifiers names ms ts mid → SpellsMethodHead c mid last → method_height c ≤ most → Front (kind.Symbol symbol.OpenBrace) last inner →
      Opens names texts most context.members context.statements ts inner
  method_opens m (method_head r i fs ns) low (front o) = opens_method m r i fs ns o low

  method_opening_sound : (ts : List Token) → IfSome (method_opening_at names texts most ts) (Opened context.members ts)
  unfolding method_opening_at
  method_opening_sound ts = let ms = modifiers_at names ts in
      either (constructor_head_at most ms.1) _ _ (λ x. SpellsConstructorHead x.0 ms.1 x.1 × (constructor_height x.0 ≤ most)) (λ o. IfSome o (Opened context.members ts)) (constructor_heads_sound_law most ms.1)
      (λ c g. bind (behind symbol.OpenBrace c.1) _ (Front (kind.Symbol symbol.OpenBrace) c.1) (Opened context.members ts) (behind_front (kind.Symbol symbol.OpenBrace) c.1) (λ inner o. constructor_opens (modifiers_sound names ts) g.0 g.1 o))
      (bind (method_head_at most ms.1) _ (λ x. SpellsMethodHead x.0 ms.1 x.1 × (method_height x.0 ≤ most)) (Opened context.members ts) (method_heads_sound_law most ms.1)
      (λ c g. bind (behind symbol.OpenBrace c.1) _ (Front (kind.Symbol symbol.OpenBrace) c.1) (Opened context.members ts) (behind_front (kind.Symbol symbol.OpenBrace) c.1) (λ inner o. method_opens (modifiers_sound names ts) g.0 g.1 o)))

  initializer_opens : {ts inner : List Token} → Front (kind.Symbol symbol.OpenBrace) ts inner → Opens names texts most context.members context.statements ts inner
  initializer_opens (front o) = opens_initializer o

  static_opens : {ts mid inner : List Token} → Front (kind.Keyword word.Static) ts mid → Front (kind.Symbol symbol.OpenBrace) mid inner → Opens names texts most context.members context.statements ts inner
  static_opens (front w) (front o) = opens_static_initializer w o

  initializer_sound : (ts : List Token) → IfSome (inside names texts most context.statements (with (behind_word word.Static ts) (λ rest. rest) ts)) (Opened context.members ts)
  initializer_sound ts = either (behind_word word.Static ts) (λ rest. rest) ts (Front (kind.Keyword word.Static) ts) (λ b. IfSome (inside names texts most context.statements b) (Opened context.members ts)) (behind_front (kind.Keyword word.Static) ts)
      (λ mid w. bind (behind symbol.OpenBrace mid) _ (Front (kind.Symbol symbol.OpenBrace) mid) (Opened context.members ts) (behind_front (kind.Symbol symbol.OpenBrace) mid) (λ inner o. static_opens w o))
      (bind (behind symbol.OpenBrace ts) _ (Front (kind.Symbol symbol.OpenBrace) ts) (Opened context.members ts) (behind_front (kind.Symbol symbol.OpenBrace) ts) (λ inner o. initializer_opens o))

  pub opening_sound : (x : Context) (ts : List Token) → IfSome (opening_at names texts most x ts) (λ y. Opens names texts most x y.0 ts y.1)
  unfolding opening_at member_opening_at
  opening_sound context.imports ts = weaken (type_opening_at names texts most ts) (TypeOpens ts) (Opened context.imports ts) (type_opening_sound ts) (λ y o. opens_type before_imports_end o)
  opening_sound context.declarations ts = weaken (type_opening_at names texts most ts) (TypeOpens ts) (Opened context.declarations ts) (type_opening_sound ts) (λ y o. opens_type in_file o)
  opening_sound context.members ts = choose (begins_initializer_at ts) _ _ (λ o. IfSome o (Opened context.members ts)) (λ _. initializer_sound ts)
      (λ _. either (type_opening_at names texts most ts) _ _ (TypeOpens ts) (λ o. IfSome o (Opened context.members ts)) (type_opening_sound ts) (λ y o. opens_type in_body o) (method_opening_sound ts))
  opening_sound context.constructor_body ts = statement_opening_sound ts in_constructor
  opening_sound context.statements ts = statement_opening_sound ts in_block

  -- ---- what can be opened is told

  class_by : {ms : List Modifier} {c : ClassHead} {o : Token} (ts : List Token) {mid : List Token} (inner : List Token) → modifiers_at names ts ≡ (ms, mid) → class_head_at most mid ≡ Some (c, o ∷ inner) → IsSymbol symbol.OpenBrace o →
      type_opening_at names texts most ts ≡ Some (context.members, inner)
  class_by ts inner e f it_is = rw (type_by ts e, f) refl

  interface_by : {ms : List Modifier} {c : InterfaceHead} {o : Token} (ts : List Token) {mid : List Token} (inner : List Token) → modifiers_at names ts ≡ (ms, mid) → class_head_at most mid ≡ None → interface_head_at most mid ≡ Some (c, o ∷ inner) → IsSymbol symbol.OpenBrace o →
      type_opening_at names texts most ts ≡ Some (context.members, inner)
  interface_by ts inner e n f it_is = rw (type_by ts e, n, f) refl

  no_type_by : {ms : List Modifier} (ts : List Token) {mid : List Token} → modifiers_at names ts ≡ (ms, mid) → begins_declared_at mid ≡ false → type_opening_at names texts most ts ≡ None
  no_type_by ts {mid} e d = rw (type_by ts e, no_class_head most mid d, no_interface_head most mid d) refl

  constructor_by : {ms : List Modifier} {c : ConstructorHead} {o : Token} (ts : List Token) {mid : List Token} (inner : List Token) → modifiers_at names ts ≡ (ms, mid) → constructor_head_at most mid ≡ Some (c, o ∷ inner) → IsSymbol symbol.OpenBrace o →
      method_opening_at names texts most ts ≡ Some (context.constructor_body, inner)
  unfolding method_opening_at
  constructor_by ts inner e f it_is = rw (e, f) refl

  method_by : {ms : List Modifier} {c : MethodHead} {o : Token} (ts : List Token) {mid : List Token} (inner : List Token) → modifiers_at names ts ≡ (ms, mid) → constructor_head_at most mid ≡ None → method_head_at most mid ≡ Some (c, o ∷ inner) → IsSymbol symbol.OpenBrace o →
      method_opening_at names texts most ts ≡ Some (context.statements, inner)
  unfolding method_opening_at
  method_by ts inner e n f it_is = rw (e, n, f) refl

  of_type : (ts : List Token) {y : Context × List Token} → begins_initializer_at ts ≡ false → type_opening_at names texts most ts ≡ Some y → member_opening_at names texts most ts ≡ Some y
  unfolding member_opening_at
  of_type ts n e = rw (n, e) refl

  of_method : (ts : List Token) → begins_initializer_at ts ≡ false → type_opening_at names texts most ts ≡ None → member_opening_at names texts most ts ≡ method_opening_at names texts most ts
  unfolding member_opening_at
  of_method ts n e = rw (n, e) refl

  of_block : {o : Token} (inner : List Token) → IsSymbol symbol.OpenBrace o → statement_opening_at names texts most (o ∷ inner) ≡ Some (context.statements, inner)
  unfolding statement_opening_at
  of_block inner it_is = refl

  of_local : (ts : List Token) → is_symbol symbol.OpenBrace ts ≡ false → begins_local_class_at (length ts) ts ≡ true → statement_opening_at names texts most ts ≡ type_opening_at names texts most ts
  unfolding statement_opening_at
  of_local ts n e = rw (n, e) refl

  in_declarations : {x : Context} (ts : List Token) {y : Context × List Token} → HasDeclarations x → begins_initializer_at ts ≡ false → type_opening_at names texts most ts ≡ Some y → opening_at names texts most x ts ≡ Some y
  unfolding opening_at
  in_declarations ts before_imports_end n e = e
  in_declarations ts in_file n e = e
  in_declarations ts in_body n e = of_type ts n e

  in_statements : {x : Context} (ts : List Token) {y : Context × List Token} → HasStatements x → statement_opening_at names texts most ts ≡ Some y → opening_at names texts most x ts ≡ Some y
  unfolding opening_at
  in_statements ts in_constructor e = e
  in_statements ts in_block e = e

  initializer_read : {o : Token} (inner : List Token) → IsSymbol symbol.OpenBrace o → member_opening_at names texts most (o ∷ inner) ≡ Some (context.statements, inner)
  unfolding member_opening_at
  initializer_read inner it_is = refl

  static_read : {w o : Token} (inner : List Token) → IsWord word.Static w → IsSymbol symbol.OpenBrace o → member_opening_at names texts most (w ∷ o ∷ inner) ≡ Some (context.statements, inner)
  unfolding member_opening_at
  static_read inner it_is it_is = refl

  pub opening_exact : {x y : Context} {ts inner : List Token} → Opens names texts most x y ts inner → opening_at names texts most x ts ≡ Some (y, inner)
  unfolding opening_at
  opening_exact {ts = ts} {inner} (opens_class has m w t ps e is o low) =
      in_declarations ts has (no_initializer names m (class_front w)) (class_by ts inner (modifiers_before names m (class_front w)) (class_head_exact most (class_head w t ps e is o) low) o)
  opening_exact {ts = ts} {inner} (opens_interface {t = t} {mid = mid} has m w i ps es o low) =
      in_declarations ts has (no_initializer names m (interface_front w))
      (interface_by ts inner (modifiers_before names m (interface_front w)) (no_class_word most _ (interface_stands (t ∷ mid) w)) (interface_head_exact most (interface_head w i ps es o) low) o)
  opening_exact {ts = ts} {inner} (opens_local_class {t = t} {mid = mid} has l m w i ps e is o low) =
      in_statements ts has (of_local ts (no_brace names m (class_front w)) (modifiers_seen names (length ts) m l (front w) (omega arith))
      ∙ class_by ts inner (modifiers_before names m (class_front w)) (class_head_exact most (class_head w i ps e is o) low) o)
  opening_exact {ts = ts} {inner} (opens_method {mid = mid} m r i fs ns o low) =
      let s = method_seen most (method_head r i fs ns) low in
      let b = modifiers_before names m (result_begins r) in
      of_method ts (no_initializer names m (result_begins r)) (no_type_by ts b s.no_declared)
      ∙ method_by ts inner b (no_constructor_head most mid s.no_constructor) (method_head_exact most (method_head r i fs ns) low (brace_no_throws inner o)) o
  opening_exact {ts = ts} {inner} (opens_constructor {t = t} {next = next} m i fs ns o low) =
      let k = constructor_head i fs ns o in
      let b = modifiers_before names m (type_front (name_front i)) in
      of_method ts (no_initializer names m (type_front (name_front i))) (no_type_by ts b (constructor_seen k).0) ∙ constructor_by ts inner b (constructor_head_exact most k low) o
  opening_exact {inner = inner} (opens_initializer o) = initializer_read inner o
  opening_exact {inner = inner} (opens_static_initializer w o) = static_read inner w o
  opening_exact {ts = ts} {inner} (opens_block has o) = in_statements ts has (of_block inner o)
