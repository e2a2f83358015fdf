-- Classes, interfaces, enums and local classes: what is read is spelled, and what is spelled is read.
use Rattle.std.proofs.Common.{◌≡◌, ℕ, suc, ◌≤◌, Bool, true, false, inl, inr, List, Some, IfSome, refl, arith}
use Rattle.je_base.specs.declared.span.Span.{Span}
use Rattle.je_token.specs.declared.keyword.Keyword.TheVariants as word
use Rattle.je_token.specs.declared.token.Token.{Token}
use Rattle.je_ast.specs.declared.decl.Modifier.{Modifier}
use Rattle.je_ast.specs.Trees.{Members, Declaration}
use Rattle.je_ast.specs.Trees as tree
use Rattle.je_ast.specs.Height.{declaration_height}
use Rattle.je_ast.specs.Spans.{join}
use Rattle.je_grammar.specs.Tokens.{it_is, first_span}
use Rattle.je_grammar.specs.Types.{SpellsModifiers}
use Rattle.je_grammar.specs.Grammar.{SpellsBody, is_body, SpellsDeclaration, is_class, is_interface, is_enum, SpellsClass, class_declaration, SpellsInterface, interface_declaration, SpellsEnum, enum_declaration}
use Rattle.parse_laws.specs.way.Tokens.{is_word}
use Rattle.parse_laws.specs.way.Types.{modifiers_at}
use Rattle.parse_laws.specs.way.Below.{Below}
use Rattle.parse_laws.specs.way.Readers.{IsBelow, IsRead, any}
use Rattle.parse_laws.specs.way.Members.{ClassHead, InterfaceHead, class_head_at, interface_head_at, class_body_at, class_at, interface_at, enum_at, declared_at, declaration_layer}
use Rattle.expression_laws.specs.way.Parts.{IsBodyRead}
use Rattle.parse_laws.proofs.Rules.{bind, choose, weaken}
use Rattle.type_laws.specs.Laws.{IsExact}
use Rattle.type_laws.specs.Heads.{SpellsClassHead, class_head, SpellsInterfaceHead, interface_head}
use Rattle.type_laws.proofs.Modifiers.{modifiers_sound, modifiers_exact}
use Rattle.type_laws.proofs.Openings.{IsClassHead, class_head_sound, class_head_exact, IsInterfaceHead, interface_head_sound, interface_head_exact}
use Rattle.member_laws.proofs.Fronts.{ItemFront, no_modifier, class_begins, interface_begins, enum_begins}
use Rattle.member_laws.proofs.Bodies.{body_sound, body_exact}
use Rattle.member_laws.proofs.Enums.{IsEnum, enum_sound, enum_exact}

-- modifiers before an item are read to the last one
pub modifiers_before : (names : List (List ℕ)) {ms : List Modifier} {ts mid : List Token} → SpellsModifiers names ms ts mid → ItemFront mid → modifiers_at names ts ≡ (ms, mid)
modifiers_before names {ms} {ts} {mid} d i = itself_of (no_modifier names i) (modifiers_exact names d)
  where
    itself_of : {on : Bool} → on ≡ false → IsExact on ms mid (modifiers_at names ts) → modifiers_at names ts ≡ (ms, mid)
    itself_of e (inl q) = q
    itself_of {on} e (inr l) = let t = l.1 in absurd cc

module _ (names texts : List (List ℕ)) where
  -- a declaration behind its modifiers
  pub data Declares (ms : List Modifier) (s : Span) : Declaration → List Token → List Token → Type 0 where
    declares_class : {d : Declaration} {ts rest : List Token} → SpellsClass names texts ms s d ts rest → Declares ms s d ts rest
    declares_interface : {d : Declaration} {ts rest : List Token} → SpellsInterface names texts ms s d ts rest → Declares ms s d ts rest
    declares_enum : {d : Declaration} {ts rest : List Token} → SpellsEnum ms s d ts rest → Declares ms s d ts rest

  pub declaration_of : {ms : List Modifier} {d : Declaration} {ts mid rest : List Token} → SpellsModifiers names ms ts mid → Declares ms (first_span ts) d mid rest → SpellsDeclaration names texts d ts rest
  declaration_of ms (declares_class c) = is_class ms c
  declaration_of ms (declares_interface c) = is_interface ms c
  declaration_of ms (declares_enum c) = is_enum ms c

  pub declares_begins : {ms : List Modifier} {s : Span} {d : Declaration} {ts rest : List Token} → Declares ms s d ts rest → ItemFront ts
  declares_begins (declares_class c) = class_begins names texts c
  declares_begins (declares_interface c) = interface_begins names texts c
  declares_begins (declares_enum c) = enum_begins names texts c

  class_of : {ms : List Modifier} {s k : Span} {c : ClassHead} {body : Members} {ts mid rest : List Token} → SpellsClassHead c ts mid → SpellsBody names texts body k mid rest →
      SpellsClass names texts ms s (tree.class_declaration ms c.name c.parameters c.extends c.implements body (join s k)) ts rest
  class_of (class_head w t ps e is o) b = class_declaration w t ps e is b

  interface_of : {ms : List Modifier} {s k : Span} {c : InterfaceHead} {body : Members} {ts mid rest : List Token} → SpellsInterfaceHead c ts mid → SpellsBody names texts body k mid rest →
      SpellsInterface names texts ms s (tree.interface_declaration ms c.name c.parameters c.extends body (join s k)) ts rest
  interface_of (interface_head w t ps es o) b = interface_declaration w t ps es b

  module _ (h : ℕ) (ms : List Modifier) (s : Span) where
    pub record IsClass (ts : List Token) (x : Declaration × List Token) : Type 0 where
      pub spelled : SpellsClass names texts ms s x.0 ts x.1
      pub within : declaration_height x.0 ≤ suc h

    record IsInterface (ts : List Token) (x : Declaration × List Token) : Type 0 where
      spelled : SpellsInterface names texts ms s x.0 ts x.1
      within : declaration_height x.0 ≤ suc h

    pub record IsDeclared (ts : List Token) (x : Declaration × List Token) : Type 0 where
      pub spelled : Declares ms s x.0 ts x.1
      pub within : declaration_height x.0 ≤ suc h

  module _ (h : ℕ) (p : Below) (below : IsBelow names texts h p) where
    pub class_sound : (ms : List Modifier) (s : Span) (ts : List Token) → IfSome (class_at texts names h p ms s ts) (IsClass h ms s ts)
    unfolding class_at
    class_sound ms s ts =
        bind (class_head_at h ts) _ (IsClassHead h ts) (IsClass h ms s ts) (class_head_sound h ts)
        (λ c a. bind (class_body_at texts names h p c.1) _ (IsBodyRead names texts h c.1) (IsClass h ms s ts) (body_sound names texts h p below c.1)
        (λ b g. record { spelled = class_of a.spelled g.spelled; within = let x = a.within in let y = g.within in omega arith }))

    interface_sound : (ms : List Modifier) (s : Span) (ts : List Token) → IfSome (interface_at texts names h p ms s ts) (IsInterface h ms s ts)
    unfolding interface_at
    interface_sound ms s ts =
        bind (interface_head_at h ts) _ (IsInterfaceHead h ts) (IsInterface h ms s ts) (interface_head_sound h ts)
        (λ c a. bind (class_body_at texts names h p c.1) _ (IsBodyRead names texts h c.1) (IsInterface h ms s ts) (body_sound names texts h p below c.1)
        (λ b g. record { spelled = interface_of a.spelled g.spelled; within = let x = a.within in let y = g.within in omega arith }))

    pub declared_sound : (ms : List Modifier) (s : Span) (ts : List Token) → IfSome (declared_at texts names h p ms s ts) (IsDeclared h ms s ts)
    unfolding declared_at
    declared_sound ms s ts =
        choose (is_word word.Class ts) _ _ (λ o. IfSome o (IsDeclared h ms s ts))
        (λ _. weaken (class_at texts names h p ms s ts) (IsClass h ms s ts) (IsDeclared h ms s ts) (class_sound ms s ts) (λ x g. record { spelled = declares_class g.spelled; within = g.within }))
        (λ _. choose (is_word word.Interface ts) _ _ (λ o. IfSome o (IsDeclared h ms s ts))
        (λ _. weaken (interface_at texts names h p ms s ts) (IsInterface h ms s ts) (IsDeclared h ms s ts) (interface_sound ms s ts) (λ x g. record { spelled = declares_interface g.spelled; within = g.within }))
        (λ _. weaken (enum_at h ms s ts) (IsEnum h ms s ts) (IsDeclared h ms s ts) (enum_sound h ms s ts) (λ x g. record { spelled = declares_enum g.spelled; within = g.within })))

    pub declaration_sound : (ts : List Token) → IfSome (declaration_layer texts names h p ts) (IsRead (SpellsDeclaration names texts) declaration_height any (suc h) ts)
    unfolding declaration_layer
    declaration_sound ts =
        let ms = modifiers_at names ts in
        weaken (declared_at texts names h p ms.0 (first_span ts) ms.1) (IsDeclared h ms.0 (first_span ts) ms.1) _ (declared_sound ms.0 (first_span ts) ms.1)
        (λ x g. record { spelled = declaration_of (modifiers_sound names ts) g.spelled; fits = tt; within = g.within })

    -- ---- what is spelled is read

    class_by : (ms : List Modifier) (s : Span) {c : ClassHead} {k : Span} {body : Members} {ts mid rest : List Token} → SpellsClassHead c ts mid → class_head_at h ts ≡ Some (c, mid) →
        class_body_at texts names h p mid ≡ Some (body, k, rest) → class_at texts names h p ms s ts ≡ Some (tree.class_declaration ms c.name c.parameters c.extends c.implements body (join s k), rest)
    unfolding class_at
    class_by ms s d a b = rw (a, b) refl

    pub class_exact : {ms : List Modifier} {s : Span} {d : Declaration} {ts rest : List Token} → SpellsClass names texts ms s d ts rest → declaration_height d ≤ suc h → class_at texts names h p ms s ts ≡ Some (d, rest)
    class_exact {ms} {s} (class_declaration w t ps e is (is_body o b)) low =
        let c = class_head w t ps e is o in
        class_by ms s c (class_head_exact h c (omega arith)) (body_exact names texts h p below (is_body o b) (omega arith))

    interface_by : (ms : List Modifier) (s : Span) {c : InterfaceHead} {k : Span} {body : Members} {ts mid rest : List Token} → SpellsInterfaceHead c ts mid → interface_head_at h ts ≡ Some (c, mid) →
        class_body_at texts names h p mid ≡ Some (body, k, rest) → interface_at texts names h p ms s ts ≡ Some (tree.interface_declaration ms c.name c.parameters c.extends body (join s k), rest)
    unfolding interface_at
    interface_by ms s d a b = rw (a, b) refl

    interface_exact : {ms : List Modifier} {s : Span} {d : Declaration} {ts rest : List Token} → SpellsInterface names texts ms s d ts rest → declaration_height d ≤ suc h → interface_at texts names h p ms s ts ≡ Some (d, rest)
    interface_exact {ms} {s} (interface_declaration w t ps es (is_body o b)) low =
        let c = interface_head w t ps es o in
        interface_by ms s c (interface_head_exact h c (omega arith)) (body_exact names texts h p below (is_body o b) (omega arith))

    class_word : {ms : List Modifier} {s : Span} {d : Declaration} {ts rest : List Token} → SpellsClass names texts ms s d ts rest → is_word word.Class ts ≡ true
    class_word (class_declaration it_is t ps e is b) = refl

    interface_word : {ms : List Modifier} {s : Span} {d : Declaration} {ts rest : List Token} → SpellsInterface names texts ms s d ts rest → (is_word word.Class ts ≡ false) × (is_word word.Interface ts ≡ true)
    interface_word (interface_declaration it_is t ps es b) = (refl, refl)

    enum_word : {ms : List Modifier} {s : Span} {d : Declaration} {ts rest : List Token} → SpellsEnum ms s d ts rest → (is_word word.Class ts ≡ false) × (is_word word.Interface ts ≡ false)
    enum_word (enum_declaration it_is t o cs k e c) = (refl, refl)

    pub declared_exact : {ms : List Modifier} {s : Span} {d : Declaration} {ts rest : List Token} → Declares ms s d ts rest → declaration_height d ≤ suc h → declared_at texts names h p ms s ts ≡ Some (d, rest)
    unfolding declared_at
    declared_exact (declares_class c) low = rw (class_word c, class_exact c low) refl
    declared_exact (declares_interface c) low = let w = interface_word c in rw (w.0, w.1, interface_exact c low) refl
    declared_exact (declares_enum c) low = let w = enum_word c in rw (w.0, w.1, enum_exact h c low) refl

    layer_by : {ms : List Modifier} {d : Declaration} (ts : List Token) {mid rest : List Token} → modifiers_at names ts ≡ (ms, mid) → declared_at texts names h p ms (first_span ts) mid ≡ Some (d, rest) →
        declaration_layer texts names h p ts ≡ Some (d, rest)
    unfolding declaration_layer
    layer_by ts e f = rw (e, f) refl

    behind_modifiers : {ms : List Modifier} {d : Declaration} {ts mid rest : List Token} → SpellsModifiers names ms ts mid → Declares ms (first_span ts) d mid rest → declaration_height d ≤ suc h →
        declaration_layer texts names h p ts ≡ Some (d, rest)
    behind_modifiers {ts = ts} ms c low = layer_by ts (modifiers_before names ms (declares_begins c)) (declared_exact c low)

    pub declaration_exact : {d : Declaration} {ts rest : List Token} → SpellsDeclaration names texts d ts rest → declaration_height d ≤ suc h → declaration_layer texts names h p ts ≡ Some (d, rest)
    declaration_exact (is_class ms c) low = behind_modifiers ms (declares_class c) low
    declaration_exact (is_interface ms c) low = behind_modifiers ms (declares_interface c) low
    declaration_exact (is_enum ms c) low = behind_modifiers ms (declares_enum c) low
