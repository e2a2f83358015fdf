-- What a member is, by what begins there: each branch of the reading function, at what the tests before it said.
use Rattle.std.proofs.Common.{◌≡◌, ℕ, true, false, List, Some, None, refl, ◌∙◌}
use Rattle.je_base.specs.declared.span.Span.{Span}
use Rattle.je_token.specs.declared.token.Token.{Token}
use Rattle.je_ast.specs.declared.decl.Modifier.{Modifier}
use Rattle.je_ast.specs.Trees.{Declaration}
use Rattle.je_ast.specs.Trees as tree
use Rattle.je_grammar.specs.Tokens.{first_span}
use Rattle.parse_laws.specs.way.Tokens.{Read, ◌>>=◌}
use Rattle.parse_laws.specs.way.Types.{modifiers_at}
use Rattle.parse_laws.specs.way.Below.{Below}
use Rattle.parse_laws.specs.way.Members.{begins_initializer_at, begins_declared_at, begins_constructor_at, begins_method_at, initializer_at, declared_at, constructor_at, method_at, field_at, modified_at, member_layer}
use Rattle.parse_members.specs.way.Views.{as_members}

as_member : (o : Read Declaration) → (o >>= λ d. Some (tree.member_type d.0, d.1)) ≡ as_members o
as_member (Some d) = refl
as_member None = refl

module _ (texts names : List (List ℕ)) (h : ℕ) (p : Below) where
  pub initializer_branch : (ts : List Token) → begins_initializer_at ts ≡ true → member_layer texts names h p ts ≡ initializer_at texts names h p ts
  unfolding member_layer
  initializer_branch ts begins = rw begins refl

  module _ (ts rest : List Token) (ms : List Modifier) (first : Span) (starts : first ≡ first_span ts) (no_initializer : begins_initializer_at ts ≡ false) (modified : modifiers_at names ts ≡ (ms, rest)) where
    modified_branch : member_layer texts names h p ts ≡ modified_at texts names h p ms first rest
    unfolding member_layer
    modified_branch = rw (no_initializer, modified, starts) refl

    pub declared_branch : begins_declared_at rest ≡ true → member_layer texts names h p ts ≡ as_members (declared_at texts names h p ms first rest)
    unfolding modified_at
    declared_branch begins = modified_branch ∙ rw begins (as_member (declared_at texts names h p ms first rest))

    pub constructor_branch : begins_declared_at rest ≡ false → begins_constructor_at rest ≡ true → member_layer texts names h p ts ≡ constructor_at texts names h p ms first rest
    unfolding modified_at
    constructor_branch no_type begins = modified_branch ∙ rw (no_type, begins) refl

    pub method_branch : begins_declared_at rest ≡ false → begins_constructor_at rest ≡ false → begins_method_at h rest ≡ true → member_layer texts names h p ts ≡ method_at texts names h p ms first rest
    unfolding modified_at
    method_branch no_type no_constructor begins = modified_branch ∙ rw (no_type, no_constructor, begins) refl

    pub field_branch : begins_declared_at rest ≡ false → begins_constructor_at rest ≡ false → begins_method_at h rest ≡ false → member_layer texts names h p ts ≡ field_at texts names h p ms first rest
    unfolding modified_at
    field_branch no_type no_constructor no_method = modified_branch ∙ rw (no_type, no_constructor, no_method) refl
