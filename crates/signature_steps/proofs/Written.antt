-- Methods and constructors as members of their class.
use Rattle.std.proofs.Common.{◌≡◌, ℕ, List, ap, sym, ◌∙◌}
use Rattle.std.specs.Prelude.{Option, None, slice_get}
use Rattle.je_base.specs.declared.span.Span.{Span}
use Rattle.je_ast.specs.declared.name.Identifier.{Identifier}
use Rattle.je_ast.specs.declared.decl.Modifier.{Modifier}
use Rattle.je_ast.specs.Types.{QualifiedName, TypeName, FormalParameter}
use Rattle.je_ast.specs.Trees.{ConstructorInvocation, MaybeBlock, Member, Statements}
use Rattle.je_ast.specs.Trees as tree
use Rattle.je_scopes.specs.Members.{part_of}
use Rattle.je_scopes.specs.Scope.{Part, member}
use Rattle.je_scopes.specs.Sites.{has_static}
use Rattle.je_typing.specs.Judged.{Judged, bind}
use Rattle.header_typing.specs.Statics.{is_inner, static_method}
use Rattle.member_rules.specs.declared.modifiers.Declared.TheVariants as what
use Rattle.signature_typing.specs.Signatures.{Setting, body, constructor_at, judged_member, method_at, own_methods, signature}

module _ (s : Setting) (c at : ℕ) (id : Identifier) (m : Member) (ms : List Modifier) (fs : List FormalParameter) (throws : List QualifiedName)
    (asked : List Modifier) (given : List FormalParameter) (named : List QualifiedName) (a : asked ≡ ms) (g : given ≡ fs) (n : named ≡ throws) where
  abbrev behind_signature : Member → List Modifier → Judged (Unit {0})
  behind_signature k ks =
      bind (body s c k) (λ (d : Unit {0}). bind (method_at s c at (slice_get (own_methods s c) at)) (λ (e : Unit {0}). static_method (is_inner s.sites s.heads c) ks id))

  pub method_is : (result : Option TypeName) (block : MaybeBlock) (span : Span) (part : Part) → m ≡ tree.method ms result id fs throws block span → part ≡ part_of (has_static ms) →
      bind (signature s c what.Method at part asked result given named) (λ (d : Unit {0}). behind_signature m asked) ≡ judged_member s c at m
  method_is result block span part is p =
      (λ i. bind (signature s c what.Method at (p i) (a i) result (g i) (n i)) (λ (d : Unit {0}). behind_signature (is i) (a i)))
      ∙ ap (judged_member s c at) (sym is)

  abbrev behind_constructor : Member → Judged (Unit {0})
  behind_constructor k = bind (body s c k) (λ (d : Unit {0}). constructor_at s c at (slice_get (own_methods s c) at))

  pub constructor_member_is : (first : ConstructorInvocation) (opening : Span) (block : Statements) (closing span : Span) → m ≡ tree.constructor ms id fs throws first opening block closing span →
      bind (signature s c what.Constructor at member asked None given named) (λ (d : Unit {0}). behind_constructor m) ≡ judged_member s c at m
  constructor_member_is first opening block closing span is =
      (λ i. bind (signature s c what.Constructor at member (a i) None (g i) (n i)) (λ (d : Unit {0}). behind_constructor (is i)))
      ∙ ap (judged_member s c at) (sym is)
