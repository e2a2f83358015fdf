-- The type of a name with its type arguments.
use Rattle.std.proofs.Common.{◌≡◌, ℕ, ◌+◌, min, List, [], ◌∷◌, length, map, refl, sym, ap, ◌∙◌, arith}
use Rattle.std.specs.declared.vec.Vec.{Vec}
use Rattle.std.specs.declared.alloc.Global.{Global}
use Rattle.je_base.specs.declared.span.Span.{Span}
use Rattle.je_ast.specs.declared.name.Name.{Name}
use Rattle.je_ast.specs.declared.ty_name.Primitive.{Primitive}
use Rattle.je_ast.specs.declared.ty_name.Primitive.TheVariants as word
use Rattle.je_ast.specs.declared.ty_name.TyName.{TyName}
use Rattle.je_ast.specs.declared.ty_name.TyName.TheVariants as held
use Rattle.je_ast.specs.Types.{TypeName, TypeNames, QualifiedName, primitive, class_type, name_view, type_layer, type_view, type_node_view, type_views_of}
use Rattle.je_scopes.specs.Looks.{Look}
use Rattle.je_scopes.specs.Source.{Source}
use Rattle.je_scopes.specs.Scope.{Known, Part, meaning}
use Rattle.je_scopes.specs.SourceTypes.{base_of, count, plain, source_type, source_types, type_for, types_named}
use Rattle.name_types.specs.declared.types.SrcBase.{SrcBase}
use Rattle.name_types.specs.View.{base_shown, in_limit, all_in_limit, plain_shown}

pub primitive_node : (t : TyName) (p : Primitive) (dims : ℕ) (span : Span) → t ≡ held.Primitive p dims span → primitive p dims span ≡ type_node_view t
primitive_node t p dims span e = sym (ap type_node_view e ∙ ap (type_layer type_view) (held.outs-Primitive p dims span))

pub class_node : (t : TyName) (n : Name) (args : Vec TyName Global) (dims : ℕ) (span : Span) → t ≡ held.Class n args dims span → class_type (name_view n) (type_views_of args.items) dims span ≡ type_node_view t
class_node t n args dims span e = sym (ap type_node_view e ∙ ap (type_layer type_view) (held.outs-Class n args dims span))

pub primitive_plain : (w : Primitive) (n : ℕ) → plain_shown (base_of w) n ≡ plain (base_of w) n
primitive_plain word.Boolean n = refl
primitive_plain word.Byte n = refl
primitive_plain word.Short n = refl
primitive_plain word.Char n = refl
primitive_plain word.Int n = refl
primitive_plain word.Long n = refl

no-more : (dims : ℕ) → min 255 (0 + dims) ≡ min 255 dims
no-more dims = omega arith

module _ (p : Source) (known : Known) (c : ℕ) (part : Part) where
  pub primitive_shown : (b : SrcBase) (d dims : ℕ) (w : Primitive) (span : Span) (t : TypeName) → d ≡ min 255 (0 + dims) → base_shown b d ≡ plain (base_of w) d → primitive w dims span ≡ t
      → base_shown b d ≡ in_limit (source_type p known c part t)
  primitive_shown b d dims w span t e h n = h ∙ ap (plain (base_of w)) (e ∙ no-more dims) ∙ ap (λ (k : TypeName). in_limit (source_type p known c part k)) n

  pub class_shown : (b : SrcBase) (d k dims : ℕ) (look : Look) (q : QualifiedName) (args : TypeNames) (span : Span) (t : TypeName) → d ≡ min 255 (0 + dims) → look ≡ meaning p known c part q.parts → k ≡ count args
      → base_shown b (min 255 dims) ≡ in_limit (type_for p look k (types_named p known c part args) dims) → class_type q args dims span ≡ t
      → base_shown b d ≡ in_limit (source_type p known c part t)
  class_shown b d k dims look q args span t e l m h n = ap (base_shown b) (e ∙ no-more dims) ∙ h
      ∙ (λ i. in_limit (type_for p (l i) (m i) (types_named p known c part args) dims)) ∙ ap (λ (u : TypeName). in_limit (source_type p known c part u)) n

  pub all_named : (args : List TyName) → source_types (map (λ a. in_limit (source_type p known c part (type_view a))) args) ≡ all_in_limit (types_named p known c part (type_views_of args))
  all_named [] = refl
  all_named (a ∷ args) = rw (all_named args) refl

pub count_of_views : (args : List TyName) → count (type_views_of args) ≡ length args
count_of_views [] = refl
count_of_views (a ∷ args) = rw (count_of_views args) refl
