-- A class, of what it is made of.
use Rattle.std.proofs.Common.{◌≡◌, ℕ, List, [], ◌∷◌, ◌++◌, map, Option, Some, None, refl, sym, ap, ◌∙◌}
use Rattle.std.specs.Prelude.{option_map, slice_get}
use Rattle.je_core.specs.declared.program.Head.{Head}
use Rattle.je_core.specs.declared.program.Kind.{Kind}
use Rattle.je_core.specs.Core.{Core, CoreClass, CoreField}
use Rattle.je_core.specs.View.{initializer_view, method_view, view}
use Rattle.je_scopes.specs.BinaryNames.{number_in}
use Rattle.je_scopes.specs.Headers.{heads_in, site_at}
use Rattle.declarations.specs.Declarations.{DeclaredClass, DeclaredField}
use Rattle.declarations.specs.View.{field_shown}
use Rattle.name_typing.specs.Program.{Program}
use Rattle.class_typing.specs.Bridges.{bridges}
use Rattle.class_typing.specs.Classes.{core_class, declared_field, declared_from, declared_heads, heads_from, kind_in, written_fields}
use Rattle.class_typing.specs.Members.{MembersDone}
use Rattle.class_typing.specs.Programs.{CapturedLocal}
use Rattle.core_making.specs.Known.{captured_local_seen}
use Rattle.core_making.specs.declared.making.Parts.{Parts}
use Rattle.core_making.specs.Parts.{IsMadeOf}
use Rattle.core_making.specs.way.HiddenFields.{hidden_fields}
use Rattle.core_making.specs.way.Made.{classes_above, fields_from, kind_of, made}
use Rattle.core_making.proofs.HiddenFields.{hidden_by_kind}

module _ (p : Program) (captured : ℕ → List CapturedLocal) (c : ℕ) where
  same-kind : (o : Option DeclaredClass) → kind_of p o ≡ kind_in p captured c o
  same-kind None = refl
  same-kind (Some d) = refl

  same-above : (o : Option DeclaredClass) → classes_above p o ≡ declared_heads p captured c o
  same-above None = refl
  same-above (Some d) = refl

  same-fields : (fs : List DeclaredField) (ks : List (Option Core)) → fields_from p fs ks ≡ declared_from p captured c fs ks
  same-fields [] ks = refl
  same-fields (f ∷ fs) [] = refl
  same-fields (f ∷ fs) (k ∷ ks) =
      ap (λ (gs : List CoreField). declared_field p captured c f k ∷ gs) (same-fields fs ks)

  module _ (d : MembersDone) where
    abbrev with-parts : Kind → List Head → List CoreField → CoreClass
    with-parts kind heads fields = record (core_class p captured c d) { kind = kind; heads = heads; fields = fields }

    all-fields : hidden_fields p c (captured c) ++ fields_from p (written_fields p captured c) d.constants ≡ (core_class p captured c d).fields
    all-fields =
        (λ i. sym (hidden_by_kind p captured c) i ++ same-fields (written_fields p captured c) d.constants i)

    by-parts : made p c (captured c) (written_fields p captured c) d.constants d.initializers d.methods (number_in p.source c) (bridges p.heads p.classes c)
        ≡ core_class p captured c d
    by-parts =
        (λ i. with-parts (same-kind (slice_get p.classes c) i)
        (heads_from (heads_in (site_at p.source.sites c).written) (same-above (slice_get p.classes c) i)) (all-fields i))

    pub is_core_class : (parts : Parts) → IsMadeOf p captured c d parts →
        made p c (map captured_local_seen parts.captured.now) (map field_shown parts.declared.now) (map (option_map view) parts.constants.items)
        (map initializer_view parts.initializers.items) (map method_view parts.methods.items) parts.nth parts.bridges.items
        ≡ core_class p captured c d
    is_core_class parts h =
        (λ i. made p c (h.captured_are i) (h.declared_are i) (h.constants_are i) (h.initializers_are i) (h.methods_are i) (h.number_is i)
        (h.bridges_are i))
        ∙ by-parts
