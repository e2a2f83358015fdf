-- What is declared without type arguments fits with them, where it is cast to what they say.
use Rattle.std.proofs.Common.{◌≡◌, List, refl, sym, ap, ◌∙◌, inl, inr, arith}
use Rattle.std.specs.Prelude.{true, false, if◌then◌else◌}
use Rattle.je_core.specs.declared.types.Ty.{Ty}
use Rattle.je_core.specs.Core.{Core, CoreProgram, node, ty_of}
use Rattle.je_core.specs.Core as core
use Rattle.je_classes.specs.Subtypes.{same_type}
use Rattle.je_classes.proofs.Lists.{bool_cases}
use Rattle.je_classes.proofs.Same.{same_type-equal, same_type-refl}
use Rattle.je_fitting.specs.Expressions.{Body}
use Rattle.je_fitting.specs.Expressions as fits
use Rattle.source_types.specs.Erasure.{erased}
use Rattle.source_types.specs.Heads.{ClassHead}
use Rattle.je_typing.specs.Conversions.{span_of, token_of}
use Rattle.je_typing.specs.Typed.{TypedNode}
use Rattle.name_typing.specs.Variables.{taken}
use Rattle.typing_laws.specs.Correspondence.{HasHeads}
use Rattle.typing_laws.proofs.Nodes.{no-uses}
use Rattle.fitting_laws.specs.Sound.{SameOrBelow, a_type}
use Rattle.fitting_laws.specs.Values.{FitsBelow, IsValue}
use Rattle.fitting_laws.proofs.Below.{below-references}
use Rattle.fitting_laws.proofs.Sound.{sound-variable}

module _ (p : CoreProgram) (body : Body) (heads : List ClassHead) where
  abbrev cast : TypedNode → TypedNode
  cast t = record { node = node (core.Cast t.node) (erased heads t.type) (span_of t.node) (token_of t.node); type = t.type }

  pub taken-by : (P : TypedNode → Type 0) (t : TypedNode) → (ty_of t.node ≡ erased heads t.type → P t) → (same_type (ty_of t.node) (erased heads t.type) ≡ false → P (cast t)) → P (taken heads t)
  unfolding taken
  taken-by P t same other = bool_cases (λ b. same_type (ty_of t.node) (erased heads t.type) ≡ b → P (if b then t else cast t)) (same_type (ty_of t.node) (erased heads t.type))
      (λ _ e. same (same_type-equal (ty_of t.node) (erased heads t.type) e)) (λ _ e. other e) refl

  -- what has its own type stays as it is
  pub taken-value : (t : TypedNode) → IsValue p body heads t → IsValue p body heads (taken heads t)
  taken-value t v = taken-by (IsValue p body heads) t (λ e. v)
      (λ e. let none : true ≡ false = sym (same_type-refl (erased heads t.type)) ∙ ap (λ (u : Ty). same_type u (erased heads t.type)) (sym v.fits.type) ∙ e in absurd cc)

  module _ (known : HasHeads p heads) where
    pub same-value : (t : TypedNode) → FitsBelow p body heads t → ty_of t.node ≡ erased heads t.type → IsValue p body heads t
    same-value t f e = record { fits = record { node = f.node; uses = f.uses; type = e }; type = a_type f.type }

    cast-value : (t : TypedNode) → FitsBelow p body heads t → SameOrBelow p (erased heads t.type) (ty_of t.node) → same_type (ty_of t.node) (erased heads t.type) ≡ false → IsValue p body heads (cast t)
    cast-value t f (inl h) e = let none : true ≡ false = sym (same_type-refl (erased heads t.type)) ∙ ap (λ (u : Ty). same_type u (erased heads t.type)) h ∙ e in absurd cc
    cast-value t f (inr h) e =
        let sides = below-references p (erased heads t.type) (ty_of t.node) h in
        record {
          fits = record { node = λ texts q. fits.cast (f.node texts q) sides.1 sides.0 (sound-variable p heads known (omega arith) f.type); uses = no-uses p body heads; type = refl };
          type = a_type f.type;
        }

    pub taken-fits : (t : TypedNode) → FitsBelow p body heads t → IsValue p body heads (taken heads t)
    taken-fits t f = taken-by (IsValue p body heads) t (same-value t f) (cast-value t f f.below)
