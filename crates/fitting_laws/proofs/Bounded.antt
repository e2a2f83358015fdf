-- The bound of a type variable (JLS 4.4): a class type, of whose class the variable's erasure is.
use Rattle.std.proofs.Common.{◌≡◌, ℕ, zero, suc, ◌+◌, List, refl, ap, ◌∙◌, arith, min}
use Rattle.std.specs.Prelude.{true}
use Rattle.je_core.specs.declared.types.Base.{Base}
use Rattle.je_core.specs.declared.types.Base.TheVariants as base
use Rattle.je_core.specs.declared.types.Ty.{Ty}
use Rattle.je_core.specs.Core.{CoreProgram}
use Rattle.je_classes.specs.Hierarchy.{object_class}
use Rattle.je_classes.specs.Subtypes.{class_type, is_subtype}
use Rattle.je_scopes.specs.SourceTypes.{SourceType, SourceTypes, no_source_types, plain, of_class, of_variable}
use Rattle.source_types.specs.Erasure.{class_numbered, erased, erased_within}
use Rattle.source_types.specs.Heads.{ClassHead, bound_of, variable_count}
use Rattle.source_types.specs.Laws.{is_class_or_variable}
use Rattle.source_types.specs.Substitution.{array_over}
use Rattle.je_typing.specs.Castable.{bounded, bounded_within}
use Rattle.typing_laws.specs.Correspondence.{HasHeads}
use Rattle.typing_laws.proofs.Subtypes.{erased_base, parts, within-class}
use Rattle.fitting_laws.specs.Sound.{AreSound, HeadsAreSound, IsSound, no_arguments, sound_class}
use Rattle.fitting_laws.proofs.Instances.{at-dims, class-itself}
use Rattle.fitting_laws.proofs.Sound.{all-wider}

module _ (q : CoreProgram) (heads : List ClassHead) (known : HasHeads q heads) (sound : HeadsAreSound q heads) where
  record Within (steps : ℕ) (t u : SourceType) : Type 0 where
    class : ℕ
    arguments : SourceTypes
    dims : ℕ
    is : u ≡ of_class class arguments dims
    given : AreSound q heads 255 class 0 arguments
    base : (erased_within heads steps t).base ≡ base.Class (class_numbered class)

  bounded-class : (steps c : ℕ) (ts : SourceTypes) (n : ℕ) → bounded_within heads steps (of_class c ts n) ≡ of_class c ts n
  bounded-class zero c ts n = refl
  bounded-class (suc k) c ts n = refl

  given-of : {c n : ℕ} {args : SourceTypes} → IsSound q heads 254 (of_class c args n) → AreSound q heads 255 c 0 args
  given-of (sound_class h few given) = all-wider q heads given

  bound-within : (steps : ℕ) → ((c at n : ℕ) → Within steps (of_variable c at n) (bounded_within heads steps (of_variable c at n))) → (t : SourceType) → is_class_or_variable t ≡ true → IsSound q heads 254 t
      → Within steps t (bounded_within heads steps t)
  bound-within steps variables (of_class c ts n) h s = record {
    class = c;
    arguments = ts;
    dims = n;
    is = bounded-class steps c ts n;
    given = given-of s;
    base = ap (λ (u : Ty). u.base) (within-class heads steps c ts n);
  }
  bound-within steps variables (of_variable c at n) h s = variables c at n
  bound-within steps variables (plain b n) h s = absurd cc

  variable-within : (steps c at n : ℕ) → Within steps (of_variable c at n) (bounded_within heads steps (of_variable c at n))
  variable-within zero c at n = record { class = object_class.0; arguments = no_source_types; dims = min 255 (0 + n); is = refl; given = no_arguments; base = refl }
  variable-within (suc k) c at n =
      let w = bound-within k (λ d i m. variable-within k d i m) (bound_of heads c at) (known.bounds c at) (sound.bounds c at) in
      record { class = w.class; arguments = w.arguments; dims = min 255 (w.dims + n); is = ap (λ (u : SourceType). array_over u n) w.is; given = w.given; base = w.base }

  pub record Bound (t : SourceType) : Type 0 where
    pub class : ℕ
    pub arguments : SourceTypes
    pub dims : ℕ
    pub is : bounded heads t ≡ of_class class arguments dims
    pub given : AreSound q heads 255 class 0 arguments
    pub below : is_subtype q (erased heads t) (class_type (class_numbered class)) ≡ true

  base-is : (c at : ℕ) (b : Base) → (erased_within heads (variable_count heads) (of_variable c at 0)).base ≡ b → erased_base heads (of_variable c at 0) ≡ b
  unfolding erased
  base-is c at b e = e

  pub variable-bound : (c at : ℕ) → Bound (of_variable c at 0)
  variable-bound c at =
      let w = variable-within (variable_count heads) c at 0 in
      record { class = w.class; arguments = w.arguments; dims = w.dims; is = w.is; given = w.given; below = ap (λ (u : Ty). is_subtype q u (class_type (class_numbered w.class))) (class-is w.class w.base) ∙ class-itself q (class_numbered w.class) }
    where
      class-is : (d : ℕ) → (erased_within heads (variable_count heads) (of_variable c at 0)).base ≡ base.Class (class_numbered d) → erased heads (of_variable c at 0) ≡ class_type (class_numbered d)
      class-is d e = parts heads known.bounds (of_variable c at 0) (omega arith) ∙ ap (λ (b : Base). at-dims b 0) (base-is c at (base.Class (class_numbered d)) e)
