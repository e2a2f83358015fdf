-- A program that has the classes of headers: class Object; class Box<T extends Object> extends Object.
use Rattle.std.proofs.Common.{◌≡◌, ℕ, zero, suc, List, [], ◌∷◌, Option, Some, None, refl, sym}
use Rattle.std.specs.Prelude.{true, false}
use Rattle.std.specs.List.{Contains}
use Rattle.je_base.specs.declared.span.Span.{Span}
use Rattle.je_core.specs.declared.program.Kind.{Kind}
use Rattle.je_core.specs.declared.program.Sort.TheVariants as sort
use Rattle.je_core.specs.declared.types.ClassId.{ClassId}
use Rattle.je_core.specs.Core.{CoreClass, CoreProgram}
use Rattle.je_classes.specs.Hierarchy.{object_class}
use Rattle.je_classes.proofs.Lists.{contains-cases, contains-here}
use Rattle.je_classes.proofs.Sets.{by_either}
use Rattle.je_scopes.specs.SourceTypes.{SourceType, no_source_types, of_variable}
use Rattle.source_types.specs.Erasure.{erased}
use Rattle.source_types.specs.Heads.{ClassHead, bound_of, object_type, supers_of}
use Rattle.source_types.specs.Laws.{is_class_or_variable}
use Rattle.typing_laws.specs.Correspondence.{HasHeads, StandsAbove}
use Rattle.typing_laws.proofs.Subtypes.{contains-none}

abbrev kind : Kind
kind = record { sort = sort.Class; is_abstract = false; is_final = false; is_static = false }

abbrev nowhere : Span
nowhere = record { file = 0; start = 0; end = 0 }

abbrev head : List SourceType → List SourceType → ClassHead
head bounds supers = record { kind = kind; bounds = bounds; supers = supers }

abbrev heads : List ClassHead
heads = head [] [] ∷ head (object_type ∷ []) (object_type ∷ []) ∷ []

abbrev class : Option ClassId → CoreClass
class superclass = record {
  name = record { 0 = 0 };
  span = nowhere;
  kind = kind;
  superclass = superclass;
  interfaces = [];
  heads = [];
  fields = [];
  initializers = [];
  methods = [];
  enclosing = None;
  captured = 0;
  within = None;
  nth = 0;
  top = record { 0 = 0 };
  bridges = [];
}

abbrev program : CoreProgram
program = record { classes = class None ∷ class (Some object_class) ∷ []; texts = [] }

supers : (c : ℕ) (t : SourceType) → Contains (supers_of heads c) t → StandsAbove program c t
supers zero t q = absurd (contains-none t q)
supers (suc zero) t q =
    let is : object_type ≡ t = by_either (λ e. e) (λ e. absurd (contains-none t e)) (contains-cases object_type t [] q) in
    record { class = object_class.0; arguments = no_source_types; is = sym is; above = contains-here object_class [] }
supers (suc (suc n)) t q = absurd (contains-none t q)

bounds : (c at : ℕ) → is_class_or_variable (bound_of heads c at) ≡ true
bounds zero at = refl
bounds (suc zero) zero = refl
bounds (suc zero) (suc n) = refl
bounds (suc (suc n)) at = refl

variables : (c at : ℕ) → erased heads (of_variable c at 0) ≡ erased heads (bound_of heads c at)
unfolding erased
variables zero at = refl
variables (suc zero) zero = refl
variables (suc zero) (suc n) = refl
variables (suc (suc n)) at = refl

has-heads : HasHeads program heads
has-heads = record { supers = supers; bounds = bounds; variables = variables }
