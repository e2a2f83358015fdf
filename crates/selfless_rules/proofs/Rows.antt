-- Worked rows: each beside its nearest neighbour.
use Rattle.std.proofs.Common.{◌≡◌, ℕ, List, [], ◌∷◌, Option, Some, None, refl}
use Rattle.std.specs.Prelude.{Bool, true, false}
use Rattle.je_base.specs.declared.span.Span.{Span}
use Rattle.je_core.specs.declared.program.Access.TheVariants as access
use Rattle.je_core.specs.declared.program.Sort.TheVariants as sort
use Rattle.je_core.specs.declared.types.Base.TheVariants as base
use Rattle.je_core.specs.declared.types.ClassId.{ClassId}
use Rattle.je_core.specs.declared.types.Ty.{Ty}
use Rattle.je_core.specs.Core.{CoreField, CoreMethod, CoreClass, CoreProgram}
use Rattle.je_classes.specs.Hierarchy.{is_below, library_class, object_class}
use Rattle.rule_breaks.specs.declared.rules.ConfinementRule.TheVariants as rule
use Rattle.rule_breaks.specs.Breaks.{none, break_at}
use Rattle.super_equals.specs.Calls.{equals_place}
use Rattle.taming_db.specs.declared.marker.Marker.TheVariants.{Selfless}
use Rattle.overlay_types.specs.Overlay.{interface_of, is_marked}
use Rattle.selfless_rules.specs.SelflessRules.{changing_breaks, extends_other}

at : Span
at = record { file = 0; start = 22; end = 23 }

numbered : ℕ → ClassId
numbered n = record { 0 = n }

int : Ty
int = record { base = base.Int; dims = 0 }

object : Ty
object = record { base = base.Class object_class; dims = 0 }

field : Bool → Bool → CoreField
field is_static is_final =
    record { name = record { 0 = 0 }; span = at; ty = int; is_static = is_static; is_final = is_final; access = access.Package; constant = None }

fields : (changing_breaks (field false false) ≡ break_at rule.SelflessClass at) × (changing_breaks (field false true) ≡ none) × (changing_breaks (field true false) ≡ none)
unfolding field
fields = (refl, refl, refl)

method : Ty → CoreMethod
method parameter = record {
  name = record { 0 = 7 };
  span = at;
  params = parameter ∷ [];
  returns = record { base = base.Bool; dims = 0 };
  flags = record { is_static = false; is_final = false; is_abstract = false; is_native = false; is_finalizer = false; access = access.Public };
  throws = [];
  locals = [];
  body = None;
}

class : Option ClassId → List ClassId → List CoreMethod → CoreClass
class superclass interfaces methods = record {
  name = record { 0 = 0 };
  span = at;
  kind = record { sort = sort.Class; is_abstract = false; is_final = false; is_static = false };
  superclass = superclass;
  interfaces = interfaces;
  heads = [];
  fields = [];
  initializers = [];
  methods = methods;
  enclosing = None;
  captured = 0;
  within = None;
  nth = 0;
  top = numbered 0;
  bridges = [];
}

-- Object, a class below it without a marker, and the class that is judged
program : CoreClass → CoreProgram
program c = record { classes = class None [] (method object ∷ []) ∷ class (Some (numbered 0)) [] [] ∷ c ∷ []; texts = [] }

below : ℕ → List CoreMethod → CoreClass
below superclass methods = class (Some (numbered superclass)) (interface_of Selfless ∷ []) methods

breaks : CoreClass → Bool
breaks c = extends_other (program c) [] c

-- below Object with and without `equals(Object)`, with an `equals(int)` alone, and with `equals(Object)` below the other class
superclasses : (breaks (below 0 (method object ∷ [])) ≡ false) × (breaks (below 0 []) ≡ true) × (breaks (below 0 (method int ∷ [])) ≡ true) × (breaks (below 1 (method object ∷ [])) ≡ true)
unfolding breaks below program class method object int numbered is_marked is_below library_class object_class equals_place
superclasses = (refl, refl, refl, refl)
