-- A program of three classes, of which each is below the one before it: Object, and two others.
use Rattle.std.specs.Prelude.{ℕ, [], ◌∷◌, Option, Some, None, false}
use Rattle.je_base.specs.declared.span.Span.{Span}
use Rattle.je_core.specs.declared.program.Sort.TheVariants as sort
use Rattle.je_core.specs.declared.types.ClassId.{ClassId}
use Rattle.je_core.specs.Core.{CoreClass, CoreProgram}

abbrev pub numbered : ℕ → ClassId
numbered n = record { 0 = n }

abbrev pub nowhere : Span
nowhere = record { file = 0; start = 0; end = 0 }

abbrev pub class_below : ℕ → Option ClassId → CoreClass
class_below n superclass = record {
  name = record { 0 = n };
  span = nowhere;
  kind = record { sort = sort.Class; is_abstract = false; is_final = false; is_static = false };
  superclass = superclass;
  interfaces = [];
  heads = [];
  fields = [];
  initializers = [];
  methods = [];
  enclosing = None;
  captured = 0;
  within = None;
  nth = 0;
  top = numbered n;
  bridges = [];
}

abbrev pub chain : CoreProgram
chain = record { classes = class_below 0 None ∷ class_below 1 (Some (numbered 0)) ∷ class_below 2 (Some (numbered 1)) ∷ []; texts = [] }
