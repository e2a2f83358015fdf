-- The classes that stand in a body and capture locals, and their reads of its locals (JLS 8.1.3, 14.3, 15.9.5).
use Rattle.std.specs.Prelude.{ℕ, zero, suc, ◌+◌, Bool, false, not, ◌&&◌, List, [], ◌∷◌, ◌++◌, length, flat_map, Option, Some, None, slice_get, nat_eq, nat_lt, if◌then◌else◌}
use Rattle.je_base.specs.declared.span.Span.{Span}
use Rattle.je_core.specs.declared.program.Local.{Local}
use Rattle.je_core.specs.declared.types.ClassId.{ClassId}
use Rattle.je_core.specs.Core.{CoreStmt, CoreField, CoreInitializer, CoreMethod, CoreClass, CoreProgram}
use Rattle.je_classes.specs.Hierarchy.{class_at, same_class}
use Rattle.je_fitting.specs.Expressions.{outer_count}
use Rattle.captured_reads.specs.declared.reads.CapturedRead.{CapturedRead}
use Rattle.captured_reads.specs.declared.scopes.LocalName.{LocalName}
use Rattle.captured_reads.specs.Nesting.{member_classes}
use Rattle.captured_reads.specs.Scopes.{local_named, unshadowed}
use Rattle.captured_reads.specs.Walks.{Met, Placed, a_field, a_class, met_in}

-- A class that stands directly in a body. Its home is the first token of the list of statements that a local class stands in.
pub record Standing : Type 0 where
  pub class : ClassId
  pub span : Span
  pub home : Option Span
  pub reads : List CapturedRead

-- ---- a read of a captured local (8.1.3): of the hidden field that has its name, behind that of the object round the class

abbrev pub is_captured : CoreClass → ℕ → Bool
is_captured c field = not (nat_lt field (outer_count c.enclosing)) && nat_lt field (outer_count c.enclosing + c.captured)

abbrev pub local_of_name : List LocalName → Option CoreField → Option ℕ
local_of_name names None = None
local_of_name names (Some f) = local_named f.name names

-- the local that a field of a class stands for, among those of these names
abbrev pub local_of_field : List LocalName → CoreClass → ℕ → Option ℕ
local_of_field names c field = if is_captured c field then local_of_name names (slice_get c.fields field) else None

abbrev pub read_at : Span → Option ℕ → List CapturedRead
read_at span None = []
read_at span (Some local) = record { local = local; span = span } ∷ []

-- the reads at one thing that a walk over a body of a class comes to, by those in the classes further inside it. What a name means in
-- such a class may be a local of this body.
abbrev pub reads_at : (List LocalName → ClassId → List CapturedRead) → List LocalName → ClassId → CoreClass → Met → List CapturedRead
reads_at further names class c (a_field of field span) = if same_class of class then read_at span (local_of_field names c field) else []
reads_at further names class c (a_class placed) = further (unshadowed placed.names names) placed.class

-- A class that captures nothing reads no local of a body round it, and has none inside it that does (8.1.3).
abbrev pub captures_in : Option CoreClass → Bool
captures_in None = false
captures_in (Some c) = not (nat_eq c.captured 0)

module _ (program : CoreProgram) where
  -- ---- the bodies of a class

  abbrev pub met_in_initializer : ClassId → CoreInitializer → List Met
  met_in_initializer class i = met_in program i.locals class 0 i.body

  abbrev pub met_in_body : ClassId → List Local → ℕ → Option CoreStmt → List Met
  met_in_body class locals params None = []
  met_in_body class locals params (Some body) = met_in program locals class params body

  abbrev pub met_in_method : ClassId → CoreMethod → List Met
  met_in_method class m = met_in_body class m.locals (length m.params) m.body

  abbrev pub met_in_class : ClassId → CoreClass → List Met
  met_in_class class c = flat_map (met_in_initializer class) c.initializers ++ flat_map (met_in_method class) c.methods

  -- ---- the reads in a class and in those inside it, of locals that have these names

  abbrev pub reads_in : (List LocalName → ClassId → List CapturedRead) → List LocalName → ClassId → Option CoreClass → List CapturedRead
  reads_in further names class None = []
  reads_in further names class (Some c) =
      flat_map (reads_at further names class c) (met_in_class class c) ++ flat_map (further names) (member_classes program class)

  -- along so many classes, each inside the one before; without a name there is nothing to be read
  abbrev pub reads_within : ℕ → List LocalName → ClassId → List CapturedRead
  reads_within zero names class = []
  reads_within (suc n) [] class = []
  reads_within (suc n) (name ∷ names) class = reads_in (reads_within n) (name ∷ names) class (class_at program class)

  unfoldable pub reads_of : List LocalName → ClassId → List CapturedRead
  reads_of names class = reads_within (length program.classes) names class

  -- ---- the classes that stand in a body of a class, with so many parameters

  abbrev pub standing_of : Placed → Standing
  standing_of placed = record {
    class = placed.class;
    span = placed.span;
    home = placed.home;
    reads = reads_of placed.names placed.class;
  }

  abbrev pub standing_at : Met → List Standing
  standing_at (a_field class field span) = []
  standing_at (a_class placed) = if captures_in (class_at program placed.class) then standing_of placed ∷ [] else []

  unfoldable pub standing_in : ClassId → List Local → ℕ → CoreStmt → List Standing
  standing_in class locals params body = flat_map standing_at (met_in program locals class params body)
