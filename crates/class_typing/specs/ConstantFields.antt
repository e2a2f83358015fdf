-- Which fields are constant variables (JLS 4.12.4, 15.28), and which final fields are blank (JLS 8.3.1.2). A field
-- whose initializer leads back to itself is no constant.
use Rattle.std.specs.Prelude.{ℕ, zero, suc, ◌-◌, Bool, true, false, List, [], ◌∷◌, ◌++◌, length, map, Option, Some, None, slice_get, nat_lt, unwrap_or, if◌then◌else◌}
use Rattle.std.specs.List.{sum_by}
use Rattle.je_core.specs.Core.{Core, CoreClass, CoreField, CoreForm, Const, Text, form_of}
use Rattle.je_ast.specs.declared.name.Identifier.{Identifier}
use Rattle.je_ast.specs.Trees.{Expression, MaybeExpression, Member as MemberTree, Members, Variables}
use Rattle.je_ast.specs.Trees as tree
use Rattle.je_classes.specs.Members.{Member}
use Rattle.je_scopes.specs.Headers.{constants_in, is_guest, members_in, site_at}
use Rattle.je_scopes.specs.Sites.{Written, context_of}
use Rattle.je_scopes.specs.Source.{Source}
use Rattle.declarations.specs.Declarations.{DeclaredClass, DeclaredField}
use Rattle.je_typing.specs.Judged.{Judged, faulty, gives}
use Rattle.je_typing.specs.Typed.{TypedNode}
use Rattle.library_classes.specs.Library.{all_due}
use Rattle.library_classes.specs.Numbers.{number_in}
use Rattle.name_typing.specs.Fields.{field_at}
use Rattle.name_typing.specs.Program.{Constant, Frame, Program, text_constant, value_constant}
use Rattle.body_typing.specs.ConstantVariables.{variable_constant}
use Rattle.body_typing.specs.Expressions.{Known, expression, initial, value}
use Rattle.body_typing.specs.FinalVariables.{Scope}
use Rattle.class_typing.specs.Captures.{captures}
use Rattle.class_typing.specs.Places.{member_frame}
use Rattle.class_typing.specs.Programs.{CapturedLocal}

-- ---- the values that are written of fields

-- a value that no source writes, as those of hidden fields and of an enum's constants, none, or an initializer
pub data FieldValue : Type 0 where
  unwritten : FieldValue
  no_value : FieldValue
  by : Expression → FieldValue

abbrev pub value_of : MaybeExpression → FieldValue
value_of tree.no_expression = no_value
value_of (tree.an_expression e) = by e

abbrev pub variable_values : Variables → List FieldValue
variable_values tree.no_variables = []
variable_values (tree.more_variables id dims e vs) = value_of e ∷ variable_values vs

abbrev pub values_before : MemberTree → List FieldValue → List FieldValue
values_before (tree.field ms t vs span) further = variable_values vs ++ further
values_before m further = further

abbrev pub member_values : Members → List FieldValue
member_values tree.no_members = []
member_values (tree.more_members m ms) = values_before m (member_values ms)

abbrev pub constant_value : Identifier → FieldValue
constant_value id = unwritten

abbrev pub written_values : Written → List FieldValue
written_values w = map constant_value (constants_in w) ++ member_values (members_in w)

-- ---- constants of the library

abbrev pub constant_in : CoreForm → Option Constant
constant_in (Const v uses) = Some (value_constant v)
constant_in (Text units uses) = Some (text_constant units)
constant_in form = None

abbrev pub constant_if : Option Core → Option Constant
constant_if None = None
constant_if (Some n) = constant_in (form_of n)

abbrev pub constant_of_field : Option CoreField → Option Constant
constant_of_field None = None
constant_of_field (Some f) = constant_if f.constant

abbrev pub fields_in : Option CoreClass → List CoreField
fields_in None = []
fields_in (Some c) = c.fields

abbrev pub library_constant : List (List ℕ) → Member → Option Constant
library_constant texts m =
    constant_of_field (slice_get (fields_in (slice_get (all_due (number_in texts)) m.class.0)) m.at)

-- ---- constants of a program, of whose classes the hidden fields and the bodies round them are known

abbrev pub if_final : DeclaredField → Judged TypedNode → Option Constant
if_final f (gives t) = variable_constant f.is_final f.ty t.node
if_final f (faulty fault) = None

-- before bodies are walked: no locals are captured, and nothing is assigned in a constant
abbrev pub no_locals : ℕ → List CapturedLocal
no_locals c = []

abbrev pub no_bodies : ℕ → List Frame
no_bodies c = []

abbrev pub nothing_known : Program → Known
nothing_known p = record { captures = captures p no_locals no_bodies; is_blank = λ m. false }

-- in the initializer of a field, before which so many stand
abbrev pub in_initializer : Bool → ℕ → ℕ → List Frame → Scope
in_initializer is_static c at round = record {
  place = record {
    here = member_frame c (context_of is_static) (Some (record { is_static = is_static; declared = at })) [];
    round = round;
  };
  is_constructor = false;
  given = [];
}

module _ (p : Program) (hidden : ℕ → ℕ) where
  abbrev pub hidden_values : ℕ → List FieldValue
  hidden_values zero = []
  hidden_values (suc n) = unwritten ∷ hidden_values n

  abbrev pub field_values : ℕ → List FieldValue
  field_values c = hidden_values (hidden c) ++ written_values (site_at p.source.sites c).written

  abbrev pub field_value : Member → FieldValue
  field_value m = unwrap_or (slice_get (field_values m.class.0) m.at) unwritten

  abbrev pub is_without : FieldValue → Bool
  is_without no_value = true
  is_without v = false

  -- a field that a source declares without an initializer
  unfoldable pub is_blank : Member → Bool
  is_blank m = is_without (field_value m)

module _ (p : Program) (hidden : ℕ → ℕ) (round : ℕ → List Frame) where
  abbrev pub scope_of : DeclaredField → Member → Scope
  scope_of f m = in_initializer f.is_static m.class.0 m.at (round m.class.0)

  abbrev pub with_known : (Member → Option Constant) → Program
  with_known known = record p { constants = known }

  abbrev pub constant_by : (Member → Option Constant) → Member → Option DeclaredField → FieldValue → Option Constant
  constant_by known m (Some f) (by e) =
      if_final f (value (expression (with_known known) (nothing_known (with_known known)) (scope_of f m) (initial f.ty) e))
  constant_by known m f v = None

  abbrev pub constant_next : (Member → Option Constant) → Member → Option Constant
  constant_next known m = constant_by known m (field_at p.classes m) (field_value p hidden m)

  -- of the fields of some classes, where so many fields on the way to it are; the others' are known
  abbrev pub constants_within : ℕ → (ℕ → Bool) → (Member → Option Constant) → Member → Option Constant
  constants_within zero is_asked known m = known m
  constants_within (suc n) is_asked known m =
      if is_asked m.class.0 then constant_next (constants_within n is_asked known) m else known m

  abbrev pub field_count : DeclaredClass → ℕ
  field_count d = length d.fields

  unfoldable pub constants_of : (ℕ → Bool) → (Member → Option Constant) → Member → Option Constant
  constants_of is_asked known = constants_within (suc (sum_by field_count p.classes)) is_asked known

-- ---- before the bodies are walked: those of the library, where they are no program's

unfoldable pub library_constants : Source → Member → Option Constant
library_constants source m =
    if is_guest (site_at source.sites m.class.0).written then None else library_constant source.texts m

-- where a class has so many fields more in front
abbrev pub constants_shifted : (ℕ → ℕ) → (Member → Option Constant) → Member → Option Constant
constants_shifted more known m =
    if nat_lt m.at (more m.class.0) then None else known (record m { at = m.at - more m.class.0 })
