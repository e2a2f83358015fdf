-- Which final variables may be assigned, and where (JLS 4.12.4, 8.3.1.2, 16): blank ones, where they are to be given
-- their value.
use Rattle.std.specs.Prelude.{ℕ, Bool, true, false, not, ◌&&◌, ◌||◌, List, Option, Some, None, nat_eq}
use Rattle.std.specs.List.{list_any}
use Rattle.je_core.specs.declared.types.ClassId.{ClassId}
use Rattle.je_core.specs.Core.{CoreForm, Local, Field, Static, form_of}
use Rattle.je_classes.specs.Members.{Member}
use Rattle.je_fitting.specs.Expressions.{is_this}
use Rattle.declarations.specs.Declarations.{DeclaredField}
use Rattle.je_typing.specs.declared.fault.TypeRule.TheVariants.{FinalAssign}
use Rattle.je_typing.specs.Conversions.{token_of}
use Rattle.je_typing.specs.Judged.{Judged, check}
use Rattle.je_typing.specs.Typed.{TypedNode}
use Rattle.name_typing.specs.Fields.{field_at}
use Rattle.name_typing.specs.Program.{Initializer, Place, Program}

-- A place in a body, whether the body is a constructor's, and the numbers of the final locals that have their value
-- from where they are declared: parameters, and those with an initializer.
pub record Scope : Type 0 where
  pub place : Place
  pub is_constructor : Bool
  pub given : List ℕ

-- `is_blank` is true of the final fields without an initializer
module _ (p : Program) (is_blank : Member → Bool) (s : Scope) where
  abbrev pub is_static_initializer : Option Initializer → Bool
  is_static_initializer None = false
  is_static_initializer (Some i) = i.is_static

  abbrev pub is_instance_initializer : Option Initializer → Bool
  is_instance_initializer None = false
  is_instance_initializer (Some i) = not i.is_static

  -- where an object of the class is built, and where the class is started; a field's initializer is one of its kind
  abbrev pub builds : Bool
  builds = s.is_constructor || is_instance_initializer s.place.here.initializer

  abbrev pub starts : Bool
  starts = is_static_initializer s.place.here.initializer

  -- a blank field of the class of the body, where that is so; a field that no class declares holds a captured local
  abbrev pub may_assign_field : Bool → Member → Option DeclaredField → Bool
  may_assign_field here m None = false
  may_assign_field here m (Some f) = not f.is_final || (here && is_blank m && nat_eq m.class.0 s.place.here.class)

  abbrev pub member : ClassId → ℕ → Member
  member c at = record { class = c; at = at }

  abbrev pub may_assign : Bool → Member → Bool
  may_assign here m = may_assign_field here m (field_at p.classes m)

  -- of a node of a variable; an instance field only of `this`
  abbrev pub may_be_assigned : CoreForm → Bool
  may_be_assigned (Local n) = not (list_any (nat_eq n) s.given)
  may_be_assigned (Field o c at) = may_assign (builds && is_this o) (member c at)
  may_be_assigned (Static o c at) = may_assign starts (member c at)
  may_be_assigned _ = true

  -- the fault stands at the name
  unfoldable pub not_final : TypedNode → Judged (Unit {0})
  not_final target = check FinalAssign (token_of target.node) (may_be_assigned (form_of target.node))
