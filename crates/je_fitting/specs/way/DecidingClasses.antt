-- Whether a class itself fits, and a program, as tests.
use Rattle.std.specs.Prelude.{ℕ, Bool, true, false, not, ◌&&◌, ◌||◌, ◌+◌, List, take, drop, length, Option, Some, None, is_some, slice_get, nat_eq}
use Rattle.std.specs.List.{list_all}
use Rattle.je_core.specs.declared.program.Bridge.{Bridge}
use Rattle.je_core.specs.declared.program.Head.{Head}
use Rattle.je_core.specs.declared.types.ClassId.{ClassId}
use Rattle.je_core.specs.Core.{CoreField, CoreMethod, CoreClass, CoreProgram}
use Rattle.je_classes.specs.Hierarchy.{class_at, same_class, is_below, object_class, supers_of}
use Rattle.je_classes.specs.Subtypes.{same_types}
use Rattle.je_classes.specs.Members.{Member, same_name, is_private}
use Rattle.je_classes.specs.Dispatch.{bridged, implemented, dispatched}
use Rattle.je_fitting.specs.Expressions.{outer_count, method_at, is_constructor, is_interface_sort, can_be_made, places_up_to}
use Rattle.je_fitting.specs.Members.{is_guest, results_agree}
use Rattle.je_fitting.specs.Classes.{can_be_extended, is_interface, is_round, is_hidden, hidden_fields, field_types, outer_type, enum_types, handed_count, same_places}
use Rattle.je_fitting.specs.way.Deciding.{same_pair}
use Rattle.je_fitting.specs.way.DecidingMembers.{stands_for, is_field_fit, is_method_fit, is_initializer_fit}
use Rattle.je_fitting.specs.way.Quantifying.{implies, if_there, each_method}

abbrev pub is_top : ClassId → CoreClass → Bool
is_top class c = same_class class object_class || is_interface_sort c.kind.sort

abbrev pub is_hidden_fit : CoreClass → Bool
is_hidden_fit c =
    nat_eq (length (hidden_fields c)) (handed_count c + length (enum_types c.kind.sort)) && list_all is_hidden (take (handed_count c) c.fields) &&
    same_types (take (outer_count c.enclosing) (field_types c.fields)) (outer_type c.enclosing) && same_types (drop (handed_count c) (field_types (hidden_fields c))) (enum_types c.kind.sort) &&
    list_all (λ (f : CoreField). not f.is_static && f.is_final) (hidden_fields c)

abbrev pub begin_alike : Option Bridge → Option Bridge → Bool
begin_alike (Some a) (Some b) = same_pair a.method b.method
begin_alike _ _ = false

-- no two bridges begin with one method
abbrev pub begin_apart : List Bridge → Bool
begin_apart bs = list_all (λ i. list_all (λ j. implies (begin_alike (slice_get bs i) (slice_get bs j)) (nat_eq i j)) (places_up_to (length bs))) (places_up_to (length bs))

module _ (program : CoreProgram) where
  abbrev pub is_superclass_fit : ClassId → CoreClass → Option ClassId → Bool
  is_superclass_fit class c None = is_top class c
  is_superclass_fit class c (Some s) = not (is_top class c) && can_be_extended (class_at program s)

  abbrev pub is_bridge_between : ClassId → Bridge → Option CoreMethod → Option CoreMethod → Bool
  is_bridge_between class b (Some from) (Some to) =
      is_below program class b.method.0 && is_below program class b.by.0 && (not from.flags.is_static && not to.flags.is_static && not to.flags.is_abstract) &&
      (same_name from.name to.name && same_places from.params to.params) && results_agree program to.returns from.returns
  is_bridge_between class b _ _ = false

  abbrev pub is_bridge_fit : ClassId → Bridge → Bool
  is_bridge_fit class b = is_bridge_between class b (method_at program b.method.0 b.method.1) (method_at program b.by.0 b.by.1)

  abbrev pub is_instance_method : ClassId → ClassId → CoreMethod → Bool
  is_instance_method class above k = is_below program class above && not k.flags.is_static && not (is_constructor program k)

  abbrev pub is_inherited_fit : ClassId → CoreMethod → Option Member → Bool
  is_inherited_fit class k None = true
  is_inherited_fit class k (Some m) = same_class m.class class || if_there (λ by. stands_for program by k) (method_at program m.class m.at)

  abbrev pub is_unbridged : ClassId → ClassId → ℕ → Bool
  is_unbridged class above at = not (is_some (bridged (class_at program class) (record { class = above; at = at })))

  abbrev pub are_inherited_fit : ClassId → Bool
  are_inherited_fit class = each_method program (λ above at k. implies (is_instance_method class above k && not (is_private k) && is_unbridged class above at) (is_inherited_fit class k (implemented program class k)))

  abbrev pub implements_all : ClassId → Bool
  implements_all class = each_method program (λ above at k. implies (is_instance_method class above k) (is_some (dispatched program class (record { class = above; at = at }))))

  abbrev pub are_supers_fit : ClassId → CoreClass → Bool
  are_supers_fit class c =
      is_superclass_fit class c c.superclass && list_all (λ i. is_interface (class_at program i)) c.interfaces &&
      list_all (λ s. not (is_below program s class)) (supers_of program class) && not (is_round program (length program.classes) class c.within)

  abbrev pub are_named_there : CoreClass → Bool
  are_named_there c =
      list_all (λ (h : Head). is_some (class_at program h.class)) c.heads && if_there (λ d. is_some (class_at program d)) c.within && is_some (class_at program c.top) && if_there (λ d. is_some (class_at program d)) c.enclosing

  abbrev pub are_bridges_fit : ClassId → CoreClass → Bool
  are_bridges_fit class c = list_all (is_bridge_fit class) c.bridges && begin_apart c.bridges

  abbrev pub is_class_fit : ClassId → CoreClass → Bool
  is_class_fit class c =
      are_supers_fit class c && are_named_there c && implies (is_guest class) (is_hidden_fit c) && are_bridges_fit class c &&
      (are_inherited_fit class && implies (can_be_made c) (implements_all class) && list_all (is_initializer_fit program class) c.initializers)

  -- ---- whole programs

  abbrev pub is_whole_fit : ClassId → CoreClass → Bool
  is_whole_fit class c = is_class_fit class c && list_all (is_field_fit program class) c.fields && list_all (is_method_fit program class c) c.methods

  abbrev pub is_program_fit : Bool
  is_program_fit = list_all (λ n. if_there (is_whole_fit (record { 0 = n })) (class_at program (record { 0 = n }))) (places_up_to (length program.classes))
