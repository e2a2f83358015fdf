-- The test for calls that fit and what it stands for.
use Rattle.std.proofs.Common.{◌≡◌, ℕ, List, Option, Some, None, refl, ap, ◌∙◌}
use Rattle.std.specs.Prelude.{true, not, is_none}
use Rattle.je_core.specs.declared.types.ClassId.{ClassId}
use Rattle.je_core.specs.declared.value.Value.{Value}
use Rattle.je_core.specs.declared.value.Value.TheVariants.{Ref}
use Rattle.je_core.specs.Core.{CoreMethod, CoreClass, CoreProgram}
use Rattle.je_classes.specs.Hierarchy.{class_at}
use Rattle.je_classes.specs.Subtypes.{class_type}
use Rattle.je_java.specs.declared.call.Receiver.{Receiver}
use Rattle.je_java.specs.declared.call.Receiver.TheVariants as receiver
use Rattle.je_java.specs.World.{World}
use Rattle.je_fitting.specs.Expressions.{method_at, is_constructor, can_be_made}
use Rattle.je_fitting.specs.Members.{is_guest}
use Rattle.je_fitting.proofs.Booleans.{two, three, four, both, is_false, is_not}
use Rattle.je_sound.specs.Calls.{is_local_sort, ReceiverFits, on_nothing, on_object, on_new, CallFits}
use Rattle.je_sound.specs.Laws.{CallsAreDecided}
use Rattle.je_sound.specs.way.Deciding.{does_value_fit, do_values_fit, does_receiver_fit, is_fit_in, is_call_fit}
use Rattle.je_sound.proofs.Decided.{value-sound, value-complete, values-sound, values-complete}

none-is : {A : Type 0} (o : Option A) → is_none o ≡ true → o ≡ None
none-is None e = refl
none-is (Some x) e = absurd cc

module _ (p : CoreProgram) (world : World) (class : ClassId) (c : CoreClass) (m : CoreMethod) where
  receiver-sound : (r : Receiver) → does_receiver_fit p world class c m r ≡ true → ReceiverFits p world class c m r
  receiver-sound receiver.None e = let q = two {a = m.flags.is_static} {b = not m.flags.is_abstract} e in on_nothing q.0 (is_false q.1)
  receiver-sound (receiver.Object o) e =
      let q = three {a = not m.flags.is_static} {b = not (is_constructor p m)} {c = does_value_fit p world.objects (class_type class) (Ref o)} e in
      on_object (is_false q.0) (is_false q.1) (value-sound p world.objects (class_type class) (Ref o) q.2)
  receiver-sound receiver.Fresh e =
      let q = four {a = is_constructor p m} {b = can_be_made c} {c = is_none c.enclosing} {d = not (is_local_sort c.kind.sort)} e in
      on_new q.0 q.1 (none-is c.enclosing q.2) (is_false q.3)

  receiver-complete : (r : Receiver) → ReceiverFits p world class c m r → does_receiver_fit p world class c m r ≡ true
  receiver-complete _ (on_nothing s a) = both s (is_not a)
  receiver-complete _ (on_object {object = o} s k v) = both (both (is_not s) (is_not k)) (value-complete p world.objects (class_type class) (Ref o) v)
  receiver-complete _ (on_new k made e l) = both (both (both k made) (ap is_none e)) (is_not l)

module _ (p : CoreProgram) (world : World) (r : Receiver) (class : ClassId) (at : ℕ) (given : List Value) where
  call-sound : is_call_fit p world r class at given ≡ true → CallFits p world r class at given
  call-sound e = by (class_at p class) (method_at p class at) refl refl e
    where
      by : (o : Option CoreClass) (k : Option CoreMethod) → class_at p class ≡ o → method_at p class at ≡ k → is_fit_in p world r class o k given ≡ true → CallFits p world r class at given
      by None k q s h = absurd cc
      by (Some c) None q s h = absurd cc
      by (Some c) (Some m) q s h =
          let t = three {a = is_guest class} {b = does_receiver_fit p world class c m r} {c = do_values_fit p world.objects m.params given} h in
          record {
            the_class = c;
            there = q;
            guest = t.0;
            method = m;
            is_method = s;
            on = receiver-sound p world class c m r t.1;
            with_args = values-sound p world.objects m.params given t.2;
          }

  call-complete : CallFits p world r class at given → is_call_fit p world r class at given ≡ true
  call-complete f =
      ap (λ o. is_fit_in p world r class o (method_at p class at) given) f.there ∙ ap (λ k. is_fit_in p world r class (Some f.the_class) k given) f.is_method
      ∙ both (both f.guest (receiver-complete p world class f.the_class f.method r f.on)) (values-complete p world.objects f.method.params given f.with_args)

pub calls_are_decided : CallsAreDecided
calls_are_decided p world r class at given = (call-sound p world r class at given, call-complete p world r class at given)
