-- What a call from outside may be made on, and with what (JLS 15.9.1, 15.12.3).
use Rattle.std.specs.Prelude.{◌≡◌, ℕ, Bool, true, false, List, Some, None}
use Rattle.je_core.specs.declared.program.Sort.{Sort}
use Rattle.je_core.specs.declared.program.Sort.TheVariants as sort
use Rattle.je_core.specs.declared.types.ClassId.{ClassId}
use Rattle.je_core.specs.declared.value.ObjId.{ObjId}
use Rattle.je_core.specs.declared.value.Value.{Value}
use Rattle.je_core.specs.declared.value.Value.TheVariants.{Ref}
use Rattle.je_core.specs.Core.{CoreMethod, CoreClass, CoreProgram}
use Rattle.je_classes.specs.Hierarchy.{class_at}
use Rattle.je_classes.specs.Subtypes.{class_type}
use Rattle.je_java.specs.declared.call.Receiver.{Receiver}
use Rattle.je_java.specs.declared.call.Receiver.TheVariants as receiver
use Rattle.je_java.specs.World.{World}
use Rattle.je_fitting.specs.Expressions.{method_at, is_constructor, can_be_made}
use Rattle.je_fitting.specs.Classes.{same_places}
use Rattle.je_fitting.specs.Members.{is_guest, results_agree}
use Rattle.je_sound.specs.Values.{ValueFits, ValuesFit}

-- a class that a body declares
abbrev pub is_local_sort : Sort → Bool
is_local_sort sort.Local = true
is_local_sort sort.Anonymous = true
is_local_sort _ = false

-- the receiver of a method of a class
pub data ReceiverFits (program : CoreProgram) (world : World) (class : ClassId) (c : CoreClass) (m : CoreMethod)
    : Receiver → Type 0 where
  -- a static method has none
  on_nothing : m.flags.is_static ≡ true → m.flags.is_abstract ≡ false →
      ReceiverFits program world class c m receiver.None
  on_object : {object : ObjId} → m.flags.is_static ≡ false → is_constructor program m ≡ false →
      ValueFits program world.objects (class_type class) (Ref object) →
      ReceiverFits program world class c m (receiver.Object object)
  -- a constructor makes it, of a class that is neither inner nor local
  on_new : is_constructor program m ≡ true → can_be_made c ≡ true → c.enclosing ≡ None →
      is_local_sort c.kind.sort ≡ false → ReceiverFits program world class c m receiver.Fresh

-- The method stands in a class of the guest's, and receiver and arguments are what it is declared for.
pub record CallFits (program : CoreProgram) (world : World) (receiver : Receiver) (class : ClassId) (at : ℕ)
    (given : List Value) : Type 0 where
  pub the_class : CoreClass
  pub there : class_at program class ≡ Some the_class
  pub guest : is_guest class ≡ true
  pub method : CoreMethod
  pub is_method : method_at program class at ≡ Some method
  pub on : ReceiverFits program world class the_class method receiver
  pub with_args : ValuesFit program world.objects method.params given

-- One method can run where another is named: it is neither static nor abstract, it takes as many arguments, each the
-- same primitive or a reference, and its result agrees. Whether references are of its parameters' types a test tells.
pub record RunsFor (program : CoreProgram) (by named : CoreMethod) : Type 0 where
  pub own : by.flags.is_static ≡ false
  pub concrete : by.flags.is_abstract ≡ false
  pub params : same_places named.params by.params ≡ true
  pub result : results_agree program by.returns named.returns ≡ true
