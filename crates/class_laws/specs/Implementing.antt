-- The method that an object has for a method, as a relation (JLS 8.4.8, 15.12.4.4).
use Rattle.std.specs.Prelude.{◌≡◌, ◌↔◌, ℕ, true, false, Some, None}
use Rattle.je_core.specs.declared.types.ClassId.{ClassId}
use Rattle.je_core.specs.Core.{CoreMethod, CoreClass, CoreProgram}
use Rattle.je_classes.specs.Hierarchy.{class_at}
use Rattle.je_classes.specs.Members.{Member, is_private, method_of}
use Rattle.je_classes.specs.Dispatch.{own_from, next_above, bridged, dispatched}

-- A class implements a method by the one of its signature that it declares, unless that is abstract; where it declares none, by
-- what the next class above it implements it by.
pub data Implements (program : CoreProgram) (m : CoreMethod) : ClassId → Member → Type 0 where
  by_its_own : {c : ClassId} {k : CoreClass} {at : ℕ} {own : CoreMethod} → class_at program c ≡ Some k → own_from m 0 k.methods ≡ Some (at, own) →
      own.flags.is_abstract ≡ false → Implements program m c (record { class = c; at = at })
  by_one_above : {c d : ClassId} {k : CoreClass} {x : Member} → class_at program c ≡ Some k → own_from m 0 k.methods ≡ None → next_above k ≡ Some d →
      Implements program m d x → Implements program m c x

-- An object of a class has for a method the one that a bridge of its class names, else a private one itself, else the one by which
-- its class implements it.
pub data HasFor (program : CoreProgram) (class : ClassId) (m : Member) : Member → Type 0 where
  by_a_bridge : {x : Member} → bridged (class_at program class) m ≡ Some x → HasFor program class m x
  by_itself : {k : CoreMethod} → bridged (class_at program class) m ≡ None → method_of program m ≡ Some k → is_private k ≡ true → k.flags.is_abstract ≡ false →
      HasFor program class m m
  by_implementing : {k : CoreMethod} {x : Member} → bridged (class_at program class) m ≡ None → method_of program m ≡ Some k → is_private k ≡ false →
      Implements program k class x → HasFor program class m x

-- In every program it is the method that dispatch gives, so there is at most one.
abbrev pub DispatchIsDecided : Type 0
DispatchIsDecided = (program : CoreProgram) (class : ClassId) (m x : Member) → (dispatched program class m ≡ Some x) ↔ HasFor program class m x
