-- Calls of Object's `equals(Object)` by `super` (JLS 15.12.1, 15.12.4.4): they tell one object from all others.
use Rattle.std.specs.Prelude.{ℕ, Bool, false, ◌&&◌, filter, nat_eq, unwrap_or, codes}
use Rattle.std.specs.List.{position}
use Rattle.std.specs.Str.{bytes_eq}
use Rattle.je_core.specs.declared.types.ClassId.{ClassId}
use Rattle.je_core.specs.Core.{MaybeCore, no_core, a_core}
use Rattle.je_table.specs.Library.{library}
use Rattle.je_table.specs.Library as table
use Rattle.je_classes.specs.Hierarchy.{object_class, same_class}
use Rattle.je_classes.specs.Members.{is_object_row}
use Rattle.je_fitting.specs.Expressions.{is_this}

-- the place of Object's `equals(Object)` among its methods, which stand in the order of their rows
unfoldable pub equals_place : ℕ
equals_place = unwrap_or (position (λ (m : table.Member). bytes_eq m.name (codes "equals")) (filter is_object_row library)) 0

abbrev pub is_this_if : MaybeCore → Bool
is_this_if no_core = false
is_this_if (a_core e) = is_this e

-- `super.equals(..)` where Object is the superclass: the receiver, class and method of a call
abbrev pub is_super_equals : MaybeCore → ClassId → ℕ → Bool
is_super_equals o c n = is_this_if o && same_class c object_class && nat_eq n equals_place
