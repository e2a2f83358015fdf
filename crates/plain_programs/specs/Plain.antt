-- When a program is plain: it has no native method (JLS 8.4.3.4) and no `finally` (JLS 14.20.2), it assigns static fields in static
-- initializers alone (JLS 8.7), and it comes to no wild member of the library.
use Rattle.std.specs.Prelude.{◌≡◌, ℕ, Bool, true, false, not, ◌||◌, Some, slice_get}
use Rattle.je_core.specs.declared.types.ClassId.{ClassId}
use Rattle.je_core.specs.Core.{CoreForm, MaybeCore, CoreStmt, CoreStmtForm, MaybeStmt, CoreInitializer, CoreMethod, CoreClass, CoreProgram, no_core, a_core, no_stmt, a_stmt, form_of, ty_of}
use Rattle.je_core.specs.Core as core
use Rattle.je_classes.specs.Hierarchy.{class_at, is_below}
use Rattle.je_classes.specs.Members.{Member}
use Rattle.je_classes.specs.Dispatch.{dispatched}
use Rattle.je_fitting.specs.Classes.{is_interface}
use Rattle.je_fitting.specs.Expressions.{is_interface_sort, method_at}
use Rattle.je_fitting.specs.Members.{is_guest}
use Rattle.plain_programs.specs.Nodes.{every_expression, every_statement}
use Rattle.plain_programs.specs.Wild.{is_wild, is_wild_text}

-- ---- forms

abbrev pub is_there : MaybeStmt → Bool
is_there no_stmt = false
is_there (a_stmt s) = true

-- a `try` with a `finally`
abbrev pub has_finally : CoreStmtForm → Bool
has_finally (core.Try _ _ last) = is_there last
has_finally _ = false

abbrev pub is_static_place : CoreForm → Bool
is_static_place (core.Static o c n) = true
is_static_place _ = false

-- an assignment to a static field, a compound one too
abbrev pub assigns_static : CoreForm → Bool
assigns_static (core.Assign place value) = is_static_place (form_of place)
assigns_static (core.Update place o operand old) = is_static_place (form_of place)
assigns_static _ = false

-- a call or a creation whose method or constructor is wild
abbrev pub names_wild : CoreForm → Bool
names_wild (core.CallVirtual o c n args) = is_wild (record { class = c; at = n })
names_wild (core.CallExact o c n args) = is_wild (record { class = c; at = n })
names_wild (core.New c n args captures word) = is_wild (record { class = c; at = n })
names_wild _ = false

abbrev pub is_wild_operand : CoreProgram → MaybeCore → Bool
is_wild_operand program no_core = false
is_wild_operand program (a_core e) = is_wild_text program (ty_of e)

-- an operand of string `+` or `+=` whose text is a wild `toString()`; what other compound assignments take has no members
abbrev pub joins_wild : CoreProgram → CoreForm → Bool
joins_wild program (core.Concat l r) = is_wild_text program (ty_of l) || is_wild_text program (ty_of r)
joins_wild program (core.Update place o operand old) = is_wild_operand program operand
joins_wild program _ = false

-- ---- programs

-- A body of a program, and whether it is a static initializer's.
pub data IsBody (program : CoreProgram) : Bool → CoreStmt → Type 0 where
  of_method : (class : ClassId) (c : CoreClass) (at : ℕ) (m : CoreMethod) (s : CoreStmt) → class_at program class ≡ Some c → slice_get c.methods at ≡ Some m → m.body ≡ Some s → IsBody program false s
  of_initializer : (class : ClassId) (c : CoreClass) (at : ℕ) (i : CoreInitializer) → class_at program class ≡ Some c → slice_get c.initializers at ≡ Some i → IsBody program i.is_static i.body

-- A class, but no interface, of a program's own implements a method of an interface by another one.
pub record Implements (program : CoreProgram) (class : ClassId) (m : Member) : Type 0 where
  pub the_class : CoreClass
  pub there : class_at program class ≡ Some the_class
  pub of_program : is_guest class ≡ true
  pub no_interface : is_interface_sort the_class.kind.sort ≡ false
  pub above : ClassId
  pub is_above : is_below program class above ≡ true
  pub interface : is_interface (class_at program above) ≡ true
  pub at : ℕ
  pub method : CoreMethod
  pub method_there : method_at program above at ≡ Some method
  pub by : dispatched program class (record { class = above; at = at }) ≡ Some m

pub record IsPlain (program : CoreProgram) : Type 0 where
  pub no_native : (class : ClassId) (at : ℕ) (m : CoreMethod) → method_at program class at ≡ Some m → m.flags.is_native ≡ false
  pub no_finally : (starts : Bool) (s : CoreStmt) → IsBody program starts s → every_statement (λ f. not (has_finally f)) s ≡ true
  pub no_static_assigned : (s : CoreStmt) → IsBody program false s → every_expression (λ f. not (assigns_static f)) s ≡ true
  pub no_wild_named : (starts : Bool) (s : CoreStmt) → IsBody program starts s → every_expression (λ f. not (names_wild f)) s ≡ true
  pub no_wild_joined : (starts : Bool) (s : CoreStmt) → IsBody program starts s → every_expression (λ f. not (joins_wild program f)) s ≡ true
  pub no_wild_implements : (class : ClassId) (m : Member) → Implements program class m → is_wild m ≡ false
