-- Worked examples of the rules on single classes, each beside its nearest neighbour. A break is told by the first byte of its place.
use Rattle.std.proofs.Common.{◌≡◌, ℕ, zero, suc, ◌+◌, List, [], ◌∷◌, ◌++◌, map, Option, Some, None, refl}
use Rattle.std.specs.Prelude.{Bool, true, false}
use Rattle.je_base.specs.declared.span.Span.{Span}
use Rattle.je_core.specs.declared.program.Access.TheVariants.{Public}
use Rattle.je_core.specs.declared.program.Sort.{Sort}
use Rattle.je_core.specs.declared.program.Sort.TheVariants as sort
use Rattle.je_core.specs.declared.types.Base.TheVariants as base
use Rattle.je_core.specs.declared.types.ClassId.{ClassId}
use Rattle.je_core.specs.Core.{CoreStmt, CoreMethod, CoreClass, CoreProgram, stmt, no_stmts}
use Rattle.je_core.specs.Core as core
use Rattle.je_classes.specs.Dispatch.{dispatched, implemented}
use Rattle.je_classes.specs.Hierarchy.{is_below, library_class, object_class}
use Rattle.je_classes.specs.Members.{constructor_place}
use Rattle.library_places.specs.Places.{library_place}
use Rattle.taming_db.specs.Rows.{Row, member_place}
use Rattle.rule_breaks.specs.declared.breaks.Break.{Break}
use Rattle.rule_breaks.specs.Breaks.{Breaks}
use Rattle.rule_breaks.specs.way.Found.{followed_by}
use Rattle.class_uses.specs.Constructed.{constructing_breaks}
use Rattle.class_uses.specs.Extended.{head_breaks}
use Rattle.class_uses.specs.Implemented.{implementing_breaks}

abbrev c : ℕ → ClassId
c n = record { 0 = n }

abbrev at : ℕ → Span
at n = record { file = 0; start = n; end = n + 1 }

abbrev places : Breaks → List ℕ
places breaks = map (λ (b : Break). b.span.start) (followed_by [] breaks)

-- ---- heads, with a text that opens Throwable

abbrev open_row : List Row
open_row = record { class = 9; honorary = []; extend = true; enable = [] } ∷ []

abbrev head : ℕ → List ℕ
head n = places (head_breaks open_row (record { class = c n; span = at 5 }))

-- Throwable and Token; Object and Immutable, which are always open; a class of a program's own
heads : (head 9 ≡ []) × (head 14 ≡ 5 ∷ []) × (head 0 ≡ []) × (head 10 ≡ []) × (head 39 ≡ [])
unfolding library_class
heads = (refl, refl, refl, refl, refl)

-- ---- the library's classes by their numbers alone, and interface I { hashCode() equals() }, class A implements I, class B extends A
-- { hashCode() }, interface J { equals() }, class D implements J

abbrev empty : CoreStmt
empty = stmt (core.Block [] no_stmts) (at 0) (at 0)

-- names: 1 new, 5 equals, 6 hashCode, 7 toString
abbrev method : Bool → ℕ → Option CoreStmt → CoreMethod
method is_abstract n body = record {
  name = record { 0 = n };
  span = at 0;
  params = [];
  returns = record { base = base.Int; dims = 0 };
  flags = record { is_static = false; is_final = false; is_abstract = is_abstract; is_native = false; is_finalizer = false; access = Public };
  throws = [];
  locals = [];
  body = body;
}

abbrev class : Sort → Option ClassId → List ClassId → List CoreMethod → CoreClass
class s super interfaces methods = record {
  name = record { 0 = 0 };
  span = at 8;
  kind = record { sort = s; is_abstract = false; is_final = false; is_static = false };
  superclass = super;
  interfaces = interfaces;
  heads = [];
  fields = [];
  initializers = [];
  methods = methods;
  enclosing = None;
  captured = 0;
  within = None;
  nth = 0;
  top = c 0;
  bridges = [];
}

abbrev fill : ℕ → List CoreClass
fill zero = []
fill (suc n) = class sort.Class (Some (c 0)) [] (method false 1 None ∷ []) ∷ fill n

abbrev asks_hash : CoreClass
asks_hash = class sort.Interface None [] (method true 6 None ∷ method true 5 None ∷ [])

abbrev a : CoreClass
a = class sort.Class (Some (c 0)) (c 39 ∷ []) []

abbrev b : CoreClass
b = class sort.Class (Some (c 40)) [] (method false 6 (Some empty) ∷ [])

abbrev asks_equals : CoreClass
asks_equals = class sort.Interface None (c 39 ∷ []) []

abbrev d : CoreClass
d = class sort.Class (Some (c 0)) [] []

program : CoreProgram
program = record {
  classes = class sort.Class None [] (method false 5 None ∷ method false 6 None ∷ method false 1 None ∷ method false 7 None ∷ []) ∷ fill 38 ++ asks_hash ∷ a ∷ b ∷ asks_equals ∷ d ∷ [];
  texts = [];
}

-- a text that enables Object's `equals(Object)`
abbrev rows : List Row
rows = record { class = 0; honorary = []; extend = false; enable = 49 ∷ [] } ∷ []

-- A has `hashCode()` of Object; so has an interface below I, which implements nothing, and D, which is below no interface
inherited : (places (implementing_breaks program rows (c 40) a) ≡ 8 ∷ []) × (places (implementing_breaks program rows (c 42) asks_equals) ≡ []) × (places (implementing_breaks program rows (c 43) d) ≡ [])
unfolding program library_place member_place object_class library_class is_below dispatched implemented
inherited = (refl, refl, refl)

-- B has one of its own, and Object's `equals(Object)`, which is enabled, or isn't
own : (places (implementing_breaks program rows (c 41) b) ≡ []) × (places (implementing_breaks program [] (c 41) b) ≡ 8 ∷ [])
unfolding program library_place member_place object_class library_class is_below dispatched implemented
own = (refl, refl)

-- ---- constructors that call that of the superclass by no word of their own: below Object, below Token, and below A

abbrev below : ℕ → List ℕ
below n = places (constructing_breaks program [] (class sort.Class (Some (c n)) [] (method false 1 (Some empty) ∷ [])))

constructors : (below 0 ≡ []) × (below 14 ≡ 8 ∷ []) × (below 40 ≡ [])
unfolding program library_place member_place object_class library_class constructor_place
constructors = (refl, refl, refl)
