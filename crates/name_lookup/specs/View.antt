-- What is seen of look-ups and of headers that are read.
use Rattle.std.specs.Prelude.{ℕ, Bool, List, [], ◌∷◌, ◌++◌, map, Option, Some, None, slice_get, sum_by, if◌then◌else◌}
use Rattle.std.specs.declared.vec.Vec.{Vec}
use Rattle.std.specs.declared.alloc.Global.{Global}
use Rattle.je_core.specs.declared.types.ClassId.{ClassId}
use Rattle.je_scopes.specs.Looks as looks
use Rattle.je_scopes.specs.Scope as scope
use Rattle.je_scopes.specs.Scope.{Known}
use Rattle.name_sites.specs.Number.{number_of}
use Rattle.name_lookup.specs.declared.look.Look.{Look}
use Rattle.name_lookup.specs.declared.look.Look.TheVariants.{Waits, Nothing, Class, Variable, Unclear}
use Rattle.name_lookup.specs.declared.look.Part.{Part}
use Rattle.name_lookup.specs.declared.look.Part.TheVariants.{Header, Member, StaticMember}
use Rattle.name_lookup.specs.declared.headers.Headers.{Headers}
use Rattle.name_lookup.specs.declared.reading.Reading.{Reading}
use Rattle.name_lookup.specs.declared.reading.Reading.TheVariants as reading

abbrev pub look_view : Look → looks.Look
look_view (Waits c) = looks.waits
look_view Nothing = looks.nothing
look_view (Class c) = looks.a_class c.0
look_view (Variable c at) = looks.a_variable c.0 at
look_view Unclear = looks.unclear

abbrev pub part_view : Part → scope.Part
part_view Header = scope.header
part_view Member = scope.member
part_view StaticMember = scope.static_member

abbrev pub numbers : List ClassId → List ℕ
numbers cs = map number_of cs

abbrev pub header_view : Option (Option (Vec ClassId Global)) → Option (List ℕ)
header_view None = Some []
header_view (Some None) = None
header_view (Some (Some ds)) = Some (numbers ds.items)

-- what a table says of a class; past its end each class has nothing above it
abbrev pub table : List (Option (Vec ClassId Global)) → Known
table ts c = header_view (slice_get ts c)

-- the classes directly above each class, as far as headers are known
unfoldable pub known_of : Headers → Known
known_of h = table h.supers.items

abbrev pub one_unknown : Option (Vec ClassId Global) → ℕ
one_unknown None = 1
one_unknown (Some ds) = 0

-- what is read of a header behind what was read before it
abbrev pub after : List ℕ → Option (List ℕ) → Option (List ℕ)
after ds None = None
after ds (Some es) = Some (ds ++ es)

-- of how many classes the header isn't known
unfoldable pub unknown_count : Headers → ℕ
unknown_count h = sum_by one_unknown h.supers.items

-- what is read of a header; nothing, where it waits
abbrev pub reading_view : Reading → Option (List ℕ)
reading_view (reading.Waits c) = None
reading_view (reading.Supers ds) = Some (numbers ds.items)

-- the class that a name in a header gives, if what it names is accessible
abbrev pub given : Bool → looks.Look → List ℕ
given accessible (looks.a_class d) = if accessible then d ∷ [] else []
given accessible look = []
