-- The signatures that were met.
use Rattle.std.specs.Prelude.{◌≡◌, ℕ, Bool, List, map}
use Rattle.std.specs.List.{list_any}
use Rattle.std.specs.Str.{bytes_eq}
use Rattle.std.specs.declared.vec.Vec.{Vec}
use Rattle.std.specs.declared.alloc.Global.{Global}
use Rattle.je_ast.specs.Types.{formal_view}
use Rattle.je_scopes.specs.Source.{Source}
use Rattle.je_scopes.specs.Members.{MethodSite, method_part}
use Rattle.name_lookup.specs.View.{part_view}
use Rattle.name_judge.specs.declared.met.Signatures.{Signatures}
use Rattle.name_judge.specs.declared.met.MethodHead.{MethodHead}
use Rattle.name_judge.specs.Spelled.{signature_of}

abbrev pub spells : List ℕ → Vec ℕ Global → Bool
spells list key = bytes_eq list key.items

-- whether a list is among those that were met
unfoldable pub holds : Signatures → List ℕ → Bool
holds met list = list_any (spells list) met.lists.keys

-- They are those of some methods of a class.
unfoldable pub AreMet : Source → ℕ → List MethodSite → Signatures → Type 0
AreMet p c methods met = (list : List ℕ) → holds met list ≡ list_any (λ m. bytes_eq list (signature_of p c m)) methods

-- It is the head of a method or constructor.
pub record IsHead (head : MethodHead) (m : MethodSite) : Type 0 where
  pub sort : m.is_constructor ≡ head.is_constructor
  pub name : m.name.name ≡ head.name
  pub formals : m.formals ≡ map formal_view head.formals.now
  pub part : method_part m ≡ part_view head.place.part
