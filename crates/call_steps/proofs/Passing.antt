-- Arguments, one after the other.
use Rattle.std.proofs.Common.{◌≡◌, List, [], ◌∷◌, refl}
use Rattle.je_scopes.specs.SourceTypes.{SourceType}
use Rattle.je_typing.specs.Conversions.{converted_if}
use Rattle.je_typing.specs.Typed.{TypedNode, primitive}
use Rattle.call_typing.specs.Calls.{passed}

pub passed_more : (t : SourceType) (ts : List SourceType) (a : TypedNode) (rest : List TypedNode) → passed (t ∷ ts) (a ∷ rest) ≡ converted_if (primitive t) a.node ∷ passed ts rest
passed_more t ts a rest = refl

pub passed_none : (args : List TypedNode) → passed [] args ≡ []
passed_none args = refl

pub passed_all : (ts : List SourceType) → passed ts [] ≡ []
passed_all [] = refl
passed_all (t ∷ ts) = refl

pub ruleset passing = (passed_none, passed_all)
