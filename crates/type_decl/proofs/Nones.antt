-- The constants of an enum, of which none is kept.
use Rattle.std.proofs.Common.{◌≡◌, ℕ, ◌+◌, ◌<◌, List, [], ◌∷◌, length, drop, map, None, arith}
use Rattle.std.proofs.lemmas.List.{at_drop_more}
use Rattle.je_ast.specs.declared.name.Identifier.{Identifier}
use Rattle.member_forms.specs.declared.walk.ClassWalk.{ClassWalk}
use Rattle.type_decl.specs.way.Walks.{no_constant}

pub none_more : (w : ClassWalk) (ids : List Identifier) (i : ℕ) → i < length ids → map (no_constant w) (drop i ids) ≡ None ∷ map (no_constant w) (drop (i + 1) ids)
none_more w (id ∷ ids) i within = at_drop_more (map (no_constant w)) (id ∷ ids) i id within
none_more w [] i within = absurd (omega arith)
