-- The binary names of classes (JLS 13.1).
use Rattle.std.specs.Prelude.{ℕ, Bool, true, false, ◌&&◌, List, [], ◌∷◌, ◌++◌, take, suc, length, Option, Some, None, codes, filter, if◌then◌else◌}
use Rattle.std.specs.Fmt.{decimal}
use Rattle.je_base.specs.declared.span.NameId.{NameId}
use Rattle.je_scopes.specs.Sites.{Site}
use Rattle.je_scopes.specs.Headers.{site_at, name_in, is_local_sort, within, same_name}
use Rattle.je_scopes.specs.Source.{Source, text_in}
use Rattle.je_scopes.specs.Scope.{same_place}

abbrev pub same_names : Option NameId → Option NameId → Bool
same_names None None = true
same_names (Some x) (Some y) = same_name x y
same_names _ _ = false

abbrev pub text_of_name : List (List ℕ) → Option NameId → List ℕ
text_of_name texts None = []
text_of_name texts (Some x) = text_in texts x

-- local or anonymous, of the same simple name, directly in the same class
abbrev pub is_namesake : Site → Site → Bool
is_namesake s t = is_local_sort t.sort && same_place (within s) (within t) && same_names (name_in s.written) (name_in t.written)

-- The number of a local or anonymous class: how many of its simple name there are directly in the class round it, up to and
-- including this one. Other classes have none, which is 0.
abbrev pub number_in : Source → ℕ → ℕ
number_in p c = if is_local_sort (site_at p.sites c).sort then length (filter (is_namesake (site_at p.sites c)) (take (suc c) p.sites)) else 0

abbrev pub number_text : Source → ℕ → List ℕ
number_text p c = if is_local_sort (site_at p.sites c).sort then decimal (number_in p c) else []

abbrev pub simple_text : Source → ℕ → List ℕ
simple_text p c = text_of_name p.texts (name_in (site_at p.sites c).written)

-- of a class, by the classes round it: that of the innermost, `$`, the number, and the simple name
abbrev pub binary_text : Source → ℕ → List ℕ → List ℕ
binary_text p c [] = simple_text p c
binary_text p c (d ∷ ds) = binary_text p d ds ++ codes "$" ++ number_text p c ++ simple_text p c

abbrev pub binary_name : Source → ℕ → List ℕ
binary_name p c = binary_text p c (site_at p.sites c).spot.round
