-- What a name's look-up comes to: how many meanings there are, or that it still waits for a header.
use Rattle.std.specs.Prelude.{ℕ, List, [], ◌∷◌, Option, Some, None, nat_eq, if◌then◌else◌}

pub data Look : Type 0 where
  waits : Look
  nothing : Look
  a_class : ℕ → Look  -- of that number
  a_variable : ℕ → ℕ → Look  -- a type variable, by its class and its place among the type parameters
  unclear : Look  -- several classes, or a type variable where it means nothing

abbrev pub found : Option ℕ → Look
found None = nothing
found (Some c) = a_class c

-- the union of two sets of classes; the union with a set that isn't known isn't known
abbrev pub joined : Look → Look → Look
joined waits b = waits
joined nothing b = b
joined (a_class c) waits = waits
joined (a_class c) nothing = a_class c
joined (a_class c) (a_class d) = if nat_eq c d then a_class c else unclear
joined (a_class c) _ = unclear
joined _ waits = waits
joined _ b = unclear

abbrev pub joined_over : (ℕ → Look) → List ℕ → Look
joined_over f [] = nothing
joined_over f (c ∷ cs) = joined (f c) (joined_over f cs)

-- where there is nothing, what is further out
abbrev pub or_further : Look → Look → Look
or_further nothing b = b
or_further a b = a

-- the class that was found, if one was
abbrev pub class_found : Look → List ℕ
class_found (a_class c) = c ∷ []
class_found _ = []
