-- Classes by where something of them begins.
use Rattle.std.specs.Prelude.{ℕ, Bool, ◌&&◌, Option, Some, None, nat_eq, if◌then◌else◌}
use Rattle.std.specs.HashMap.{get}
use Rattle.je_base.specs.declared.span.Span.{Span}
use Rattle.je_scopes.specs.Headers.{declared_name}
use Rattle.je_scopes.specs.Sites.{Written, behind_new, declared}
use Rattle.body_typing.specs.Expressions.{same_start}
use Rattle.class_spots.specs.declared.starts.Starts.{Starts}

abbrev pub same_key : ℕ × ℕ → ℕ × ℕ → Bool
same_key a b = nat_eq a.0 b.0 && nat_eq a.1 b.1

-- the class where a span begins
unfoldable pub kept : Starts → Span → Option ℕ
kept m s = get same_key m.classes (s.file, s.start)

-- a class of a span, where another one begins there
abbrev pub at_start : Option Span → ℕ → Span → Option ℕ
at_start None c s = None
at_start (Some own) c s = if same_start s own then Some c else None

-- ---- where a class begins that is written: the word `new` before its body, or its name

abbrev pub word_in : Written → Option Span
word_in (behind_new own t body) = Some own
word_in w = None

abbrev pub name_in : Written → Option Span
name_in (declared d) = Some (declared_name d).span
name_in w = None
