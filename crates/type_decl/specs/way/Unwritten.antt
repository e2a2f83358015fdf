-- What no source writes, by what is met where the class stands.
use Rattle.std.specs.Prelude.{ℕ, not, ◌&&◌, Option, if◌then◌else◌}
use Rattle.je_base.specs.declared.span.Span.{Span}
use Rattle.je_core.specs.declared.program.Sort.{Sort}
use Rattle.je_ast.specs.Trees.{Expressions}
use Rattle.je_ast.specs.Types.{TypeName}
use Rattle.je_scopes.specs.Headers.{constants_in, is_interface_sort, members_in, site_at}
use Rattle.je_scopes.specs.Sites.{Written, behind_new, declared, in_library}
use Rattle.declarations.specs.Declarations.{is_enum_sort}
use Rattle.je_typing.specs.Judged.{Judged, gives, ◌>>=◌, ◌>>◌}
use Rattle.body_typing.specs.FinalVariables.{Scope}
use Rattle.body_typing.specs.Bodies.{Met}
use Rattle.class_typing.specs.Constructors.{chosen_for, no_cycle}
use Rattle.class_typing.specs.Members.{MembersDone, followed_by, nothing}
use Rattle.member_forms.specs.declared.walk.ClassWalk.{ClassWalk}
use Rattle.member_forms.specs.Seen.{known_of, program_of}
use Rattle.member_forms.specs.Walks.{anonymous_code, default_constructor, is_without_constructor}
use Rattle.type_decl.specs.way.Walks.{anonymous_constructor, enum_members, members_from, written_of}

-- of an anonymous class that stands in a scope behind a word `new`, with that type and these arguments
abbrev pub anonymous_at : ClassWalk → Scope → Span → TypeName → Expressions → Judged MembersDone
anonymous_at w s word t es = do
  chosen ← chosen_for (program_of w) (known_of w) s word t es
  gives (anonymous_code w chosen)

-- of a class that is written so
abbrev pub unwritten_if : ClassWalk → Written → Judged MembersDone
unwritten_if w written =
    if is_enum_sort sort then gives (enum_members w (constants_in written))
    else if not (is_interface_sort sort) && is_without_constructor w then default_constructor w else gives nothing
  where
    sort : Sort
    sort = (site_at (program_of w).source.sites w.class.0).sort

-- `standing` is what was met where the class stands
abbrev pub unwritten_for : ClassWalk → Option Met → Written → Judged MembersDone
unwritten_for w standing (behind_new word t ms) = anonymous_constructor w standing
unwritten_for w standing in_library = gives nothing
unwritten_for w standing (declared d) = unwritten_if w (declared d)

unfoldable pub whole_for : ClassWalk → Option Met → ℕ → Judged MembersDone
whole_for w standing hidden = do
  d ← members_from w hidden 0 (members_in (written_of w))
  further ← unwritten_for w standing (written_of w)
  no_cycle d.calls
  gives (followed_by d further)
