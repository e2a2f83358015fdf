-- Constructors that no source writes, by what they are made of.
use Rattle.std.specs.Prelude.{Bool, List, [], codes, slice_get}
use Rattle.je_base.specs.declared.span.Span.{Span}
use Rattle.je_core.specs.declared.types.Ty.{Ty}
use Rattle.je_core.specs.Core.{Core, CoreMethod, CoreStmt, CallExact, a_core, cores, node}
use Rattle.je_fitting.specs.Types.{void}
use Rattle.source_types.specs.Erasure.{class_numbered}
use Rattle.declarations.specs.Declarations.{DeclaredMethod}
use Rattle.call_typing.specs.Constructors.{access_in, default_flags}
use Rattle.call_typing.specs.Overloads.{Candidate}
use Rattle.body_typing.specs.Bodies.{performed}
use Rattle.class_typing.specs.Constructors as words
use Rattle.class_typing.specs.Constructors.{locals_from}
use Rattle.member_forms.specs.declared.walk.ClassWalk.{ClassWalk}
use Rattle.member_forms.specs.Seen.{program_of}
use Rattle.member_forms.specs.Walks.{class_span, number}

-- of the access of its class
abbrev pub unwritten_constructor : ClassWalk → List Ty → List CoreStmt → CoreMethod
unwritten_constructor w params parts =
    words.unwritten_constructor (number w (codes "new")) (number w []) (class_span w)
    (default_flags (access_in (slice_get (program_of w).classes w.class.0))) params parts

-- the call of a constructor on an object, to which the first locals are handed on
abbrev pub handed_to : Core → Span → Candidate → List Ty → CoreStmt
handed_to object span m params =
    performed span (node (CallExact (a_core object) (class_numbered m.class) m.place
    (cores (locals_from span 0 params))) void span span)

abbrev pub is_constructor : DeclaredMethod → Bool
is_constructor m = m.is_constructor
