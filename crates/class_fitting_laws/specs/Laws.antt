-- The laws on the members of a class (JLS 8.2): their code fits.
use Rattle.std.specs.Prelude.{ℕ, List, Option}
use Rattle.je_core.specs.declared.types.ClassId.{ClassId}
use Rattle.je_core.specs.Core.{CoreProgram}
use Rattle.je_ast.specs.Trees.{Members}
use Rattle.je_scopes.specs.Headers.{members_in, site_at}
use Rattle.source_types.specs.Erasure.{class_numbered}
use Rattle.name_typing.specs.Program.{Frame, Program}
use Rattle.body_typing.specs.Bodies.{Met}
use Rattle.body_typing.specs.Expressions.{Known}
use Rattle.class_typing.specs.Members.{class_members, members_from}
use Rattle.typing_laws.specs.Fitting.{Gives}
use Rattle.fitting_laws.specs.Methods.{HasMethods}
use Rattle.fitting_laws.specs.Represented.{Represents}
use Rattle.body_laws.specs.Written.{MembersAreWritten}
use Rattle.class_fitting_laws.specs.Classes.{ClassStands}
use Rattle.class_fitting_laws.specs.Fitting.{CodeFits}
use Rattle.class_fitting_laws.specs.Unwritten.{UnwrittenStands}
use Rattle.class_fitting_laws.specs.Written.{MembersStand}

-- those that it writes
abbrev pub MembersFit : Type 0
MembersFit = (p : Program) (k : Known) (program : CoreProgram) (c : ℕ) (round : List Frame)
    (superclass : Option ClassId) →
    Represents p program → HasMethods p program → ClassStands p program c round →
    (fields methods : ℕ) (ms : Members) → MembersAreWritten ms →
    MembersStand p k program c round superclass fields methods ms →
    Gives (CodeFits program (class_numbered c) superclass) (members_from p k c round fields methods ms)

-- all of them, with those that no source writes
abbrev pub ClassMembersFit : Type 0
ClassMembersFit = (p : Program) (k : Known) (program : CoreProgram) (c : ℕ) (round : List Frame)
    (superclass : Option ClassId) →
    Represents p program → HasMethods p program → ClassStands p program c round →
    (met : List Met) (hidden : ℕ) → MembersAreWritten (members_in (site_at p.source.sites c).written) →
    MembersStand p k program c round superclass hidden 0 (members_in (site_at p.source.sites c).written) →
    UnwrittenStands p k program c superclass met (site_at p.source.sites c).written →
    Gives (CodeFits program (class_numbered c) superclass) (class_members p k c round met hidden)
