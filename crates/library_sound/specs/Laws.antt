-- Which members of the library are tame, and that these are safe. A wild member tells worlds apart, or the time, so evaluation
-- gives it no meaning.
use Rattle.std.specs.Prelude.{◌≡◌, ◌&&◌, ℕ, Bool, not, true, false, Some}
use Rattle.je_base.specs.declared.span.Span.{Span}
use Rattle.je_core.specs.declared.types.ClassId.{ClassId}
use Rattle.je_core.specs.declared.types.Ty.{Ty}
use Rattle.je_core.specs.Core.{Core, Cores, MaybeCore, CoreCapture, CoreClass, CoreMethod, CoreProgram, form_of, node}
use Rattle.je_core.specs.Core as core
use Rattle.je_table.specs.Library as table
use Rattle.je_classes.specs.Dispatch.{dispatched}
use Rattle.je_classes.specs.Hierarchy.{class_at}
use Rattle.je_classes.specs.Members.{Member}
use Rattle.je_classes.specs.Subtypes.{class_type}
use Rattle.je_fitting.specs.Classes.{IsInstanceMethod}
use Rattle.je_fitting.specs.Expressions.{can_be_made, is_constructor, method_at}
use Rattle.je_fitting.specs.Types.{agrees}
use Rattle.je_java.specs.LibraryMembers.{has_own_makers, member_row}
use Rattle.je_java.specs.Meaning.{member_at}
use Rattle.je_sound.specs.Objects.{is_device_interface}
use Rattle.plain_programs.specs.Plain.{IsPlain, joins_wild, names_wild}
use Rattle.plain_programs.specs.Wild.{is_wild}
use Rattle.eval_sound.specs.Premises.{AllAllowed, ComesTo, Dispatches, IsOfLibrary, LibraryIsSafe, MakerIsSafe, MemberIsSafe}
use Rattle.eval_sound.specs.Safety.{Allowed, HasDevice, ProgramFits, Setting}

-- the row of the table that is the member of a number of a class, which says that it is tame
pub record IsTame (class : ClassId) (at : ℕ) : Type 0 where
  pub row : table.Member
  pub there : member_row class at ≡ Some row
  pub tame : row.tame ≡ true

-- a method, or a constructor that is handed the object that was made for it
abbrev pub MembersAreSafe : Type 0
MembersAreSafe = (setting : Setting) → ProgramFits setting.program → (class : ClassId) (at : ℕ) (member : CoreMethod) →
    IsOfLibrary setting.program class at member → IsTame class at →
    (has_own_makers class && is_constructor setting.program member) ≡ false → MemberIsSafe setting class at member

-- a constructor that makes its object itself
abbrev pub MakersAreSafe : Type 0
MakersAreSafe = (setting : Setting) → ProgramFits setting.program → (class : ClassId) (at : ℕ) (constructor : CoreMethod) →
    IsOfLibrary setting.program class at constructor → IsTame class at → has_own_makers class ≡ true →
    is_constructor setting.program constructor ≡ true → MakerIsSafe setting class at constructor

-- ---- what a program comes to

-- What a program's calls come to in the library is tame. Of new instances and of superclasses' constructors that is so in each
-- program, since the library's constructors are tame.
module _ (setting : Setting) where
  pub record ComesToTame : Type 0 where
    -- the method that an object's class has for one that is called
    pub dispatched_to : (own class : ClassId) (at : ℕ) (named : CoreMethod) (o : CoreClass) (member : Member) (method : CoreMethod) →
        ComesTo setting own class at → class_at setting.program own ≡ Some o → can_be_made o ≡ true →
        IsInstanceMethod setting.program own class at named →
        dispatched setting.program own (member_at class at) ≡ Some member →
        IsOfLibrary setting.program member.class member.at method →
        IsTame member.class member.at
    -- the one that is named
    pub named : {receiver : MaybeCore} {class : ClassId} {at : ℕ} {args : Cores} {t : Ty} {span place : Span} (method : CoreMethod) →
        Allowed setting (node (core.CallExact receiver class at args) t span place) →
        IsOfLibrary setting.program class at method → is_constructor setting.program method ≡ false →
        IsTame class at
    -- where a device was there at first, its interface has a method for each that is called
    pub devices : HasDevice setting.first → (own class : ClassId) (at : ℕ) (named : CoreMethod) → ComesTo setting own class at →
        is_device_interface own ≡ true → agrees setting.program (class_type own) (class_type class) ≡ true →
        method_at setting.program class at ≡ Some named → Dispatches setting own class at named

-- Then the library is safe, as evaluation asks it.
abbrev pub TameIsSafe : Type 0
TameIsSafe = (setting : Setting) → ProgramFits setting.program → ComesToTame setting → LibraryIsSafe setting

-- ---- plain programs

-- an expression that names no wild member, and joins no text that a wild one gives
abbrev pub is_plain_node : CoreProgram → Core → Bool
is_plain_node program e = not (names_wild (form_of e)) && not (joins_wild program (form_of e))

-- Each expression of a plain program is one.
abbrev pub PlainIsAllowed : Type 0
PlainIsAllowed = (setting : Setting) → ((e : Core) → setting.test e ≡ is_plain_node setting.program e) →
    IsPlain setting.program → AllAllowed setting

-- A member of the library that can run and isn't wild is tame.
abbrev pub OthersAreTame : Type 0
OthersAreTame = (setting : Setting) → ProgramFits setting.program → (class : ClassId) (at : ℕ) (member : CoreMethod) →
    IsOfLibrary setting.program class at member → is_wild (record { class = class; at = at }) ≡ false → IsTame class at
