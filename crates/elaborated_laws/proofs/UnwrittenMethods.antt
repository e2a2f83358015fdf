-- What no source writes of a class that is no enum has no methods but constructors.
use Rattle.std.proofs.Common.{◌≡◌, ℕ, zero, suc, List, [], ◌∷◌, Option, Some, None, sym, subst}
use Rattle.std.specs.Prelude.{Bool, true, false, not, ◌&&◌, codes, if◌then◌else◌, slice_get}
use Rattle.std.specs.List.{find}
use Rattle.std.proofs.lemmas.Option.{none-some, same_Some}
use Rattle.je_base.specs.declared.span.NameId.{NameId}
use Rattle.je_core.specs.Core.{CoreMethod}
use Rattle.je_scopes.specs.Headers.{constants_in, is_interface_sort, site_at}
use Rattle.je_scopes.specs.Sites.{Written, behind_new, declared, in_library}
use Rattle.declarations.specs.Declarations.{is_enum_sort}
use Rattle.je_typing.specs.Judged.{Judged, bind, gives}
use Rattle.name_typing.specs.Program.{Frame, Program}
use Rattle.body_typing.specs.Bodies.{Met, stands_behind_new}
use Rattle.body_typing.specs.Expressions.{Known}
use Rattle.typing_laws.specs.Fitting.{Gives}
use Rattle.fitting_laws.proofs.Gives.{behind}
use Rattle.class_typing.specs.Members.{MembersDone, anonymous_constructor, default_constructor, enum_members, is_without_constructor, nothing, unwritten}
use Rattle.class_typing.specs.Members as walk
use Rattle.class_typing.specs.Places.{stands_at}
use Rattle.elaborated_laws.proofs.Constants.{anything}

-- methods that have names of constructors
abbrev pub Constructors : (NameId → Bool) → MembersDone → Type 0
Constructors names d = (at : ℕ) (m : CoreMethod) → slice_get d.methods at ≡ Some m → names m.name ≡ true

module _ (names : NameId → Bool) where
  one-named : (x : CoreMethod) → names x.name ≡ true → (at : ℕ) (m : CoreMethod) → slice_get (x ∷ []) at ≡ Some m → names m.name ≡ true
  one-named x h zero m e = subst (λ (k : CoreMethod). names k.name ≡ true) (same_Some x m e) h
  one-named x h (suc at) m e = absurd (none-some m e)

  none-named : Gives (Constructors names) (gives nothing)
  none-named = λ at m e. absurd (none-some m e)

  then-named : {A : Type 0} (j : Judged A) (g : A → Judged MembersDone) → ((a : A) → Gives (Constructors names) (g a)) →
      Gives (Constructors names) (bind j g)
  then-named j g h = behind (λ a. Unit {0}) (Constructors names) j g (anything j) (λ a u. h a)

  module _ (p : Program) (k : Known) (c : ℕ) (round : List Frame) (new : names (walk.number p k c round (codes "new")) ≡ true) where
    default-named : Gives (Constructors names) (default_constructor p k c round)
    default-named = then-named _ _ (λ done at m e. one-named _ new at m e)

    anonymous-named : (o : Option Met) → Gives (Constructors names) (anonymous_constructor p k c round o)
    anonymous-named None = none-named
    anonymous-named (Some (stands_behind_new d s word t es)) = then-named _ _ (λ chosen at m e. one-named _ new at m e)
    anonymous-named (Some _) = none-named

    default-if : (b : Bool) → Gives (Constructors names) (if b then default_constructor p k c round else gives nothing)
    default-if true = default-named
    default-if false = none-named

    pub unwritten-named : (met : List Met) (w : Written) → is_enum_sort (site_at p.source.sites c).sort ≡ false →
        Gives (Constructors names) (unwritten p k c round met w)
    unwritten-named met in_library h = none-named
    unwritten-named met (behind_new word t ms) h = anonymous-named (find (stands_at c) met)
    unwritten-named met (declared d) h =
        let further = not (is_interface_sort (site_at p.source.sites c).sort) && is_without_constructor p k c round in
        subst (λ b. Gives (Constructors names) (if b then gives (enum_members p k c round (constants_in (site_at p.source.sites c).written))
        else (if further then default_constructor p k c round else gives nothing)))
        (sym h) (default-if further)
