-- A class that declares no constructor has the default one behind its methods.
use Rattle.std.proofs.Common.{◌≡◌, ℕ, ◌+◌, ◌<◌, ◌≤◌, ◌⊎◌, inl, inr, List, [], ◌∷◌, ◌++◌, length, Some, refl, sym, ap, ◌∙◌, subst, arith}
use Rattle.std.specs.Prelude.{Bool, true, false, not, ◌&&◌, codes, if◌then◌else◌, map, slice_get}
use Rattle.std.proofs.lemmas.Bool.{cases_lt}
use Rattle.std.proofs.lemmas.Option.{slice_get_past}
use Rattle.std.proofs.lemmas.Slice.Zip.{AllZip-long}
use Rattle.je_base.specs.declared.span.NameId.{NameId}
use Rattle.je_core.specs.Core.{CoreClass, CoreMethod, CoreProgram}
use Rattle.je_classes.specs.Members.{names_constructors}
use Rattle.je_classes.specs.Members as core_methods
use Rattle.je_classes.proofs.Lists.{bool_cases}
use Rattle.je_scopes.specs.Headers.{constants_in, is_guest, is_interface_sort, members_in, or_nothing, site_at}
use Rattle.je_scopes.specs.Members.{method_sites, methods_of}
use Rattle.je_scopes.specs.Source.{Source}
use Rattle.declarations.specs.Declarations.{DeclaredMethod, declared_class, declared_method, is_enum_sort}
use Rattle.je_typing.specs.Judged.{Judged, bind, gives}
use Rattle.name_typing.specs.Program.{Frame, Program}
use Rattle.overriding.specs.Methods.{methods_in}
use Rattle.call_typing.specs.Constructors.{constructors_from, constructors_of}
use Rattle.body_typing.specs.Bodies.{Met}
use Rattle.body_typing.specs.Expressions.{Known}
use Rattle.typing_laws.specs.Fitting.{Gives}
use Rattle.fitting_laws.specs.Methods.{DefaultStands}
use Rattle.fitting_laws.proofs.Gives.{behind}
use Rattle.class_typing.specs.Constructors.{no_cycle}
use Rattle.class_typing.specs.Elaboration.{hidden_count}
use Rattle.class_typing.specs.Enums.{enum_methods}
use Rattle.class_typing.specs.Members.{MembersDone, class_members, default_constructor, enum_members, is_without_constructor, members_from, nothing, unwritten}
use Rattle.class_typing.specs.Places.{round_met}
use Rattle.class_typing.specs.Programs.{classes, library_count, number, plain_program, with_enum_methods}
use Rattle.elaborated_laws.specs.Elaborated.{IsElaborated, captured_by, program_of, world_of}
use Rattle.elaborated_laws.specs.Laws.{DefaultsStand}
use Rattle.elaborated_laws.specs.Premises.{HasSites, HasWords, IsDeclaredClass}
use Rattle.elaborated_laws.proofs.Classes.{classes-count}
use Rattle.elaborated_laws.proofs.Constants.{anything}
use Rattle.elaborated_laws.proofs.Guests.{guest-declared}
use Rattle.elaborated_laws.proofs.Lists.{placed}
use Rattle.elaborated_laws.proofs.Lists.{behind as place-behind}
use Rattle.elaborated_laws.proofs.MethodWalk.{MethodAlike, Zipped, members-zipped}
use Rattle.elaborated_laws.proofs.Methods.{guest-methods, names-new, new-named, same-methods}

-- the constructor at a place of methods
record IsDefault (names : NameId → Bool) (n : ℕ) (ms : List CoreMethod) : Type 0 where
  method : CoreMethod
  there : slice_get ms n ≡ Some method
  params : method.params ≡ []
  name : names method.name ≡ true

-- an enum has its constructor first
one-there : (number : List ℕ → NameId) (c : ℕ) → ¬ (constructors_from c 0 (enum_methods number c) ≡ [])
one-there number c h = cc

module _ (source : Source) (program : CoreProgram) (e : IsElaborated source program) (sites : HasSites source) (words : HasWords source) where
  abbrev p : Program
  p = program_of source e.first

  abbrev names : NameId → Bool
  names name = names_constructors program name

  abbrev own-methods : ℕ → List DeclaredMethod
  own-methods c = (with_enum_methods source c (declared_class source c)).methods

  own-are : (c : ℕ) → slice_get (classes source) c ≡ Some (with_enum_methods source c (declared_class source c)) →
      methods_in (slice_get p.classes c) ≡ own-methods c
  own-are c there = guest-methods source program e words.numbered sites.enums words.no_method c there

  new : names (number source (codes "new")) ≡ true
  new = new-named source program e words.numbered sites.enums words.no_method

  -- ---- what no source writes is one constructor

  without : (k : Known) (c : ℕ) (around : List Frame) → constructors_of p.classes c ≡ [] → is_without_constructor p k c around ≡ true
  without k c around none = rw none refl

  of-one : (m : CoreMethod) → m.params ≡ [] → names m.name ≡ true → IsDefault names 0 (m ∷ [])
  of-one m e f = record { method = m; there = refl; params = e; name = f }

  then-default : {A : Type 0} (j : Judged A) (g : A → Judged MembersDone) →
      ((a : A) → Gives (λ (d : MembersDone). IsDefault names 0 d.methods) (g a)) →
      Gives (λ (d : MembersDone). IsDefault names 0 d.methods) (bind j g)
  then-default j g h =
      behind (λ a. Unit {0}) (λ (d : MembersDone). IsDefault names 0 d.methods) j g (anything j) (λ a u. h a)

  default-made : (k : Known) (c : ℕ) (around : List Frame) →
      Gives (λ (d : MembersDone). IsDefault names 0 d.methods) (default_constructor p k c around)
  unfolding plain_program
  default-made k c around =
      then-default _ _ (λ done. of-one _ refl new)

  further-default : (k : Known) (c : ℕ) (around : List Frame) (met : List Met) (is : IsDeclaredClass source c) →
      is_enum_sort (site_at source.sites c).sort ≡ false → constructors_of p.classes c ≡ [] →
      Gives (λ (d : MembersDone). IsDefault names 0 d.methods) (unwritten p k c around met (site_at source.sites c).written)
  unfolding plain_program
  further-default k c around met is no-enum none =
      let P = λ (d : MembersDone). IsDefault names 0 d.methods in
      let ids = constants_in (site_at source.sites c).written in
      subst (λ w. Gives P (unwritten p k c around met w)) (sym is.written)
      (subst (λ b. Gives P (if b then gives (enum_members p k c around ids)
      else (if not (is_interface_sort (site_at source.sites c).sort) && is_without_constructor p k c around then default_constructor p k c around else gives nothing)))
      (sym no-enum)
      (subst (λ b. Gives P (if not b && is_without_constructor p k c around then default_constructor p k c around else gives nothing)) (sym is.no_interface)
      (subst (λ b. Gives P (if b then default_constructor p k c around else gives nothing)) (sym (without k c around none))
      (default-made k c around))))

  in-class : (k : Known) (c : ℕ) (around : List Frame) (met : List Met) (hidden : ℕ) (is : IsDeclaredClass source c) →
      is_enum_sort (site_at source.sites c).sort ≡ false → constructors_of p.classes c ≡ [] →
      methods_in (slice_get p.classes c) ≡ map (declared_method source c) (methods_of source c) →
      Gives (λ (d : MembersDone). IsDefault names (length (methods_in (slice_get p.classes c))) d.methods) (class_members p k c around met hidden)
  unfolding class_members plain_program
  in-class k c around met hidden is no-enum none written =
      let w = (site_at source.sites c).written in
      let n = length (methods_in (slice_get p.classes c)) in
      let P = λ (d : MembersDone). IsDefault names n d.methods in
      behind (Zipped names (declared_method source c) p k c around (method_sites (members_in w))) P (members_from p k c around hidden 0 (members_in w)) _
      (members-zipped names (declared_method source c) p k c around new hidden 0 (members_in w) written
      (λ s q. record { constructor_kept = refl; name_kept = refl; name = λ plain. names-new source program e s.name.name ∙ words.no_method c s q plain }))
      (λ d z. behind (λ (f : MembersDone). IsDefault names 0 f.methods) P (unwritten p k c around met w) _ (further-default k c around met is no-enum none)
      (λ further f. behind (λ (u : Unit {0}). Unit {0}) P (no_cycle d.calls) _ (anything _)
      (λ done u. record {
        method = f.method;
        there =
            let many : n ≡ length d.methods + 0 =
            ap length written ∙ AllZip-long (MethodAlike names p.heads) d.methods (map (declared_method source c) (methods_of source c)) z ∙ omega arith in
            ap (slice_get (d.methods ++ further.methods)) many ∙ place-behind d.methods further.methods 0 ∙ f.there;
        params = f.params;
        name = f.name;
      })))

  -- ---- where it is asked for

  default-stands : (c : ℕ) (is : IsDeclaredClass source c) → library_count source ≤ c → c < length source.sites →
      constructors_of p.classes c ≡ [] → DefaultStands p program c
  unfolding declared_class
  default-stands c is le l none =
      let there = guest-declared source c le l in
      let world = world_of source e.first in
      let k = placed program.classes c (omega (arith, e.has.count, classes-count source, le, l)) in
      let made = e.has.guests c k.element le k.is in
      let caught = captured_by source e.first in
      let methods = same-methods source c (declared_class source c) in
      bool_cases (λ b. is_enum_sort (site_at source.sites c).sort ≡ b → DefaultStands p program c) (is_enum_sort (site_at source.sites c).sort)
      (λ yes same.
      let all : methods_in (slice_get p.classes c) ≡ enum_methods (number source) c =
      own-are c there ∙ methods ∙ ap (λ b. if b then enum_methods (number source) c else (declared_class source c).methods) yes in
      absurd (one-there (number source) c (sym (ap (constructors_from c 0) all) ∙ none)))
      (λ no same.
      let written : methods_in (slice_get p.classes c) ≡ map (declared_method source c) (methods_of source c) =
      own-are c there ∙ methods ∙ ap (λ b. if b then enum_methods (number source) c else (declared_class source c).methods) no in
      let n = length (methods_in (slice_get p.classes c)) in
      let d = subst (Gives (λ (d : MembersDone). IsDefault names n d.methods)) made.walked
      (in-class world.known c (round_met source.sites e.first.met c) e.first.met (hidden_count source caught c) is no none written) in
      record {
        method = d.method;
        there = ap (λ o. slice_get (core_methods.methods_in o) n) k.is ∙ ap (λ (j : CoreClass). slice_get j.methods n) made.is ∙ d.there;
        params = d.params;
        is_constructor = d.name;
      }) refl

  past-absurd : (c : ℕ) → is_guest (site_at source.sites c).written ≡ true → length source.sites ≤ c → ⊥
  past-absurd c guest past =
      let none : is_guest (site_at source.sites c).written ≡ false =
      ap (λ o. is_guest (or_nothing o).written) (slice_get_past source.sites c past) in
      cc

  stands : (c : ℕ) (is : IsDeclaredClass source c) → is_guest (site_at source.sites c).written ≡ true →
      constructors_of p.classes c ≡ [] → DefaultStands p program c
  stands c is guest none = by (cases_lt c (library_count source)) (cases_lt c (length source.sites))
    where
      by : (c < library_count source ⊎ library_count source ≤ c) → (c < length source.sites ⊎ length source.sites ≤ c) →
          DefaultStands p program c
      by (inl l) other = let no = sites.library c l in absurd cc
      by (inr le) (inl l) = default-stands c is le l none
      by (inr le) (inr past) = absurd (past-absurd c guest past)

pub defaults_stand : (source : Source) (program : CoreProgram) (e : IsElaborated source program) → DefaultsStand source program e
unfolding plain_program
defaults_stand source program e sites words c is guest none = stands source program e sites words c is guest none
