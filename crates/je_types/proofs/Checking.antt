-- What the search for the first misfit says of a program.
use Rattle.std.proofs.Common.{◌≡◌, ℕ, ◌<◌, List, length, get_or, Some, None, refl, sym, ap, ◌∙◌, subst, arith}
use Rattle.std.proofs.lemmas.List.{length-append}
use Rattle.std.proofs.lemmas.Option.{slice_get_within, slice_get-get_or, get_or_from_slice_get}
use Rattle.std.specs.Prelude.{Bool, true, ◌↔◌, Option, option_map, slice_get}
use Rattle.std.specs.List.{All, Contains}
use Rattle.je_base.specs.declared.span.NameId.{NameId}
use Rattle.je_core.specs.declared.types.ClassId.{ClassId}
use Rattle.je_core.specs.Core.{CoreField, CoreMethod, CoreClass, CoreProgram}
use Rattle.je_classes.specs.Fields.{fields_in}
use Rattle.je_classes.specs.Hierarchy.{class_at, with_superclass, supers_in, supers_of, IsAcyclic}
use Rattle.je_classes.proofs.Lists.{contains-cases}
use Rattle.je_classes.proofs.Sets.{by_either}
use Rattle.je_classes.specs.Members.{methods_in}
use Rattle.je_fitting.specs.Classes.{can_be_extended, is_interface, SuperclassFits, none_above, one_above, ClassFits}
use Rattle.je_fitting.specs.Program.{Part, itself, IsPart, is_itself, is_field, is_method, FitsProgram, IsFirstMisfit}
use Rattle.je_fitting.specs.way.DecidingClasses.{is_program_fit}
use Rattle.je_fitting.specs.way.Misfits.{first_misfit}
use Rattle.je_fitting.proofs.Acyclic.{acyclic}
use Rattle.je_fitting.proofs.FirstMisfit.{first, none_misfit, some_misfit}
use Rattle.je_fitting.proofs.ClassesDecided.{program_complete, itself_of, at-place}
use Rattle.class_tables.specs.Few.{AreFew}
use Rattle.class_tables.specs.SubclassTables.{AreSupersThere}
use Rattle.plain_programs.specs.Plain.{IsPlain}
use Rattle.plain_programs.specs.way.Deciding.{is_plain}
use Rattle.plain_programs.proofs.Decided.{plain-where, where-plain}
use Rattle.library_classes.specs.Library.{LibraryStands, all_due}
use Rattle.je_types.specs.Checked.{name_of, IsMisfit}
use Rattle.je_types.specs.Limits.{ClassIsSmall, IsSmall}

pub fits_whole : (p : CoreProgram) → first_misfit p ≡ None → FitsProgram p
fits_whole p e = none_misfit p (first_misfit p) (first p) e

pub passes : (p : CoreProgram) → first_misfit p ≡ None → is_program_fit p ≡ true
passes p e = program_complete p (fits_whole p e)

pub is_first : (p : CoreProgram) (class : ClassId) (part : Part) → first_misfit p ≡ Some (class, part) → IsFirstMisfit p class part
is_first p class part e = some_misfit p (first_misfit p) (first p) class part e

pub misfit_of : (p : CoreProgram) (class : ClassId) (part : Part) (name : NameId) → first_misfit p ≡ Some (class, part) → name_of p class part ≡ Some name → IsMisfit p class name
misfit_of p class part name e n = record { part = part; first = is_first p class part e; named = n }

unnamed : (p : CoreProgram) (class : ClassId) (c : CoreClass) (part : Part) → class_at p class ≡ Some c → IsPart c part → name_of p class part ≡ None → ⊥
unnamed p class c _ there is_itself e = let q : option_map (λ (k : CoreClass). k.name) (class_at p class) ≡ Some c.name = ap (option_map (λ (k : CoreClass). k.name)) there in cc
unnamed p class c _ there (is_field {at = at} {f = f} q) e =
    let r : option_map (λ (k : CoreField). k.name) (slice_get (fields_in (class_at p class)) at) ≡ Some f.name = ap (λ o. option_map (λ (k : CoreField). k.name) (slice_get (fields_in o) at)) there ∙ ap (option_map (λ (k : CoreField). k.name)) q in cc
unnamed p class c _ there (is_method {at = at} {m = m} q) e =
    let r : option_map (λ (k : CoreMethod). k.name) (slice_get (methods_in (class_at p class)) at) ≡ Some m.name = ap (λ o. option_map (λ (k : CoreMethod). k.name) (slice_get (methods_in o) at)) there ∙ ap (option_map (λ (k : CoreMethod). k.name)) q in cc

-- a first misfit has a name
pub always_named : (p : CoreProgram) (class : ClassId) (part : Part) → first_misfit p ≡ Some (class, part) → name_of p class part ≡ None → ⊥
always_named p class part e n = let k = is_first p class part e in unnamed p class k.the_class part k.there k.is_part n

-- ---- what the tables ask

count : (number : List ℕ → NameId) → length (all_due number) ≡ 39
unfolding all_due
count number = refl

pub no_cycles : (p : CoreProgram) → LibraryStands p → first_misfit p ≡ None → IsAcyclic p
no_cycles p stands e = acyclic p (fits_whole p e) (omega (arith, ap length stands.first, length-append (all_due stands.number) stands.others, count stands.number))

pub are_few : (p : CoreProgram) → IsSmall p → AreFew p
are_few p s = record {
  classes = s.classes;
  fields = λ class c e. let small : ClassIsSmall c = subst ClassIsSmall (get_or_from_slice_get p.classes class.0 c c e) (s.each class.0 c (slice_get_within p.classes class.0 c e)) in small.fields;
}

-- a class that is named as a super is there
module _ (p : CoreProgram) (fits : FitsProgram p) where
  there-by : (test : Option CoreClass → Bool) → (test None ≡ true → ⊥) → (d : ClassId) (o : Option CoreClass) → class_at p d ≡ o → test o ≡ true → d.0 < length p.classes
  there-by test none d None e h = absurd (none h)
  there-by test none d (Some k) e h = slice_get_within p.classes d.0 k e

  interface-there : (is : List ClassId) → All (λ i. is_interface (class_at p i) ≡ true) is → (d : ClassId) → Contains is d → d.0 < length p.classes
  interface-there is a d q = there-by is_interface (λ h. cc) d (class_at p d) refl
      (subst (λ (i : ClassId). is_interface (class_at p i) ≡ true) q.2 (at-place (λ i. is_interface (class_at p i) ≡ true) is q.0 (get_or is q.0 d) a (slice_get-get_or is q.0 d q.1)))

  super-there : (c : ClassId) (k : CoreClass) (s : Option ClassId) (is : List ClassId) → SuperclassFits p c k s → All (λ i. is_interface (class_at p i) ≡ true) is → (d : ClassId) → Contains (with_superclass s is) d → d.0 < length p.classes
  super-there c k _ is (none_above e) a d q = interface-there is a d q
  super-there c k _ is (one_above {s = s} e g) a d q = by_either (λ same. subst (λ (x : ClassId). x.0 < length p.classes) same (there-by can_be_extended (λ h. cc) s (class_at p s) refl g))
      (λ r. interface-there is a d r) (contains-cases s d is q)

  named-there : (c d : ClassId) (o : Option CoreClass) → class_at p c ≡ o → Contains (supers_in o) d → d.0 < length p.classes
  named-there c d None e q = absurd (let l : q.0 < 0 = q.1 in omega arith)
  named-there c d (Some k) e q = let f : ClassFits p c k = itself_of p c k ((fits c k e).parts itself is_itself) in super-there c k k.superclass k.interfaces f.superclass f.interfaces d q

pub supers_there : (p : CoreProgram) → first_misfit p ≡ None → AreSupersThere p
supers_there p e c d q = named-there p (fits_whole p e) c d (class_at p c) refl q

-- ---- whether it is plain

pub plain_told : (p : CoreProgram) (plain : Bool) → plain ≡ is_plain p → (plain ≡ true) ↔ IsPlain p
plain_told p plain e = (λ h. plain-where p (sym e ∙ h), λ h. e ∙ where-plain p h)

pub ruleset checking = (fits_whole, passes, misfit_of, always_named, no_cycles, are_few)
