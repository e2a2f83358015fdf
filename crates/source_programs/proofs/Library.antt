-- The library stands in the core program that files come to.
use Rattle.std.proofs.Common.{◌≡◌, ℕ, List, [], ◌∷◌, ◌++◌, Option, Some, None, refl, sym, ap, subst, ◌∙◌}
use Rattle.std.specs.Prelude.{true, is_some}
use Rattle.std.specs.List.{Contains}
use Rattle.je_base.specs.declared.span.NameId.{NameId}
use Rattle.je_base.specs.Names.{interned, number_of}
use Rattle.je_core.specs.Core.{CoreClass, CoreProgram}
use Rattle.je_scopes.specs.Source.{Source, source}
use Rattle.je_typing.specs.Judged.{Judged, faulty, gives, bind}
use Rattle.class_names.specs.Words.{AreNumbered, StayNumbered, library_words}
use Rattle.class_names.proofs.Interning.{stay_interned, stay_on, stay_same, words_numbered}
use Rattle.class_typing.specs.Captures.{captured_locals}
use Rattle.class_typing.specs.Elaboration.{BodiesMet, constants_first, core_classes, core_program, elaborated, first_bodies, first_program, first_world, guest_count, setting, whole_world, with_captures}
use Rattle.class_typing.specs.Places.{round_met}
use Rattle.class_typing.specs.Programs.{library_count, number}
use Rattle.library_classes.specs.Library.{LibraryStands, all_due}
use Rattle.library_classes.proofs.Standing.{programs_stand}
use Rattle.signature_typing.specs.Signatures.{signatures}
use Rattle.source_units.specs.Files.{FileTokens}
use Rattle.source_units.specs.Names.{all_interned, names_with}
use Rattle.source_programs.specs.Findings.{ComesTo, words}

-- ---- the words of the library keep their numbers

stay_all : (texts names : List (List ℕ)) → StayNumbered names (all_interned names texts)
stay_all [] names = stay_same names
stay_all (t ∷ ts) names = stay_on names (interned names t) (all_interned (interned names t) ts) (stay_interned names t) (stay_all ts (interned names t))

stay_files : (fs : List FileTokens) (names : List (List ℕ)) → StayNumbered names (names_with names fs)
stay_files [] names = stay_same names
stay_files (f ∷ fs) names = stay_on names (all_interned names f.names) (names_with (all_interned names f.names) fs)
    (stay_all f.names names) (stay_files fs (all_interned names f.names))

still_numbered : (before after : List (List ℕ)) → StayNumbered before after → AreNumbered before library_words → AreNumbered after library_words
still_numbered before after stay are word w = by (number_of before word) refl (are word w)
  where
    by : (o : Option NameId) → number_of before word ≡ o → is_some o ≡ true → is_some (number_of after word) ≡ true
    by None r h = absurd (cc)
    by (Some id) r h = ap is_some (stay word id r)

-- ---- the classes of a program behind the library's

record Came {A B : Type 0} (m : Judged A) (f : A → Judged B) (b : B) : Type 0 where
  first : A
  rest : f first ≡ gives b

came : {A B : Type 0} (m : Judged A) (f : A → Judged B) (b : B) → bind m f ≡ gives b → Came m f b
unfolding bind
came (gives a) f b e = record { first = a; rest = e }
came (faulty fault) f b e = absurd (cc)

record Behind (p : Source) (c : CoreProgram) : Type 0 where
  guests : List CoreClass
  first : c.classes ≡ all_due (number p) ++ guests

in_program : (p : Source) (guests : List CoreClass) (c : CoreProgram) → gives (core_program p guests) ≡ gives c → Behind p c
in_program p guests c e =
    let is : core_program p guests ≡ c = cc in
    record { guests = guests; first = sym (ap (λ (c : CoreProgram). c.classes) is) }

behind : (p : Source) (c : CoreProgram) → elaborated p ≡ gives c → Behind p c
unfolding elaborated
behind p c e =
    let captured = λ (first : BodiesMet). captured_locals (first_program p) first.met (round_met p.sites first.met) in
    let bodies = λ (first : BodiesMet). with_captures p (captured first) first in
    let judged = came (signatures (setting p ((first_world p (constants_first p)).program))) (λ done. bind (first_bodies p) bodies) c e in
    let met = came (first_bodies p) bodies c judged.rest in
    let first = met.first in
    let classes = came (core_classes p (whole_world p (captured first) first) (captured first) first.met (library_count p) (guest_count p))
    (λ guests. gives (core_program p guests)) c met.rest in
    in_program p classes.first c classes.rest

pub library_stands : (files names : List (List ℕ)) (c : CoreProgram) → ComesTo files names c → LibraryStands c
library_stands files names c comes =
    let b = behind (source names comes.units) c comes.program.typed in
    let stay : StayNumbered words names = subst (StayNumbered words) (sym comes.read.read.names_are) (stay_files comes.read.tokens words) in
    programs_stand names c b.guests (still_numbered words names stay (words_numbered [])) b.first
