-- The classes that methods and constructors may throw are there.
use Rattle.std.proofs.Common.{◌≡◌, ℕ, zero, suc, ◌<◌, ◌≤◌, List, [], ◌∷◌, length, map, refl, sym, ap, ◌∙◌, subst}
use Rattle.std.specs.Prelude.{Bool, true, false, if◌then◌else◌, is_some, nat_eq}
use Rattle.je_core.specs.declared.types.Base.{Base}
use Rattle.je_core.specs.declared.types.Base.TheVariants as base
use Rattle.je_core.specs.declared.types.ClassId.{ClassId}
use Rattle.je_core.specs.Core.{CoreProgram}
use Rattle.je_ast.specs.Types.{QualifiedName}
use Rattle.je_classes.specs.Hierarchy.{class_at}
use Rattle.je_classes.specs.Members.{In}
use Rattle.je_classes.proofs.Sets.{by_either, in-either}
use Rattle.je_fitting.specs.Types.{is_there_base}
use Rattle.je_scopes.specs.Looks.{Look, a_class, a_variable, nothing, unclear, waits}
use Rattle.je_scopes.specs.Members.{MethodSite, method_part}
use Rattle.je_scopes.specs.Scope.{Part, meaning}
use Rattle.je_scopes.specs.Settled.{settled}
use Rattle.je_scopes.specs.Source.{Source}
use Rattle.je_scopes.specs.SourceTypes.{SourceType, arity_of, no_source_types, null_type, of_class, of_variable, type_for}
use Rattle.je_scopes.proofs.Found.{meant-named}
use Rattle.je_scopes.proofs.Ranges.{named-are}
use Rattle.source_types.specs.Erasure.{class_numbered, erased}
use Rattle.source_types.specs.Heads.{bound_of}
use Rattle.source_types.specs.Laws.{is_class_or_variable}
use Rattle.declarations.specs.Declarations.{declared_method, thrown_type}
use Rattle.fitting_laws.specs.Sound.{HeadsAreSound, IsSound, sound_class, sound_primitive, sound_variable}
use Rattle.fitting_laws.proofs.Lists.{in-one}
use Rattle.name_typing.specs.Program.{Frame, Program}
use Rattle.body_typing.specs.Expressions.{Known}
use Rattle.class_typing.specs.Members.{class_of_base, thrown_class, thrown_classes}
use Rattle.class_typing.specs.Programs.{classes, library_count}
use Rattle.elaborated_laws.specs.Elaborated.{IsElaborated, program_of}
use Rattle.elaborated_laws.specs.Sound.{VariablesAreSound}
use Rattle.elaborated_laws.proofs.Representing.{classes_there}
use Rattle.judged_laws.proofs.ClassDepth.{has-library}

module _ (source : Source) (program : CoreProgram) (e : IsElaborated source program) (variables : VariablesAreSound (program_of source e.first))
    (sound : HeadsAreSound program (program_of source e.first).heads) where
  abbrev p : Program
  p = program_of source e.first

  abbrev IsThere : ClassId → Type 0
  IsThere d = is_some (class_at program d) ≡ true

  of-base : (b : Base) → is_there_base program b ≡ true → (d : ClassId) → In (class_of_base b) d → IsThere d
  of-base (base.Class c) h d i = subst IsThere (sym (in-one c d i)) h
  of-base base.Void h d i = elim i [ ]
  of-base base.Null h d i = elim i [ ]
  of-base base.Bool h d i = elim i [ ]
  of-base base.Byte h d i = elim i [ ]
  of-base base.Short h d i = elim i [ ]
  of-base base.Char h d i = elim i [ ]
  of-base base.Int h d i = elim i [ ]
  of-base base.Long h d i = elim i [ ]

  -- the erasure of a sound class or variable
  sound-base : (t : SourceType) → is_class_or_variable t ≡ true → IsSound program p.heads 254 t → is_there_base program (erased p.heads t).base ≡ true
  unfolding erased
  sound-base _ fits (sound_primitive h n) = absurd cc
  sound-base _ fits (sound_class there n args) = there
  sound-base _ fits (sound_variable {n = zero} there n') = there
  sound-base _ fits (sound_variable {n = suc n} there n') = absurd cc

  variable-base : (c at : ℕ) → is_there_base program (erased p.heads (of_variable c at 0)).base ≡ true
  variable-base c at =
      ap (λ t. is_there_base program t.base) (variables.erased_alike c at)
      ∙ sound-base (bound_of p.heads c at) (variables.bounds c at) (sound.bounds c at)

  module _ (c : ℕ) (le : library_count source ≤ c) (l : c < length (classes source)) (k : Known) (round : List Frame) where
    look-there : (look : Look) → ((d : ℕ) → look ≡ a_class d → d < length source.sites) → (d : ClassId) →
        In (thrown_class p k c round (type_for source look 0 no_source_types 0)) d → IsThere d
    unfolding erased
    look-there waits f d i = elim i [ ]
    look-there nothing f d i = elim i [ ]
    look-there unclear f d i = elim i [ ]
    look-there (a_variable b at) f d i = of-base _ (variable-base b at) d i
    look-there (a_class b) f d i = by (nat_eq 0 (arity_of source b)) i
      where
        by : (x : Bool) → In (thrown_class p k c round (if x then of_class b no_source_types 0 else null_type 0)) d → IsThere d
        by true j = subst IsThere (sym (in-one (class_numbered b) d j)) (classes_there source program e b (f b refl))
        by false j = elim j [ ]

    name-there : (part : Part) (q : QualifiedName) (d : ClassId) → In (thrown_class p k c round (thrown_type source c part q)) d → IsThere d
    name-there part q d i =
        look-there (meaning source (settled source) c part q.parts)
        (λ b h. named-are source (has-library source c le l) (settled source) c part q.parts b (meant-named source (settled source) c part q.parts b h)) d i

    names-there : (part : Part) (qs : List QualifiedName) (d : ClassId) → In (thrown_classes p k c round (map (thrown_type source c part) qs)) d → IsThere d
    names-there part [] d i = elim i [ ]
    names-there part (q ∷ qs) d i =
        by_either (name-there part q d) (names-there part qs d) (in-either (thrown_class p k c round (thrown_type source c part q)) i)

    pub all-thrown : (m : MethodSite) (d : ClassId) → In (thrown_classes p k c round (declared_method source c m).throws) d → IsThere d
    all-thrown m d i = names-there (method_part m) m.throws d i
