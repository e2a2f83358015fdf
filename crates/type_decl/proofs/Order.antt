-- The halves of elaboration, one behind the other.
use Rattle.std.proofs.Common.{◌≡◌, ℕ, List, refl, ap, sym, ◌∙◌, subst}
use Rattle.je_core.specs.Core.{CoreClass, CoreProgram}
use Rattle.je_scopes.specs.Source.{Source}
use Rattle.je_typing.specs.declared.fault.Refusal.{Refusal}
use Rattle.je_typing.specs.Answers.{IsFault}
use Rattle.je_typing.specs.Judged.{Judged, gives, faulty, bind}
use Rattle.je_typing.proofs.Walks.{bind_faults, bind_gives, fault_later}
use Rattle.class_typing.specs.Elaboration.{BodiesMet, core_program, elaborated, first_bodies}
use Rattle.class_typing.specs.Programs.{CapturedLocal}
use Rattle.type_decl.specs.way.Halves.{begun, captured_behind, code, code_behind, code_with, judged_first}

in-order : {A B C D : Type 0} (m : Judged A) (n : Judged B) (g : B → Judged C) (h : C → Judged D) →
    bind m (λ a. bind n (λ b. bind (g b) h)) ≡ bind (bind (bind m (λ a. n)) g) h
unfolding bind
in-order (gives a) (gives b) g h = refl
in-order (gives a) (faulty fault) g h = refl
in-order (faulty fault) n g h = refl

module _ (source : Source) where
  abbrev whole : List CoreClass → Judged CoreProgram
  whole ks = gives (core_program source ks)

  elaborated-is : elaborated source ≡ bind (code source) whole
  unfolding elaborated bind
  elaborated-is = in-order (judged_first source) (first_bodies source) (code_behind source) whole

  pub elaborated_gives : (ks : List CoreClass) (p : CoreProgram) → code source ≡ gives ks → p ≡ core_program source ks → elaborated source ≡ gives p
  elaborated_gives ks p e h = elaborated-is ∙ bind_gives (code source) whole ks e ∙ ap gives (sym h)

  pub elaborated_faults : (r : Refusal) → IsFault (code source) r → IsFault (elaborated source) r
  elaborated_faults r h = subst (λ (j : Judged CoreProgram). IsFault j r) (sym elaborated-is) (bind_faults (code source) whole r h)

  module _ (first : BodiesMet) (captured : ℕ → List CapturedLocal) (captures : captured ≡ captured_behind source first.met) (begins : begun source ≡ gives first) where
    behind-is : code source ≡ code_with source captured first
    behind-is = bind_gives (begun source) (code_behind source) first begins ∙ ap (λ (c : ℕ → List CapturedLocal). code_with source c first) (sym captures)

    pub code_gives : (ks : List CoreClass) → code_with source captured first ≡ gives ks → code source ≡ gives ks
    code_gives ks e = behind-is ∙ e

    pub code_faults : (r : Refusal) → IsFault (code_with source captured first) r → IsFault (code source) r
    code_faults r h = subst (λ (j : Judged (List CoreClass)). IsFault j r) (sym behind-is) h

  pub code_faults_first : (r : Refusal) → IsFault (begun source) r → IsFault (code source) r
  code_faults_first r h = bind_faults (begun source) (code_behind source) r h
