-- What the second half goes by.
use Rattle.std.proofs.Common.{◌≡◌, ℕ, ◌<◌, List, length, refl, ap, sym, subst, ◌∙◌}
use Rattle.std.specs.Prelude.{Option}
use Rattle.je_classes.specs.Members.{Member}
use Rattle.je_core.specs.Core.{CoreClass}
use Rattle.je_scopes.specs.BinaryNames.{number_in}
use Rattle.je_scopes.specs.Source.{Source}
use Rattle.je_typing.specs.Judged.{Judged}
use Rattle.name_typing.specs.Program.{Constant}
use Rattle.body_typing.specs.Bodies.{Met}
use Rattle.declarations.specs.Declarations.{DeclaredClass}
use Rattle.source_types.specs.Heads.{ClassHead}
use Rattle.body_scopes.specs.View.{blank_seen}
use Rattle.member_forms.specs.Bodies.{HasAllMethods, program_in}
use Rattle.class_heads.specs.View.{classes_of}
use Rattle.class_methods.specs.HierarchyView.{HasAll}
use Rattle.class_methods.specs.declared.hierarchy.Hierarchy.{Hierarchy}
use Rattle.source_subtypes.specs.View.{heads_of}
use Rattle.field_values.specs.Values.{count_at}
use Rattle.program_tables.specs.Known.{known_seen, round_seen}
use Rattle.class_typing.specs.Captures.{captures}
use Rattle.class_typing.specs.ConstantFields.{constants_shifted, is_blank}
use Rattle.class_typing.specs.Elaboration.{BodiesMet, captured_count, core_classes, guest_count, hidden_count, whole_program, whole_world}
use Rattle.class_typing.specs.Places.{round_met}
use Rattle.class_typing.specs.Programs.{CapturedLocal, classes, heads, library_count, plain_program, with_hidden}
use Rattle.type_decl.specs.declared.walk.Walk.{Walk}
use Rattle.type_decl.specs.declared.code_walk.WholeWalk.{WholeWalk}
use Rattle.type_decl.specs.way.Seen.{IsWhole, captured_of, world_of}
use Rattle.type_decl.specs.way.Halves.{code_with}
use Rattle.type_decl.proofs.Beginning.{classes_is, heads_is}

pub whole_source : (source : Source) (captured : ℕ → List CapturedLocal) (first : BodiesMet) → (whole_program source captured first).source ≡ source
unfolding plain_program
whole_source source captured first = refl

module _ (source : Source) (captured : ℕ → List CapturedLocal) (constants : Member → Option Constant) (w : Walk)
    (program : program_in w.bodies ≡ record (plain_program source captured) { constants = constants })
    (captures-is : captured_of w ≡ captured) where
  program-source : (program_in w.bodies).source ≡ source
  unfolding plain_program
  program-source = λ i. (program i).source

  -- ---- the classes

  pub whole_is : (s : Source) → s ≡ source → (whole : WholeWalk) → whole.walk ≡ w → HasAllMethods w.bodies → count_at w.hidden.now ≡ hidden_count source captured →
      (hs : List ClassHead) (ds : List DeclaredClass) → HasAll hs ds whole.hierarchy.now → hs ≡ heads source → ds ≡ with_hidden source captured 0 (classes source) →
      ((c : ℕ) → c < length s.sites → count_at whole.numbers.now c ≡ number_in s c) → IsWhole s whole
  whole_is s o whole e methods hidden hs ds all h d numbers = record {
    methods_are = subst (λ (v : Walk). HasAllMethods v.bodies) (sym e) methods;
    source_is = (λ i. (program_in (e i).bodies).source) ∙ program-source ∙ sym o;
    classes_are = (λ i. classes_of (e i).bodies.calls.program.classes) ∙ classes_is source captured constants w.bodies.calls.program program
        ∙ (λ i. with_hidden (sym o i) (sym captures-is i) 0 (classes (sym o i))) ∙ (λ i. with_hidden s (captured_of (sym e i)) 0 (classes s));
    hidden_is = (λ i. count_at (e i).hidden.now) ∙ hidden ∙ (λ i. hidden_count (sym o i) (sym captures-is i)) ∙ (λ i. hidden_count s (captured_of (sym e i)));
    hierarchy_is = subst (λ (v : Walk). HasAll (heads_of v.bodies.calls.program.heads.now) (classes_of v.bodies.calls.program.classes) whole.hierarchy.now) (sym e)
        (subst (λ (es : List DeclaredClass). HasAll (heads_of w.bodies.calls.program.heads.now) es whole.hierarchy.now)
        (d ∙ sym (classes_is source captured constants w.bodies.calls.program program))
        (subst (λ (ks : List ClassHead). HasAll ks ds whole.hierarchy.now) (h ∙ sym (heads_is source captured constants w.bodies.calls.program program)) all));
    numbers_are = numbers;
  }

  -- ---- the world

  module _ (first : BodiesMet) (round-is : round_seen w.bodies.known.round.now ≡ round_met source.sites first.met)
      (blank-is : blank_seen w.bodies.known.blank.now ≡ is_blank (whole_program source captured first) (hidden_count source captured))
      (told : constants_shifted (captured_count source captured) first.constants ≡ constants) where
    program-is : program_in w.bodies ≡ whole_program source captured first
    program-is = program ∙ (λ i. record (plain_program source captured) { constants = sym told i })

    world-is : world_of w ≡ whole_world source captured first
    unfolding known_seen
    world-is = λ i. record {
      program = program-is i;
      known = record {
        captures = captures (program-is i) (captures-is i) (round-is i);
        is_blank = blank-is i;
      };
    }

    pub code_is : (s : Source) (met : List Met) (library : ℕ) → s ≡ source → first.met ≡ met → library ≡ library_count s →
        core_classes s (world_of w) (captured_of w) met library (guest_count s) ≡ code_with source captured first
    code_is s met library e m l =
        (λ i. core_classes s (world_of w) (captured_of w) met (l i) (guest_count s))
        ∙ (λ i. core_classes (e i) (world-is i) (captures-is i) (sym m i) (library_count (e i)) (guest_count (e i)))
