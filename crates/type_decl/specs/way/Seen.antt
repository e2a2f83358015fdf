-- What contracts see of the walks over all classes.
use Rattle.std.specs.Prelude.{◌≡◌, ℕ, ◌<◌, List, [], length, map}
use Rattle.body_places.specs.Tables.{constant_at}
use Rattle.body_scopes.specs.View.{blank_seen}
use Rattle.member_forms.specs.Bodies.{HasAllMethods, known_in, met_seen, program_in}
use Rattle.class_heads.specs.View.{classes_of}
use Rattle.class_methods.specs.HierarchyView.{HasAll}
use Rattle.class_places.specs.First.{AreFirst}
use Rattle.class_typing.specs.ConstantFields.{field_value, is_blank}
use Rattle.class_typing.specs.Elaboration as words
use Rattle.class_typing.specs.Elaboration.{World, first_program, hidden_count, nothing_captured}
use Rattle.class_typing.specs.Members.{MembersDone, class_members}
use Rattle.class_typing.specs.Places.{round_met}
use Rattle.class_typing.specs.Programs.{CapturedLocal, classes, with_hidden}
use Rattle.field_values.specs.Values.{count_at, value_at}
use Rattle.je_scopes.specs.BinaryNames.{number_in}
use Rattle.je_scopes.specs.Sites.{Site}
use Rattle.je_scopes.specs.Source.{Source}
use Rattle.je_typing.specs.Judged.{Judged}
use Rattle.program_tables.specs.Known.{captured_seen}
use Rattle.source_subtypes.specs.View.{heads_of}
use Rattle.body_typing.specs.Bodies.{Met}
use Rattle.type_decl.specs.declared.told.FirstWalk.{FirstWalk}
use Rattle.type_decl.specs.declared.walk.AllMet.{AllMet}
use Rattle.type_decl.specs.declared.walk.BodiesMet.{BodiesMet}
use Rattle.type_decl.specs.declared.walk.Walk.{Walk}
use Rattle.type_decl.specs.declared.code_walk.WholeWalk.{WholeWalk}

abbrev pub world_of : Walk → World
world_of w = record { program = program_in w.bodies; known = known_in w.bodies }

-- what each class captures
abbrev pub captured_of : Walk → ℕ → List CapturedLocal
captured_of w = captured_seen w.bodies.known.captured.now

-- of each class of the program, it has which of what was met first tells where the class stands
abbrev pub ArePlaced : List Site → AllMet → Type 0
ArePlaced sites a = AreFirst (length sites) (map met_seen a.met.items) a.stands

abbrev pub bodies_met_seen : BodiesMet → words.BodiesMet
bodies_met_seen b = record { met = map met_seen b.all.met.items; constants = constant_at b.constants.items }

-- the members of a class, by how many hidden fields each class has
abbrev pub members_at : World → (ℕ → ℕ) → List Met → ℕ → Judged MembersDone
members_at w hidden met c = class_members w.program w.known c (round_met w.program.source.sites met c) met (hidden c)

-- the first walk over a source goes by this
pub record IsFirst (source : Source) (first : FirstWalk) : Type 0 where
  pub methods_are : HasAllMethods first.walk.bodies
  pub program_is : program_in first.walk.bodies ≡ first_program source
  pub captured_is : first.walk.bodies.known.captured.now ≡ []
  pub round_is : first.walk.bodies.known.round.now ≡ []
  pub blank_is : blank_seen first.walk.bodies.known.blank.now
      ≡ is_blank (first_program source) (hidden_count source (nothing_captured source))
  pub hidden_is : count_at first.walk.hidden.now ≡ hidden_count source (nothing_captured source)
  pub values_are : value_at first.values.now
      ≡ field_value (first_program source) (hidden_count source (nothing_captured source))

-- the second walk over a source goes by this
pub record IsWhole (source : Source) (whole : WholeWalk) : Type 0 where
  pub methods_are : HasAllMethods whole.walk.bodies
  pub source_is : (program_in whole.walk.bodies).source ≡ source
  pub classes_are : classes_of whole.walk.bodies.calls.program.classes
      ≡ with_hidden source (captured_of whole.walk) 0 (classes source)
  pub hidden_is : count_at whole.walk.hidden.now ≡ hidden_count source (captured_of whole.walk)
  pub hierarchy_is : HasAll (heads_of whole.walk.bodies.calls.program.heads.now)
      (classes_of whole.walk.bodies.calls.program.classes) whole.hierarchy.now
  pub numbers_are : (c : ℕ) → c < length source.sites → count_at whole.numbers.now c ≡ number_in source c
