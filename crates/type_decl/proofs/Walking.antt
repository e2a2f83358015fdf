-- Class by class in the first walk.
use Rattle.std.proofs.Common.{◌≡◌, ℕ, zero, suc, ◌+◌, ◌-◌, ◌<◌, List, [], ◌∷◌, ◌++◌, length, refl, ap, sym, ◌∙◌, arith}
use Rattle.std.specs.Prelude.{Option, map}
use Rattle.je_classes.specs.Members.{Member}
use Rattle.je_scopes.specs.Source.{Source}
use Rattle.je_typing.specs.declared.fault.Refusal.{Refusal}
use Rattle.je_typing.specs.Answers.{IsFault}
use Rattle.je_typing.specs.Judged.{Judged, gives, faulty, bind}
use Rattle.je_typing.proofs.Walks.{bind_faults, bind_gives}
use Rattle.name_typing.specs.Program.{Constant}
use Rattle.body_typing.specs.Bodies.{Met}
use Rattle.member_forms.specs.Bodies.{known_in, program_in}
use Rattle.body_places.specs.Tables.{constant_at}
use Rattle.body_scopes.specs.View.{blank_seen}
use Rattle.program_tables.specs.Known.{Known, captured_seen, known_seen, round_seen}
use Rattle.name_typing.specs.Program.{Program}
use Rattle.field_values.specs.Values.{count_at}
use Rattle.class_typing.specs.Captures.{captures}
use Rattle.class_typing.specs.ConstantFields.{is_blank}
use Rattle.class_typing.specs.Elaboration.{BodiesMet, World, bodies_from, constants_behind, first_program, first_world, hidden_count, members_of, nothing_captured, nothing_round, with_constants}
use Rattle.class_typing.specs.Members.{MembersDone, class_members}
use Rattle.class_typing.specs.Places.{round_met}
use Rattle.class_typing.specs.Programs.{CapturedLocal, plain_program}
use Rattle.type_decl.specs.declared.told.FirstWalk.{FirstWalk}
use Rattle.type_decl.specs.declared.walk.Walk.{Walk}
use Rattle.type_decl.specs.way.Seen.{IsFirst, members_at, world_of}
use Rattle.type_decl.specs.way.Walked.{walked}

-- ---- the world of the first walk

module _ (source : Source) (first : FirstWalk) (begins : IsFirst source first) (walk : Walk) (constants : Member → Option Constant)
    (program : program_in walk.bodies ≡ record (program_in first.walk.bodies) { constants = constants })
    (known : walk.bodies.known ≡ first.walk.bodies.known) (hidden : walk.hidden ≡ first.walk.hidden) where
  program-is : program_in walk.bodies ≡ with_constants source (first_program source) constants
  program-is = program ∙ (λ i. record (begins.program_is i) { constants = constants })

  pub source_stays : source ≡ (program_in walk.bodies).source
  unfolding plain_program
  source_stays = sym (λ i. (program-is i).source)

  captured-is : captured_seen walk.bodies.known.captured.now ≡ nothing_captured source
  captured-is = (λ i. captured_seen (known i).captured.now) ∙ ap captured_seen begins.captured_is

  round-is : round_seen walk.bodies.known.round.now ≡ nothing_round source
  round-is = (λ i. round_seen (known i).round.now) ∙ ap round_seen begins.round_is

  blank-is : blank_seen walk.bodies.known.blank.now ≡ is_blank (first_program source) (hidden_count source (nothing_captured source))
  blank-is = (λ i. blank_seen (known i).blank.now) ∙ begins.blank_is

  world-is : world_of walk ≡ first_world source constants
  unfolding known_seen
  world-is = λ i. record {
    program = program-is i;
    known = record {
      captures = captures (program-is i) (captured-is i) (round-is i);
      is_blank = blank-is i;
    };
  }

  hidden-is : count_at walk.hidden.now ≡ hidden_count source (nothing_captured source)
  hidden-is = (λ i. count_at (hidden i).now) ∙ begins.hidden_is

  same-members : (w : World) → w.program.source ≡ source → (met : List Met) (c : ℕ) →
      members_at w (hidden_count source (nothing_captured source)) met c ≡ members_of source w (nothing_captured source) met c
  same-members w e met c = λ i. class_members w.program w.known c (round_met (e i).sites met c) met (hidden_count source (nothing_captured source) c)

  source-is : (first_world source constants).program.source ≡ source
  unfolding plain_program
  source-is = refl

  pub first_members : (met : List Met) (c : ℕ) →
      members_at (world_of walk) (count_at walk.hidden.now) met c ≡ members_of source (first_world source constants) (nothing_captured source) met c
  first_members met c = (λ i. members_at (world-is i) (hidden-is i) met c) ∙ same-members (first_world source constants) source-is met c

-- ---- one class further

module _ (source : Source) where
  one-then : {A B C : Type 0} (m : Judged A) (f : A → B) (g : B → Judged C) → bind (bind m (λ a. gives (f a))) g ≡ bind m (λ a. g (f a))
  unfolding bind
  one-then (gives a) f g = refl
  one-then (faulty fault) f g = refl

  abbrev further : ℕ → ℕ → BodiesMet → Judged BodiesMet
  further c n b = bodies_from source b.constants b.met c n

  next-class : (b : BodiesMet) (c n : ℕ) → further c (suc n) b ≡ bind (walked source b c) (further (suc c) n)
  unfolding bind
  next-class b c n = sym (one-then (members_of source (first_world source b.constants) (nothing_captured source) b.met c)
      (λ (d : MembersDone). record { met = b.met ++ d.met; constants = constants_behind source b.met d.met b.constants }) (further (suc c) n))

  pub class_on : (whole : Judged BodiesMet) (b next : BodiesMet) (c n : ℕ) → c < n → whole ≡ bodies_from source b.constants b.met c (n - c) →
      walked source b c ≡ gives next → whole ≡ bodies_from source next.constants next.met (c + 1) (n - (c + 1))
  class_on whole b next c n l so e =
      let left : n - c ≡ suc (n - (c + 1)) = omega (arith, l) in
      let one : suc c ≡ c + 1 = omega arith in
      so
      ∙ ap (λ (k : ℕ). further c k b) left
      ∙ next-class b c (n - (c + 1))
      ∙ bind_gives (walked source b c) (further (suc c) (n - (c + 1))) next e
      ∙ ap (λ (d : ℕ). further d (n - (c + 1)) next) one

  pub class_fails : (whole : Judged BodiesMet) (b : BodiesMet) (c n : ℕ) (r : Refusal) → c < n → whole ≡ bodies_from source b.constants b.met c (n - c) →
      IsFault (walked source b c) r → IsFault whole r
  class_fails whole b c n r l so h =
      let left : n - c ≡ suc (n - (c + 1)) = omega (arith, l) in
      rw (so ∙ ap (λ (k : ℕ). further c k b) left ∙ next-class b c (n - (c + 1)))
      (bind_faults (walked source b c) (further (suc c) (n - (c + 1))) r h)

  pub all_walked : (whole : Judged BodiesMet) (b : BodiesMet) (c k : ℕ) → k ≡ 0 → whole ≡ bodies_from source b.constants b.met c k → whole ≡ gives b
  all_walked whole b c k e so = so ∙ ap (λ (n : ℕ). further c n b) e
