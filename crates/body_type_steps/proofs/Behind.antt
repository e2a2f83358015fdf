-- The type of a class by what its name means: alone, or behind its arguments.
use Rattle.std.proofs.Common.{◌≡◌, ℕ, List, refl, sym, ap, ◌∙◌}
use Rattle.std.specs.Prelude.{Bool}
use Rattle.std.specs.List.{list_all}
use Rattle.je_base.specs.declared.span.Span.{Span}
use Rattle.je_ast.specs.Types.{QualifiedName, TypeNames, class_type, no_types}
use Rattle.je_scopes.specs.Looks.{Look, waits, nothing, a_class, a_variable, unclear}
use Rattle.je_scopes.specs.Scope.{is_accessible}
use Rattle.je_scopes.specs.SourceTypes.{SourceType, SourceTypes, count, no_source_types}
use Rattle.source_types.specs.Heads.{ClassHead}
use Rattle.header_typing.specs.WrittenTypes.{bounded, is_in_limit}
use Rattle.je_typing.specs.declared.fault.Refusal.{Refusal}
use Rattle.je_typing.specs.declared.fault.TypeRule.TheVariants.{BadArray, NotAccessible, UnknownName}
use Rattle.je_typing.specs.Answers.{IsFault}
use Rattle.je_typing.specs.Judged.{Judged, gives, bind, check}
use Rattle.je_typing.proofs.Walks.{bind_gives, bind_faults}
use Rattle.written_types.proofs.Walking.{fault_of}
use Rattle.name_typing.specs.Program.{Frame, Program}
use Rattle.body_types.specs.BodyTypes.{bare_type, classes_at, is_type, look_at, may_be_named, takes, type_of_look}
use Rattle.body_type_steps.specs.way.Checked.{accessible_sized, behind_arguments}

-- the bounds of its arguments don't depend on its dimensions
same-bounds : (p : Program) (here : Frame) (heads : List ClassHead) (look : Look) (ts : SourceTypes) (m n : ℕ) (args : TypeNames) →
    bounded heads (type_of_look p here look ts m) args ≡ bounded heads (type_of_look p here look ts n) args
unfolding bounded
same-bounds p here heads waits ts m n args = refl
same-bounds p here heads nothing ts m n args = refl
same-bounds p here heads (a_class c) ts m n args = refl
same-bounds p here heads (a_variable c at) ts m n args = refl
same-bounds p here heads unclear ts m n args = refl

module _ (p : Program) (here : Frame) (q : QualifiedName) (dims : ℕ) (span : Span) (look : Look) (means : look ≡ look_at p here q.parts) where
  abbrev last : SourceTypes → Judged SourceType
  last ts = accessible_sized (may_be_named p here q.parts) q.span (type_of_look p here look ts) dims span

  -- the last steps by what was looked up
  pub last_by : (ts : SourceTypes) (named : List ℕ) (shows : ℕ → SourceType) → named ≡ classes_at p here q.parts → shows dims ≡ type_of_look p here look ts dims →
      last ts ≡ accessible_sized (list_all (is_accessible p.source here.class) named) q.span shows dims span
  last_by ts named shows names is =
      λ i. bind (check NotAccessible q.span (list_all (is_accessible p.source here.class) (sym names i)))
      (λ (d : Unit {0}). bind (check BadArray span (is_in_limit dims)) (λ (e : Unit {0}). gives (sym is i)))

  -- ---- a name alone

  module _ (fits : Bool) (asked : fits ≡ is_type p here look) where
    bare-by-look : bare_type p here (class_type q no_types dims span) ≡ bind (check UnknownName q.span fits) (λ (d : Unit {0}). last no_source_types)
    unfolding bare_type
    bare-by-look =
        (λ i. bind (check UnknownName q.span (is_type p here (sym means i))) (λ (d : Unit {0}). accessible_sized (may_be_named p here q.parts) q.span (type_of_look p here (sym means i) no_source_types) dims span))
        ∙ ap (λ (b : Bool). bind (check UnknownName q.span b) (λ (d : Unit {0}). last no_source_types)) (sym asked)

    pub is_no_type : (r : Refusal) → IsFault (check UnknownName q.span fits) r → IsFault (bare_type p here (class_type q no_types dims span)) r
    is_no_type r f = fault_of bare-by-look (bind_faults (check UnknownName q.span fits) (λ (d : Unit {0}). last no_source_types) r f)

    pub is_bare_type : (done : Unit {0}) → check UnknownName q.span fits ≡ gives done → bare_type p here (class_type q no_types dims span) ≡ last no_source_types
    is_bare_type done g = bare-by-look ∙ bind_gives (check UnknownName q.span fits) (λ (d : Unit {0}). last no_source_types) done g

  -- ---- with its arguments

  module _ (args : TypeNames) (ts : SourceTypes) (k : ℕ) (fits : Bool) (counts : k ≡ count args) (asked : fits ≡ takes p here look k) where
    abbrev flat : SourceType
    flat = type_of_look p here look ts 0

    by-look : behind_arguments p here q args dims span ts ≡ bind (check UnknownName q.span fits) (λ (d : Unit {0}). bind (bounded p.heads flat args) (λ (e : Unit {0}). last ts))
    by-look =
        (λ i. bind (check UnknownName q.span (takes p here (sym means i) (sym counts i))) (λ (d : Unit {0}). bind (bounded p.heads (type_of_look p here (sym means i) ts dims) args)
        (λ (e : Unit {0}). accessible_sized (may_be_named p here q.parts) q.span (type_of_look p here (sym means i) ts) dims span)))
        ∙ (λ i. bind (check UnknownName q.span (sym asked i)) (λ (d : Unit {0}). bind (same-bounds p here p.heads look ts dims 0 args i) (λ (e : Unit {0}). last ts)))

    pub takes_others : (r : Refusal) → IsFault (check UnknownName q.span fits) r → IsFault (behind_arguments p here q args dims span ts) r
    takes_others r f = fault_of by-look (bind_faults (check UnknownName q.span fits) (λ (d : Unit {0}). bind (bounded p.heads flat args) (λ (e : Unit {0}). last ts)) r f)

    module _ (done : Unit {0}) (taken : check UnknownName q.span fits ≡ gives done) (meant : SourceType) (is : meant ≡ flat) where
      taken-by : behind_arguments p here q args dims span ts ≡ bind (bounded p.heads meant args) (λ (e : Unit {0}). last ts)
      taken-by =
          by-look ∙ bind_gives (check UnknownName q.span fits) (λ (d : Unit {0}). bind (bounded p.heads flat args) (λ (e : Unit {0}). last ts)) done taken
          ∙ ap (λ (t : SourceType). bind (bounded p.heads t args) (λ (e : Unit {0}). last ts)) (sym is)

      pub out_of_bounds : (r : Refusal) → IsFault (bounded p.heads meant args) r → IsFault (behind_arguments p here q args dims span ts) r
      out_of_bounds r f = fault_of taken-by (bind_faults (bounded p.heads meant args) (λ (e : Unit {0}). last ts) r f)

      pub in_bounds : (within : Unit {0}) → bounded p.heads meant args ≡ gives within → behind_arguments p here q args dims span ts ≡ last ts
      in_bounds within b = taken-by ∙ bind_gives (bounded p.heads meant args) (λ (e : Unit {0}). last ts) within b
