-- The groups of a `switch`, one after the other.
use Rattle.std.proofs.Common.{◌≡◌, ℕ, ◌+◌, ◌<◌, ◌≤◌, List, [], ◌∷◌, ◌++◌, length, drop, get_or, map, refl, ap, sym, subst, ◌∙◌, append_assoc, append-nil}
use Rattle.std.specs.Prelude.{Option}
use Rattle.je_ast.specs.declared.stmt.Group.{Group}
use Rattle.je_ast.specs.Parts.{GroupPart, groups as group_list}
use Rattle.je_ast.specs.View.{group_view, group_views_of}
use Rattle.je_fitting.specs.Statements.{Targets}
use Rattle.je_typing.specs.declared.fault.Refusal.{Refusal}
use Rattle.je_typing.specs.Answers.{IsFault}
use Rattle.je_typing.specs.Judged.{Judged, gives, bind}
use Rattle.je_typing.proofs.Walks.{bind_faults, bind_gives, fault_later}
use Rattle.body_typing.specs.FinalVariables.{Scope}
use Rattle.body_typing.specs.Bodies.{Done, Progress, with_classes_of}
use Rattle.body_typing.specs.Statements.{GroupsDone, groups}
use Rattle.body_typing.specs.Switches.{LabelsMet, WrittenGroup, labels}
use Rattle.body_scopes.specs.Extending.{Extends}
use Rattle.statement_forms.proofs.Following.{bind_behind, bind_kept}
use Rattle.statement_forms.specs.declared.walk.Walk.{Walk}
use Rattle.statement_forms.specs.Seen.{known_of, program_of, returning_of}
use Rattle.type_statements.proofs.Gathered.{At}
use Rattle.type_statements.proofs.Gathering.{gather_fails, gathered, gathered_all, gathers_on}
use Rattle.type_statements.specs.Walk.{statements_by}
use Rattle.type_statements.specs.way.Grouped.{GroupDone, grouped, one_group}

-- one group whose statements are walked
pub group_is : (w : Walk) (j : Targets) (of_enum : Option ℕ) (s : Scope) (pr : Progress) (g : GroupPart) (l : LabelsMet) (d : Done) (u : Scope)
    (made : WrittenGroup) (numbers : List ℕ) →
    labels (program_of w) (known_of w) of_enum s pr g.labels ≡ gives l → statements_by w j s l.progress g.stmts ≡ gives d → u ≡ with_classes_of s d.scope →
    made ≡ record { labels = l.labels; parts = d.code } → numbers ≡ d.numbers →
    one_group w j of_enum s pr g ≡ gives (record { group = made; numbers = numbers; scope = u; progress = d.progress })
group_is w j of_enum s pr g l d u made numbers e h m is n =
    bind_gives (labels (program_of w) (known_of w) of_enum s pr g.labels) _ l e
    ∙ bind_gives (statements_by w j s l.progress g.stmts) _ d h
    ∙ (λ i. gives (record { group = sym is i; numbers = sym n i; scope = sym m i; progress = d.progress }))

pub group_fails : (w : Walk) (j : Targets) (of_enum : Option ℕ) (s : Scope) (pr : Progress) (g : GroupPart) (l : LabelsMet) (r : Refusal) →
    labels (program_of w) (known_of w) of_enum s pr g.labels ≡ gives l → IsFault (statements_by w j s l.progress g.stmts) r →
    IsFault (one_group w j of_enum s pr g) r
group_fails w j of_enum s pr g l r e h =
    fault_later (labels (program_of w) (known_of w) of_enum s pr g.labels) _ l r e (bind_faults (statements_by w j s l.progress g.stmts) _ r h)

-- a scope whose local classes of one group are left
pub group_extends : (s after u : Scope) → Extends s after → u ≡ with_classes_of s after → Extends s u
group_extends s after u e is = subst (Extends s) (sym is) (record { locals = e.locals; local_classes = ([], refl); given = e.given; kept = e.kept })

-- behind groups whose statements are walked
abbrev pub after_groups : GroupsDone → GroupsDone → GroupsDone
after_groups done rest = record { groups = done.groups ++ rest.groups; numbers = done.numbers ++ rest.numbers; progress = rest.progress }

-- and behind one more
abbrev pub with_group : GroupsDone → GroupDone → GroupsDone
with_group done g = record { groups = done.groups ++ g.group ∷ []; numbers = done.numbers ++ g.numbers; progress = g.progress }

module _ (w : Walk) (j : Targets) (of_enum : Option ℕ) where
  abbrev groups_from : At → List GroupPart → Judged GroupsDone
  groups_from at gs = groups (program_of w) (known_of w) (returning_of w) j of_enum at.scope at.progress (group_list gs)

  abbrev groups_of : At → List Group → Judged GroupsDone
  groups_of at gs = groups (program_of w) (known_of w) (returning_of w) j of_enum at.scope at.progress (group_views_of gs)

  abbrev judged : At → Group → Judged GroupDone
  judged at g = one_group w j of_enum at.scope at.progress (group_view g)

  abbrev after : At → Group → GroupDone → At
  after at g d = record { scope = d.scope; progress = d.progress }

  abbrev in_front : GroupDone → GroupsDone → GroupsDone
  in_front d rest = record { groups = d.group ∷ rest.groups; numbers = d.numbers ++ rest.numbers; progress = rest.progress }

  by-group : (at : At) (g : GroupPart) (gs : List GroupPart) →
      groups_from at (g ∷ gs)
      ≡ bind (one_group w j of_enum at.scope at.progress g) (λ d. bind (groups_from (record { scope = d.scope; progress = d.progress }) gs) (λ rest. gives (in_front d rest)))
  unfolding bind
  by-group at g gs =
      let rest_of : GroupDone → Judged GroupsDone =
      λ (d : GroupDone). bind (groups_from (record { scope = d.scope; progress = d.progress }) gs) (λ rest. gives (in_front d rest)) in
      let first = labels (program_of w) (known_of w) of_enum at.scope at.progress g.labels in
      let block : LabelsMet → Judged Done = λ (l : LabelsMet). statements_by w j at.scope l.progress g.stmts in
      sym (bind_behind first (λ (l : LabelsMet). bind (block l) (λ (d : Done). gives (grouped at.scope l d))) rest_of
      ∙ (λ i. bind first (λ (l : LabelsMet). bind_behind (block l) (λ (d : Done). gives (grouped at.scope l d)) rest_of i)))

  module _ (gs : List Group) where
    abbrev pub groups_left : Judged GroupsDone → GroupsDone → Scope → ℕ → Type 0
    groups_left whole done s i = whole ≡ gathered (after_groups done) (groups_of (record { scope = s; progress = done.progress }) (drop i gs))

    pub groups_begin : (done : GroupsDone) (s : Scope) → done.groups ≡ [] → done.numbers ≡ [] →
        groups_left (groups_of (record { scope = s; progress = done.progress }) gs) done s 0
    groups_begin done s g n =
        let all = groups_of (record { scope = s; progress = done.progress }) gs in
        sym (bind_kept all (λ rest. gives (after_groups (record { groups = []; numbers = []; progress = done.progress }) rest)) (λ rest. refl))
        ∙ (λ i. gathered (after_groups (record { groups = sym g i; numbers = sym n i; progress = done.progress })) all)

    module _ (whole : Judged GroupsDone) (i : ℕ) (done : GroupsDone) (s : Scope) where
      abbrev added : At → Group → GroupDone → GroupsDone → GroupsDone
      added at g d = in_front d

      law : (at : At) (g : Group) (rest : List Group) →
          groups_of at (g ∷ rest) ≡ bind (judged at g) (λ d. bind (groups_of (after at g d) rest) (λ more. gives (added at g d more)))
      law at g rest = by-group at (group_view g) (map group_view rest)

      pub groups_on : (g : Group) (ready : GroupsDone) (d : GroupDone) (t : Scope) → i < length gs → g ≡ get_or gs i g → groups_left whole done s i →
          one_group w j of_enum s done.progress (group_view g) ≡ gives d → ready ≡ with_group done d → t ≡ d.scope → groups_left whole ready t (i + 1)
      groups_on g ready d t within is met e r h =
          let at : At = record { scope = s; progress = done.progress } in
          gathers_on groups_of judged after added law gs i at whole (after_groups done) g within is met
          d (record { scope = t; progress = ready.progress }) (after_groups ready) e
          (λ k. record { scope = h k; progress = (r k).progress })
          (λ rest. (λ k. record {
            groups = sym (append_assoc done.groups (d.group ∷ []) rest.groups) k;
            numbers = sym (append_assoc done.numbers d.numbers rest.numbers) k;
            progress = rest.progress;
          }) ∙ ap (λ (so_far : GroupsDone). after_groups so_far rest) (sym r))

      pub groups_fail : (g : Group) (r : Refusal) → i < length gs → g ≡ get_or gs i g → groups_left whole done s i →
          IsFault (one_group w j of_enum s done.progress (group_view g)) r → IsFault whole r
      groups_fail g r within is met f =
          gather_fails groups_of judged after added law gs i (record { scope = s; progress = done.progress }) whole (after_groups done) g within is met r f

      pub groups_end : length gs ≤ i → groups_left whole done s i → whole ≡ gives done
      groups_end past met =
          gathered_all groups_of judged after added law gs i (record { scope = s; progress = done.progress }) whole (after_groups done)
          (record { groups = []; numbers = []; progress = done.progress }) done past refl
          (λ k. record { groups = append-nil done.groups k; numbers = append-nil done.numbers k; progress = done.progress }) met
