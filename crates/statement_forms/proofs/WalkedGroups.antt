-- The groups of a `switch`, one after the other.
use Rattle.std.proofs.Common.{◌≡◌, List, [], ◌∷◌, ◌++◌, refl, sym, ap, ◌∙◌, subst}
use Rattle.std.proofs.lemmas.List.{append_assoc, append-nil}
use Rattle.je_core.specs.Core.{CoreGroup, CoreGroups, CoreLabel, core_groups, group_list_of, more_groups, no_groups}
use Rattle.je_scopes.specs.SourceTypes.{SourceType}
use Rattle.source_types.specs.Heads.{ClassHead}
use Rattle.je_typing.specs.declared.fault.Refusal.{Refusal}
use Rattle.je_typing.specs.Answers.{IsFault}
use Rattle.je_typing.specs.Judged.{Judged, bind, gives}
use Rattle.je_typing.proofs.Walks.{bind_faults, bind_gives}
use Rattle.statement_steps.specs.Switches.{LabelsDone, Met, WrittenLabel, labels_from, none_met}
use Rattle.body_typing.specs.Switches.{WrittenGroup, core_group, groups_from}
use Rattle.value_statements.specs.declared.met.LabelsMet.{LabelsMet}
use Rattle.value_statements.specs.Labels.{FailsAt, GivesLabels, Knows, behind}
use Rattle.statement_forms.proofs.Following.{bind_behind, bind_kept}

same-groups : (gs : CoreGroups) → core_groups (group_list_of gs) ≡ gs
same-groups no_groups = refl
same-groups (more_groups g gs) = ap (more_groups g) (same-groups gs)

-- what is made so far, and the rest
abbrev joined : List CoreGroup → CoreGroups → Judged CoreGroups
joined made rest = gives (core_groups (made ++ group_list_of rest))

module _ (heads : List ClassHead) (t : SourceType) where
  abbrev in_front : WrittenGroup → List WrittenGroup → LabelsDone → Judged CoreGroups
  in_front g gs done = bind (groups_from heads t done.met gs) (λ (rest : CoreGroups). gives (more_groups (core_group done g) rest))

  -- so many groups are made, and these are left
  pub record Grouping (all left : List WrittenGroup) (made : List CoreGroup) (m : LabelsMet) : Type 0 where
    pub after : Met
    pub rest : bind (groups_from heads t after left) (joined made) ≡ groups_from heads t none_met all
    pub known : Knows m after

  pub none_made : (all : List WrittenGroup) (m : LabelsMet) → Knows m none_met → Grouping all all [] m
  none_made all m k = record {
    after = none_met;
    rest = bind_kept (groups_from heads t none_met all) (joined []) (λ (rest : CoreGroups). ap gives (same-groups rest));
    known = k;
  }

  module _ (all gs : List WrittenGroup) (g : WrittenGroup) (made : List CoreGroup) (m : LabelsMet) (so_far : Grouping all (g ∷ gs) made m) where
    pub group_made : (labels : List CoreLabel) (later : LabelsMet) → GivesLabels heads t so_far.after g.labels labels later →
        Grouping all gs (made ++ core_group (record { labels = labels; met = so_far.after }) g ∷ []) later
    unfolding bind
    group_made labels later given =
        let done : LabelsDone = record { labels = labels; met = given.after } in
        let x = core_group done g in
        let rest = groups_from heads t given.after gs in record {
          after = given.after;
          rest = (λ i. bind rest (λ (rs : CoreGroups). gives (core_groups (append_assoc made (x ∷ []) (group_list_of rs) i))))
              ∙ sym (bind_behind rest (λ (rs : CoreGroups). gives (more_groups x rs)) (joined made))
              ∙ ap (λ (j : Judged CoreGroups). bind j (joined made))
              (sym (bind_gives (labels_from heads t (behind so_far.after) g.labels) (in_front g gs) done given.comes))
              ∙ so_far.rest;
          known = given.known;
        }

    pub group_fails : (labels : List WrittenLabel) (r : Refusal) → labels ≡ g.labels → FailsAt heads t so_far.after labels r → IsFault (groups_from heads t none_met all) r
    group_fails labels r is h =
        subst (λ (j : Judged CoreGroups). IsFault j r) so_far.rest
        (bind_faults (groups_from heads t so_far.after (g ∷ gs)) (joined made) r
        (bind_faults (labels_from heads t (behind so_far.after) g.labels) (in_front g gs) r (subst (λ (ls : List WrittenLabel). FailsAt heads t so_far.after ls r) is h)))

  pub groups_end : (all : List WrittenGroup) (made : List CoreGroup) (m : LabelsMet) → Grouping all [] made m →
      groups_from heads t none_met all ≡ gives (core_groups made)
  unfolding bind
  groups_end all made m so_far = sym so_far.rest ∙ ap (λ (gs : List CoreGroup). gives (core_groups gs)) (append-nil made)
