-- The labels before a group, one after the other.
use Rattle.std.proofs.Common.{◌≡◌, ℕ, ◌+◌, ◌<◌, ◌≤◌, List, [], ◌∷◌, ◌++◌, length, drop, get_or, map, refl, ap, sym, ◌∙◌, append_assoc, append-nil}
use Rattle.std.proofs.lemmas.List.{map-append}
use Rattle.std.specs.Prelude.{Option}
use Rattle.je_ast.specs.declared.stmt.Label.{Label}
use Rattle.je_ast.specs.Parts.{LabelPart, case_part, default_part, labels as label_list}
use Rattle.je_ast.specs.Spans.{span_of}
use Rattle.je_ast.specs.View.{label_view, label_views_of}
use Rattle.je_typing.specs.declared.fault.Refusal.{Refusal}
use Rattle.je_typing.specs.Answers.{IsFault}
use Rattle.je_typing.specs.Judged.{Judged, gives, bind}
use Rattle.je_typing.specs.Typed.{TypedNode}
use Rattle.body_typing.specs.FinalVariables.{Scope}
use Rattle.statement_steps.specs.Switches.{WrittenLabel, case}
use Rattle.body_typing.specs.Bodies.{Progress}
use Rattle.body_typing.specs.Switches.{LabelsMet, label_value, labels, one_more}
use Rattle.value_statements.specs.declared.labels.WrittenLabel.{WrittenLabel as Written}
use Rattle.value_statements.specs.Labels.{label_seen}
use Rattle.statement_forms.proofs.Following.{bind_behind, bind_kept}
use Rattle.statement_forms.specs.declared.walk.Walk.{Walk}
use Rattle.statement_forms.specs.Seen.{known_of, program_of}
use Rattle.type_statements.specs.way.Labelled.{behind_one, one_label}
use Rattle.type_statements.proofs.Gathering.{gather_fails, gathered, gathered_all, gathers_on}

-- behind labels that are judged
abbrev pub after_labels : List WrittenLabel → LabelsMet → LabelsMet
after_labels ls rest = record { labels = ls ++ rest.labels; progress = rest.progress }

module _ (w : Walk) (of_enum : Option ℕ) (s : Scope) where
  abbrev labels_of : Progress → List Label → Judged LabelsMet
  labels_of pr ls = labels (program_of w) (known_of w) of_enum s pr (label_views_of ls)

  abbrev judged : Progress → Label → Judged WrittenLabel
  judged pr l = one_label w of_enum s (label_view l)

  abbrev after : Progress → Label → WrittenLabel → Progress
  after pr l made = behind_one w of_enum s (label_view l) pr

  by-label : (pr : Progress) (l : LabelPart) (ls : List LabelPart) →
      labels (program_of w) (known_of w) of_enum s pr (label_list (l ∷ ls))
      ≡ bind (one_label w of_enum s l) (λ made. bind (labels (program_of w) (known_of w) of_enum s (behind_one w of_enum s l pr) (label_list ls)) (λ rest. gives (one_more made rest)))
  unfolding bind
  by-label pr (case_part e) ls =
      sym (bind_behind (label_value (program_of w) (known_of w) of_enum s of_enum e) (λ (t : TypedNode). gives (case (span_of e) t))
      (λ (made : WrittenLabel). bind (labels (program_of w) (known_of w) of_enum s (behind_one w of_enum s (case_part e) pr) (label_list ls)) (λ rest. gives (one_more made rest))))
  by-label pr (default_part word) ls = refl

  module _ (ls : List Label) where
    abbrev pub labels_left : Judged LabelsMet → List Written → Progress → ℕ → Type 0
    labels_left whole made pr i = whole ≡ gathered (after_labels (map label_seen made)) (labels_of pr (drop i ls))

    pub labels_begin : (made : List Written) (pr : Progress) → made ≡ [] → labels_left (labels_of pr ls) made pr 0
    labels_begin made pr none =
        sym (bind_kept (labels_of pr ls) (λ rest. gives (after_labels [] rest)) (λ rest. refl))
        ∙ ap (λ (done : List Written). gathered (after_labels (map label_seen done)) (labels_of pr ls)) (sym none)

    module _ (whole : Judged LabelsMet) (i : ℕ) (made : List Written) (pr : Progress) where
      abbrev added : Progress → Label → WrittenLabel → LabelsMet → LabelsMet
      added at l = one_more

      law : (at : Progress) (l : Label) (rest : List Label) →
          labels_of at (l ∷ rest) ≡ bind (judged at l) (λ e. bind (labels_of (after at l e) rest) (λ more. gives (added at l e more)))
      law at l rest = by-label at (label_view l) (map label_view rest)

      pub labels_on : (l : Label) (ready : List Written) (new : Written) (later : Progress) → i < length ls → l ≡ get_or ls i l → labels_left whole made pr i →
          judged pr l ≡ gives (label_seen new) → ready ≡ made ++ new ∷ [] → later ≡ behind_one w of_enum s (label_view l) pr → labels_left whole ready later (i + 1)
      labels_on l ready new later within is met g r n =
          let all : map label_seen ready ≡ map label_seen made ++ label_seen new ∷ [] = ap (map label_seen) r ∙ map-append label_seen made (new ∷ []) in
          gathers_on labels_of judged after added law ls i pr whole (after_labels (map label_seen made)) l within is met
          (label_seen new) later (after_labels (map label_seen ready)) g n
          (λ rest. ap (λ (cs : List WrittenLabel). record { labels = cs; progress = rest.progress })
          (sym (append_assoc (map label_seen made) (label_seen new ∷ []) rest.labels) ∙ ap (λ (cs : List WrittenLabel). cs ++ rest.labels) (sym all)))

      pub labels_fail : (l : Label) (r : Refusal) → i < length ls → l ≡ get_or ls i l → labels_left whole made pr i → IsFault (judged pr l) r → IsFault whole r
      labels_fail l r within is met f =
          gather_fails labels_of judged after added law ls i pr whole (after_labels (map label_seen made)) l within is met r f

      pub labels_end : length ls ≤ i → labels_left whole made pr i → whole ≡ gives (record { labels = map label_seen made; progress = pr })
      labels_end past met =
          gathered_all labels_of judged after added law ls i pr whole (after_labels (map label_seen made))
          (record { labels = []; progress = pr }) (record { labels = map label_seen made; progress = pr }) past refl
          (ap (λ (cs : List WrittenLabel). record { labels = cs; progress = pr }) (append-nil (map label_seen made))) met

pub ruleset label_lists = (labels_begin, labels_on, labels_fail, labels_end)
