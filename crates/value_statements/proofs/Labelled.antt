-- Labels of a group, one after the other.
use Rattle.std.proofs.Common.{◌≡◌, ℕ, suc, ◌+◌, ◌<◌, ◌≤◌, List, [], ◌∷◌, ◌++◌, length, drop, get_or, map, refl, ap, sym, subst, ◌∙◌, add-one, drop-cons}
use Rattle.std.specs.Prelude.{ℤ, Bool, not, Some, None}
use Rattle.std.specs.List.{list_any}
use Rattle.std.proofs.Math.ListN.{drop_of_length-le}
use Rattle.je_arith.specs.Comparison.{is_same}
use Rattle.je_base.specs.declared.span.Span.{Span}
use Rattle.je_core.specs.Core.{CoreLabel}
use Rattle.je_scopes.specs.SourceTypes.{SourceType}
use Rattle.source_types.specs.Heads.{ClassHead}
use Rattle.je_typing.specs.declared.fault.Refusal.{Refusal}
use Rattle.je_typing.specs.declared.fault.TypeRule.TheVariants.{BadCase}
use Rattle.je_typing.specs.Answers.{IsFault}
use Rattle.je_typing.specs.Constants.{uses_of}
use Rattle.je_typing.specs.Judged.{Judged, gives, bind, check, need}
use Rattle.je_typing.specs.Typed.{TypedNode}
use Rattle.je_typing.proofs.Walks.{bind_gives, bind_faults, fault_later}
use Rattle.statement_steps.specs.Switches.{LabelsDone, Met, WrittenLabel, case, default, label_number, labels_from, met_value, next_label, with_label}
use Rattle.value_statements.specs.declared.labels.WrittenLabel.{WrittenLabel as Written}
use Rattle.value_statements.specs.declared.met.LabelsMet.{LabelsMet}
use Rattle.value_statements.specs.Labels.{GivesLabels, Knows, behind, label_seen}

module _ (heads : List ClassHead) (t : SourceType) (met : Met) (span : Span) where
  -- ---- `case`

  abbrev case_made : TypedNode → ℤ → CoreLabel
  case_made from n = record { value = Some n; uses = uses_of from.node; span = span }

  abbrev after_number : TypedNode → ℤ → Judged CoreLabel
  after_number from n = bind (check BadCase span (not (list_any (is_same n) met.numbers))) (λ (done : Unit {0}). gives (case_made from n))

  pub case_gives : (from : TypedNode) (n : ℤ) (b : Bool) (done : Unit {0}) → need BadCase span (label_number heads t from) ≡ gives n → b ≡ list_any (is_same n) met.numbers →
      check BadCase span (not b) ≡ gives done → next_label heads t met (case span from) ≡ gives (case_made from n)
  unfolding next_label
  case_gives from n b done e is f =
      bind_gives (need BadCase span (label_number heads t from)) (after_number from) n e
      ∙ bind_gives (check BadCase span (not (list_any (is_same n) met.numbers))) (λ (d : Unit {0}). gives (case_made from n)) done (ap (λ (m : Bool). check BadCase span (not m)) (sym is) ∙ f)

  pub case_without_number : (from : TypedNode) (r : Refusal) → IsFault (need BadCase span (label_number heads t from)) r → IsFault (next_label heads t met (case span from)) r
  unfolding next_label
  case_without_number from r f = bind_faults (need BadCase span (label_number heads t from)) (after_number from) r f

  pub case_twice : (from : TypedNode) (n : ℤ) (b : Bool) (r : Refusal) → need BadCase span (label_number heads t from) ≡ gives n → b ≡ list_any (is_same n) met.numbers →
      IsFault (check BadCase span (not b)) r → IsFault (next_label heads t met (case span from)) r
  unfolding next_label
  case_twice from n b r e is f =
      fault_later (need BadCase span (label_number heads t from)) (after_number from) n r e
      (bind_faults (check BadCase span (not (list_any (is_same n) met.numbers))) (λ (d : Unit {0}). gives (case_made from n)) r
      (subst (λ (m : Bool). IsFault (check BadCase span (not m)) r) is f))

  -- ---- `default`

  abbrev default_made : CoreLabel
  default_made = record { value = None; uses = []; span = span }

  pub default_gives : (b : Bool) (done : Unit {0}) → b ≡ met.has_default → check BadCase span (not b) ≡ gives done → next_label heads t met (default span) ≡ gives default_made
  unfolding next_label
  default_gives b done is f =
      bind_gives (check BadCase span (not met.has_default)) (λ (d : Unit {0}). gives default_made) done (ap (λ (m : Bool). check BadCase span (not m)) (sym is) ∙ f)

  pub default_twice : (b : Bool) (r : Refusal) → b ≡ met.has_default → IsFault (check BadCase span (not b)) r → IsFault (next_label heads t met (default span)) r
  unfolding next_label
  default_twice b r is f =
      bind_faults (check BadCase span (not met.has_default)) (λ (d : Unit {0}). gives default_made) r (subst (λ (m : Bool). IsFault (check BadCase span (not m)) r) is f)

-- ---- the labels of a group

-- so many labels are made, and these are left
pub record Labelling (heads : List ClassHead) (t : SourceType) (before : Met) (all left : List WrittenLabel) (made : List CoreLabel) (m : LabelsMet) : Type 0 where
  pub after : Met
  pub rest : labels_from heads t (behind before) all ≡ labels_from heads t (record { labels = made; met = after }) left
  pub known : Knows m after

pub none_made : (heads : List ClassHead) (t : SourceType) (before : Met) (all : List WrittenLabel) (m : LabelsMet) → Knows m before → Labelling heads t before all all [] m
none_made heads t before all m k = record { after = before; rest = refl; known = k }

module _ (heads : List ClassHead) (t : SourceType) (before : Met) (ls : List Written) (i : ℕ) (made : List CoreLabel) (m : LabelsMet)
    (met : Labelling heads t before (map label_seen ls) (map label_seen (drop i ls)) made m) where
  abbrev done : LabelsDone
  done = record { labels = made; met = met.after }

  next_is : (l : Written) → i < length ls → l ≡ get_or ls i l → labels_from heads t (behind before) (map label_seen ls)
      ≡ bind (next_label heads t met.after (label_seen l)) (λ (label : CoreLabel). labels_from heads t (with_label done label) (map label_seen (drop (i + 1) ls)))
  next_is l within is =
      let left : drop i ls ≡ l ∷ drop (i + 1) ls = rw (add-one, drop-cons ls i l) (ap (λ (k : Written). k ∷ drop (suc i) ls) (sym is)) in
      met.rest ∙ ap (λ (ks : List Written). labels_from heads t done (map label_seen ks)) left

  pub label_on : (l : Written) (label : CoreLabel) (later : LabelsMet) → i < length ls → l ≡ get_or ls i l → next_label heads t met.after (label_seen l) ≡ gives label → Knows later (met_value met.after label.value) →
      Labelling heads t before (map label_seen ls) (map label_seen (drop (i + 1) ls)) (made ++ label ∷ []) later
  label_on l label later within is g k = record {
    after = met_value met.after label.value;
    rest = next_is l within is
        ∙ bind_gives (next_label heads t met.after (label_seen l)) (λ (n : CoreLabel). labels_from heads t (with_label done n) (map label_seen (drop (i + 1) ls))) label g;
    known = k;
  }

  pub label_fails : (l : Written) (r : Refusal) → i < length ls → l ≡ get_or ls i l → IsFault (next_label heads t met.after (label_seen l)) r → IsFault (labels_from heads t (behind before) (map label_seen ls)) r
  label_fails l r within is f =
      subst (λ (j : Judged LabelsDone). IsFault j r) (sym (next_is l within is))
      (bind_faults (next_label heads t met.after (label_seen l)) (λ (n : CoreLabel). labels_from heads t (with_label done n) (map label_seen (drop (i + 1) ls))) r f)

  pub labels_end : length ls ≤ i → GivesLabels heads t before (map label_seen ls) made m
  labels_end past = record {
    after = met.after;
    comes = met.rest ∙ ap (λ (ks : List Written). labels_from heads t done (map label_seen ks)) (drop_of_length-le ls past);
    known = met.known;
  }
