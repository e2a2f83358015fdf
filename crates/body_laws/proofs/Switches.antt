-- `switch` over numbers and enums fits (JLS 14.11).
use Rattle.std.proofs.Common.{◌≡◌, ℕ, zero, suc, List, [], ◌∷◌, Option, Some, None, refl, sym, ap, ◌∙◌, subst}
use Rattle.std.specs.Prelude.{true, length, ◌<◌, if◌then◌else◌}
use Rattle.std.specs.List.{All}
use Rattle.std.proofs.lemmas.List.Elements.{All-append, All-cons, All-nil}
use Rattle.std.proofs.lemmas.Option.{none-some}
use Rattle.je_base.specs.declared.span.Span.{Span}
use Rattle.je_core.specs.declared.types.Base.TheVariants as base
use Rattle.je_core.specs.declared.types.Ty.{Ty}
use Rattle.je_core.specs.Core.{CoreGroups, CoreLabel, CoreProgram, CoreStmt, core_stmts, stmt, ty_of}
use Rattle.je_core.specs.Core as core
use Rattle.je_ast.specs.Spans as written
use Rattle.je_ast.specs.Trees.{Expression, Labels}
use Rattle.je_ast.specs.Trees as tree
use Rattle.je_classes.specs.Subtypes.{class_type, is_subtype}
use Rattle.je_classes.proofs.Lists.{bool_cases}
use Rattle.je_fitting.specs.Expressions.{Body, are_there}
use Rattle.je_fitting.specs.Statements as fits
use Rattle.je_fitting.specs.Statements.{Targets, in_switch}
use Rattle.je_fitting.specs.Types.{of}
use Rattle.je_fitting.proofs.Booleans.{two}
use Rattle.je_scopes.specs.SourceTypes.{SourceType, SourceTypes, of_class, of_variable, plain}
use Rattle.plain_programs.specs.Nodes.{every, every_expression, throughout_all, throughout_groups}
use Rattle.source_types.specs.Erasure.{class_numbered, erased}
use Rattle.source_types.specs.Heads.{ClassHead, head_at}
use Rattle.je_typing.specs.declared.fault.TypeRule.TheVariants.{BadCase}
use Rattle.je_typing.specs.Constants.{uses_of}
use Rattle.je_typing.specs.Conversions.{span_of, token_of}
use Rattle.je_typing.specs.Judged.{bind, gives}
use Rattle.je_typing.specs.Typed.{TypedNode}
use Rattle.call_typing.specs.Creations.{is_enum_in}
use Rattle.name_typing.specs.Program.{Program}
use Rattle.statement_steps.specs.Switches.{LabelsDone, Met, WrittenLabel, case, default, is_selector, label_number, labels_from, next_label, none_met, selector, with_label}
use Rattle.body_typing.specs.Expressions.{Known, expression, read, value}
use Rattle.body_typing.specs.FinalVariables.{Scope}
use Rattle.body_typing.specs.Bodies as walk
use Rattle.body_typing.specs.Bodies.{Progress}
use Rattle.body_typing.specs.Statements.{GroupsDone, last_byte, switch_judged}
use Rattle.body_typing.specs.Switches.{LabelsMet, WrittenGroup, behind_label, constant_place, constants_of, core_group, enum_of, groups_from, label_value, labels, ordinal_place, place_node, selected_by}
use Rattle.statement_steps.specs.Returns.{Returning}
use Rattle.typing_laws.specs.Fitting.{FitsAs, Gives, stands_once, with_texts}
use Rattle.typing_laws.proofs.Nodes.{erased-plain}
use Rattle.fitting_laws.specs.Methods.{HasMethods}
use Rattle.fitting_laws.specs.Represented.{Represents}
use Rattle.fitting_laws.proofs.Gives.{behind, behind-check, behind-need}
use Rattle.fitting_laws.proofs.Instances.{class-itself, erased-class-type, field-fits}
use Rattle.body_laws.specs.Bodies.{BodyStands, IsInBody, KeepsPlace}
use Rattle.body_laws.specs.Fitting.{EachFits, none_fits, one_fits}
use Rattle.body_laws.specs.Written.{IsWritten, LabelsAreWritten}
use Rattle.body_laws.proofs.Grows.{Knows}
use Rattle.body_laws.proofs.Typed.{Grown, before, grows-met, grows-not, on}
use Rattle.body_laws.proofs.Steps.{Single}
use Rattle.body_laws.proofs.Values.{Used, valued-fits}

pub parts-fit : {q : CoreProgram} {body : Body} {j : Targets} {cs : List CoreStmt} → EachFits q body j cs → (texts : List (List ℕ)) → throughout_all (stands_once texts) (λ f. true) (core_stmts cs) ≡ true → fits.StatementsFit (with_texts q texts) body j (core_stmts cs)
parts-fit none_fits texts h = fits.no_statements
parts-fit (one_fits {c = c} f fs) texts h = let s = two {a = every_expression (stands_once texts) c} h in fits.more_statements (f texts s.0) (parts-fit fs texts s.1)

module _ (q : CoreProgram) (body : Body) (heads : List ClassHead) where
  -- ---- labels

  -- what a label names as a constant is there
  abbrev pub LabelStands : WrittenLabel → Type 0
  LabelStands (case span t) = are_there q (uses_of t.node)
  LabelStands (default span) = Unit {0}

  pub data LabelsStand : List WrittenLabel → Type 0 where
    no_label : LabelsStand []
    one_label : {l : WrittenLabel} {ls : List WrittenLabel} → LabelStands l → LabelsStand ls → LabelsStand (l ∷ ls)

  abbrev LabelThere : CoreLabel → Type 0
  LabelThere l = are_there q l.uses

  next-there : (t : SourceType) (met : Met) (l : WrittenLabel) → LabelStands l → Gives LabelThere (next_label heads t met l)
  unfolding next_label
  next-there t met (case span from) h = behind-need LabelThere BadCase span (label_number heads t from) _ (λ n e. behind-check LabelThere BadCase span _ (gives (record { value = Some n; uses = uses_of from.node; span = span })) (λ _. h))
  next-there t met (default span) h = behind-check LabelThere BadCase span _ (gives (record { value = None; uses = []; span = span })) (λ _. All-nil _)

  labels-there : (t : SourceType) (done : LabelsDone) (ls : List WrittenLabel) → All LabelThere done.labels → LabelsStand ls → Gives (λ d. All LabelThere d.labels) (labels_from heads t done ls)
  labels-there t done _ a no_label = a
  labels-there t done _ a (one_label {l = l} {ls = ls} h hs) = behind LabelThere (λ d. All LabelThere d.labels) (next_label heads t done.met l) (λ label. labels_from heads t (with_label done label) ls) (next-there t done.met l h)
      (λ label there. labels-there t (with_label done label) ls (All-append LabelThere done.labels (label ∷ []) a (All-cons LabelThere label [] there (All-nil _))) hs)

  -- ---- groups

  pub record GroupFits (j : Targets) (g : WrittenGroup) : Type 0 where
    pub labels : LabelsStand g.labels
    pub parts : EachFits q body j g.parts

  pub data EachGroup (j : Targets) : List WrittenGroup → Type 0 where
    no_group : EachGroup j []
    one_group : {g : WrittenGroup} {gs : List WrittenGroup} → GroupFits j g → EachGroup j gs → EachGroup j (g ∷ gs)

  abbrev pub GroupsFitAs : Targets → CoreGroups → Type 0
  GroupsFitAs j gs = (texts : List (List ℕ)) → throughout_groups (stands_once texts) (λ f. true) gs ≡ true → fits.GroupsFit (with_texts q texts) body j gs

  one-more : (j : Targets) (g : WrittenGroup) (done : LabelsDone) (rest : CoreGroups) → GroupFits j g → All LabelThere done.labels → GroupsFitAs j rest → GroupsFitAs j (core.more_groups (core_group done g) rest)
  one-more j g done rest f a r texts h = let s = two {a = throughout_all (stands_once texts) (λ f. true) (core_stmts g.parts)} h in fits.one_more_group a (parts-fit f.parts texts s.0) (r texts s.1)

  groups-fit : (j : Targets) (t : SourceType) (met : Met) (gs : List WrittenGroup) → EachGroup j gs → Gives (GroupsFitAs j) (groups_from heads t met gs)
  groups-fit j t met _ no_group = λ texts h. fits.no_more_groups
  groups-fit j t met _ (one_group {g = g} {gs = gs} f fs) = behind (λ d. All LabelThere d.labels) (GroupsFitAs j) (labels_from heads t (record { labels = []; met = met }) g.labels) _ (labels-there t (record { labels = []; met = met }) g.labels (All-nil _) f.labels)
      (λ done a. behind (GroupsFitAs j) (GroupsFitAs j) (groups_from heads t done.met gs) _ (groups-fit j t done.met gs fs) (λ rest r. one-more j g done rest f a r))

  -- ---- the selector

  selector-erased : (t : SourceType) → is_selector t ≡ true → fits.is_selector (erased heads t) ≡ true
  selector-erased (plain base.Int zero) h = ap fits.is_selector (erased-plain heads base.Int)
  selector-erased (plain base.Char zero) h = ap fits.is_selector (erased-plain heads base.Char)
  selector-erased (plain base.Short zero) h = ap fits.is_selector (erased-plain heads base.Short)
  selector-erased (plain base.Byte zero) h = ap fits.is_selector (erased-plain heads base.Byte)
  selector-erased (plain base.Bool zero) h = absurd cc
  selector-erased (plain base.Long zero) h = absurd cc
  selector-erased (plain base.Null zero) h = absurd cc
  selector-erased (plain base.Void zero) h = absurd cc
  selector-erased (plain (base.Class c) zero) h = absurd cc
  selector-erased (plain b (suc n)) h = absurd cc
  selector-erased (of_class c ts n) h = absurd cc
  selector-erased (of_variable c at n) h = absurd cc

module _ (p : Program) (k : Known) (returning : Returning) (q : CoreProgram) (body : Body) where
  pub switch-fits : (j : Targets) (word span : Span) (e : Expression) (by : TypedNode) (gs : GroupsDone) → FitsAs q body p.heads by → All (λ n. n < length body.locals) gs.numbers → EachGroup q body p.heads (in_switch j) gs.groups
      → Gives (Single q body j) (switch_judged p k returning word span e by gs)
  unfolding selector
  switch-fits j word span e by gs f numbers each = behind-check (Single q body j) BadCase (written.span_of e) (is_selector by.type)
      (bind (groups_from p.heads by.type none_met gs.groups) (λ groups. gives (stmt (core.Switch gs.numbers by.node groups) word (last_byte span))))
      (λ h. behind (GroupsFitAs q body p.heads (in_switch j)) (Single q body j) (groups_from p.heads by.type none_met gs.groups) (λ groups. gives (stmt (core.Switch gs.numbers by.node groups) word (last_byte span)))
      (groups-fit q body p.heads (in_switch j) by.type none_met gs.groups each)
      (λ groups g. ((λ texts x. let s = two {a = every (stands_once texts) by.node} x in fits.switch numbers (f.node texts s.0) (ap fits.is_selector f.type ∙ selector-erased q body p.heads by.type h) (g texts s.1)), refl)))

-- ---- the value that is selected by

data IsEnum (heads : List ClassHead) : SourceType → ℕ → Type 0 where
  is_enum : {c : ℕ} {args : SourceTypes} → is_enum_in (head_at heads c) ≡ true → IsEnum heads (of_class c args 0) c

enum-is : (heads : List ClassHead) (t : SourceType) (c : ℕ) → enum_of heads t ≡ Some c → IsEnum heads t c
enum-is heads (of_class d args zero) c = bool_cases (λ b. is_enum_in (head_at heads d) ≡ b → (if b then Some d else None) ≡ Some c → IsEnum heads (of_class d args 0) c) (is_enum_in (head_at heads d))
    (λ _ h e. subst (IsEnum heads (of_class d args 0)) (ap (λ (o : Option ℕ). number_or o) e) (is_enum h)) (λ _ h e. absurd (none-some c e)) refl
  where
    number_or : Option ℕ → ℕ
    number_or (Some x) = x
    number_or None = d
enum-is heads (of_class d args (suc n)) c = λ e. absurd (none-some c e)
enum-is heads (plain b n) c = λ e. absurd (none-some c e)
enum-is heads (of_variable d at n) c = λ e. absurd (none-some c e)

module _ (p : Program) (k : Known) (q : CoreProgram) (body : Body) (first : Scope) (met : List walk.Met) (represents : Represents p q) (has : HasMethods p q) (known : BodyStands p k q body first met) where
  abbrev Value : TypedNode → Type 0
  Value t = FitsAs q body p.heads t

  placed : (t : TypedNode) (u : SourceType) (c : ℕ) → ty_of t.node ≡ erased p.heads u → IsEnum p.heads u c → Value t → Value (selected_by (Some c) t)
  placed t _ c own (is_enum {args = args} h) f =
      let kept : KeepsPlace q c = known.enums c h in
      let below : is_subtype q (ty_of t.node) (class_type (class_numbered c)) ≡ true = ap (λ (u : Ty). is_subtype q u (class_type (class_numbered c))) (own ∙ erased-class-type q p.heads represents.heads c args) ∙ class-itself q (class_numbered c) in
      let n = field-fits q body t.node (class_numbered c) ordinal_place kept.field (of base.Int) (span_of t.node) (token_of t.node) f.node below kept.there kept.own kept.type in
      record { node = n.node; uses = n.uses; type = sym (erased-plain p.heads base.Int) }

  pub selected : (t : TypedNode) (o : Option ℕ) → enum_of p.heads t.type ≡ o → Value t → Value (selected_by o t)
  selected t None e f = f
  selected t (Some c) e f = placed t t.type c f.type (enum-is p.heads t.type c e) f

  -- ---- the labels that are written

  abbrev pub LabelsClaim : Scope → Progress → LabelsMet → Type 0
  LabelsClaim s pr l = Grown q body met (IsInBody p k q body first s) pr l.progress × (Knows body met l.progress → IsInBody p k q body first s → LabelsStand q body p.heads l.labels)

  place-uses : (span : Span) (o : Option ℕ) → are_there q (uses_of (place_node span o).node)
  place-uses span None = All-nil _
  place-uses span (Some n) = All-nil _

  label-uses : (o : Option ℕ) (s : Scope) (e : Expression) (pr : Progress) → IsWritten e → Gives (λ t. Grown q body met (IsInBody p k q body first s) pr (behind_label p k o s o e pr) × (Knows body met (behind_label p k o s o e pr) → IsInBody p k q body first s → are_there q (uses_of t.node))) (label_value p k o s o e)
  label-uses None s e pr lengths = Rattle.fitting_laws.proofs.Gives.weaker (λ t. Knows body met (walk.behind p s e pr) × IsInBody p k q body first s → Used p k q body first met represents has known t) _ (value (expression p k s read e)) (valued-fits p k q body first met represents has known s e pr lengths)
      (λ t f. (grows-met _ pr, λ knows h. (f (knows, h)).0.fits.uses))
  label-uses (Some c) s e pr lengths = (grows-not pr, λ knows h. place-uses (written.span_of e) (constant_place (constants_of p c) e))

  pub labels-fit : (o : Option ℕ) (s : Scope) (pr : Progress) (ls : Labels) → LabelsAreWritten ls → Gives (LabelsClaim s pr) (labels p k o s pr ls)
  labels-fit o s pr tree.no_labels lengths = (grows-not pr, λ knows h. no_label)
  labels-fit o s pr (tree.case_label e ls) lengths = behind (λ t. Grown q body met (IsInBody p k q body first s) pr (behind_label p k o s o e pr) × (Knows body met (behind_label p k o s o e pr) → IsInBody p k q body first s → are_there q (uses_of t.node))) (LabelsClaim s pr) (label_value p k o s o e) _ (label-uses o s e pr lengths.0)
      (λ t one. behind (LabelsClaim s (behind_label p k o s o e pr)) (LabelsClaim s pr) (labels p k o s (behind_label p k o s o e pr) ls) _ (labels-fit o s (behind_label p k o s o e pr) ls lengths.1)
      (λ rest more. (on one.0 more.0, λ knows h. one_label (one.1 (before more.0 knows) h) (more.1 knows h))))
  labels-fit o s pr (tree.default_label word ls) lengths = behind (LabelsClaim s pr) (LabelsClaim s pr) (labels p k o s pr ls) _ (labels-fit o s pr ls lengths) (λ rest more. (more.0, λ knows h. one_label tt (more.1 knows h)))
